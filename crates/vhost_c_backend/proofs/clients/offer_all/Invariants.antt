-- They were offered so often.
use Rattle.std.proofs.Common.{◌++◌, List}
use Rattle.vhost_protocol.specs.Stream.{Cell}
use Rattle.vhost_link.specs.declared.plain.PlainHandle.{PlainHandle}
use Rattle.vhost_c_backend.specs.Clients.{IsOffering, offers}
use Rattle.vhost_c_backend.proofs.clients.offer_all.Given as goal

abbrev pub invariant-offers : goal.invariant-offers
invariant-offers l = record {
  offering : (cells : List (Cell PlainHandle)) → IsOffering cells l.fn.served → IsOffering (cells ++ offers l.features l.counter) l.served;
}
