-- It was owned so often.
use Rattle.std.proofs.Common.{◌++◌, ℕ, List}
use Rattle.vhost_protocol.specs.Stream.{Cell}
use Rattle.vhost_protocol.specs.declared.profile.Profile.{Profile}
use Rattle.vhost_link.specs.declared.plain.PlainHandle.{PlainHandle}
use Rattle.vhost_c_frontend.specs.Clients.{IsOwning, owns}
use Rattle.vhost_c_frontend.proofs.clients.own_all.Given as goal

abbrev pub invariant-owns : goal.invariant-owns
invariant-owns l = record {
  owning : (queues : ℕ) (profile : Profile) (cells : List (Cell PlainHandle)) → IsOwning queues profile cells l.fn.session → IsOwning queues profile (cells ++ owns l.counter) l.session;
}
