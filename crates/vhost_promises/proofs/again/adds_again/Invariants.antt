-- So many calls succeeded, and the list of handles stays.
use Rattle.std.specs.Prelude.{◌≡◌, true}
use Rattle.vhost_protocol.specs.Reverse.{SharedObjectAdd}
use Rattle.vhost_backend_req.specs.Asking.{AsksCall}
use Rattle.vhost_backend_req.specs.Channel.{channel}
use Rattle.vhost_promises.specs.Again.{Succeeds}
use Rattle.vhost_promises.proofs.again.adds_again.Given as goal

abbrev pub invariant-calls : goal.invariant-calls
invariant-calls g l = record {
  made : Succeeds (AsksCall g.L.Link.event (SharedObjectAdd l.fn.name)) (channel l.fn.frontend) l.counter (channel l.frontend);
  listed : (channel l.fn.frontend).endpoint.list ≡ true → (channel l.frontend).endpoint.list ≡ true;
}
