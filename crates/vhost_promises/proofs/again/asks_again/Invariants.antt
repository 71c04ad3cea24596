-- So many calls succeeded, and the list of handles stays.
use Rattle.std.specs.Prelude.{◌≡◌, true}
use Rattle.vhost_protocol.specs.FrontendCall.{GetFeatures, Number}
use Rattle.vhost_frontend.specs.Whole.{Whole}
use Rattle.vhost_frontend_core.specs.Frontend.{endpoint_of}
use Rattle.vhost_promises.specs.Again.{Succeeds}
use Rattle.vhost_promises.proofs.again.asks_again.Given as goal

abbrev pub invariant-calls : goal.invariant-calls
invariant-calls g l = record {
  made : Succeeds (Whole g.L.Link.event GetFeatures Number) l.fn.frontend.inner l.counter l.frontend.inner;
  listed : (endpoint_of l.fn.frontend.inner).list ≡ true → (endpoint_of l.frontend.inner).list ≡ true;
}
