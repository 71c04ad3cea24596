-- The run that was served, read by who waited.
use Rattle.std.proofs.Common.{Result, Ok, Err, map}
use Rattle.std.specs.Prelude.{IfOk}
use Rattle.vhost_protocol.specs.Error.{seen_result}
use Rattle.vhost_backend_req_handler.specs.Core.{endpoint_of, session_in}
use Rattle.vhost_backend_req_handler.specs.Opening.{OpensAsBackend, OpensAsGpu}
use Rattle.vhost_backend_req_handler.specs.Serving.{fitting}
use Rattle.vhost_promises.proofs.Waiting.{all-answered}
use Rattle.vhost_promises.proofs.runs.answers_whoever_waits.Goals as goal
use Rattle.vhost_device.specs.Reached.{by_trait}

if-ok : {A E : Type 0} {P Q : A → Type 0} (r : Result A E) → ((a : A) → P a → Q a) → IfOk r P → IfOk r Q
if-ok (Ok a) so p = so a p
if-ok (Err e) so p = tt

pub returns : goal.returns
returns g c = if-ok c.serves_whole.result (λ answers whole sound standard.
    let w = whole sound in
    record {
      move = w.1.move;
      talks = w.1.talks;
      failures = w.1.failures;
      all = all-answered (fitting (by_trait g.D.VhostUserBackendReqHandlerMut.gives)) (λ h o. OpensAsBackend g.L.Link.opens g.L.Handle.Handle.kinds (endpoint_of c.args.core.now).budget h o) (λ h o. OpensAsGpu g.L.Link.opens g.L.Handle.Handle.kinds (endpoint_of c.args.core.now).budget h o)
          (map (λ a. seen_result a) answers.items) (session_in c.args.core.now) (session_in c.serves_whole.new.core) c.args.device.now c.serves_whole.new.device w.1.move.handed w.1.move.taken standard w.1.run;
      as_many = w.0;
    }) c.serves_whole.ensures
