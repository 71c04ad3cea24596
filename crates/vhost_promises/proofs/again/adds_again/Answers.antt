-- Each call finds the list that the one before left.
use Rattle.std.proofs.Common.{subst, arith}
use Rattle.vhost_protocol.specs.Reverse.{SharedObjectAdd}
use Rattle.vhost_backend_req.specs.Asking.{AsksCall}
use Rattle.vhost_backend_req.specs.Channel.{channel}
use Rattle.vhost_promises.specs.Again.{Succeeds}
use Rattle.vhost_promises.specs.Again.Succeeds.{none, more}
use Rattle.vhost_promises.specs.Again.Repeats.{all, failed}
use Rattle.vhost_promises.proofs.Listed.{adds-listed, adds-without-memory}
use Rattle.vhost_promises.proofs.again.adds_again.Goals as goal

pub calls-init : goal.calls-init
calls-init g c = record { made = none; listed = λ is. is }

pub calls-preserved : goal.calls-preserved
calls-preserved g c = record {
  made = more c.calls.invariant.made c.in-Ok.ensures;
  listed = λ _. adds-listed g.L.Link.event c.args.name.now c.in-Ok.field-0 (channel c.calls.frontend) (channel c.shared_object_add.new.self) c.in-Ok.ensures;
}

pub returns-clause-made : goal.returns-clause-made
returns-clause-made g c = all (subst (λ n. Succeeds (AsksCall g.L.Link.event (SharedObjectAdd c.args.name.now)) (channel c.args.frontend.now) n (channel c.calls.frontend)) (omega (arith, c.calls-test.false, c.calls.auto.counter-end)) c.calls.invariant.made)

pub returns-in-Err-clause-made : goal.returns-in-Err-clause-made
returns-in-Err-clause-made g c = failed c.calls-test.true c.calls.invariant.made c.in-Err.ensures

pub returns-in-Err-clause-listed : goal.returns-in-Err-clause-listed
returns-in-Err-clause-listed g c listed is = adds-without-memory g.L.Link.event c.args.name.now c.in-Err.error (channel c.calls.frontend) (channel c.shared_object_add.new.self) c.in-Err.ensures (c.calls.invariant.listed listed) is
