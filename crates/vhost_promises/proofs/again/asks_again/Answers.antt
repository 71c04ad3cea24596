-- Each call finds the list that the one before left.
use Rattle.std.proofs.Common.{subst, arith}
use Rattle.vhost_protocol.specs.FrontendCall.{GetFeatures, Number}
use Rattle.vhost_frontend.specs.Whole.{Whole}
use Rattle.vhost_promises.specs.Again.{Succeeds}
use Rattle.vhost_promises.specs.Again.Succeeds.{none, more}
use Rattle.vhost_promises.specs.Again.Repeats.{all, failed}
use Rattle.vhost_promises.proofs.ListedRead.{asks-listed, asks-without-memory}
use Rattle.vhost_promises.proofs.again.asks_again.Goals as goal

pub calls-init : goal.calls-init
calls-init g c = record { made = none; listed = λ is. is }

pub calls-preserved : goal.calls-preserved
calls-preserved g c = record {
  made = more c.calls.invariant.made c.in-Ok.ensures;
  listed = λ _. asks-listed g.L.Link.event c.in-Ok.field-0 c.calls.frontend.inner c.number.new.self.inner c.in-Ok.ensures;
}

pub returns-clause-made : goal.returns-clause-made
returns-clause-made g c = all (subst (λ n. Succeeds (Whole g.L.Link.event GetFeatures Number) c.args.frontend.now.inner n c.calls.frontend.inner) (omega (arith, c.calls-test.false, c.calls.auto.counter-end)) c.calls.invariant.made)

pub returns-in-Err-clause-made : goal.returns-in-Err-clause-made
returns-in-Err-clause-made g c = failed c.calls-test.true c.calls.invariant.made c.in-Err.ensures

pub returns-in-Err-clause-listed : goal.returns-in-Err-clause-listed
returns-in-Err-clause-listed g c listed is = asks-without-memory g.L.Link.event c.in-Err.error c.calls.frontend.inner c.number.new.self.inner c.in-Err.ensures (c.calls.invariant.listed listed) is
