-- One more call, and then all of them.
use Rattle.std.proofs.Common.{subst, arith}
use Rattle.vhost_promises.proofs.FaultingAsked.{ReadsBroken, reads-none, reads-more}
use Rattle.vhost_promises.proofs.faults_asking.asks_broken.Goals as goal

pub calls-init : goal.calls-init
calls-init g c = record { stays = reads-none g.L.Link.event c.args.frontend.now.inner _ c.new-answers.ensures.items }

pub calls-preserved : goal.calls-preserved
calls-preserved g c = record { stays = reads-more g.L.Link.event c.args.frontend.now.inner c.calls.frontend.inner c.number-answer.new.self.inner c.calls.counter c.calls.answers.items _ c.number-answer.result c.calls.invariant.stays c.number-answer.ensures c.in_ok-push.ensures.items }

pub returns : goal.returns
returns g c = subst (λ n. ReadsBroken g.L.Link.event c.args.frontend.now.inner n c.calls.answers.items c.calls.frontend.inner) (omega (arith, c.calls-test.false, c.calls.auto.counter-end)) c.calls.invariant.stays
