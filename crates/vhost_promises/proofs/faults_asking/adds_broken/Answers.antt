-- One more call, and then all of them.
use Rattle.std.proofs.Common.{subst, arith}
use Rattle.vhost_backend_req.specs.Channel.{channel}
use Rattle.vhost_promises.proofs.FaultingAsked.{AddsBroken, adds-none, adds-more}
use Rattle.vhost_promises.proofs.faults_asking.adds_broken.Goals as goal

pub calls-init : goal.calls-init
calls-init g c = record { stays = adds-none g.L.Link.event (channel c.args.frontend.now) _ c.new-answers.ensures.items }

pub calls-preserved : goal.calls-preserved
calls-preserved g c = record { stays = adds-more g.L.Link.event (channel c.args.frontend.now) (channel c.calls.frontend) (channel c.shared_object_add-answer.new.self) c.args.name.now c.calls.counter c.calls.answers.items _ c.shared_object_add-answer.result c.calls.invariant.stays c.shared_object_add-answer.ensures c.in_ok-push.ensures.items }

pub returns : goal.returns
returns g c = subst (λ n. AddsBroken g.L.Link.event (channel c.args.frontend.now) n c.calls.answers.items (channel c.calls.frontend)) (omega (arith, c.calls-test.false, c.calls.auto.counter-end)) c.calls.invariant.stays
