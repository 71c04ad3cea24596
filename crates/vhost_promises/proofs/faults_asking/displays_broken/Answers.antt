-- One more call, and then all of them.
use Rattle.std.proofs.Common.{subst, arith}
use Rattle.vhost_gpu_backend_req.specs.Channel.{channel}
use Rattle.vhost_message.specs.Records.{u64_at}
use Rattle.vhost_promises.proofs.FaultingAsked.{DisplaysBroken, displays-none, displays-more}
use Rattle.vhost_promises.proofs.faults_asking.displays_broken.Goals as goal

pub calls-init : goal.calls-init
calls-init g c = record { stays = displays-none g.L.Link.event (λ bs. record { value = u64_at 0 bs }) (channel c.args.display.now) _ c.new-answers.ensures.items }

pub calls-preserved : goal.calls-preserved
calls-preserved g c = record { stays = displays-more g.L.Link.event (λ bs. record { value = u64_at 0 bs }) (channel c.args.display.now) (channel c.calls.display) (channel c.get_protocol_features-answer.new.self) c.calls.counter c.calls.answers.items _ c.get_protocol_features-answer.result c.calls.invariant.stays c.get_protocol_features-answer.ensures c.in_ok-push.ensures.items }

pub returns : goal.returns
returns g c = subst (λ n. DisplaysBroken g.L.Link.event (λ bs. record { value = u64_at 0 bs }) (channel c.args.display.now) n c.calls.answers.items (channel c.calls.display)) (omega (arith, c.calls-test.false, c.calls.auto.counter-end)) c.calls.invariant.stays
