use Rattle.std.proofs.Common.{◌∙◌, ◌++◌, ◌∷◌, [], sym, ap, subst}
use Rattle.vhost_frontend_core.specs.Values.{call_of}
use Rattle.vhost_protocol.specs.Log.{calls_of}
use Rattle.vhost_recorder.specs.Kept.{IsKept}
use Rattle.vhost_recorder.specs.Recording.{Appends}
use Rattle.vhost_recorder.proofs.Kept.{kept-recorded, appends-recorded, kept-halted}
use Rattle.vhost_recorder.proofs.recorded.Recorded.step.Goals as goal
use Rattle.vhost_device.specs.Reached.{by_trait}

pub invariant_of-self-in-Ok-step : goal.invariant_of-self-in-Ok-step
invariant_of-self-in-Ok-step g c =
    kept-recorded (by_trait g.D.VhostUserBackendReqHandlerMut.gives) (record { joined = c.self.inside.joined; entries = c.self.inside.log.items; queues = c.self.inside.queues }) c.args.caller c.count-serial.result (call_of c.in-Ok.prepared.kept) (call_of c.args.call.now)
    c.in-Ok-step.answer c.step.new.self c.push_reserved.new.self.items
    (c.push_reserved.ensures.items ∙ ap (λ xs. xs ++ c.new-entry.result ∷ []) c.reserve.ensures.items ∙ ap (λ e. c.self.inside.log.items ++ e ∷ []) c.new-entry.ensures)
    (c.count-serial.ensures ∙ ap (λ xs. calls_of c.args.caller xs) (c.deref.ensures.value ∙ c.reserve.ensures.items)) c.in-Ok.ensures.kept c.in-Ok-step.ensures.step c.self.invariant

pub returns-in-Ok-step : goal.returns-in-Ok-step
returns-in-Ok-step g c =
    subst (λ old. Appends (by_trait g.D.VhostUserBackendReqHandlerMut.gives) old c.args.caller (call_of c.args.call.now) c.new-entry-in-Ok-step.result (record { joined = c.step.new.self; entries = c.push_reserved.new.self.items; queues = c.self.inside.queues })) c.self.view_is
    (appends-recorded (by_trait g.D.VhostUserBackendReqHandlerMut.gives) (record { joined = c.self.inside.joined; entries = c.self.inside.log.items; queues = c.self.inside.queues }) c.args.caller c.count-serial.result (call_of c.in-Ok.prepared.kept) (call_of c.args.call.now)
    c.in-Ok-step.answer c.step.new.self c.push_reserved.new.self.items
    (c.push_reserved.ensures.items ∙ ap (λ xs. xs ++ c.new-entry.result ∷ []) c.reserve.ensures.items ∙ ap (λ e. c.self.inside.log.items ++ e ∷ []) c.new-entry.ensures)
    (c.count-serial.ensures ∙ ap (λ xs. calls_of c.args.caller xs) (c.deref.ensures.value ∙ c.reserve.ensures.items)) c.in-Ok.ensures.kept c.in-Ok-step.ensures.step
    c.new-entry-in-Ok-step.result (call_of c.in-Ok.prepared.shown) c.copy_answer-copy.result c.new-entry-in-Ok-step.ensures c.in-Ok.ensures.shown c.copy_answer-copy.ensures)

pub invariant_of-self-in-Err : goal.invariant_of-self-in-Err
invariant_of-self-in-Err g c =
    subst (λ xs. IsKept (by_trait g.D.VhostUserBackendReqHandlerMut.gives) (record { joined = c.step.new.self; entries = xs; queues = c.self.inside.queues })) (sym c.reserve.ensures.items)
    (kept-halted (by_trait g.D.VhostUserBackendReqHandlerMut.gives) (record { joined = c.self.inside.joined; entries = c.self.inside.log.items; queues = c.self.inside.queues }) (call_of c.args.call.now) c.step.new.self c.in-Err.halt c.in-Err.ensures.step c.self.invariant)

pub invariant_of-self-in-Err-2 : goal.invariant_of-self-in-Err-2
invariant_of-self-in-Err-2 g c =
    subst (λ xs. IsKept (by_trait g.D.VhostUserBackendReqHandlerMut.gives) (record { joined = c.step.new.self; entries = xs; queues = c.self.inside.queues })) (sym c.reserve.ensures.items)
    (kept-halted (by_trait g.D.VhostUserBackendReqHandlerMut.gives) (record { joined = c.self.inside.joined; entries = c.self.inside.log.items; queues = c.self.inside.queues }) (call_of c.args.call.now) c.step.new.self c.in-Err.halt c.in-Err.ensures.step c.self.invariant)
