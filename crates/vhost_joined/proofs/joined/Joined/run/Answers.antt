use Rattle.std.proofs.Common.{◌∙◌, sym, subst, arith, take, [], Ok, Err, ◌+◌}
use Rattle.std.proofs.lemmas.List.{take_all}
use Rattle.vhost_joined.proofs.Lockstep.{stay, stay-none}
use Rattle.vhost_joined.proofs.Running.{Ran, ran-none, runs-none, ran-all, ran-one, ran-to, found}
use Rattle.vhost_joined.specs.declared.halt.Halt.TheVariants.{OutOfMemory}
use Rattle.vhost_joined.specs.Joined.{StepsBy}
use Rattle.vhost_joined.specs.Lockstep.{RunsCalls, StayInLockstep}
use Rattle.vhost_joined.proofs.joined.Joined.run.Goals as goal
use Rattle.vhost_device.specs.Reached.{by_trait}

pub loop-call-init : goal.loop-call-init
loop-call-init g c = record {
  ran = subst (λ xs. Ran (StepsBy (by_trait g.D.VhostUserBackendReqHandlerMut.gives)) c.args.self.now [] c.args.out.now.items xs c.args.self.now) (sym c.reserve.ensures.items) (ran-none (StepsBy (by_trait g.D.VhostUserBackendReqHandlerMut.gives)) c.args.self.now c.args.out.now.items);
  room = let room = found c.reserve.result _ (sym c.is_err.ensures.value ∙ c.if-is_err.false) c.reserve.ensures.ok in omega (arith, room);
}

pub loop-call-preserved : goal.loop-call-preserved
loop-call-preserved g c = record {
  ran = subst (λ xs. Ran (StepsBy (by_trait g.D.VhostUserBackendReqHandlerMut.gives)) c.args.self.now (take (c.loop-call.call-index + 1) c.args.calls.now) c.args.out.now.items xs c.step.new.self) (sym c.push_reserved.ensures.items)
      (ran-one (StepsBy (by_trait g.D.VhostUserBackendReqHandlerMut.gives)) c.args.calls.now c.loop-call.call-index c.call-item.result c.loop-call-test.true c.args.self.now c.loop-call.self c.step.new.self c.args.out.now.items c.loop-call.out.items c.in_ok-answer.answer c.loop-call.invariant.ran
      (subst (λ call. StepsBy (by_trait g.D.VhostUserBackendReqHandlerMut.gives) c.loop-call.self call (Ok c.in_ok-answer.answer) c.step.new.self) c.call-item.is c.in_ok-answer.ensures.step));
  room = omega (arith, c.loop-call.invariant.room, c.push_reserved.ensures.len, c.push_reserved.ensures.capacity, c.loop-call-test.true);
}

pub returns-in_err-answer : goal.returns-in_err-answer
returns-in_err-answer g c =
    ran-to (StepsBy (by_trait g.D.VhostUserBackendReqHandlerMut.gives)) (StayInLockstep (by_trait g.D.VhostUserBackendReqHandlerMut.gives)) (stay (by_trait g.D.VhostUserBackendReqHandlerMut.gives)) c.args.calls.now c.loop-call.call-index c.call-item.result c.loop-call-test.true c.args.self.now c.loop-call.self c.step.new.self c.args.out.now.items c.loop-call.out.items c.from_residual.result c.in_err-answer.field-0.0 c.from_residual.ensures.1 c.loop-call.invariant.ran
    (subst (λ call. StepsBy (by_trait g.D.VhostUserBackendReqHandlerMut.gives) c.loop-call.self call (Err c.in_err-answer.field-0.0) c.step.new.self) c.call-item.is c.in_err-answer.ensures.step)

pub returns : goal.returns
returns g c =
    subst (λ cs. RunsCalls (by_trait g.D.VhostUserBackendReqHandlerMut.gives) c.args.self.now cs c.args.out.now.items (Ok tt) c.loop-call.out.items c.loop-call.self) (take_all c.loop-call.call-index c.args.calls.now c.loop-call-test.false)
    (ran-all (StepsBy (by_trait g.D.VhostUserBackendReqHandlerMut.gives)) (StayInLockstep (by_trait g.D.VhostUserBackendReqHandlerMut.gives)) (stay (by_trait g.D.VhostUserBackendReqHandlerMut.gives)) c.args.self.now c.loop-call.self (take c.loop-call.call-index c.args.calls.now) c.args.out.now.items c.loop-call.out.items c.loop-call.invariant.ran)

pub returns-then-is_err : goal.returns-then-is_err
returns-then-is_err g c = subst (λ xs. RunsCalls (by_trait g.D.VhostUserBackendReqHandlerMut.gives) c.args.self.now c.args.calls.now c.args.out.now.items (Err OutOfMemory) xs c.args.self.now) (sym c.reserve.ensures.items)
    (runs-none (StepsBy (by_trait g.D.VhostUserBackendReqHandlerMut.gives)) (StayInLockstep (by_trait g.D.VhostUserBackendReqHandlerMut.gives)) c.args.self.now c.args.calls.now c.args.out.now.items (stay-none (by_trait g.D.VhostUserBackendReqHandlerMut.gives) c.args.self.now c.args.calls.now))
