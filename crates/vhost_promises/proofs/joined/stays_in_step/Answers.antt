-- The answers of calls of sides that are in step.
use Rattle.std.proofs.Common.{◌≡◌, ◌++◌, inl, sym, ap, subst, ◌∙◌}
use Rattle.vhost_joined.specs.Lockstep.{AreOffered, Lockstep}
use Rattle.vhost_promises.proofs.joined.stays_in_step.Goals as goal
use Rattle.vhost_device.specs.Reached.{by_trait}

pub returns : goal.returns
returns g c bit offers ready running plain =
    let same : c.run-ended.ensures.answers ≡ c.run-ended.new.out.items = sym (c.run-ended.ensures.appended ∙ ap (λ xs. xs ++ c.run-ended.ensures.answers) c.new-answers.ensures.items) in
    subst (λ xs. Lockstep (by_trait g.D.VhostUserBackendReqHandlerMut.gives) bit c.args.joined.now c.args.calls.now xs c.run-ended.new.self) same (c.run-ended.ensures.lockstep bit (inl (subst (λ xs. AreOffered bit c.args.calls.now xs) (sym same) offers)) ready running plain)
