-- Both sides joined, from two new ones of a profile.
use Rattle.std.proofs.Common.{◌++◌, inr, ap, sym, ◌∙◌}
use Rattle.vhost_headline.proofs.Joining.{in-step, of_profile}
use Rattle.vhost_headline.proofs.headline.lockstep.Goals as goal
use Rattle.vhost_device.specs.Reached.{by_trait}

pub returns : goal.returns
returns g c bit offers plain going =
    in-step (by_trait g.D.VhostUserBackendReqHandlerMut.gives) bit c.args.profile c.args.queues c.args.retries c.args.device c.args.scripts.0.items c.args.scripts.1.items _ c.run.new.self c.args.calls.now c.run.ensures.answers c.run.new.out.items
    (c.set_profile.ensures.profile ∙ ap (λ v. of_profile c.args.profile v) c.in_ok-joined.ensures.fresh) (sym (c.run.ensures.appended ∙ ap (λ xs. xs ++ c.run.ensures.answers) c.new-answers.ensures.items))
    (c.run.ensures.lockstep bit (inr offers) (c.set_profile.ensures.ready bit (c.in_ok-joined.ensures.ready bit)) (ap (λ v. v.stopped) (c.set_profile.ensures.profile ∙ ap (λ v. of_profile c.args.profile v) c.in_ok-joined.ensures.fresh)) plain) going
