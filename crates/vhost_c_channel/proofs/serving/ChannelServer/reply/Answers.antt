use Rattle.std.proofs.Common.{Ok, Err, refl, sym, ap, ◌∙◌}
use Rattle.std.specs.Prelude.{if◌then◌else◌}
use Rattle.vhost_c_common.specs.declared.refusal.Refusal.TheVariants.{Protocol}
use Rattle.vhost_c_channel.specs.Serving.{told}
use Rattle.vhost_c_channel.proofs.Requests.{answers}
use Rattle.vhost_c_channel.proofs.serving.ChannelServer.reply.Goals as goal

pub returns-in-Ok : goal.returns-in-Ok
returns-in-Ok c = answers c.talks_law.ensures.talks _ c.args.self.now _ c.conclude.result _ c.conclude.ensures.concluded refl refl (sym (ap told c.in-Ok.is)) c.conclude.ensures.none (sym c.has_call.ensures ∙ c.if-not-has_call.false) c.release.ensures c.conclude.ensures.fits

pub returns-then-is_handed_on : goal.returns-then-is_handed_on
returns-then-is_handed_on c = answers c.talks_law.ensures.talks _ c.args.self.now _ c.conclude.result _ c.conclude.ensures.concluded refl refl
    (sym (ap told c.in-Err.is ∙ ap (λ b. if b then Ok tt else Err (Protocol c.in-Err.error)) (sym c.is_handed_on.ensures ∙ c.if-is_handed_on.true))) c.conclude.ensures.none (sym c.has_call.ensures ∙ c.if-not-has_call.false) c.release.ensures c.conclude.ensures.fits

pub returns-else-is_handed_on : goal.returns-else-is_handed_on
returns-else-is_handed_on c = answers c.talks_law.ensures.talks _ c.args.self.now _ c.conclude.result _ c.conclude.ensures.concluded refl refl
    (sym (ap told c.in-Err.is ∙ ap (λ b. if b then Ok tt else Err (Protocol c.in-Err.error)) (sym c.is_handed_on.ensures ∙ c.if-is_handed_on.false))) c.conclude.ensures.none (sym c.has_call.ensures ∙ c.if-not-has_call.false) c.release.ensures c.conclude.ensures.fits
