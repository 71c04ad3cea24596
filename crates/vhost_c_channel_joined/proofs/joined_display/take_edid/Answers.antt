-- The record was written to a place of its size.
use Rattle.std.proofs.Common.{refl, sym, subst}
use Rattle.vhost_gpu_message.specs.Replies.{edid_of, edid_text}
use Rattle.vhost_protocol.specs.Gpu.{TheEdid}
use Rattle.vhost_c_channel_joined.specs.JoinedDisplay.{Takes}
use Rattle.vhost_c_channel_joined.specs.declared.joined_display.DisplayAnswer.TheVariants.{Edid}
use Rattle.vhost_c_channel_joined.proofs.Replying.{placed-so, refuses}
use Rattle.vhost_c_channel_joined.proofs.joined_display.take_edid.Goals as goal

pub returns-in-Ok : goal.returns-in-Ok
returns-in-Ok c sent reply awaited h = placed-so sent reply c.args.session.now c.take_edid.new.self h TheEdid awaited edid_of edid_text Edid (λ bs. refl) _ c.take_edid.new.place refl _ c.in-Ok.ensures

pub returns-in-Err : goal.returns-in-Err
returns-in-Err c sent reply awaited h =
    subst (λ x. Takes sent reply x c.take_edid.new.self) (sym c.of_refusal.ensures)
    (refuses sent reply c.in-Err.refusal c.take_edid.new.self (placed-so sent reply c.args.session.now c.take_edid.new.self h TheEdid awaited edid_of edid_text Edid (λ bs. refl) _ c.take_edid.new.place refl _ c.in-Err.ensures))
