-- The record was written to a place of its size.
use Rattle.std.proofs.Common.{refl, sym, subst}
use Rattle.vhost_gpu_message.specs.Replies.{display_info_of, display_info_text}
use Rattle.vhost_protocol.specs.Gpu.{TheDisplayInfo}
use Rattle.vhost_c_channel_joined.specs.JoinedDisplay.{Takes}
use Rattle.vhost_c_channel_joined.specs.declared.joined_display.DisplayAnswer.TheVariants.{DisplayInfo}
use Rattle.vhost_c_channel_joined.proofs.Replying.{placed-so, refuses}
use Rattle.vhost_c_channel_joined.proofs.joined_display.take_display_info.Goals as goal

pub returns-in-Ok : goal.returns-in-Ok
returns-in-Ok c sent reply awaited h = placed-so sent reply c.args.session.now c.take_display_info.new.self h TheDisplayInfo awaited display_info_of display_info_text DisplayInfo (λ bs. refl) _ c.take_display_info.new.place refl _ c.in-Ok.ensures

pub returns-in-Err : goal.returns-in-Err
returns-in-Err c sent reply awaited h =
    subst (λ x. Takes sent reply x c.take_display_info.new.self) (sym c.of_refusal.ensures)
    (refuses sent reply c.in-Err.refusal c.take_display_info.new.self (placed-so sent reply c.args.session.now c.take_display_info.new.self h TheDisplayInfo awaited display_info_of display_info_text DisplayInfo (λ bs. refl) _ c.take_display_info.new.place refl _ c.in-Err.ensures))
