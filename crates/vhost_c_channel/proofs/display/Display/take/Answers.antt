use Rattle.std.proofs.Common.{refl, Ok, Err, sym, ◌∙◌}
use Rattle.vhost_protocol.specs.Gpu.{TheEmpty}
use Rattle.vhost_c_channel.specs.Display.{not_awaited, takes}
use Rattle.vhost_c_channel.proofs.Displays.{awaits-none, awaits-some, takes-another}
use Rattle.vhost_c_channel.proofs.display.Display.take.Goals as goal

pub returns-then-awaits_none : goal.returns-then-awaits_none
returns-then-awaits_none c = not_awaited (awaits-none _ (sym c.awaits_none.ensures ∙ c.if-awaits_none.true)) refl refl (record { asked = refl; mark = refl; held = refl })

pub returns-in-Ok : goal.returns-in-Ok
returns-in-Ok c = takes (awaits-some _ (sym c.awaits_none.ensures ∙ c.if-awaits_none.false)) (takes-another (λ e. tt) TheEmpty (λ bs. record {}) _ _ (Ok c.in-Ok.field-0) (c.in-Ok.ensures TheEmpty refl (λ bs. refl)))

pub returns-in-Err : goal.returns-in-Err
returns-in-Err c = takes (awaits-some _ (sym c.awaits_none.ensures ∙ c.if-awaits_none.false)) (takes-another (λ e. tt) TheEmpty (λ bs. record {}) _ _ (Err c.in-Err.refusal) (c.in-Err.ensures TheEmpty refl (λ bs. refl)))
