use Rattle.std.proofs.Common.{refl, Ok, Err}
use Rattle.vhost_protocol.specs.Gpu.{TheFeatures}
use Rattle.vhost_message.specs.Records.{u64_at}
use Rattle.vhost_c_channel.proofs.Displays.{takes-another}
use Rattle.vhost_c_channel.proofs.display.Display.take_number.Goals as goal

pub returns-in-Ok : goal.returns-in-Ok
returns-in-Ok c = takes-another (λ n. n.value) TheFeatures (λ bs. record { value = u64_at 0 bs }) _ _ (Ok c.in-Ok.number) (c.in-Ok.ensures TheFeatures refl (λ bs. refl))

pub returns-in-Err : goal.returns-in-Err
returns-in-Err c = takes-another (λ n. n.value) TheFeatures (λ bs. record { value = u64_at 0 bs }) _ _ (Err c.in-Err.refusal) (c.in-Err.ensures TheFeatures refl (λ bs. refl))
