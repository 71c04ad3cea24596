-- By the form of the reply.
use Rattle.std.proofs.Common.{Ok, Err, refl, sym, ap, subst}
use Rattle.vhost_message.specs.Records.{u64_at}
use Rattle.vhost_protocol.specs.Gpu.{TheFeatures, gpu_row}
use Rattle.vhost_gpu_backend_req.specs.Halves.{call_in}
use Rattle.vhost_gpu_backend_req.specs.declared.call.GpuCall.{GpuCall}
use Rattle.vhost_link.specs.declared.plain.PlainHandle.{PlainHandle}
use Rattle.vhost_c_channel_joined.specs.JoinedDisplay.{Takes}
use Rattle.vhost_c_channel_joined.specs.declared.joined_display.DisplayAnswer.TheVariants.{Features}
use Rattle.vhost_c_channel_joined.proofs.Replying.{awaits-empty, empty-so, refuses, takes-so}
use Rattle.vhost_c_channel_joined.proofs.joined_display.take.Goals as goal

pub returns-in-Ok : goal.returns-in-Ok
returns-in-Ok c pixels reply h =
    takes-so (gpu_row (call_in c.args.call.now pixels)) reply c.args.session.now c.take_number.new.self h TheFeatures (ap {A = GpuCall PlainHandle} (λ k. (gpu_row (call_in k pixels)).awaited) c.in-GetProtocolFeatures.is) (u64_at 0) Features (λ bs. refl) (Ok c.in-Ok.features) c.in-Ok.ensures

pub returns-in-Err : goal.returns-in-Err
returns-in-Err c pixels reply h =
    subst (λ x. Takes (gpu_row (call_in c.args.call.now pixels)) reply x c.take_number.new.self) (sym c.of_refusal.ensures)
    (refuses (gpu_row (call_in c.args.call.now pixels)) reply c.in-Err.refusal c.take_number.new.self
    (takes-so (gpu_row (call_in c.args.call.now pixels)) reply c.args.session.now c.take_number.new.self h TheFeatures (ap {A = GpuCall PlainHandle} (λ k. (gpu_row (call_in k pixels)).awaited) c.in-GetProtocolFeatures.is) (u64_at 0) Features (λ bs. refl) (Err c.in-Err.refusal) c.in-Err.ensures))

pub returns-in-Ok-take : goal.returns-in-Ok-take
returns-in-Ok-take c pixels reply h =
    empty-so (gpu_row (call_in c.args.call.now pixels)) reply c.args.session.now c.take.new.self h (awaits-empty c.args.call.now pixels c.in_default.not-GetProtocolFeatures c.in_default.not-GetDisplayInfo c.in_default.not-GetEdid) (Ok tt) c.in-Ok-take.ensures

pub returns-in-Err-take : goal.returns-in-Err-take
returns-in-Err-take c pixels reply h =
    subst (λ x. Takes (gpu_row (call_in c.args.call.now pixels)) reply x c.take.new.self) (sym c.of_refusal-in-Err-take.ensures)
    (refuses (gpu_row (call_in c.args.call.now pixels)) reply c.in-Err-take.refusal c.take.new.self
    (empty-so (gpu_row (call_in c.args.call.now pixels)) reply c.args.session.now c.take.new.self h (awaits-empty c.args.call.now pixels c.in_default.not-GetProtocolFeatures c.in_default.not-GetDisplayInfo c.in_default.not-GetEdid) (Err c.in-Err-take.refusal) c.in-Err-take.ensures))
