use Rattle.std.proofs.Common.{◌++◌, Option, None, Some, Ok, Err, refl, sym, ap, ◌∙◌}
use Rattle.vhost_gpu_message.specs.GpuHeader.{gpu_fields_of}
use Rattle.vhost_protocol.specs.Gpu.{gpu_record_size}
use Rattle.vhost_link.specs.Ends.{Ends}
use Rattle.vhost_link.specs.declared.plain.PlainHandle.{PlainHandle}
use Rattle.vhost_connection.specs.Memory.{stream}
use Rattle.vhost_connection.specs.Talk.{State}
use Rattle.vhost_gpu_backend_req.specs.Channel as link
use Rattle.vhost_gpu_backend_req.specs.declared.call.Awaited.{Awaited}
use Rattle.vhost_c_common.specs.Carrying.{emptied}
use Rattle.vhost_c_common.specs.View.{bare}
use Rattle.vhost_c_channel.specs.Display.{reads, other_size, other_form, nothing_asked, not_yet}
use Rattle.vhost_c_channel.proofs.Calls.{some-missing, none-missing}
use Rattle.vhost_c_channel.proofs.Displays.{received, failed, same-form}
use Rattle.vhost_c_channel.proofs.display.Display.take_record.Goals as goal

pub returns-in_default : goal.returns-in_default
returns-in_default g c reply sized all = nothing_asked c.in_default.is refl

pub returns-in_default-asked : goal.returns-in_default-asked
returns-in_default-asked g c reply sized all = other_form None (c.in-Some.is ∙ ap {A = Option Awaited} Some c.in_default-asked.is) (λ same. cc same) refl

pub returns-then-size-SIZE : goal.returns-then-size-SIZE
returns-then-size-SIZE g c reply sized all =
    other_form (Some c.in-Some-asked.awaited) (c.in-Some.is ∙ ap {A = Option Awaited} Some c.in-Some-asked.is)
    (λ same. c.if-size-SIZE.true (c.size.ensures ∙ ap gpu_record_size (cc same) ∙ sized ∙ sym c.SIZE.ensures)) refl

pub returns-then-missing-gt0 : goal.returns-then-missing-gt0
returns-then-missing-gt0 g c reply sized all = not_yet (some-missing _ _ c.missing.ensures.missing c.if-missing-gt0.true) refl

pub returns-then-size-SIZE-2 : goal.returns-then-size-SIZE-2
returns-then-size-SIZE-2 g c reply sized all =
    let gone = c.empty.ensures ∙ ap {A = State Ends PlainHandle} emptied c.endpoint_mut.ensures.value in
    other_size c.in-Some-asked.awaited (none-missing _ _ c.missing.ensures.missing c.if-missing-gt0.false) (c.in-Some.is ∙ ap {A = Option Awaited} Some c.in-Some-asked.is)
    (same-form _ _ (sym c.size.ensures ∙ c.if-size-SIZE.false ∙ c.SIZE.ensures ∙ sym sized))
    (λ is. c.if-size-SIZE-2.true (c.size-2.ensures ∙ is ∙ sized ∙ sym c.SIZE-2.ensures)) (ap {A = State Ends PlainHandle} stream gone) (ap {A = State Ends PlainHandle} (λ e. c.args.self.now.outgoing.link.pending ++ e.link.sent) gone) (ap {A = State Ends PlainHandle} bare gone)
    (record { asked = refl; mark = refl; held = refl })

pub returns-in-Ok : goal.returns-in-Ok
returns-in-Ok g c reply sized all =
    reads c.in-Some-asked.awaited (Ok c.in-Ok.record) (none-missing _ _ c.missing.ensures.missing c.if-missing-gt0.false) (c.in-Some.is ∙ ap {A = Option Awaited} Some c.in-Some-asked.is)
    (same-form _ _ (sym c.size.ensures ∙ c.if-size-SIZE.false ∙ c.SIZE.ensures ∙ sym sized)) (sym c.size-2.ensures ∙ c.if-size-SIZE-2.false ∙ c.SIZE-2.ensures ∙ sym sized)
    (received reply g.T.ByteValued.read c.talks_law.ensures.talks (gpu_fields_of c.in-Some-asked.awaited.request) c.args.self.now _ (Ok c.in-Ok.record) (c.in-Ok.ensures.taken reply sized all) refl)
    (record { asked = refl; mark = ap {A = link.Channel Ends PlainHandle} (λ x. x.failed) c.take_half.ensures.same; held = refl })

pub returns-in-Err : goal.returns-in-Err
returns-in-Err g c reply sized all = failed reply g.T.ByteValued.read _ _ _ c.in-Err.error c.protocol_error.ensures
    (reads c.in-Some-asked.awaited (Err c.in-Err.error) (none-missing _ _ c.missing.ensures.missing c.if-missing-gt0.false) (c.in-Some.is ∙ ap {A = Option Awaited} Some c.in-Some-asked.is)
    (same-form _ _ (sym c.size.ensures ∙ c.if-size-SIZE.false ∙ c.SIZE.ensures ∙ sym sized)) (sym c.size-2.ensures ∙ c.if-size-SIZE-2.false ∙ c.SIZE-2.ensures ∙ sym sized)
    (received reply g.T.ByteValued.read c.talks_law.ensures.talks (gpu_fields_of c.in-Some-asked.awaited.request) c.args.self.now _ (Err c.in-Err.error) (c.in-Err.ensures.taken reply sized all) refl)
    (record { asked = refl; mark = ap {A = link.Channel Ends PlainHandle} (λ x. x.failed) c.take_half.ensures.same; held = refl }))
