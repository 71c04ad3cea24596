use Rattle.std.proofs.Common.{◌++◌, Option, Some, Ok, Err, refl, sym, ap, ◌∙◌}
use Rattle.vhost_link.specs.Ends.{Ends}
use Rattle.vhost_link.specs.declared.plain.PlainHandle.{PlainHandle}
use Rattle.vhost_connection.specs.Memory.{stream}
use Rattle.vhost_connection.specs.Talk.{State}
use Rattle.vhost_backend_req.specs.Channel as link
use Rattle.vhost_backend_req.specs.Channel.{backend_of}
use Rattle.vhost_c_common.specs.Carrying.{emptied}
use Rattle.vhost_c_common.specs.View.{bare}
use Rattle.vhost_c_channel.specs.Asking.{Head, read, other_size, not_awaited, nothing_asked, not_yet}
use Rattle.vhost_c_channel.proofs.Calls.{received, failed, some-missing, none-missing}
use Rattle.vhost_c_channel.proofs.asking.Channel.take.Goals as goal

pub returns-then-missing-gt0 : goal.returns-then-missing-gt0
returns-then-missing-gt0 c = not_yet (some-missing _ _ c.missing.ensures.missing c.if-missing-gt0.true) refl

pub returns-then-size-ne-NUMBER_SIZE : goal.returns-then-size-ne-NUMBER_SIZE
returns-then-size-ne-NUMBER_SIZE c =
    let gone = c.empty.ensures ∙ ap {A = State Ends PlainHandle} emptied c.endpoint_mut.ensures.value in
    other_size c.in-Some-Some.head (none-missing _ _ c.missing.ensures.missing c.if-missing-gt0.false) (sym c.in-Some-Some.ensures.value ∙ ap {A = Option Head} Some c.in-Some-Some.field-0-is)
    (λ is. c.if-size-ne-NUMBER_SIZE.true (c.size.ensures ∙ is)) (ap {A = State Ends PlainHandle} stream gone) (ap {A = State Ends PlainHandle} (λ e. c.args.self.now.outgoing.link.pending ++ e.link.sent) gone) (ap {A = State Ends PlainHandle} bare gone)
    (record { asked = c.take.ensures.after; memory = refl; held = refl })

pub returns-in-None : goal.returns-in-None
returns-in-None c = nothing_asked (sym c.in-None.ensures.value) (ap {A = Option (Option Head)} (λ a. record c.args.self.now { asked = a }) (c.take.ensures.after ∙ c.in-None.ensures.value))

pub returns-in-Some-None : goal.returns-in-Some-None
returns-in-Some-None c = not_awaited (sym c.in-Some-None.ensures.value ∙ ap {A = Option Head} Some c.in-Some-None.field-0-is) refl refl (record { asked = c.take.ensures.after; memory = refl; held = refl })

pub returns-in-Ok : goal.returns-in-Ok
returns-in-Ok c =
    read c.in-Some-Some.head (Ok c.in-Ok.field-0) (none-missing _ _ c.missing.ensures.missing c.if-missing-gt0.false) (sym c.in-Some-Some.ensures.value ∙ ap {A = Option Head} Some c.in-Some-Some.field-0-is)
    (sym c.size.ensures ∙ c.if-size-ne-NUMBER_SIZE.false) (received c.talks_law.ensures.talks c.in-Some-Some.head c.args.self.now _ (Ok c.in-Ok.field-0) c.in-Ok.ensures.taken refl)
    (record { asked = c.take.ensures.after; memory = ap {A = link.Channel Ends PlainHandle} backend_of c.take_half.ensures.same; held = refl })

pub returns-in-Err : goal.returns-in-Err
returns-in-Err c = failed _ _ _ c.in-Err.error c.protocol_error-other.ensures
    (read c.in-Some-Some.head (Err c.in-Err.error) (none-missing _ _ c.missing.ensures.missing c.if-missing-gt0.false) (sym c.in-Some-Some.ensures.value ∙ ap {A = Option Head} Some c.in-Some-Some.field-0-is)
    (sym c.size.ensures ∙ c.if-size-ne-NUMBER_SIZE.false) (received c.talks_law.ensures.talks c.in-Some-Some.head c.args.self.now _ (Err c.in-Err.error) c.in-Err.ensures.taken refl)
    (record { asked = c.take.ensures.after; memory = ap {A = link.Channel Ends PlainHandle} backend_of c.take_half.ensures.same; held = refl }))
