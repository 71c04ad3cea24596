-- The answer of a kept value's call, as that of the call that it lends.
use Rattle.std.proofs.Common.{ap, refl, sym}
use Rattle.vhost_protocol.specs.FrontendCall.{SetHdrFlags}
use Rattle.vhost_frontend_core.specs.Values.{call_of}
use Rattle.vhost_frontend_core.proofs.KeptValues.{is-sent}
use Rattle.vhost_frontend_core.proofs.TakenValues.{took, renamed, acked}
use Rattle.vhost_frontend_core.proofs.values.asking.take_value.Goals as goal

pub lent-requires : goal.lent-requires
lent-requires c = is-sent c.args.call.now c.in_default.not-SetHdrFlags

pub returns-in-SetHdrFlags : goal.returns-in-SetHdrFlags
returns-in-SetHdrFlags c =
    let is = (acked (SetHdrFlags c.in-SetHdrFlags.field-0.bits) refl).0 in
    renamed (ap call_of c.in-SetHdrFlags.is) (record { taken = λ may kept. took c.done.ensures.same (c.take_done.ensures.taken _ is.shows (is.keeps _) (is.awaits _ may)); quiet = c.take_done.ensures.quiet })

pub returns-in_default : goal.returns-in_default
returns-in_default c = renamed (sym c.lent.ensures.same) c.take.ensures.taken
