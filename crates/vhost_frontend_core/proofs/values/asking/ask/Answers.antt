use Rattle.std.proofs.Common.{ap, sym, ◌∙◌}
use Rattle.vhost_protocol.specs.FrontendCall.{SetHdrFlags}
use Rattle.vhost_frontend_core.specs.Values.{call_of}
use Rattle.vhost_frontend_core.specs.ValueHalves.{half, refused, at_once}
use Rattle.vhost_frontend_core.proofs.Awaiting.{sent-awaits-with-room, still-awaits-with-room}
use Rattle.vhost_frontend_core.proofs.AskedValues.{renamed, wants-any}
use Rattle.vhost_frontend_core.proofs.KeptValues.{is-sent}
use Rattle.vhost_frontend_core.proofs.values.asking.ask.Goals as goal

pub lent-requires : goal.lent-requires
lent-requires c = is-sent c.args.call.now c.in_default.not-SetHdrFlags

pub returns-in-SetHdrFlags-clause-asked : goal.returns-in-SetHdrFlags-clause-asked
returns-in-SetHdrFlags-clause-asked c = at_once _ (ap call_of c.in-SetHdrFlags.is ∙ ap SetHdrFlags (sym (c.from_bits_retain.ensures tt ∙ c.bits.ensures tt))) c.set_hdr_flags.ensures.endpoint c.set_hdr_flags.ensures.session c.set_hdr_flags.ensures.awaited

pub returns-in-Ok-clause-asked : goal.returns-in-Ok-clause-asked
returns-in-Ok-clause-asked c = half (renamed (sym c.lent.ensures.same) c.in-Ok.ensures).asked.with_room

pub returns-in-Err-clause-asked : goal.returns-in-Err-clause-asked
returns-in-Err-clause-asked c = refused (renamed (sym c.lent.ensures.same) c.in-Err.ensures).asked.with_room

pub returns-in-Ok-clause-awaited : goal.returns-in-Ok-clause-awaited
returns-in-Ok-clause-awaited c = sym (sent-awaits-with-room (renamed (sym c.lent.ensures.same) c.in-Ok.ensures).asked.with_room)

pub returns-in-Err-clause-awaited : goal.returns-in-Err-clause-awaited
returns-in-Err-clause-awaited c = still-awaits-with-room (renamed (sym c.lent.ensures.same) c.in-Err.ensures).asked.with_room

pub returns-in-Ok-clause-kept : goal.returns-in-Ok-clause-kept
returns-in-Ok-clause-kept c = (renamed (sym c.lent.ensures.same) c.in-Ok.ensures).kept

pub returns-in-Err-clause-memory : goal.returns-in-Err-clause-memory
returns-in-Err-clause-memory c = wants-any (renamed (sym c.lent.ensures.same) c.in-Err.ensures).asked

pub returns-in-Ok-clause-proper : goal.returns-in-Ok-clause-proper
returns-in-Ok-clause-proper c = record { named = c.lent.ensures.named; bits = c.lent.ensures.bits; small = c.lent.ensures.small }
