-- A call whole: both of its halves.
use Rattle.std.proofs.Common.{◌∙◌}
use Rattle.vhost_frontend_core.specs.Values.{call_in}
use Rattle.vhost_frontend_core.proofs.Awaiting.{may-await-with-room, sent-awaits-with-room, still-awaits-with-room}
use Rattle.vhost_frontend.specs.Whole.Calls.{ended, answered}
use Rattle.vhost_frontend.proofs.quiet.Quiet.call.Goals as goal

pub take-requires : goal.take-requires
take-requires g c = sent-awaits-with-room c.in-Ok.ensures.asked.with_room

pub invariant_of-self : goal.invariant_of-self
invariant_of-self g c = record { quiet = c.take.ensures.taken.quiet }

pub invariant_of-self-in-Err-1 : goal.invariant_of-self-in-Err-1
invariant_of-self-in-Err-1 g c = record { quiet = still-awaits-with-room c.in-Err.ensures.asked.with_room ∙ c.args.self.now.quiet }

pub returns-in-Ok-clause-whole : goal.returns-in-Ok-clause-whole
returns-in-Ok-clause-whole g c = answered c.in-Ok.ensures.asked (c.take.ensures.taken.taken (may-await-with-room (call_in c.args.call.now) c.in-Ok.ensures.asked.with_room) c.in-Ok.ensures.kept)

pub returns-in-Err-clause-whole : goal.returns-in-Err-clause-whole
returns-in-Err-clause-whole g c = ended c.in-Err.ensures.asked
