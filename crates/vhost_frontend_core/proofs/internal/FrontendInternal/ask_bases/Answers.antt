-- SET_MEM_TABLE while postcopy listens: what is asked.
use Rattle.std.proofs.Common.{refl}
use Rattle.vhost_frontend_core.specs.Asking.AsksWithRoom.{roomy, no_room}
use Rattle.vhost_frontend_core.specs.Frontend.{session_of}
use Rattle.vhost_frontend_core.proofs.Asking.{keeping, tried-as, unacknowledged_is}
use Rattle.vhost_frontend_core.proofs.internal.FrontendInternal.ask_bases.Goals as goal

pub returns-in_default-clause-asked : goal.returns-in_default-clause-asked
returns-in_default-clause-asked g c = no_room refl

pub returns-in-Ok-send_table-clause-asked : goal.returns-in-Ok-send_table-clause-asked
returns-in-Ok-send_table-clause-asked g c =
    roomy (keeping _ (tried-as (unacknowledged_is _ (session_of c.args.self.now) _ _ _ c.unacknowledged_flags.ensures.reply c.unacknowledged_flags.ensures.need_reply) c.in-Ok-send_table.ensures.session c.in-Ok-send_table.ensures.sent))

pub returns-in-Err-clause-asked : goal.returns-in-Err-clause-asked
returns-in-Err-clause-asked g c =
    roomy (tried-as (unacknowledged_is _ (session_of c.args.self.now) _ _ _ c.unacknowledged_flags.ensures.reply c.unacknowledged_flags.ensures.need_reply) c.in-Err.ensures.session c.in-Err.ensures.sent)

pub returns-in_default-from_slice-clause-asked : goal.returns-in_default-from_slice-clause-asked
returns-in_default-from_slice-clause-asked g c = no_room refl
