-- GET_CONFIG: the request goes out, and the buffer is kept.
use Rattle.std.proofs.Common.{refl}
use Rattle.vhost_protocol.specs.Written.{ConfigBytes}
use Rattle.vhost_frontend_core.specs.Asking.AsksWithRoom.{roomy, no_room}
use Rattle.vhost_frontend_core.specs.Frontend.{session_of}
use Rattle.vhost_frontend_core.proofs.Asking.{keeping, message_is, tried-as}
use Rattle.vhost_frontend_core.proofs.internal.FrontendInternal.ask_bytes.Goals as goal

pub returns-in_default-clause-asked : goal.returns-in_default-clause-asked
returns-in_default-clause-asked g c = no_room refl

pub returns-in-Ok-send-clause-asked : goal.returns-in-Ok-send-clause-asked
returns-in-Ok-send-clause-asked g c =
    roomy (keeping _ (tried-as (message_is _ (session_of c.args.self.now) _ _ _ c.flags-flags.ensures.reply c.flags-flags.ensures.need_reply) c.in-Ok-send.ensures.session (c.in-Ok-send.ensures.sent (ConfigBytes c.args.part c.args.buffer.now) refl)))

pub returns-in-Err-clause-asked : goal.returns-in-Err-clause-asked
returns-in-Err-clause-asked g c =
    roomy (tried-as (message_is _ (session_of c.args.self.now) _ _ _ c.flags-flags.ensures.reply c.flags-flags.ensures.need_reply) c.in-Err.ensures.session (c.in-Err.ensures.sent (ConfigBytes c.args.part c.args.buffer.now) refl))
