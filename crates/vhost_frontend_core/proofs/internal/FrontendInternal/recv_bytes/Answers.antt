-- The reply with configuration bytes, by the profile.
use Rattle.vhost_message.specs.MsgHeader.{fields_of}
use Rattle.vhost_connection.specs.State.{state}
use Rattle.vhost_frontend_core.proofs.ReplyingConfig.{bytes-or-bare}
use Rattle.vhost_frontend_core.proofs.internal.FrontendInternal.recv_bytes.Goals as goal

pub returns-in-Vhost-clause-received : goal.returns-in-Vhost-clause-received
returns-in-Vhost-clause-received g c =
    rw c.in-Vhost.is (bytes-or-bare g.L.Link.event (fields_of c.args.request.now) (state c.args.self.now.endpoint) c.args.room.now _ _ _ c.recv_payload_or_bare.ensures)

pub returns-in-Standard-clause-received : goal.returns-in-Standard-clause-received
returns-in-Standard-clause-received g c = rw c.in-Standard.is c.recv_sized_or_none.ensures
