-- Handing a device out for the first connection.
use Rattle.std.specs.Prelude.{◌≡◌, ℕ, Option, Some, None, is_some, true, Result, Ok, Err, codes}
use Rattle.vhost_message.specs.declared.error.Error as declared
use Rattle.vhost_protocol.specs.Error.{InvalidOperation, seen}
use Rattle.vhost_protocol.specs.Session.{fresh as new_session}
use Rattle.vhost_connection.specs.Sockets.{IsListenError}
use Rattle.vhost_connection.specs.State.{fresh}
use Rattle.vhost_backend_req_handler.specs.declared.handler.BackendReqHandler.{BackendReqHandler}
use Rattle.vhost_backend_req_handler.specs.Core.{endpoint_of, session_in}
use Rattle.std.specs.declared.sync.Arc.{Arc}
use Rattle.std.specs.Global.{Global}

-- a session that has not sent or received yet
abbrev pub IsNew : {L S H : Type 0} → ℕ → BackendReqHandler L S H → Type 0
IsNew budget h = (endpoint_of h.core ≡ fresh (endpoint_of h.core).link budget) × (session_in h.core ≡ new_session)

-- why no connection was taken: there is no device for it, or the listener failed, or there was no memory
abbrev pub RefusesToAccept : {D : Type 0} → Option D → declared.Error → Type 0
RefusesToAccept None e = seen e ≡ InvalidOperation (codes "backend already handed out")
RefusesToAccept (Some device) e = IsListenError e

-- The device goes to a new session, with the connection that was taken; else it stays where it was.
abbrev pub Accepts : {L S H : Type 0} → Option (Arc S Global) → ℕ → Result (Option (BackendReqHandler L S H)) declared.Error → Option (Arc S Global) → Type 0
Accepts before budget (Ok (Some h)) after = (before ≡ Some h.backend) × (after ≡ None) × IsNew budget h
Accepts before budget (Ok None) after = (is_some before ≡ true) × (after ≡ before)
Accepts before budget (Err e) after = RefusesToAccept before e × (after ≡ before)
