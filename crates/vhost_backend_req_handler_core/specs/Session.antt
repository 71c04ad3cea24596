-- Sessions of the code, as the definitions see them.
use Rattle.vhost_protocol.specs.Session.{Session}
use Rattle.vhost_backend_req_handler_core.specs.declared.session.Session as code

-- a handler's session
abbrev pub session_of : code.Session → Session
session_of s = record { offered = s.offered; acked = s.acked; acked_protocol_features = s.acked_protocol_features; postcopy = s.postcopy; failed = s.failed; profile = s.profile }
