-- Sessions of the code, as the definitions see them.
use Rattle.std.specs.Prelude.{Bool, if◌then◌else◌}
use Rattle.vhost_message.specs.Bits.{has_bit}
use Rattle.vhost_protocol.specs.Ask.{needs_reply}
use Rattle.vhost_protocol.specs.Features.{REPLY_ACK}
use Rattle.vhost_protocol.specs.FrontendCall.{Frontend}
use Rattle.vhost_protocol.specs.Profile.{is_standard}
use Rattle.vhost_frontend_core.specs.declared.session.FrontendSession.{FrontendSession}

-- what a frontend remembers
abbrev pub frontend_of : FrontendSession → Frontend
frontend_of f = record { offered = f.offered; acked = f.acked; acked_protocol_features = f.acked_protocol_features; max_queue_num = f.max_queue_num; header_flags = f.header_flags; postcopy = f.postcopy; profile = f.profile }

-- whether a message goes out with NEED_REPLY that turns the state of both sides
abbrev pub turn_needs_reply : Frontend → Bool
turn_needs_reply f = if is_standard f.profile then has_bit f.acked_protocol_features REPLY_ACK else needs_reply f
