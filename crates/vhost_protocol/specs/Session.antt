-- What a handler remembers of its frontend.
use Rattle.std.specs.Prelude.{ℕ, ℤ, Bool, true, false, ◌&&◌, Option, None, if◌then◌else◌, bit_or}
use Rattle.vhost_message.specs.Bits.{has_bit}
use Rattle.vhost_message.specs.Codes.{heard_by}
use Rattle.vhost_message.specs.declared.heard_req.HeardReq.{HeardReq}
use Rattle.vhost_message.specs.HeardReq.{request_of, any_request}
use Rattle.vhost_message.specs.declared.postcopy.PostcopyState.{PostcopyState}
use Rattle.vhost_message.specs.declared.postcopy.PostcopyState.TheVariants.{Inactive, Advise, Listen}
use Rattle.vhost_protocol.specs.declared.profile.Profile.{Profile}
use Rattle.vhost_protocol.specs.declared.profile.Profile.TheVariants.{Vhost}
use Rattle.vhost_protocol.specs.Features.{PROTOCOL_FEATURES, REPLY_ACK}
use Rattle.vhost_protocol.specs.Profile.{is_standard}

-- postcopy has not begun ("Postcopy")
abbrev pub is_inactive : PostcopyState → Bool
is_inactive Inactive = true
is_inactive _ = false

-- the frontend advised of it
abbrev pub is_advise : PostcopyState → Bool
is_advise Advise = true
is_advise _ = false

-- the backend listens for page faults
abbrev pub is_listen : PostcopyState → Bool
is_listen Listen = true
is_listen _ = false

-- the features offered and acknowledged, the protocol features acknowledged, how far postcopy is, the number of a failure, and whose behaviour the handler has
pub record Session : Type 0 where
  pub offered : ℕ
  pub acked : ℕ
  pub acked_protocol_features : ℕ
  pub postcopy : PostcopyState
  pub failed : Option ℤ
  pub profile : Profile

-- a new session
abbrev pub fresh : Session
fresh = record { offered = 0; acked = 0; acked_protocol_features = 0; postcopy = Inactive; failed = None; profile = Vhost }

-- requests are acknowledged where they ask for it: the virtio feature was offered, and REPLY_ACK acknowledged
abbrev pub ack_on : Session → Bool
ack_on s = has_bit s.offered PROTOCOL_FEATURES && has_bit s.acked_protocol_features REPLY_ACK

-- the features by which a ring may be enabled: those that were acknowledged; under Standard it is enough that they were offered
abbrev pub enabling : Session → ℕ
enabling s = if is_standard s.profile then bit_or s.offered s.acked else s.acked

-- the requests that a handler hears, by their numbers: under Standard any number is one, and those without a name are served by nobody
abbrev pub heard_in : Session → ℕ → Option HeardReq
heard_in s = heard_by request_of any_request (is_standard s.profile)
