-- The parts of a call of joined sessions: its request goes over, is served, and its reply comes back.
use Rattle.std.specs.Prelude.{◌≡◌, ◌<◌, ◌^◌, ◌&&◌, ℕ, Bool, true, false, List, [], None, Result, Ok, Err, ⊤, is_err}
use Rattle.vhost_message.specs.BackendReq.{backend_request_number, backend_request_of}
use Rattle.vhost_message.specs.declared.backend_req.BackendReq.{BackendReq}
use Rattle.vhost_message.specs.declared.error.Error.TheVariants.{OutOfMemory, SocketRetry, InactiveOperation}
use Rattle.vhost_message.specs.declared.io_error.IoError as io
use Rattle.vhost_protocol.specs.IoError.{IoError, seen_io}
use Rattle.vhost_protocol.specs.Joined.{is_silent, read_as}
use Rattle.vhost_protocol.specs.JoinedReverse as input
use Rattle.vhost_protocol.specs.JoinedReverse.{ReverseInput}
use Rattle.vhost_protocol.specs.Reverse.{Refuses, ReverseCall, ReverseFollows, ReverseOutcome, Sends, Server, backend_allows_handles, reverse_ask, reverse_row}
use Rattle.vhost_protocol.specs.Served as protocol
use Rattle.vhost_protocol.specs.Served.{Silent, Replied, cells_of, reply}
use Rattle.vhost_protocol.specs.Split.{split}
use Rattle.vhost_protocol.specs.Stream.{Cell}
use Rattle.vhost_protocol.specs.Written.{U64, Written}
use Rattle.vhost_link.specs.declared.plain.PlainHandle.{PlainHandle}
use Rattle.vhost_frontend_req_handler.specs.Core as core
use Rattle.vhost_c_common.specs.Memory.{WantsMemory}
use Rattle.vhost_c_common.specs.declared.refusal.Refusal.{Refusal}
use Rattle.vhost_c_common.specs.declared.refusal.Refusal.TheVariants.{Protocol}
use Rattle.vhost_c_channel.specs.Asking as asking
use Rattle.vhost_c_channel.specs.Asking.{Keeps, endpoint_of, error_in, lacks}
use Rattle.vhost_c_channel_joined.specs.Joined.{AreInStep, IsAnswer}
use Rattle.vhost_c_channel.specs.Serving as serving
use Rattle.vhost_c_channel.specs.Serving.{Request}
use Rattle.vhost_c_channel.specs.declared.asking.Channel.{Channel}
use Rattle.vhost_c_channel_joined.specs.declared.joined.DoneCall.{DoneCall}
use Rattle.vhost_c_channel.specs.declared.serving.ChannelServer.{ChannelServer}
use Rattle.vhost_c_channel_joined.specs.declared.wire.Halt.{Halt}
use Rattle.vhost_c_channel_joined.specs.declared.wire.Halt.TheVariants as halt

-- memory was refused, as a test
abbrev pub is_want : Refusal → Bool
is_want (Protocol OutOfMemory) = true
is_want (Protocol (SocketRetry c)) = true
is_want _ = false

-- a call, and no flag
abbrev pub is_call : ReverseInput PlainHandle → Bool
is_call (input.Asks c) = true
is_call _ = false

-- ---- the request goes over

-- A device's session asked: all of the request went out, and nothing came of its reply.
pub record IsAsked (w : Written BackendReq PlainHandle) (awaited : Bool) (s : Channel) : Type 0 where
  pub keeps : Keeps w awaited s.asked
  pub queue : asking.queued s ≡ []
  pub came : asking.arrived s ≡ []
  pub count : s.incoming.count ≡ 0
  pub sound : (endpoint_of s).broken ≡ None
  pub uncut : (endpoint_of s).link.script ≡ []

-- Exactly this message came to a frontend's session, and nothing is to be sent.
pub record IsDue (m : Request) (t : ChannelServer) : Type 0 where
  pub came : split backend_request_of backend_allows_handles (serving.arrived t) ≡ (Ok m, [])
  pub whole : serving.missing_of t ≡ 0
  pub idle : serving.has_call t ≡ false
  pub alive : (serving.remembers t).failed ≡ None
  pub queue : serving.queued t ≡ []
  pub sound : (core.endpoint_of t.core).broken ≡ None
  pub uncut : (core.endpoint_of t.core).link.script ≡ []

-- The request of a call came over.
pub record Crosses (c : ReverseCall PlainHandle) (s : Channel) (t : ChannelServer) (s' : Channel) (t' : ChannelServer) : Type 0 where
  pub w : Written BackendReq PlainHandle
  pub awaited : Bool
  pub is : reverse_ask (asking.remembers s) c ≡ Sends w awaited
  pub asked : IsAsked w awaited s'
  pub due : IsDue (read_as w) t'
  pub memory : asking.remembers s' ≡ asking.remembers s
  pub served : serving.remembers t' ≡ serving.remembers t

-- The call was not agreed on, and nothing is sent.
pub record Declines (c : ReverseCall PlainHandle) (s : Channel) (t : ChannelServer) (r : Refusal) (s' : Channel) (t' : ChannelServer) : Type 0 where
  pub error : io.IoError
  pub is : reverse_ask (asking.remembers s) c ≡ Refuses (seen_io error)
  pub told : r ≡ Protocol (error_in error (InactiveOperation (lacks (input.Asks c))))
  pub memory : asking.remembers s' ≡ asking.remembers s
  pub served : serving.remembers t' ≡ serving.remembers t
  pub in_step : AreInStep s' t'

-- one of the two; or memory was refused
abbrev pub Crossing : ReverseCall PlainHandle → Channel → ChannelServer → Result (Result ⊤ Refusal) Halt → Channel → ChannelServer → Type 0
Crossing c s t (Ok (Ok done)) s' t' = Crosses c s t s' t'
Crossing c s t (Ok (Err r)) s' t' = Declines c s t r s' t'
Crossing c s t (Err (halt.WantsMemory why)) s' t' = WantsMemory why
Crossing c s t (Err halt.Silent) s' t' = ⊥

-- ---- it is served

-- a frontend's side that answers any call so
abbrev pub replies : Result ℕ IoError → ⊤ → ReverseCall PlainHandle → Result ℕ IoError → ⊤ → Type 0
replies answer d c a d' = a ≡ answer

-- Exactly this is to be sent by a frontend's session, and nothing waits for it.
pub record Holds (cells : List (Cell PlainHandle)) (t : ChannelServer) : Type 0 where
  pub queue : serving.queued t ≡ cells
  pub came : serving.arrived t ≡ []
  pub idle : serving.has_call t ≡ false
  pub count : t.incoming.count ≡ 0
  pub sound : (core.endpoint_of t.core).broken ≡ None
  pub uncut : (core.endpoint_of t.core).link.script ≡ []

-- the reply to a request, if there is one
abbrev pub reply_to : BackendReq → protocol.Served PlainHandle → List (Cell PlainHandle)
reply_to r served = cells_of backend_request_number (reply r served)

-- nothing is sent, or a number of 64 bits
abbrev pub IsNumber : protocol.Served PlainHandle → Type 0
IsNumber Silent = ⊤
IsNumber (Replied (U64 n) []) = n < 2 ^ 64
IsNumber _ = ⊥

-- It met its row, by a frontend's side that answers so; and whether that is an error.
pub record IsMet (m : Request) (a : Result ℕ IoError) (before : Server) (failed : Bool) (t : ChannelServer) : Type 0 where
  pub outcome : ReverseOutcome PlainHandle
  pub follows : ReverseFollows (replies a) tt (reverse_row before m) outcome tt
  pub is_failed : failed ≡ is_err outcome.answer
  pub number : IsNumber outcome.served
  pub memory : serving.remembers t ≡ before
  pub holds : Holds (reply_to m.request outcome.served) t

-- it did; or memory was refused
abbrev pub Meets : Request → Result ℕ IoError → Server → Result Bool Halt → ChannelServer → Type 0
Meets m a before (Ok failed) t = IsMet m a before failed t
Meets m a before (Err (halt.WantsMemory why)) t = WantsMemory why
Meets m a before (Err halt.Silent) t = ⊥

-- ---- its reply comes back

-- The reply was taken as this answer, and nothing is on the way or open.
pub record IsReturned (served : protocol.Served PlainHandle) (result : Result ℕ IoError) (failed : Bool) (s : Channel) (t : ChannelServer) (done : DoneCall) (s' : Channel) (t' : ChannelServer) : Type 0 where
  pub answer : (i : ReverseInput PlainHandle) → IsAnswer i done.outcome result
  pub last : done.last ≡ (failed && is_silent served)
  pub unasked : s'.asked ≡ None
  pub queue : asking.queued s' ≡ []
  pub came : asking.arrived s' ≡ []
  pub sound : (endpoint_of s').broken ≡ None
  pub uncut : (endpoint_of s').link.script ≡ []
  pub memory : asking.remembers s' ≡ asking.remembers s
  pub server : serving.remembers t' ≡ serving.remembers t
  pub holds : Holds [] t'

-- it was; or memory was refused, or none comes, though one is awaited
abbrev pub Returning : (awaited : Bool) → protocol.Served PlainHandle → Result ℕ IoError → (failed : Bool) → Channel → ChannelServer → Result DoneCall Halt → Channel → ChannelServer → Type 0
Returning awaited served result failed s t (Ok done) s' t' = IsReturned served result failed s t done s' t'
Returning awaited served result failed s t (Err (halt.WantsMemory why)) s' t' = WantsMemory why
Returning awaited served result failed s t (Err halt.Silent) s' t' = (awaited ≡ true) × (served ≡ Silent) × (asking.remembers s' ≡ asking.remembers s) × (serving.remembers t' ≡ serving.remembers t)
