-- A session that judges what goes between a frontend and a backend. It is given each request; its own device answers as the reply says; and what it writes is compared with that.
use Rattle.std.specs.Prelude.{◌≡◌, ◌<◌, ◌==◌, ◌||◌, ℕ, zero, suc, ℤ, negsuc, Bool, true, false, List, [], ◌∷◌, ◌/◌, length, drop, map, min, nat_lt, None, Some, Result, Ok, Err, ⊤, if◌then◌else◌}
use Rattle.vhost_message.specs.Records.{inflight_of, regions_of}
use Rattle.vhost_message.specs.Text.{number_at}
use Rattle.vhost_message.specs.declared.heard_req.HeardReq.{HeardReq}
use Rattle.vhost_message.specs.declared.limits.TheConstants.{MAX_MEM_REGIONS, MEMORY_REGION_SIZE}
use Rattle.vhost_message.specs.declared.records.inflight.VhostUserInflight.{VhostUserInflight}
use Rattle.vhost_message.specs.HeardReq.{request_number}
use Rattle.vhost_protocol.specs.AnswerTable.{bases_in}
use Rattle.vhost_protocol.specs.FrontendCall.{FrontendCall, SetDeviceStateFd}
use Rattle.vhost_protocol.specs.Handler.{Meets}
use Rattle.vhost_protocol.specs.Heard.{IsSendable}
use Rattle.vhost_protocol.specs.Joined.{read_as}
use Rattle.vhost_protocol.specs.Step.{Outcome}
use Rattle.vhost_protocol.specs.Stream.{Cell, carrying, first_handles}
use Rattle.vhost_protocol.specs.Written.{Written, written_text}
use Rattle.vhost_link.specs.declared.plain.PlainHandle.{PlainHandle}
use Rattle.vhost_backend_req_handler.specs.Core as core
use Rattle.vhost_backend_req_handler.specs.Serving.{reply_cells}
use Rattle.vhost_c_common.specs.Records.{fd_in, handle_in, inflight_in}
use Rattle.vhost_c_common.specs.View.{Hands}
use Rattle.vhost_c_backend.specs.Calls.{asked_number}
use Rattle.vhost_c_backend.specs.Served as served
use Rattle.vhost_c_backend.specs.Serving.{Request, row}
use Rattle.vhost_c_backend.specs.declared.replies.Reply.{Reply}
use Rattle.vhost_c_backend.specs.declared.replies.Reply.TheVariants as reply
use Rattle.vhost_c_backend.specs.declared.served.Served.{Served}
use Rattle.vhost_frontend_core.specs.ValueHalves.{IsProper}
use Rattle.vhost_c_common.specs.declared.refusal.Refusal.{Refusal}
use Rattle.vhost_c_joined.specs.Device.{IsDue, IsSized, Serves, is_want, opens, replies}
use Rattle.vhost_c_joined.specs.Joined.{AreAllowed, AreInStep, HasFds, Joins}
use Rattle.vhost_c_frontend.specs.Session as session
use Rattle.vhost_c_joined.specs.declared.judged.Exchange.{Exchange}
use Rattle.vhost_c_joined.specs.declared.judged.Kind.{Kind}
use Rattle.vhost_c_joined.specs.declared.judged.Kind.TheVariants as kind
use Rattle.vhost_c_frontend.specs.declared.session.Session.{Session}
use Rattle.vhost_c_joined.specs.declared.wire.Halt.{Halt}
use Rattle.vhost_c_joined.specs.declared.wire.Halt.TheVariants as halt

-- ---- a message

-- These cells are these bytes, with the descriptors of these numbers on the first.
pub record IsMessage (text : List ℕ) (fds : List ℤ) (cells : List (Cell PlainHandle)) : Type 0 where
  pub carried : cells ≡ carrying (first_handles cells) text
  pub numbers : map fd_in (first_handles cells) ≡ fds

-- which of them go with a piece at this place
abbrev pub due_at : ℕ → List ℤ → List ℤ
due_at zero fds = fds
due_at (suc n) fds = []

-- ---- the answer that a reply holds

-- the number in the body of a reply; 0 where there is none
abbrev pub told_number : List ℕ → ℕ
told_number text = if nat_lt (length text) 20 then 0 else number_at 0 8 (drop 12 text)

-- four bytes of it
abbrev pub told_word : ℕ → List ℕ → ℕ
told_word at text = if nat_lt (length text) 20 then 0 else number_at 0 4 (drop at text)

-- the inflight region in it; one of zeros where it has another size
abbrev pub told_area : List ℕ → VhostUserInflight
told_area text = if length text == 36 then inflight_of (drop 12 text) else record { mmap_size = 0; mmap_offset = 0; num_queues = 0; queue_size = 0 }

-- where the regions in it are mapped, of as many as a table may have
abbrev pub told_bases : List ℕ → List ℕ
told_bases text = bases_in (regions_of (min (length (drop 20 text) / MEMORY_REGION_SIZE) MAX_MEM_REGIONS) (drop 20 text))

-- what the reply to a call is made of, by the call's number
abbrev pub kind_in : ℕ → Kind
kind_in n =
    if n == 1 || n == 15 || n == 17 || n == 36 then kind.Number
    else if n == 5 || n == 37 then kind.Bases
    else if n == 6 then kind.Same
    else if n == 11 then kind.Ring
    else if n == 24 then kind.Config
    else if n == 28 || n == 41 then kind.Fd
    else if n == 31 then kind.Inflight
    else if n == 42 then kind.StateFd
    else if n == 44 then kind.Refused
    else kind.Done

-- a number that is not 0 says that the call was refused
abbrev pub told_done : List ℕ → Reply
told_done text = if told_number text == 0 then reply.Done else reply.Refused

-- where regions are mapped; without one, the same
abbrev pub HoldsBases : List ℕ → List ℕ → Reply → Type 0
HoldsBases [] text r = r ≡ told_done text
HoldsBases (base ∷ bases) text (reply.Bases bs) = bs.now ≡ base ∷ bases
HoldsBases (base ∷ bases) text r = ⊥

-- bytes of the configuration space; none say that the call was refused
abbrev pub HoldsConfig : List ℕ → Reply → Type 0
HoldsConfig bytes (reply.Config bs) = (bs.now ≡ bytes) × (0 < length bytes)
HoldsConfig bytes reply.Refused = bytes ≡ []
HoldsConfig bytes r = ⊥

-- a descriptor; none says that the call was refused
abbrev pub told_fd : List ℤ → Reply
told_fd [] = reply.Refused
told_fd (fd ∷ fds) = reply.Fd fd

-- the same of a state, where without one 0x100 says that the device uses the one that came
abbrev pub told_state : ℕ → List ℤ → Reply
told_state n [] = if n == 0x100 then reply.Fd (negsuc 0) else reply.Refused
told_state n (fd ∷ fds) = reply.Fd fd

-- the inflight region and its descriptor; without one the call was refused
abbrev pub HoldsInflight : List ℕ → List ℤ → Reply → Type 0
HoldsInflight text (fd ∷ fds) (reply.Inflight area f) = (inflight_in area ≡ told_area text) × (f ≡ fd)
HoldsInflight text [] reply.Refused = ⊤
HoldsInflight text fds r = ⊥

-- The device's answer that a reply holds. Without the shared memory that it would give it says that the call was refused.
abbrev pub Holds : Kind → List ℕ → List ℤ → Reply → Type 0
Holds kind.Done text fds r = r ≡ told_done text
Holds kind.Number text fds r = r ≡ reply.Number (told_number text)
Holds kind.Ring text fds r = r ≡ reply.Ring (told_word 12 text) (told_word 16 text)
Holds kind.Bases text fds r = HoldsBases (told_bases text) text r
Holds kind.Config text fds r = HoldsConfig (drop 24 text) r
Holds kind.Same text fds r = r ≡ reply.Done
Holds kind.Fd text fds r = r ≡ told_fd fds
Holds kind.StateFd text fds r = r ≡ told_state (told_number text) fds
Holds kind.Inflight text fds r = HoldsInflight text fds r
Holds kind.Refused text fds r = r ≡ reply.Refused

-- ---- one exchange

-- A session that has no call, of whose next request nothing came, and that has nothing to send; nothing broke it, and it has not ended.
pub record IsReady (s : Served) : Type 0 where
  pub idle : served.has_call s ≡ false
  pub came : served.arrived s ≡ []
  pub count : s.incoming.count ≡ 0
  pub queue : served.queued s ≡ []
  pub goes_on : (served.remembers s).failed ≡ None
  pub sound : ((core.endpoint_of s.core).broken ≡ None) × ((core.endpoint_of s.core).link.script ≡ [])

-- What is said is whether the session writes exactly these bytes and descriptors, where its device answers as they say; if so, it remembers what its row says, and is ready again unless it has ended.
pub record IsJudged (m : Request) (text : List ℕ) (fds : List ℤ) (old : Served) (same : Bool) (new : Served) : Type 0 where
  pub reply : Reply
  pub holds : Holds (kind_in (asked_number (row (served.remembers old) m))) text fds reply
  pub outcome : Outcome PlainHandle
  pub meets : Meets (replies reply) (opens reply) (opens reply) (served.remembers old) tt m outcome tt
  pub memory : served.remembers new ≡ outcome.session
  pub right : same ≡ true → IsMessage text fds (reply_cells m.request outcome.served)
  pub differs : same ≡ false → ¬ IsMessage text fds (reply_cells m.request outcome.served)
  pub ready : same ≡ true → outcome.session.failed ≡ None → IsReady new

-- The session is ready, and these bytes and descriptors are a message of a frontend.
pub record IsRequest (w : Written HeardReq PlainHandle) (request : List ℕ) (fds : List ℤ) (s : Served) : Type 0 where
  pub ready : IsReady s
  pub sendable : IsSendable w
  pub text : request ≡ written_text request_number w
  pub handles : map handle_in fds ≡ map Some w.handles

-- it is judged; or memory was refused
abbrev pub JudgesBy : Request → List ℕ → List ℤ → Served → Result Bool Halt → Served → Type 0
JudgesBy m text fds old (Ok same) new = IsJudged m text fds old same new
JudgesBy m text fds old (Err (halt.WantsMemory why)) new = is_want why ≡ true
JudgesBy m text fds old (Err h) new = ⊥

-- the same of an exchange
abbrev pub Judges : Exchange → Served → Result Bool Halt → Served → Type 0
Judges e old result new = (w : Written HeardReq PlainHandle) → IsRequest w e.request.now e.request_fds.now old → JudgesBy (read_as w) e.reply.now e.reply_fds.now old result new

-- ---- a run of two sessions

-- What is left out: that the reply for a state says by 0x100 that the device uses the descriptor that came. By the contract of `Served::reply` it might be a refusal, too.
abbrev pub GivesState : FrontendCall PlainHandle → List ℕ → Type 0
GivesState (SetDeviceStateFd transfer handle) text = ¬ (told_number text ≡ 0x100)
GivesState call text = ⊤

-- These bytes and descriptors went over for a call of joined sessions that was done: its request, and its reply. The call is made of what its types hold.
pub record IsSeen (bit : Bool) (call : FrontendCall PlainHandle) (r : Reply) (e : Exchange) (f : Session) (b : Served) (f' : Session) (b' : Served) : Type 0 where
  pub proper : IsProper call
  pub outcome : Result ⊤ Refusal
  pub joins : Joins bit call r f b (Ok outcome) f' b'
  pub request : IsMessage e.request.now e.request_fds.now joins.0.request
  pub reply : IsMessage e.reply.now e.reply_fds.now joins.0.reply
  pub state : GivesState call e.reply.now

-- the same of calls one after another
abbrev pub AreSeen : Bool → List (FrontendCall PlainHandle × Reply) → List Exchange → Session → Served → Session → Served → Type 0
AreSeen bit [] [] f b f' b' = (f' ≡ f) × (b' ≡ b)
AreSeen bit (step ∷ steps) (e ∷ es) f b f' b' = (g : Session) × (t : Served) × IsSeen bit step.0 step.1 e f b g t × AreSeen bit steps es g t f' b'
AreSeen bit steps es f b f' b' = ⊥

-- what was seen of two sessions that are in step
pub record AreOfRun (bit : Bool) (steps : List (FrontendCall PlainHandle × Reply)) (es : List Exchange) (f : Session) (b : Served) (f' : Session) (b' : Served) : Type 0 where
  pub in_step : AreInStep bit f b
  pub allowed : AreAllowed bit steps
  pub seen : AreSeen bit steps es f b f' b'

-- It says that every reply is right, and remembers what the backend remembers; or memory was refused.
abbrev pub FindsRight : Served → Result Bool Halt → Served → Type 0
FindsRight b (Ok same) new = (same ≡ true) × (served.remembers new ≡ served.remembers b) × IsReady new
FindsRight b (Err (halt.WantsMemory why)) new = is_want why ≡ true
FindsRight b (Err h) new = ⊥

-- So does a judge that is ready, and remembers what the backend remembers, of any run of both.
abbrev pub JudgesAll : List Exchange → Served → Result Bool Halt → Served → Type 0
JudgesAll es old result new = (bit : Bool) (steps : List (FrontendCall PlainHandle × Reply)) (f f' : Session) (b b' : Served) → AreOfRun bit steps es f b f' b' → IsReady old → served.remembers old ≡ served.remembers b → FindsRight b' result new

-- the same of one call
abbrev pub JudgesOne : Exchange → Served → Result Bool Halt → Served → Type 0
JudgesOne e old result new = (bit : Bool) (call : FrontendCall PlainHandle) (r : Reply) (f f' : Session) (b b' : Served) → AreInStep bit f b → IsProper call → HasFds call → IsSized r → IsSeen bit call r e f b f' b' → IsReady old → served.remembers old ≡ served.remembers b → FindsRight b' result new

-- and of a new judge, where one was opened, and new sessions
abbrev pub FindsNew : Served → Result (Bool × Served) Halt → Type 0
FindsNew b (Ok r) = FindsRight b (Ok r.0) r.1
FindsNew b (Err h) = FindsRight b (Err h) b

abbrev pub JudgesNew : List Exchange → Result (Bool × Served) Halt → Type 0
JudgesNew es result = (bit : Bool) (max_queue_num : ℕ) (steps : List (FrontendCall PlainHandle × Reply)) (f f' : Session) (b b' : Served) → session.IsNew max_queue_num f → served.IsNew b → AreAllowed bit steps → AreSeen bit steps es f b f' b' → FindsNew b' result

-- ---- its halves

-- The session was given a message, which is due; or memory was refused.
abbrev pub IsGiven : Request → Served → Result ⊤ Halt → Served → Type 0
IsGiven m old (Ok done) new = IsDue m new × (served.remembers new ≡ served.remembers old)
IsGiven m old (Err (halt.WantsMemory why)) new = is_want why ≡ true
IsGiven m old (Err h) new = ⊥

abbrev pub Given : List ℕ → List ℤ → Served → Result ⊤ Halt → Served → Type 0
Given request fds old result new = (w : Written HeardReq PlainHandle) → IsRequest w request fds old → IsGiven (read_as w) old result new

-- It was served by its row, as the reply says.
pub record ServesAs (m : Request) (text : List ℕ) (fds : List ℤ) (old : Served) (result : Result ⊤ Halt) (new : Served) : Type 0 where
  pub reply : Reply
  pub holds : Holds (kind_in (asked_number (row (served.remembers old) m))) text fds reply
  pub serves : Serves m reply (served.remembers old) result new

-- It says whether exactly these bytes and descriptors are to be sent. If so, none is then, and nothing else changed.
pub record Writes (text : List ℕ) (fds : List ℤ) (old : Served) (same : Bool) (new : Served) : Type 0 where
  pub right : same ≡ true → IsMessage text fds (served.queued old) × (served.queued new ≡ [])
  pub differs : same ≡ false → ¬ IsMessage text fds (served.queued old)
  pub hands : Hands (served.view old) (served.view new)
