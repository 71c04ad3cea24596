-- Both sessions of the backend channel, joined: what the one hands out the other receives, in any pieces, and the frontend's side answers.
use Rattle.std.specs.Prelude.{◌≡◌, ℕ, Bool, true, false, List, [], ◌∷◌, ◌++◌, length, map, None, Result, Ok, Err, ⊤}
use Rattle.vhost_message.specs.declared.backend_req.BackendReq.{BackendReq}
use Rattle.vhost_message.specs.declared.error.Error.TheVariants.{InactiveOperation}
use Rattle.vhost_message.specs.declared.io_error.IoError as io
use Rattle.vhost_message.specs.LongRecords.{MMapFits}
use Rattle.vhost_message.specs.Valid.{is_valid_mmap}
use Rattle.vhost_protocol.specs.Error.{PartialMessage}
use Rattle.vhost_protocol.specs.IoError.{IoError, Of, seen_io, seen_io_result}
use Rattle.vhost_protocol.specs.JoinedReverse as input
use Rattle.vhost_protocol.specs.JoinedReverse.{ReverseInput, ReverseInStep, ReverseShown, ReverseJoinedStep, ReverseJoinedRun}
use Rattle.vhost_protocol.specs.Reverse as reverse
use Rattle.vhost_protocol.specs.Reverse.{ReverseCall, Sends, reverse_ask}
use Rattle.vhost_protocol.specs.Row.{is_valid_name}
use Rattle.vhost_protocol.specs.Written.{Written}
use Rattle.vhost_link.specs.declared.plain.PlainHandle.{PlainHandle}
use Rattle.vhost_backend_req.specs.Halves.{input_of}
use Rattle.vhost_backend_req.specs.declared.call.ReverseCall as code
use Rattle.vhost_frontend_req_handler.specs.Core as core
use Rattle.vhost_c_common.specs.Memory.{WantsMemory}
use Rattle.vhost_c_common.specs.declared.refusal.Refusal.{Refusal}
use Rattle.vhost_c_common.specs.declared.refusal.Refusal.TheVariants.{Protocol}
use Rattle.vhost_c_channel.specs.Asking as asking
use Rattle.vhost_c_channel.specs.Asking.{endpoint_of, error_in, lacks}
use Rattle.vhost_c_channel.specs.Serving as serving
use Rattle.vhost_c_channel_joined.specs.Wire.{HaveDescriptors}
use Rattle.vhost_c_channel.specs.declared.asking.Channel.{Channel}
use Rattle.vhost_c_channel_joined.specs.declared.joined.DoneCall.{DoneCall}
use Rattle.vhost_c_channel.specs.declared.serving.ChannelServer.{ChannelServer}
use Rattle.vhost_c_channel_joined.specs.declared.wire.Halt.{Halt}
use Rattle.vhost_c_channel_joined.specs.declared.wire.Halt.TheVariants as halt

-- ---- calls and answers

-- a call or a flag, and what the frontend's side answers where it is called
abbrev pub Entry : Type 0
Entry = ReverseInput PlainHandle × Result ℕ IoError

-- a frontend's side that is asked this call, and answers it so
abbrev pub answers : Entry → ⊤ → ReverseCall PlainHandle → Result ℕ IoError → ⊤ → Type 0
answers entry d c a d' = (entry.0 ≡ input.Asks c) × (a ≡ entry.1)

-- one that answers any call somehow
abbrev pub any_answer : ⊤ → ReverseCall PlainHandle → Result ℕ IoError → ⊤ → Type 0
any_answer d c a d' = ⊤

-- A call is made of what its types hold: the name of an object has 16 bytes, and the numbers of a mapping fit. A descriptor is one of C.
abbrev pub IsMade : ReverseInput PlainHandle → Type 0
IsMade (input.Asks (reverse.SharedObjectAdd name)) = length name.uuid ≡ 16
IsMade (input.Asks (reverse.SharedObjectRemove name)) = length name.uuid ≡ 16
IsMade (input.Asks (reverse.SharedObjectLookup name h)) = (length name.uuid ≡ 16) × HaveDescriptors (h ∷ [])
IsMade (input.Asks (reverse.ShmemMap mapping h)) = MMapFits mapping × HaveDescriptors (h ∷ [])
IsMade (input.Asks (reverse.ShmemUnmap mapping)) = MMapFits mapping
IsMade _ = ⊤

-- the name of an object, or a mapping, is valid
abbrev pub is_valid_call : ReverseCall PlainHandle → Bool
is_valid_call reverse.HandleConfigChange = true
is_valid_call (reverse.SharedObjectAdd name) = is_valid_name name
is_valid_call (reverse.SharedObjectRemove name) = is_valid_name name
is_valid_call (reverse.SharedObjectLookup name h) = is_valid_name name
is_valid_call (reverse.ShmemMap mapping h) = is_valid_mmap mapping
is_valid_call (reverse.ShmemUnmap mapping) = is_valid_mmap mapping

-- ---- both sessions

-- Both are in step as the protocol says: they agree, neither failed, and nothing is on the way. No call is open, and nothing broke them.
pub record AreInStep (s : Channel) (t : ChannelServer) : Type 0 where
  pub in_step : ReverseInStep (asking.remembers s) (serving.remembers t) (asking.queued s ++ serving.arrived t) (serving.queued t ++ asking.arrived s)
  pub unasked : s.asked ≡ None
  pub idle : serving.has_call t ≡ false
  pub nothing_came : t.incoming.count ≡ 0
  pub sound : ((endpoint_of s).broken ≡ None) × ((core.endpoint_of t.core).broken ≡ None)
  pub uncut : ((endpoint_of s).link.script ≡ []) × ((core.endpoint_of t.core).link.script ≡ [])

-- What the device is told of an answer: nothing more where that is 0; else its error of the protocol, or where it has none, that the call was not agreed on.
abbrev pub IsAnswer : ReverseInput PlainHandle → Result ⊤ Refusal → Result ℕ IoError → Type 0
IsAnswer i (Ok done) result = result ≡ Ok 0
IsAnswer i (Err (Protocol e)) result = (x : io.IoError) × (result ≡ Err (seen_io x)) × (e ≡ error_in x (InactiveOperation (lacks i)))
IsAnswer i (Err r) result = ⊥

-- a step of the protocol, of its own tables, by a frontend's side that answers so
abbrev pub Step : Entry → Channel → ChannelServer → ReverseShown PlainHandle → Channel → ChannelServer → Type 0
Step entry s t shown s' t' = ReverseJoinedStep (answers entry) (asking.remembers s) (serving.remembers t) tt entry.0 shown (asking.remembers s') (serving.remembers t') tt

-- A call was done: it is a step of the protocol with the same answer, which is the run's last or not, and both are in step again.
pub record Joined (entry : Entry) (s : Channel) (t : ChannelServer) (done : DoneCall) (s' : Channel) (t' : ChannelServer) : Type 0 where
  pub shown : ReverseShown PlainHandle
  pub step : Step entry s t shown s' t'
  pub answer : IsAnswer entry.0 done.outcome shown.result
  pub last : done.last ≡ shown.last
  pub in_step : AreInStep s' t'

-- A reply is awaited that never comes, since the call is not valid, and is refused in silence. It is the last step of the protocol, too, by which the device hears of no reply.
pub record IsSilent (entry : Entry) (s : Channel) (t : ChannelServer) (s' : Channel) (t' : ChannelServer) : Type 0 where
  pub call : ReverseCall PlainHandle
  pub is : entry.0 ≡ input.Asks call
  pub message : Written BackendReq PlainHandle
  pub awaited : reverse_ask (asking.remembers s) call ≡ Sends message true
  pub invalid : is_valid_call call ≡ false
  pub shown : ReverseShown PlainHandle
  pub step : Step entry s t shown s' t'
  pub unheard : shown.result ≡ Err (Of PartialMessage)
  pub last : shown.last ≡ true

-- What becomes of a call: it is done, or memory was refused, or it is not valid and has no reply. No other reply is waited for in vain.
abbrev pub Joins : Entry → Channel → ChannelServer → Result DoneCall Halt → Channel → ChannelServer → Type 0
Joins entry s t (Ok done) s' t' = Joined entry s t done s' t'
Joins entry s t (Err (halt.WantsMemory why)) s' t' = WantsMemory why
Joins entry s t (Err halt.Silent) s' t' = IsSilent entry s t s' t'

-- ---- many calls

-- calls as the protocol sees them
abbrev pub entries : List (code.ReverseCall PlainHandle × Result ℕ io.IoError) → List Entry
entries [] = []
entries (c ∷ cs) = (input_of c.0, seen_io_result c.1) ∷ entries cs

-- so is each
abbrev pub AreMade : List Entry → Type 0
AreMade [] = ⊤
AreMade (e ∷ es) = IsMade e.0 × AreMade es

-- Calls one after another, each of which is done. None comes after the run's last step: whether it stopped before these, and whether it did behind them.
abbrev pub AllJoin : List Entry → (stopped : Bool) → Channel → ChannelServer → (stops : Bool) → Channel → ChannelServer → Type 0
AllJoin [] stopped s t stops s' t' = (stops ≡ stopped) × (s' ≡ s) × (t' ≡ t)
AllJoin (e ∷ es) true s t stops s' t' = ⊥
AllJoin (e ∷ es) false s t stops s' t' = (g : Channel) × (u : ChannelServer) × (done : DoneCall) × Joined e s t done g u × AllJoin es done.last g u stops s' t'

-- They are a joined run of the protocol with these answers, and both are in step again.
pub record InLockstep (es : List Entry) (s : Channel) (t : ChannelServer) (stops : Bool) (s' : Channel) (t' : ChannelServer) : Type 0 where
  pub each : AllJoin es false s t stops s' t'
  pub answers : List (ReverseInput PlainHandle × Result ℕ IoError)
  pub of_calls : map (λ a. a.0) answers ≡ map (λ e. e.0) es
  pub run : ReverseJoinedRun any_answer (asking.remembers s) (serving.remembers t) tt answers (asking.remembers s') (serving.remembers t') tt
  pub in_step : AreInStep s' t'

-- The calls up to the run's last step, or all: these are left.
pub record Runs (es : List Entry) (s : Channel) (t : ChannelServer) (stops : Bool) (left : List Entry) (s' : Channel) (t' : ChannelServer) : Type 0 where
  pub before : List Entry
  pub all : es ≡ before ++ left
  pub lockstep : InLockstep before s t stops s' t'
  pub whole : stops ≡ false → left ≡ []

-- The calls before one that was not done: those behind it are left.
pub record UpTo (es : List Entry) (s : Channel) (t : ChannelServer) (h : Halt) (left : List Entry) (s' : Channel) (t' : ChannelServer) : Type 0 where
  pub before : List Entry
  pub entry : Entry
  pub all : es ≡ before ++ entry ∷ left
  pub asker : Channel
  pub server : ChannelServer
  pub lockstep : InLockstep before s t false asker server
  pub halts : Joins entry asker server (Err h) s' t'

-- what becomes of calls, of which these are left
abbrev pub JoinsAll : List Entry → Channel → ChannelServer → Result Bool Halt → List Entry → Channel → ChannelServer → Type 0
JoinsAll es s t (Ok stops) left s' t' = Runs es s t stops left s' t'
JoinsAll es s t (Err h) left s' t' = UpTo es s t h left s' t'

-- Two new sessions were joined, and the calls are in lockstep.
pub record JoinsNew (es left : List Entry) (s' : Channel) (t' : ChannelServer) : Type 0 where
  pub asker : Channel
  pub server : ChannelServer
  pub fresh : asking.IsNew asker × serving.IsNew server
  pub stops : Bool
  pub runs : Runs es asker server stops left s' t'

-- what becomes of calls of two new sessions: they are done; or memory was refused, or the reply of one never comes
abbrev pub JoinsBoth : List Entry → Result (Channel × ChannelServer) Halt → List Entry → Type 0
JoinsBoth es (Ok both) left = JoinsNew es left both.0 both.1
JoinsBoth es (Err (halt.WantsMemory why)) left = WantsMemory why
JoinsBoth es (Err halt.Silent) left = (s : Channel) × (t : ChannelServer) × asking.IsNew s × serving.IsNew t × (s' : Channel) × (t' : ChannelServer) × UpTo es s t halt.Silent left s' t'
