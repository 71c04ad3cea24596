-- The halves of a call that is a value.
use Rattle.std.specs.Prelude.{◌≡◌, ◌⊎◌, ℕ, true, false, ⊤, IfOk, IfErr, Option, Some, None, Result, Ok, Err}
use Rattle.vhost_message.specs.declared.error.Error as declared
use Rattle.vhost_message.specs.declared.error.Error.TheVariants.{OutOfMemory}
use Rattle.vhost_message.specs.Header.{Header}
use Rattle.vhost_message.specs.MsgHeader.{fields_of}
use Rattle.vhost_protocol.specs.AnswerTable.{answered}
use Rattle.vhost_protocol.specs.Agreement.{Fits}
use Rattle.vhost_protocol.specs.declared.asked.Awaited.{Awaited}
use Rattle.vhost_protocol.specs.declared.asked.Awaited.TheVariants.{Nobody}
use Rattle.vhost_protocol.specs.Error.{Error, seen}
use Rattle.vhost_protocol.specs.FrontendCall.{FrontendCall, SetHdrFlags, Value, Frontend}
use Rattle.vhost_protocol.specs.Heard.{CallFits, IsNamedWell}
use Rattle.vhost_link.specs.declared.plain.PlainHandle.{PlainHandle}
use Rattle.vhost_link.specs.Ends.{Ends}
use Rattle.vhost_link.specs.Law.{Event}
use Rattle.vhost_link.specs.Mem.{event}
use Rattle.vhost_connection.specs.Talk.{State}
use Rattle.vhost_connection.specs.Hearing.{Fails}
use Rattle.vhost_frontend_core.specs.Frontend.{endpoint_of, session_of, awaits}
use Rattle.vhost_frontend_core.specs.Halves.{AsksHalfWithRoom, AsksAny, TakesHalf, makes_room}
use Rattle.vhost_frontend_core.specs.Awaiting.{MayAwait}
use Rattle.vhost_frontend_core.specs.Kept.{IsKeptFor}
use Rattle.vhost_frontend_core.specs.Taking.{Reads}
use Rattle.vhost_frontend_core.specs.declared.answer.Answer.{Answer}
use Rattle.vhost_frontend_core.specs.declared.asked.Sent.{Sent}
use Rattle.vhost_frontend_core.specs.declared.internal.FrontendInternal.{FrontendInternal}
use Rattle.vhost_frontend_core.specs.declared.values.answer.FrontendAnswer.{FrontendAnswer}
use Rattle.vhost_frontend_core.specs.Values.{answer_of, outcome_of}

-- every call but the one for which nothing is sent
abbrev pub IsSent : {H : Type 0} → FrontendCall H → Type 0
IsSent (SetHdrFlags flags) = ⊥
IsSent _ = ⊤

-- what a call is made of has the sizes of its types
pub record IsProper {H : Type 0} (call : FrontendCall H) : Type 0 where
  pub named : IsNamedWell call
  pub bits : Fits call
  pub small : CallFits call

-- what is awaited from then on: what was sent, or else what was awaited before
abbrev pub awaited_after : Result (Option Sent) declared.Error → Awaited → Awaited
awaited_after (Ok (Some sent)) before = sent.awaited
awaited_after _ before = before

-- why a call that is asked may want memory: it makes room for its answer; or the list of handles had been given away, and nothing changed
abbrev pub MayWant : {L H : Type 0} → FrontendCall H → FrontendInternal L H → FrontendInternal L H → Type 0
MayWant call old new = (makes_room (session_of old) call ≡ true) ⊎ (((endpoint_of old).list ≡ false) × (endpoint_of new ≡ record (endpoint_of old) { faulted = false }))

-- an ask that failed for want of memory had a reason for it
abbrev pub WantsFor : {L H A : Type 0} → FrontendCall H → FrontendInternal L H → Result A declared.Error → FrontendInternal L H → Type 0
WantsFor call old result new = IfErr result (λ e. e ≡ OutOfMemory → MayWant call old new)

module _ {L H : Type 0} (event : L → Event H → L → Type 0) (call : FrontendCall H) where
  -- A call was asked, and what is kept is what its answer needs.
  pub record AsksWell (old : FrontendInternal L H) (result : Result Sent declared.Error) (new : FrontendInternal L H) : Type 0 where
    pub asked : AsksAny event call old result new
    pub kept : IfOk result (λ sent. IsKeptFor call sent.awaited sent.kept)

  -- The answer of a call was taken, of what was sent for it, and nothing is awaited.
  pub record TakesValue (sent : Sent) (old : FrontendInternal L H) (answer : Answer H) (new : FrontendInternal L H) : Type 0 where
    pub taken : MayAwait call sent.awaited → IsKeptFor call sent.awaited sent.kept → TakesHalf event call (λ v. v) sent.awaited sent old (outcome_of answer) new
    pub quiet : awaits new ≡ Nobody

-- ---- over links in memory

-- the half that takes, of any call: the answer by the stream; or the link failed, this is the answer, and the session is as before
abbrev pub TakesResult : FrontendCall PlainHandle → Awaited → Header → State Ends PlainHandle → Frontend → Result (Value PlainHandle) Error → State Ends PlainHandle → Frontend → Type 0
TakesResult call awaited sent old f result new f' =
    Reads event call awaited sent f old (Some (answered f' result)) new
    ⊎ ((f' ≡ f) × (e : declared.Error) × (result ≡ Err (seen e)) × Fails event old true e new)

-- The answer of a call was taken, of what its half that asks sent: this is the answer, and nothing is awaited.
pub record TakesWell (call : FrontendCall PlainHandle) (sent : Sent) (old : FrontendInternal Ends PlainHandle) (answer : FrontendAnswer) (new : FrontendInternal Ends PlainHandle) : Type 0 where
  pub taken : MayAwait call sent.awaited → IsKeptFor call sent.awaited sent.kept
      → TakesResult call sent.awaited (fields_of sent.request) (endpoint_of old) (session_of old) (answer_of answer) (endpoint_of new) (session_of new)
  pub quiet : awaits new ≡ Nobody

module _ (call : FrontendCall PlainHandle) (old : FrontendInternal Ends PlainHandle) where
  -- A call was asked by its half; or nothing is sent for it, and it was done.
  pub data AsksCall : Result (Option Sent) declared.Error → FrontendInternal Ends PlainHandle → Type 0 where
    half : {sent : Sent} {new : FrontendInternal Ends PlainHandle} → AsksHalfWithRoom event call old (Ok sent) new → AsksCall (Ok (Some sent)) new
    refused : {e : declared.Error} {new : FrontendInternal Ends PlainHandle} → AsksHalfWithRoom event call old (Err e) new → AsksCall (Err e) new
    at_once : {new : FrontendInternal Ends PlainHandle} (flags : ℕ) → call ≡ SetHdrFlags flags → endpoint_of new ≡ endpoint_of old → session_of new ≡ record (session_of old) { header_flags = flags } → awaits new ≡ awaits old → AsksCall (Ok None) new
