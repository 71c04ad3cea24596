-- A fault of the link in a frontend's call that is a value.
use Rattle.std.proofs.Common.{◌≡◌, true, false, Option, Some, Result, Ok, Err, refl, subst, inl, inr}
use Rattle.std.specs.Prelude.{IfSome}
use Rattle.vhost_message.specs.MsgHeader.{fields_of}
use Rattle.vhost_message.specs.Header.{Header}
use Rattle.vhost_message.specs.declared.error.Error as declared
use Rattle.vhost_protocol.specs.Ask.{ask}
use Rattle.vhost_protocol.specs.Error.{Error, seen}
use Rattle.vhost_protocol.specs.FrontendCall.{FrontendCall, Frontend, Value}
use Rattle.vhost_protocol.specs.declared.asked.Awaited.{Awaited}
use Rattle.vhost_link.specs.Ends.{Ends}
use Rattle.vhost_link.specs.Law.{Move}
use Rattle.vhost_link.specs.Mem.{event}
use Rattle.vhost_link.specs.declared.plain.PlainHandle.{PlainHandle}
use Rattle.vhost_connection.specs.Talk.{State, Serves, has_moved}
use Rattle.vhost_frontend_core.specs.Asking.{AsksWithRoom}
use Rattle.vhost_frontend_core.specs.Asking.Asks.{refuses, fails}
use Rattle.vhost_frontend_core.specs.Asking.AsksWithRoom.{roomy, no_room}
use Rattle.vhost_frontend_core.specs.Frontend.{endpoint_of, session_of, awaits}
use Rattle.vhost_frontend_core.specs.Halves.{AsksHalfWithRoom}
use Rattle.vhost_frontend_core.specs.Kept.{IsKeptFor}
use Rattle.vhost_frontend_core.specs.ValueHalves.{AsksCall, TakesResult, TakesWell}
use Rattle.vhost_frontend_core.specs.ValueHalves.AsksCall.{half, refused}
use Rattle.vhost_frontend_core.specs.Values.{answer_of}
use Rattle.vhost_frontend_core.specs.declared.asked.Sent.{Sent}
use Rattle.vhost_frontend_core.specs.declared.internal.FrontendInternal.{FrontendInternal}
use Rattle.vhost_frontend_core.specs.declared.values.answer.FrontendAnswer.{FrontendAnswer}
use Rattle.vhost_promises.specs.Faults.{MeetsFaultAs}
use Rattle.vhost_promises.proofs.Awaiting.{may-be-awaited}
use Rattle.vhost_promises.proofs.FaultingRead.{unmet, met-first, met-later, went, read-unmet}

abbrev Link : Type 0
Link = State Ends PlainHandle

-- the answer is this error
abbrev says : Result (Value PlainHandle) Error → declared.Error → Type 0
says answer e = answer ≡ Err (seen e)

module _ (call : FrontendCall PlainHandle) where
  -- where it could not be asked
  met-asking : (old : Link) (f : Frontend) (before : Awaited) (e : declared.Error) (new : Link) (f' : Frontend) (after : Awaited) → AsksWithRoom event (ask f call) old f before (Err e) new f' after
      → old.faulted ≡ false → new.faulted ≡ true → MeetsFaultAs event old (says (Err (seen e))) new
  met-asking old f before e new f' after (roomy (refuses is)) sound met = absurd (unmet met sound)
  met-asking old f before e new f' after (roomy (fails is x)) sound met = met-first event _ old e new refl x met
  met-asking old f before e new f' after (no_room is) sound met = absurd (unmet met sound)

  -- where its request went out
  went-with-room : (old : Link) (f : Frontend) (before : Awaited) (sent : Sent) (new : Link) (f' : Frontend) (after : Awaited) → AsksWithRoom event (ask f call) old f before (Ok sent) new f' after
      → (m : Move PlainHandle) × Serves event old old.budget m new × (has_moved m ≡ true)
  went-with-room old f before sent new f' after (roomy x) = went event old f before sent new f' after x

  met-taking : (asked : Awaited) (sent : Header) (old mid : Link) (f : Frontend) (m : Move PlainHandle) (answer : Result (Value PlainHandle) Error) (new : Link) (f' : Frontend) → Serves event old old.budget m mid → has_moved m ≡ true
      → TakesResult call asked sent mid f answer new f' → new.faulted ≡ true → MeetsFaultAs event old (says answer) new
  met-taking asked sent old mid f m answer new f' s moved (inl reads) met = absurd (unmet met (read-unmet event call asked sent f mid _ new reads s.faulted))
  met-taking asked sent old mid f m answer new f' s moved (inr (same, e, is, x)) met = met-later event _ old mid m e new is s moved x met

  module _ (old : FrontendInternal Ends PlainHandle) (sound : (endpoint_of old).faulted ≡ false) where
    -- its request did not go out
    pub met-unsent : (e : declared.Error) (new : FrontendInternal Ends PlainHandle) → AsksCall call old (Err e) new → (endpoint_of new).faulted ≡ true → MeetsFaultAs event (endpoint_of old) (says (Err (seen e))) (endpoint_of new)
    met-unsent e new (refused h) met = met-asking (endpoint_of old) (session_of old) (awaits old) e (endpoint_of new) (session_of new) (awaits new) h sound met

    half-of : (sent : Sent) (middle : FrontendInternal Ends PlainHandle) → AsksCall call old (Ok (Some sent)) middle → AsksHalfWithRoom event call old (Ok sent) middle
    half-of sent middle (half h) = h

    met-sent : (sent : Sent) (middle : FrontendInternal Ends PlainHandle) (answer : FrontendAnswer) (new : FrontendInternal Ends PlainHandle) → AsksHalfWithRoom event call old (Ok sent) middle → IsKeptFor call sent.awaited sent.kept
        → TakesWell call sent middle answer new → (endpoint_of new).faulted ≡ true → MeetsFaultAs event (endpoint_of old) (says (answer_of answer)) (endpoint_of new)
    met-sent sent middle answer new h kept takes met =
        let (m, s, moved) = went-with-room (endpoint_of old) (session_of old) (awaits old) sent (endpoint_of middle) (session_of middle) (awaits middle) h in
        met-taking sent.awaited (fields_of sent.request) (endpoint_of old) (endpoint_of middle) (session_of middle) m (answer_of answer) (endpoint_of new) (session_of new) s moved (takes.taken (may-be-awaited event call (endpoint_of old) (endpoint_of middle) (session_of old) (session_of middle) (awaits old) (awaits middle) sent h) kept) met

    -- its request went out, and its answer was taken
    pub met-answered : (o : Option Sent) (sent : Sent) (middle : FrontendInternal Ends PlainHandle) (answer : FrontendAnswer) (new : FrontendInternal Ends PlainHandle) → o ≡ Some sent → AsksCall call old (Ok o) middle
        → IfSome o (λ s. IsKeptFor call s.awaited s.kept) → TakesWell call sent middle answer new → (endpoint_of new).faulted ≡ true → MeetsFaultAs event (endpoint_of old) (says (answer_of answer)) (endpoint_of new)
    met-answered o sent middle answer new is asks kept takes met =
        met-sent sent middle answer new (half-of sent middle (subst (λ (x : Option Sent). AsksCall call old (Ok x) middle) is asks)) (subst (λ (x : Option Sent). IfSome x (λ s. IsKeptFor call s.awaited s.kept)) is kept) takes met
