-- A frontend's call whose request and whose reply are known.
use Rattle.std.proofs.lemmas.Option.{same_Some}
use Rattle.std.proofs.Common.{◌≡◌, Bool, true, false, List, ◌++◌, Option, Some, Result, Ok, Err, refl, sym, ap, subst, ◌∙◌}
use Rattle.vhost_message.specs.HeardReq.{request_number}
use Rattle.vhost_message.specs.MsgHeader.{fields_of}
use Rattle.vhost_message.specs.declared.error.Error as declared
use Rattle.vhost_message.specs.declared.heard_req.HeardReq.{HeardReq}
use Rattle.vhost_protocol.specs.AnswerTable.{Answered, answered}
use Rattle.vhost_protocol.specs.Ask.{Sends, ask}
use Rattle.vhost_protocol.specs.Error.{Error}
use Rattle.vhost_protocol.specs.FrontendCall.{Frontend, FrontendCall, Value}
use Rattle.vhost_protocol.specs.Stream.{Cell}
use Rattle.vhost_protocol.specs.Take.{take}
use Rattle.vhost_protocol.specs.Written.{Written, written_cells, head_of}
use Rattle.vhost_protocol.specs.declared.asked.Awaited.{Awaited}
use Rattle.vhost_protocol.specs.declared.asked.Awaited.TheVariants.{Reply}
use Rattle.vhost_protocol.specs.declared.asked.Shape.{Shape}
use Rattle.vhost_link.specs.Ends.{Ends}
use Rattle.vhost_link.specs.Law.{Event}
use Rattle.vhost_link.specs.Mem.{event}
use Rattle.vhost_connection.specs.Memory.{stream, TalksLaw}
use Rattle.vhost_link.specs.declared.plain.PlainHandle.{PlainHandle}
use Rattle.vhost_connection.specs.Hearing.{Fails}
use Rattle.vhost_connection.specs.Hearing.Fails.{was_broken, no_memory, fault}
use Rattle.vhost_connection.specs.Talk.{State}
use Rattle.vhost_frontend.specs.Whole.{Calls}
use Rattle.vhost_frontend.specs.Whole.Calls.{ended, answered as took}
use Rattle.vhost_frontend_core.specs.Asking.{Asks, AsksWithRoom}
use Rattle.vhost_frontend_core.specs.Asking.Asks.{refuses, goes, fails}
use Rattle.vhost_frontend_core.specs.Asking.AsksWithRoom.{roomy, no_room}
use Rattle.vhost_frontend_core.specs.Frontend.{endpoint_of, session_of, awaits}
use Rattle.vhost_frontend_core.specs.Halves.{AsksHalf, AsksHalfWithRoom}
use Rattle.vhost_frontend_core.specs.Taking.{Takes, valued}
use Rattle.vhost_frontend_core.specs.Taking.Reads.{unread, read}
use Rattle.vhost_frontend_core.specs.Taking.Takes.{taken, stopped}
use Rattle.vhost_frontend_core.specs.declared.asked.Sent.{Sent}
use Rattle.vhost_frontend_core.specs.declared.internal.FrontendInternal.{FrontendInternal}
use Rattle.vhost_promises.specs.Runs.{of_link, answer_of_link}
use Rattle.vhost_promises.specs.Streams.{Near}
use Rattle.vhost_promises.proofs.Known.{hears-cut, none-handed}
use Rattle.vhost_promises.proofs.Whole.{cause-of-link}

abbrev pub Inner : Type 0
Inner = FrontendInternal Ends PlainHandle

-- a call of a side fails only for its link, or for want of memory
fails-of-link : {L H : Type 0} (event : L → Event H → L → Type 0) (old : State L H) (between : Bool) (e : declared.Error) (new : State L H) → Fails event old between e new → of_link e ≡ true
fails-of-link event old between e new (was_broken b same) = refl
fails-of-link event old between e new (no_memory b away same) = refl
fails-of-link event old between e new (fault c m b fell none most spent few broken faulted kept) = cause-of-link c

-- what is made of a stream: the answer and the session, and what is left
abbrev pub Outcome : Type 0
Outcome = Option (Answered PlainHandle) × List (Cell PlainHandle)

-- It was answered so.
pub record Answers {A : Type 0} (value : A → Value PlainHandle) (request : Written HeardReq PlainHandle) (outcome : Result (Value PlainHandle) Error) (f' : Frontend) (rest : List (Cell PlainHandle))
    (old : Near) (result : Result A declared.Error) (new : Near) (g : Frontend) : Type 0 where
  pub answered : valued value result ≡ outcome
  pub written : new.link.sent ≡ old.link.sent ++ written_cells request_number request
  pub left : stream new ≡ rest
  pub session : g ≡ f'

module _ {A : Type 0} (law : TalksLaw) (call : FrontendCall PlainHandle) (value : A → Value PlainHandle) (f f' : Frontend) (request : Written HeardReq PlainHandle) (shape : Shape)
    (outcome : Result (Value PlainHandle) Error) (cells left : List (Cell PlainHandle)) (sent_so : ask f call ≡ Sends request (Reply shape) f)
    (answered_so : take call (Reply shape) (head_of request_number request) f cells ≡ (Some (answered f' outcome), left)) where
  -- the request went out, and nothing was received
  record Went (old : Near) (sent : Sent) (mid : Near) (g : Frontend) : Type 0 where
    text : mid.link.sent ≡ old.link.sent ++ written_cells request_number request
    stream : stream mid ≡ stream old
    awaited : sent.awaited ≡ Reply shape
    header : fields_of sent.request ≡ head_of request_number request
    session : g ≡ f

  went : (old : Near) (before : Awaited) (sent : Sent) (mid : Near) (g : Frontend) (after : Awaited) → Asks event (ask f call) old f before (Ok sent) mid g after → Went old sent mid g
  went old before sent mid g after (goes {w} {awaited} is gone) =
      let both : Sends w awaited g ≡ Sends request (Reply shape) f = sym is ∙ sent_so in
      let same : w ≡ request = cc in
      let t = law old mid _ gone.serves.talks in
      record {
        text = t.1 ∙ ap (λ x. old.link.sent ++ written_cells request_number x) same;
        stream = none-handed (stream old) (stream mid) t.0;
        awaited = gone.awaits ∙ (let a : awaited ≡ Reply shape = cc in a);
        header = gone.header ∙ ap (head_of request_number) same;
        session = (let s : g ≡ f = cc in s);
      }

  asked-of-link : (old : Near) (before : Awaited) (e : declared.Error) (new : Near) (g : Frontend) (after : Awaited) → Asks event (ask f call) old f before (Err e) new g after → of_link e ≡ true
  asked-of-link old before e new g after (refuses is) = let both : _ ≡ Sends request (Reply shape) f = sym is ∙ sent_so in absurd cc
  asked-of-link old before e new g after (fails is x) = fails-of-link event old false e new x

  room-of-link : (old : Near) (before : Awaited) (e : declared.Error) (new : Near) (g : Frontend) (after : Awaited) → AsksWithRoom event (ask f call) old f before (Err e) new g after → of_link e ≡ true
  room-of-link old before e new g after (roomy asks) = asked-of-link old before e new g after asks
  room-of-link old before e new g after (no_room is) = refl

  -- what was taken, of what the definitions make of the stream
  Took : Near → Result A declared.Error → Near → Frontend → Type 0
  Took old result new g = (valued value result ≡ outcome) × (stream new ≡ left) × (g ≡ f') × (new.link.sent ≡ old.link.sent)

  parts : (result : Result A declared.Error) (g : Frontend) (rest : List (Cell PlainHandle)) → take call (Reply shape) (head_of request_number request) f cells ≡ (Some (answered g (valued value result)), rest)
      → (valued value result ≡ outcome) × (rest ≡ left) × (g ≡ f')
  parts result g rest is =
      let both : (Some (answered g (valued value result)), rest) ≡ (Some (answered f' outcome), left) = sym is ∙ answered_so in
      let same = same_Some _ _ (ap (λ (x : Outcome). x.0) both) in
      (ap (λ (x : Answered PlainHandle). x.result) same, ap (λ (x : Outcome). x.1) both, ap (λ (x : Answered PlainHandle). x.session) same)

  taking : (old : Near) (result : Result A declared.Error) (new : Near) (g : Frontend) → stream old ≡ cells → answer_of_link result ≡ false
      → Takes event call value (Reply shape) (head_of request_number request) old f result new g → Took old result new g
  unfolding Took
  taking old result new g came sound (taken (read h)) =
      let (cut, quiet) = hears-cut law (λ xs. take call (Reply shape) (head_of request_number request) f xs) old new (Some (answered g (valued value result))) h.hears in
      let (result_is, left_is, session_is) = parts result g (stream new) (subst (λ xs. take call (Reply shape) (head_of request_number request) f xs ≡ (Some (answered g (valued value result)), stream new)) came cut) in
      (result_is, left_is, session_is, quiet)
  taking old result new g came sound (taken (unread same)) =
      let (result_is, left_is, session_is) = parts result g cells (same cells) in
      (result_is, came ∙ left_is, session_is, refl)
  taking old (Err e) new g came sound (stopped x) = let found : true ≡ false = sym (fails-of-link event old true e new x) ∙ sound in absurd cc

  -- a call, by what it begins as and how it was asked
  by-halves : (old middle new : Inner) (sent : Sent) (result : Result A declared.Error) → session_of old ≡ f → stream (endpoint_of old) ≡ cells → answer_of_link result ≡ false
      → Asks event (ask (session_of old) call) (endpoint_of old) (session_of old) (awaits old) (Ok sent) (endpoint_of middle) (session_of middle) (awaits middle)
      → Takes event call value sent.awaited (fields_of sent.request) (endpoint_of middle) (session_of middle) result (endpoint_of new) (session_of new)
      → Answers value request outcome f' left (endpoint_of old) result (endpoint_of new) (session_of new)
  unfolding Took
  by-halves old middle new sent result begins came sound a takes =
      let asks = subst (λ g. Asks event (ask g call) (endpoint_of old) g (awaits old) (Ok sent) (endpoint_of middle) (session_of middle) (awaits middle)) begins a in
      let w = went (endpoint_of old) (awaits old) sent (endpoint_of middle) (session_of middle) (awaits middle) asks in
      let by_f = subst (λ g. Takes event call value sent.awaited (fields_of sent.request) (endpoint_of middle) g result (endpoint_of new) (session_of new)) w.session takes in
      let by_awaited = subst (λ x. Takes event call value x (fields_of sent.request) (endpoint_of middle) f result (endpoint_of new) (session_of new)) w.awaited by_f in
      let by_header = subst (λ h. Takes event call value (Reply shape) h (endpoint_of middle) f result (endpoint_of new) (session_of new)) w.header by_awaited in
      let (result_is, left_is, session_is, quiet) = taking (endpoint_of middle) result (endpoint_of new) (session_of new) (w.stream ∙ came) sound by_header in
      record { answered = result_is; written = quiet ∙ w.text; left = left_is; session = session_is }

  pub whole-known : (old : Inner) (result : Result A declared.Error) (new : Inner) → session_of old ≡ f → stream (endpoint_of old) ≡ cells → answer_of_link result ≡ false
      → Calls event call (AsksHalf event call) value old result new → Answers value request outcome f' left (endpoint_of old) result (endpoint_of new) (session_of new)
  whole-known old (Err e) new begins came sound (ended a) =
      let asks = subst (λ g. Asks event (ask g call) (endpoint_of old) g (awaits old) (Err e) (endpoint_of new) (session_of new) (awaits new)) begins a in
      let found : true ≡ false = sym (asked-of-link (endpoint_of old) (awaits old) e (endpoint_of new) (session_of new) (awaits new) asks) ∙ sound in absurd cc
  whole-known old result new begins came sound (took {sent} {middle} a takes) = by-halves old middle new sent result begins came sound a takes

  -- the same of a call that makes room for its reply
  pub roomy-known : (old : Inner) (result : Result A declared.Error) (new : Inner) → session_of old ≡ f → stream (endpoint_of old) ≡ cells → answer_of_link result ≡ false
      → Calls event call (AsksHalfWithRoom event call) value old result new → Answers value request outcome f' left (endpoint_of old) result (endpoint_of new) (session_of new)
  roomy-known old (Err e) new begins came sound (ended a) =
      let asks = subst (λ g. AsksWithRoom event (ask g call) (endpoint_of old) g (awaits old) (Err e) (endpoint_of new) (session_of new) (awaits new)) begins a in
      let found : true ≡ false = sym (room-of-link (endpoint_of old) (awaits old) e (endpoint_of new) (session_of new) (awaits new) asks) ∙ sound in absurd cc
  roomy-known old result new begins came sound (took {sent} {middle} (roomy a) takes) = by-halves old middle new sent result begins came sound a takes
