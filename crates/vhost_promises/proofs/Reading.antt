-- A frontend reads the features of a device whose reply is known.
use Rattle.std.proofs.lemmas.Option.{same_Some}
use Rattle.std.proofs.Common.{◌≡◌, ℕ, Bool, true, false, List, [], ◌++◌, Option, Some, Result, Ok, Err, refl, sym, ap, subst, ◌∙◌}
use Rattle.vhost_message.specs.HeardReq.{request_number}
use Rattle.vhost_message.specs.MsgHeader.{fields_of}
use Rattle.vhost_message.specs.declared.error.Error as declared
use Rattle.vhost_message.specs.declared.heard_req.HeardReq.{HeardReq}
use Rattle.vhost_message.specs.declared.heard_req.HeardReq.TheVariants.{GET_FEATURES}
use Rattle.vhost_protocol.specs.AnswerTable.{Answered, answered}
use Rattle.vhost_protocol.specs.Ask.{ask}
use Rattle.vhost_protocol.specs.Error.{Error}
use Rattle.vhost_protocol.specs.FrontendCall.{Frontend, GetFeatures, Number, Value, new_frontend}
use Rattle.vhost_protocol.specs.ReplySplit.{reply_split, received}
use Rattle.vhost_protocol.specs.Stream.{Cell, plain}
use Rattle.vhost_protocol.specs.Take.{take}
use Rattle.vhost_protocol.specs.Written.{Empty, Written, written_cells, head_of}
use Rattle.vhost_protocol.specs.declared.asked.Awaited.{Awaited}
use Rattle.vhost_protocol.specs.declared.asked.Awaited.TheVariants.{Reply}
use Rattle.vhost_protocol.specs.declared.asked.Shape.TheVariants as shape
use Rattle.vhost_link.specs.Ends.{Ends}
use Rattle.vhost_link.specs.Law.{Event}
use Rattle.vhost_link.specs.Mem.{event}
use Rattle.vhost_connection.specs.Memory.{stream, TalksLaw}
use Rattle.vhost_link.specs.declared.plain.PlainHandle.{PlainHandle}
use Rattle.vhost_connection.specs.Hearing.{Fails}
use Rattle.vhost_connection.specs.Hearing.Fails.{was_broken, no_memory, fault}
use Rattle.vhost_connection.specs.Talk.{State}
use Rattle.vhost_frontend.specs.Whole.{Whole}
use Rattle.vhost_frontend.specs.Whole.Calls.{ended, answered as took}
use Rattle.vhost_frontend_core.specs.Asking.{Asks}
use Rattle.vhost_frontend_core.specs.Asking.Asks.{refuses, goes, fails}
use Rattle.vhost_frontend_core.specs.Frontend.{endpoint_of, session_of, awaits}
use Rattle.vhost_frontend_core.specs.Taking.{Takes, valued}
use Rattle.vhost_frontend_core.specs.Taking.Reads.{unread, read}
use Rattle.vhost_frontend_core.specs.Taking.Takes.{taken, stopped}
use Rattle.vhost_frontend_core.specs.declared.asked.Sent.{Sent}
use Rattle.vhost_frontend_core.specs.declared.internal.FrontendInternal.{FrontendInternal}
use Rattle.vhost_promises.specs.Read.{ReadsFeatures}
use Rattle.vhost_promises.specs.Runs.{of_link, answer_of_link}
use Rattle.vhost_promises.specs.Served.{features_reply, features_request}
use Rattle.vhost_promises.specs.Streams.{Near}
use Rattle.vhost_promises.proofs.Known.{hears-cut, none-handed}
use Rattle.vhost_promises.proofs.Whole.{cause-of-link}

-- a call of a side fails only for its link, or for want of memory
fails-of-link : {L H : Type 0} (event : L → Event H → L → Type 0) (old : State L H) (between : Bool) (e : declared.Error) (new : State L H) → Fails event old between e new → of_link e ≡ true
fails-of-link event old between e new (was_broken b same) = refl
fails-of-link event old between e new (no_memory b away same) = refl
fails-of-link event old between e new (fault c m b fell none most spent few broken faulted kept) = cause-of-link c

-- the request of a new frontend
abbrev request : Written HeardReq PlainHandle
request = record { request = GET_FEATURES; reply = false; need_reply = false; payload = Empty; handles = [] }

-- it went out, and nothing was received
record Went (queues : ℕ) (old : Near) (sent : Sent) (mid : Near) (f : Frontend) : Type 0 where
  text : mid.link.sent ≡ old.link.sent ++ plain features_request
  stream : stream mid ≡ stream old
  awaited : sent.awaited ≡ Reply shape.U64
  header : fields_of sent.request ≡ head_of request_number request
  session : f ≡ new_frontend queues

-- what is made of a stream: the answer and the session, and what is left
abbrev Outcome : Type 0
Outcome = Option (Answered PlainHandle) × List (Cell PlainHandle)

abbrev outcome : Frontend → Result (Value PlainHandle) Error → List (Cell PlainHandle) → Outcome
outcome f result left = (Some (answered f result), left)

abbrev takes-of : List (Cell PlainHandle) → Frontend → Outcome
takes-of cells f = take GetFeatures (Reply shape.U64) (head_of request_number request) f cells

-- a frontend that was new, and has read the features
abbrev remembers : ℕ → Frontend
remembers queues = record (new_frontend queues) { offered = 0x40000003 }

module _ (law : TalksLaw) (queues : ℕ) where
  went : (old : Near) (before : Awaited) (sent : Sent) (mid : Near) (f : Frontend) (after : Awaited) → Asks event (ask (new_frontend queues) GetFeatures) old (new_frontend queues) before (Ok sent) mid f after → Went queues old sent mid f
  went old before sent mid f after (goes {w} is g) =
      let same : w ≡ request = cc in
      let t = law old mid _ g.serves.talks in
      record {
        text = t.1 ∙ ap (λ x. old.link.sent ++ written_cells request_number x) same;
        stream = none-handed (stream old) (stream mid) t.0;
        awaited = g.awaits ∙ (let a : after ≡ Reply shape.U64 = cc in a);
        header = g.header ∙ ap (head_of request_number) same;
        session = (let s : f ≡ new_frontend queues = cc in s);
      }

  known : takes-of (plain features_reply) (new_frontend queues) ≡ outcome (remembers queues) (Ok (Number 0x40000003)) []
  unfolding reply_split received
  known = refl

  -- the answer, by what the definitions make of it
  answer-of : (result : Result ℕ declared.Error) (f : Frontend) (left : List (Cell PlainHandle)) → takes-of (plain features_reply) (new_frontend queues) ≡ outcome f (valued Number result) left
      → (result ≡ Ok 0x40000003) × (left ≡ []) × (f ≡ remembers queues)
  answer-of result f left is =
      let both : outcome (remembers queues) (Ok (Number 0x40000003)) [] ≡ outcome f (valued Number result) left = sym known ∙ is in
      let same = same_Some _ _ (ap (λ (x : Outcome). x.0) both) in
      (by-number result (ap (λ (x : Answered PlainHandle). x.result) same), sym (ap (λ (x : Outcome). x.1) both), sym (ap (λ (x : Answered PlainHandle). x.session) same))
    where
      by-number : (result : Result ℕ declared.Error) → Ok (Number 0x40000003) ≡ valued {H = PlainHandle} Number result → result ≡ Ok 0x40000003
      by-number (Ok n) is = cc
      by-number (Err e) is = absurd cc

  taking : (old : Near) (f : Frontend) (result : Result ℕ declared.Error) (new : Near) (f' : Frontend) → f ≡ new_frontend queues → stream old ≡ plain features_reply → answer_of_link result ≡ false
      → Takes event GetFeatures Number (Reply shape.U64) (head_of request_number request) old f result new f'
      → ((result ≡ Ok 0x40000003) × (stream new ≡ []) × (f' ≡ remembers queues)) × (new.link.sent ≡ old.link.sent)
  taking old f result new f' is came sound (taken (read h)) =
      let (cut, quiet) = hears-cut law (λ cells. takes-of cells f) old new (Some (answered f' (valued Number result))) h.hears in
      let reads = subst (λ g. takes-of (plain features_reply) g ≡ outcome f' (valued Number result) (stream new)) is
      (subst (λ cells. takes-of cells f ≡ outcome f' (valued Number result) (stream new)) came cut) in
      (answer-of result f' (stream new) reads, quiet)
  taking old f result new f' is came sound (taken (unread same)) =
      let reads = subst (λ g. takes-of (plain features_reply) g ≡ outcome f' (valued Number result) (plain features_reply)) is (same (plain features_reply)) in
      let none : plain {H = PlainHandle} features_reply ≡ [] = (answer-of result f' (plain features_reply) reads).1 in absurd cc
  taking old f (Err e) new f' is came sound (stopped x) = let found : true ≡ false = sym (fails-of-link event old true e new x) ∙ sound in absurd cc

  asked-of-link : (old : Near) (before : Awaited) (e : declared.Error) (new : Near) (f : Frontend) (after : Awaited) → Asks event (ask (new_frontend queues) GetFeatures) old (new_frontend queues) before (Err e) new f after → of_link e ≡ true
  asked-of-link old before e new f after (refuses is) = absurd cc
  asked-of-link old before e new f after (fails is x) = fails-of-link event old false e new x

  pub features-read : (old : FrontendInternal Ends PlainHandle) (result : Result ℕ declared.Error) (new : FrontendInternal Ends PlainHandle) → session_of old ≡ new_frontend queues → stream (endpoint_of old) ≡ plain features_reply → answer_of_link result ≡ false
      → Whole event GetFeatures Number old result new → ReadsFeatures (endpoint_of old) (new_frontend queues) result (endpoint_of new) (session_of new)
  features-read old (Err e) new begins came sound (ended a) =
      let asks = subst (λ f. Asks event (ask f GetFeatures) (endpoint_of old) f (awaits old) (Err e) (endpoint_of new) (session_of new) (awaits new)) begins a in
      let found : true ≡ false = sym (asked-of-link (endpoint_of old) (awaits old) e (endpoint_of new) (session_of new) (awaits new) asks) ∙ sound in absurd cc
  features-read old result new begins came sound (took {sent} {middle} a takes) =
      let asks = subst (λ f. Asks event (ask f GetFeatures) (endpoint_of old) f (awaits old) (Ok sent) (endpoint_of middle) (session_of middle) (awaits middle)) begins a in
      let w = went (endpoint_of old) (awaits old) sent (endpoint_of middle) (session_of middle) (awaits middle) asks in
      let t = taking (endpoint_of middle) (session_of middle) result (endpoint_of new) (session_of new) w.session (w.stream ∙ came) sound
      (subst (λ h. Takes event GetFeatures Number (Reply shape.U64) h (endpoint_of middle) (session_of middle) result (endpoint_of new) (session_of new)) w.header
      (subst (λ x. Takes event GetFeatures Number x (fields_of sent.request) (endpoint_of middle) (session_of middle) result (endpoint_of new) (session_of new)) w.awaited takes)) in
      record { answered = t.0.0; written = t.1 ∙ w.text; left = t.0.1; session = t.0.2 }
