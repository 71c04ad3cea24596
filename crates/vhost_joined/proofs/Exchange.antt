-- One exchange between both sides over links in memory, where they are in step.
use Rattle.std.proofs.Common.{◌≡◌, ℕ, ◌≤◌, ◌⊎◌, inl, inr, Bool, true, false, List, [], ◌++◌, length, Option, Some, None, Result, Ok, Err, refl, sym, ◌∙◌, ap, subst, arith}
use Rattle.std.specs.Prelude.{◌||◌}
use Rattle.std.proofs.Math.Bool.{or-true}
use Rattle.std.proofs.lemmas.List.{append-nil}
use Rattle.vhost_message.specs.declared.error.Error as declared
use Rattle.vhost_message.specs.declared.error.Error.TheVariants as error
use Rattle.vhost_message.specs.declared.heard_req.HeardReq.{HeardReq}
use Rattle.vhost_message.specs.HeardReq.{request_number}
use Rattle.vhost_message.specs.MsgHeader.{fields_of}
use Rattle.vhost_message.specs.declared.limits.TheConstants.{MAX_MSG_TEXT}
use Rattle.vhost_protocol.specs.AnswerTable.{Answered, answered}
use Rattle.vhost_protocol.specs.Ask as ask
use Rattle.vhost_protocol.specs.Ask.{ask}
use Rattle.vhost_protocol.specs.declared.asked.Awaited.{Awaited}
use Rattle.vhost_protocol.specs.Error.{Error, OutOfMemory, seen, seen_result}
use Rattle.vhost_protocol.specs.FrontendCall.{FrontendCall, SetHdrFlags, Value, Nothing, Frontend}
use Rattle.vhost_protocol.specs.Handler.{Meets}
use Rattle.vhost_protocol.specs.Joined.{AgreeOn, InStep, Shown, stops, read_as, unsent}
use Rattle.vhost_protocol.specs.Joined as protocol
use Rattle.vhost_protocol.specs.Served.{reply, cells_of}
use Rattle.vhost_protocol.specs.Step.{Outcome}
use Rattle.vhost_protocol.specs.Stream.{Cell, bytes}
use Rattle.vhost_protocol.specs.Take.{take}
use Rattle.vhost_protocol.specs.Written.{Written, written_cells}
use Rattle.vhost_link.specs.declared.plain.PlainHandle.{PlainHandle}
use Rattle.vhost_backend_req_handler.specs.Serving.{fitting}
use Rattle.vhost_link.specs.Mem.{event}
use Rattle.vhost_frontend_core.specs.Taking.{Reads}
use Rattle.vhost_frontend_core.specs.declared.asked.Sent.{Sent}
use Rattle.vhost_joined.specs.declared.halt.Stop.{Stop}
use Rattle.vhost_joined.specs.declared.halt.Stop.TheVariants.{Premise}
use Rattle.vhost_joined.specs.declared.sides.Exchanged.{Exchanged}
use Rattle.vhost_frontend_core.specs.Values.{answer_of}
use Rattle.vhost_joined.specs.Device.{Gives, opens_backend, opens_gpu}
use Rattle.vhost_frontend_core.specs.ValueHalves.{IsProper, TakesResult}
use Rattle.vhost_joined.specs.OnWay.{incoming, outgoing}
use Rattle.vhost_joined.specs.Text.{text_of, no_text}
use Rattle.vhost_joined.specs.Joined.{View, Cuts, IsReady, Passes, PassesBoth, Keeps, Answers, ends, is_over}
use Rattle.vhost_joined.specs.Sides as sides
use Rattle.vhost_joined.specs.Sides.{Parts, cuts_of, as_view, IsSound, HaveLists, stop_of, Served, Serves, EndsUnsent, IsAskedBy, Exchanges}
use Rattle.vhost_joined.proofs.Asked.{both-empty, IsAsked, is-asked, IsUnasked, is-unasked, arrived, emptied, kept, held, sender-cuts, receiver-cuts, IsTaken, is-taken}
use Rattle.vhost_joined.proofs.Served.{pair-first, pair-second, ServingFaults, Handled1, split-handled, faulted-so, both-passed, IsServed, is-served, last_stop, stopped-as, over-as, fed}
use Rattle.vhost_joined.proofs.Calls.{ends-so}
use Rattle.vhost_joined.proofs.Outcomes.{sendable, few-written, Outcomes, outcomes}
use Rattle.vhost_joined.proofs.Spent.{End, Faults, faults, passes-none}

-- a step for which no link was called
passed-none : (budget : ℕ) (old new : Cuts) → new ≡ old → PassesBoth budget [] [] old new
passed-none budget old new same = record { mid = old; asked = passes-none budget old old refl; answered = passes-none budget old new same }

from_some : {A : Type 0} → A → Option A → A
from_some a None = a
from_some a (Some b) = b

module _ {Dev : Type 0} (gives : Gives Dev) (call : FrontendCall PlainHandle) (bit : Bool) (old : Parts Dev) (sound : IsSound old) (lists : HaveLists old) (had : Bool) (ready : IsReady bit (record (as_view old None) { lists = had })) where
  -- what was seen before the lists of handles were made
  abbrev before : View Dev
  before = record (as_view old None) { lists = had }

  nothing-asked : incoming old.serving ≡ []
  nothing-asked = (both-empty (incoming old.serving) (outgoing old.asking) ready.in_step.no_request).0

  nothing-incoming : incoming old.asking ≡ []
  nothing-incoming = (both-empty (incoming old.asking) (outgoing old.serving) ready.in_step.no_reply).0

  -- ---- a call that was sent and served

  module _ (good : IsProper call) (sent : Sent) (fe1 : End) (f1 : Frontend) (aw1 : Awaited) (ask1 : IsAsked call old.asking old.frontend old.awaited sent fe1 f1 aw1) where
    abbrev w : Written HeardReq PlainHandle
    w = ask1.message

    asked-whole : outgoing fe1 ≡ written_cells request_number w
    asked-whole = ask1.request ∙ ap (λ xs. xs ++ written_cells request_number w) sound.no_request

    few-asked : length (outgoing fe1) ≤ MAX_MSG_TEXT
    few-asked = subst (λ cells. length cells ≤ MAX_MSG_TEXT) (sym asked-whole) (few-written w (sendable call good old.frontend w aw1 f1 ask1.asked old.session).size)

    module _ (ans : Result (Value PlainHandle) Error) (stop : Option Stop) (new : Parts Dev) (v : Served gives call sent (record old { asking = fe1; frontend = f1; awaited = aw1 }) ans stop new) where
      abbrev he1 : End
      he1 = v.reached.serving_then

      abbrev he2 : End
      he2 = v.serving_after

      abbrev fe2 : End
      fe2 = v.asking_then

      abbrev fe3 : End
      fe3 = v.asking_after

      came : incoming he1 ≡ written_cells request_number w
      came = arrived fe1 old.serving fe2 he1 v.reached.there nothing-asked ∙ asked-whole

      clear : outgoing he1 ≡ []
      clear = held fe1 old.serving fe2 he1 v.reached.there ∙ sound.no_reply

      abbrev IsServed1 : Type 0
      IsServed1 = IsServed gives he1 he2 old.session new.session old.device new.device w (seen_result v.result)

      abbrev Faults1 : Type 0
      Faults1 = ServingFaults gives he1 he2 old.session new.session old.device new.device

      served-or-not : IsServed1 ⊎ Faults1
      served-or-not = by-cases (split-handled gives he1 he2 old.session new.session old.device new.device v.result (v.reached.handled sound.failed) (ap {A = End} (λ e. e.broken) v.reached.there.receiver ∙ sound.serves) (ap {A = End} (λ e. e.list) v.reached.there.receiver ∙ lists.1))
        where
          by-cases : Handled1 gives he1 he2 old.session new.session old.device new.device (seen_result v.result) ⊎ Faults1 → IsServed1 ⊎ Faults1
          by-cases (inl h) = inl (is-served gives he1 he2 old.session new.session old.device new.device w (seen_result v.result) (sendable call good old.frontend w aw1 f1 ask1.asked old.session) h came clear)
          by-cases (inr k) = inr k

      abbrev Done1 : Outcome PlainHandle → Type 0
      Done1 o = Outcomes call good old.frontend w aw1 f1 ask1.asked gives old.session old.device new.device ready.in_step.agree ready.negotiates.0 ready.plain o

      done1 : (o : Outcome PlainHandle) → Meets (fitting gives) opens_backend opens_gpu old.session old.device (read_as w) o new.device → Done1 o
      done1 o m = outcomes call good old.frontend w aw1 f1 ask1.asked gives old.session old.device new.device ready.in_step.agree ready.negotiates.0 ready.plain o m

      -- the frontend has nothing more to receive, before the reply comes
      nothing-left : incoming fe2 ≡ []
      nothing-left = kept fe1 old.serving fe2 he1 v.reached.there ∙ ask1.incoming ∙ nothing-incoming

      abbrev Goal : Type 0
      Goal = Answers gives before call ans (as_view new stop)

      -- a fault on one side stops the run
      premise : (new.asking.faulted || new.serving.faulted) ≡ true → Goal
      premise faulted = inr (v.stops ∙ ap (λ b. stop_of b new.frontend new.session (ends call) v.result new.reply.bytes) faulted)

      asking-whole : fe3.broken ≡ None
      asking-whole = ap {A = End} (λ e. e.broken) v.back.receiver ∙ ap {A = End} (λ e. e.broken) v.reached.there.sender ∙ ask1.broken

      asking-sound : fe3.faulted ≡ false
      asking-sound = ap {A = End} (λ e. e.faulted) v.back.receiver ∙ ap {A = End} (λ e. e.faulted) v.reached.there.sender ∙ ask1.faulted

      asking-list : fe3.list ≡ true
      asking-list = ap {A = End} (λ e. e.list) v.back.receiver ∙ ap {A = End} (λ e. e.list) v.reached.there.sender ∙ ask1.list

      asking-budget : fe3.budget ≡ old.asking.budget
      asking-budget = ap {A = End} (λ e. e.budget) v.back.receiver ∙ ap {A = End} (λ e. e.budget) v.reached.there.sender ∙ ask1.budget

      serving-budget : he1.budget ≡ old.asking.budget
      serving-budget = ap {A = End} (λ e. e.budget) v.reached.there.receiver ∙ sound.budget

      asking-passed : Passes old.asking.budget (written_cells request_number w) (cuts_of old.asking.link) (cuts_of fe3.link)
      asking-passed = subst (λ c. Passes old.asking.budget (written_cells request_number w) (cuts_of old.asking.link) c) (sym (receiver-cuts he2 fe2 new.serving fe3 v.back ∙ sender-cuts fe1 old.serving fe2 he1 v.reached.there)) ask1.passed

      -- the handler's link between the two carries
      abbrev OfServing : (Cuts → Cuts → Type 0) → Type 0
      OfServing P = P (cuts_of he1.link) (cuts_of he2.link) → P (cuts_of old.serving.link) (cuts_of new.serving.link)

      of-serving : (P : Cuts → Cuts → Type 0) → OfServing P
      of-serving P p = subst (λ c. P c (cuts_of new.serving.link)) (receiver-cuts fe1 old.serving fe2 he1 v.reached.there) (subst (λ c. P (cuts_of he1.link) c) (sym (sender-cuts he2 fe2 new.serving fe3 v.back)) p)

      serving-fault : Faults1 → Goal
      serving-fault k = premise (ap (λ b. new.asking.faulted || b) (ap {A = End} (λ e. e.faulted) v.back.sender ∙ faulted-so gives he1 he2 old.session new.session old.device new.device k) ∙ or-true new.asking.faulted)

      asking-fault : (e : declared.Error) → Faults fe3 new.asking e → Goal
      asking-fault e k = premise (ap (λ b. b || new.serving.faulted) k.faulted)

      -- nothing had been heard before
      request-fresh : he1.ahead ≡ []
      request-fresh = ap {A = End} (λ e. e.ahead) v.reached.there.receiver ∙ (both-empty old.serving.ahead old.serving.link.pending nothing-asked).0

      reply-fresh : fe3.ahead ≡ []
      reply-fresh = ap {A = End} (λ e. e.ahead) v.back.receiver ∙ (both-empty fe2.ahead fe2.link.pending nothing-left).0

      -- what came of the reply is all that the handler wrote
      came-back : incoming fe3 ≡ outgoing he2
      came-back = arrived he2 fe2 new.serving fe3 v.back nothing-left

      both-served : IsServed1 → IsTaken call aw1 (fields_of sent.request) f1 fe3 (Some (answered new.frontend ans)) new.asking → Goal
      unfolding from_some
      both-served h t = by-cases (stopped-as new.frontend new.session (ends call) v.result (bytes replied))
        where
          k : Done1 h.outcome
          k = done1 h.outcome h.meets

          replied : List (Cell PlainHandle)
          replied = cells_of request_number (reply w.request h.outcome.served)

          few-served : length (outgoing he2) ≤ MAX_MSG_TEXT
          few-served = subst (λ cells. length cells ≤ MAX_MSG_TEXT) (sym h.written) k.few

          is_reply : new.reply ≡ text_of replied
          is_reply = v.reached.copied few-served ∙ ap text_of h.written

          cut : ◌≡◌ {A = Option (Answered PlainHandle) × List (Cell PlainHandle)} (Some (answered new.frontend ans), incoming new.asking) (Some k.known.to_caller, [])
          cut = sym t.cut ∙ ap (λ cells. take call aw1 (fields_of sent.request) f1 cells) (arrived he2 fe2 new.serving fe3 v.back nothing-left ∙ h.written)
              ∙ ap (λ header. take call aw1 header f1 replied) ask1.header ∙ k.taken

          some : Some (answered new.frontend ans) ≡ Some k.known.to_caller
          some = pair-first cut

          session : new.frontend ≡ k.known.to_caller.session
          session = ap {A = Option (Answered PlainHandle)} (λ x. (from_some (k.known.to_caller) x).session) some

          faultless : (new.asking.faulted || new.serving.faulted) ≡ false
          faultless = ap (λ b. b || new.serving.faulted) t.faulted ∙ ap {A = End} (λ e. e.faulted) v.back.sender ∙ h.handled.replies.serves.faulted

          stopped : stop ≡ stop_of false new.frontend new.session (ends call) v.result (bytes replied)
          stopped = v.stops ∙ ap (λ b. stop_of b new.frontend new.session (ends call) v.result new.reply.bytes) faultless ∙ ap (λ x. stop_of false new.frontend new.session (ends call) v.result x.bytes) is_reply

          last : Bool
          last = stops old.session.profile w.request h.outcome

          over : is_over new.frontend new.session (ends call) (seen_result v.result) (bytes replied) ≡ last
          over = ap (λ a. is_over new.frontend new.session (ends call) a (bytes replied)) h.answer
              ∙ over-as old.session.profile new.frontend new.session w.request (ends call) h.outcome (ap {A = Frontend} (λ g. g.profile) session ∙ k.profile) h.session (ends-so old.frontend call w aw1 f1 ask1.asked) (k.alive sound.failed)

          no_request : incoming new.serving ++ outgoing new.asking ≡ []
          no_request = ap (λ xs. incoming new.serving ++ xs) (t.outgoing ∙ held he2 fe2 new.serving fe3 v.back ∙ emptied fe1 old.serving fe2 he1 v.reached.there) ∙ append-nil (incoming new.serving) ∙ kept he2 fe2 new.serving fe3 v.back ∙ h.nothing

          no_reply : incoming new.asking ++ outgoing new.serving ≡ []
          no_reply = ap (λ xs. incoming new.asking ++ xs) (emptied he2 fe2 new.serving fe3 v.back) ∙ append-nil (incoming new.asking) ∙ pair-second cut

          in_step : last ≡ false → InStep new.frontend new.session new.awaited (incoming new.serving ++ outgoing new.asking) (incoming new.asking ++ outgoing new.serving)
          in_step before = record {
            agree = subst (λ g. AgreeOn g new.session) (sym session) (subst (λ u. AgreeOn (k.known.to_caller.session) u) (sym h.session) (k.known.agree before));
            nobody = v.quiet;
            no_request = no_request;
            no_reply = no_reply;
          }

          shown : Shown PlainHandle
          shown = record { request = written_cells request_number w; handled = Some h.outcome.answer; reply = replied; result = ans; last = last }

          keeps : stop ≡ last_stop last → (Some h.outcome.answer ≡ Some (Err OutOfMemory) → ⊥) → Keeps gives before call ans (as_view new stop)
          keeps at_last without = record {
            shown = shown;
            step = subst (λ x. protocol.Exchanges gives opens_backend opens_gpu old.frontend old.session old.device call x shown new.frontend new.session new.device) (sym ask1.asked) (h.outcome, k.meets, h.session, k.known.known ∙ sym some, refl, refl, refl, refl);
            answered = refl;
            request = v.request few-asked ∙ ap text_of asked-whole;
            reply = is_reply;
            stopped = at_last;
            in_step = in_step;
            no_request = no_request;
            no_reply = no_reply;
            asking = record {
              mid = cuts_of fe3.link;
              asked = asking-passed;
              answered = subst (λ n. Passes n replied (cuts_of fe3.link) (cuts_of new.asking.link)) asking-budget (t.passed replied (λ some. (reply-fresh, came-back ∙ h.written, pair-second cut)));
            };
            serving = of-serving (λ a b. PassesBoth old.asking.budget (written_cells request_number w) replied a b)
                (subst (λ n. PassesBoth n (written_cells request_number w) replied (cuts_of he1.link) (cuts_of he2.link)) serving-budget
                (subst (λ cells. PassesBoth he1.budget (written_cells request_number w) cells (cuts_of he1.link) (cuts_of he2.link)) h.wrote
                (both-passed gives he1 he2 old.session new.session old.device new.device (seen_result v.result) h.handled (written_cells request_number w) (λ some. (request-fresh, came, h.nothing)))));
            fed = without;
            budget = t.budget ∙ asking-budget;
          }

          by-cases : ((stop_of false new.frontend new.session (ends call) v.result (bytes replied) ≡ Some Premise) × (seen_result v.result ≡ Err OutOfMemory))
              ⊎ (stop_of false new.frontend new.session (ends call) v.result (bytes replied) ≡ last_stop (is_over new.frontend new.session (ends call) (seen_result v.result) (bytes replied))) → Goal
          by-cases (inl (e, memory)) = inr (stopped ∙ e)
          by-cases (inr e) = let at_last = e ∙ ap last_stop over in inl (keeps (stopped ∙ at_last) (λ is. fed new.frontend new.session (ends call) v.result (bytes replied) last at_last (h.answer ∙ cc is)))

      exchanged : Goal
      exchanged = by-cases served-or-not (subst (λ a. TakesResult call a (fields_of sent.request) fe3 f1 ans new.asking new.frontend) ask1.awaits v.takes)
        where
          taken-so : Reads event call aw1 (fields_of sent.request) f1 fe3 (Some (answered new.frontend ans)) new.asking → IsTaken call aw1 (fields_of sent.request) f1 fe3 (Some (answered new.frontend ans)) new.asking
          taken-so t = is-taken call aw1 (fields_of sent.request) f1 fe3 (Some (answered new.frontend ans)) asking-whole asking-sound t

          by-cases : IsServed1 ⊎ Faults1 → TakesResult call aw1 (fields_of sent.request) fe3 f1 ans new.asking new.frontend → Goal
          by-cases (inr k) (inl t) = serving-fault k
          by-cases (inl h) (inl t) = both-served h (taken-so t)
          by-cases x (inr (same, e, is, fails)) = asking-fault e (faults fe3 new.asking true e fails asking-whole asking-list)

    -- a request that was sent: it was served, since nothing was in its way
    sent-out : (x : Exchanged) (new : Parts Dev) → Serves gives call sent (record old { asking = fe1; frontend = f1; awaited = aw1 }) x new → Answers gives before call (answer_of x.answer) (as_view new x.stop)
    sent-out x new (sides.served v) = exchanged (answer_of x.answer) x.stop new v
    sent-out x new (sides.no_way v) = inr v.stops

  -- ---- a call that was not sent

  -- it was refused, and nothing changed
  refused-here : (e : Error) (new : Parts Dev) → ask old.frontend call ≡ ask.Refuses e → new ≡ record old { request = new.request; reply = no_text } → new.request ≡ text_of (outgoing old.asking) → Keeps gives before call (Err e) (as_view new None)
  refused-here e new refuses same is_request = record {
    shown = unsent (Err e);
    step = subst (λ x. protocol.Exchanges gives opens_backend opens_gpu old.frontend old.session old.device call x (unsent (Err e)) new.frontend new.session new.device) (sym refuses)
        (refl, ap {A = Parts Dev} (λ p. p.frontend) same, ap {A = Parts Dev} (λ p. p.session) same, ap {A = Parts Dev} (λ p. p.device) same);
    answered = refl;
    request = is_request ∙ ap text_of sound.no_request;
    reply = ap {A = Parts Dev} (λ p. p.reply) same;
    stopped = refl;
    in_step = λ last. subst (λ p. InStep p.frontend p.session p.awaited (incoming p.serving ++ outgoing p.asking) (incoming p.asking ++ outgoing p.serving)) (sym same) ready.in_step;
    no_request = ap {A = Parts Dev} (λ p. incoming p.serving ++ outgoing p.asking) same ∙ ready.in_step.no_request;
    no_reply = ap {A = Parts Dev} (λ p. incoming p.asking ++ outgoing p.serving) same ∙ ready.in_step.no_reply;
    asking = passed-none old.asking.budget (cuts_of old.asking.link) (cuts_of new.asking.link) (ap {A = Parts Dev} (λ p. cuts_of p.asking.link) same);
    serving = passed-none old.asking.budget (cuts_of old.serving.link) (cuts_of new.serving.link) (ap {A = Parts Dev} (λ p. cuts_of p.serving.link) same);
    fed = λ is. cc is;
    budget = ap {A = Parts Dev} (λ p. p.asking.budget) same;
  }

  unsent-so : (e : declared.Error) (asked : Parts Dev) (x : Exchanged) (new : Parts Dev) → (e ≡ error.OutOfMemory → ⊥) → IsAskedBy call old (Err e) asked → EndsUnsent e asked x new → Answers gives before call (answer_of x.answer) (as_view new x.stop)
  unsent-so e asked x new other by end = by-cases u.why
    where
      u : IsUnasked call old.asking old.frontend old.awaited e asked.asking asked.frontend asked.awaited
      u = is-unasked call old.asking old.frontend old.awaited other sound.asks lists.0 by.asks

      by-cases : ((ask old.frontend call ≡ ask.Refuses (seen e)) × (asked.asking ≡ old.asking)) ⊎ (((w : Written HeardReq PlainHandle) × (aw : Awaited) × (g : Frontend) × (ask old.frontend call ≡ ask.Sends w aw g)) × Faults old.asking asked.asking e) → Answers gives before call (answer_of x.answer) (as_view new x.stop)
      by-cases (inl (refuses, unchanged)) =
          let none : x.stop ≡ None = end.goes_on (ap {A = End} (λ s. s.faulted) unchanged ∙ sound.sound) in
          let here : asked ≡ old = by.same ∙ ap {A = End} (λ s. record old { asking = s; frontend = asked.frontend; awaited = asked.awaited }) unchanged ∙ ap {A = Frontend} (λ g. record old { frontend = g; awaited = asked.awaited }) u.session ∙ ap {A = Awaited} (λ a. record old { awaited = a }) u.awaits in
          let same : new ≡ record old { request = new.request; reply = no_text } = end.same ∙ ap {A = Parts Dev} (λ p. record p { request = new.request; reply = no_text }) here in
          let gone_none : outgoing asked.asking ≡ [] = ap {A = End} (λ s. outgoing s) unchanged ∙ sound.no_request in
          let is_request : new.request ≡ text_of (outgoing old.asking) = end.request (subst (λ cells. length cells ≤ MAX_MSG_TEXT) (sym gone_none) (omega arith)) ∙ ap {A = End} (λ s. text_of (outgoing s)) unchanged in
          inl (subst (λ t. Keeps gives before call (answer_of x.answer) (as_view new t)) (sym none)
          (subst (λ a. Keeps gives before call a (as_view new None)) (sym end.answer) (refused-here (seen e) new refuses same is_request)))
      by-cases (inr (sends, k)) = inr (end.stopped k.faulted)

  -- it was answered at once
  at-once : (x : Exchanged) (new : Parts Dev) (flags : ℕ) → call ≡ SetHdrFlags flags → answer_of x.answer ≡ Ok Nothing → x.stop ≡ None
      → new ≡ record old { frontend = record old.frontend { header_flags = flags }; request = no_text; reply = no_text } → Answers gives before call (answer_of x.answer) (as_view new x.stop)
  at-once x new flags asked is none same =
      inl (subst (λ t. Keeps gives before call (answer_of x.answer) (as_view new t)) (sym none) (subst (λ a. Keeps gives before call a (as_view new None)) (sym is) (subst (λ p. Keeps gives before call (Ok Nothing) (as_view p None)) (sym same) (subst (λ c. Keeps gives before c (Ok Nothing) (as_view after None)) (sym asked) keeps))))
    where
      after : Parts Dev
      after = record old { frontend = record old.frontend { header_flags = flags }; request = no_text; reply = no_text }

      keeps : Keeps gives before (SetHdrFlags flags) (Ok Nothing) (as_view after None)
      keeps = record {
        shown = unsent (Ok Nothing);
        step = (refl, refl, refl, refl);
        answered = refl;
        request = refl;
        reply = refl;
        stopped = refl;
        in_step = λ last. record {
          agree = record { offered = ready.in_step.agree.offered; acked_protocol_features = ready.in_step.agree.acked_protocol_features; postcopy = ready.in_step.agree.postcopy; acked = ready.in_step.agree.acked; profile = ready.in_step.agree.profile };
          nobody = ready.in_step.nobody;
          no_request = ready.in_step.no_request;
          no_reply = ready.in_step.no_reply;
        };
        no_request = ready.in_step.no_request;
        no_reply = ready.in_step.no_reply;
        asking = passed-none old.asking.budget (cuts_of old.asking.link) (cuts_of old.asking.link) refl;
        serving = passed-none old.asking.budget (cuts_of old.serving.link) (cuts_of old.serving.link) refl;
        fed = λ is. cc is;
        budget = refl;
      }

  -- ---- whatever became of a call

  pub answers-so : {x : Exchanged} {new : Parts Dev} → Exchanges gives call old (Ok x) new → Answers gives before call (answer_of x.answer) (as_view new x.stop)
  answers-so {x} {new} (sides.at_once flags asked is none same) = at-once x new flags asked is none same
  answers-so {x} {new} (sides.unsent e asked other by end) = unsent-so e asked x new other by end
  answers-so {x} {new} (sides.sent_out sent asked good by done) =
      sent-out good sent asked.asking asked.frontend asked.awaited (is-asked call old.asking old.frontend old.awaited by.asks) x new (subst (λ p. Serves gives call sent p x new) by.same done)
