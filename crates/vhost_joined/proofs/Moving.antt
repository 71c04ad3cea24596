-- What one exchange does, whatever was before.
use Rattle.std.proofs.Common.{◌≡◌, ℕ, ◌≤◌, ◌⊎◌, inl, inr, Bool, true, false, List, [], ◌∷◌, ◌++◌, length, take, Option, Some, None, Result, Ok, Err, refl, sym, ◌∙◌, ap, subst, arith}
use Rattle.std.specs.Prelude.{◌||◌, ◌&&◌, ⊤}
use Rattle.std.proofs.Math.Bool.{or-true}
use Rattle.std.proofs.lemmas.List.{append-nil, length-take}
use Rattle.vhost_message.specs.declared.error.Error as declared
use Rattle.vhost_message.specs.declared.error.Error.TheVariants as error
use Rattle.vhost_message.specs.declared.heard_req.HeardReq.{HeardReq}
use Rattle.vhost_message.specs.declared.limits.TheConstants.{MAX_MSG_TEXT}
use Rattle.vhost_message.specs.HeardReq.{request_number}
use Rattle.vhost_message.specs.MsgHeader.{fields_of}
use Rattle.vhost_protocol.specs.AnswerTable.{answered}
use Rattle.vhost_protocol.specs.Ask as ask
use Rattle.vhost_protocol.specs.Ask.{ask}
use Rattle.vhost_protocol.specs.Codes.{allows_handles}
use Rattle.vhost_protocol.specs.declared.asked.Awaited.{Awaited}
use Rattle.vhost_protocol.specs.Error.{Error, seen, seen_result}
use Rattle.vhost_protocol.specs.FrontendCall.{FrontendCall, SetHdrFlags, Value, Nothing, Frontend}
use Rattle.vhost_protocol.specs.Handler.{MeetsRow}
use Rattle.vhost_protocol.specs.Joined.{read_as}
use Rattle.vhost_protocol.specs.Run as run
use Rattle.vhost_protocol.specs.Session.{Session, heard_in}
use Rattle.vhost_protocol.specs.Split.{Message, split}
use Rattle.vhost_protocol.specs.Stream.{Cell, has_some}
use Rattle.vhost_protocol.specs.Take.{take as answer_in}
use Rattle.vhost_protocol.specs.Written.{Written}
use Rattle.vhost_protocol.proofs.TextLaws.{written-split}
use Rattle.vhost_link.specs.declared.plain.PlainHandle.{PlainHandle}
use Rattle.vhost_backend_req_handler.specs.Serving.{fitting}
use Rattle.vhost_frontend_core.specs.Values.{answer_of}
use Rattle.vhost_frontend_core.specs.ValueHalves.{IsProper, TakesResult}
use Rattle.vhost_frontend_core.specs.declared.asked.Sent.{Sent}
use Rattle.vhost_joined.specs.declared.halt.Stop.{Stop}
use Rattle.vhost_joined.specs.declared.halt.Stop.TheVariants.{Premise}
use Rattle.vhost_joined.specs.declared.sides.Exchanged.{Exchanged}
use Rattle.vhost_joined.specs.Device.{Gives, opens_backend, opens_gpu}
use Rattle.vhost_joined.specs.Joined as joined
use Rattle.vhost_joined.specs.Joined.{Cuts, View, Passes, Stops, ends, stop_after, request_cells, Moves}
use Rattle.vhost_joined.specs.OnWay.{incoming, outgoing}
use Rattle.vhost_joined.specs.Sides as sides
use Rattle.vhost_joined.specs.Sides.{Parts, cuts_of, as_view, IsSound, HaveLists, stop_of, Reached, Served, FoundNoRoom, Serves, EndsUnsent, IsAskedBy, Exchanges}
use Rattle.vhost_joined.specs.Text.{Text, text_of, no_text}
use Rattle.vhost_joined.proofs.Asked.{both-empty, IsAsked, is-asked, IsUnasked, is-unasked, arrived-behind, emptied, kept, held, sender-cuts, receiver-cuts, IsTaken, is-taken}
use Rattle.vhost_joined.proofs.Served.{Handled1, ServingFaults, split-handled, faulted-so, handled-first, handled-written, both-passed, IsServed, is-served, pair-first, pair-second}
use Rattle.vhost_joined.proofs.Outcomes.{meets-wider, sendable, few-met, few-written}
use Rattle.vhost_joined.proofs.Spent.{End, Faults, faults}

-- ---- a device that may do more

module _ {Dev : Type 0} (gives : Gives Dev) where
  meets-plainly : (s : Session) (d : Dev) (m : Message HeardReq PlainHandle) (a : Result ⊤ Error) (written : List (Cell PlainHandle)) (s' : Session) (d' : Dev)
      → MeetsRow (fitting gives) opens_backend opens_gpu s d m a written s' d' → MeetsRow gives opens_backend opens_gpu s d m a written s' d'
  meets-plainly s d m a written s' d' (o, met, answers, writes, keeps) = (o, meets-wider (fitting gives) gives opens_backend opens_gpu (λ old c x new p. p.0) s d m o d' met, answers, writes, keeps)

  handles-plainly : (s : Session) (d : Dev) (heard : Result (Message HeardReq PlainHandle) Error) (a : Result ⊤ Error) (written : List (Cell PlainHandle)) (s' : Session) (d' : Dev)
      → run.Handles heard_in allows_handles (λ (t : Session). t.failed) (MeetsRow (fitting gives) opens_backend opens_gpu) s d heard a written s' d'
      → run.Handles heard_in allows_handles (λ (t : Session). t.failed) (MeetsRow gives opens_backend opens_gpu) s d heard a written s' d'
  handles-plainly s d (Err e) a written s' d' h = h
  handles-plainly s d (Ok m) a written s' d' h = meets-plainly s d m a written s' d' h

-- why a run stops, by the handler's answer as the definitions see it
stops-as : (f : Frontend) (s : Session) (b : Bool) (r : Result ⊤ declared.Error) (reply : List ℕ) → stop_of false f s b r reply ≡ stop_after f s b (Some (seen_result r)) false reply
stops-as f s b (Ok u) reply = refl
stops-as f s b (Err error.OutOfMemory) reply = refl
stops-as f s b (Err e) reply = refl

module _ {Dev : Type 0} (gives : Gives Dev) (call : FrontendCall PlainHandle) (old : Parts Dev) (sound : IsSound old) (lists : HaveLists old) (had : Bool) where
  -- what was seen before the lists of handles were made
  abbrev before : View Dev
  before = record (as_view old None) { lists = had }

  -- what was on the way is with its receiver
  to-handler : before.to_handler ≡ incoming old.serving
  to-handler = ap (λ xs. incoming old.serving ++ xs) sound.no_request ∙ append-nil (incoming old.serving)

  to-frontend : before.to_frontend ≡ incoming old.asking
  to-frontend = ap (λ xs. incoming old.asking ++ xs) sound.no_reply ∙ append-nil (incoming old.asking)

  -- ---- a request that was sent

  module _ (good : IsProper call) (sent : Sent) (fe1 : End) (f1 : Frontend) (aw1 : Awaited) (ask1 : IsAsked call old.asking old.frontend old.awaited sent fe1 f1 aw1) where
    abbrev w : Written HeardReq PlainHandle
    w = ask1.message

    pub asked-whole : outgoing fe1 ≡ request_cells w
    asked-whole = ask1.request ∙ ap (λ xs. xs ++ request_cells w) sound.no_request

    pub few-asked : length (outgoing fe1) ≤ MAX_MSG_TEXT
    few-asked = subst (λ cells. length cells ≤ MAX_MSG_TEXT) (sym asked-whole) (few-written w (sendable call good old.frontend w aw1 f1 ask1.asked old.session).size)

    abbrev mid : Parts Dev
    mid = record old { asking = fe1; frontend = f1; awaited = aw1 }

    -- ---- that came to the handler

    module _ (result : Result ⊤ declared.Error) (fe2 he2 : End) (text : Text) (s' : Session) (d' : Dev) (rc : Reached gives mid result fe2 he2 text s' d') where
      abbrev he1 : End
      he1 = rc.serving_then

      coming : before.to_handler ++ request_cells w ≡ incoming he1
      coming = ap (λ xs. xs ++ request_cells w) to-handler ∙ sym (arrived-behind fe1 old.serving fe2 he1 rc.there ∙ ap (λ xs. incoming old.serving ++ xs) asked-whole)

      pub clear : outgoing he1 ≡ []
      clear = held fe1 old.serving fe2 he1 rc.there ∙ sound.no_reply

      serving-budget : he1.budget ≡ old.asking.budget
      serving-budget = ap {A = End} (λ e. e.budget) rc.there.receiver ∙ sound.budget

      serving-cuts : cuts_of he1.link ≡ cuts_of old.serving.link
      serving-cuts = receiver-cuts fe1 old.serving fe2 he1 rc.there

      served-or-not : Handled1 gives he1 he2 old.session s' old.device d' (seen_result result) ⊎ ServingFaults gives he1 he2 old.session s' old.device d'
      served-or-not = split-handled gives he1 he2 old.session s' old.device d' result (rc.handled sound.failed) (ap {A = End} (λ e. e.broken) rc.there.receiver ∙ sound.serves) (ap {A = End} (λ e. e.list) rc.there.receiver ∙ lists.1)

      -- where nothing was on the way, the handler reads this request
      pub own-request : before.to_handler ≡ [] → incoming he1 ≡ request_cells w
      own-request none = sym coming ∙ ap (λ xs. xs ++ request_cells w) none

      own-both : (heard : Result (Message HeardReq PlainHandle) Error) (left : List (Cell PlainHandle)) → split (heard_in old.session) allows_handles (incoming he1) ≡ (heard, left) → before.to_handler ≡ []
          → ◌≡◌ {A = Result (Message HeardReq PlainHandle) Error × List (Cell PlainHandle)} (heard, left) (Ok (read_as w), [])
      own-both heard left first none =
          sym first ∙ ap (λ cells. split (heard_in old.session) allows_handles cells) (own-request none ∙ sym (append-nil (request_cells w)))
          ∙ written-split (heard_in old.session) allows_handles request_number w [] (sendable call good old.frontend w aw1 f1 ask1.asked old.session)

      -- and calls its link for it
      own-unheard : (heard : Result (Message HeardReq PlainHandle) Error) (way : List (Cell PlainHandle)) → before.to_handler ≡ way → split (heard_in old.session) allows_handles (incoming he1) ≡ (heard, incoming he2)
          → has_some (joined.unheard way (request_cells w)) ≡ true → (he1.ahead ≡ []) × (incoming he1 ≡ joined.unheard way (request_cells w)) × (incoming he2 ≡ [])
      own-unheard heard [] none first some = (
        ap {A = End} (λ e. e.ahead) rc.there.receiver ∙ (both-empty old.serving.ahead old.serving.link.pending (sym to-handler ∙ none)).0,
        own-request none,
        pair-second (own-both heard (incoming he2) first none),
      )
      own-unheard heard (c ∷ way) is first some = absurd (cc some)

      abbrev unheard1 : List (Cell PlainHandle)
      unheard1 = joined.unheard before.to_handler (request_cells w)

      -- what was written is short, at least where this request was the first
      pub few-served : Handled1 gives he1 he2 old.session s' old.device d' (seen_result result) → before.to_handler ≡ [] → length (outgoing he2) ≤ MAX_MSG_TEXT
      few-served h none =
          let k : IsServed gives he1 he2 old.session s' old.device d' w (seen_result result) = is-served gives he1 he2 old.session s' old.device d' w (seen_result result) (sendable call good old.frontend w aw1 f1 ask1.asked old.session) h (own-request none) clear in
          subst (λ cells. length cells ≤ MAX_MSG_TEXT) (sym k.written) (few-met call good old.frontend w aw1 f1 ask1.asked gives old.session old.device d' k.outcome k.meets)

      few-faulted : ServingFaults gives he1 he2 old.session s' old.device d' → length (outgoing he2) ≤ MAX_MSG_TEXT
      few-faulted (inl k) = subst (λ cells. length cells ≤ MAX_MSG_TEXT) (sym (k.reading.sent ∙ clear)) (omega arith)
      few-faulted (inr k) = subst (λ cells. length cells ≤ MAX_MSG_TEXT) (sym (k.sent ∙ ap (λ xs. xs ++ take k.count k.reply) clear)) (let long = length-take k.count k.reply in let few = k.few in omega (arith, long, few))

      replied : (new_text : Text) → new_text ≡ text → (before.to_handler ≡ []) ⊎ (length (outgoing he2) ≤ MAX_MSG_TEXT) → new_text ≡ text_of (outgoing he2)
      replied new_text is (inr few) = is ∙ rc.copied few
      replied new_text is (inl none) = is ∙ rc.copied (by-cases served-or-not)
        where
          by-cases : Handled1 gives he1 he2 old.session s' old.device d' (seen_result result) ⊎ ServingFaults gives he1 he2 old.session s' old.device d' → length (outgoing he2) ≤ MAX_MSG_TEXT
          by-cases (inl h) = few-served h none
          by-cases (inr k) = few-faulted k

      module _ (new : View Dev) (session : new.session ≡ s') (device : new.device ≡ d') (link : new.serving ≡ cuts_of he2.link) where
        reads-first : (heard : Result (Message HeardReq PlainHandle) Error) → split (heard_in old.session) allows_handles (incoming he1) ≡ (heard, incoming he2) → joined.ReadsFirst gives before new w (incoming he2) heard
        reads-first heard first = record {
          first = ap (λ cells. split (heard_in old.session) allows_handles cells) coming ∙ first;
          own = λ none. pair-first (own-both heard (incoming he2) first none);
        }

        serves-handled : Handled1 gives he1 he2 old.session s' old.device d' (seen_result result) → joined.Serves gives before new w (incoming he2) (outgoing he2) (Some (seen_result result))
        serves-handled h =
            let wrote : outgoing he2 ≡ h.written = handled-written gives he1 he2 old.session s' old.device d' (seen_result result) h ∙ ap (λ xs. xs ++ h.written) clear in
            let passed = both-passed gives he1 he2 old.session s' old.device d' (seen_result result) h unheard1 (own-unheard h.heard before.to_handler refl (handled-first gives he1 he2 old.session s' old.device d' (seen_result result) h)) in
            joined.served h.heard (seen_result result)
            (subst (λ cells. joined.PassesBoth old.asking.budget unheard1 cells (cuts_of old.serving.link) new.serving) (sym wrote)
            (subst (λ c. joined.PassesBoth old.asking.budget unheard1 h.written (cuts_of old.serving.link) c) (sym link)
            (subst (λ c. joined.PassesBoth old.asking.budget unheard1 h.written c (cuts_of he2.link)) serving-cuts
            (subst (λ n. joined.PassesBoth n unheard1 h.written (cuts_of he1.link) (cuts_of he2.link)) serving-budget passed))))
            (reads-first h.heard (handled-first gives he1 he2 old.session s' old.device d' (seen_result result) h))
            (subst (λ cells. run.Handles heard_in allows_handles (λ (t : Session). t.failed) (MeetsRow gives opens_backend opens_gpu) old.session old.device h.heard (seen_result result) cells new.session new.device) (sym wrote)
            (subst (λ t. run.Handles heard_in allows_handles (λ (t : Session). t.failed) (MeetsRow gives opens_backend opens_gpu) old.session old.device h.heard (seen_result result) h.written t new.device) (sym session)
            (subst (λ x. run.Handles heard_in allows_handles (λ (t : Session). t.failed) (MeetsRow gives opens_backend opens_gpu) old.session old.device h.heard (seen_result result) h.written s' x) (sym device)
            (handles-plainly gives old.session old.device h.heard (seen_result result) h.written s' d' h.handles))))

        serves-faulted : ServingFaults gives he1 he2 old.session s' old.device d' → joined.Serves gives before new w (incoming he2) (outgoing he2) None
        serves-faulted (inl k) = joined.unread k.reading.cause k.reading.read
            (subst (λ c. Stops old.asking.budget k.reading.cause (cuts_of old.serving.link) c) (sym link)
            (subst (λ c. Stops old.asking.budget k.reading.cause c (cuts_of he2.link)) serving-cuts
            (subst (λ n. Stops n k.reading.cause (cuts_of he1.link) (cuts_of he2.link)) serving-budget k.reading.stopped)))
            (k.reading.sent ∙ clear) (session ∙ k.session) (device ∙ k.device) (coming ∙ k.reading.came)
        serves-faulted (inr k) = joined.unanswered k.cause k.message k.answer k.reply k.after k.count
            (subst (λ c. joined.StopsReply old.asking.budget k.cause unheard1 (cuts_of old.serving.link) c) (sym link)
            (subst (λ c. joined.StopsReply old.asking.budget k.cause unheard1 c (cuts_of he2.link)) serving-cuts
            (subst (λ n. joined.StopsReply n k.cause unheard1 (cuts_of he1.link) (cuts_of he2.link)) serving-budget (k.stopped unheard1 (own-unheard (Ok k.message) before.to_handler refl k.first)))))
            (reads-first (Ok k.message) k.first)
            (subst (λ x. MeetsRow gives opens_backend opens_gpu old.session old.device k.message k.answer k.reply k.after x) (sym device) (meets-plainly gives old.session old.device k.message k.answer k.reply k.after d' k.meets))
            k.short (k.sent ∙ ap (λ xs. xs ++ take k.count k.reply) clear) (session ∙ k.session)

      -- the frontend's end, before the reply comes
      still-coming : incoming fe2 ≡ before.to_frontend
      still-coming = kept fe1 old.serving fe2 he1 rc.there ∙ ask1.incoming ∙ sym to-frontend

      asking-cuts : cuts_of fe2.link ≡ cuts_of fe1.link
      asking-cuts = sender-cuts fe1 old.serving fe2 he1 rc.there

    -- ---- whose reply came back

    module _ (ans : Result (Value PlainHandle) Error) (stop : Option Stop) (new : Parts Dev) (v : Served gives call sent mid ans stop new) where
      abbrev he2 : End
      he2 = v.serving_after

      abbrev fe2 : End
      fe2 = v.asking_then

      abbrev fe3 : End
      fe3 = v.asking_after

      abbrev he0 : End
      he0 = v.reached.serving_then

      abbrev view : View Dev
      view = as_view new stop

      pub came-back : before.to_frontend ++ outgoing he2 ≡ incoming fe3
      came-back = sym (arrived-behind he2 fe2 new.serving fe3 v.back ∙ ap (λ xs. xs ++ outgoing he2) (still-coming v.result fe2 he2 new.reply new.session new.device v.reached))

      handler-left : view.to_handler ≡ incoming he2 ++ outgoing new.asking
      handler-left = ap (λ xs. xs ++ outgoing new.asking) (kept he2 fe2 new.serving fe3 v.back)

      frontend-left : view.to_frontend ≡ incoming new.asking
      frontend-left = ap (λ xs. incoming new.asking ++ xs) (emptied he2 fe2 new.serving fe3 v.back) ∙ append-nil (incoming new.asking)

      serving-link : view.serving ≡ cuts_of he2.link
      serving-link = sender-cuts he2 fe2 new.serving fe3 v.back

      asking-end : fe3.budget ≡ old.asking.budget
      asking-end = ap {A = End} (λ e. e.budget) v.back.receiver ∙ ap {A = End} (λ e. e.budget) v.reached.there.sender ∙ ask1.budget

      asking-whole : fe3.broken ≡ None
      asking-whole = ap {A = End} (λ e. e.broken) v.back.receiver ∙ ap {A = End} (λ e. e.broken) v.reached.there.sender ∙ ask1.broken

      asking-sound : fe3.faulted ≡ false
      asking-sound = ap {A = End} (λ e. e.faulted) v.back.receiver ∙ ap {A = End} (λ e. e.faulted) v.reached.there.sender ∙ ask1.faulted

      pub asking-list : fe3.list ≡ true
      asking-list = ap {A = End} (λ e. e.list) v.back.receiver ∙ ap {A = End} (λ e. e.list) v.reached.there.sender ∙ ask1.list

      nothing-unsent : outgoing fe3 ≡ []
      nothing-unsent = held he2 fe2 new.serving fe3 v.back ∙ emptied fe1 old.serving fe2 he0 v.reached.there

      same-cuts : cuts_of fe3.link ≡ cuts_of fe1.link
      same-cuts = receiver-cuts he2 fe2 new.serving fe3 v.back ∙ asking-cuts v.result fe2 he2 new.reply new.session new.device v.reached

      exchanged : (answer : Option (Result ⊤ Error)) (lost : Bool) → (lost ≡ false → outgoing new.asking ≡ []) → joined.Serves gives before view w (incoming he2) (outgoing he2) answer → joined.Takes gives before call w aw1 f1 (cuts_of fe1.link) (outgoing he2) ans view lost
          → stop ≡ stop_after new.frontend new.session (ends call) answer lost new.reply.bytes → new.asking.budget ≡ old.asking.budget → Moves gives before call ans view
      exchanged answer lost none serves takes stopped budget = joined.sent (record {
        message = w;
        awaited = aw1;
        after = f1;
        asked = ask1.asked;
        mid = cuts_of fe1.link;
        passed = ask1.passed;
        request = v.request few-asked ∙ ap text_of asked-whole;
        left = incoming he2;
        came = outgoing he2;
        answer = answer;
        serves = serves;
        reply = replied v.result fe2 he2 new.reply new.session new.device v.reached new.reply refl;
        lost = lost;
        takes = takes;
        behind = outgoing new.asking;
        on_way = handler-left;
        whole = none;
        stopped = stopped;
        budget = budget;
      })

      -- the handler's part
      abbrev Handled2 : Type 0
      Handled2 = Handled1 gives he0 he2 old.session new.session old.device new.device (seen_result v.result) ⊎ ServingFaults gives he0 he2 old.session new.session old.device new.device

      both-ends : (lost : Bool) → new.asking.faulted ≡ lost → (lost ≡ false → outgoing new.asking ≡ []) → joined.Takes gives before call w aw1 f1 (cuts_of fe1.link) (outgoing he2) ans view lost
          → new.asking.budget ≡ old.asking.budget → Handled2 → Moves gives before call ans view
      both-ends lost at none takes budget (inl h) =
          exchanged (Some (seen_result v.result)) lost none (serves-handled v.result fe2 he2 new.reply new.session new.device v.reached view refl refl serving-link h) takes (by-fault lost at) budget
        where
          quiet : new.serving.faulted ≡ false
          quiet = ap {A = End} (λ e. e.faulted) v.back.sender ∙ h.replies.serves.faulted

          by-fault : (b : Bool) → new.asking.faulted ≡ b → stop ≡ stop_after new.frontend new.session (ends call) (Some (seen_result v.result)) b new.reply.bytes
          by-fault false is =
              v.stops ∙ ap (λ x. stop_of (x || new.serving.faulted) new.frontend new.session (ends call) v.result new.reply.bytes) is ∙ ap (λ x. stop_of x new.frontend new.session (ends call) v.result new.reply.bytes) quiet
              ∙ stops-as new.frontend new.session (ends call) v.result new.reply.bytes
          by-fault true is = v.stops ∙ ap (λ x. stop_of (x || new.serving.faulted) new.frontend new.session (ends call) v.result new.reply.bytes) is
      both-ends lost at none takes budget (inr k) =
          exchanged None lost none (serves-faulted v.result fe2 he2 new.reply new.session new.device v.reached view refl refl serving-link k) takes
          (v.stops ∙ ap (λ x. stop_of (new.asking.faulted || x) new.frontend new.session (ends call) v.result new.reply.bytes) (ap {A = End} (λ e. e.faulted) v.back.sender ∙ faulted-so gives he0 he2 old.session new.session old.device new.device k)
          ∙ ap (λ x. stop_of x new.frontend new.session (ends call) v.result new.reply.bytes) (or-true new.asking.faulted)) budget

      handled-here : Handled2
      handled-here = served-or-not v.result fe2 he2 new.reply new.session new.device v.reached

      moved-taken : IsTaken call aw1 (fields_of sent.request) f1 fe3 (Some (answered new.frontend ans)) new.asking → Moves gives before call ans view
      moved-taken t = both-ends false t.faulted (λ kept'. t.outgoing ∙ nothing-unsent)
          (joined.taken
          (subst (λ c. Passes old.asking.budget [] c (cuts_of new.asking.link)) same-cuts (subst (λ n. Passes n [] (cuts_of fe3.link) (cuts_of new.asking.link)) asking-end (t.passed [] (λ some. absurd (cc some)))))
          v.quiet
          (ap (λ header. answer_in call aw1 header f1 (before.to_frontend ++ outgoing he2)) (sym ask1.header) ∙ ap (λ cells. answer_in call aw1 (fields_of sent.request) f1 cells) came-back ∙ t.cut
          ∙ ap (λ xs. (Some (answered new.frontend ans), xs)) (sym frontend-left)))
          (t.budget ∙ asking-end) handled-here

      moved-lost : (e : declared.Error) → new.frontend ≡ f1 → ans ≡ Err (seen e) → Faults fe3 new.asking e → Moves gives before call ans view
      moved-lost e same is k = both-ends true k.faulted (λ whole. absurd (cc whole))
          (joined.lost k.cause k.read (subst (λ c. Stops old.asking.budget k.cause c (cuts_of new.asking.link)) same-cuts (subst (λ n. Stops n k.cause (cuts_of fe3.link) (cuts_of new.asking.link)) asking-end k.stopped))
          (is ∙ ap {A = declared.Error} {B = Result (Value PlainHandle) Error} (λ x. Err (seen x)) k.error) same v.quiet (came-back ∙ k.came ∙ ap (λ xs. k.read ++ xs) (sym frontend-left)))
          (k.budget ∙ asking-end) handled-here

      moved-back : Moves gives before call ans view
      moved-back = by-takes (subst (λ a. TakesResult call a (fields_of sent.request) fe3 f1 ans new.asking new.frontend) ask1.awaits v.takes)
        where
          by-takes : TakesResult call aw1 (fields_of sent.request) fe3 f1 ans new.asking new.frontend → Moves gives before call ans view
          by-takes (inl t) = moved-taken (is-taken call aw1 (fields_of sent.request) f1 fe3 (Some (answered new.frontend ans)) asking-whole asking-sound t)
          by-takes (inr (same, e, is, fails)) = moved-lost e same is (faults fe3 new.asking true e fails asking-whole asking-list)

    -- ---- that found no room

    -- of a link with something to hand out
    waits : (e : End) → (e.link.pending ≡ [] → ⊥) → has_some (incoming e) ≡ true
    waits e some = by-ahead e.ahead refl
      where
        by-pending : (cells : List (Cell PlainHandle)) → e.link.pending ≡ cells → has_some (cells) ≡ true
        by-pending [] is = absurd (some is)
        by-pending (c ∷ cells) is = refl

        by-ahead : (cells : List (Cell PlainHandle)) → e.ahead ≡ cells → has_some (incoming e) ≡ true
        by-ahead [] is = ap (λ xs. has_some (xs ++ e.link.pending)) is ∙ by-pending e.link.pending refl
        by-ahead (c ∷ cells) is = ap (λ xs. has_some (xs ++ e.link.pending)) is

    module _ (ans : Result (Value PlainHandle) Error) (stop : Option Stop) (new : Parts Dev) (v : FoundNoRoom gives call mid ans stop new) where
      abbrev shut : View Dev
      shut = as_view new stop

      -- on the way there
      shut-there : (old.serving.link.pending ≡ [] → ⊥) → new ≡ record mid { request = new.request; reply = no_text } → Moves gives before call ans shut
      shut-there some same =
          let way : has_some before.to_handler ≡ true = ap (λ (xs : List (Cell PlainHandle)). has_some xs) to-handler ∙ waits old.serving some in
          let asking : new.asking ≡ fe1 = ap {A = Parts Dev} (λ p. p.asking) same in
          let serving : new.serving ≡ old.serving = ap {A = Parts Dev} (λ p. p.serving) same in
          joined.sent (record {
            message = w;
            awaited = aw1;
            after = f1;
            asked = ask1.asked;
            mid = cuts_of fe1.link;
            passed = ask1.passed;
            request = v.request few-asked ∙ ap text_of asked-whole;
            left = before.to_handler ++ request_cells w;
            came = [];
            answer = None;
            serves = joined.full way refl (ap {A = Parts Dev} (λ p. p.session) same) (ap {A = Parts Dev} (λ p. p.device) same) (ap {A = End} (λ e. cuts_of e.link) serving) refl;
            reply = λ few. ap {A = Parts Dev} (λ p. p.reply) same;
            lost = true;
            takes = joined.no_room (inl way) v.answer (ap {A = Parts Dev} (λ p. p.frontend) same) (ap {A = Parts Dev} (λ p. p.awaited) same) (ap {A = End} (λ e. cuts_of e.link) asking)
                (ap {A = Parts Dev} (λ p. incoming p.asking ++ outgoing p.serving) same ∙ ap (λ xs. xs ++ outgoing old.serving) ask1.incoming ∙ sym (append-nil before.to_frontend));
            behind = [];
            on_way = ap {A = Parts Dev} (λ p. incoming p.serving ++ outgoing p.asking) same ∙ ap (λ xs. incoming old.serving ++ xs) asked-whole ∙ ap (λ xs. xs ++ request_cells w) (sym to-handler) ∙ sym (append-nil (before.to_handler ++ request_cells w));
            whole = λ is. refl;
            stopped = v.stops;
            budget = ap {A = End} (λ e. e.budget) asking ∙ ask1.budget;
          })

      -- on the way back
      shut-back : (result : Result ⊤ declared.Error) → Reached gives mid result new.asking new.serving new.reply new.session new.device → (new.asking.link.pending ≡ [] → ⊥)
          → new ≡ record mid { asking = new.asking; serving = new.serving; session = new.session; device = new.device; request = new.request; reply = new.reply } → Moves gives before call ans shut
      shut-back result rc some same = by-cases (served-or-not result new.asking new.serving new.reply new.session new.device rc)
        where
          still : incoming new.asking ≡ before.to_frontend
          still = still-coming result new.asking new.serving new.reply new.session new.device rc

          way : has_some before.to_frontend ≡ true
          way = ap (λ (xs : List (Cell PlainHandle)). has_some xs) (sym still) ∙ waits new.asking some

          nothing : outgoing new.asking ≡ []
          nothing = emptied fe1 old.serving new.asking rc.serving_then rc.there

          shut-so : (answer : Option (Result ⊤ Error)) → joined.Serves gives before shut w (incoming new.serving) (outgoing new.serving) answer → stop_after new.frontend new.session (ends call) answer true new.reply.bytes ≡ Some Premise → Moves gives before call ans shut
          shut-so answer serves premise = joined.sent (record {
            message = w;
            awaited = aw1;
            after = f1;
            asked = ask1.asked;
            mid = cuts_of fe1.link;
            passed = ask1.passed;
            request = v.request few-asked ∙ ap text_of asked-whole;
            left = incoming new.serving;
            came = outgoing new.serving;
            answer = answer;
            serves = serves;
            reply = replied result new.asking new.serving new.reply new.session new.device rc new.reply refl;
            lost = true;
            takes = joined.no_room (inr way) v.answer (ap {A = Parts Dev} (λ p. p.frontend) same) (ap {A = Parts Dev} (λ p. p.awaited) same)
                (asking-cuts result new.asking new.serving new.reply new.session new.device rc) (ap (λ xs. xs ++ outgoing new.serving) still);
            behind = outgoing new.asking;
            on_way = refl;
            whole = λ is. nothing;
            stopped = v.stops ∙ sym premise;
            budget = ap {A = End} (λ e. e.budget) rc.there.sender ∙ ask1.budget;
          })

          by-cases : Handled1 gives rc.serving_then new.serving old.session new.session old.device new.device (seen_result result) ⊎ ServingFaults gives rc.serving_then new.serving old.session new.session old.device new.device → Moves gives before call ans shut
          by-cases (inl h) = shut-so (Some (seen_result result)) (serves-handled result new.asking new.serving new.reply new.session new.device rc shut refl refl refl h) refl
          by-cases (inr k) = shut-so None (serves-faulted result new.asking new.serving new.reply new.session new.device rc shut refl refl refl k) refl

      moved-shut : Moves gives before call ans shut
      moved-shut = by-place v.place
        where
          by-place : ((old.serving.link.pending ≡ [] → ⊥) × (new ≡ record mid { request = new.request; reply = no_text }))
              ⊎ ((result : Result ⊤ declared.Error) × Reached gives mid result new.asking new.serving new.reply new.session new.device × (new.asking.link.pending ≡ [] → ⊥)
              × (new ≡ record mid { asking = new.asking; serving = new.serving; session = new.session; device = new.device; request = new.request; reply = new.reply })) → Moves gives before call ans shut
          by-place (inl (some, same)) = shut-there some same
          by-place (inr (result, rc, some, same)) = shut-back result rc some same

    moved-sent : (x : Exchanged) (new : Parts Dev) → Serves gives call sent mid x new → Moves gives before call (answer_of x.answer) (as_view new x.stop)
    moved-sent x new (sides.served v) = moved-back (answer_of x.answer) x.stop new v
    moved-sent x new (sides.no_way v) = moved-shut (answer_of x.answer) x.stop new v

  -- ---- a call that was not sent

  -- both lists are there
  listed : (p : Parts Dev) → p.asking.list ≡ true → p.serving.list ≡ true → (stopped : Option Stop) → as_view p stopped ≡ record (as_view p stopped) { lists = true }
  listed p asks serves stopped = ap {A = Bool} {B = View Dev} (λ b. record (as_view p stopped) { lists = b }) (ap (λ b. b && p.serving.list) asks ∙ serves)

  -- what differs once the frontend's link failed
  abbrev shape : Cuts → List (Cell PlainHandle) → List (Cell PlainHandle) → ℕ → Text → Option Stop → View Dev
  shape asking to_handler to_frontend budget request stopped =
      record before { asking = asking; to_handler = to_handler; to_frontend = to_frontend; budget = budget; lists = true; request = request; reply = no_text; stopped = stopped }

  reshaped : (a a' : Cuts) → a ≡ a' → (h h' : List (Cell PlainHandle)) → h ≡ h' → (f f' : List (Cell PlainHandle)) → f ≡ f' → (n n' : ℕ) → n ≡ n' → (t t' : Text) → t ≡ t' → (s s' : Option Stop) → s ≡ s'
      → shape a h f n t s ≡ shape a' h' f' n' t' s'
  reshaped a a' ea h h' eh f f' ef n n' en t t' et s s' es =
      ap {A = Cuts} {B = View Dev} (λ x. shape x h f n t s) ea ∙ ap {B = View Dev} (λ x. shape a' x f n t s) eh ∙ ap {B = View Dev} (λ x. shape a' h' x n t s) ef
      ∙ ap {B = View Dev} (λ x. shape a' h' f' x t s) en ∙ ap {A = Text} {B = View Dev} (λ x. shape a' h' f' n' x s) et ∙ ap {A = Option Stop} {B = View Dev} (λ x. shape a' h' f' n' t' x) es

  moved-unsent : (e : declared.Error) (asked : Parts Dev) (x : Exchanged) (new : Parts Dev) → (e ≡ error.OutOfMemory → ⊥) → IsAskedBy call old (Err e) asked → EndsUnsent e asked x new → Moves gives before call (answer_of x.answer) (as_view new x.stop)
  moved-unsent e asked x new other by end = by-cases u.why
    where
      u : IsUnasked call old.asking old.frontend old.awaited e asked.asking asked.frontend asked.awaited
      u = is-unasked call old.asking old.frontend old.awaited other sound.asks lists.0 by.asks

      here : asked ≡ record old { asking = asked.asking }
      here = by.same ∙ ap {A = Frontend} {B = Parts Dev} (λ g. record old { asking = asked.asking; frontend = g; awaited = asked.awaited }) u.session ∙ ap {A = Awaited} {B = Parts Dev} (λ a. record old { asking = asked.asking; awaited = a }) u.awaits

      same : new ≡ record old { asking = asked.asking; request = new.request; reply = no_text }
      same = end.same ∙ ap {A = Parts Dev} {B = Parts Dev} (λ p. record p { request = new.request; reply = no_text }) here

      by-cases : ((ask old.frontend call ≡ ask.Refuses (seen e)) × (asked.asking ≡ old.asking)) ⊎ (((w : Written HeardReq PlainHandle) × (aw : Awaited) × (g : Frontend) × (ask old.frontend call ≡ ask.Sends w aw g)) × Faults old.asking asked.asking e)
          → Moves gives before call (answer_of x.answer) (as_view new x.stop)
      by-cases (inl (refuses, unchanged)) =
          let gone_none : outgoing asked.asking ≡ [] = ap {A = End} (λ s. outgoing s) unchanged ∙ sound.no_request in
          let text : new.request ≡ no_text = end.request (subst (λ cells. length cells ≤ MAX_MSG_TEXT) (sym gone_none) (omega arith)) ∙ ap text_of gone_none in
          joined.refused (seen e) refuses end.answer
          (ap {A = Parts Dev} {B = View Dev} (λ p. as_view p x.stop) (same ∙ ap {A = End} {B = Parts Dev} (λ s. record old { asking = s; request = new.request; reply = no_text }) unchanged ∙ ap {A = Text} {B = Parts Dev} (λ t. record old { request = t; reply = no_text }) text)
          ∙ ap {A = Option Stop} {B = View Dev} (λ s. as_view (record old { request = no_text; reply = no_text }) s) (end.goes_on (ap {A = End} (λ s. s.faulted) unchanged ∙ sound.sound))
          ∙ listed (record old { request = no_text; reply = no_text }) lists.0 lists.1 None)
      by-cases (inr ((w, aw, g, sends), k)) =
          let gone : outgoing asked.asking ≡ k.gone = k.sent ∙ ap (λ xs. xs ++ k.gone) sound.no_request in
          let text : new.request ≡ text_of k.gone = end.request (subst (λ cells. length cells ≤ MAX_MSG_TEXT) (sym gone) k.few) ∙ ap text_of gone in
          let link : new.asking ≡ asked.asking = ap {A = Parts Dev} (λ p. p.asking) same in
          joined.unsent w aw g k.cause k.gone k.read sends
          (subst (λ s. Stops old.asking.budget k.cause (cuts_of old.asking.link) (cuts_of s.link)) (sym link) k.stopped)
          (end.answer ∙ ap {A = declared.Error} {B = Result (Value PlainHandle) Error} (λ y. Err (seen y)) k.error)
          (to-frontend ∙ k.came ∙ ap (λ xs. k.read ++ xs) (sym (left (ap {A = Parts Dev} (λ p. p.serving) same) link)))
          (ap {A = Parts Dev} {B = View Dev} (λ p. as_view p x.stop) same ∙ listed (record old { asking = asked.asking; request = new.request; reply = no_text }) k.list lists.1 x.stop ∙ reshaped _ _ (ap {A = End} {B = Cuts} (λ s. cuts_of s.link) (sym link))
          _ _ (ap (λ xs. incoming old.serving ++ xs) gone ∙ ap (λ xs. xs ++ k.gone) (sym to-handler))
          _ _ (ap (λ xs. incoming asked.asking ++ xs) sound.no_reply ∙ append-nil (incoming asked.asking) ∙ sym (left (ap {A = Parts Dev} (λ p. p.serving) same) link))
          _ _ k.budget _ _ text _ _ (end.stopped k.faulted))
        where
          left : new.serving ≡ old.serving → new.asking ≡ asked.asking → (as_view new x.stop).to_frontend ≡ incoming asked.asking
          left serving asking = ap {A = End} (λ s. incoming new.asking ++ outgoing s) serving ∙ ap (λ xs. incoming new.asking ++ xs) sound.no_reply ∙ append-nil (incoming new.asking) ∙ ap {A = End} (λ s. incoming s) asking

  -- it was answered at once
  moved-at-once : (x : Exchanged) (new : Parts Dev) (flags : ℕ) → call ≡ SetHdrFlags flags → answer_of x.answer ≡ Ok Nothing → x.stop ≡ None
      → new ≡ record old { frontend = record old.frontend { header_flags = flags }; request = no_text; reply = no_text } → Moves gives before call (answer_of x.answer) (as_view new x.stop)
  moved-at-once x new flags asked is none same =
      joined.at_once Nothing (record old.frontend { header_flags = flags }) (ap {A = FrontendCall PlainHandle} (λ c. ask old.frontend c) asked) is
      (ap {A = Parts Dev} {B = View Dev} (λ p. as_view p x.stop) same ∙ ap {A = Option Stop} {B = View Dev} (λ s. as_view (record old { frontend = record old.frontend { header_flags = flags }; request = no_text; reply = no_text }) s) none
      ∙ listed (record old { frontend = record old.frontend { header_flags = flags }; request = no_text; reply = no_text }) lists.0 lists.1 None)

  -- ---- whatever became of a call

  pub moves-so : {x : Exchanged} {new : Parts Dev} → Exchanges gives call old (Ok x) new → Moves gives before call (answer_of x.answer) (as_view new x.stop)
  moves-so {x} {new} (sides.at_once flags asked is none same) = moved-at-once x new flags asked is none same
  moves-so {x} {new} (sides.unsent e asked other by end) = moved-unsent e asked x new other by end
  moves-so {x} {new} (sides.sent_out sent asked good by done) =
      moved-sent good sent asked.asking asked.frontend asked.awaited (is-asked call old.asking old.frontend old.awaited by.asks) x new (subst (λ p. Serves gives call sent p x new) by.same done)
