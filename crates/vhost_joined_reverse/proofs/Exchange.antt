-- What an exchange is worth, where both sides were sound.
use Rattle.std.proofs.Common.{◌≡◌, ℕ, ◌⊎◌, inl, inr, Bool, true, false, List, [], ◌++◌, ◌≤◌, length, Option, Some, None, Result, Ok, Err, arith, refl, sym, ◌∙◌, ap, subst}
use Rattle.std.specs.Prelude.{◌||◌, ◌&&◌, if◌then◌else◌, is_err}
use Rattle.std.proofs.Math.Bool.{or-true}
use Rattle.std.proofs.lemmas.List.{length-take}
use Rattle.vhost_message.specs.BackendReq.{backend_request_of, backend_request_number}
use Rattle.vhost_message.specs.Bits.{has_bit}
use Rattle.vhost_message.specs.declared.backend_req.BackendReq.{BackendReq}
use Rattle.vhost_message.specs.declared.error.Error as declared
use Rattle.vhost_message.specs.declared.io_error.IoError as io
use Rattle.vhost_message.specs.declared.io_error.IoError.TheVariants as code
use Rattle.vhost_message.specs.declared.limits.TheConstants.{MAX_MSG_TEXT}
use Rattle.vhost_message.specs.MsgHeader.{fields_of}
use Rattle.vhost_protocol.specs.Error.{seen, seen_result}
use Rattle.vhost_protocol.specs.IoError.{IoError, Of, seen_io_result}
use Rattle.vhost_protocol.specs.Joined.{is_silent, read_as}
use Rattle.vhost_protocol.specs.JoinedReverse.{Asks, ReverseInStep, ReverseShown, ReverseExchanges}
use Rattle.vhost_protocol.specs.Reverse.{ReverseCall, Server, Sends, reverse_ask, reverse_take, ReverseOutcome, ReverseFollows, reverse_row, is_reverse_last, backend_allows_handles}
use Rattle.vhost_protocol.proofs.TextLaws.{IsSendable}
use Rattle.vhost_frontend_req_handler.specs.Handling.{fitting}
use Rattle.vhost_protocol.specs.ReverseLaws.{IsAnswered}
use Rattle.vhost_protocol.specs.Served.{Served, Silent, Replied, reply, cells_of}
use Rattle.vhost_protocol.specs.Stream.{Cell, bytes}
use Rattle.vhost_protocol.specs.Written.{Written, U64, head_of, written_cells, header_flags}
use Rattle.vhost_link.specs.declared.plain.PlainHandle.{PlainHandle}
use Rattle.vhost_link.specs.Mem.{event}
use Rattle.vhost_connection.specs.Asking.{GoesOut}
use Rattle.vhost_backend_req.specs.Channel.{Channel, backend_of}
use Rattle.vhost_backend_req.specs.Halves.{Head, TakesHalf, IsProper}
use Rattle.vhost_joined.specs.declared.halt.Stop.{Stop}
use Rattle.vhost_joined.specs.declared.halt.Stop.TheVariants.{Premise}
use Rattle.vhost_joined.specs.Joined.{Cuts, Passes, PassesBoth, Stops, StopsReply}
use Rattle.vhost_joined.specs.OnWay.{incoming, outgoing}
use Rattle.vhost_joined.specs.Sides.{cuts_of}
use Rattle.vhost_joined.specs.Text.{Text, text_of}
use Rattle.vhost_joined.proofs.Asked.{both-empty, arrived, emptied, kept, held, sender-cuts, receiver-cuts}
use Rattle.vhost_joined.proofs.OnWay.{incoming-handed, outgoing-taken}
use Rattle.vhost_joined.proofs.Served.{pair-first, pair-second, last_stop}
use Rattle.vhost_joined.proofs.Spent.{End, Faults, faults, sent-passes}
use Rattle.vhost_joined_reverse.specs.Joined as joined
use Rattle.vhost_joined_reverse.specs.Joined.{Gives, Keeps, Answers}
use Rattle.vhost_joined_reverse.specs.Sides.{Parts, as_view, to_server, to_backend, IsSound, HaveLists, HandedOver, stop_of}
use Rattle.vhost_joined_reverse.proofs.Messages.{sendable, few-written, few-answered, answers-number, answered-so, follows-plainly, served-taken, IsNumber}
use Rattle.vhost_joined_reverse.proofs.Served.{Handled1, ServingFaults, split-handled, faulted-so, IsServed, is-served, IsUnserved, unread, unanswered, is-unserved, both-passed, served-budget}
use Rattle.vhost_joined_reverse.proofs.Taken.{IsTaken, Lost, taken-or-lost}

-- a request is no reply
plain-flags : (need : Bool) → has_bit (header_flags false need) 2 ≡ false
plain-flags true = refl
plain-flags false = refl

-- a run stops exactly at the last step
stops-last : (r : BackendReq) (result : Result ℕ declared.Error) (served : Served PlainHandle) → IsNumber served
    → stop_of false result (bytes (cells_of backend_request_number (reply r served))) ≡ last_stop (is_err (seen_result result) && is_silent served)
stops-last r (Ok n) served is = refl
stops-last r (Err e) Silent is = refl
stops-last r (Err e) (Replied (U64 n) []) is = refl
stops-last r (Err e) _ is = absurd is

-- nothing is on the way
module _ {Dev : Type 0} (old : Parts Dev) (sound : IsSound old) where
  pub clear-requests : (outgoing old.channel.endpoint ≡ []) × (incoming old.serving ≡ [])
  clear-requests = both-empty (outgoing old.channel.endpoint) (incoming old.serving) sound.in_step.no_request

  clear-replies : (outgoing old.serving ≡ []) × (incoming old.channel.endpoint ≡ [])
  clear-replies = both-empty (outgoing old.serving) (incoming old.channel.endpoint) sound.in_step.no_reply

module _ {Dev : Type 0} (gives : Gives Dev) (call : ReverseCall PlainHandle) (proper : IsProper (Asks call)) (old : Parts Dev) (sound : IsSound old) (lists : HaveLists old) where
  abbrev fe0 : End
  fe0 = old.channel.endpoint

  module _ (w : Written BackendReq PlainHandle) (awaited : Bool) (head : Head) (fe1 : End) (asked : reverse_ask (backend_of old.channel) call ≡ Sends w awaited) (out : GoesOut event backend_request_number w fe0 head fe1) where
    abbrev sent_parts : Parts Dev
    sent_parts = record old { channel = record old.channel { endpoint = fe1 } }

    asked-whole : outgoing fe1 ≡ written_cells backend_request_number w
    asked-whole = outgoing-taken fe0 fe1 _ out.serves.talks ∙ ap (λ xs. xs ++ written_cells backend_request_number w) (clear-requests old sound).0

    few-asked : length (outgoing fe1) ≤ MAX_MSG_TEXT
    few-asked = subst (λ cells. length cells ≤ MAX_MSG_TEXT) (sym asked-whole) (few-written w (sendable (backend_of old.channel) call proper w awaited asked).0.size)

    pub asked-incoming : incoming fe1 ≡ []
    asked-incoming = sym (incoming-handed fe0 fe1 _ out.serves.talks) ∙ (clear-replies old sound).1

    module _ (copy : Text) (copied : length (outgoing fe1) ≤ MAX_MSG_TEXT → copy ≡ text_of (outgoing fe1)) (result : Result ℕ declared.Error) (mid : Parts Dev) (h : HandedOver gives (record sent_parts { request = copy }) result mid)
        (answer : Result ℕ io.IoError) (fe4 : End) (stop : Option Stop) (stops : stop ≡ stop_of (fe4.faulted || mid.serving.faulted) result mid.reply.bytes) where
      abbrev he1 : End
      he1 = h.serving_then

      abbrev he2 : End
      he2 = h.serving_after

      abbrev fe2 : End
      fe2 = h.asking_then

      abbrev fe3 : End
      fe3 = mid.channel.endpoint

      -- both sides once the answer was taken
      abbrev after : Parts Dev
      after = record mid { channel = record mid.channel { endpoint = fe4 } }

      sent_well : IsSendable backend_request_of backend_allows_handles backend_request_number w
      sent_well = (sendable (backend_of old.channel) call proper w awaited asked).0

      came : incoming he1 ≡ written_cells backend_request_number w
      came = arrived fe1 old.serving fe2 he1 h.there (clear-requests old sound).1 ∙ asked-whole

      clear : outgoing he1 ≡ []
      clear = held fe1 old.serving fe2 he1 h.there ∙ (clear-replies old sound).0

      -- nothing had been heard before
      request-fresh : he1.ahead ≡ []
      request-fresh = ap {A = End} (λ e. e.ahead) h.there.receiver ∙ (both-empty old.serving.ahead old.serving.link.pending (clear-requests old sound).1).0

      abbrev IsServed1 : Type 0
      IsServed1 = IsServed gives he1 he2 old.server mid.server old.device mid.device w sent_well came clear (seen_result result)

      abbrev IsUnserved1 : Type 0
      IsUnserved1 = IsUnserved gives he1 he2 old.server mid.server old.device mid.device w sent_well came clear

      -- it was served, or a fault of its link stopped that
      served-or-not : IsServed1 ⊎ (IsUnserved1 × (he2.faulted ≡ true))
      served-or-not = by-cases (split-handled gives he1 he2 old.server mid.server old.device mid.device result (h.handled sound.in_step.serves) (ap {A = End} (λ e. e.broken) h.there.receiver ∙ sound.serves) (ap {A = End} (λ e. e.list) h.there.receiver ∙ lists.1))
        where
          by-cases : Handled1 gives he1 he2 old.server mid.server old.device mid.device (seen_result result) ⊎ ServingFaults gives he1 he2 old.server mid.server old.device mid.device → IsServed1 ⊎ (IsUnserved1 × (he2.faulted ≡ true))
          by-cases (inl k) = inl (is-served gives he1 he2 old.server mid.server old.device mid.device w sent_well came clear (seen_result result) k)
          by-cases (inr k) = inr (is-unserved gives he1 he2 old.server mid.server old.device mid.device w sent_well came clear request-fresh k, faulted-so gives he1 he2 old.server mid.server old.device mid.device k)

      -- the asking side has nothing more to receive, before the reply comes
      nothing-left : incoming fe2 ≡ []
      nothing-left = kept fe1 old.serving fe2 he1 h.there ∙ asked-incoming

      asking-whole : fe3.broken ≡ None
      asking-whole = ap {A = End} (λ e. e.broken) h.back.receiver ∙ ap {A = End} (λ e. e.broken) h.there.sender ∙ out.serves.after

      asking-sound : fe3.faulted ≡ false
      asking-sound = ap {A = End} (λ e. e.faulted) h.back.receiver ∙ ap {A = End} (λ e. e.faulted) h.there.sender ∙ out.serves.faulted

      asking-list : fe3.list ≡ true
      asking-list = ap {A = End} (λ e. e.list) h.back.receiver ∙ ap {A = End} (λ e. e.list) h.there.sender ∙ out.list

      asking-budget : fe3.budget ≡ fe0.budget
      asking-budget = ap {A = End} (λ e. e.budget) h.back.receiver ∙ ap {A = End} (λ e. e.budget) h.there.sender ∙ out.serves.talks.budget

      serving-budget : he1.budget ≡ fe0.budget
      serving-budget = ap {A = End} (λ e. e.budget) h.there.receiver ∙ sound.budget

      asking-passed : Passes fe0.budget (written_cells backend_request_number w) (cuts_of fe0.link) (cuts_of fe3.link)
      asking-passed = subst (λ c. Passes fe0.budget (written_cells backend_request_number w) (cuts_of fe0.link) c) (sym (receiver-cuts he2 fe2 mid.serving fe3 h.back ∙ sender-cuts fe1 old.serving fe2 he1 h.there)) (sent-passes _ fe0 fe1 _ _ out.serves)

      -- the serving side's link between the two carries
      of-serving : (P : Cuts → Cuts → Type 0) → P (cuts_of he1.link) (cuts_of he2.link) → P (cuts_of old.serving.link) (cuts_of mid.serving.link)
      of-serving P p = subst (λ c. P c (cuts_of mid.serving.link)) (receiver-cuts fe1 old.serving fe2 he1 h.there) (subst (λ c. P (cuts_of he1.link) c) (sym (sender-cuts he2 fe2 mid.serving fe3 h.back)) p)

      came-back : incoming fe3 ≡ outgoing he2
      came-back = arrived he2 fe2 mid.serving fe3 h.back nothing-left

      same-backend : backend_of mid.channel ≡ backend_of old.channel
      same-backend = ap {A = Channel _ PlainHandle} (λ c. backend_of c) h.channel

      -- where the run goes on, both sides are sound
      abbrev Goal : Type 0
      Goal = Answers gives (as_view old None) (Asks call) (seen_io_result answer) (as_view after stop) × (stop ≡ None → IsSound after)

      -- ---- where a link failed

      -- what was written of a number is short
      few-of : (o : ReverseOutcome PlainHandle) → ReverseFollows (fitting gives) old.device (reverse_row old.server (read_as w)) o mid.device → length (cells_of backend_request_number (reply w.request o.served)) ≤ MAX_MSG_TEXT
      few-of o follows = few-answered w.request o.served (answers-number gives old.device mid.device old.server (read_as w) o follows)

      plainly : (o : ReverseOutcome PlainHandle) → ReverseFollows (fitting gives) old.device (reverse_row old.server (read_as w)) o mid.device → ReverseFollows gives old.device (reverse_row old.server (read_as w)) o mid.device
      plainly o follows = follows-plainly gives old.device mid.device (reverse_row old.server (read_as w)) o follows

      -- a fault on one side stops the run
      broke : (stopped lost : Bool) → mid.server ≡ old.server → joined.Serves gives (as_view old None) w (outgoing he2) (as_view after stop) stopped → length (outgoing he2) ≤ MAX_MSG_TEXT
          → joined.Takes gives fe0.budget w awaited (cuts_of fe3.link) (outgoing he2) (seen_io_result answer) (cuts_of fe4.link) lost → (stopped || lost) ≡ true → (fe4.faulted || mid.serving.faulted) ≡ true → Goal
      broke stopped lost server serves few takes failed faulted =
          let why : stop ≡ Some Premise = stops ∙ ap (λ b. stop_of b result mid.reply.bytes) faulted in (
            inr (
              why,
              joined.broke (record {
                call = call;
                is_call = refl;
                message = w;
                awaited = awaited;
                asked = asked;
                mid = cuts_of fe3.link;
                passed = asking-passed;
                request = h.request ∙ copied few-asked ∙ ap text_of asked-whole;
                came = outgoing he2;
                stopped = stopped;
                serves = serves;
                reply = h.reply few;
                lost = lost;
                takes = takes;
                failed = failed;
                backend = same-backend;
                server = server;
              }),
            ),
            λ on. absurd (cc (sym why ∙ on)),
          )

      serves-stopped : IsUnserved1 → joined.Serves gives (as_view old None) w (outgoing he2) (as_view after stop) true × (length (outgoing he2) ≤ MAX_MSG_TEXT) × (mid.server ≡ old.server)
      serves-stopped (unread c p none session device) = (
        joined.unread c (of-serving (λ a b. Stops fe0.budget c a b) (subst (λ n. Stops n c (cuts_of he1.link) (cuts_of he2.link)) serving-budget p)) none device,
        subst (λ cells. length cells ≤ MAX_MSG_TEXT) (sym none) (omega arith),
        session,
      )
      serves-stopped (unanswered c o count p follows short few front session) = (
        joined.unanswered c o count (of-serving (λ a b. StopsReply fe0.budget c (written_cells backend_request_number w) a b) (subst (λ n. StopsReply n c (written_cells backend_request_number w) (cuts_of he1.link) (cuts_of he2.link)) serving-budget p)) (plainly o follows) short front,
        subst (λ cells. length cells ≤ MAX_MSG_TEXT) (sym front) (let long = length-take count (cells_of backend_request_number (reply w.request o.served)) in omega (arith, long, few)),
        session,
      )

      takes-so : IsTaken head fe3 awaited answer fe4 → joined.Takes gives fe0.budget w awaited (cuts_of fe3.link) (outgoing he2) (seen_io_result answer) (cuts_of fe4.link) false
      takes-so t = joined.taken (incoming fe4)
          (ap (λ header. reverse_take awaited header (outgoing he2)) (sym out.header) ∙ ap (λ cells. reverse_take awaited (fields_of head) cells) (sym came-back) ∙ t.cut)

      serving-fault : IsUnserved1 → he2.faulted ≡ true → IsTaken head fe3 awaited answer fe4 → Goal
      serving-fault k faulted t =
          let (serves, few, server) = serves-stopped k in
          broke true false server serves few (takes-so t) refl (ap (λ b. fe4.faulted || b) (ap {A = End} (λ e. e.faulted) h.back.sender ∙ faulted) ∙ or-true fe4.faulted)

      asking-fault : (e : declared.Error) → answer ≡ Err (code.Of e) → Faults fe3 fe4 e → IsServed1 ⊎ (IsUnserved1 × (he2.faulted ≡ true)) → Goal
      asking-fault e is k handled = by-cases handled
        where
          lost : joined.Takes gives fe0.budget w awaited (cuts_of fe3.link) (outgoing he2) (seen_io_result answer) (cuts_of fe4.link) true
          lost = joined.lost k.cause (subst (λ n. Stops n k.cause (cuts_of fe3.link) (cuts_of fe4.link)) asking-budget k.stopped) (ap seen_io_result is ∙ ap {A = declared.Error} {B = Result ℕ IoError} (λ x. Err (Of (seen x))) k.error)

          by-cases : IsServed1 ⊎ (IsUnserved1 × (he2.faulted ≡ true)) → Goal
          by-cases (inl v) = broke false true v.session (joined.served v.outcome (plainly v.outcome v.follows) v.written) (subst (λ cells. length cells ≤ MAX_MSG_TEXT) (sym v.written) (few-of v.outcome v.follows)) lost refl (ap (λ b. b || mid.serving.faulted) k.faulted)
          by-cases (inr (u, faulted)) = let (serves, few, server) = serves-stopped u in broke true true server serves few lost refl (ap (λ b. b || mid.serving.faulted) k.faulted)

      -- ---- where none did

      reply-fresh : fe3.ahead ≡ []
      reply-fresh = ap {A = End} (λ e. e.ahead) h.back.receiver ∙ (both-empty fe2.ahead fe2.link.pending nothing-left).0

      both-served : IsServed1 → IsTaken head fe3 awaited answer fe4 → Goal
      both-served k t = (inl keeps, λ on. is-sound)
        where
          o : ReverseOutcome PlainHandle
          o = k.outcome

          number : IsNumber o.served
          number = answers-number gives old.device mid.device old.server (read_as w) o k.follows

          follows : ReverseFollows gives old.device (reverse_row old.server (read_as w)) o mid.device
          follows = plainly o k.follows

          known : IsAnswered awaited o
          known = answered-so gives (backend_of old.channel) old.server call w awaited sound.in_step.agree asked old.device mid.device o follows

          replied : List (Cell PlainHandle)
          replied = cells_of backend_request_number (reply w.request o.served)

          few-served : length (outgoing he2) ≤ MAX_MSG_TEXT
          few-served = subst (λ cells. length cells ≤ MAX_MSG_TEXT) (sym k.written) (few-answered w.request o.served number)

          is_reply : mid.reply ≡ text_of replied
          is_reply = h.reply few-served ∙ ap text_of k.written

          plain : has_bit (head_of backend_request_number w).flags 2 ≡ false
          plain = ap (λ b. has_bit (header_flags b w.need_reply) 2) (sendable (backend_of old.channel) call proper w awaited asked).1 ∙ plain-flags w.need_reply

          cut : ◌≡◌ {A = Result ℕ IoError × List (Cell PlainHandle)} (seen_io_result answer, incoming fe4) (known.0, [])
          cut = sym t.cut ∙ ap (λ cells. reverse_take awaited (fields_of head) cells) (came-back ∙ k.written) ∙ ap (λ header. reverse_take awaited header replied) out.header
              ∙ served-taken w.request awaited (head_of backend_request_number w) o.served known.0 refl plain number known.1

          faultless : (fe4.faulted || mid.serving.faulted) ≡ false
          faultless = ap (λ b. b || mid.serving.faulted) t.faulted ∙ ap {A = End} (λ e. e.faulted) h.back.sender ∙ k.handled.replies.serves.faulted

          last : Bool
          last = is_reverse_last o

          at_last : stop ≡ last_stop last
          at_last = stops ∙ ap (λ b. stop_of b result mid.reply.bytes) faultless ∙ ap (λ x. stop_of false result x.bytes) is_reply
              ∙ stops-last w.request result o.served number ∙ ap (λ a. last_stop (is_err a && is_silent o.served)) k.answer

          in_step : ReverseInStep (backend_of after.channel) after.server (to_server after) (to_backend after)
          in_step = record {
            agree = ap (λ b. b.reply_ack) same-backend ∙ sound.in_step.agree ∙ ap {A = Server} (λ s. s.reply_ack) (sym k.session);
            asks = ap (λ b. b.failed) same-backend ∙ sound.in_step.asks;
            serves = ap {A = Server} (λ s. s.failed) k.session ∙ sound.in_step.serves;
            no_request = ap (λ xs. xs ++ incoming mid.serving) (t.outgoing ∙ held he2 fe2 mid.serving fe3 h.back ∙ emptied fe1 old.serving fe2 he1 h.there) ∙ kept he2 fe2 mid.serving fe3 h.back ∙ k.nothing;
            no_reply = ap (λ xs. xs ++ incoming fe4) (emptied he2 fe2 mid.serving fe3 h.back) ∙ pair-second cut;
          }

          shown : ReverseShown PlainHandle
          shown = record { request = written_cells backend_request_number w; handled = Some o.answer; reply = replied; result = known.0; last = last }

          keeps : Keeps gives (as_view old None) (Asks call) (seen_io_result answer) (as_view after stop)
          keeps = record {
            shown = shown;
            step = (subst (λ x. ReverseExchanges gives old.server old.device x shown mid.device) (sym asked) (o, follows, known.1, refl, refl, refl, refl), same-backend, k.session);
            answered = pair-first cut;
            request = h.request ∙ copied few-asked ∙ ap text_of asked-whole;
            reply = is_reply;
            stopped = at_last;
            in_step = in_step;
            asking = record {
              mid = cuts_of fe3.link;
              asked = asking-passed;
              answered = subst (λ n. Passes n replied (cuts_of fe3.link) (cuts_of fe4.link)) asking-budget (t.passed replied (λ some. (reply-fresh, came-back ∙ k.written, pair-second cut)));
            };
            serving = of-serving (λ a b. PassesBoth fe0.budget (written_cells backend_request_number w) replied a b)
                (subst (λ n. PassesBoth n (written_cells backend_request_number w) replied (cuts_of he1.link) (cuts_of he2.link)) serving-budget
                (both-passed gives he1 he2 old.server mid.server old.device mid.device w sent_well came clear (seen_result result) k request-fresh));
            budget = t.budget ∙ asking-budget;
          }

          is-sound : IsSound after
          is-sound = record {
            asks = t.broken;
            serves = ap {A = End} (λ e. e.broken) h.back.sender ∙ k.handled.replies.serves.after;
            sound = t.faulted;
            budget = ap {A = End} (λ e. e.budget) h.back.sender ∙ served-budget gives he1 he2 old.server mid.server old.device mid.device w sent_well came clear (seen_result result) k ∙ serving-budget ∙ sym (t.budget ∙ asking-budget);
            in_step = in_step;
          }

      pub exchanged : TakesHalf event (if awaited then Some head else None) fe3 answer fe4 → Goal
      exchanged takes = by-cases served-or-not (taken-or-lost head fe3 awaited answer fe4 asking-whole asking-sound takes)
        where
          by-cases : IsServed1 ⊎ (IsUnserved1 × (he2.faulted ≡ true)) → IsTaken head fe3 awaited answer fe4 ⊎ Lost head fe3 answer fe4 → Goal
          by-cases (inl k) (inl t) = both-served k t
          by-cases (inr (k, faulted)) (inl t) = serving-fault k faulted t
          by-cases x (inr (e, is, fails)) = asking-fault e is (faults fe3 fe4 true e fails asking-whole asking-list) x

      -- nothing is in the reply's way
      pub none-in-way : fe2.link.pending ≡ []
      none-in-way = (both-empty fe2.ahead fe2.link.pending nothing-left).1
