-- What was served comes back, and is taken: the call of joined sessions is done.
use Rattle.std.proofs.Common.{◌≡◌, ◌⊎◌, ◌<◌, inl, inr, ℕ, Bool, true, false, List, [], ◌++◌, Option, Some, None, Ok, Err, IfSome, refl, sym, ap, subst, ◌∙◌, arith, Result, cond}
use Rattle.std.specs.Prelude.{ℤ, is_some, ⊤}
use Rattle.vhost_message.specs.Bits.{has_bit}
use Rattle.vhost_message.specs.Header.{header_of}
use Rattle.vhost_message.specs.MsgHeader.{fields_of}
use Rattle.vhost_message.specs.declared.error.Error as declared
use Rattle.vhost_message.specs.declared.error.Error.TheVariants as code
use Rattle.vhost_message.specs.declared.heard_req.HeardReq.{HeardReq}
use Rattle.vhost_message.specs.HeardReq.{request_number, is_named}
use Rattle.vhost_protocol.specs.Agreement.{Negotiates, AskedNegotiates}
use Rattle.vhost_protocol.specs.Answering.{IsServed}
use Rattle.vhost_protocol.specs.AnswerTable.{Answered}
use Rattle.vhost_protocol.specs.Ask.{Asked, ask, Sends}
use Rattle.vhost_protocol.specs.declared.asked.Awaited.{Awaited}
use Rattle.vhost_protocol.specs.declared.profile.Profile.TheVariants.{Standard}
use Rattle.vhost_protocol.specs.Error.{seen}
use Rattle.vhost_protocol.specs.FrontendCall.{FrontendCall, Frontend, SetHdrFlags, Nothing}
use Rattle.vhost_protocol.specs.Handler.{Meets}
use Rattle.vhost_protocol.specs.Heard.{AsksPlainly, IsAwaitedBy, IsGoodReply}
use Rattle.vhost_protocol.specs.Joined as protocol
use Rattle.vhost_protocol.specs.Joined.{AgreeOn, Shown, read_as, stops, unsent}
use Rattle.vhost_protocol.specs.Served.{Silent, Acknowledged, Replied}
use Rattle.vhost_protocol.specs.Served.{Served as Wrote}
use Rattle.vhost_protocol.specs.Session.{Session as Memory, heard_in}
use Rattle.vhost_protocol.specs.Step.{Outcome}
use Rattle.vhost_protocol.specs.Stream.{Cell, bytes}
use Rattle.vhost_protocol.specs.Take.{take}
use Rattle.vhost_protocol.specs.Written.{Written, head_of, written_cells, written_text}
use Rattle.vhost_protocol.proofs.FollowLaws.{met-known, met-good, met-well}
use Rattle.vhost_protocol.proofs.HeardLaws.{awaits-shape, hears-answer}
use Rattle.vhost_protocol.proofs.NegotiationLaws.{calls-negotiate, replies-negotiate}
use Rattle.vhost_link.specs.declared.plain.PlainHandle.{PlainHandle}
use Rattle.vhost_connection.specs.Memory.{TalksLaw}
use Rattle.vhost_backend_req_handler_core.specs.Session.{session_of}
use Rattle.vhost_backend_req_handler.specs.Serving.{reply_cells}
use Rattle.vhost_backend_req_handler.specs.declared.halves.Pending.{Pending}
use Rattle.vhost_backend_req_handler.specs.declared.service.Service.{Service}
use Rattle.vhost_frontend_core.specs.Frontend.{awaits, endpoint_of}
use Rattle.vhost_frontend_core.specs.Values.{answer_of, call_of}
use Rattle.vhost_frontend_core.specs.ValueHalves.{IsSent, TakesResult}
use Rattle.vhost_frontend_core.specs.declared.values.answer.FrontendAnswer.{FrontendAnswer}
use Rattle.vhost_frontend_core.specs.declared.values.answer.FrontendAnswer.TheVariants as value
use Rattle.vhost_c_common.specs.Incoming.{missing_by}
use Rattle.vhost_c_common.specs.View.{End, Lasts}
use Rattle.vhost_c_common.specs.declared.incoming.Incoming.{Incoming}
use Rattle.vhost_c_common.specs.declared.refusal.Refusal.{Refusal}
use Rattle.vhost_c_common.specs.declared.refusal.Refusal.TheVariants.{Protocol}
use Rattle.vhost_c_backend.specs.Served as served
use Rattle.vhost_c_backend.specs.Serving.{Channel, Display, Request}
use Rattle.vhost_c_backend.specs.declared.replies.Reply.{Reply}
use Rattle.vhost_c_backend.specs.declared.replies.Form.{Form}
use Rattle.vhost_c_backend.specs.declared.served.Served.{Served}
use Rattle.vhost_c_frontend.specs.Incoming.{is_sized, missing_from}
use Rattle.vhost_c_joined.specs.Device.{IsMet, IsSized, Serves, halted, is_want, opens, replies}
use Rattle.vhost_c_joined.specs.Joined.{AreInStep, HasFds, IsPlain, Meeting, Joins, Offers, answer_to}
use Rattle.vhost_c_frontend.specs.Session as session
use Rattle.vhost_c_frontend.specs.Session.{Takes, TakesOne, kept, failed, other_size, nothing_asked, not_yet, missing_for, is_sized_of, Asks}
use Rattle.vhost_c_joined.specs.Wire.{HasCome, IsTold, IsOnWay, IsOver, Stops}
use Rattle.vhost_c_frontend.specs.declared.session.Asked.{Asked as CallAsked}
use Rattle.vhost_c_frontend.specs.declared.session.Session.{Session}
use Rattle.vhost_c_joined.specs.declared.wire.Halt.{Halt}
use Rattle.vhost_c_joined.specs.declared.wire.Halt.TheVariants as halt
use Rattle.vhost_c_joined.proofs.Brought.{met-brings}
use Rattle.vhost_c_joined.proofs.Fitting.{reply-fits}
use Rattle.vhost_c_joined.proofs.Joining as joining
use Rattle.vhost_c_joined.proofs.Joining.{Sent}
use Rattle.vhost_c_joined.proofs.Offering.{offers-so}
use Rattle.vhost_c_joined.proofs.Replying.{IsHeardBy, as-cells, handles_in, heard-by, text_in}
use Rattle.vhost_joined.proofs.Settings.{Has, answered-with, kept-sent}
use Rattle.vhost_c_joined.proofs.Waited.{never-silent}
use Rattle.vhost_c_joined.proofs.Taken.{Took, Wanted, no-error, same-want, took}

abbrev Call : Type 0
Call = FrontendCall PlainHandle

abbrev Message : Type 0
Message = Written HeardReq PlainHandle

-- what the sessions keep while a message goes over
abbrev Front : Type 0
Front = Frontend × Option CallAsked × FrontendAnswer × ℕ

abbrev Back : Type 0
Back = Option (Pending PlainHandle) × List ℕ × Service × ℕ × Form

nothing : (x : Option ℤ) → is_some x ≡ false → x ≡ None
nothing None is = refl
nothing (Some n) is = absurd (cc is)

-- the answer of a call for which a message went out is kept
answer-kept : (call : Call) (f : Session) → IsSent call → answer_to call f ≡ answer_of f.answer
answer-kept (SetHdrFlags flags) f goes = absurd goes
answer-kept _ f goes = refl

-- nothing was written
silent-text : (q : HeardReq) (x : Wrote PlainHandle) → text_in q x ≡ [] → x ≡ Silent
silent-text q Silent is = refl
silent-text q (Acknowledged agreed) is = absurd (cc is)
silent-text q (Replied payload handles) is = absurd (cc is)

module _ (bit : Bool) (call : Call) (given : HasFds call) (r : Reply) (fits : IsSized r) (offers : Offers bit call r) (f0 f1 f2 : Session) (b0 b1 b2 : Served) (steps : AreInStep bit f0 b0) (s : Sent call f0 f1)
    (over : IsOver (missing_by (heard_in (served.remembers b0))) s.w.handles (written_text request_number s.w) (session.view f1) (served.view b0) (session.view f2) (served.view b1))
    (met : IsMet (read_as s.w) r (served.remembers b1) b2) (alive : is_some (served.remembers b2).failed ≡ false) where
  abbrev f : Frontend
  f = session.remembers f0

  abbrev g : Frontend
  g = session.remembers f1

  abbrev memory : Memory
  memory = served.remembers b0

  abbrev awaited : Awaited
  awaited = awaits f1.frontend

  abbrev o : Outcome PlainHandle
  o = met.outcome

  named : is_named s.w.request ≡ true
  named = (joining.whole bit call given f0 f1 b0 steps s).named

  meets : Meets (replies r) (opens r) (opens r) memory tt (read_as s.w) o tt
  meets = subst {A = Memory} (λ k. Meets (replies r) (opens r) (opens r) k tt (read_as s.w) o tt) (joining.memory bit call given f0 f1 b0 steps s f2 b1 over) met.meets

  memory-standard : memory.profile ≡ Standard
  memory-standard = sym steps.agree.profile ∙ steps.standard

  goes-on : stops memory.profile s.w.request o ≡ false
  goes-on = ap (λ p. stops p s.w.request o) memory-standard ∙ ap {A = Memory} (λ k. is_some k.failed) (sym met.memory) ∙ alive

  known : IsServed memory.profile call awaited g s.w.request o
  known = met-known {B = Channel} {G = Display} (replies r) (opens r) (opens r) f memory call s.w awaited g tt o tt steps.agree steps.negotiates.0 s.keeps.proper.bits s.is meets

  good : IsGoodReply call o.served
  good = met-good {B = Channel} {G = Display} (replies r) (opens r) (opens r) (reply-fits r fits) f memory call s.w awaited g tt o tt steps.agree.profile s.keeps.proper.small s.is meets

  plainly : IsAwaitedBy call awaited × (s.w.reply ≡ has_bit f.header_flags 2)
  plainly = subst (λ (x : Asked PlainHandle). AsksPlainly f call x) s.is (awaits-shape PlainHandle f call)

  taken : take call awaited (head_of request_number s.w) g (reply_cells s.w.request o.served) ≡ (Some known.to_caller, [])
  taken = hears-answer PlainHandle call awaited s.w g o.served known.to_caller named (plainly.1 ∙ steps.plain) plainly.0 good known.known

  set : Has PlainHandle f.header_flags f.profile g
  set = kept-sent PlainHandle f.header_flags f.profile f call s.w awaited g s.is (refl, refl)

  standard : g.profile ≡ Standard
  standard = set.1 ∙ steps.standard

  abbrev pub text : List ℕ
  text = text_in s.w.request o.served

  abbrev pub hs : List PlainHandle
  hs = handles_in o.served

  heard : IsHeardBy call awaited text
  heard = heard-by call awaited g s.w.request o.served known.to_caller named plainly.0 good known.known

  -- ---- it comes back

  rest2 : (session.view f2).rest ≡ (session.view f1).rest
  rest2 = over.moves.hands.rest

  missing-is : (i : Incoming) → missing_for (session.remembers f2).profile f2.asked i ≡ missing_from Standard call awaited i
  missing-is i =
      ap {A = Front} (λ k. missing_for k.0.profile k.1 i) rest2 ∙ ap (λ p. missing_for p f1.asked i) standard ∙ ap {A = Option CallAsked} (λ a. missing_for Standard a i) s.keeps.is
      ∙ ap (λ c. missing_from Standard c s.keeps.kept.sent.awaited i) s.keeps.same ∙ ap (λ a. missing_from Standard call a i) s.keeps.awaited

  pub told : (text ≡ []) ⊎ IsTold text (missing_for (session.remembers f2).profile f2.asked)
  told = subst (λ (m : Incoming → ℕ). (text ≡ []) ⊎ IsTold text m) (λ j i. sym (missing-is i) j) heard.told

  -- nothing came before
  waits : session.arrived f2 ≡ []
  waits = over.moves.hands.came ∙ s.keeps.nothing_waits

  pub on-way : IsOnWay hs text (served.view b2) (session.view f2)
  on-way = record {
    whole = ap (λ cells. cells ++ served.queued b2) waits ∙ met.queue ∙ as-cells s.w.request o.served;
    few = heard.few;
    fds = met-brings r fits memory (read_as s.w) o meets;
    has = subst {A = List (Cell PlainHandle)} (λ cells. HasCome (bytes cells) f2.incoming) (sym waits) (record { count = ap {A = Incoming} (λ i. i.count) over.moves.hands.incoming ∙ s.keeps.nothing_came; head = refl });
  }

  -- it is never waited for in vain
  pub answers-come : (text ≡ []) × (i : Incoming) × (i.count ≡ 0) × (0 < missing_for (session.remembers f2).profile f2.asked i) → ⊥
  answers-come (none, i, zero-came, some) =
      never-silent PlainHandle memory f g call awaited s.w o bit steps.agree s.is (subst (λ (x : Asked PlainHandle). AskedNegotiates bit x) s.is (calls-negotiate PlainHandle bit f call steps.negotiates))
      (met-well {B = Channel} {G = Display} (replies r) (opens r) (opens r) memory (read_as s.w) tt o tt memory-standard meets) (ap {A = Memory} (λ k. is_some k.failed) (sym met.memory) ∙ alive) (silent-text s.w.request o.served none)
      known.to_caller known.known (known.agree goes-on) (λ nobody. never (subst (λ n. 0 < n) (missing-is i ∙ ap (λ a. missing_from Standard call a i) nobody) some))
    where
      never : 0 < 0 → ⊥
      never wrong = omega (arith, wrong)

  module _ (law : TalksLaw) (f3 f4 : Session) (b3 : Served) (back : IsOver (missing_for (session.remembers f2).profile f2.asked) hs text (served.view b2) (session.view f2) (served.view b3) (session.view f3)) where
    rest3 : (session.view f3).rest ≡ (session.view f1).rest
    rest3 = back.moves.waits.rest ∙ rest2

    asked3 : f3.asked ≡ Some s.keeps.kept
    asked3 = ap {A = Front} (λ k. k.1) rest3 ∙ s.keeps.is

    memory3 : session.remembers f3 ≡ g
    memory3 = ap {A = Front} (λ k. k.0) rest3

    came3 : session.arrived f3 ≡ reply_cells s.w.request o.served
    came3 = back.arrived ∙ sym (as-cells s.w.request o.served)

    missing3 : session.missing_of f3 ≡ 0
    missing3 = ap {A = Front} (λ k. missing_for k.0.profile k.1 f3.incoming) back.moves.waits.rest ∙ back.whole

    sound3 : (endpoint_of f3.frontend).broken ≡ None
    sound3 = ap {A = End} (λ e. e.broken) back.moves.waits.end ∙ ap {A = End} (λ e. e.broken) over.moves.hands.end ∙ s.sound

    -- what is taken
    took-so : (asked : CallAsked) (a : FrontendAnswer) → TakesOne asked (endpoint_of f3.frontend) f3 a f4 → Took known.to_caller (endpoint_of f3.frontend) (endpoint_of f4.frontend) (answer_of a) (session.remembers f4) ⊎ Wanted (answer_of a)
    took-so asked a one =
        let same : asked ≡ s.keeps.kept = (let both : Some asked ≡ Some s.keeps.kept = sym one.was ∙ asked3 in cc both) in
        let by-kept : TakesResult (call_of s.keeps.kept.call) s.keeps.kept.sent.awaited (fields_of s.keeps.kept.sent.request) (endpoint_of f3.frontend) (session.remembers f3) (answer_of a) (endpoint_of f4.frontend) (session.remembers f4) =
        subst {A = CallAsked} (λ k. TakesResult (call_of k.call) k.sent.awaited (fields_of k.sent.request) (endpoint_of f3.frontend) (session.remembers f3) (answer_of a) (endpoint_of f4.frontend) (session.remembers f4)) same one.taken in
        let by-call : TakesResult call awaited (head_of request_number s.w) (endpoint_of f3.frontend) g (answer_of a) (endpoint_of f4.frontend) (session.remembers f4) =
        subst (λ h. TakesResult call awaited h (endpoint_of f3.frontend) g (answer_of a) (endpoint_of f4.frontend) (session.remembers f4)) s.keeps.header
        (subst (λ x. TakesResult call x (fields_of s.keeps.kept.sent.request) (endpoint_of f3.frontend) g (answer_of a) (endpoint_of f4.frontend) (session.remembers f4)) s.keeps.awaited
        (subst (λ c. TakesResult c s.keeps.kept.sent.awaited (fields_of s.keeps.kept.sent.request) (endpoint_of f3.frontend) g (answer_of a) (endpoint_of f4.frontend) (session.remembers f4)) s.keeps.same
        (subst {A = Frontend} (λ k. TakesResult (call_of s.keeps.kept.call) s.keeps.kept.sent.awaited (fields_of s.keeps.kept.sent.request) (endpoint_of f3.frontend) k (answer_of a) (endpoint_of f4.frontend) (session.remembers f4)) memory3 by-kept))) in
        took law call awaited (head_of request_number s.w) g known.to_caller (endpoint_of f3.frontend) (answer_of a) (endpoint_of f4.frontend) (session.remembers f4) by-call (ap (take call awaited (head_of request_number s.w) g) came3 ∙ taken) sound3 f3.uncut

    -- ---- it is done

    sized3 : (asked : CallAsked) → f3.asked ≡ Some asked → is_sized_of (session.remembers f3).profile asked f3.incoming ≡ true
    sized3 asked was =
        let same : asked ≡ s.keeps.kept = (let both : Some asked ≡ Some s.keeps.kept = sym was ∙ asked3 in cc both) in
        ap {A = CallAsked} (λ k. is_sized_of (session.remembers f3).profile k f3.incoming) same ∙ ap {A = Frontend} (λ k. is_sized_of k.profile s.keeps.kept f3.incoming) memory3 ∙ ap (λ p. is_sized_of p s.keeps.kept f3.incoming) standard
        ∙ ap (λ c. is_sized Standard c s.keeps.kept.sent.awaited (header_of f3.incoming.head).size) s.keeps.same ∙ ap (λ a. is_sized Standard call a (header_of f3.incoming.head).size) s.keeps.awaited
        ∙ heard.sized f3.incoming back.has (sym (missing-is f3.incoming) ∙ back.whole)

    memory4 : served.remembers b3 ≡ o.session
    memory4 = ap {A = Back} (λ k. session_of k.2.session) back.moves.hands.rest ∙ met.memory

    abbrev shown : FrontendAnswer → Shown PlainHandle
    shown a = record { request = written_cells request_number s.w; handled = Some o.answer; reply = reply_cells s.w.request o.served; result = answer_of a; last = false }

    step : (a : FrontendAnswer) → Took known.to_caller (endpoint_of f3.frontend) (endpoint_of f4.frontend) (answer_of a) (session.remembers f4)
        → protocol.JoinedStep (replies r) (opens r) (opens r) f memory tt call (shown a) (session.remembers f4) (served.remembers b3) tt
    step a t =
        subst (λ (x : Asked PlainHandle). protocol.Exchanges (replies r) (opens r) (opens r) f memory tt call x (shown a) (session.remembers f4) (served.remembers b3) tt) (sym s.is)
        (o, meets, memory4, known.known ∙ ap (λ (x : Answered PlainHandle). Some x) (sym t.is), refl, refl, refl, sym goes-on)

    in-step : (asked : CallAsked) (a : FrontendAnswer) → TakesOne asked (endpoint_of f3.frontend) f3 a f4 → Took known.to_caller (endpoint_of f3.frontend) (endpoint_of f4.frontend) (answer_of a) (session.remembers f4) → AreInStep bit f4 b3
    in-step asked a one t =
        let memory5 : known.to_caller.session ≡ session.remembers f4 = ap (λ (x : Answered PlainHandle). x.session) (sym t.is) in
        let agrees : AgreeOn (session.remembers f4) (served.remembers b3) = subst (λ (k : Memory). AgreeOn (session.remembers f4) k) (sym memory4) (subst (λ (k : Frontend). AgreeOn k o.session) memory5 (known.agree goes-on)) in
        let negotiated : Negotiates bit g = subst (λ (x : Asked PlainHandle). AskedNegotiates bit x) s.is (calls-negotiate PlainHandle bit f call steps.negotiates) in
        let after : Negotiates bit known.to_caller.session = subst (λ (x : Option (Answered PlainHandle)). IfSome x (λ y. Negotiates bit y.session)) known.known
        (replies-negotiate PlainHandle bit call awaited g o.served negotiated (offers-so r bit f memory call s.w awaited g o offers steps.plain s.is meets)) in
        let has : Has PlainHandle f.header_flags f.profile known.to_caller.session = subst (λ (x : Option (Answered PlainHandle)). IfSome x (λ y. Has PlainHandle f.header_flags f.profile y.session)) known.known (answered-with PlainHandle f.header_flags f.profile call awaited g o.served set) in
        let has4 : Has PlainHandle f.header_flags f.profile (session.remembers f4) = subst (λ (k : Frontend). Has PlainHandle f.header_flags f.profile k) memory5 has in
        record {
          agree = agrees;
          negotiates = subst (λ (k : Frontend). Negotiates bit k) memory5 after;
          plain = ap (λ n. has_bit n 2) has4.0 ∙ steps.plain;
          standard = has4.1 ∙ steps.standard;
          goes_on = ap {A = Back} (λ k. (session_of k.2.session).failed) back.moves.hands.rest ∙ nothing (served.remembers b2).failed alive;
          unasked = one.now;
          idle = ap {A = Back} (λ k. is_some k.0) back.moves.hands.rest ∙ met.idle;
          no_request = (
            (λ i. (one.outgoing i).link.pending ++ t.sent i) ∙ back.moves.waits.queue ∙ over.queue,
            back.moves.hands.came ∙ met.came,
            ap {A = Incoming} (λ i. i.count) back.moves.hands.incoming ∙ met.count,
          );
          no_reply = back.queue;
          sound = (
            t.sound,
            ap {A = End} (λ e. e.broken) back.moves.hands.end ∙ met.sound.0,
            ap {A = End} (λ e. e.link.script) back.moves.hands.end ∙ met.sound.1,
          );
        }

    -- it was answered
    pub answered-so : IsSent call → Takes f3 f4 (Ok tt) → Joins bit call r f0 b0 (Ok (Ok tt)) f4 b3
    answered-so goes (kept asked whole size one names fine) = by (took-so asked f4.answer one)
      where
        by : Took known.to_caller (endpoint_of f3.frontend) (endpoint_of f4.frontend) (answer_of f4.answer) (session.remembers f4) ⊎ Wanted (answer_of f4.answer) → Joins bit call r f0 b0 (Ok (Ok tt)) f4 b3
        by (inl t) = (shown f4.answer, step f4.answer t, sym (answer-kept call f4 goes), refl, in-step asked f4.answer one t)
        by (inr w) = absurd (no-error f4.answer (seen w.error) fine w.is)

    -- the answer is an error
    pub failed-so : (why : Refusal) → is_want why ≡ false → Takes f3 f4 (Err why) → Joins bit call r f0 b0 (Ok (Err why)) f4 b3
    failed-so _ free (failed asked {e = e} whole size one last) = by (took-so asked (value.Failed e) one)
      where
        by : Took known.to_caller (endpoint_of f3.frontend) (endpoint_of f4.frontend) (answer_of (value.Failed e)) (session.remembers f4) ⊎ Wanted (answer_of (value.Failed e)) → Joins bit call r f0 b0 (Ok (Err (Protocol e))) f4 b3
        by (inl t) = (shown (value.Failed e), step (value.Failed e) t, refl, refl, in-step asked (value.Failed e) one t)
        by (inr w) = let same : seen e ≡ seen w.error = cc w.is in absurd (cc (sym free ∙ same-want e w.error same ∙ w.want))
    failed-so _ free (other_size asked any whole size one last) = absurd (cc (sym (sized3 asked one.was) ∙ size))
    failed-so _ free (nothing_asked none same) = absurd (cc (sym none ∙ asked3))
    failed-so _ free (not_yet more same) = absurd (never (subst (λ n. 0 < n) missing3 more))
      where
        never : 0 < 0 → ⊥
        never wrong = omega (arith, wrong)

-- ---- it was not asked

lasts-same : (e : declared.Error) (old new : End) → is_want (Protocol e) ≡ false → Lasts e old new → new.broken ≡ old.broken
lasts-same (code.SocketRetry c) old new free l = absurd (cc free)
lasts-same _ old new free l = l

-- the answer is that of the call's own tests
pub unasked-so : (bit : Bool) (call : Call) (r : Reply) (f0 f1 : Session) (b0 : Served) (why : Refusal) → AreInStep bit f0 b0 → session.Refused call f0 f1 why → session.Stays f0 f1 → is_want why ≡ false → Joins bit call r f0 b0 (Ok (Err why)) f1 b0
unasked-so bit call r f0 f1 b0 _ steps (session.busy some same) stays free = absurd (cc (sym (ap {A = Option CallAsked} (λ a. is_some a) steps.unasked) ∙ some))
unasked-so bit call r f0 f1 b0 _ steps (session.fails {e = e} why lasts) stays free = (unsent (Err (seen e)), by e free why, refl, refl, in-step)
  where
    same : session.remembers f1 ≡ session.remembers f0
    same = stays.rest.memory

    by : (x : declared.Error) → is_want (Protocol x) ≡ false → session.Fails call f0 x → protocol.JoinedStep (replies r) (opens r) (opens r) (session.remembers f0) (served.remembers b0) tt call (unsent (Err (seen x))) (session.remembers f1) (served.remembers b0) tt
    by x free (session.refused is) =
        subst (λ (y : Asked PlainHandle). protocol.Exchanges (replies r) (opens r) (opens r) (session.remembers f0) (served.remembers b0) tt call y (unsent (Err (seen x))) (session.remembers f1) (served.remembers b0) tt) (sym is) (refl, same, refl, refl)
    by _ free (session.no_queue some) = absurd (cc free)
    by _ free (session.no_list away) = absurd (cc free)
    by _ free (session.no_answer room) = absurd (cc free)
    by _ free (session.no_request is) = absurd (cc free)
    by _ free (session.was_broken is) = absurd (cc (sym steps.sound.0 ∙ is))

    in-step : AreInStep bit f1 b0
    in-step = record {
      agree = subst {A = Frontend} (λ k. AgreeOn k (served.remembers b0)) (sym same) steps.agree;
      negotiates = subst {A = Frontend} (λ k. Negotiates bit k) (sym same) steps.negotiates;
      plain = ap {A = Frontend} (λ k. has_bit k.header_flags 2) same ∙ steps.plain;
      standard = ap {A = Frontend} (λ k. k.profile) same ∙ steps.standard;
      goes_on = steps.goes_on;
      unasked = stays.rest.asked ∙ steps.unasked;
      idle = steps.idle;
      no_request = (stays.queue ∙ steps.no_request.0, steps.no_request.1, steps.no_request.2);
      no_reply = steps.no_reply;
      sound = (lasts-same e (endpoint_of f0.frontend) (endpoint_of f1.frontend) free lasts ∙ steps.sound.0, steps.sound.1, steps.sound.2);
    }

-- ---- it was not done

pub want-halts : (bit : Bool) (call : Call) (r : Reply) (f0 f1 : Session) (b0 b1 : Served) (m : Request) (before : Memory) (h : Halt) → Serves m r before (Err h) b1 → Joins bit call r f0 b0 (Err h) f1 b1
want-halts bit call r f0 f1 b0 b1 m before (halt.WantsMemory why) serves = serves
want-halts bit call r f0 f1 b0 b1 m before halt.Silent serves = absurd serves
want-halts bit call r f0 f1 b0 b1 m before halt.Ended serves = absurd serves

pub stop-halts : (bit : Bool) (call : Call) (r : Reply) (f0 f1 : Session) (b0 b1 : Served) (missing : Incoming → ℕ) (bytes : List ℕ) (h : Halt) → ((bytes ≡ []) × (i : Incoming) × (i.count ≡ 0) × (0 < missing i) → ⊥) → Stops missing bytes h → Joins bit call r f0 b0 (Err h) f1 b1
stop-halts bit call r f0 f1 b0 b1 missing bytes (halt.WantsMemory why) never is = ap is_want is
stop-halts bit call r f0 f1 b0 b1 missing bytes halt.Silent never is = absurd (never is)
stop-halts bit call r f0 f1 b0 b1 missing bytes halt.Ended never is = absurd is

module _ (bit : Bool) (call : Call) (given : HasFds call) (r : Reply) (f0 f1 f2 : Session) (b0 b1 b2 : Served) (steps : AreInStep bit f0 b0) (s : Sent call f0 f1)
    (over : IsOver (missing_by (heard_in (served.remembers b0))) s.w.handles (written_text request_number s.w) (session.view f1) (served.view b0) (session.view f2) (served.view b1)) (met : IsMet (read_as s.w) r (served.remembers b1) b2) where
  meeting : Meeting call r f0 b0 s.w met.outcome
  meeting = record { awaited = _; after = _; asked = s.is; meets = subst {A = Memory} (λ k. Meets (replies r) (opens r) (opens r) k tt (read_as s.w) met.outcome tt) (joining.memory bit call given f0 f1 b0 steps s f2 b1 over) met.meets }

  -- the session has ended
  pub ended-so : (b : Bool) → b ≡ is_some (served.remembers b2).failed → b ≡ true → Joins bit call r f0 b0 (Err halt.Ended) f2 b2
  ended-so b is ended = (s.w, met.outcome, meeting, met.memory, sym is ∙ ended)

-- ---- no message went out

pub flags-so : (bit : Bool) (call : Call) (r : Reply) (f0 f1 : Session) (b0 : Served) (n : ℕ) → call ≡ SetHdrFlags n → AreInStep bit f0 b0 → IsPlain call → Asks call f0 f1 → Joins bit call r f0 b0 (Ok (Ok tt)) f1 b0
flags-so bit call r f0 f1 b0 n flags steps plain (session.sent w is queue keeps answer sound) = absurd (no-message (session.remembers f0) w _ _ (subst (λ c. ask (session.remembers f0) c ≡ Sends w (awaits f1.frontend) (session.remembers f1)) flags is))
  where
    no-message : (f : Frontend) (w : Message) (a : Awaited) (g : Frontend) → ask f (SetHdrFlags n) ≡ Sends w a g → ⊥
    no-message f w a g is = cc is
flags-so bit call r f0 f1 b0 n flags steps plain (session.at_once k is memory queue asked incoming answer end) = (unsent (Ok Nothing), step, result, refl, in-step)
  where
    step : protocol.JoinedStep (replies r) (opens r) (opens r) (session.remembers f0) (served.remembers b0) tt call (unsent (Ok Nothing)) (session.remembers f1) (served.remembers b0) tt
    step = subst (λ c. protocol.JoinedStep (replies r) (opens r) (opens r) (session.remembers f0) (served.remembers b0) tt c (unsent (Ok Nothing)) (session.remembers f1) (served.remembers b0) tt) (sym is) (refl, memory, refl, refl)

    result : Ok Nothing ≡ answer_to call f1
    result = ap (λ c. answer_to c f1) (sym is)

    agrees : AgreeOn (record (session.remembers f0) { header_flags = k }) (served.remembers b0)
    agrees = let a = steps.agree in record { offered = a.offered; acked_protocol_features = a.acked_protocol_features; postcopy = a.postcopy; acked = a.acked; profile = a.profile }

    in-step : AreInStep bit f1 b0
    in-step = record {
      agree = subst {A = Frontend} (λ x. AgreeOn x (served.remembers b0)) (sym memory) agrees;
      negotiates = subst {A = Frontend} (λ x. Negotiates bit x) (sym memory) steps.negotiates;
      plain = ap {A = Frontend} (λ x. has_bit x.header_flags 2) memory ∙ subst IsPlain is plain;
      standard = ap {A = Frontend} (λ x. x.profile) memory ∙ steps.standard;
      goes_on = steps.goes_on;
      unasked = asked ∙ steps.unasked;
      idle = steps.idle;
      no_request = (queue ∙ steps.no_request.0, steps.no_request.1, steps.no_request.2);
      no_reply = steps.no_reply;
      sound = (ap {A = End} (λ e. e.broken) end ∙ steps.sound.0, steps.sound.1, steps.sound.2);
    }

-- ---- refusals

abbrev pub Outcomes : Type 0
Outcomes = Result (Result ⊤ Refusal) Halt

-- a refusal is an answer unless memory was refused
pub by-refusal : (P : Outcomes → Type 0) (why : Refusal) (result : Outcomes) → result ≡ halted (λ w. Err w) why → (is_want why ≡ true → P (Err (halt.WantsMemory why))) → (is_want why ≡ false → P (Ok (Err why))) → P result
by-refusal P why result is wants answers = subst P (sym is) (by (is_want why) refl)
  where
    by : (b : Bool) → is_want why ≡ b → P (halted (λ w. Err w) why)
    by true want = subst P (sym (ap (λ b. cond {A = Outcomes} b (Err (halt.WantsMemory why)) (Ok (Err why))) want)) (wants want)
    by false free = subst P (sym (ap (λ b. cond {A = Outcomes} b (Err (halt.WantsMemory why)) (Ok (Err why))) free)) (answers free)
