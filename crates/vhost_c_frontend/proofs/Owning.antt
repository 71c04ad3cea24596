-- A backend is owned as often as it is to be, where memory is found.
use Rattle.std.proofs.Common.{◌≡◌, ◌+◌, ℕ, suc, true, false, List, [], ◌++◌, None, Some, Result, Ok, Err, inl, inr, refl, sym, ap, subst, ◌∙◌, append_assoc, arith}
use Rattle.std.specs.Prelude.{⊤, is_some}
use Rattle.std.proofs.lemmas.List.{append-nil}
use Rattle.vhost_message.specs.HeardReq.{request_number}
use Rattle.vhost_message.specs.Header.{Header, header_of}
use Rattle.vhost_message.specs.MsgHeader.{fields_of}
use Rattle.vhost_message.specs.declared.error.Error as declared
use Rattle.vhost_message.specs.declared.heard_req.HeardReq.{HeardReq}
use Rattle.vhost_message.specs.declared.heard_req.HeardReq.TheVariants.{SET_OWNER}
use Rattle.vhost_protocol.specs.AnswerTable.{Answered, answered}
use Rattle.vhost_protocol.specs.Ask.{Sends, ask}
use Rattle.vhost_protocol.specs.Error.{Error, seen}
use Rattle.vhost_protocol.specs.FrontendCall.{Frontend, FrontendCall, Nothing, SetOwner, Value, new_frontend}
use Rattle.vhost_protocol.specs.Stream.{Cell}
use Rattle.vhost_protocol.specs.Take.{take}
use Rattle.vhost_protocol.specs.Written.{Empty, Written, written_cells}
use Rattle.vhost_protocol.specs.declared.asked.Awaited.{Awaited}
use Rattle.vhost_protocol.specs.declared.asked.Awaited.TheVariants.{Nobody}
use Rattle.vhost_protocol.specs.declared.profile.Profile.{Profile}
use Rattle.vhost_link.specs.declared.plain.PlainHandle.{PlainHandle}
use Rattle.vhost_connection.specs.Memory.{TalksLaw}
use Rattle.vhost_frontend_core.specs.Frontend.{endpoint_of}
use Rattle.vhost_frontend_core.specs.Taking.{read, unread}
use Rattle.vhost_frontend_core.specs.ValueHalves.{TakesResult}
use Rattle.vhost_frontend_core.specs.Values.{answer_of, call_of}
use Rattle.vhost_frontend_core.specs.declared.values.answer.FrontendAnswer.{FrontendAnswer}
use Rattle.vhost_frontend_core.specs.declared.values.answer.FrontendAnswer.TheVariants as value
use Rattle.vhost_c_common.proofs.Hearing.{hears-cut}
use Rattle.vhost_c_common.proofs.Wanting.{Wanting, is-uncut, wanted, wants-seen}
use Rattle.vhost_c_common.proofs.Wants.{IsWant, failed, sound}
use Rattle.vhost_c_common.specs.Memory.{WantsMemory}
use Rattle.vhost_c_common.specs.View.{End}
use Rattle.vhost_c_common.specs.declared.refusal.Refusal.{Refusal}
use Rattle.vhost_c_common.specs.declared.refusal.Refusal.TheVariants.{Protocol}
use Rattle.vhost_c_frontend.specs.Clients.{IsOwning, Owns, own, owns}
use Rattle.vhost_c_frontend.specs.Incoming.{is_sized, missing_from}
use Rattle.vhost_c_frontend.specs.Session as session
use Rattle.vhost_c_frontend.specs.Session.{Asks, Changes, Fails, IsNew, Refused, Takes, TakesOne, busy, fails, missing_for, missing_of, queued, remembers}
use Rattle.vhost_c_frontend.specs.declared.session.Asked.{Asked as CallAsked}
use Rattle.vhost_c_frontend.specs.declared.session.Session.{Session}

-- what is remembered
abbrev owner : ℕ → Profile → Frontend
owner queues profile = record (new_frontend queues) { profile = profile }

-- the call, and its message
abbrev call : FrontendCall PlainHandle
call = SetOwner

abbrev message : Written HeardReq PlainHandle
message = record { request = SET_OWNER; reply = false; need_reply = false; payload = Empty; handles = [] }

own-cells : written_cells request_number message ≡ own
own-cells = refl

asked-is : (queues : ℕ) (profile : Profile) (w : Written HeardReq PlainHandle) (awaited : Awaited) (f' : Frontend) → ask (owner queues profile) call ≡ Sends w awaited f' → (message ≡ w) × (Nobody ≡ awaited) × (owner queues profile ≡ f')
asked-is queues profile w awaited f' is =
    let same : Sends message Nobody (owner queues profile) ≡ Sends w awaited f' = is in (cc same, cc same, cc same)

-- ---- what is taken where nobody answers

-- Nothing was read, and all is as before; or memory was refused.
data Took (old new : End) (f f' : Frontend) : Result (Value PlainHandle) Error → Type 0 where
  fine : f' ≡ f → new.link.sent ≡ old.link.sent → new.broken ≡ None → new.link.script ≡ [] → Took old new f f' (Ok Nothing)
  want : (e : declared.Error) → IsWant old e → Took old new f f' (Err (seen e))

module _ (header : Header) (f f' : Frontend) (result : Result (Value PlainHandle) Error) where
  abbrev told : Answered PlainHandle
  told = answered f' result

  abbrev silent : Answered PlainHandle
  silent = answered f (Ok Nothing)

  -- the table's answer to silence is that of the call
  is-silent : Some silent ≡ Some told → (Ok Nothing ≡ result) × (f' ≡ f)
  is-silent is =
      let same : silent ≡ told = cc is in
      (ap {A = Answered PlainHandle} (λ a. a.result) same, sym (ap {A = Answered PlainHandle} (λ a. a.session) same))

  took : TalksLaw → (old new : End) → old.broken ≡ None → old.link.script ≡ [] → TakesResult call Nobody header old f result new f' → Took old new f f' result
  took law old _ unbroken script (inl (unread is)) =
      let x = is-silent (ap (λ p. p.0) (is [])) in
      subst (λ r. Took old old f f' r) x.0 (fine x.1 refl unbroken script)
  took law old new unbroken script (inl (read h)) =
      let cut = hears-cut law (take call Nobody header f) old new (Some told) h.hears in
      let x = is-silent (ap (λ p. p.0) cut.0) in
      let s = sound old new h.hears.serves in
      subst (λ r. Took old new f f' r) x.0 (fine x.1 cut.1 s.after (s.uncut script))
  took law old new unbroken script (inr x) = subst (λ r. Took old new f f' r) (sym x.2) (want x.1 (failed old new true x.1 x.3 (is-uncut old unbroken script)).1)

-- an answer that is an error is one that failed
is-failed : (a : FrontendAnswer) (x : Error) → answer_of a ≡ Err x → ((e : declared.Error) → ¬ (a ≡ value.Failed e)) → ⊥
is-failed (value.Failed e) x is never = never e refl
is-failed _ x is never = absurd (cc is)

module _ (queues : ℕ) (profile : Profile) (cells : List (Cell PlainHandle)) (s : Session) (is : IsOwning queues profile cells s) where
  -- ---- why not

  fails-wants : (e : declared.Error) → Fails call s e → WantsMemory (Protocol e)
  fails-wants _ (session.refused why) = absurd (cc (sym (ap {A = Frontend} (λ f. ask f call) is.memory) ∙ why))
  fails-wants _ (session.no_queue some) = tt
  fails-wants _ (session.no_list away) = tt
  fails-wants _ (session.no_answer room) = tt
  fails-wants _ (session.no_request sends) = refl
  fails-wants _ (session.was_broken at) = absurd (cc (sym is.sound ∙ at))

  pub refused-wants : (t : Session) (r : Refusal) → Refused call s t r → WantsMemory r
  refused-wants t _ (busy some all) = absurd (cc (sym (ap is_some is.asked) ∙ some))
  refused-wants t _ (fails {e = e} why lasts) = fails-wants e why

  -- ---- it was asked

  -- The request is to be sent, and nobody answers.
  record HasAsked (t : Session) : Type 0 where
    kept : CallAsked
    asked : t.asked ≡ Some kept
    same : call_of kept.call ≡ call
    nobody : kept.sent.awaited ≡ Nobody
    queue : queued t ≡ cells ++ own
    memory : remembers t ≡ owner queues profile
    sound : (endpoint_of t.frontend).broken ≡ None
    uncut : (endpoint_of t.frontend).link.script ≡ []

  has-asked : (t : Session) → Asks call s t → HasAsked t
  has-asked t (session.sent w sends queue keeps same sound) =
      let x = asked-is queues profile w _ (remembers t) (sym (ap {A = Frontend} (λ f. ask f call) is.memory) ∙ sends) in
      record {
        kept = keeps.kept;
        asked = keeps.is;
        same = keeps.same;
        nobody = keeps.awaited ∙ sym x.1;
        queue = queue ∙ (λ i. is.queue i ++ written_cells request_number (sym x.0 i));
        memory = sym x.2;
        sound = sound.after;
        uncut = sound.uncut is.uncut;
      }
  has-asked t (session.at_once flags flagged memory queue asked incoming answer end) = absurd (cc flagged)

  -- ---- nothing is missing, and all is taken

  module _ (law : TalksLaw) (t u : Session) (x : HasAsked t) where
    none-missing : missing_of t ≡ 0
    none-missing = ap (λ a. missing_for (remembers t).profile a t.incoming) x.asked ∙ ap (λ a. missing_from (remembers t).profile (call_of x.kept.call) a t.incoming) x.nobody

    module _ (asked : CallAsked) (was : t.asked ≡ Some asked) where
      as-kept : asked ≡ x.kept
      as-kept = cc (was, x.asked)

      nobody : asked.sent.awaited ≡ Nobody
      nobody = ap {A = CallAsked} (λ k. k.sent.awaited) as-kept ∙ x.nobody

      sized : session.is_sized_of (remembers t).profile asked t.incoming ≡ true
      sized = ap (λ a. is_sized (remembers t).profile (call_of asked.call) a (header_of t.incoming.head).size) nobody

      one : (a : FrontendAnswer) → TakesOne asked (endpoint_of t.frontend) t a u → Took (endpoint_of t.frontend) (endpoint_of u.frontend) (remembers t) (remembers u) (answer_of a)
      one a taken =
          took (fields_of asked.sent.request) (remembers t) (remembers u) (answer_of a) law (endpoint_of t.frontend) (endpoint_of u.frontend) x.sound x.uncut
          (subst (λ w. TakesResult call w (fields_of asked.sent.request) (endpoint_of t.frontend) (remembers t) (answer_of a) (endpoint_of u.frontend) (remembers u)) nobody
          (subst (λ c. TakesResult c asked.sent.awaited (fields_of asked.sent.request) (endpoint_of t.frontend) (remembers t) (answer_of a) (endpoint_of u.frontend) (remembers u)) (ap {A = CallAsked} (λ k. call_of k.call) as-kept ∙ x.same) taken.taken))

      owned : (a : FrontendAnswer) (r : Result (Value PlainHandle) Error) → answer_of a ≡ r → TakesOne asked (endpoint_of t.frontend) t a u → ((e : declared.Error) → ¬ (a ≡ value.Failed e))
          → Took (endpoint_of t.frontend) (endpoint_of u.frontend) (remembers t) (remembers u) r → IsOwning queues profile (cells ++ own) u
      owned a _ said taken well (fine memory sent sound uncut) = record {
        queue = (λ i. (taken.outgoing i).link.pending ++ sent i) ∙ x.queue;
        asked = taken.now;
        memory = memory ∙ x.memory;
        sound = sound;
        uncut = uncut;
      }
      owned a _ said taken well (want e w) = absurd (is-failed a (seen e) said well)

      unowned : (e : declared.Error) (r : Result (Value PlainHandle) Error) → Err (seen e) ≡ r → Took (endpoint_of t.frontend) (endpoint_of u.frontend) (remembers t) (remembers u) r → WantsMemory (Protocol e)
      unowned e _ said (fine memory sent sound uncut) = absurd (cc said)
      unowned e _ said (want d w) = wanted e (subst {A = Error} (λ y. Wanting y) (sym (cc said)) (wants-seen (endpoint_of t.frontend) d x.sound w))

    takes : (r : Result ⊤ Refusal) → Takes t u r → Owns queues profile (cells ++ own) r u
    takes _ (session.kept asked zero big one-is names well) = owned asked one-is.was u.answer _ refl one-is well (one asked one-is.was u.answer one-is)
    takes _ (session.failed asked {e = e} zero big one-is done) = unowned asked one-is.was e _ refl (one asked one-is.was (value.Failed e) one-is)
    takes _ (session.other_size asked nothing zero small one-is done) = absurd (cc (sym small ∙ sized asked one-is.was))
    takes _ (session.nothing_asked none same) = absurd (cc (sym none ∙ x.asked))
    takes _ (session.not_yet more same) = absurd (omega (arith, more, none-missing))

  pub once : TalksLaw → (t u : Session) (r : Result ⊤ Refusal) → Asks call s t → Takes t u r → Owns queues profile (cells ++ own) r u
  once law t u r asks took-is = takes law t u (has-asked t asks) r took-is

-- ---- so often

pub first : (queues : ℕ) (profile : Profile) (cells : List (Cell PlainHandle)) (s : Session) → IsOwning queues profile cells s → IsOwning queues profile (cells ++ owns 0) s
first queues profile cells s is = subst (λ xs. IsOwning queues profile xs s) (sym (append-nil cells)) is

pub more : (queues : ℕ) (profile : Profile) (cells : List (Cell PlainHandle)) (n : ℕ) (s : Session) → IsOwning queues profile ((cells ++ owns n) ++ own) s → IsOwning queues profile (cells ++ owns (n + 1)) s
more queues profile cells n s is =
    let next : suc n ≡ n + 1 = omega arith in
    subst (λ xs. IsOwning queues profile xs s) (append_assoc cells (owns n) own ∙ ap (λ k. cells ++ owns k) next) is

-- a new session with this profile
pub begins : (queues : ℕ) (profile : Profile) (s t : Session) → IsNew queues s → Changes profile s t → IsOwning queues profile [] t
begins queues profile s t fresh changes = record {
  queue = changes.queue ∙ fresh.empty.queue;
  asked = changes.asked ∙ fresh.asked;
  memory = changes.memory ∙ ap {A = Frontend} (λ f. record f { profile = profile }) fresh.memory;
  sound = ap {A = End} (λ e. e.broken) changes.end ∙ ap {A = End} (λ e. e.broken) fresh.empty.end;
  uncut = ap {A = End} (λ e. e.link.script) changes.end ∙ ap {A = End} (λ e. e.link.script) fresh.empty.end;
}
