-- A request that was served.
use Rattle.std.proofs.Common.{◌≡◌, ℤ, ◌⊎◌, inl, inr, Bool, true, false, cond, List, [], ◌++◌, Option, Some, None, Result, Ok, Err, refl, sym, ◌∙◌, ap, subst}
use Rattle.std.specs.Prelude.{⊤, ℕ, not, ◌&&◌, ◌||◌, is_some, is_err}
use Rattle.std.proofs.lemmas.List.{append-nil}
use Rattle.vhost_message.specs.declared.error.Error as declared
use Rattle.vhost_message.specs.declared.error.Error.TheVariants as error
use Rattle.vhost_message.specs.declared.heard_req.HeardReq.{HeardReq}
use Rattle.vhost_message.specs.HeardReq.{request_number}
use Rattle.vhost_protocol.specs.Codes.{allows_handles}
use Rattle.vhost_protocol.specs.Error.{Error, OutOfMemory, seen, seen_result}
use Rattle.vhost_protocol.specs.declared.profile.Profile.{Profile}
use Rattle.vhost_protocol.specs.declared.profile.Profile.TheVariants.{Vhost, Standard}
use Rattle.vhost_protocol.specs.FrontendCall.{Frontend}
use Rattle.vhost_protocol.specs.Handler.{Meets, MeetsRow}
use Rattle.vhost_protocol.specs.Joined.{is_silent, is_end, stops, read_as}
use Rattle.vhost_protocol.specs.Profile.{is_standard}
use Rattle.vhost_protocol.specs.Run as run
use Rattle.vhost_protocol.specs.Served.{Served, Silent, Acknowledged, Replied, reply, cells_of}
use Rattle.vhost_protocol.specs.Session.{Session, heard_in}
use Rattle.vhost_protocol.specs.Split.{split, Message}
use Rattle.vhost_protocol.specs.Step.{Outcome}
use Rattle.vhost_protocol.specs.Stream.{Cell, bytes, has_some}
use Rattle.vhost_protocol.specs.Written.{Written, written_cells}
use Rattle.vhost_protocol.proofs.TextLaws.{IsSendable, written-split}
use Rattle.vhost_link.specs.declared.plain.PlainHandle.{PlainHandle}
use Rattle.vhost_link.specs.Mem.{event}
use Rattle.vhost_connection.specs.Serving.{Handled}
use Rattle.vhost_backend_req_handler.specs.Serving.{HandlesOne, fitting, kept_unsent}
use Rattle.vhost_joined.specs.declared.halt.Stop.{Stop}
use Rattle.vhost_joined.specs.declared.halt.Stop.TheVariants.{Table, Premise}
use Rattle.vhost_joined.specs.Device.{Gives, opens_backend, opens_gpu}
use Rattle.vhost_joined.specs.OnWay.{incoming, outgoing}
use Rattle.vhost_joined.specs.Joined.{PassesBoth, is_over}
use Rattle.vhost_joined.specs.Sides.{cuts_of, stop_of}
use Rattle.vhost_joined.proofs.Spent.{End}
use Rattle.vhost_joined.proofs.Handled as handling
use Rattle.vhost_joined.proofs.Handled.{Faults}

pub pair-first : {A B : Type 0} {p q : A × B} → p ≡ q → p.0 ≡ q.0
pair-first {A = A} {B = B} e = ap {A = A × B} (λ x. x.0) e

pub pair-second : {A B : Type 0} {p q : A × B} → p ≡ q → p.1 ≡ q.1
pair-second {A = A} {B = B} e = ap {A = A × B} (λ x. x.1) e

module _ {Dev : Type 0} (gives : Gives Dev) (he he' : End) (s s' : Session) (d d' : Dev) where
  abbrev pub Met : Session → Dev → Message HeardReq PlainHandle → Result ⊤ Error → List (Cell PlainHandle) → Session → Dev → Type 0
  Met = MeetsRow (fitting gives) opens_backend opens_gpu

  abbrev pub Handled1 : Result ⊤ Error → Type 0
  Handled1 a = Handled event heard_in allows_handles (λ (t : Session). t.failed) kept_unsent Met he s d a he' s' d'

  -- the handler's link failed
  abbrev pub ServingFaults : Type 0
  ServingFaults = Faults heard_in allows_handles (λ (t : Session). t.failed) kept_unsent Met he he' s s' d d'

  pub split-handled : (r : Result ⊤ declared.Error) → HandlesOne event gives opens_backend opens_gpu he s d r he' s' d' → he.broken ≡ None → he.list ≡ true → Handled1 (seen_result r) ⊎ ServingFaults
  split-handled = handling.split-handled heard_in allows_handles (λ (t : Session). t.failed) kept_unsent Met he he' s s' d d'

  pub faulted-so : ServingFaults → he'.faulted ≡ true
  faulted-so = handling.faulted-so heard_in allows_handles (λ (t : Session). t.failed) kept_unsent Met he he' s s' d d'

  module _ (r : Result ⊤ Error) (h : Handled1 r) where
    pub handled-first : split (heard_in s) allows_handles (incoming he) ≡ (h.heard, incoming he')
    handled-first = handling.handled-first heard_in allows_handles (λ (t : Session). t.failed) kept_unsent Met he he' s s' d d' r h

    pub handled-written : outgoing he' ≡ outgoing he ++ h.written
    handled-written = handling.handled-written heard_in allows_handles (λ (t : Session). t.failed) kept_unsent Met he he' s s' d d' r h

    pub handled-budget : he'.budget ≡ he.budget
    handled-budget = handling.handled-budget heard_in allows_handles (λ (t : Session). t.failed) kept_unsent Met he he' s s' d d' r h

    pub both-passed : (request : List (Cell PlainHandle)) → (has_some request ≡ true → (he.ahead ≡ []) × (incoming he ≡ request) × (incoming he' ≡ [])) → PassesBoth he.budget request h.written (cuts_of he.link) (cuts_of he'.link)
    both-passed = handling.both-passed heard_in allows_handles (λ (t : Session). t.failed) kept_unsent Met he he' s s' d d' r h

  -- The request was served.
  pub record IsServed (w : Written HeardReq PlainHandle) (r : Result ⊤ Error) : Type 0 where
    pub handled : Handled1 r
    pub heard : handled.heard ≡ Ok (read_as w)
    pub outcome : Outcome PlainHandle
    pub meets : Meets (fitting gives) opens_backend opens_gpu s d (read_as w) outcome d'
    pub answer : r ≡ outcome.answer
    pub wrote : handled.written ≡ cells_of request_number (reply w.request outcome.served)
    pub written : outgoing he' ≡ cells_of request_number (reply w.request outcome.served)
    pub session : s' ≡ outcome.session
    pub nothing : incoming he' ≡ []

  pub is-served : (w : Written HeardReq PlainHandle) (r : Result ⊤ Error) → IsSendable (heard_in s) allows_handles request_number w → Handled1 r → incoming he ≡ written_cells request_number w → outgoing he ≡ [] → IsServed w r
  is-served w r sendable h came clear =
      let whole = written-split (heard_in s) allows_handles request_number w [] sendable in
      let both = sym (handled-first r h) ∙ ap (λ cells. split (heard_in s) allows_handles cells) (came ∙ sym (append-nil (written_cells request_number w))) ∙ whole in
      let m : Met s d (read_as w) r h.written s' d' =
      subst (λ x. run.Handles heard_in allows_handles (λ (t : Session). t.failed) Met s d x r h.written s' d') (pair-first both) h.handles in
      record {
        handled = h;
        heard = pair-first both;
        outcome = m.0;
        meets = m.1;
        answer = m.2;
        wrote = m.3;
        written = handled-written r h ∙ ap (λ xs. xs ++ h.written) clear ∙ m.3;
        session = m.4;
        nothing = pair-second both;
      }

-- ---- where a run stops

abbrev pub last_stop : Bool → Option Stop
last_stop last = cond last (Some Table) None

-- where no endpoint met a fault, a run stops because there was no memory, or where it is over
pub stopped-as : (f : Frontend) (s : Session) (b : Bool) (result : Result ⊤ declared.Error) (text : List ℕ)
    → ((stop_of false f s b result text ≡ Some Premise) × (seen_result result ≡ Err OutOfMemory)) ⊎ (stop_of false f s b result text ≡ last_stop (is_over f s b (seen_result result) text))
stopped-as f s b (Ok u) text = inr refl
stopped-as f s b (Err error.OutOfMemory) text = inl (refl, refl)
stopped-as f s b (Err e) text = inr refl

-- nothing was written where there is no text
silent-text : (r : HeardReq) (served : Served PlainHandle) → not (has_some (bytes (cells_of request_number (reply r served)))) ≡ is_silent served
silent-text r Silent = refl
silent-text r (Acknowledged agreed) = refl
silent-text r (Replied p hs) = refl

or-none : (b : Bool) → (b || false) ≡ b
or-none true = refl
or-none false = refl

-- a run is over exactly where the definition stops it
pub over-as : (p : Profile) (f : Frontend) (s : Session) (r : HeardReq) (b : Bool) (o : Outcome PlainHandle) → f.profile ≡ p → s ≡ o.session → is_end r ≡ b → (p ≡ Vhost → is_some o.session.failed ≡ false)
    → is_over f s b o.answer (bytes (cells_of request_number (reply r o.served))) ≡ stops p r o
over-as Vhost f s r b o is same ended alive =
    ap {A = Session} (λ t. is_over f t b o.answer (bytes (cells_of request_number (reply r o.served)))) same
    ∙ ap (λ q. is_some o.session.failed || (not (is_standard q) && (is_err o.answer && (not (has_some (bytes (cells_of request_number (reply r o.served)))) || b)))) is
    ∙ ap (λ c. c || (is_err o.answer && (not (has_some (bytes (cells_of request_number (reply r o.served)))) || b))) (alive refl)
    ∙ ap (λ c. is_err o.answer && (c || b)) (silent-text r o.served) ∙ ap (λ c. is_err o.answer && (is_silent o.served || c)) (sym ended)
over-as Standard f s r b o is same ended alive =
    ap {A = Session} (λ t. is_over f t b o.answer (bytes (cells_of request_number (reply r o.served)))) same
    ∙ ap (λ q. is_some o.session.failed || (not (is_standard q) && (is_err o.answer && (not (has_some (bytes (cells_of request_number (reply r o.served)))) || b)))) is
    ∙ or-none (is_some o.session.failed)

-- a run that does not stop is of a session that has not ended
unended : (x : Option ℤ) (rest : Bool) → last_stop (is_some x || rest) ≡ None → x ≡ None
unended None rest on = refl
unended (Some n) rest on = absurd (cc on)

pub going-alive : (faulted : Bool) (f : Frontend) (s : Session) (b : Bool) (result : Result ⊤ declared.Error) (text : List ℕ) → stop_of faulted f s b result text ≡ None → s.failed ≡ None
going-alive true f s b result text on = absurd (cc on)
going-alive false f s b result text on = by-cases (stopped-as f s b result text)
  where
    by-cases : ((stop_of false f s b result text ≡ Some Premise) × (seen_result result ≡ Err OutOfMemory)) ⊎ (stop_of false f s b result text ≡ last_stop (is_over f s b (seen_result result) text)) → s.failed ≡ None
    by-cases (inl (e, memory)) = absurd (cc (sym e ∙ on))
    by-cases (inr e) = unended s.failed (not (is_standard f.profile) && (is_err (seen_result result) && (not (has_some text) || b))) (sym e ∙ on)

-- no other error is seen as that one
other-seen : (e : declared.Error) → seen e ≡ OutOfMemory → e ≡ error.OutOfMemory
other-seen error.OutOfMemory is = refl
other-seen _ is = absurd (cc is)

-- where the run stops at the last step, or not at all, there was memory
pub fed : (f : Frontend) (s : Session) (b : Bool) (result : Result ⊤ declared.Error) (text : List ℕ) (last : Bool) → stop_of false f s b result text ≡ last_stop last → seen_result result ≡ Err OutOfMemory → ⊥
fed f s b (Ok u) text last stops is = cc is
fed f s b (Err e) text last stops is = from-memory e (other-seen e (cc is)) stops
  where
    no-last : (end : Bool) → Some Premise ≡ last_stop end → ⊥
    no-last true same = cc same
    no-last false same = cc same

    from-memory : (e' : declared.Error) → e' ≡ error.OutOfMemory → stop_of false f s b (Err e') text ≡ last_stop last → ⊥
    from-memory e' same at_last = no-last last (subst (λ x. stop_of false f s b (Err x) text ≡ last_stop last) same at_last)

pub not-last : (last : Bool) → last_stop last ≡ None → last ≡ false
not-last true e = absurd (cc e)
not-last false e = refl
