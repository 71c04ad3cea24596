-- Calls one after another are a run, and a handler does with one device what it does with a wider one.
use Rattle.std.proofs.Common.{◌≡◌, ◌⊎◌, ℕ, ◌+◌, Bool, List, [], ◌∷◌, ◌++◌, length, Option, Some, None, Result, Ok, Err, inl, inr, refl, sym, ◌∙◌, ap, subst, append_assoc, length-append}
use Rattle.std.specs.Prelude.{ℤ}
use Rattle.std.proofs.lemmas.List.{append-nil}
use Rattle.vhost_message.specs.declared.error.Error as declared
use Rattle.vhost_message.specs.declared.error.Error.TheVariants as code
use Rattle.vhost_message.specs.declared.cause.IoCause.TheVariants as cause
use Rattle.vhost_protocol.specs.Error.{Error, seen, seen_result}
use Rattle.vhost_protocol.specs.Run as run
use Rattle.vhost_protocol.specs.Split.{Message}
use Rattle.vhost_protocol.specs.Stream.{Cell, items}
use Rattle.vhost_link.specs.Law.{Event, Move, nothing, ◌then◌}
use Rattle.vhost_link.specs.Law.Moved.{still}
use Rattle.vhost_connection.specs.Talk.{State, Talks}
use Rattle.vhost_connection.proofs.Talking.{Talks-then}
use Rattle.vhost_connection.specs.Serving as serving
use Rattle.vhost_connection.specs.Serving.{Handled, Breaks, HandlesOne, CallsUnless, CallsOnce, CallsMany, WholeRun, BrokenRun, RunsMany, Runs}
use Rattle.vhost_connection.proofs.Serving.{as-entry}

module _ {L R H S A Dev : Type 0} (event : L → Event H → L → Type 0) (request_of : S → ℕ → Option R) (allows_handles : R → ℕ → Bool) (failed : S → Option ℤ)
    (kept : R → S → S → S) (Meets : S → Dev → Message R H → Result A Error → List (Cell H) → S → Dev → Type 0) where
  -- one more call behind others
  calls-more : (old mid new : State L H) (s t s' : S) (d between d' : Dev) (answers : List (Result A declared.Error)) (answer : Result A declared.Error)
      → CallsMany event request_of allows_handles failed kept Meets old s d answers mid t between → CallsOnce event request_of allows_handles failed kept Meets mid t between answer new s' d'
      → CallsMany event request_of allows_handles failed kept Meets old s d (answers ++ answer ∷ []) new s' d'
  calls-more old mid new s t s' d between d' [] answer (a, b, c) p = (
    new,
    s',
    d',
    subst (λ (x : State L H). CallsOnce event request_of allows_handles failed kept Meets x s d answer new s' d') a
        (subst (λ (x : S). CallsOnce event request_of allows_handles failed kept Meets mid x d answer new s' d') b
        (subst (λ (x : Dev). CallsOnce event request_of allows_handles failed kept Meets mid t x answer new s' d') c p)),
    (refl, refl, refl),
  )
  calls-more old mid new s t s' d between d' (x ∷ answers) answer (m, u, e, first, rest) p =
      (m, u, e, first, calls-more m mid new u t s' e between d' answers answer rest p)

  -- what one call is, if it is an entry of a run: also that of a session which is marked as failed
  record Counts (old : State L H) (s : S) (d : Dev) (answer : Result A declared.Error) (new : State L H) (s' : S) (d' : Dev) : Type 0 where
    move : Move H
    talks : Talks event old move new
    failures : move.failures ≡ 0
    handles : run.Serves request_of allows_handles failed Meets s d move.handed (seen_result answer) move.taken s' d'

  counts : (old new : State L H) (s s' : S) (d d' : Dev) (answer : Result A declared.Error) → failed s ≡ None → Handled event request_of allows_handles failed kept Meets old s d (seen_result answer) new s' d' → Counts old s d answer new s' d'
  counts old new s s' d d' answer alive h =
      let e = as-entry event request_of allows_handles failed kept Meets old new s s' d d' (seen_result answer) alive h in
      record { move = e.move; talks = e.talks; failures = e.failures; handles = e.handles }

  quiet : (old : State L H) → Talks event old nothing old
  quiet old = record { below = nothing; moved = still; handed = append-nil (items old.ahead); taken = refl; retries = refl; failures = refl; budget = refl }

  none-run : (old : State L H) (s : S) (d : Dev) → WholeRun event request_of allows_handles failed kept Meets old s d [] old s d
  none-run old s d = record { move = nothing; talks = quiet old; failures = refl; run = (refl, refl, refl, refl) }

  -- an entry, and then a run
  entry-then : (old mid new : State L H) (s t s' : S) (d between d' : Dev) (answer : Result A declared.Error) (answers : List (Result A declared.Error))
      → Counts old s d answer mid t between → WholeRun event request_of allows_handles failed kept Meets mid t between answers new s' d'
      → WholeRun event request_of allows_handles failed kept Meets old s d (answer ∷ answers) new s' d'
  entry-then old mid new s t s' d between d' answer answers e r = record {
    move = e.move then r.move;
    talks = Talks-then e.talks r.talks;
    failures = rw (e.failures, r.failures) refl;
    run = (e.move.handed, r.move.handed, e.move.taken, r.move.taken, t, between, e.handles, refl, refl, r.run);
  }

  -- an entry before a run that broke
  entry-before : (old mid new : State L H) (s t s' : S) (d between d' : Dev) (answer : Result A declared.Error) (answers : List (Result A declared.Error))
      → Counts old s d answer mid t between → BrokenRun event request_of allows_handles failed kept Meets mid t between answers new s' d'
      → BrokenRun event request_of allows_handles failed kept Meets old s d (answer ∷ answers) new s' d'
  entry-before old mid new s t s' d between d' answer answers e r = record {
    served = answer ∷ r.served;
    error = r.error;
    later = r.later;
    all = ap (λ xs. answer ∷ xs) r.all;
    mid = r.mid;
    mid_session = r.mid_session;
    mid_device = r.mid_device;
    run = entry-then old mid r.mid s t r.mid_session d between r.mid_device answer r.served e r.run;
    next = r.next;
    next_session = r.next_session;
    next_device = r.next_device;
    breaks = r.breaks;
    rest = r.rest;
  }

  -- one call is an entry, or it broke; a session that is marked as failed is an entry, too
  judged : (old new : State L H) (s s' : S) (d d' : Dev) (answer : Result A declared.Error) (mark : Option ℤ) → failed s ≡ mark → CallsUnless event request_of allows_handles failed kept Meets mark old s d answer new s' d'
      → Counts old s d answer new s' d' ⊎ ((e : declared.Error) × (answer ≡ Err e) × Breaks event request_of allows_handles failed kept Meets old s d e new s' d')
  judged old new s s' d d' answer (Some n) marked (is, at, same, stays) =
      let broken : Result A declared.Error = Err (code.SocketBroken (cause.Raw n)) in
      let entry : Counts old s d broken old s d = record {
        move = nothing;
        talks = quiet old;
        failures = refl;
        handles = subst (λ f. run.ServesUnless request_of allows_handles failed Meets f s d [] (seen_result broken) [] s d) (sym marked) (refl, (refl, refl, refl, refl));
      } in
      inl (subst (λ (x : Dev). Counts old s d answer new s' x) (sym stays)
      (subst (λ (x : S). Counts old s d answer new x d) (sym same)
      (subst (λ (x : State L H). Counts old s d answer x s d) (sym at)
      (subst (λ (x : Result A declared.Error). Counts old s d x old s d) (sym is) entry))))
  judged old new s s' d d' (Ok a) None marked p = inl (counts old new s s' d d' (Ok a) marked p)
  judged old new s s' d d' (Err e) None marked (inl p) = inl (counts old new s s' d d' (Err e) marked p)
  judged old new s s' d d' (Err e) None marked (inr p) = inr (e, refl, p)

  -- many calls are a whole run, unless one failed
  calls-run : (old new : State L H) (s s' : S) (d d' : Dev) (answers : List (Result A declared.Error)) → CallsMany event request_of allows_handles failed kept Meets old s d answers new s' d'
      → RunsMany event request_of allows_handles failed kept Meets old s d answers new s' d'
  calls-run old new s s' d d' [] (a, b, c) =
      inl (subst (λ (x : Dev). WholeRun event request_of allows_handles failed kept Meets old s d [] new s' x) (sym c)
      (subst (λ (x : S). WholeRun event request_of allows_handles failed kept Meets old s d [] new x d) (sym b)
      (subst (λ (x : State L H). WholeRun event request_of allows_handles failed kept Meets old s d [] x s d) (sym a) (none-run old s d))))
  calls-run old new s s' d d' (answer ∷ answers) (mid, t, between, first, rest) =
      go (judged old mid s t d between answer (failed s) refl first) (calls-run mid new t s' between d' answers rest)
    where
      go : Counts old s d answer mid t between ⊎ ((e : declared.Error) × (answer ≡ Err e) × Breaks event request_of allows_handles failed kept Meets old s d e mid t between)
          → RunsMany event request_of allows_handles failed kept Meets mid t between answers new s' d' → RunsMany event request_of allows_handles failed kept Meets old s d (answer ∷ answers) new s' d'
      go (inl e) (inl r) = inl (entry-then old mid new s t s' d between d' answer answers e r)
      go (inl e) (inr r) = inr (entry-before old mid new s t s' d between d' answer answers e r)
      go (inr b) r = inr (record {
        served = [];
        error = b.0;
        later = answers;
        all = ap (λ x. x ∷ answers) b.1;
        mid = old;
        mid_session = s;
        mid_device = d;
        run = none-run old s d;
        next = mid;
        next_session = t;
        next_device = between;
        breaks = b.2;
        rest = rest;
      })

  -- Calls that were answered, and their answers behind others.
  pub record Ran (old : State L H) (s : S) (d : Dev) (n : ℕ) (before after : List (Result A declared.Error)) (new : State L H) (s' : S) (d' : Dev) : Type 0 where
    pub answers : List (Result A declared.Error)
    pub count : length answers ≡ n
    pub grown : after ≡ before ++ answers
    pub calls : CallsMany event request_of allows_handles failed kept Meets old s d answers new s' d'

  pub ran-none : (old : State L H) (s : S) (d : Dev) (before : List (Result A declared.Error)) → Ran old s d 0 before before old s d
  ran-none old s d before = record { answers = []; count = refl; grown = sym (append-nil before); calls = (refl, refl, refl) }

  pub ran-more : (old mid new : State L H) (s t s' : S) (d between d' : Dev) (n : ℕ) (before after : List (Result A declared.Error)) (answer : Result A declared.Error)
      → Ran old s d n before after mid t between → CallsOnce event request_of allows_handles failed kept Meets mid t between answer new s' d' → Ran old s d (n + 1) before (after ++ answer ∷ []) new s' d'
  ran-more old mid new s t s' d between d' n before after answer r p = record {
    answers = r.answers ++ answer ∷ [];
    count = length-append r.answers (answer ∷ []) ∙ ap (λ k. k + 1) r.count;
    grown = ap (λ xs. xs ++ answer ∷ []) r.grown ∙ append_assoc before r.answers (answer ∷ []);
    calls = calls-more old mid new s t s' d between d' r.answers answer r.calls p;
  }

  pub ran-all : (old new : State L H) (s s' : S) (d d' : Dev) (n : ℕ) (before after : List (Result A declared.Error)) → Ran old s d n before after new s' d'
      → Runs event request_of allows_handles failed kept Meets old s d n before after new s' d'
  ran-all old new s s' d d' n before after r = record { answers = r.answers; count = r.count; appended = r.grown; calls = r.calls; runs = calls-run old new s s' d d' r.answers r.calls }

  -- one call, by what it does to a marked session and to another
  pub calls-once : (old new : State L H) (s s' : S) (d d' : Dev) (answer : Result A declared.Error)
      → ((n : ℤ) → failed s ≡ Some n → (answer ≡ Err (code.SocketBroken (cause.Raw n))) × (new ≡ old) × (s' ≡ s) × (d' ≡ d))
      → (failed s ≡ None → HandlesOne event request_of allows_handles failed kept Meets old s d answer new s' d') → CallsOnce event request_of allows_handles failed kept Meets old s d answer new s' d'
  calls-once old new s s' d d' answer marked handled = go (failed s) marked handled
    where
      go : (mark : Option ℤ) → ((n : ℤ) → mark ≡ Some n → (answer ≡ Err (code.SocketBroken (cause.Raw n))) × (new ≡ old) × (s' ≡ s) × (d' ≡ d))
          → (mark ≡ None → HandlesOne event request_of allows_handles failed kept Meets old s d answer new s' d') → CallsUnless event request_of allows_handles failed kept Meets mark old s d answer new s' d'
      go (Some n) failed_so one = failed_so n refl
      go None failed_so one = one refl

-- What meets a row meets another one, where each device is seen as one of another type: so does a call.
module _ {L R H S A Dev Seen : Type 0} (event : L → Event H → L → Type 0) (request_of : S → ℕ → Option R) (allows_handles : R → ℕ → Bool) (failed : S → Option ℤ)
    (kept : R → S → S → S) (Meets : S → Dev → Message R H → Result A Error → List (Cell H) → S → Dev → Type 0) (Wider : S → Seen → Message R H → Result A Error → List (Cell H) → S → Seen → Type 0) (as_seen : Dev → Seen)
    (widens : (s s' : S) (d d' : Dev) (m : Message R H) (answer : Result A Error) (written : List (Cell H)) → Meets s d m answer written s' d' → Wider s (as_seen d) m answer written s' (as_seen d')) where
  wider-entry : (s s' : S) (d d' : Dev) (outcome : Result (Message R H) Error) (answer : Result A Error) (written : List (Cell H)) → run.Handles request_of allows_handles failed Meets s d outcome answer written s' d'
      → run.Handles request_of allows_handles failed Wider s (as_seen d) outcome answer written s' (as_seen d')
  wider-entry s s' d d' (Err e) answer written p = (p.0, p.1, p.2, ap as_seen p.3)
  wider-entry s s' d d' (Ok m) answer written p = widens s s' d d' m answer written p

  wider-handled : (old new : State L H) (s s' : S) (d d' : Dev) (answer : Result A Error) → Handled event request_of allows_handles failed kept Meets old s d answer new s' d'
      → Handled event request_of allows_handles failed kept Wider old s (as_seen d) answer new s' (as_seen d')
  wider-handled old new s s' d d' answer h =
      record { heard = h.heard; mid = h.mid; hears = h.hears; written = h.written; replies = h.replies; handles = wider-entry s s' d d' h.heard answer h.written h.handles; list = h.list }

  wider-breaks : (old new : State L H) (s s' : S) (d d' : Dev) (e : declared.Error) → Breaks event request_of allows_handles failed kept Meets old s d e new s' d'
      → Breaks event request_of allows_handles failed kept Wider old s (as_seen d) e new s' (as_seen d')
  wider-breaks old new s s' d d' e (serving.unread p same stays) = serving.unread p same (ap as_seen stays)
  wider-breaks old new s s' d d' e (serving.unanswered m mid heard p) =
      serving.unanswered m mid heard (record { answer = p.answer; written = p.written; after = p.after; meets = widens s p.after d d' m p.answer p.written p.meets; stops = p.stops; session = p.session })

  wider-one : (old new : State L H) (s s' : S) (d d' : Dev) (result : Result A declared.Error) → HandlesOne event request_of allows_handles failed kept Meets old s d result new s' d'
      → HandlesOne event request_of allows_handles failed kept Wider old s (as_seen d) result new s' (as_seen d')
  wider-one old new s s' d d' (Ok a) h = wider-handled old new s s' d d' (Ok a) h
  wider-one old new s s' d d' (Err e) (inl h) = inl (wider-handled old new s s' d d' (Err (seen e)) h)
  wider-one old new s s' d d' (Err e) (inr b) = inr (wider-breaks old new s s' d d' e b)

  wider-unless : (old new : State L H) (s s' : S) (d d' : Dev) (mark : Option ℤ) (result : Result A declared.Error) → CallsUnless event request_of allows_handles failed kept Meets mark old s d result new s' d'
      → CallsUnless event request_of allows_handles failed kept Wider mark old s (as_seen d) result new s' (as_seen d')
  wider-unless old new s s' d d' (Some n) result p = (p.0, p.1, p.2, ap as_seen p.3)
  wider-unless old new s s' d d' None result p = wider-one old new s s' d d' result p

  pub wider-once : (old new : State L H) (s s' : S) (d d' : Dev) (result : Result A declared.Error) → CallsOnce event request_of allows_handles failed kept Meets old s d result new s' d'
      → CallsOnce event request_of allows_handles failed kept Wider old s (as_seen d) result new s' (as_seen d')
  wider-once old new s s' d d' result p = wider-unless old new s s' d d' (failed s) result p
