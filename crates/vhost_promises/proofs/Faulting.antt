-- A fault of the link in a handler's call, and the calls behind it.
use Rattle.std.proofs.Common.{◌≡◌, ℕ, Bool, true, false, List, [], ◌∷◌, ◌++◌, length, take, replicate, Option, Some, None, Result, Ok, Err, refl, sym, ap, subst, ◌∙◌, inl, inr}
use Rattle.std.proofs.lemmas.List.{append-nil}
use Rattle.std.specs.Prelude.{ℤ, ◌||◌, if◌then◌else◌}
use Rattle.vhost_message.specs.declared.cause.IoCause.{IoCause}
use Rattle.vhost_message.specs.declared.error.Error as declared
use Rattle.vhost_message.specs.declared.error.Error.TheVariants.{SocketBroken}
use Rattle.vhost_protocol.specs.Error.{Error, Disconnected}
use Rattle.vhost_protocol.specs.Split.{Message, Splits, split}
use Rattle.vhost_protocol.specs.Stream.{Cell, heard}
use Rattle.vhost_link.specs.Law.{Event, Move, nothing}
use Rattle.vhost_link.specs.Law.Moved.{still}
use Rattle.vhost_connection.specs.Pass.{receives, sends}
use Rattle.vhost_connection.specs.Talk.{State, Talks, First, Trouble, has_moved}
use Rattle.vhost_connection.specs.Talk.Trouble.{was_broken, no_memory, fault}
use Rattle.vhost_connection.specs.Serving.{CallsMany, CallsUnless, HandlesOne, Runs}
use Rattle.vhost_connection.specs.Serving.Breaks.{unread, unanswered}
use Rattle.vhost_promises.specs.Faults.{MeetsFault, StaysBroken}
use Rattle.vhost_promises.proofs.Unserved.{unserved, unserved-listed}

-- an endpoint whose last call met a fault, or none
abbrev pub faulted_as : {L H : Type 0} → State L H → Bool → State L H
faulted_as s b = record s { faulted = b }

-- an endpoint that met a fault was not as it is where it met none
unmet : {L H : Type 0} (new : State L H) → new.faulted ≡ false → new.faulted ≡ true → ⊥
unmet new not_met met = let found : true ≡ false = sym met ∙ not_met in absurd cc

module _ {L H : Type 0} (event : L → Event H → L → Type 0) where
  -- nothing was done yet
  pub not-yet : (old : State L H) → Talks event old nothing old
  not-yet old = record { below = nothing; moved = still; handed = append-nil _; taken = refl; retries = refl; failures = refl; budget = refl }

  -- trouble that was a fault
  troubled : {A : Type 0} (old : State L H) (m : Move H) (e : declared.Error) (new : State L H) → Trouble event old old.budget First false m e new → new.faulted ≡ true → MeetsFault {A = A} event old (Err e) new
  troubled old m e new (was_broken b s n) met = absurd (unmet new (ap (λ x. x.faulted) n) met)
  troubled old m e new (no_memory g b l s n) met = absurd (unmet new (ap (λ x. x.faulted) n) met)
  troubled old m e new (fault c b f k few spent broken faulted kept) met =
      record { cause = c; answered = refl; before = nothing; moved = m; mid = old; talks = not-yet old; fell = f; spent = spent; broken = broken }

module _ {L R H S A Dev : Type 0} (event : L → Event H → L → Type 0) (request_of : S → ℕ → Option R) (allows_handles : R → ℕ → Bool) (failed : S → Option ℤ)
    (kept : R → S → S → S) (Meets : S → Dev → Message R H → Result A Error → List (Cell H) → S → Dev → Type 0) where
  -- a message was more than nothing
  some-heard : (s : S) (cells : List (Cell H)) (ended : Bool) (m : Message R H) (retries : ℕ) → Splits (split (request_of s) allows_handles) cells ended (Ok m) → has_moved (receives (heard cells ended) retries) ≡ true
  unfolding split
  some-heard s [] true m retries splits = refl
  some-heard s [] false m retries splits = let none : ◌≡◌ {A = Result (Message R H) Error} (Err Disconnected) (Ok m) = ap (λ x. x.0) (splits []) in absurd cc
  some-heard s (c ∷ cells) true m retries splits = refl
  some-heard s (c ∷ cells) false m retries splits = refl

  -- a call that met a fault
  pub met-fault : (old : State L H) (s : S) (d : Dev) (result : Result A declared.Error) (new : State L H) (s' : S) (d' : Dev) → HandlesOne event request_of allows_handles failed kept Meets old s d result new s' d'
      → new.faulted ≡ true → MeetsFault event old result new
  met-fault old s d (Ok a) new s' d' h met = let found : true ≡ false = sym met ∙ h.replies.serves.faulted in absurd cc
  met-fault old s d (Err e) new s' d' (inl h) met = let found : true ≡ false = sym met ∙ h.replies.serves.faulted in absurd cc
  met-fault old s d (Err e) new s' d' (inr (unread r same same_device)) met = troubled event old _ e new r.trouble met
  met-fault old s d (Err e) new s' d' (inr (unanswered m mid hears i)) met =
      let stops = i.stops in
      record {
        cause = stops.cause;
        answered = ap (λ x. Err x) stops.error;
        before = receives (heard hears.cells hears.ended) hears.retries;
        moved = sends (take stops.count i.written) stops.retries;
        mid = mid;
        talks = hears.serves.talks;
        fell = stops.fell;
        spent = λ again. stops.spent again ∙ hears.serves.talks.budget;
        broken = stops.broken ∙ ap (λ x. if x || has_moved (sends (take stops.count i.written) stops.retries) then Some stops.cause else None) (sym (some-heard s hears.cells hears.ended m hears.retries hears.splits));
      }

  -- each call over a broken endpoint says so
  calls-broken : (c : IoCause) (old : State L H) (s : S) (d : Dev) (answers : List (Result A declared.Error)) (new : State L H) (s' : S) (d' : Dev) → failed s ≡ None → old.list ≡ true → old.broken ≡ Some c
      → CallsMany event request_of allows_handles failed kept Meets old s d answers new s' d' → StaysBroken c (SocketBroken c) (length answers) old answers new × (s' ≡ s) × (d' ≡ d)
  calls-broken c old s d [] new s' d' alive listed broken (same, same_s, same_d) =
      (record { answered = refl; broken = ap (λ x. x.broken) same ∙ broken; endpoint = same ∙ ap (faulted_as old) (sym (ap (λ x. x.faulted) same)) }, same_s, same_d)
  calls-broken c old s d (answer ∷ answers) new s' d' alive listed broken (mid, t, between, once, later) =
      let (is, same, same_t, same_between) = unserved-listed old s t d between c answer mid listed (unserved event request_of allows_handles failed kept Meets old s d answer mid t between c broken
      (subst (λ f. CallsUnless event request_of allows_handles failed kept Meets f old s d answer mid t between) alive once)) in
      let (rest, same_s, same_d) = calls-broken c mid t between answers new s' d' (ap failed same_t ∙ alive) (ap (λ x. x.list) same ∙ listed) (ap (λ x. x.broken) same ∙ broken) later in (
        record {
          answered = ap (λ x. x ∷ answers) is ∙ ap (λ xs. Err (SocketBroken c) ∷ xs) rest.answered;
          broken = rest.broken;
          endpoint = rest.endpoint ∙ ap (λ x. faulted_as x new.faulted) same;
        },
        same_s ∙ same_t,
        same_d ∙ same_between,
      )

  -- so does a run
  pub run-broken : (c : IoCause) (old : State L H) (s : S) (d : Dev) (n : ℕ) (before answers : List (Result A declared.Error)) (new : State L H) (s' : S) (d' : Dev) → before ≡ [] → failed s ≡ None → old.list ≡ true → old.broken ≡ Some c
      → Runs event request_of allows_handles failed kept Meets old s d n before answers new s' d' → StaysBroken c (SocketBroken c) n old answers new × (s' ≡ s) × (d' ≡ d)
  run-broken c old s d n before answers new s' d' empty alive listed broken r =
      let (stays, same_s, same_d) = calls-broken c old s d r.answers new s' d' alive listed broken r.calls in
      let all : answers ≡ r.answers = r.appended ∙ ap (λ xs. xs ++ r.answers) empty in
      (record { answered = all ∙ stays.answered ∙ ap (λ k. replicate k (Err (SocketBroken c))) r.count; broken = stays.broken; endpoint = stays.endpoint }, same_s, same_d)
