-- Where no answer tells of a fault, a run is whole.
use Rattle.std.proofs.Common.{◌≡◌, ℕ, Bool, true, false, List, [], ◌∷◌, ◌++◌, Option, Result, Err, length, refl, sym, ap, subst, ◌∙◌, inl, inr}
use Rattle.std.specs.Prelude.{◌||◌, ℤ, if◌then◌else◌}
use Rattle.std.specs.List.{list_any}
use Rattle.std.proofs.lemmas.List.Folds.{list_any-append}
use Rattle.vhost_message.specs.Cause.{error_of, is_retry, is_break, is_denial}
use Rattle.vhost_message.specs.declared.cause.IoCause.{IoCause}
use Rattle.vhost_message.specs.declared.error.Error as declared
use Rattle.vhost_message.specs.declared.error.Error.TheVariants as code
use Rattle.vhost_protocol.specs.Error.{Error}
use Rattle.vhost_protocol.specs.Split.{Message}
use Rattle.vhost_protocol.specs.Stream.{Cell}
use Rattle.vhost_link.specs.Law.{Event, Move}
use Rattle.vhost_connection.specs.Talk.{State, Growth, Trouble}
use Rattle.vhost_connection.specs.Talk.Trouble.{was_broken, no_memory, fault}
use Rattle.vhost_connection.specs.Serving.{Breaks, WholeRun, RunsMany, Runs}
use Rattle.vhost_connection.specs.Serving.Breaks.{unread, unanswered}
use Rattle.vhost_promises.specs.Runs.{of_link, answer_of_link}

-- the error of a cause is a link's
of-branch : (retry broken denied : Bool) (c : IoCause) → of_link (if retry then code.SocketRetry c else if broken then code.SocketBroken c else if denied then code.SocketConnect c else code.SocketError c) ≡ true
of-branch true broken denied c = refl
of-branch false true denied c = refl
of-branch false false true c = refl
of-branch false false false c = refl

pub cause-of-link : (c : IoCause) → of_link (error_of c) ≡ true
cause-of-link c = of-branch (is_retry c) (is_break c) (is_denial c) c

-- trouble of an endpoint is a link's, or want of memory
pub trouble-of-link : {L H : Type 0} (event : L → Event H → L → Type 0) (old : State L H) (limit : ℕ) (grows : Growth) (breaks : Bool) (m : Move H) (e : declared.Error) (new : State L H)
    → Trouble event old limit grows breaks m e new → of_link e ≡ true
trouble-of-link event old limit grows breaks m e new (was_broken b s n) = refl
trouble-of-link event old limit grows breaks m e new (no_memory g b l s n) = refl
trouble-of-link event old limit grows breaks m e new (fault c b f k few spent broken faulted kept) = cause-of-link c

-- such an answer among others is found
one-of-link : {A : Type 0} (served later : List (Result A declared.Error)) (e : declared.Error) → of_link e ≡ true → list_any answer_of_link (served ++ Err e ∷ later) ≡ true
one-of-link served later e is =
    list_any-append answer_of_link served (Err e ∷ later) ∙ ap (λ b. list_any answer_of_link served || (b || list_any answer_of_link later)) is ∙ or-true (list_any answer_of_link served)
  where
    or-true : (b : Bool) → b || true ≡ true
    or-true true = refl
    or-true false = refl

module _ {L R H S A Dev : Type 0} (event : L → Event H → L → Type 0) (request_of : S → ℕ → Option R) (allows_handles : R → ℕ → Bool) (failed : S → Option ℤ)
    (kept : R → S → S → S) (Meets : S → Dev → Message R H → Result A Error → List (Cell H) → S → Dev → Type 0) where
  -- a call fails only for its link, or for want of memory
  pub breaks-of-link : (old : State L H) (s : S) (d : Dev) (e : declared.Error) (new : State L H) (s' : S) (d' : Dev) → Breaks event request_of allows_handles failed kept Meets old s d e new s' d' → of_link e ≡ true
  breaks-of-link old s d e new s' d' (unread r same same_device) = trouble-of-link event old _ _ _ _ e new r.trouble
  breaks-of-link old s d e new s' d' (unanswered m mid hears i) = ap of_link i.stops.error ∙ cause-of-link i.stops.cause

  -- so without such an answer a run is whole
  whole-run : (old : State L H) (s : S) (d : Dev) (answers : List (Result A declared.Error)) (new : State L H) (s' : S) (d' : Dev) → RunsMany event request_of allows_handles failed kept Meets old s d answers new s' d'
      → list_any answer_of_link answers ≡ false → WholeRun event request_of allows_handles failed kept Meets old s d answers new s' d'
  whole-run old s d answers new s' d' (inl w) none = w
  whole-run old s d answers new s' d' (inr b) none =
      let found : true ≡ false = sym (ap (λ xs. list_any answer_of_link xs) b.all ∙ one-of-link b.served b.later b.error (breaks-of-link b.mid b.mid_session b.mid_device b.error b.next b.next_session b.next_device b.breaks)) ∙ none in
      absurd cc

  -- of a run that appended to nothing, all answers are of it
  pub whole-answers : (old : State L H) (s : S) (d : Dev) (n : ℕ) (before answers : List (Result A declared.Error)) (new : State L H) (s' : S) (d' : Dev) → Runs event request_of allows_handles failed kept Meets old s d n before answers new s' d'
      → before ≡ [] → list_any answer_of_link answers ≡ false → (length answers ≡ n) × WholeRun event request_of allows_handles failed kept Meets old s d answers new s' d'
  whole-answers old s d n before answers new s' d' r empty none =
      let same : r.answers ≡ answers = sym (r.appended ∙ ap (λ xs. xs ++ r.answers) empty) in (
        ap length (sym same) ∙ r.count,
        subst (λ xs. WholeRun event request_of allows_handles failed kept Meets old s d xs new s' d') same (whole-run old s d r.answers new s' d' r.runs (ap (λ xs. list_any answer_of_link xs) same ∙ none)),
      )
