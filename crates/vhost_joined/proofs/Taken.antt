-- An answer that was taken, whichever side takes it.
use Rattle.std.proofs.Common.{◌≡◌, true, false, List, [], ◌∷◌, ◌++◌, None, refl, sym, ◌∙◌, subst}
use Rattle.std.proofs.lemmas.List.{append-nil}
use Rattle.vhost_protocol.specs.Stream.{Cell, has_some, first_handles}
use Rattle.vhost_link.specs.declared.plain.PlainHandle.{PlainHandle}
use Rattle.vhost_link.specs.Mem.{event}
use Rattle.vhost_connection.specs.Hearing.{HearsReply}
use Rattle.vhost_joined.specs.OnWay.{incoming, outgoing}
use Rattle.vhost_joined.specs.Joined.{Passes}
use Rattle.vhost_joined.specs.Sides.{cuts_of}
use Rattle.vhost_joined.proofs.OnWay.{incoming-heard, incoming-cut, outgoing-taken}
use Rattle.vhost_joined.proofs.Spent.{End, passes, all-moved, still-passes}

-- what was read of cells without a handle brought none
first-read : (front left : List (Cell PlainHandle)) → has_some (first_handles (front ++ left)) ≡ false → has_some (first_handles front) ≡ false
first-read [] left none = refl
first-read (c ∷ front) left none = none

-- how much of what comes is an answer, and which
module _ {X : Type 0} (cut_of : List (Cell PlainHandle) → X × List (Cell PlainHandle)) (fe : End) (x : X) where
  -- The answer is that of all that was coming.
  pub record IsTaken (fe' : End) : Type 0 where
    pub cut : cut_of (incoming fe) ≡ (x, incoming fe')
    pub outgoing : outgoing fe' ≡ outgoing fe
    -- all that had been sent, where nothing had been heard before
    pub passed : (cells : List (Cell PlainHandle)) → (has_some cells ≡ true → (fe.ahead ≡ []) × (incoming fe ≡ cells) × (incoming fe' ≡ [])) → Passes fe.budget cells (cuts_of fe.link) (cuts_of fe'.link)
    pub broken : fe'.broken ≡ None
    pub faulted : fe'.faulted ≡ false
    pub budget : fe'.budget ≡ fe.budget
    -- it has its list of handles, where no handle was coming
    pub list : has_some (first_handles (incoming fe)) ≡ false → fe.list ≡ true → fe'.list ≡ true

  pub nothing-read : fe.broken ≡ None → fe.faulted ≡ false → cut_of (incoming fe) ≡ (x, incoming fe) → IsTaken fe
  nothing-read whole sound here = record {
    cut = here;
    outgoing = refl;
    passed = λ cells all. still-passes fe cells (λ some. sym (all some).1 ∙ (all some).2);
    broken = whole;
    faulted = sound;
    budget = refl;
    list = λ none listed. listed;
  }

  pub reply-heard : (fe' : End) → HearsReply event cut_of fe x fe' → IsTaken fe'
  reply-heard fe' came = let h = came.hears in record {
    cut = incoming-cut fe fe' _ h.serves.talks cut_of h.cells h.ended x refl h.splits;
    outgoing = outgoing-taken fe fe' _ h.serves.talks ∙ append-nil (outgoing fe);
    passed = λ cells all. passes cells fe fe' _ _ h.serves (λ some. let a = all some in all-moved cells fe fe' _ h.serves.talks a.0 a.1 a.2 some);
    broken = h.serves.after;
    faulted = h.serves.faulted;
    budget = h.serves.talks.budget;
    list = λ none listed. came.list (first-read h.cells (incoming fe') (subst (λ (cells : List (Cell PlainHandle)). has_some (first_handles cells) ≡ false) (incoming-heard fe fe' _ h.serves.talks h.cells h.ended refl) none));
  }
