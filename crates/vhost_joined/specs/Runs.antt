-- Runs of calls, one after another, and what it is that both sides are in lockstep: of a frontend's calls, and of those of the backend channel.
use Rattle.std.specs.Prelude.{◌≡◌, ◌⊎◌, List, [], ◌∷◌, ◌++◌, Option, Some, None, Result, Ok, Err, ⊤}
use Rattle.vhost_joined.specs.declared.halt.Halt.{Halt}
use Rattle.vhost_joined.specs.declared.halt.Halt.TheVariants as halt
use Rattle.vhost_joined.specs.declared.halt.Stop.{Stop}
use Rattle.vhost_joined.specs.declared.halt.Stop.TheVariants.{Premise}

-- What one step may do: the run before it, the call, what became of it, and the run after it.
module _ {Run Call Answer : Type 0} (Steps : Run → Call → Result Answer Halt → Run → Type 0) where
  -- steps one after another, until one is not done
  abbrev pub StepsAll : Run → List Call → List Answer → Result ⊤ Halt → Run → Type 0
  StepsAll old [] [] (Ok u) new = new ≡ old
  StepsAll old (c ∷ cs) [] (Err h) new = Steps old c (Err h) new
  StepsAll old (c ∷ cs) (a ∷ as') end new = (mid : Run) × Steps old c (Ok a) mid × StepsAll mid cs as' end new
  StepsAll _ _ _ _ _ = ⊥

  -- What many calls did. Whatever was before: the answers are appended, each call is a step, and where there is no room for the answers, no call is done. The answered calls are worth so much.
  pub record Runs (Worth : Run → List Call → List Answer → Run → Type 0) (old : Run) (calls : List Call) (before : List Answer) (result : Result ⊤ Halt) (after : List Answer) (new : Run) : Type 0 where
    pub answers : List Answer
    pub appended : after ≡ before ++ answers
    pub steps : StepsAll old calls answers result new ⊎ ((result ≡ Err halt.OutOfMemory) × (answers ≡ []) × (new ≡ old))
    pub lockstep : Worth old calls answers new

-- What answered calls are that are in lockstep; what a call may do that breaks a premise; and why a run has stopped.
module _ {Run Call Answer : Type 0} (InLockstep : Run → List Call → List Answer → Run → Type 0) (Moves : Run → Call → Answer → Run → Type 0) (stop : Run → Option Stop) where
  -- The last answered call broke a premise, and the run stopped for it; the calls before it are in lockstep.
  pub record BrokeAtLast (old : Run) (calls : List Call) (answers : List Answer) (new : Run) : Type 0 where
    pub before : List Call
    pub call : Call
    pub later : List Call
    pub asked : calls ≡ before ++ call ∷ later
    pub kept : List Answer
    pub answer : Answer
    pub answered : answers ≡ kept ++ answer ∷ []
    pub mid : Run
    pub lockstep : InLockstep old before kept mid
    pub going : stop mid ≡ None
    pub stopped : stop new ≡ Some Premise
    pub moves : Moves mid call answer new

  -- Both sides are in lockstep; or they were up to the last answered call, where a premise failed.
  abbrev pub Lockstep : Run → List Call → List Answer → Run → Type 0
  Lockstep old calls answers new = (InLockstep old calls answers new × (stop new ≡ Some Premise → ⊥)) ⊎ BrokeAtLast old calls answers new
