-- What scripts say of a message that went over a link in memory, or was stopped there.
use Rattle.std.specs.Prelude.{◌≡◌, ℕ, ◌-◌, ◌^◌, ◌<◌, ℤ, List, [], ◌∷◌, true, false}
use Rattle.vhost_message.specs.Cause.{is_retry}
use Rattle.vhost_message.specs.declared.cause.IoCause.{IoCause}
use Rattle.vhost_message.specs.declared.cause.IoCause.TheVariants.{Raw}
use Rattle.vhost_message.specs.declared.errno.TheConstants.{ENOMEM}
use Rattle.vhost_protocol.specs.Stream.{Cell, has_some}
use Rattle.vhost_link.specs.declared.cut.Cut.{Cut}
use Rattle.vhost_link.specs.declared.cut.Cut.TheVariants.{Fault}
use Rattle.vhost_link.specs.declared.plain.PlainHandle.{PlainHandle}
use Rattle.vhost_joined.specs.Joined.{Cuts, Passes, Stops}

-- a link with this script left, that wanted memory so often
abbrev pub left_with : List Cut → ℕ → Cuts
left_with script wants = record { script = script; wants = wants }

-- what passes a link takes cuts of its script
abbrev pub TakesACut : Type 0
TakesACut = (budget wants : ℕ) (cut : Cut) (cuts : List Cut) (cells : List (Cell PlainHandle)) → has_some cells ≡ true → Passes budget cells (left_with (cut ∷ cuts) wants) (left_with (cut ∷ cuts) wants) → ⊥

-- where the next cut is a fault, it is what stops a message, by its own cause
abbrev pub StopsByItsCut : Type 0
StopsByItsCut = (budget wants : ℕ) (e : ℤ) (cuts : List Cut) (c : IoCause) (new : Cuts) → is_retry (Raw e) ≡ false → Stops budget c (left_with (Fault e ∷ cuts) wants) new → c ≡ Raw e

-- and no message passes there
abbrev pub PassesNoFault : Type 0
PassesNoFault = (budget wants : ℕ) (e : ℤ) (cuts : List Cut) (cells : List (Cell PlainHandle)) (new : Cuts) → is_retry (Raw e) ≡ false → has_some cells ≡ true → Passes budget cells (left_with (Fault e ∷ cuts) wants) new → ⊥

-- where no cut is left, a message is stopped only by a want of memory that is counted
abbrev pub CountsItsWants : Type 0
CountsItsWants = (budget wants : ℕ) (c : IoCause) (new : Cuts) → wants < 2 ^ 64 - 1 → Stops budget c (left_with [] wants) new → (c ≡ Raw ENOMEM) × (wants < new.wants)
