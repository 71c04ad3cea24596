-- Whether postcopy listens, as a table of regions says it.
use Rattle.std.proofs.Common.{◌≡◌, ◌⊎◌, inl, inr, Bool, true, false, not, Option, Some, None, refl}
use Rattle.std.specs.Option.{option_eq}
use mathlib.Core.Bool.{beq}

pub listens : (listening : Option Bool) → not (option_eq beq listening (Some true)) ≡ false → listening ≡ Some true
listens None is = absurd (cc is)
listens (Some false) is = absurd (cc is)
listens (Some true) is = refl

pub listens_not : (listening : Option Bool) → not (option_eq beq listening (Some true)) ≡ true → (listening ≡ None) ⊎ (listening ≡ Some false)
listens_not None is = inl refl
listens_not (Some false) is = inr refl
listens_not (Some true) is = absurd (cc is)
