-- What is left behind a `&mut` that was lent.
use Rattle.std.specs.Prelude.{⊤}
use Rattle.std.specs.Borrow.{MutBor, Fml, RattleType, follows_so}
use mathlib.Core.Option.{none}

-- The lender ends so, whatever became of the `&` that was lent.
abbrev pub Leaves : (R : RattleType) → MutBor R.Denot → (R.Denot → Type 0) → Fml
Leaves R s P = follows_so R R s.ghost_name none (λ _ _. ⊤) P
