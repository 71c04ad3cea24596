-- How many arguments a call takes, and what each of them is.
use Rattle.std.specs.Prelude.{ℕ, List, [], ◌∷◌, Option, Some, None, option_map}
use Rattle.vhost_lines.specs.Arguments.{◌>>=◌}

-- none
abbrev pub bare : {C : Type 0} → C → List (List ℕ) → Option C
bare call [] = Some call
bare call (_ ∷ _) = None

-- one
abbrev pub one : {A C : Type 0} → (List ℕ → Option A) → (A → C) → List (List ℕ) → Option C
one first call (a ∷ []) = option_map call (first a)
one first call _ = None

-- two
abbrev pub two : {A B C : Type 0} → (List ℕ → Option A) → (List ℕ → Option B) → (A → B → C) → List (List ℕ) → Option C
two first second call (a ∷ b ∷ []) = do
  x ← first a
  option_map (call x) (second b)
two first second call _ = None

-- three
abbrev pub three : {A B D C : Type 0} → (List ℕ → Option A) → (List ℕ → Option B) → (List ℕ → Option D) → (A → B → D → C) → List (List ℕ) → Option C
three first second third call (a ∷ b ∷ d ∷ []) = do
  x ← first a
  y ← second b
  option_map (call x y) (third d)
three first second third call _ = None

-- one that may be left out
abbrev pub optional : {A : Type 0} → (List ℕ → Option A) → List (List ℕ) → Option (Option A)
optional read [] = Some None
optional read (word ∷ []) = option_map Some (read word)
optional read _ = None
