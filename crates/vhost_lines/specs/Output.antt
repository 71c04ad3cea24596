-- What a writer holds after a line that may not have been written to its end.
use Rattle.std.specs.Prelude.{◌≡◌, ℕ, List, ◌++◌, Option}
use Rattle.std.specs.Io.KnownBytes.{Appends}

-- known bytes grow by a front of a line: nothing, a part of it or all
abbrev pub AppendsFront : Option (List ℕ) → Option (List ℕ) → List ℕ → Type 0
AppendsFront old new line = (front rest : List ℕ) × (line ≡ front ++ rest) × Appends old new front
