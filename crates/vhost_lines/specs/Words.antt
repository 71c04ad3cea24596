-- A line as words.
use Rattle.std.specs.Prelude.{ℕ, List, ◌==◌}
use Rattle.std.specs.List.{slice_split}

-- the words of a text, cut at each space. Where two spaces meet, or one begins or ends the text, a word is empty: it is no name and
-- no argument
abbrev pub words : List ℕ → List (List ℕ)
words text = slice_split (λ byte. byte == 32) text
