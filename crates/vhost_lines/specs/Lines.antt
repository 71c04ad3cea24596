-- A text as lines, and what is to become of them.
use Rattle.std.specs.Prelude.{◌≡◌, ℕ, ◌+◌, Bool, true, false, ◌&&◌, ◌||◌, List, [], ◌∷◌, ◌++◌, Option, Some, None, is_some, ⊤, ◌==◌, if◌then◌else◌, codes, decimal}
use Rattle.std.specs.Io.KnownBytes.{Appends}
use Rattle.vhost_lines.specs.Calls.{call_in}

-- a byte in front of the first of some texts
abbrev pub with_first : ℕ → List (List ℕ) → List (List ℕ)
with_first byte [] = (byte ∷ []) ∷ []
with_first byte (text ∷ texts) = (byte ∷ text) ∷ texts

-- the lines of a text: a line feed ends each, the last one perhaps without
abbrev pub lines : List ℕ → List (List ℕ)
lines [] = []
lines (byte ∷ text) = if byte == 10 then [] ∷ lines text else with_first byte (lines text)

-- whether a line says nothing: it is empty, or begins with a number sign
abbrev pub is_blank : List ℕ → Bool
is_blank [] = true
is_blank (byte ∷ line) = byte == 35

-- whether a line is passed over: it says nothing, and there may be comments
abbrev pub passes : (comments : Bool) → List ℕ → Bool
passes comments line = comments && is_blank line

-- the number of the first line that is no call and is not passed over, where there is one; the first of these lines has the number n
abbrev pub bad_line : (comments : Bool) → ℕ → List (List ℕ) → Option ℕ
bad_line comments n [] = None
bad_line comments n (line ∷ later) = if passes comments line || is_some (call_in line) then bad_line comments (n + 1) later else Some n

-- the status of a text that is read to its end, or to a line that is no call
abbrev pub status_of : Option ℕ → ℕ
status_of None = 0
status_of (Some n) = 1

-- what is told of a line that is no call
abbrev pub complaint_of : Option ℕ → List ℕ
complaint_of None = []
complaint_of (Some n) = codes "line " ++ (decimal n ++ codes ": bad call\n")

-- what is told of it where its reason is wanted, too: the number of a word, and what is wrong there, behind the same first words
abbrev pub Explains : Option (List ℕ) → Option (List ℕ) → Option ℕ → Type 0
Explains old new None = Appends old new []
Explains old new (Some n) = (word : ℕ) × (reason : List ℕ) × Appends old new (codes "line " ++ (decimal n ++ (codes ": bad call: word " ++ (decimal word ++ (codes ": " ++ (reason ++ codes "\n"))))))

-- a reader gave a line, or was at its end, where its bytes are known
abbrev pub GivesLine : Option (List ℕ) → Option (List ℕ) → Bool → List ℕ → Type 0
GivesLine None after more line = ⊤
GivesLine (Some text) after true line = (rest : List ℕ) × (after ≡ Some rest) × (lines text ≡ line ∷ lines rest)
GivesLine (Some text) after false line = text ≡ []
