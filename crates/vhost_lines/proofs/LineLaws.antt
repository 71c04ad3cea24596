-- Laws of a text's lines.
use Rattle.std.proofs.Common.{◌≡◌, ℕ, ◌-◌, ◌<◌, true, false, List, [], ◌∷◌, ◌++◌, length, nat_eq, arith, refl, ap, sym, ◌∙◌, Option, Some, None, IfSome}
use Rattle.std.specs.Borrow.{Bor}
use Rattle.std.specs.Option.{option_eq, option_copied}
use Rattle.std.specs.List.{slice_get}
use Rattle.std.proofs.lemmas.Bool.{eqb-true, eq-eqb}
use Rattle.std.specs.Io.BufRead.{take_through, drop_through}
use Rattle.vhost_lines.specs.Lines.{lines, GivesLine}

-- a line with its end is not empty
ended-some : (line : List ℕ) → [] ≡ line ++ 10 ∷ [] → ⊥
ended-some [] is = cc
ended-some (x ∷ line) is = cc

-- a line with its end
pub lines-ended : (text line : List ℕ) → take_through 10 text ≡ line ++ 10 ∷ [] → lines text ≡ line ∷ lines (drop_through 10 text)
lines-ended [] [] is = cc
lines-ended [] (x ∷ line) is = cc
lines-ended (byte ∷ text) [] is = grind arith
lines-ended (byte ∷ text) (x ∷ line) is = grind (arith, ended-some line, lines-ended text line)

-- the last line, which has no end
pub lines-last : (text line : List ℕ) → take_through 10 text ≡ line → 0 < length line → (slice_get line (length line - 1) ≡ Some 10 → ⊥) → lines text ≡ line ∷ lines (drop_through 10 text)
lines-last [] line is some unended = grind arith
lines-last (byte ∷ []) line is some unended = grind arith
lines-last (byte ∷ next ∷ text) line is some unended = grind (arith, lines-last (next ∷ text) (take_through 10 (next ∷ text)) refl)

-- the last byte, compared with a line feed
pub last-equal : (last : Option (Bor ℕ)) (end : Bor ℕ) → end.now ≡ 10
    → option_eq (λ x y. nat_eq x.now y.now) last (Some end) ≡ true → option_copied last ≡ Some 10
last-equal None end is equal = cc
last-equal (Some x) end is equal = ap Some (eqb-true x.now end.now equal ∙ is)

pub last-unequal : (last : Option (Bor ℕ)) (end : Bor ℕ) → end.now ≡ 10
    → option_eq (λ x y. nat_eq x.now y.now) last (Some end) ≡ false → option_copied last ≡ Some 10 → ⊥
last-unequal None end is unequal same = cc
last-unequal (Some x) end is unequal same = grind (arith, eq-eqb x.now end.now)

-- what was read to the end of a line
pub gives-ended : (before after : Option (List ℕ)) (start got line : List ℕ) → start ≡ []
    → IfSome before (λ text. got ≡ start ++ take_through 10 text) → IfSome before (λ text. after ≡ Some (drop_through 10 text))
    → got ≡ line ++ 10 ∷ [] → GivesLine before after true line
gives-ended None after start got line empty read left is = tt
gives-ended (Some text) after start got line empty read left is =
    (drop_through 10 text, left, lines-ended text line (let e : got ≡ take_through 10 text = rw empty at read in sym e ∙ is))

-- what was read to the end of the text
pub gives-last : (before after : Option (List ℕ)) (start got : List ℕ) → start ≡ []
    → IfSome before (λ text. got ≡ start ++ take_through 10 text) → IfSome before (λ text. after ≡ Some (drop_through 10 text))
    → 0 < length got → (slice_get got (length got - 1) ≡ Some 10 → ⊥) → GivesLine before after true got
gives-last None after start got empty read left some unended = tt
gives-last (Some text) after start got empty read left some unended =
    (drop_through 10 text, left, lines-last text got (let e : got ≡ take_through 10 text = rw empty at read in sym e) some unended)
