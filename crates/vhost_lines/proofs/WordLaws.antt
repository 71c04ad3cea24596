-- Laws of words.
use Rattle.std.proofs.Common.{◌≡◌, ℕ, ◌==◌, ◌<◌, ◌≤◌, ◌+◌, List, [], ◌∷◌, ◌++◌, take, length, Some, None, sym, ap, ◌∙◌, append_assoc, append-nil, arith, lit<}
use Rattle.std.proofs.Math.ListN.{set}
use Rattle.std.proofs.lemmas.List.{map-append, take_more_set, take_at, take_all, length-take, length-map}
use Rattle.std.proofs.lemmas.List.Splits.{slice_split_none, slice_split_first}
use Rattle.std.proofs.lemmas.List.Sums.{fails_before_first}
use Rattle.std.proofs.lemmas.Str.Pattern.{IsSplitOnceResult, split_once_first}
use Rattle.std.specs.Borrow.{Bor}
use Rattle.vhost_lines.specs.Read.{texts}
use Rattle.vhost_lines.specs.Words.{words}

-- a text that is cut at its first space
pub words-cut : (text : List ℕ) (parts : Bor (List ℕ) × Bor (List ℕ)) → IsSplitOnceResult 32 text (Some parts) → words text ≡ parts.0.now ∷ words parts.1.now
words-cut text parts is =
    let at = split_once_first 32 text (Some parts) is (lit< tt) in
    rw (at.1, at.2) (slice_split_first (λ byte. byte == 32) text 0 at.0)

-- a text that has none
pub words-whole : (text : List ℕ) → IsSplitOnceResult 32 text None → words text ≡ text ∷ []
words-whole text is =
    let whole = split_once_first 32 text None is (lit< tt) in
    slice_split_none (λ byte. byte == 32) text (λ k d lt. fails_before_first (λ byte. byte == 32) text k d (omega arith))

-- one word more in its place
pub words-next : (found : List (Bor (List ℕ))) (count : ℕ) (word : Bor (List ℕ)) (later now all : List (List ℕ))
    → count < length found → now ≡ word.now ∷ later → texts (take count found) ++ now ≡ all → texts (take (count + 1) (set found count word)) ++ later ≡ all
words-next found count word later now all place next is =
    ap (λ front. texts front ++ later) (take_more_set found count word place)
    ∙ (ap (λ front. front ++ later) (map-append (λ (w : Bor (List ℕ)). w.now) (take count found) (word ∷ []))
    ∙ (append_assoc (texts (take count found)) (word.now ∷ []) later ∙ (ap (λ back. texts (take count found) ++ back) (sym next) ∙ is)))

-- all words are found
pub words-all : (found : List (Bor (List ℕ))) (count : ℕ) (now all : List (List ℕ)) → count ≤ 7 → now ≡ [] → texts (take count found) ++ now ≡ all → texts (take count found) ≡ take 7 all
words-all found count now all few none is =
    let front : texts (take count found) ≡ all = sym (append-nil (texts (take count found))) ∙ (ap (λ back. texts (take count found) ++ back) (sym none) ∙ is) in
    let size : length all ≤ 7 = rw (← front) (omega (arith, length-map (take count found) (λ (w : Bor (List ℕ)). w.now), length-take count found)) in
    front ∙ sym (take_all 7 all size)

-- seven words are found
pub words-front : (found : List (Bor (List ℕ))) (count : ℕ) (now all : List (List ℕ)) → count ≡ 7 → length found ≡ 7 → texts (take count found) ++ now ≡ all → texts (take 7 found) ≡ take 7 all
words-front found count now all full places is =
    let front : texts (take 7 found) ++ now ≡ all = rw full at is in
    let size : length (texts (take 7 found)) ≡ 7 = omega (arith, length-map (take 7 found) (λ (w : Bor (List ℕ)). w.now), length-take 7 found) in
    rw (← front) (sym (take_at (texts (take 7 found)) now 7 size))
