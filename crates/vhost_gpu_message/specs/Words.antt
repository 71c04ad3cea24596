-- Numbers of four bytes, one after another.
use Rattle.std.specs.Prelude.{◌≡◌, ℕ, zero, suc, ◌<◌, ◌^◌, List, [], ◌∷◌, ◌++◌, length, drop, slice_index, refl}
use Rattle.std.specs.List.{flat_map}
use Rattle.byteorder.specs.Numbers.{little_number-reads_back}
use Rattle.vhost_message.specs.Text.{digits, number_at}

-- their bytes
abbrev pub words : List ℕ → List ℕ
words ns = flat_map (digits 4) ns

-- the n numbers at the head of some bytes
abbrev pub words_of : ℕ → List ℕ → List ℕ
words_of zero bs = []
words_of (suc n) bs = number_at 0 4 bs ∷ words_of n (drop 4 bs)

-- each has 32 bits
abbrev pub AreWords : List ℕ → Type 0
AreWords ns = (k : ℕ) → slice_index ns k < 2 ^ 32

-- they are read again, whatever is behind them
pub words-read_back : (ns rest : List ℕ) → AreWords ns → words_of (length ns) (words ns ++ rest) ≡ ns
words-read_back [] rest fits = refl
words-read_back (n ∷ ns) rest fits =
    let first = little_number-reads_back 4 n (words ns ++ rest) (fits 0) in
    let others = words-read_back ns rest (λ k. fits (suc k)) in
    λ i. first i ∷ others i
