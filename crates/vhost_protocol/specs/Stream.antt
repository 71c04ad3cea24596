-- Streams of bytes that carry handles.
use Rattle.std.specs.Prelude.{ℕ, ◌≤◌, List, [], ◌∷◌, ◌++◌, length, map, All, zero, suc, Bool, true, false, ◌||◌}
use Rattle.vhost_message.specs.declared.limits.TheConstants.{MAX_ATTACHED_FD_ENTRIES}

-- one byte of a stream, with the handles that come with it
pub record Cell (H : Type 0) : Type 0 where
  pub byte : ℕ
  pub handles : List H

-- a byte with its handles
abbrev pub cell : {H : Type 0} → ℕ → List H → Cell H
cell byte handles = record { byte = byte; handles = handles }

-- no byte carries more handles than a message may have
abbrev pub IsStream : {H : Type 0} → List (Cell H) → Type 0
IsStream cells = All (λ c. length c.handles ≤ MAX_ATTACHED_FD_ENTRIES) cells

-- the bytes alone
abbrev pub bytes : {H : Type 0} → List (Cell H) → List ℕ
bytes cells = map (λ c. c.byte) cells

-- bytes without handles
abbrev pub plain : {H : Type 0} → List ℕ → List (Cell H)
plain bs = map (λ b. cell b []) bs

-- bytes with all the handles on the first one
abbrev pub carrying : {H : Type 0} → List H → List ℕ → List (Cell H)
carrying handles [] = []
carrying handles (b ∷ bs) = cell b handles ∷ plain bs

-- the handles on the first byte, which are those of a message
abbrev pub first_handles : {H : Type 0} → List (Cell H) → List H
first_handles [] = []
first_handles (c ∷ cells) = c.handles

-- the list has an item
abbrev pub has_some : {A : Type 0} → List A → Bool
has_some [] = false
has_some (x ∷ xs) = true

-- one of the bytes has handles
abbrev pub brings_handles : {H : Type 0} → List (Cell H) → Bool
brings_handles [] = false
brings_handles (c ∷ cells) = has_some c.handles || brings_handles cells

-- there are fewer than n: a test that computes as far as the list is known
abbrev pub is_shorter : {A : Type 0} → ℕ → List A → Bool
is_shorter zero xs = false
is_shorter (suc n) [] = true
is_shorter (suc n) (x ∷ xs) = is_shorter n xs

-- What a receiver hears of its stream: a byte, or that the stream is at its end. Then the next stream begins.
pub data Item (H : Type 0) : Type 0 where
  Byte : Cell H → Item H
  End : Item H

-- some bytes
abbrev pub items : {H : Type 0} → List (Cell H) → List (Item H)
items cells = map Byte cells

-- some bytes, and perhaps the end behind them
abbrev pub heard : {H : Type 0} → List (Cell H) → Bool → List (Item H)
heard cells true = items cells ++ End ∷ []
heard cells false = items cells
