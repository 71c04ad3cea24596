-- Streams in pieces: rings between threads, and buffers that follow one another.
use Rattle.std.specs.Prelude.{ℕ, suc, ◌-◌, List, [], ◌∷◌, ◌++◌, if◌then◌else◌, nat_lt}
use Rattle.vhost_protocol.specs.Stream.{Cell, cell}

-- a byte, or a handle of the next byte
pub data Piece (H : Type 0) : Type 0 where
  BytePiece : ℕ → Piece H
  HandlePiece : H → Piece H

-- the cells of some pieces, behind handles that wait for their byte
abbrev pub cells_behind : {H : Type 0} → (waiting : List H) → List (Piece H) → List (Cell H)
cells_behind waiting [] = []
cells_behind waiting (BytePiece b ∷ pieces) = cell b waiting ∷ cells_behind [] pieces
cells_behind waiting (HandlePiece h ∷ pieces) = cells_behind (waiting ++ h ∷ []) pieces

-- the cells of a whole ring
abbrev pub ring_cells : {H : Type 0} → List (Piece H) → List (Cell H)
ring_cells pieces = cells_behind [] pieces

-- of buffers with these lengths: how many whole ones so many bytes pass, and how many bytes into the next one they lead
abbrev pub sub_offset : List ℕ → ℕ → ℕ × ℕ
sub_offset [] n = (0, n)
sub_offset (len ∷ lens) n = let next = sub_offset lens (n - len) in if nat_lt n len then (0, n) else (suc next.0, next.1)
