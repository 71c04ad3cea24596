-- What the pieces of a ring stand for.
use Rattle.std.specs.Prelude.{ℕ, suc, ◌+◌, ◌<◌, ⊤, List, [], ◌∷◌, ◌++◌, length, map}
use Rattle.vhost_message.specs.declared.limits.TheConstants.{MAX_ATTACHED_FD_ENTRIES}
use Rattle.vhost_protocol.specs.Stream.{Cell}
use Rattle.vhost_protocol.specs.Pieces.{BytePiece, HandlePiece, ring_cells}
use Rattle.vhost_protocol.specs.Pieces.{Piece as StreamPiece}
use Rattle.vhost_link.specs.declared.piece.Piece.{Piece}
use Rattle.vhost_link.specs.declared.piece.Piece.TheVariants.{Byte, Handle}
use Rattle.vhost_link.specs.declared.plain.PlainHandle.{PlainHandle}

-- a piece of a ring as one of a stream
abbrev pub stream_piece : Piece → StreamPiece PlainHandle
stream_piece (Byte b) = BytePiece b
stream_piece (Handle id kind) = HandlePiece (record { id = id; kind = kind })

-- the cells of some pieces
abbrev pub cells_of : List Piece → List (Cell PlainHandle)
cells_of pieces = ring_cells (map stream_piece pieces)

-- the handles that wait for a byte behind some pieces, where others waited before them
abbrev pub waiting_behind : {H : Type 0} → List H → List (StreamPiece H) → List H
waiting_behind handles [] = handles
waiting_behind handles (BytePiece b ∷ pieces) = waiting_behind [] pieces
waiting_behind handles (HandlePiece h ∷ pieces) = waiting_behind (handles ++ h ∷ []) pieces

-- the handles at the end of some pieces, which wait for their byte
abbrev pub waiting : List Piece → List PlainHandle
waiting pieces = waiting_behind [] (map stream_piece pieces)

-- A byte may always follow; a handle where its byte has room for one more.
abbrev pub MayFollow : List Piece → Piece → Type 0
MayFollow before (Byte b) = ⊤
MayFollow before (Handle id kind) = length (waiting before) < MAX_ATTACHED_FD_ENTRIES

-- how many pieces some cells take: one for each byte and one for each handle
abbrev pub pieces_in : {H : Type 0} → List (Cell H) → ℕ
pieces_in [] = 0
pieces_in (c ∷ cells) = suc (length c.handles) + pieces_in cells

-- the piece of a handle
abbrev pub handle_piece : PlainHandle → Piece
handle_piece h = Handle h.id h.kind

-- no handle comes first
abbrev pub HasByteFirst : List Piece → Type 0
HasByteFirst [] = ⊤
HasByteFirst (Byte b ∷ pieces) = ⊤
HasByteFirst (Handle id kind ∷ pieces) = ⊥

-- no byte comes first
abbrev pub HasHandleFirst : List Piece → Type 0
HasHandleFirst [] = ⊤
HasHandleFirst (Byte b ∷ pieces) = ⊥
HasHandleFirst (Handle id kind ∷ pieces) = ⊤

-- the piece of a byte
abbrev pub byte_piece : ℕ → Piece
byte_piece b = Byte b
