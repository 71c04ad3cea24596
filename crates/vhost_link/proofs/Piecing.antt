-- Pieces of a ring, joined and counted.
use Rattle.std.proofs.Common.{◌≡◌, ℕ, suc, ◌+◌, ◌<◌, List, [], ◌∷◌, ◌++◌, length, map, append_assoc, refl, sym, ap, ◌∙◌, arith}
use Rattle.std.proofs.lemmas.List.{map-append, append-nil, length-append, length-map}
use denote.Bor.{Bor}
use Rattle.vhost_protocol.specs.Stream.{Cell, cell, plain, carrying}
use Rattle.vhost_protocol.specs.Pieces.{BytePiece, HandlePiece, cells_behind}
use Rattle.vhost_protocol.specs.Pieces.{Piece as StreamPiece}
use Rattle.vhost_link.specs.declared.piece.Piece.{Piece}
use Rattle.vhost_link.specs.declared.plain.PlainHandle.{PlainHandle}
use Rattle.vhost_link.specs.Pieces.{stream_piece, cells_of, waiting_behind, waiting, pieces_in, handle_piece, byte_piece}

-- pieces behind others
behind-append : {H : Type 0} (hs : List H) (ps qs : List (StreamPiece H)) → waiting_behind hs (ps ++ qs) ≡ waiting_behind (waiting_behind hs ps) qs
behind-append hs [] qs = refl
behind-append hs (BytePiece b ∷ ps) qs = behind-append [] ps qs
behind-append hs (HandlePiece h ∷ ps) qs = behind-append (hs ++ h ∷ []) ps qs

cells-append : {H : Type 0} (hs : List H) (ps qs : List (StreamPiece H)) → cells_behind hs (ps ++ qs) ≡ cells_behind hs ps ++ cells_behind (waiting_behind hs ps) qs
cells-append hs [] qs = refl
cells-append hs (BytePiece b ∷ ps) qs = ap (λ cs. cell b hs ∷ cs) (cells-append [] ps qs)
cells-append hs (HandlePiece h ∷ ps) qs = cells-append (hs ++ h ∷ []) ps qs

pub waiting-append : (ps qs : List Piece) → waiting (ps ++ qs) ≡ waiting_behind (waiting ps) (map stream_piece qs)
waiting-append ps qs = ap (waiting_behind []) (map-append stream_piece ps qs) ∙ behind-append [] (map stream_piece ps) (map stream_piece qs)

pub cells_of-append : (ps qs : List Piece) → cells_of (ps ++ qs) ≡ cells_of ps ++ cells_behind (waiting ps) (map stream_piece qs)
cells_of-append ps qs = ap (cells_behind []) (map-append stream_piece ps qs) ∙ cells-append [] (map stream_piece ps) (map stream_piece qs)

-- what some pieces are known to bring
pub ready-known : (popped known : List Piece) (kept : List PlainHandle) → kept ≡ waiting popped → cells_of (popped ++ known) ≡ cells_of popped ++ cells_behind kept (map stream_piece known)
ready-known popped known kept e = cells_of-append popped known ∙ ap (λ hs. cells_of popped ++ cells_behind hs (map stream_piece known)) (sym e)

-- how many pieces some cells take
pub pieces-cell : {H : Type 0} (b : ℕ) (hs : List H) (cs : List (Cell H)) → pieces_in (cell b hs ∷ cs) ≡ suc (length hs) + pieces_in cs
pieces-cell b hs cs = refl

pub count-behind : {H : Type 0} (hs : List H) (ps : List (StreamPiece H)) → waiting_behind hs ps ≡ [] → pieces_in (cells_behind hs ps) ≡ length hs + length ps
count-behind [] [] e = refl
count-behind (h ∷ hs) [] e = cc
count-behind {H} hs (BytePiece b ∷ ps) e = pieces-cell b hs (cells_behind [] ps) ∙ (let rest = count-behind {H = H} [] ps e in omega arith)
count-behind hs (HandlePiece h ∷ ps) e = let rest = count-behind (hs ++ h ∷ []) ps e in omega (arith, length-append hs (h ∷ []))

pieces-plain : (H : Type 0) (bs : List ℕ) → pieces_in (plain {H = H} bs) ≡ length bs
pieces-plain H [] = refl
pieces-plain H (b ∷ bs) = let rest = pieces-plain H bs in omega arith

pub pieces-carrying : {H : Type 0} (hs : List H) (bs : List ℕ) → 0 < length bs → pieces_in (carrying hs bs) ≡ length hs + length bs
pieces-carrying hs [] pos = absurd (omega arith)
pieces-carrying {H} hs (b ∷ bs) pos = let rest = pieces-plain H bs in omega arith

-- handles
pub waiting-handles : (ps : List Piece) (hs : List PlainHandle) → waiting (ps ++ map handle_piece hs) ≡ waiting ps ++ hs
waiting-handles ps [] = ap waiting (append-nil ps) ∙ sym (append-nil (waiting ps))
waiting-handles ps (h ∷ hs) =
    ap waiting (sym (append_assoc ps (handle_piece h ∷ []) (map handle_piece hs)))
    ∙ waiting-handles (ps ++ handle_piece h ∷ []) hs
    ∙ ap (λ xs. xs ++ hs) (waiting-append ps (handle_piece h ∷ []))
    ∙ append_assoc (waiting ps) (h ∷ []) hs

pub cells-handles : (ps : List Piece) (hs : List PlainHandle) → cells_of (ps ++ map handle_piece hs) ≡ cells_of ps
cells-handles ps [] = ap cells_of (append-nil ps)
cells-handles ps (h ∷ hs) =
    ap cells_of (sym (append_assoc ps (handle_piece h ∷ []) (map handle_piece hs)))
    ∙ cells-handles (ps ++ handle_piece h ∷ []) hs
    ∙ cells_of-append ps (handle_piece h ∷ [])
    ∙ append-nil (cells_of ps)

-- bytes
cells-plain : (bs : List ℕ) → cells_behind {H = PlainHandle} [] (map stream_piece (map byte_piece bs)) ≡ plain bs
cells-plain [] = refl
cells-plain (b ∷ bs) = ap (λ cs. cell b [] ∷ cs) (cells-plain bs)

cells-carrying : (hs : List PlainHandle) (bs : List ℕ) → cells_behind hs (map stream_piece (map byte_piece bs)) ≡ carrying hs bs
cells-carrying hs [] = refl
cells-carrying hs (b ∷ bs) = ap (λ cs. cell b hs ∷ cs) (cells-plain bs)

none-behind : (bs : List ℕ) → waiting_behind {H = PlainHandle} [] (map stream_piece (map byte_piece bs)) ≡ []
none-behind [] = refl
none-behind (b ∷ bs) = none-behind bs

waits-none : (hs : List PlainHandle) (bs : List ℕ) → 0 < length bs → waiting_behind hs (map stream_piece (map byte_piece bs)) ≡ []
waits-none hs [] h = absurd (omega arith)
waits-none hs (b ∷ bs) h = none-behind bs

pub cells-bytes : (ps : List Piece) (bs : List ℕ) → cells_of (ps ++ map byte_piece bs) ≡ cells_of ps ++ carrying (waiting ps) bs
cells-bytes ps bs = cells_of-append ps (map byte_piece bs) ∙ ap (λ cs. cells_of ps ++ cs) (cells-carrying (waiting ps) bs)

pub waiting-bytes : (ps : List Piece) (bs : List ℕ) → 0 < length bs → waiting (ps ++ map byte_piece bs) ≡ []
waiting-bytes ps bs h = waiting-append ps (map byte_piece bs) ∙ waits-none (waiting ps) bs h

-- the pieces of handles that are lent
pub pieces-now : (hs : List (Bor PlainHandle)) → map (λ h. handle_piece h.now) hs ≡ map handle_piece (map (λ h. h.now) hs)
pieces-now [] = refl
pieces-now (h ∷ hs) = ap (λ ps. handle_piece h.now ∷ ps) (pieces-now hs)

-- where no handle waits, so many do once they are in
pub waiting-few : (ps : List Piece) (hs : List (Bor PlainHandle)) → length (waiting (ps ++ map (λ h. handle_piece h.now) hs)) ≡ length (waiting ps) + length hs
waiting-few ps hs =
    ap (λ qs. length (waiting (ps ++ qs))) (pieces-now hs)
    ∙ ap length (waiting-handles ps (map (λ h. h.now) hs))
    ∙ length-append (waiting ps) (map (λ h. h.now) hs)
    ∙ ap (λ n. length (waiting ps) + n) (length-map hs (λ h. h.now))

-- all the handles and then the bytes of one send
pub cells-sent : (ps : List Piece) (hs : List PlainHandle) (bs : List ℕ) → waiting ps ≡ [] → cells_of ((ps ++ map handle_piece hs) ++ map byte_piece bs) ≡ cells_of ps ++ carrying hs bs
cells-sent ps hs bs none =
    cells-bytes (ps ++ map handle_piece hs) bs
    ∙ ap (λ cs. cs ++ carrying (waiting (ps ++ map handle_piece hs)) bs) (cells-handles ps hs)
    ∙ ap (λ xs. cells_of ps ++ carrying xs bs) (waiting-handles ps hs ∙ ap (λ xs. xs ++ hs) none)

-- the bytes that are handed out, and what is ready behind them
pub ready-bytes : (kept : List PlainHandle) (bs : List ℕ) (known rest : List Piece) → 0 < length bs → known ≡ map byte_piece bs ++ rest
    → cells_behind kept (map stream_piece known) ≡ carrying kept bs ++ cells_behind [] (map stream_piece rest)
ready-bytes kept bs known rest pos e =
    ap (λ ps. cells_behind kept (map stream_piece ps)) e
    ∙ ap (cells_behind kept) (map-append stream_piece (map byte_piece bs) rest)
    ∙ cells-append kept (map stream_piece (map byte_piece bs)) (map stream_piece rest)
    ∙ ap (λ cs. cs ++ cells_behind (waiting_behind kept (map stream_piece (map byte_piece bs))) (map stream_piece rest)) (cells-carrying kept bs)
    ∙ ap (λ hs. carrying kept bs ++ cells_behind hs (map stream_piece rest)) (waits-none kept bs pos)
