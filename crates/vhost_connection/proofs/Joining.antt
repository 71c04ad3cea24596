-- Bytes that lie in several pieces.
use Rattle.std.proofs.Common.{◌≡◌, ℕ, zero, suc, ◌+◌, ◌-◌, ◌<◌, ◌≤◌, List, [], ◌∷◌, ◌++◌, length, take, drop, length-drop, min, get_or, add-zero, refl, sym, ap, ◌∙◌, arith, Bor}
use Rattle.std.proofs.Math.Seq.{take-append-add}
use Rattle.std.proofs.lemmas.List.{append-nil, append_assoc, take_all, take_more, take-append-drop, take-append-le, take_at, drop_at, drop-drop, length-append, length-take-le}
use Rattle.std.proofs.lemmas.List.Concat.{flat_map-append}
use borrow.Rule.Slice.PartMut.{put_mid}
use Rattle.vhost_connection.specs.Pass.{joined}
use Rattle.vhost_connection.proofs.Receiving.{piece_room}

-- the pieces up to the next one
pub joined-more : (pieces : List (Bor (List ℕ))) (i : ℕ) (d : Bor (List ℕ)) → i < length pieces → joined (take (i + 1) pieces) ≡ joined (take i pieces) ++ (get_or pieces i d).now
joined-more pieces i d lt = rw (take_more pieces i d lt, flat_map-append (λ (p : Bor (List ℕ)). p.now) (take i pieces) (get_or pieces i d ∷ []), append-nil (get_or pieces i d).now) refl

-- all pieces are some of them, and the rest
pub joined-rest : (pieces : List (Bor (List ℕ))) (i : ℕ) → joined pieces ≡ joined (take i pieces) ++ joined (drop i pieces)
joined-rest pieces i = ap joined (sym (take-append-drop i pieces)) ∙ flat_map-append (λ (p : Bor (List ℕ)). p.now) (take i pieces) (drop i pieces)

-- how many bytes some pieces have, with the next one
pub joined-length : (pieces : List (Bor (List ℕ))) (i : ℕ) (d : Bor (List ℕ)) → i < length pieces → length (joined (take (i + 1) pieces)) ≡ length (joined (take i pieces)) + length (get_or pieces i d).now
joined-length pieces i d lt = ap length (joined-more pieces i d lt) ∙ length-append (joined (take i pieces)) (get_or pieces i d).now

pub joined-within : (pieces : List (Bor (List ℕ))) (i : ℕ) → length (joined (take i pieces)) ≤ length (joined pieces)
joined-within pieces i = omega (arith, ap length (joined-rest pieces i), length-append (joined (take i pieces)) (joined (drop i pieces)))

-- one more piece, as far as there is room
take-both : (count n room : ℕ) (front piece : List ℕ) → count ≡ min room (length front) → n ≡ min (room - count) (length piece) → take (count + n) (front ++ piece) ≡ take count front ++ take n piece
take-both count zero room front piece c k = rw (add-zero count, append-nil (take count front)) (take-append-le count front piece (omega (arith, c)))
take-both count (suc m) room front piece c k =
    let e : count ≡ length front = omega (arith, c, k) in
    rw (e, take_all (length front) front (omega arith)) (take-append-add front piece (suc m))

-- the front of the room holds what is gathered so far
pub put-more : (count n : ℕ) (front piece old out after sub : List ℕ)
    → count ≡ min (length old) (length front) → out ≡ take count front ++ drop count old → n ≡ min (length sub) (length piece)
    → sub ≡ take (length out - count) (drop count out) → after ≡ take n piece ++ drop n sub
    → (count + n ≡ min (length old) (length (front ++ piece))) × (put_mid count (length out - count) out after ≡ take (count + n) (front ++ piece) ++ drop (count + n) old)
put-more count n front piece old out after sub c is k s a =
    let head = take count front in
    let len-head : length head ≡ count = length-take-le count front (omega (arith, c)) in
    let dropped : drop count out ≡ drop count old = ap (drop count) is ∙ drop_at head (drop count old) count len-head in
    let taken : take count out ≡ head = ap (take count) is ∙ take_at head (drop count old) count len-head in
    let len-out : length out ≡ length old = ap length is ∙ length-append head (drop count old) ∙ omega (arith, len-head, length-drop count old, c) in
    let len-sub : length sub ≡ length old - count = ap length s ∙ length-take-le (length out - count) (drop count out) (omega (arith, length-drop count out)) ∙ omega (arith, len-out) in
    let len-piece : length (take n piece) ≡ n = length-take-le n piece (omega (arith, k)) in
    let written : take n after ≡ take n piece = ap (take n) a ∙ take_at (take n piece) (drop n sub) n len-piece in
    let tail : drop n after ≡ drop n sub = ap (drop n) a ∙ drop_at (take n piece) (drop n sub) n len-piece in
    let rest : drop (count + n) out ≡ drop (count + n) old = sym (drop-drop n count out) ∙ ap (drop n) dropped ∙ drop-drop n count old in
    let whole : take (count + n) (front ++ piece) ≡ head ++ take n piece = take-both count n (length old) front piece c (omega (arith, k, len-sub)) in (
      omega (arith, c, k, len-sub, length-append front piece),
      piece_room count n out after (omega (arith, c, len-out)) (tail ∙ ap (drop n) s) ∙ rw (taken, written, rest, whole) (sym (append_assoc head (take n piece) (drop (count + n) old))),
    )
