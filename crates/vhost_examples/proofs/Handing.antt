-- What a loopback hands out stood at the front.
use Rattle.std.proofs.Common.{◌≡◌, ℕ, ◌+◌, List, ◌++◌, length, take, drop, ap, sym, ◌∙◌}
use Rattle.std.proofs.Math.Seq.{take-append_seam}
use Rattle.std.proofs.lemmas.List.{drop-drop, take-append-drop}

-- the copied bytes, before the rest of the room, are those that came next; behind them are those that are left
pub hands_front : (bytes room copied : List ℕ) (gone count : ℕ) → copied ≡ take count (drop gone bytes) → length copied ≡ count
    → drop gone bytes ≡ take count (copied ++ drop count room) ++ drop (gone + count) bytes
hands_front bytes room copied gone count copy len =
    let seam : take count (copied ++ drop count room) ≡ copied = ap (λ n. take n (copied ++ drop count room)) (sym len) ∙ take-append_seam copied (drop count room) in
    sym (take-append-drop count (drop gone bytes)) ∙ ap (λ xs. take count (drop gone bytes) ++ xs) (drop-drop count gone bytes)
    ∙ ap (λ xs. xs ++ drop (gone + count) bytes) (sym (seam ∙ copy))
