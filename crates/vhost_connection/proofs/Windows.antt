-- Bytes between two places.
use Rattle.std.proofs.Common.{◌≡◌, ◌∙◌, ℕ, ◌+◌, ◌-◌, ◌≤◌, List, take, drop, sym, ap, arith}
use Rattle.std.proofs.lemmas.List.{drop-take, drop-drop}

-- behind the first k of them
pub behind : (xs : List ℕ) (s e k : ℕ) → k ≤ e - s → take (e - (s + k)) (drop (s + k) xs) ≡ drop k (take (e - s) (drop s xs))
behind xs s e k le =
    let m = e - (s + k) in
    let whole : k + m ≡ e - s = omega (arith, le) in
    let same : drop k (drop s xs) ≡ drop (s + k) xs = drop-drop k s xs in
    ap (λ ys. take m ys) (sym same) ∙ sym (drop-take k m (drop s xs)) ∙ ap (λ n. drop k (take n (drop s xs))) whole
