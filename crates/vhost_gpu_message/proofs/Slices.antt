-- Parts of slices.
use Rattle.std.proofs.Common.{◌≡◌, ℕ, zero, suc, ◌+◌, ◌-◌, ◌*◌, ◌≤◌, List, ◌∷◌, take, drop, refl, ap, ◌∙◌, arith}
use Rattle.std.proofs.lemmas.List.{drop-take}
use Rattle.byteorder.specs.Numbers.{little_from-take}
use Rattle.vhost_message.specs.Text.{number_at}
use Rattle.vhost_gpu_message.specs.Words.{words_of}

-- numbers of four bytes lie within their bytes
pub words_of-take : (n m : ℕ) (bs : List ℕ) → 4 * n ≤ m → words_of n (take m bs) ≡ words_of n bs
words_of-take zero m bs h = refl
words_of-take (suc n) m bs h =
    let first : number_at 0 4 (take m bs) ≡ number_at 0 4 bs = little_from-take 0 4 m bs (omega arith) in
    let whole : m ≡ 4 + (m - 4) = omega arith in
    let behind : drop 4 (take m bs) ≡ take (m - 4) (drop 4 bs) = ap (λ k. drop 4 (take k bs)) whole ∙ drop-take 4 (m - 4) bs in
    let others : words_of n (drop 4 (take m bs)) ≡ words_of n (drop 4 bs) = ap (words_of n) behind ∙ words_of-take n (m - 4) (drop 4 bs) (omega arith) in
    λ i. first i ∷ others i
