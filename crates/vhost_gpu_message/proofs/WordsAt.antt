-- The numbers at each fourth byte.
use Rattle.std.proofs.Common.{◌≡◌, ℕ, zero, suc, ◌+◌, ◌*◌, ◌<◌, List, [], ◌∷◌, length, drop, slice_index, refl, ap, sym, ◌∙◌, arith, lit<}
use Rattle.std.proofs.lemmas.List.{drop-drop}
use Rattle.vhost_message.specs.Text.{number_at}
use Rattle.vhost_gpu_message.specs.Words.{words_of, AreWords}

-- numbers that are those at each fourth byte are the numbers of the bytes
pub words-at : (ns bs : List ℕ) → ((k : ℕ) → k < length ns → slice_index ns k ≡ number_at 0 4 (drop (4 * k) bs)) → ns ≡ words_of (length ns) bs
words-at [] bs same = refl
words-at (n ∷ ns) bs same =
    let first : n ≡ number_at 0 4 bs = same 0 (omega arith) in
    let place : (k : ℕ) → 4 * suc k ≡ 4 + 4 * k = λ k. omega arith in
    let next : (k : ℕ) → drop (4 * suc k) bs ≡ drop (4 * k) (drop 4 bs) = λ k. ap (λ j. drop j bs) (place k) ∙ sym (drop-drop (4 * k) 4 bs) in
    let rest : ns ≡ words_of (length ns) (drop 4 bs) = words-at ns (drop 4 bs) (λ k h. same (suc k) (omega arith) ∙ ap (number_at 0 4) (next k)) in
    λ i. first i ∷ rest i

-- the first six numbers, one by one
pub first_six : (ns : List ℕ) → AreWords ns → AreWords (slice_index ns 0 ∷ slice_index ns 1 ∷ slice_index ns 2 ∷ slice_index ns 3 ∷ slice_index ns 4 ∷ slice_index ns 5 ∷ [])
first_six ns fits zero = fits 0
first_six ns fits (suc zero) = fits 1
first_six ns fits (suc (suc zero)) = fits 2
first_six ns fits (suc (suc (suc zero))) = fits 3
first_six ns fits (suc (suc (suc (suc zero)))) = fits 4
first_six ns fits (suc (suc (suc (suc (suc zero))))) = fits 5
first_six ns fits (suc (suc (suc (suc (suc (suc k)))))) = lit< tt
