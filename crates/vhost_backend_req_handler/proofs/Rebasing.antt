-- Where a device has mapped the regions of a table.
use Rattle.std.proofs.Common.{◌≡◌, ◌⊎◌, inl, inr, ◌≤◌, ◌<◌, ℕ, zero, suc, ◌+◌, List, [], ◌∷◌, ◌++◌, length, take, drop, set, slice_index, slice_index_or, refl, ap, subst, ◌∙◌, arith}
use Rattle.vhost_message.specs.declared.records.memory.VhostUserMemoryRegion.{VhostUserMemoryRegion}
use Rattle.vhost_protocol.specs.Answered.{rebased}

-- the next region gets its address
placed : (i : ℕ) (rs : List VhostUserMemoryRegion) (bases : List ℕ) (d : VhostUserMemoryRegion) → i < length rs → i < length bases
    → let now = rebased (take i rs) (take i bases) ++ drop i rs in
    set now i (record (slice_index_or now i d) { user_addr = slice_index bases i }) ≡ rebased (take (i + 1) rs) (take (i + 1) bases) ++ drop (i + 1) rs
placed i [] bases d fits given = absurd (omega arith)
placed i (r ∷ rs) [] d fits given = absurd (omega arith)
placed zero (r ∷ rs) (base ∷ bases) d fits given = refl
placed (suc i) (r ∷ rs) (base ∷ bases) d fits given =
    let rest = placed i rs bases d (omega arith) (omega arith) in
    let after : suc i + 1 ≡ suc (i + 1) = omega arith in
    rw after (ap (λ xs. record r { user_addr = base } ∷ xs) rest)

-- one region more has its address
pub rebased-more : (i : ℕ) (rs : List VhostUserMemoryRegion) (bases : List ℕ) (now : List VhostUserMemoryRegion) (d : VhostUserMemoryRegion)
    → i < length rs → i < length bases → now ≡ rebased (take i rs) (take i bases) ++ drop i rs
    → set now i (record (slice_index_or now i d) { user_addr = slice_index bases i }) ≡ rebased (take (i + 1) rs) (take (i + 1) bases) ++ drop (i + 1) rs
rebased-more i rs bases now d fits given so_far =
    ap (λ xs. set xs i (record (slice_index_or xs i d) { user_addr = slice_index bases i })) so_far ∙ placed i rs bases d fits given

-- where either list ends, those before it have their address
pub rebased-front : (n : ℕ) (rs : List VhostUserMemoryRegion) (bases : List ℕ) → n ≤ length rs → n ≤ length bases → (n ≡ length rs) ⊎ (n ≡ length bases)
    → take n (rebased (take n rs) (take n bases) ++ drop n rs) ≡ rebased rs bases
rebased-front zero [] bases fits given end = refl
rebased-front zero (r ∷ rs) [] fits given end = refl
rebased-front zero (r ∷ rs) (base ∷ bases) fits given (inl e) = absurd (cc e)
rebased-front zero (r ∷ rs) (base ∷ bases) fits given (inr e) = absurd (cc e)
rebased-front (suc n) [] bases fits given end = absurd (omega arith)
rebased-front (suc n) (r ∷ rs) [] fits given end = absurd (omega arith)
rebased-front (suc n) (r ∷ rs) (base ∷ bases) fits given (inl e) =
    ap (λ xs. record r { user_addr = base } ∷ xs) (rebased-front n rs bases (omega arith) (omega arith) (inl (omega arith)))
rebased-front (suc n) (r ∷ rs) (base ∷ bases) fits given (inr e) =
    ap (λ xs. record r { user_addr = base } ∷ xs) (rebased-front n rs bases (omega arith) (omega arith) (inr (omega arith)))

-- how far there are both: as far as the shorter of the two
abbrev pub Shorter : ℕ → List VhostUserMemoryRegion → List ℕ → Type 0
Shorter n rs bases = ((length rs < length bases) × (n ≡ length rs)) ⊎ ((length bases ≤ length rs) × (n ≡ length bases))

fronts : (n : ℕ) (rs : List VhostUserMemoryRegion) (bases : List ℕ) → Shorter n rs bases → take n (rebased (take n rs) (take n bases) ++ drop n rs) ≡ rebased rs bases
fronts n rs bases (inl (less, is)) = rebased-front n rs bases (omega arith) (omega arith) (inl is)
fronts n rs bases (inr (less, is)) = rebased-front n rs bases (omega arith) (omega arith) (inr is)

pub rebased-both : (n i : ℕ) (rs : List VhostUserMemoryRegion) (bases : List ℕ) (now : List VhostUserMemoryRegion)
    → Shorter n rs bases → n ≤ i → i ≤ n → now ≡ rebased (take i rs) (take i bases) ++ drop i rs → take n now ≡ rebased rs bases
rebased-both n i rs bases now short end within so_far =
    let same : i ≡ n = omega arith in
    let placed : now ≡ rebased (take n rs) (take n bases) ++ drop n rs = subst (λ k. now ≡ rebased (take k rs) (take k bases) ++ drop k rs) same so_far in
    ap (λ xs. take n xs) placed ∙ fronts n rs bases short
