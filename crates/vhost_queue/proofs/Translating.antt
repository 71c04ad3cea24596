-- Where regions are apart, a range lies in one of them alone.
use Rattle.std.proofs.Common.{◌≡◌, ℕ, ◌+◌, ◌<◌, zero, suc, min, true, false, Bool, List, [], ◌∷◌, length, get_or, refl, sym, ◌∙◌, ◌-◌, Ok, Err, ap, arith}
use Rattle.std.specs.Prelude.{AllPairs, is_ok}
use Rattle.std.proofs.lemmas.Bool.{false≢true}
use Rattle.std.proofs.lemmas.Bool.Decides.{nat_tests}
use Rattle.vhost_queue.specs.Memory.{base, holds, is_apart, mapped_in, translated, translated_part}
use Rattle.vhost_queue.specs.declared.error.Error.TheVariants.{NotInGuest}
use Rattle.vhost_queue.specs.declared.memory.AddressSpace.{AddressSpace}
use Rattle.vhost_queue.specs.declared.memory.AddressSpace.TheVariants.{Guest, User}
use Rattle.vhost_queue.specs.declared.memory.GuestRegion.{GuestRegion}
use Rattle.vhost_queue.specs.declared.memory.HostRange.{HostRange}

-- no range lies in two that are apart
not_in_both : (space : AddressSpace) (r s : GuestRegion) (a n : ℕ) → is_apart r s ≡ true → holds space r a n ≡ true → holds space s a n ≡ true → ⊥
not_in_both Guest r s a n p h k = grind (arith, nat_tests)
not_in_both User r s a n p h k = grind (arith, nat_tests)

pub translated-at : (space : AddressSpace) (rs : List GuestRegion) (k : ℕ) (d : GuestRegion) (a n : ℕ)
    → AllPairs (λ r s. is_apart r s ≡ true) rs → k < length rs → holds space (get_or rs k d) a n ≡ true
    → translated space rs a n ≡ Ok (mapped_in space (get_or rs k d) a n)
translated-at space [] k d a n p lt h = absurd (omega arith)
translated-at space (r ∷ rs) zero d a n p lt h = rw h refl
translated-at space (r ∷ rs) (suc k) d a n p lt h =
    let split : (b : Bool) → holds space r a n ≡ b → translated space (r ∷ rs) a n ≡ Ok (mapped_in space (get_or rs k d) a n)
    = λ b. elim b as (λ b. holds space r a n ≡ b → translated space (r ∷ rs) a n ≡ Ok (mapped_in space (get_or rs k d) a n)) [
      | true ↦ λ e. absurd (not_in_both space r (get_or rs k d) a n (p zero (suc k) d (omega arith) lt) e h)
      | false ↦ λ e. rw e (translated-at space rs k d a n (λ i j x low high. p (suc i) (suc j) x (omega arith) (omega arith)) (omega arith) h)
    ]
    in split (holds space r a n) refl

-- .. as it is found at a place
pub translated-found : (space : AddressSpace) (rs : List GuestRegion) (k : ℕ) (r : GuestRegion) (a n : ℕ)
    → AllPairs (λ r s. is_apart r s ≡ true) rs → k < length rs → r ≡ get_or rs k r → holds space (get_or rs k r) a n ≡ true → (b : ℕ) → b ≡ base space r
    → Ok (record { addr = r.host_addr + (a - b); len = n }) ≡ translated space rs a n
translated-found space rs k r a n p lt is h b e =
    rw e (ap (λ (x : GuestRegion). Ok (mapped_in space x a n)) is ∙ sym (translated-at space rs k r a n p lt h))

-- the first of n bytes, those in this region
abbrev part_in : GuestRegion → ℕ → ℕ → HostRange
part_in r a n = mapped_in Guest r a (min n (r.size - (a - r.guest_addr)))

-- The first bytes of a range lie in the one region that has the first of them; and where none has that, they lie in none.
part-at : (rs : List GuestRegion) (k : ℕ) (d : GuestRegion) (a n : ℕ)
    → AllPairs (λ r s. is_apart r s ≡ true) rs → k < length rs → holds Guest (get_or rs k d) a 1 ≡ true
    → translated_part rs a n ≡ Ok (part_in (get_or rs k d) a n)
part-at [] k d a n p lt h = absurd (omega arith)
part-at (r ∷ rs) zero d a n p lt h = rw h refl
part-at (r ∷ rs) (suc k) d a n p lt h =
    let split : (b : Bool) → holds Guest r a 1 ≡ b → translated_part (r ∷ rs) a n ≡ Ok (part_in (get_or rs k d) a n)
    = λ b. elim b as (λ b. holds Guest r a 1 ≡ b → translated_part (r ∷ rs) a n ≡ Ok (part_in (get_or rs k d) a n)) [
      | true ↦ λ e. absurd (not_in_both Guest r (get_or rs k d) a 1 (p zero (suc k) d (omega arith) lt) e h)
      | false ↦ λ e. rw e (part-at rs k d a n (λ i j x low high. p (suc i) (suc j) x (omega arith) (omega arith)) (omega arith) h)
    ]
    in split (holds Guest r a 1) refl

pub part-found : (rs : List GuestRegion) (k : ℕ) (r : GuestRegion) (a n m : ℕ)
    → AllPairs (λ r s. is_apart r s ≡ true) rs → k < length rs → r ≡ get_or rs k r → holds Guest (get_or rs k r) a 1 ≡ true → m ≡ min n (r.size - (a - r.guest_addr))
    → Ok (record { addr = r.host_addr + (a - r.guest_addr); len = m }) ≡ translated_part rs a n
part-found rs k r a n m p lt is h e = rw e (ap (λ (x : GuestRegion). Ok (part_in x a n)) is ∙ sym (part-at rs k r a n p lt h))

-- .. and all of a range lies in the one region that has it
pub whole-found : (rs : List GuestRegion) (k : ℕ) (r : GuestRegion) (a n : ℕ)
    → AllPairs (λ r s. is_apart r s ≡ true) rs → k < length rs → r ≡ get_or rs k r → holds Guest (get_or rs k r) a n ≡ true → 0 < n
    → translated_part rs a n ≡ Ok (record { addr = r.host_addr + (a - r.guest_addr); len = n })
whole-found rs k r a n p lt is h some =
    let held : holds Guest r a n ≡ true = rw is h in
    let first : holds Guest r a 1 ≡ true = grind (arith, nat_tests) in
    let all : n ≡ min n (r.size - (a - r.guest_addr)) = grind (arith, nat_tests) in
    sym (part-found rs k r a n n p lt is (rw (← is) first) all)

pub no_part : (rs : List GuestRegion) (a n : ℕ) → translated Guest rs a 1 ≡ Err NotInGuest → translated_part rs a n ≡ Err NotInGuest
no_part [] a n e = refl
no_part (r ∷ rs) a n e =
    let split : (b : Bool) → holds Guest r a 1 ≡ b → translated_part (r ∷ rs) a n ≡ Err NotInGuest
    = λ b. elim b as (λ b. holds Guest r a 1 ≡ b → translated_part (r ∷ rs) a n ≡ Err NotInGuest) [
      | true ↦ λ h. let ok : is_ok (translated Guest (r ∷ rs) a 1) ≡ true = rw h refl in absurd (false≢true (ap is_ok (sym e) ∙ ok))
      | false ↦ λ h. let more : translated Guest (r ∷ rs) a 1 ≡ translated Guest rs a 1 = rw h refl in rw h (no_part rs a n (sym more ∙ e))
    ]
    in split (holds Guest r a 1) refl
