-- A size for which rings are refused is that of no rings.
use Rattle.std.proofs.Common.{◌≡◌, ◌<◌, ◌+◌, ◌*◌, ◌⊎◌, ℕ, Bool, true, false, List, [], ◌∷◌, Result, Ok, Err, inl, inr, refl, sym, ap, subst, ◌∙◌, arith}
use Rattle.std.specs.Prelude.{IfOk, IfErr, ◌==◌, ◌%◌}
use Rattle.std.specs.Result.{is_err}
use Rattle.std.specs.Int.{is_power_of_two}
use Rattle.std.proofs.lemmas.Bool.{false≢true}
use Rattle.vhost_queue.specs.Memory.{aligned, holds, part_of, translated}
use Rattle.vhost_queue.specs.Rings.{Refuses}
use Rattle.vhost_queue.specs.declared.error.Error.{Error}
use Rattle.vhost_queue.specs.declared.error.Error.TheVariants.{InvalidSize, NotInGuest, Unaligned}
use Rattle.vhost_queue.specs.declared.memory.AddressSpace.{AddressSpace}
use Rattle.vhost_queue.specs.declared.memory.AddressSpace.TheVariants.{User}
use Rattle.vhost_queue.specs.declared.memory.GuestRegion.{GuestRegion}
use Rattle.vhost_queue.specs.declared.memory.HostRange.{HostRange}
use Rattle.vhost_queue.specs.declared.rings.Rings.{Rings}
use Rattle.vhost_c_queue.specs.Number.{error_number}

abbrev IsOther : Error → Type 0
IsOther e = e ≡ InvalidSize → ⊥

not-guest : IsOther NotInGuest
not-guest e = let same : error_number NotInGuest ≡ error_number InvalidSize = ap error_number e in omega arith

unaligned : IsOther Unaligned
unaligned e = let same : error_number Unaligned ≡ error_number InvalidSize = ap error_number e in omega arith

translates : (space : AddressSpace) (rs : List GuestRegion) (a n : ℕ) → IfErr (translated space rs a n) IsOther
translates space [] a n = not-guest
translates space (r ∷ rs) a n =
    let split : (b : Bool) → holds space r a n ≡ b → IfErr (translated space (r ∷ rs) a n) IsOther
    = λ b. elim b as (λ b. holds space r a n ≡ b → IfErr (translated space (r ∷ rs) a n) IsOther) [
      | true ↦ λ e. rw e tt
      | false ↦ λ e. rw e (translates space rs a n)
    ]
    in split (holds space r a n) refl

aligns : (n : ℕ) (r : Result HostRange Error) → IfErr r IsOther → IfErr (aligned n r) IsOther
aligns n (Err e) h = h
aligns n (Ok range) h =
    let split : (b : Bool) → (range.addr % n == 0) ≡ b → IfErr (aligned n (Ok range)) IsOther
    = λ b. elim b as (λ b. (range.addr % n == 0) ≡ b → IfErr (aligned n (Ok range)) IsOther) [
      | true ↦ λ e. rw e tt
      | false ↦ λ e. rw e unaligned
    ]
    in split (range.addr % n == 0) refl

found : (rs : List GuestRegion) (a len n : ℕ) → part_of rs a len n ≡ Err InvalidSize → ⊥
found rs a len n e = subst (λ (r : Result HostRange Error). IfErr r IsOther) e (aligns n (translated User rs a len) (translates User rs a len)) refl

abbrev IsNone : ℕ → Type 0
IsNone size = (size ≡ 0) ⊎ (32768 < size) ⊎ (is_power_of_two size ≡ false)

for-size : (rs : List GuestRegion) (size a b c : ℕ) → Refuses rs size a b c InvalidSize → IsNone size
for-size rs size a b c (inl h) = h.1
for-size rs size a b c (inr (inl e)) = absurd (found rs a (16 * size) 16 e)
for-size rs size a b c (inr (inr (inl e))) = absurd (found rs b (6 + 2 * size) 2 e)
for-size rs size a b c (inr (inr (inr e))) = absurd (found rs c (6 + 8 * size) 4 e)

none : (r : Rings) → IsNone r.size → ⊥
none r (inl e) = let some = r.some in omega arith
none r (inr (inl e)) = let few = r.few in omega arith
none r (inr (inr e)) = false≢true (sym e ∙ r.power)

pub refused : (rs : List GuestRegion) (size a b c : ℕ) (e : Error) → e ≡ InvalidSize → Refuses rs size a b c e
    → (r : Result Rings Error) → IfOk r (λ rings. rings.size ≡ size) → is_err r ≡ true
refused rs size a b c e is why (Err f) same = refl
refused rs size a b c e is why (Ok rings) same =
    absurd (none rings (subst IsNone (sym same) (for-size rs size a b c (subst (Refuses rs size a b c) is why))))
