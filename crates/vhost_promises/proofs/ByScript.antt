-- What follows from what a message used of a link's script.
use Rattle.std.proofs.Common.{◌≡◌, ℕ, zero, suc, ◌+◌, ◌-◌, ◌^◌, ◌<◌, ◌≤◌, ℤ, min, false, List, [], ◌∷◌, drop, take, length, arith, refl, sym, ap, subst, ◌∙◌}
use Rattle.std.specs.Prelude.{sum_by, if◌then◌else◌}
use Rattle.std.proofs.lemmas.List.Sums.{sum_by-cons}
use Rattle.vhost_message.specs.Cause.{is_retry}
use Rattle.vhost_message.specs.declared.cause.IoCause.{IoCause}
use Rattle.vhost_message.specs.declared.cause.IoCause.TheVariants.{Raw}
use Rattle.vhost_link.specs.Cuts.{Fails, counted, failure}
use Rattle.vhost_link.specs.declared.cut.Cut.{Cut}
use Rattle.vhost_link.specs.declared.cut.Cut.TheVariants.{Fault}
use Rattle.vhost_promises.specs.Scripts.{TakesACut, StopsByItsCut, PassesNoFault, CountsItsWants}

drop-none : (n : ℕ) → drop {A = Cut} n [] ≡ []
drop-none zero = refl
drop-none (suc n) = refl

-- no list is shorter than what is left of it
drop-fewer : (n : ℕ) (cuts : List Cut) → length (drop n cuts) ≤ length cuts
drop-fewer zero cuts = omega arith
drop-fewer (suc n) [] = omega arith
drop-fewer (suc n) (c ∷ cuts) = let fewer = drop-fewer n cuts in omega (arith, fewer)

-- a script of which a cut was taken is another
taken-cut : (n : ℕ) (cut : Cut) (cuts : List Cut) → 0 < n → cut ∷ cuts ≡ drop n (cut ∷ cuts) → ⊥
taken-cut zero cut cuts some same = absurd (omega (arith, some))
taken-cut (suc n) cut cuts some same = let fewer = drop-fewer n cuts in let long = ap (λ (xs : List Cut). length xs) same in absurd (omega (arith, fewer, long))

pub takes-cut : TakesACut
takes-cut budget wants cut cuts cells some p = taken-cut p.calls.used cut cuts (p.some some) p.calls.script

-- of a fault that was used, a failure is counted
used-fault : (n : ℕ) (e : ℤ) (cuts : List Cut) → is_retry (Raw e) ≡ false → 0 < n → sum_by failure (take n (Fault e ∷ cuts)) ≡ 0 → ⊥
used-fault zero e cuts hard some none = absurd (omega (arith, some))
used-fault (suc n) e cuts hard some none =
    let one : failure (Fault e) ≡ 1 = ap (λ b. if b then 0 else 1) hard in
    let all : sum_by failure (Fault e ∷ take n cuts) ≡ 0 = none in
    let split : sum_by failure (Fault e ∷ take n cuts) ≡ failure (Fault e) + sum_by failure (take n cuts) = sum_by-cons failure (Fault e) (take n cuts) in
    absurd (omega (arith, all, one, split))

pub no-fault : PassesNoFault
no-fault budget wants e cuts cells new hard some p = used-fault p.calls.used e cuts hard (p.some some) p.faults

-- the last call is the first: a fault before it would have been counted
first-fault : (n : ℕ) (e : ℤ) (cuts : List Cut) (c : IoCause) (before after : ℕ) → is_retry (Raw e) ≡ false → sum_by failure (take n (Fault e ∷ cuts)) ≡ 0 → Fails (drop n (Fault e ∷ cuts)) c before after → c ≡ Raw e
first-fault zero e cuts c before after hard none fails = fails.0
first-fault (suc n) e cuts c before after hard none fails = absurd (used-fault (suc n) e cuts hard (omega arith) none)

pub by-cut : StopsByItsCut
by-cut budget wants e cuts c new hard s =
    first-fault s.calls.used e cuts c s.before.wants new.wants hard s.faults (subst (λ (script : List Cut). Fails script c s.before.wants new.wants) s.calls.script s.last)

-- a count goes down never, and up by one as long as it has room
counted-more : (n before : ℕ) → before < 2 ^ 64 - 1 → before ≤ counted before n
counted-more zero before room = omega arith
counted-more (suc n) before room = go (counted before n) (counted-more n before room)
  where
    go : (m : ℕ) → before ≤ m → before ≤ min (m + 1) (2 ^ 64 - 1)
    go m more = omega (arith, more, room)

one-more : (before mid : ℕ) → before < 2 ^ 64 - 1 → before ≤ mid → before < min (mid + 1) (2 ^ 64 - 1)
one-more before mid room more = omega (arith, more, room)

counted-one : (before mid after : ℕ) → before < 2 ^ 64 - 1 → before ≤ mid → after ≡ counted mid 1 → before < after
counted-one before mid after room more is = subst (λ n. before < n) (sym is) (one-more before mid room more)

pub counts-wants : CountsItsWants
counts-wants budget wants c new room s =
    let fails : Fails [] c s.before.wants new.wants = subst (λ (script : List Cut). Fails script c s.before.wants new.wants) (s.calls.script ∙ drop-none s.calls.used) s.last in
    (fails.0, counted-one wants s.before.wants new.wants room (subst (λ n. wants ≤ n) (sym s.calls.count) (counted-more s.calls.wants wants room)) fails.1)
