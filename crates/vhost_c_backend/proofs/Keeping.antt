-- What a session's calls make of the descriptors that it holds, number by number.
use Rattle.std.proofs.Common.{◌≡◌, ℕ, ◌+◌, ℤ, Bool, true, false, List, [], ◌∷◌, ◌++◌, length, take, Option, Some, None, Result, Ok, Err, refl, ap, ◌∙◌, arith}
use Rattle.std.specs.Prelude.{OnOk}
use Rattle.vhost_c_common.proofs.Balancing.{times-append, same-times, arrived-times, released-times, claimed-times, handed-times, ends-times, abandons-times}
use Rattle.vhost_c_common.specs.Held.{Abandons, Balances, Gets, HandsLoose, HoldsNone, LetsGo, claimable, held_times, let_go, times}
use Rattle.vhost_c_common.specs.declared.held.Held.{Held}
use Rattle.vhost_c_common.specs.declared.refusal.Refusal.{Refusal}
use Rattle.vhost_c_common.specs.declared.refusal.Refusal.TheVariants.{Protocol, NotReplied, NotYet, OtherCall}
use Rattle.vhost_c_backend.specs.Served.{Claiming, remembers}
use Rattle.vhost_c_backend.specs.Serving.{Nexts}
use Rattle.vhost_c_backend.specs.declared.served.Served.{Served}

-- ---- results

-- what holds where a call succeeds, by what it promises where it does
pub on-ok : {T E P Q : Type 0} (r : Result T E) → (P → Q) → OnOk r P → OnOk r Q
on-ok (Ok v) f p = f p
on-ok (Err e) f p = tt

-- ---- one call

begun-times : (n : ℤ) (s t : Served) (number : ℕ) (mark : Option ℤ) → (remembers s).failed ≡ mark → Nexts s (Ok number) t → held_times n t.held ≡ held_times n s.held
begun-times n s t number None is x = ap (held_times n) (x.0 is).held
begun-times n s t number (Some m) is x = absurd (x.1 m is)

next-times : (n : ℤ) (s t : Served) (outcome : Result ℕ Refusal) (mark : Option ℤ) → (remembers s).failed ≡ mark → Nexts s outcome t → held_times n t.held ≡ held_times n s.held
next-times n s t (Ok number) mark is x = begun-times n s t number mark is x
next-times n s t (Err (Protocol e)) None is x = released-times n s.held t.held (x.0 is).held
next-times n s t (Err (Protocol e)) (Some m) is x = released-times n s.held t.held (x.1 m is).held
next-times n s t (Err NotReplied) mark is x = ap (λ u. held_times n u.held) x.1
next-times n s t (Err NotYet) mark is x = ap (λ u. held_times n u.held) x.1
next-times n s t (Err _) mark is x = absurd x

refused-claim : (fd : ℤ) (s t : Served) (r : Refusal) → Claiming fd s (Err r) t → t ≡ s
refused-claim fd s t OtherCall x = x.1
refused-claim fd s t _ x = absurd x

-- ---- what is noted of it

module _ (came claimed handed : List ℤ) (old new : Held) (was : Balances came claimed handed old) where
  same : ((n : ℤ) → held_times n new ≡ held_times n old) → Balances came claimed handed new
  same is n = omega (arith, was n, is n)

  pub ended : (before after : Bool) → LetsGo before after old new → Balances came claimed handed new
  ended before after e = same (λ n. ends-times n before after old new e)

  pub abandoned : (is_open : Bool) → Abandons is_open old new → Balances came claimed handed new
  abandoned is_open a = same (λ n. abandons-times n is_open old new a)

  pub unmoved : new ≡ old → Balances came claimed handed new
  unmoved is = same (λ n. ap (held_times n) is)

  pub not-received : (fds : List ℤ) (is_first : Bool) (r : Refusal) → Gets {E = Refusal} fds is_first old (Err r) new → Balances came claimed handed new
  not-received fds is_first r g = same (λ n. same-times n old new g)

  pub received : (fds now : List ℤ) (is_first : Bool) → Gets {E = Refusal} fds is_first old (Ok tt) new → now ≡ came ++ fds → Balances now claimed handed new
  received fds now is_first g is n =
      let more : times n now ≡ times n came + times n fds = ap (times n) is ∙ times-append n came fds in
      omega (arith, was n, arrived-times n old new fds is_first g)

  pub handed-out : (before : List ℤ) (count : ℕ) (after now : List ℤ) → HandsLoose old before count after new → now ≡ handed ++ take count after → Balances came claimed now new
  handed-out before count after now h is n =
      let more : times n now ≡ times n handed + times n (take count after) = ap (times n) is ∙ times-append n handed (take count after) in
      omega (arith, was n, handed-times n old new before count after h)

pub gone-on : (came claimed handed : List ℤ) (s t : Served) (outcome : Result ℕ Refusal) → Nexts s outcome t → Balances came claimed handed s.held → Balances came claimed handed t.held
gone-on came claimed handed s t outcome x was = same came claimed handed s.held t.held was (λ n. next-times n s t outcome (remembers s).failed refl x)

pub granted : (came claimed handed now : List ℤ) (fd : ℤ) (s t : Served) → Claiming fd s (Ok tt) t → now ≡ claimed ++ (fd ∷ []) → Balances came claimed handed s.held → Balances came now handed t.held
granted came claimed handed now fd s t x is was n =
    let more : times n now ≡ times n claimed + times n (fd ∷ []) = ap (times n) is ∙ times-append n claimed (fd ∷ []) in
    omega (arith, was n, claimed-times n s.held t.held fd x.1)

pub denied : (came claimed handed : List ℤ) (fd : ℤ) (s t : Served) (r : Refusal) → Claiming fd s (Err r) t → Balances came claimed handed s.held → Balances came claimed handed t.held
denied came claimed handed fd s t r x was = same came claimed handed s.held t.held was (λ n. ap (λ u. held_times n u.held) (refused-claim fd s t r x))

-- ---- what is left

-- where no call is open, nothing may be claimed of what was given up
pub given-up : (is_open : Bool) (old new : Held) → Abandons is_open old new → is_open ≡ false → claimable new ≡ []
given-up true old new a is = absurd (cc is)
given-up false old new a is = a.own

pub none-left : (xs : List ℤ) → length xs ≡ 0 → xs ≡ []
none-left [] is = refl
none-left (x ∷ xs) is = absurd (omega (arith, is))

-- nothing was noted yet, and nothing is held
pub balanced-first : (came claimed handed : List ℤ) (h : Held) → came ≡ [] → claimed ≡ [] → handed ≡ [] → HoldsNone h → Balances came claimed handed h
balanced-first came claimed handed h no-came no-claimed no-handed none n =
    let a : times n came ≡ 0 = ap (times n) no-came in
    let b : times n claimed ≡ 0 = ap (times n) no-claimed in
    let c : times n handed ≡ 0 = ap (times n) no-handed in
    let d : times n (claimable h) ≡ 0 = ap (times n) none.own in
    let e : times n (let_go h) ≡ 0 = ap (times n) none.loose in
    omega arith
