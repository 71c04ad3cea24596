-- What is held is counted, number by number.
use Rattle.std.proofs.Common.{◌≡◌, ℕ, ◌+◌, ℤ, Bool, true, false, List, [], ◌∷◌, ◌++◌, take, ap, ◌∙◌, arith}
use Rattle.std.proofs.lemmas.List.Sums.{sum_by-append}
use Rattle.std.specs.Prelude.{cond}
use Rattle.std.specs.Ordering.{int_eq}
use Rattle.vhost_c_common.specs.Held.{times, held_times, claimable, let_go, HoldsNone, IsSame, Arrives, Released, Claimed, HandsLoose, Abandons, LetsGo, Balances, IsSettled}
use Rattle.vhost_c_common.specs.declared.held.Held.{Held}

pub times-append : (n : ℤ) (xs ys : List ℤ) → times n (xs ++ ys) ≡ times n xs + times n ys
times-append n xs ys = sum_by-append (λ x. cond (int_eq n x) 1 0) xs ys

module _ (n : ℤ) (old new : Held) where
  pub same-times : IsSame old new → held_times n new ≡ held_times n old
  same-times s = let own : times n (claimable new) ≡ times n (claimable old) = ap (times n) s.own in let loose : times n (let_go new) ≡ times n (let_go old) = ap (times n) s.loose in omega arith

  pub arrived-times : (fds : List ℤ) (is_first : Bool) → Arrives fds is_first old new → held_times n new ≡ held_times n old + times n fds
  arrived-times fds true a =
      let own : times n (claimable new) ≡ times n (claimable old) + times n fds = ap (times n) a.own ∙ times-append n (claimable old) fds in
      let loose : times n (let_go new) ≡ times n (let_go old) = ap (times n) a.loose in omega arith
  arrived-times fds false a =
      let own : times n (claimable new) ≡ times n (claimable old) = ap (times n) a.own in
      let loose : times n (let_go new) ≡ times n (let_go old) + times n fds = ap (times n) a.loose ∙ times-append n (let_go old) fds in omega arith

  pub released-times : Released old new → held_times n new ≡ held_times n old
  released-times r =
      let own : times n (claimable new) ≡ 0 = ap (times n) r.own in
      let loose : times n (let_go new) ≡ times n (let_go old) + times n (claimable old) = ap (times n) r.loose ∙ times-append n (let_go old) (claimable old) in omega arith

  pub claimed-times : (fd : ℤ) → Claimed fd old new → held_times n old ≡ held_times n new + times n (fd ∷ [])
  claimed-times fd c =
      let was : times n (claimable old) ≡ times n c.own.before + times n (fd ∷ c.own.after) = ap (times n) c.own.was ∙ times-append n c.own.before (fd ∷ c.own.after) in
      let one : times n (fd ∷ c.own.after) ≡ times n (fd ∷ []) + times n c.own.after = times-append n (fd ∷ []) c.own.after in
      let own : times n (claimable new) ≡ times n c.own.before + times n c.own.after = ap (times n) c.own.is ∙ times-append n c.own.before c.own.after in
      let loose : times n (let_go new) ≡ times n (let_go old) = ap (times n) c.loose in omega arith

  pub handed-times : (before : List ℤ) (count : ℕ) (after : List ℤ) → HandsLoose old before count after new → held_times n old ≡ held_times n new + times n (take count after)
  handed-times before count after h =
      let own : times n (claimable new) ≡ times n (claimable old) = ap (times n) h.own in
      let loose : times n (let_go old) ≡ times n (let_go new) + times n (take count after) = ap (times n) h.loose ∙ times-append n (let_go new) (take count after) in omega arith

pub ends-times : (n : ℤ) (was is : Bool) (old new : Held) → LetsGo was is old new → held_times n new ≡ held_times n old
ends-times n true false old new e = released-times n old new e
ends-times n true true old new e = ap (held_times n) e
ends-times n false is old new e = ap (held_times n) e

pub abandons-times : (n : ℤ) (is_open : Bool) (old new : Held) → Abandons is_open old new → held_times n new ≡ held_times n old
abandons-times n true old new a = ap (held_times n) a
abandons-times n false old new a = released-times n old new a

-- where none is held any more, each that came was claimed or handed out
pub settled : (came claimed handed : List ℤ) (h : Held) → Balances came claimed handed h → HoldsNone h → IsSettled came claimed handed
settled came claimed handed h is none n =
    let own : times n (claimable h) ≡ 0 = ap (times n) none.own in let loose : times n (let_go h) ≡ 0 = ap (times n) none.loose in omega (arith, is n)
