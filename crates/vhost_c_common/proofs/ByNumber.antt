-- What C calls, by the number that it is answered.
use Rattle.std.proofs.Common.{◌≡◌, ℕ, Option, Some, None, Result, sym, subst}
use Rattle.std.specs.Prelude.{⊤}
use Rattle.vhost_c_common.specs.ByNumber.{By, none, some}
use Rattle.vhost_c_common.specs.Number.{outcome_number}
use Rattle.vhost_c_common.specs.declared.refusal.Refusal.{Refusal}

module _ {S : Type 0} where
  module _ (does : S → Result ⊤ Refusal → S → Type 0) (old new : Option S) (n : ℕ) where
    pub by-none : old ≡ None → new ≡ None → n ≡ 101 → By does old n new
    by-none at_old at_new is =
        subst (λ o. By does o n new) (sym at_old) (subst (λ o. By does None n o) (sym at_new) (subst (λ m. By does None m None) (sym is) none))

    pub by-some : (s s' : S) (outcome : Result ⊤ Refusal) → old ≡ Some s → new ≡ Some s' → n ≡ outcome_number outcome → does s outcome s' → By does old n new
    by-some s s' outcome at_old at_new is did =
        subst (λ o. By does o n new) (sym at_old) (subst (λ o. By does (Some s) n o) (sym at_new) (subst (λ m. By does (Some s) m (Some s')) (sym is) (some did)))

  -- the same of other names for the three
  pub as-said : (P : Option S → ℕ → Option S → Type 0) (old new old' new' : Option S) (n n' : ℕ) → old ≡ old' → n ≡ n' → new ≡ new' → P old' n' new' → P old n new
  as-said P old new old' new' n n' at_old is at_new p = subst (λ o. P o n new) (sym at_old) (subst (λ m. P old' m new) (sym is) (subst (λ o. P old' n' o) (sym at_new) p))
