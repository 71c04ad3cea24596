-- A call of C, by what its function did.
use Rattle.std.proofs.Common.{◌≡◌, ℕ, Option, Some, None, sym, subst}
use Rattle.vhost_c_queue_calls.specs.Calls.{Calls, none, some}

module _ {S : Type 0} (does : S → S → Type 0) (old new : Option S) (n : ℕ) where
  pub no-queue : old ≡ None → new ≡ None → n ≡ 101 → Calls does old n new
  no-queue at_old at_new is =
      subst (λ o. Calls does o n new) (sym at_old) (subst (λ o. Calls does None n o) (sym at_new) (subst (λ m. Calls does None m None) (sym is) none))

  pub called : (s t : S) → old ≡ Some s → new ≡ Some t → does s t → Calls does old n new
  called s t at_old at_new did =
      subst (λ o. Calls does o n new) (sym at_old) (subst (λ o. Calls does (Some s) n o) (sym at_new) (some did))

-- the same of other names for the three
pub as-said : {S : Type 0} (P : Option S → ℕ → Option S → Type 0) (old new old' new' : Option S) (n n' : ℕ) → old ≡ old' → n ≡ n' → new ≡ new' → P old' n' new' → P old n new
as-said P old new old' new' n n' at_old is at_new p = subst (λ o. P o n new) (sym at_old) (subst (λ m. P old' m new) (sym is) (subst (λ o. P old' n' o) (sym at_new) p))
