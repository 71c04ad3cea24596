-- Descriptors and their handles.
use Rattle.std.proofs.Common.{◌≡◌, ◌==◌, ℕ, arith, true, not, ⊎_elim, ℤ, pos, ◌<◌, w32, to_z, of_z, List, length, map, get_or, None, Some, Contains, sym, ap, subst, ◌∙◌}
use Rattle.std.proofs.lemmas.Bool.{cases_eq, eqb-true}
use Rattle.std.proofs.lemmas.List.{get_or-map, length-map}
use Rattle.std.proofs.lemmas.List.Elements.{Contains-get_or}
use Rattle.vhost_link.specs.declared.plain.PlainHandle.{PlainHandle}
use Rattle.vhost_c_common.specs.Records.{handle_in}

-- a negative one among some has none
pub negative-at : (fds : List ℤ) (i : ℕ) → i < length fds → to_z w32 (of_z w32 (get_or fds i (pos 0))) ≡ get_or fds i (pos 0) → handle_in (to_z w32 (of_z w32 (get_or fds i (pos 0)))) ≡ None → Contains (map handle_in fds) None
negative-at fds i within same is =
    subst (λ o. Contains (map handle_in fds) o) (get_or-map handle_in fds i (pos 0) None within ∙ ap handle_in (sym same) ∙ is)
    (Contains-get_or (map handle_in fds) i None (subst (λ n. i < n) (sym (length-map fds handle_in)) within))

-- descriptors with handles are as many as these
pub as-many : (fds : List ℤ) (handles : List PlainHandle) → map handle_in fds ≡ map Some handles → length handles ≡ length fds
as-many fds handles is = sym (length-map handles Some) ∙ ap length (sym is) ∙ length-map fds handle_in

-- none of these, and some of those
pub lone : (n m : ℕ) → (n == 0) ≡ true → not (m == 0) ≡ true → (n ≡ 0) × (0 < m)
lone n m none some = (
  eqb-true n 0 none,
  ⊎_elim (λ (is : m ≡ 0). absurd (cc (subst (λ k. not (k == 0) ≡ true) is some))) (λ (more : ¬ (m ≡ 0)). omega (arith, more)) (cases_eq m 0),
)
