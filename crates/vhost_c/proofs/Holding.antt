-- The machine values of what a program in C holds of a session, and what it owns by cases. Assumes `Logic`.
use Rattle.std.proofs.Common.{◌≡◌, ℕ, List, [], ◌∷◌, ◌++◌, refl, ◌∙◌, lit<}
use seplogic.Ra.Ura.{Ura}
use mir.Syntax.{ty_ptr}
use mir.Raw.{raw as bare}
use mir.Val.{Val, vstruct, vcons, vnil, of_list}
use base.Fml.{Fml}
use base.Fraction.{full_share}
use base.Logic.{ent, emp, guard, via, snd∗, guard_i}
use contract.Monad.{fact_use}
use types.Logic.{Logic, sem}
use types.Kit.{Item, Goal, Seq, ‵, ◌$◌, drop, fsplit, fpick}
use denote.Memory.{lone}
use denote.RawPtr.{Ptr, RawPtr, block_ptr, null_ptr, ptr_val, lies_at, Testable}
use denote.Shadow.{shadow, makes_shadow}
use denote.Struct.Struct.{Struct}
use Rattle.core.proofs.cell.Inside.{Good}
use Rattle.std.specs.declared.option.Option.{Option}
use Rattle.std.specs.declared.option.Option.TheVariants.{None, Some}
use Rattle.std.specs.declared.alloc.Global.{Global}
use Rattle.std.specs.contracts.impls.GlobalAllocator.TheImpl.{ghosts}
use Rattle.std.proofs.GlobalToken.{dealloc_token-Testable}
use Rattle.std_alloc.specs.Box.Ownership.{box_owns}
use denote.RattleType.{RattleType}
use Rattle.vhost_c.specs.Holder.{held}

pub ptr_typed : (p : Ptr) → Good ty_ptr (ptr_val p)
ptr_typed (block_ptr b o) = (tt, tt)
ptr_typed null_ptr = (tt, record { fits = lit< tt })

abbrev pub word : Ptr → Val
word p = vstruct (vcons (ptr_val p) vnil)

abbrev pub word_own : Ptr → List Val → Fml
word_own p = (Struct (record { name = []; args = []; types = []; fields = RawPtr ∷ [] })).own_val (p, tt)

pub word_told : (p : Ptr) (vs : List Val) → shadow (word_own p vs) → vs ≡ word p ∷ []
word_told p vs s = s.1.0 ∙ (λ i. vstruct (of_list (s.1.1.0 i ++ [])) ∷ [])

pub word_made : {M : Type 1} {𝓤 : Ura M} (𝓛 : Logic 𝓤) (p : Ptr) → ent 𝓤 (emp 𝓤) (sem 𝓛 (word_own p (word p ∷ [])))
word_made 𝓛 p = makes_shadow 𝓛 (word_own p (word p ∷ [])) (λ _. (tt, (tt, tt))) ((ptr_val p ∷ [], tt), (refl, (refl, tt)))

abbrev pub boxed : (R : RattleType) → Global → Ptr → R.Denot → Fml
boxed R a = box_owns (ghosts.dealloc_token a) R

-- the pointer to a box may be compared with null
pub tested : {M : Type 1} {𝓤 : Ura M} (𝓛 : Logic 𝓤) (R : RattleType) (a : Global) (p : Ptr) (x : R.Denot) → ent 𝓤 (sem 𝓛 (boxed R a p x)) (guard 𝓤 (Testable p) (sem 𝓛 (boxed R a p x)))
tested {𝓤 = 𝓤} 𝓛 R a p x = fact_use 𝓤 (Testable p) (via 𝓤 _ (snd∗ 𝓤 (sem 𝓛 (lies_at R full_share p x)) (sem 𝓛 (ghosts.dealloc_token a (bare (lone R.mir)) p))) (dealloc_token-Testable 𝓛 a (bare (lone R.mir)) p)) (guard_i 𝓤 (Testable p) (sem 𝓛 (boxed R a p x)))

module _ {M : Type 1} {𝓤 : Ura M} {𝓛 : Logic 𝓤} {K : Type 0} {Γ : List (Item 𝓤)} {G : Goal 𝓤 𝓛.H} where
  pub either_held : K → (R : RattleType) (p : Ptr) (v : Option R.Denot) → (p ≡ null_ptr → v ≡ None → Seq K 𝓛 Γ G) → ((b o : ℕ) (x : R.Denot) (a : Global) → p ≡ block_ptr b o → v ≡ Some x → Seq K 𝓛 (‵ (boxed R a (block_ptr b o) x) ∷ Γ) G) → Seq K 𝓛 (‵ (held R p v) ∷ Γ) G
  either_held t R null_ptr v none one = fpick t (λ e. drop t $ none refl e)
  either_held t R (block_ptr b o) v none one = fpick t (λ s. fsplit t $ fpick t (λ e. drop t $ one b o s.0 s.1 refl e))
