-- No answer has another form than its call's.
use Rattle.std.proofs.Common.{◌≡◌, ℕ, Option, Vec, refl, subst}
use Rattle.std.specs.Global.{Global}
use Rattle.vhost_message.specs.declared.error.Error as declared
use Rattle.vhost_message.specs.declared.records.config.VhostUserConfig.{VhostUserConfig}
use Rattle.vhost_message.specs.declared.records.inflight.VhostUserInflight.{VhostUserInflight}
use Rattle.vhost_frontend_core.specs.Kinds.{Kind, IsOf, Plain, Number, RingIndex, Bases, Base, Bytes, OneHandle, Area, StateHandle}
use Rattle.vhost_frontend_core.specs.declared.answer.Answer.{Answer}
use Rattle.vhost_frontend_core.specs.declared.answer.Answer.TheVariants as answer

module _ {H : Type 0} where
  -- the form by its name
  pub of : {kind other : Kind} (a : Answer H) → kind ≡ other → IsOf kind a → IsOf other a
  of a is form = subst (λ k. IsOf k a) is form

  pub not-plain : (a : Answer H) → IsOf Plain a → (a ≡ answer.Done → ⊥) → ((e : declared.Error) → a ≡ answer.Failed e → ⊥) → ⊥
  not-plain answer.Done form is failed = is refl
  not-plain (answer.Failed e) form is failed = failed e refl
  not-plain _ form is failed = form

  pub not-number : (a : Answer H) → IsOf Number a → ((n : ℕ) → a ≡ answer.Number n → ⊥) → ((e : declared.Error) → a ≡ answer.Failed e → ⊥) → ⊥
  not-number (answer.Number n) form is failed = is n refl
  not-number (answer.Failed e) form is failed = failed e refl
  not-number _ form is failed = form

  pub not-ring-index : (a : Answer H) → IsOf RingIndex a → ((n : ℕ) → a ≡ answer.Number n → ⊥) → ((e : declared.Error) → a ≡ answer.Failed e → ⊥) → ⊥
  not-ring-index (answer.Number n) form is failed = is n refl
  not-ring-index (answer.Failed e) form is failed = failed e refl
  not-ring-index _ form is failed = form

  pub not-bases : (a : Answer H) → IsOf Bases a → ((bases : Option (Vec ℕ Global)) → a ≡ answer.Bases bases → ⊥) → ((e : declared.Error) → a ≡ answer.Failed e → ⊥) → ⊥
  not-bases (answer.Bases bases) form is failed = is bases refl
  not-bases (answer.Failed e) form is failed = failed e refl
  not-bases _ form is failed = form

  pub not-base : (a : Answer H) → IsOf Base a → ((base : Option ℕ) → a ≡ answer.Base base → ⊥) → ((e : declared.Error) → a ≡ answer.Failed e → ⊥) → ⊥
  not-base (answer.Base base) form is failed = is base refl
  not-base (answer.Failed e) form is failed = failed e refl
  not-base _ form is failed = form

  pub not-config : (a : Answer H) → IsOf Bytes a → ((part : VhostUserConfig) (bytes : Vec ℕ Global) → a ≡ answer.Config part bytes → ⊥) → ((e : declared.Error) → a ≡ answer.Failed e → ⊥) → ⊥
  not-config (answer.Config part bytes) form is failed = is part bytes refl
  not-config (answer.Failed e) form is failed = failed e refl
  not-config _ form is failed = form

  pub not-handle : (a : Answer H) → IsOf OneHandle a → ((h : H) → a ≡ answer.Handle h → ⊥) → ((e : declared.Error) → a ≡ answer.Failed e → ⊥) → ⊥
  not-handle (answer.Handle h) form is failed = is h refl
  not-handle (answer.Failed e) form is failed = failed e refl
  not-handle _ form is failed = form

  pub not-inflight : (a : Answer H) → IsOf Area a → ((area : VhostUserInflight) (h : H) → a ≡ answer.Inflight area h → ⊥) → ((e : declared.Error) → a ≡ answer.Failed e → ⊥) → ⊥
  not-inflight (answer.Inflight area h) form is failed = is area h refl
  not-inflight (answer.Failed e) form is failed = failed e refl
  not-inflight _ form is failed = form

  pub not-state-handle : (a : Answer H) → IsOf StateHandle a → ((h : Option H) → a ≡ answer.StateHandle h → ⊥) → ((e : declared.Error) → a ≡ answer.Failed e → ⊥) → ⊥
  not-state-handle (answer.StateHandle h) form is failed = is h refl
  not-state-handle (answer.Failed e) form is failed = failed e refl
  not-state-handle _ form is failed = form
