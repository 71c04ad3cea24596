-- What the answer of a call is taken by has one proof at most, so it is known of what is kept.
use Rattle.std.proofs.Common.{◌≡◌, ℕ, ◌⊎◌, inl, inr, List, ap, subst}
use Rattle.std.specs.Coded.{×_prop, Unit-prop, Coded-set, coded_ℕ, coded_list}
use mathlib.Core.HLevel.{⊥_prop}
use mathlib.Core.Logic.{∥∥₁_elim}
use Rattle.vhost_message.specs.contracts.records.config.VhostUserConfig as part
use Rattle.vhost_message.specs.contracts.records.memory.VhostUserMemoryRegion as region
use Rattle.vhost_message.specs.declared.records.config.VhostUserConfig.{VhostUserConfig}
use Rattle.vhost_message.specs.declared.records.memory.VhostUserMemoryRegion.{VhostUserMemoryRegion}
use Rattle.vhost_protocol.specs.Ask.{regions_in, config}
use Rattle.vhost_protocol.specs.contracts.asked.Awaited as awaited
use Rattle.vhost_protocol.specs.declared.asked.Awaited.{Awaited}
use Rattle.vhost_protocol.specs.declared.asked.Awaited.TheVariants.{Nobody, Ack, Reply}
use Rattle.vhost_protocol.specs.declared.asked.Shape.{Shape}
use Rattle.vhost_protocol.specs.FrontendCall.{FrontendCall, GetFeatures, SetMemTable, GetConfig, AddMemRegion, GetShmemConfig}
use Rattle.vhost_link.specs.declared.plain.PlainHandle.{PlainHandle}
use Rattle.vhost_frontend_core.specs.Awaiting.{MayAwait}
use Rattle.vhost_frontend_core.specs.Kept.{IsKeptFor, KeepsTable, KeepsConfig, KeepsPlace}
use Rattle.vhost_frontend_core.specs.Taking.{IsAck}
use Rattle.vhost_frontend_core.specs.contracts.asked.Kept as keeping
use Rattle.vhost_frontend_core.specs.declared.asked.Kept.{Kept}
use Rattle.vhost_frontend_core.specs.declared.asked.Kept.TheVariants as kept

abbrev Call : Type 0
Call = FrontendCall PlainHandle

pub awaited-set : (a b : Awaited) → IsProp (a ≡ b)
awaited-set = Coded-set awaited.the_row.coded

-- two facts of which one holds at most
apart_prop : {A B : Type 0} → IsProp A → IsProp B → (A → B → ⊥) → IsProp (A ⊎ B)
apart_prop a b apart (inl x) (inl y) = ap inl (a x y)
apart_prop a b apart (inl x) (inr y) = absurd (apart x y)
apart_prop a b apart (inr x) (inl y) = absurd (apart y x)
apart_prop a b apart (inr x) (inr y) = ap inr (b x y)

IsAck-prop : (a : Awaited) → IsProp (IsAck a)
IsAck-prop Nobody = Unit-prop
IsAck-prop Ack = Unit-prop
IsAck-prop (Reply s) = ⊥_prop

ack_or-prop : (a : Awaited) (s : Shape) → IsProp (IsAck a ⊎ (a ≡ Reply s))
ack_or-prop a s = apart_prop (IsAck-prop a) (awaited-set a (Reply s)) (λ ack is. subst IsAck is ack)

ruleset awaiting = (awaited-set, ack_or-prop, IsAck-prop)

MayAwait-prop : (call : Call) (a : Awaited) → IsProp (MayAwait call a)
MayAwait-prop GetFeatures a = awaited-set a _
MayAwait-prop _ a = search awaiting

KeepsTable-prop : (regions : List VhostUserMemoryRegion) (k : Kept) → IsProp (KeepsTable regions k)
KeepsTable-prop regions (kept.Table t) = Coded-set (coded_list region.the_row.coded) _ _
KeepsTable-prop regions _ = ⊥_prop

KeepsConfig-prop : (p : VhostUserConfig) (size : ℕ) (k : Kept) → IsProp (KeepsConfig p size k)
KeepsConfig-prop p size (kept.Config asked bytes) = ×_prop (Coded-set part.the_row.coded _ _) (Coded-set coded_ℕ _ _)
KeepsConfig-prop p size _ = ⊥_prop

KeepsPlace-prop : (k : Kept) → IsProp (KeepsPlace k)
KeepsPlace-prop (kept.Place p) = Unit-prop
KeepsPlace-prop _ = ⊥_prop

IsKeptFor-prop : (call : Call) (a : Awaited) (k : Kept) → IsProp (IsKeptFor call a k)
IsKeptFor-prop (AddMemRegion info) a k = Coded-set keeping.the_row.coded k _
IsKeptFor-prop (SetMemTable infos) (Reply shape) k = KeepsTable-prop (regions_in infos) k
IsKeptFor-prop (GetConfig offset size flags buffer) a k = KeepsConfig-prop (config offset size flags) _ k
IsKeptFor-prop GetShmemConfig a k = KeepsPlace-prop k
IsKeptFor-prop _ a k = Unit-prop

module _ (call : Call) where
  pub may-await : (a : Awaited) → ∥ MayAwait call a ∥₁ → MayAwait call a
  may-await a e = ∥∥₁_elim e (MayAwait-prop call a) (λ x. x)

  pub is-kept : (a : Awaited) (k : Kept) → ∥ IsKeptFor call a k ∥₁ → IsKeptFor call a k
  is-kept a k e = ∥∥₁_elim e (IsKeptFor-prop call a k) (λ x. x)
