-- The second half is that of the definitions.
use Rattle.std.proofs.Common.{◌≡◌, ℕ, true, false, List, [], ◌∷◌, length, Result, Ok, Err, refl, sym, ap, ◌∙◌}
use Rattle.std.specs.Prelude.{Bool, Option, Some, None}
use Rattle.vhost_message.specs.declared.heard_req.HeardReq.{HeardReq}
use Rattle.vhost_message.specs.declared.records.memory.VhostUserMemoryRegion.{VhostUserMemoryRegion}
use Rattle.vhost_protocol.specs.Answered.{with_bases, with_features}
use Rattle.vhost_protocol.specs.Error.{Error}
use Rattle.vhost_protocol.specs.Session.{Session}
use Rattle.vhost_protocol.specs.Split.{Message}
use Rattle.vhost_protocol.specs.Step.{Step, Outcome, failed_with, replied_or_silent, with_ack}
use Rattle.vhost_protocol.specs.Written.{U64}
use Rattle.vhost_backend_req_handler_core.specs.Beginning.{regions_in, step_of, with_one, with_wanted}
use Rattle.vhost_backend_req_handler_core.specs.Concluding.{Beside, FollowsFrom, if_offered, concluded, regions_beside, then_of, wanting, with_counted}
use Rattle.vhost_backend_req_handler_core.specs.declared.answer.DeviceAnswer.{DeviceAnswer}
use Rattle.vhost_backend_req_handler_core.specs.declared.call.DeviceCall.{DeviceCall}
use Rattle.vhost_backend_req_handler_core.specs.declared.call.RegionTable.{RegionTable}
use Rattle.vhost_backend_req_handler_core.specs.declared.call.DeviceCall.TheVariants as call
use Rattle.vhost_backend_req_handler_core.proofs.Tables.{length_regions}

module _ {H B G : Type 0} (s : Session) (b : Beside) (d : DeviceAnswer H) (o : Outcome H) where
  -- whatever the handles are
  one : (hs : List H) (next : H → Step H B G) → ((h : H) → FollowsFrom s b d (next h) o) → FollowsFrom s b d (with_one hs next) o
  one [] next each = tt
  one (h ∷ []) next each = each h
  one (h ∷ h' ∷ hs) next each = tt

  wanted : (wants : Bool) (hs : List H) (next : Option H → Step H B G) → ((h : Option H) → FollowsFrom s b d (next h) o) → FollowsFrom s b d (with_wanted wants hs next) o
  wanted true hs next each = one hs (λ h. next (Some h)) (λ h. each (Some h))
  wanted false hs next each = each None

-- one base for each region of a table
counted : {H : Type 0} (s : Session) (m : Message HeardReq H) (regions : List VhostUserMemoryRegion) (a : Result (Option (List ℕ)) Error)
    → with_counted {H = H} s (wanting m.need_reply) regions (length regions) a ≡ with_bases s m regions a
counted s m regions (Ok (Some bases)) = refl
counted s m regions (Ok None) = refl
counted s m regions (Err e) = refl

-- an offer is remembered, and replied
offered : {H : Type 0} (s : Session) (a : Result ℕ Error) → replied_or_silent {H = H} (if_offered s a) U64 a ≡ with_features s a
offered s (Ok n) = refl
offered s (Err e) = refl

-- the device's answer is reported as the definitions report it
acked : {H A : Type 0} (s : Session) (m : Message HeardReq H) (x y : Result A Error) → x ≡ y → with_ack s (wanting m.need_reply) x ≡ with_ack s m y
acked s m x y same = ap (λ a. with_ack s m a) same

refused : {H A : Type 0} (s : Session) (m : Message HeardReq H) (x : Result A Error) (e : Error) → x ≡ Err e → with_ack s (wanting m.need_reply) x ≡ failed_with s m e
refused s m x e same = ap (λ a. with_ack s m a) same

-- one base for each region of a table, where the table is that of the call
tabled : {H : Type 0} (s : Session) (m : Message HeardReq H) (t : RegionTable) (regions : List VhostUserMemoryRegion) (a : Result (Option (List ℕ)) Error)
    → regions ≡ regions_in t → with_counted {H = H} s (wanting m.need_reply) regions t.count a ≡ with_bases s m (regions_in t) a
tabled s m t regions a e = (λ j. with_counted s (wanting m.need_reply) (e j) (sym (length_regions t.count t.bytes.now) j) a) ∙ counted s m (regions_in t) a

ruleset concluding = (one, wanted, offered, acked, refused, tabled)

module _ {H : Type 0} (B G : Type 0) (s : Session) (m : Message HeardReq H) (b : Beside) (d : DeviceAnswer H) where
  pub concludes : (c : DeviceCall) → b.regions ≡ regions_beside c → FollowsFrom s b d (step_of {B = B} {G = G} s m c) (concluded s m.need_reply b (then_of c) d)
  concludes (call.SetMemTable t true) e = search concluding
  concludes (call.AddMemRegion r true) e = search concluding
  concludes _ e = search concluding
