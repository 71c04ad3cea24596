-- A reply that a call may have is of the size that its frontend waits for.
use Rattle.std.proofs.Common.{◌≡◌, ◌≤◌, ◌+◌, ◌*◌, ℕ, min, inl, inr, Bool, true, false, List, [], ◌∷◌, length, refl, sym, ap, subst, ◌∙◌, length-append, arith, lit<, eq-eqb}
use Rattle.std.specs.Prelude.{◌||◌, ◌==◌}
use Rattle.std.proofs.Math.Bool.{or-true}
use Rattle.vhost_message.specs.LongRecords.{shmem_config-length}
use Rattle.vhost_message.specs.Records.{config_text}
use Rattle.vhost_message.specs.declared.limits.TheConstants.{MAX_MSG_SIZE}
use Rattle.vhost_message.specs.declared.records.config.VhostUserConfig.{VhostUserConfig}
use Rattle.vhost_message.specs.declared.records.memory.VhostUserMemoryRegion.{VhostUserMemoryRegion}
use Rattle.vhost_protocol.specs.declared.asked.Awaited.TheVariants.{Reply}
use Rattle.vhost_protocol.specs.declared.asked.Shape.{Shape}
use Rattle.vhost_protocol.specs.declared.asked.Shape.TheVariants as shape
use Rattle.vhost_protocol.specs.declared.profile.Profile.TheVariants.{Standard}
use Rattle.vhost_protocol.specs.FrontendCall.{FrontendCall, SetMemTable, GetConfig, GetInflightFd}
use Rattle.vhost_protocol.specs.Laws.{IsShort, IsReplyOf, IsTableOf, IsConfigOf, IsInflightOf, PayloadFits}
use Rattle.vhost_protocol.specs.Written.{Payload, Empty, U64, Regions, OneRegion, Shmem, RingState, ConfigBytes, InflightArea, LogArea, payload_text}
use Rattle.vhost_protocol.proofs.RegionLaws.{regions-length}
use Rattle.vhost_link.specs.declared.plain.PlainHandle.{PlainHandle}
use Rattle.vhost_c_frontend.specs.Incoming.{behind, is_sized, least}

-- it is short enough, as long as every answer of its shape, and as long as the call's
pub record HasSize (call : FrontendCall PlainHandle) (s : Shape) (size : ℕ) : Type 0 where
  pub small : size ≤ MAX_MSG_SIZE
  pub more : least (Reply s) ≤ size
  pub sized : is_sized Standard call (Reply s) size ≡ true

short-behind : (call : FrontendCall PlainHandle) → IsShort call → behind call ≡ 0
short-behind (SetMemTable infos) short = absurd short
short-behind (GetConfig offset size flags buffer) short = absurd short
short-behind _ short = refl

inflight-behind : (call : FrontendCall PlainHandle) → IsInflightOf call → behind call ≡ 0
inflight-behind (GetInflightFd area) is = refl
inflight-behind _ is = absurd is

-- a table
table-size : (call : FrontendCall PlainHandle) (rs : List VhostUserMemoryRegion) → IsTableOf call rs → HasSize call shape.Memory (length (payload_text (Regions rs)))
table-size (SetMemTable infos) rs (same, some, few) =
    let long : length (payload_text (Regions rs)) ≡ 8 + 32 * length rs = regions-long in
    let behind-is : 32 * min (length infos) 32 ≡ 32 * length rs = omega (arith, same, few) in
    record {
      small = omega (arith, long, few);
      more = omega (arith, long);
      sized = eq-eqb _ _ (long ∙ ap (λ n. 8 + n) (sym behind-is));
    }
  where
    regions-long : length (payload_text (Regions rs)) ≡ 8 + 32 * length rs
    regions-long = let e = regions-length rs in omega (arith, e)
table-size _ rs good = absurd good

-- bytes of the configuration space
config-size : (call : FrontendCall PlainHandle) (c : VhostUserConfig) (bytes : List ℕ) (handles : List PlainHandle) → IsConfigOf call c bytes handles → HasSize call shape.Config (length (payload_text (ConfigBytes c bytes)))
config-size (GetConfig o n k []) c bytes handles good = absurd good
config-size (GetConfig o n k (b ∷ buffer)) c bytes handles (inl bare) =
    subst (λ (bs : List ℕ). HasSize (GetConfig o n k (b ∷ buffer)) shape.Config (length (payload_text (ConfigBytes c bs)))) (sym bare.1) (record { small = lit< tt; more = omega arith; sized = refl })
config-size (GetConfig o n k (b ∷ buffer)) c bytes handles (inr (same, few, valid)) =
    let long : length (payload_text (ConfigBytes c bytes)) ≡ 12 + length bytes = length-append (config_text c) bytes in
    let there : min (length (b ∷ buffer)) MAX_MSG_SIZE ≡ length bytes = omega (arith, same, few) in
    record {
      small = omega (arith, long, few);
      more = omega arith;
      sized = middle (length (payload_text (ConfigBytes c bytes)) == 12) (length (payload_text (ConfigBytes c bytes)) == 12 + min (length (b ∷ buffer)) MAX_MSG_SIZE) _ (eq-eqb _ _ (long ∙ ap (λ n. 12 + n) (sym there)));
    }
  where
    middle : (x y z : Bool) → y ≡ true → (x || y || z) ≡ true
    middle true y z is = refl
    middle false true z is = refl
    middle false false z is = absurd (cc is)
config-size _ c bytes handles good = absurd good

short-sized : (call : FrontendCall PlainHandle) (n : ℕ) → behind call ≡ 0 → (n == n + behind call) ≡ true
short-sized call n none = eq-eqb n (n + behind call) (omega (arith, none))

pub reply-size : (call : FrontendCall PlainHandle) (s : Shape) (payload : Payload) (handles : List PlainHandle) → IsReplyOf call s payload handles → PayloadFits payload → HasSize call s (length (payload_text payload))
reply-size call shape.Empty Empty handles good fits = record { small = omega arith; more = omega arith; sized = short-sized call 0 (short-behind call good) }
reply-size call shape.U64 (U64 n) handles good fits = record { small = lit< tt; more = omega arith; sized = short-sized call 8 (short-behind call good) }
reply-size call shape.SingleMemoryRegion (OneRegion r) handles good fits = record { small = lit< tt; more = omega arith; sized = short-sized call 40 (short-behind call good) }
reply-size call shape.ShMemConfig (Shmem c) handles good fits =
    let long : length (payload_text (Shmem c)) ≡ 2056 = shmem_config-length c fits in
    record { small = omega (arith, long); more = omega (arith, long); sized = ap (λ n. n == 2056 + behind call) long ∙ short-sized call 2056 (short-behind call good) }
reply-size call shape.VringState (RingState v) handles good fits = record { small = lit< tt; more = omega arith; sized = short-sized call 8 (short-behind call good) }
reply-size call shape.Inflight (InflightArea i) handles good fits = record { small = lit< tt; more = omega arith; sized = short-sized call 24 (inflight-behind call good) }
reply-size call shape.Log (LogArea l) handles good fits = record { small = lit< tt; more = omega arith; sized = or-true _ }
reply-size call shape.Memory (Regions rs) handles good fits = table-size call rs good
reply-size call shape.Config (ConfigBytes c bytes) handles good fits = config-size call c bytes handles good
reply-size call _ _ handles good fits = absurd good
