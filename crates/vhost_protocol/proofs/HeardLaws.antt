-- What the handler replies is a reply that the call may have.
use Rattle.std.proofs.Common.{◌≡◌, ℕ, suc, drop, eqb-true, ◌+◌, ◌^◌, ◌<◌, ◌≤◌, Bool, true, false, cond, not, ◌&&◌, List, [], ◌∷◌, ◌++◌, length, Option, Some, None, Result, Ok, Err, refl, sym, ◌∙◌, ap, subst, arith, inl, inr, IfOk, IfSome, lit<}
use Rattle.std.specs.Prelude.{◌==◌, nat_le, bit_or, flat_map, All, ⊤}
use Rattle.std.proofs.lemmas.Nat.{or_lt}
use Rattle.std.proofs.lemmas.Bool.{leb-true, eq-eqb}
use Rattle.std.specs.List.{list_all}
use Rattle.std.proofs.lemmas.List.{length-map, append-nil}
use Rattle.std.proofs.lemmas.List.Elements.{All-head, All-tail, All-cons, All-nil}
use Rattle.vhost_message.specs.declared.limits.TheConstants.{MAX_MEM_REGIONS, MAX_MSG_SIZE, VHOST_USER_CONFIG_SIZE}
use Rattle.vhost_message.specs.declared.heard_req.HeardReq.{HeardReq}
use Rattle.vhost_message.specs.declared.records.config.VhostUserConfig.{VhostUserConfig}
use Rattle.vhost_message.specs.declared.records.inflight.VhostUserInflight.{VhostUserInflight}
use Rattle.vhost_message.specs.declared.records.log.VhostUserLog.{VhostUserLog}
use Rattle.vhost_message.specs.declared.records.shared.VhostUserSharedMsg.{VhostUserSharedMsg}
use Rattle.vhost_message.specs.declared.records.transfer.VhostUserTransferDeviceState.{VhostUserTransferDeviceState}
use Rattle.vhost_message.specs.declared.records.shmem.VhostUserShMemConfig.{VhostUserShMemConfig}
use Rattle.vhost_message.specs.declared.records.vring.VhostUserVringState.{VhostUserVringState}
use Rattle.vhost_message.specs.LongRecords.{ShMemConfigFits}
use Rattle.vhost_message.specs.RecordLaws.{log-reads_back, single_region-reads_back, SingleRegionFits, RegionFits, VringStateFits, InflightFits, ConfigFits, LogFits}
use Rattle.vhost_protocol.specs.Error.{test}
use Rattle.vhost_protocol.specs.Ask.{Asked, asks, needs_reply, sends, asks_unacknowledged, ask, param, message, unacknowledged, log_area, regions_in, handles_in, is_usable, config, given, ◌>>◌, ◌>>=◌}
use Rattle.vhost_protocol.specs.declared.asked.Awaited.{Awaited}
use Rattle.vhost_protocol.specs.declared.asked.Awaited.TheVariants.{Nobody, Ack, Reply}
use Rattle.vhost_protocol.specs.declared.asked.Shape.TheVariants as shape
use Rattle.vhost_message.specs.Codes.{heard_by}
use Rattle.vhost_message.specs.HeardReq.{request_of, any_request, request_number, is_named, request_of-request_number, any-is_named}
use Rattle.vhost_message.specs.Header.{Header}
use Rattle.vhost_protocol.specs.AnswerTable.{Answered}
use Rattle.vhost_protocol.specs.DeviceCall as device
use Rattle.vhost_protocol.specs.Error.{Error, InvalidMessage, BackendInternalError}
use Rattle.vhost_protocol.specs.FrontendCall.{FrontendCall, GetFeatures, GetProtocolFeatures, GetQueueNum, SetMemTable, SetLogBase, SetVringCall, SetVringKick, SetVringErr, GetVringBase, GetConfig, GetSharedObject, GetInflightFd, GetMaxMemSlots, AddMemRegion, GetShmemConfig, SetDeviceStateFd, CheckDeviceState, PostcopyAdvise, PostcopyAckMemRegions, SetHdrFlags, Info, LogRegion, Frontend}
use Rattle.vhost_protocol.specs.Heard.{IsAwaitedBy, AsksPlainly, AwaitsItsShape, HearsTheAnswer, shape_of, CallFits, IsGoodReply, AllGood, AskedWell, RepliesWell}
use Rattle.vhost_protocol.specs.Laws.{PayloadFits, IsReplyOf}
use Rattle.vhost_message.specs.Bits.{has_bit}
use Rattle.vhost_message.specs.declared.heard_req.HeardReq.TheVariants.{SET_LOG_BASE, SET_MEM_TABLE, ADD_MEM_REG, GET_CONFIG}
use Rattle.vhost_message.specs.declared.records.memory.VhostUserMemoryRegion.{VhostUserMemoryRegion}
use Rattle.vhost_message.specs.declared.records.memory.VhostUserSingleMemoryRegion.{VhostUserSingleMemoryRegion}
use Rattle.vhost_message.specs.Records.{log_of, log_text, single_region, single_region_of, single_region_text, memory_of, regions_of, region_text, config_of}
use Rattle.vhost_message.specs.Valid.{is_valid_log, is_valid_config}
use Rattle.vhost_protocol.specs.Joined.{read_as}
use Rattle.vhost_protocol.specs.Answered.{rebased, with_base, with_bases, with_config, with_features, with_handle, with_inflight, with_state, with_check}
use Rattle.vhost_protocol.specs.Row.{row, is_bare, is_valid_area, mapped_row, table, is_valid_table, channel}
use Rattle.vhost_protocol.specs.Served.{Silent, Acknowledged, Replied}
use Rattle.vhost_protocol.specs.Profile.{is_standard}
use Rattle.vhost_protocol.specs.Session.{Session, ack_on, is_listen, heard_in}
use Rattle.vhost_protocol.specs.Split.{Message}
use Rattle.vhost_protocol.specs.Stream.{Cell}
use Rattle.vhost_protocol.specs.Take.{take}
use Rattle.vhost_protocol.specs.Step as step
use Rattle.vhost_protocol.specs.Step.{Step, Refusal, Calls, with_ack, acknowledged}
use Rattle.vhost_protocol.specs.Written.{header_flags, head_of, Payload, LogArea, ConfigBytes, Regions, payload_text, U64, RingState, Shmem}
use Rattle.vhost_protocol.proofs.TakeLaws.{take-acknowledged}
use Rattle.vhost_protocol.proofs.TakeShapes.{take-reply, take-nothing}
use Rattle.vhost_protocol.proofs.RegionLaws.{head-read, regions-read}

-- a request that has a name is heard in every session
pub heard-named : (s : Session) (r : HeardReq) → is_named r ≡ true → heard_in s (request_number r) ≡ Some r
heard-named s r named = go (is_standard s.profile)
  where
    go : (b : Bool) → heard_by request_of any_request b (request_number r) ≡ Some r
    go true = any-is_named (request_number r) r (request_of-request_number r named)
    go false = request_of-request_number r named

module _ (H B G : Type 0) where
  abbrev Asks : Session → FrontendCall H → Asked H → Type 0
  Asks s call asked = AskedWell B G s call asked

  abbrev Good : FrontendCall H → Step H B G → Type 0
  Good call next = AllGood call next

  -- an acknowledgement, or silence
  good-ack : (call : FrontendCall H) (b agreed : Bool) → IsGoodReply {H = H} call (cond b (Acknowledged agreed) Silent)
  good-ack call true agreed = tt
  good-ack call false agreed = tt

  good-test : (call : FrontendCall H) (b : Bool) (e : Error) (next : Step H B G) → Good call next → Good call (step.◌>>◌ (test b (step.silently e)) next)
  good-test call true e next h = h
  good-test call false e next h = tt

  good-refused : (call : FrontendCall H) (s : Session) (m : Message HeardReq H) (b : Bool) (e : Error) (next : Step H B G) → Good call next → Good call (step.◌>>◌ (test b (acknowledged s m e)) next)
  good-refused call s m true e next h = h
  good-refused call s m false e next h = good-ack call (ack_on s && m.need_reply) false

  good-if : (call : FrontendCall H) (A : Type 0) (b : Bool) (a : A) (e : Error) (next : A → Step H B G) → Good call (next a) → Good call (step.◌>>=◌ (cond b (Ok a) (Err (step.silently e))) next)
  good-if call A true a e next h = h
  good-if call A false a e next h = tt

  good-cond : (call : FrontendCall H) (b : Bool) (x y : Step H B G) → Good call x → Good call y → Good call (cond b x y)
  good-cond call true x y h k = h
  good-cond call false x y h k = k

  good-channel : (C : Type 0) (call : FrontendCall H) (s : Session) (m : Message HeardReq H) (opened : Result C Error) (next : C → Step H B G) → ((c : C) → Good call (next c)) → Good call (step.◌>>=◌ (channel s m opened) next)
  good-channel C call s m (Ok c) next h = h c
  good-channel C call s m (Err e) next h = good-ack call (ack_on s && m.need_reply) false

  -- ---- the frontend's tests

  ask-then : (s : Session) (call : FrontendCall H) (x : Result (Unit {0}) Error) (next : Asked H) → Asks s call next → Asks s call (x >> next)
  ask-then s call (Ok u) next h = h
  ask-then s call (Err e) next h = tt

  ask-given : (A : Type 0) (s : Session) (call : FrontendCall H) (x : Option A) (next : A → Asked H) → ((a : A) → Asks s call (next a)) → Asks s call (given x >>= next)
  ask-given A s call (Some a) next h = h a
  ask-given A s call None next h = tt

  ask-cond : (s : Session) (call : FrontendCall H) (b : Bool) (x y : Asked H) → Asks s call x → Asks s call y → Asks s call (cond b x y)
  ask-cond s call true x y h k = h
  ask-cond s call false x y h k = k

  -- ---- replies of one record

  good-features : (s : Session) (a : Result ℕ Error) → IfOk a (λ n. n < 2 ^ 64) → IsGoodReply {H = H} GetFeatures (with_features s a).served
  good-features s (Ok n) fits = (tt, fits)
  good-features s (Err e) fits = tt

  good-reply : (A : Type 0) (call : FrontendCall H) (s : Session) (payload : A → Payload) (a : Result A Error) → IfOk a (λ x. IsReplyOf call (shape_of call) (payload x) [] × PayloadFits (payload x)) → IsGoodReply call (step.replied_or_silent s payload a).served
  good-reply A call s payload (Ok x) h = h
  good-reply A call s payload (Err e) h = tt

  good-object : (s : Session) (name : VhostUserSharedMsg) (a : Result H Error) → IsGoodReply (GetSharedObject name) (with_handle s a).served
  good-object s name (Ok h) = (tt, tt)
  good-object s name (Err e) = (tt, tt)

  good-advise : (s : Session) (a : Result H Error) → IsGoodReply PostcopyAdvise (with_handle s a).served
  good-advise s (Ok h) = (tt, tt)
  good-advise s (Err e) = (tt, tt)

  good-state : (s : Session) (t : VhostUserTransferDeviceState) (h : H) (a : Result (Option H) Error) → IsGoodReply (SetDeviceStateFd t h) (with_state s a).served
  good-state s t h (Ok (Some g)) = (tt, lit< tt)
  good-state s t h (Ok None) = (tt, lit< tt)
  good-state s t h (Err e) = (tt, lit< tt)

  good-check : (s : Session) (a : Result (Unit {0}) Error) → IsGoodReply {H = H} CheckDeviceState (with_check s a).served
  good-check s (Ok u) = (tt, lit< tt)
  good-check s (Err e) = (tt, lit< tt)

  good-queues : (s : Session) (a : Result ℕ Error) → IfOk a (λ n. n < 2 ^ 64) → IsGoodReply {H = H} GetQueueNum (step.replied_or_silent s U64 a).served
  good-queues s (Ok n) fits = (tt, fits)
  good-queues s (Err e) fits = tt

  good-slots : (s : Session) (a : Result ℕ Error) → IfOk a (λ n. n < 2 ^ 64) → IsGoodReply {H = H} GetMaxMemSlots (step.replied_or_silent s U64 a).served
  good-slots s (Ok n) fits = (tt, fits)
  good-slots s (Err e) fits = tt

  good-protocol : (s : Session) (a : Result ℕ Error) → IfOk a (λ n. n < 2 ^ 64) → IsGoodReply {H = H} GetProtocolFeatures (step.replied_or_silent s (λ n. U64 (bit_or n 8)) a).served
  good-protocol s (Ok n) fits = (tt, or_lt 64 n 8 fits (lit< tt))
  good-protocol s (Err e) fits = tt

  good-base : (s : Session) (i : ℕ) (a : Result VhostUserVringState Error) → IfOk a VringStateFits → IsGoodReply {H = H} (GetVringBase i) (step.replied_or_silent s RingState a).served
  good-base s i (Ok v) fits = (tt, fits)
  good-base s i (Err e) fits = tt

  good-shmem : (s : Session) (a : Result VhostUserShMemConfig Error) → IfOk a ShMemConfigFits → IsGoodReply {H = H} GetShmemConfig (step.replied_or_silent s Shmem a).served
  good-shmem s (Ok c) fits = (tt, fits)
  good-shmem s (Err e) fits = tt

  good-inflight : (s : Session) (asked : VhostUserInflight) (a : Result (VhostUserInflight × H) Error) → IfOk a (λ x. InflightFits x.0) → IsGoodReply (GetInflightFd asked) (with_inflight s a).served
  good-inflight s asked (Ok x) fits = (tt, fits)
  good-inflight s asked (Err e) fits = tt

  ruleset tests = (ask-then, ask-given, ask-cond, good-test, good-refused, good-if, good-cond, good-channel, good-ack)

  ruleset good = (tests, good-features, good-object, good-advise, good-state, good-check, good-queues, good-slots, good-protocol, good-base, good-shmem, good-inflight)

  -- the calls whose reply holds nothing of the request
  abbrev IsPlain : FrontendCall H → Type 0
  IsPlain (SetMemTable infos) = ⊥
  IsPlain (SetLogBase base region) = ⊥
  IsPlain (GetConfig o n k buffer) = ⊥
  IsPlain (AddMemRegion info) = ⊥
  IsPlain (PostcopyAckMemRegions r) = ⊥
  IsPlain _ = ⊤

  well-plain : (f : Frontend) (s : Session) (call : FrontendCall H) → IsPlain call → Asks s call (ask f call)
  well-plain f s (SetMemTable infos) plain = absurd plain
  well-plain f s (SetLogBase base region) plain = absurd plain
  well-plain f s (GetConfig o n k buffer) plain = absurd plain
  well-plain f s (AddMemRegion info) plain = absurd plain
  well-plain f s (PostcopyAckMemRegions r) plain = absurd plain
  well-plain f s (SetVringCall i None) plain = search good depth 12
  well-plain f s (SetVringCall i (Some h)) plain = search good depth 12
  well-plain f s (SetVringKick i None) plain = search good depth 12
  well-plain f s (SetVringKick i (Some h)) plain = search good depth 12
  well-plain f s (SetVringErr i None) plain = search good depth 12
  well-plain f s (SetVringErr i (Some h)) plain = search good depth 12
  well-plain f s (SetHdrFlags flags) plain = tt
  well-plain f s _ plain = search good depth 12

  -- ---- the calls whose reply holds something of the request

  both : (a b : Bool) → (a && b) ≡ true → (a ≡ true) × (b ≡ true)
  both true b h = (refl, h)
  both false b h = absurd (cc h)

  -- a test whose outcome is known from then on
  good-known : (call : FrontendCall H) (b : Bool) (e : Error) (next : Step H B G) → (b ≡ true → Good call next) → Good call (step.◌>>◌ (test b (step.silently e)) next)
  good-known call true e next h = h refl
  good-known call false e next h = tt

  good-if_known : (call : FrontendCall H) (A : Type 0) (b : Bool) (a : A) (e : Error) (next : A → Step H B G) → (b ≡ true → Good call (next a)) → Good call (step.◌>>=◌ (cond b (Ok a) (Err (step.silently e))) next)
  good-if_known call A true a e next h = h refl
  good-if_known call A false a e next h = tt

  ask-known : (s : Session) (call : FrontendCall H) (b : Bool) (next : Asked H) → (b ≡ true → Asks s call next) → Asks s call (param b >> next)
  ask-known s call true next h = h refl
  ask-known s call false next h = tt

  -- the log's area comes back as it was sent
  good-log : (s : Session) (base : ℕ) (region : Option (LogRegion H)) (l : VhostUserLog) → is_valid_log l ≡ true → LogFits l → (a : Result (Unit {0}) Error) → IsGoodReply (SetLogBase base region) (step.replied_or_silent {H = H} s (λ u. LogArea l) a).served
  good-log s base region l valid fits (Ok u) = ((tt, valid), fits)
  good-log s base region l valid fits (Err e) = tt

  well-log : (f : Frontend) (s : Session) (base : ℕ) (region : Option (LogRegion H)) → CallFits (SetLogBase base region) → Asks s (SetLogBase base region) (ask f (SetLogBase base region))
  well-log f s base None fits = search tests depth 12
  well-log f s base (Some r) fits = search (tests, row-good) depth 12
    where
      call : FrontendCall H
      call = SetLogBase base (Some r)

      sent : H → Message HeardReq H
      sent h = read_as (message f SET_LOG_BASE (LogArea (log_area r)) (h ∷ []))

      l : VhostUserLog
      l = log_of (log_text (log_area r))

      next : H → VhostUserLog → Step H B G
      next h x = Calls (device.SetLogBase x h) (step.replied_or_silent s (λ u. LogArea x))

      called : (h : H) → (is_bare 16 (sent h) && is_valid_log l) ≡ true → Good call (next h l)
      called h holds a answer_fits = good-log s base (Some r) l (both (is_bare 16 (sent h)) (is_valid_log l) holds).1 (subst (λ x. LogFits x) (sym (log-reads_back (log_area r) fits)) fits) a

      row-good : (h : H) → Good call (step.◌>>=◌ (cond (is_bare 16 (sent h) && is_valid_log l) (Ok l) (Err (step.silently InvalidMessage))) (next h))
      row-good h = good-if_known call VhostUserLog (is_bare 16 (sent h) && is_valid_log l) l InvalidMessage (next h) (called h)

  -- the region comes back with the device's base
  good-region : (s : Session) (m : Message HeardReq H) (info : Info H) (r : VhostUserSingleMemoryRegion) → SingleRegionFits r → (a : Result (Option ℕ) Error) → IfOk a (λ o. IfSome o (λ base. base < 2 ^ 64)) → IsGoodReply (AddMemRegion info) (with_base s m r a).served
  good-region s m info r fits (Ok (Some base)) small = (tt, (lit< tt, (fits.1.0, fits.1.1, small, fits.1.3)))
  good-region s m info r fits (Ok None) small = good-ack (AddMemRegion info) (ack_on s && m.need_reply) false
  good-region s m info r fits (Err e) small = good-ack (AddMemRegion info) (ack_on s && m.need_reply) false

  well-add_region : (f : Frontend) (s : Session) (info : Info H) → RegionFits info.region → Asks s (AddMemRegion info) (ask f (AddMemRegion info))
  well-add_region f s info fits = search (tests, region-good) depth 12
    where
      r : VhostUserSingleMemoryRegion
      r = single_region_of (single_region_text (single_region info.region))

      read : SingleRegionFits r
      read = subst (λ x. SingleRegionFits x) (sym (single_region-reads_back (single_region info.region) (lit< tt, fits))) (lit< tt, fits)

      region-good : (m : Message HeardReq H) (a : Result (Option ℕ) Error) → IfOk a (λ o. IfSome o (λ base. base < 2 ^ 64)) → IsGoodReply (AddMemRegion info) (with_base s m r a).served
      region-good m a small = good-region s m info r read a small

  length-rebased : (rs : List VhostUserMemoryRegion) (bases : List ℕ) → length bases ≡ length rs → length (rebased rs bases) ≡ length rs
  length-rebased [] bases same = refl
  length-rebased (r ∷ rs) [] same = absurd (omega (arith, same))
  length-rebased (r ∷ rs) (b ∷ bases) same = ap (λ n. suc n) (length-rebased rs bases (omega (arith, same)))

  rebased-fits : (rs : List VhostUserMemoryRegion) (bases : List ℕ) → All RegionFits rs → All (λ base. base < 2 ^ 64) bases → All RegionFits (rebased rs bases)
  rebased-fits [] bases fits small = fits
  rebased-fits (r ∷ rs) [] fits small = All-nil RegionFits
  rebased-fits (r ∷ rs) (b ∷ bases) fits small =
      let first = All-head RegionFits r rs fits in
      All-cons RegionFits (record r { user_addr = b }) (rebased rs bases)
      (first.0, first.1, All-head (λ base. base < 2 ^ 64) b bases small, first.3)
      (rebased-fits rs bases (All-tail RegionFits r rs fits) (All-tail (λ base. base < 2 ^ 64) b bases small))

  -- the regions come back with the device's bases
  good-table : (s : Session) (infos : List (Info H)) (m : Message HeardReq H) → table m ≡ regions_in infos → 1 ≤ length infos → length infos ≤ MAX_MEM_REGIONS → All RegionFits (regions_in infos)
      → (a : Result (Option (List ℕ)) Error) → IfOk a (λ o. IfSome o (λ bases. All (λ base. base < 2 ^ 64) bases)) → IsGoodReply (SetMemTable infos) (with_bases s m (table m) a).served
  good-table s infos m same least most fits (Ok (Some bases)) small = go (length bases == length (table m)) refl
    where
      sizes : length (regions_in infos) ≡ length infos
      sizes = length-map infos (λ info. info.region)

      go : (b : Bool) → (length bases == length (table m)) ≡ b → IsGoodReply {H = H} (SetMemTable infos) (cond b (step.replied {H = H} s (Regions (rebased (table m) bases)) []) (step.failed_with s m BackendInternalError)).served
      go true even =
          let count : length (rebased (table m) bases) ≡ length infos = length-rebased (table m) bases (eqb-true (length bases) (length (table m)) even) ∙ ap (λ x. length x) same ∙ sizes in
          ((count, omega (arith, count), omega (arith, count)), rebased-fits (table m) bases (subst (λ x. All RegionFits x) (sym same) fits) small)
      go false odd = good-ack (SetMemTable infos) (ack_on s && m.need_reply) false
  good-table s infos m same least most fits (Ok None) small = good-ack (SetMemTable infos) (ack_on s && m.need_reply) false
  good-table s infos m same least most fits (Err e) small = good-ack (SetMemTable infos) (ack_on s && m.need_reply) false

  -- the table is read as it was sent
  table-read : (m : Message HeardReq H) (rs : List VhostUserMemoryRegion) → m.body ≡ payload_text (Regions rs) → length rs ≤ MAX_MEM_REGIONS → All RegionFits rs → table m ≡ rs
  table-read m rs text most fits =
      ap (λ bs. regions_of (memory_of bs).num_regions (drop 8 bs)) text
      ∙ ap (λ n. regions_of n (flat_map region_text rs)) (ap (λ x. x.num_regions) (head-read (length rs) most))
      ∙ regions-read rs fits

  well-table : (f : Frontend) (s : Session) (infos : List (Info H)) → All RegionFits (regions_in infos) → Asks s (SetMemTable infos) (ask f (SetMemTable infos))
  well-table f s infos fits = ask-known s (SetMemTable infos) (nat_le 1 n && nat_le n MAX_MEM_REGIONS && list_all is_usable infos) _ sent
    where
      n : ℕ
      n = length infos

      payload : Payload
      payload = Regions (regions_in infos)

      row-good : (r : Bool) (need_reply : Bool) → 1 ≤ n → n ≤ MAX_MEM_REGIONS → Good (SetMemTable infos) (row s (record { request = SET_MEM_TABLE; reply = r; need_reply = need_reply; body = payload_text payload; handles = handles_in infos }))
      row-good r need_reply least most = search (tests, bases-good) depth 12
        where
          m : Message HeardReq H
          m = record { request = SET_MEM_TABLE; reply = r; need_reply = need_reply; body = payload_text payload; handles = handles_in infos }

          few : length (regions_in infos) ≤ MAX_MEM_REGIONS
          few = omega (arith, length-map infos (λ info. info.region), most)

          bases-good : (a : Result (Option (List ℕ)) Error) → IfOk a (λ o. IfSome o (λ bases. All (λ base. base < 2 ^ 64) bases)) → IsGoodReply (SetMemTable infos) (with_bases s m (table m) a).served
          bases-good a small = good-table s infos m (table-read m (regions_in infos) refl few fits) least most fits a small

      sent : (nat_le 1 n && nat_le n MAX_MEM_REGIONS && list_all is_usable infos) ≡ true → Asks s (SetMemTable infos) (cond (is_listen f.postcopy) (asks_unacknowledged f SET_MEM_TABLE payload (handles_in infos) shape.Memory) (sends f SET_MEM_TABLE payload (handles_in infos)))
      sent usable =
          let counted = (both (nat_le 1 n && nat_le n MAX_MEM_REGIONS) (list_all is_usable infos) usable).0 in
          let least : 1 ≤ n = leb-true 1 n (both (nat_le 1 n) (nat_le n MAX_MEM_REGIONS) counted).0 in
          let most : n ≤ MAX_MEM_REGIONS = leb-true n MAX_MEM_REGIONS (both (nat_le 1 n) (nat_le n MAX_MEM_REGIONS) counted).1 in
          ask-cond s (SetMemTable infos) (is_listen f.postcopy) _ _ (row-good (has_bit f.header_flags 2) false least most) (row-good (has_bit f.header_flags 2) (needs_reply f) least most)

  -- the frontend says that it has mapped the regions: nothing is replied
  well-mapped : (f : Frontend) (s : Session) (r : HeardReq) → Asks s (PostcopyAckMemRegions r) (ask f (PostcopyAckMemRegions r))
  well-mapped f s SET_MEM_TABLE = go (is_listen s.postcopy)
    where
      m : Message HeardReq H
      m = read_as (unacknowledged f SET_MEM_TABLE (U64 0) [])

      listening : Bool → Step H B G
      listening b = cond (b && true) (mapped_row s m) (step.◌>>◌ (test (is_valid_table s m) (acknowledged s m InvalidMessage)) (cond b (Calls (device.SetMemTable (table m) m.handles (Some true)) (with_bases s m (table m))) (Calls (device.SetMemTable (table m) m.handles (Some false)) (with_ack s m))))

      go : (b : Bool) → Good (PostcopyAckMemRegions SET_MEM_TABLE) (listening b)
      go true = search tests depth 12
      go false = search tests depth 12
  well-mapped f s ADD_MEM_REG = search tests depth 12
  well-mapped f s _ = tt

  -- ---- configuration bytes

  pub config-fits : (c : VhostUserConfig) → is_valid_config c ≡ true → ConfigFits c
  config-fits c valid =
      let parts = both (nat_le c.flags 3 && not (c.size == 0)) (nat_le (c.offset + c.size) VHOST_USER_CONFIG_SIZE) valid in
      let flags = leb-true c.flags 3 (both (nat_le c.flags 3) (not (c.size == 0)) parts.0).0 in
      let sum = leb-true (c.offset + c.size) VHOST_USER_CONFIG_SIZE parts.1 in
      (omega (arith, sum), omega (arith, sum), omega (arith, flags))

  good-config : (s : Session) (o n k b : ℕ) (buffer : List ℕ) (c : VhostUserConfig) → length (b ∷ buffer) ≡ c.size → 12 + c.size ≤ MAX_MSG_SIZE → is_valid_config c ≡ true → (a : Result (List ℕ) Error)
      → IsGoodReply {H = H} (GetConfig o n k (b ∷ buffer)) (with_config s c a).served
  good-config s o n k b buffer c same small valid (Ok bytes) = go (length bytes == c.size) refl
    where
      go : (even : Bool) → (length bytes == c.size) ≡ even → IsGoodReply {H = H} (GetConfig o n k (b ∷ buffer)) (cond even (step.replied {H = H} s (ConfigBytes c bytes) []) (step.replied s (ConfigBytes (record c { size = 0 }) []) [])).served
      go true even =
          let count = eqb-true (length bytes) c.size even in
          (inr (count ∙ sym same, omega (arith, count, small), valid), config-fits c valid)
      go false odd = let fits = config-fits c valid in (inl (refl, refl, refl), (fits.0, lit< tt, fits.2))
  good-config s o n k b buffer c same small valid (Err e) = let fits = config-fits c valid in (inl (refl, refl, refl), (fits.0, lit< tt, fits.2))

  -- what the test of the record and the bytes behind it says
  area-parts : (m : Message HeardReq H) → (not m.reply && is_valid_area m) ≡ true → (is_valid_config (config_of m.body) ≡ true) × (length m.body ≡ 12 + (config_of m.body).size)
  area-parts m holds =
      let area = (both (not m.reply) (is_valid_area m) holds).1 in
      let parts = both (nat_le 12 (length m.body) && is_valid_config (config_of m.body)) (length m.body == 12 + (config_of m.body).size) area in
      ((both (nat_le 12 (length m.body)) (is_valid_config (config_of m.body)) parts.0).1, eqb-true (length m.body) (12 + (config_of m.body).size) parts.1)

  -- no valid record says size 0
  config-some : (c : VhostUserConfig) → is_valid_config c ≡ true → c.size ≡ 0 → ⊥
  config-some c valid none =
      let parts = both (nat_le c.flags 3 && not (c.size == 0)) (nat_le (c.offset + c.size) VHOST_USER_CONFIG_SIZE) valid in
      let some = (both (nat_le c.flags 3) (not (c.size == 0)) parts.0).1 in
      cc (some, ap (λ b. not b) (eq-eqb c.size 0 none))

  good-area : (s : Session) (o n k : ℕ) (buffer : List ℕ) (c : VhostUserConfig) → 12 + length buffer ≡ 12 + c.size → 12 + length buffer ≤ MAX_MSG_SIZE → is_valid_config c ≡ true → (a : Result (List ℕ) Error) → IsGoodReply {H = H} (GetConfig o n k buffer) (with_config s c a).served
  good-area s o n k [] c same small valid a = absurd (config-some c valid (omega (arith, same)))
  good-area s o n k (b ∷ buffer) c same small valid a = good-config s o n k b buffer c (omega (arith, same)) (omega (arith, same, small)) valid a

  well-config : (f : Frontend) (s : Session) (o n k : ℕ) (buffer : List ℕ) → Asks s (GetConfig o n k buffer) (ask f (GetConfig o n k buffer))
  well-config f s o n k buffer = search (tests, last) depth 12
    where
      call : FrontendCall H
      call = GetConfig o n k buffer

      m : Message HeardReq H
      m = read_as (message f GET_CONFIG (ConfigBytes (config o n k) buffer) [])

      c : VhostUserConfig
      c = config_of m.body

      called : 12 + length buffer ≤ MAX_MSG_SIZE → (not m.reply && is_valid_area m) ≡ true → Good call (Calls (device.GetConfig c.offset c.size c.flags) (with_config s c))
      called small holds a fits = let parts = area-parts m holds in good-area s o n k buffer c (omega (arith, parts.1)) small parts.0 a

      served : 12 + length buffer ≤ MAX_MSG_SIZE → Good call (row s m)
      served small = good-test call _ _ _ (good-known call (not m.reply && is_valid_area m) InvalidMessage (Calls (device.GetConfig c.offset c.size c.flags) (with_config s c)) (called small))

      last : Asks s call (param (nat_le (12 + length buffer) MAX_MSG_SIZE) >> asks f GET_CONFIG (ConfigBytes (config o n k) buffer) [] shape.Config)
      last = ask-known s call (nat_le (12 + length buffer) MAX_MSG_SIZE) (asks f GET_CONFIG (ConfigBytes (config o n k) buffer) [] shape.Config) (λ few. served (leb-true (12 + length buffer) MAX_MSG_SIZE few))

  -- ---- all calls

  pub replies-well : RepliesWell H B G
  replies-well f s (SetMemTable infos) fits = well-table f s infos fits
  replies-well f s (SetLogBase base region) fits = well-log f s base region fits
  replies-well f s (GetConfig o n k buffer) fits = well-config f s o n k buffer
  replies-well f s (AddMemRegion info) fits = well-add_region f s info fits
  replies-well f s (PostcopyAckMemRegions r) fits = well-mapped f s r
  replies-well f s call fits = well-plain f s call tt

-- ---- what is sent and awaited

module _ (H : Type 0) where
  plain-then : (f : Frontend) (call : FrontendCall H) (x : Result (Unit {0}) Error) (next : Asked H) → AsksPlainly f call next → AsksPlainly f call (x >> next)
  plain-then f call (Ok u) next h = h
  plain-then f call (Err e) next h = tt

  plain-given : (f : Frontend) (A : Type 0) (call : FrontendCall H) (x : Option A) (next : A → Asked H) → ((a : A) → AsksPlainly f call (next a)) → AsksPlainly f call (given x >>= next)
  plain-given f A call (Some a) next h = h a
  plain-given f A call None next h = tt

  plain-cond : (f : Frontend) (call : FrontendCall H) (b : Bool) (x y : Asked H) → AsksPlainly f call x → AsksPlainly f call y → AsksPlainly f call (cond b x y)
  plain-cond f call true x y h k = h
  plain-cond f call false x y h k = k

  -- an acknowledgement or nothing is awaited
  plain-ack : (call : FrontendCall H) (b : Bool) → IsAwaitedBy call (cond b Ack Nobody)
  plain-ack call true = tt
  plain-ack call false = tt

  -- the same, or nothing by the other profile
  plain-base : (call : FrontendCall H) (standard b : Bool) → IsAwaitedBy call (cond standard (cond b Ack Nobody) Nobody)
  plain-base call true b = plain-ack call b
  plain-base call false b = tt

  -- an acknowledgement by either profile
  plain-turn : (call : FrontendCall H) (standard a b : Bool) → IsAwaitedBy call (cond standard (cond a Ack Nobody) (cond b Ack Nobody))
  plain-turn call true a b = plain-ack call a
  plain-turn call false a b = plain-ack call b

  -- a reply, or by the other profile an acknowledgement
  plain-end : (call : FrontendCall H) (standard b : Bool) → shape_of call ≡ shape.U64 → IsAwaitedBy call (cond standard (Reply shape.U64) (cond b Ack Nobody))
  plain-end call true b same = sym same
  plain-end call false b same = plain-ack call b

  ruleset plainly = (plain-then, plain-given, plain-cond, plain-ack, plain-base, plain-turn, plain-end)

  pub awaits-shape : AwaitsItsShape H
  awaits-shape f (SetLogBase base None) = search plainly depth 12
  awaits-shape f (SetLogBase base (Some r)) = search plainly depth 12
  awaits-shape f (SetHdrFlags flags) = tt
  awaits-shape f _ = search plainly depth 12

  -- ---- the answer

  flags-reply : (a b : Bool) → a ≡ false → has_bit (header_flags a b) 2 ≡ false
  flags-reply false false h = refl
  flags-reply false true h = refl
  flags-reply true b h = absurd (cc h)

  nothing-more : (cells : List (Cell H)) (x : Option (Answered H) × List (Cell H)) (call : FrontendCall H) (awaited : Awaited) (sent : Header) (g : Frontend) → take call awaited sent g (cells ++ []) ≡ x → take call awaited sent g cells ≡ x
  nothing-more cells x call awaited sent g e = ap (λ y. take call awaited sent g y) (sym (append-nil cells)) ∙ e

  pub hears-answer : HearsTheAnswer H
  hears-answer call awaited w g Silent a named plain shape good known =
      take-nothing H call awaited (head_of request_number w) g (flags-reply w.reply w.need_reply plain) ∙ ap (λ x. (x, [])) known
  hears-answer call Ack w g (Acknowledged agreed) a named plain shape good known =
      nothing-more _ _ call Ack (head_of request_number w) g (take-acknowledged H call (head_of request_number w) g w.request agreed [] refl (flags-reply w.reply w.need_reply plain) named)
      ∙ ap (λ x. (x, [])) known
  hears-answer call (Reply shape) w g (Replied payload handles) a named plain same good known =
      nothing-more _ _ call (Reply shape) (head_of request_number w) g
      (take-reply H call (head_of request_number w) g w.request shape (refl, flags-reply w.reply w.need_reply plain, named) payload handles (subst (λ x. IsReplyOf call x payload handles) (sym same) good.0) good.1 [])
      ∙ ap (λ x. (x, [])) known
  hears-answer call _ w g _ a named plain shape good known = absurd (cc known)
