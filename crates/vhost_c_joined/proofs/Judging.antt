-- A request is answered by the answer that its reply holds, and becomes the same.
use Rattle.std.proofs.Common.{◌≡◌, ◌⊎◌, inl, inr, ℕ, ◌+◌, ◌%◌, ◌<◌, ◌≤◌, ◌^◌, Bool, true, false, List, [], ◌∷◌, length, drop, Option, Some, None, Result, Ok, Err, refl, sym, ap, subst, ◌∙◌, arith, lit<}
use Rattle.std.specs.Prelude.{⊤, All, codes, map, ◌==◌, ◌&&◌, not, is_ok, is_some, bit_or, nat_le, if◌then◌else◌}
use Rattle.std.proofs.lemmas.Bool.{eqb-true, leb-true}
use Rattle.std.proofs.lemmas.List.Elements.{All-head}
use Rattle.std.proofs.lemmas.Nat.{or_lt}
use Rattle.vhost_message.specs.declared.heard_req.HeardReq.{HeardReq}
use Rattle.vhost_message.specs.declared.heard_req.HeardReq.TheVariants.{GET_FEATURES, SET_FEATURES, SET_OWNER, RESET_OWNER, SET_MEM_TABLE, SET_LOG_BASE, SET_VRING_NUM, SET_VRING_ADDR, SET_VRING_BASE, GET_VRING_BASE, SET_VRING_KICK, SET_VRING_CALL, SET_VRING_ERR, GET_PROTOCOL_FEATURES, SET_PROTOCOL_FEATURES, GET_QUEUE_NUM, SET_VRING_ENABLE, NET_SET_MTU, SET_BACKEND_REQ_FD, GET_CONFIG, SET_CONFIG, CREATE_CRYPTO_SESSION, POSTCOPY_ADVISE, POSTCOPY_LISTEN, POSTCOPY_END, GET_INFLIGHT_FD, SET_INFLIGHT_FD, GPU_SET_SOCKET, RESET_DEVICE, GET_MAX_MEM_SLOTS, ADD_MEM_REG, REM_MEM_REG, GET_STATUS, GET_SHARED_OBJECT, SET_DEVICE_STATE_FD, CHECK_DEVICE_STATE, GET_SHMEM_CONFIG}
use Rattle.vhost_message.specs.HeardReq.{request_number}
use Rattle.vhost_message.specs.declared.limits.TheConstants.{MAX_MEM_REGIONS, MAX_MSG_SIZE, MEMORY_HEAD_SIZE}
use Rattle.vhost_message.specs.declared.postcopy.PostcopyState.TheVariants.{Advise, End}
use Rattle.vhost_message.specs.declared.records.inflight.VhostUserInflight.{VhostUserInflight}
use Rattle.vhost_message.specs.declared.records.memory.VhostUserMemoryRegion.{VhostUserMemoryRegion}
use Rattle.vhost_message.specs.declared.records.memory.VhostUserSingleMemoryRegion.{VhostUserSingleMemoryRegion}
use Rattle.vhost_message.proofs.Regions.{length-regions_of}
use Rattle.vhost_message.specs.Bits.{has_bit}
use Rattle.vhost_message.specs.Records.{config_of, inflight_of, log_of, memory_of, single_region_of, transfer_of, vring_addr_of, vring_state_of}
use Rattle.vhost_message.specs.Valid.{is_valid_inflight, is_valid_log, is_valid_memory, is_valid_transfer, is_valid_vring_addr}
use Rattle.vhost_protocol.specs.Answered.{calls, if_agreed, rebased, rebased_region, with_base, with_bases, with_check, with_features, with_handle, with_inflight}
use Rattle.vhost_protocol.specs.DeviceCall as device
use Rattle.vhost_protocol.specs.DeviceCall.{Call}
use Rattle.vhost_protocol.specs.Error.{BackendInternalError, Error, FrontendInternalError, InactiveFeature, InactiveOperation, IncorrectFds, InvalidMessage, InvalidOperation, InvalidParam, test}
use Rattle.vhost_protocol.specs.Features.{PROTOCOL_FEATURES, REPLY_ACK, MQ, LOG_SHMFD, MTU, BACKEND_REQ, PAGEFAULT, CONFIG, INFLIGHT_SHMFD, RESETS_DEVICE, CONFIGURE_MEM_SLOTS, SHARED_OBJECT, SHMEM}
use Rattle.vhost_protocol.specs.Profile.{is_standard}
use Rattle.vhost_protocol.specs.Row as table
use Rattle.vhost_protocol.specs.Row.{channel, is_mapped, is_valid_area, is_valid_table, mapped_row, only, ring_row, row_of, u64}
use Rattle.vhost_protocol.specs.Split.{Message}
use Rattle.vhost_protocol.specs.Served.{Replied}
use Rattle.vhost_protocol.specs.Session.{Session, enabling, is_advise, is_inactive, is_listen}
use Rattle.vhost_protocol.specs.Settled.{ended, has_reply, is_listening, refused_reply, settled}
use Rattle.vhost_protocol.specs.Step.{Refusal, OpensBackend, OpensGpu, ◌>>=◌, ◌>>◌, acknowledged, failed_with, replied, replied_or_silent, silently, with_ack}
use Rattle.vhost_protocol.specs.Written.{Empty, U64, InflightArea, LogArea, OneRegion, Regions, Shmem}
use Rattle.vhost_link.specs.declared.plain.PlainHandle.{PlainHandle}
use Rattle.vhost_backend_req_handler_core.specs.Concluding.{base_in, bases_in, done_in, inflight_in}
use Rattle.vhost_c_common.specs.Records.{fd_in}
use Rattle.vhost_c_backend.specs.Serving.{Channel, Display}
use Rattle.vhost_c_backend.specs.declared.replies.Form.TheVariants as form
use Rattle.vhost_c_backend.specs.declared.replies.Reply.{Reply}
use Rattle.vhost_c_joined.specs.Device.{IsSized, Says}
use Rattle.vhost_c_joined.specs.Judged.{HoldsBases, HoldsInflight, told_area, told_bases}
use Rattle.vhost_c_joined.specs.Wire.{IsFd}
use Rattle.vhost_c_joined.proofs.Mapped.{region-back, table-back}
use Rattle.vhost_c_joined.proofs.Replying.{handles_in, text_in}
use Rattle.vhost_c_joined.proofs.Settling as settling
use Rattle.vhost_c_joined.proofs.Settling.{Out, Same, asking, acked, never-acked, replied-is, ends-is, lacks-bare, lacks-same, area-back, or-again}
use Rattle.vhost_c_joined.proofs.Becoming.{Row, Well, acks, acks-unmapped, backend, became, both-are, bringing, checks, config, gpu, handle, listening, numbers, quiets, repeated, ring, shmem, state, unserved, well-bind, well-cond, well-test, well-then}
use Rattle.vhost_c_joined.proofs.Said.{Said, said-refused, some-area, said-area, no-area, table-decides, region-decides, some-bases, said-bases, some-base, said-base}

and-left : (a b : Bool) → (a && b) ≡ true → a ≡ true
and-left true b is = refl
and-left false b is = absurd (cc is)

and-right : (a b : Bool) → (a && b) ≡ true → b ≡ true
and-right true b is = is
and-right false b is = absurd (cc is)

small-config : (offset size len : ℕ) → len ≤ MAX_MSG_SIZE → len ≡ 12 + size → size ≤ 4084
small-config offset size len few is = omega (arith, few, is)

module _ (s : Session) (standard : is_standard s.profile ≡ true) (need : Bool) (body : List ℕ) (hs : List PlainHandle) (small : length body ≤ MAX_MSG_SIZE) where
  abbrev W : HeardReq → Row → Type 0
  W r = Well s standard r need body

  -- the regions of a table are mapped
  then' : (r : HeardReq) (x : Result ⊤ (Refusal PlainHandle)) (next : Row) → W r next → W r (x >> next)
  then' r x next h = well-then s standard r need body x next h

  bind' : {A : Type 0} (r : HeardReq) (x : Result A (Refusal PlainHandle)) (next : A → Row) → ((a : A) → W r (next a)) → W r (x >>= next)
  bind' r x next h = well-bind s standard r need body x next h

  abbrev msg : HeardReq → Message HeardReq PlainHandle
  msg r = bringing r need body hs

  abbrev on : HeardReq → Call PlainHandle Channel Display → Row
  on r c = calls s (msg r) c

  mapped : (r : HeardReq) → has_reply r s (length body) ≡ false → is_listening r ≡ false → W r (mapped_row s (msg r))
  mapped r own listening = bind' r (u64 (msg r)) (λ n. test (n == 0) (silently FrontendInternalError) >> on r device.PostcopyAckMemRegions) (λ n. then' r (test (n == 0) (silently FrontendInternalError)) (on r device.PostcopyAckMemRegions)
      (λ d x b sized says alive fds gives d' x' b' holds says'. quiets s standard r need body s own listening x x' d' holds says'))

  mapped-reply : is_mapped s (asking SET_MEM_TABLE need body) ≡ true → (is_listen s.postcopy && not (length body == 8)) ≡ false
  mapped-reply is = by (is_listen s.postcopy) (length body == 8) is
    where
      by : (a b : Bool) → (a && b) ≡ true → (a && not b) ≡ false
      by true true is = refl
      by true false is = absurd (cc is)
      by false b is = refl

  -- a ring is given one, or none
  rung : (r : HeardReq) (c : ℕ → Option PlainHandle → Call PlainHandle Channel Display) → ((n : ℕ) (h : Option PlainHandle) → W r (on r (c n h))) → W r (ring_row (msg r) (λ n h. on r (c n h)))
  rung r c well = bind' r (u64 (msg r)) (λ n. if has_bit n 8 then test (not (length hs == 1)) (silently InvalidMessage) >> on r (c (n % 256) None) else only (silently InvalidMessage) hs >>= (λ h. on r (c (n % 256) (Some h))))
      (λ n. well-cond s standard r need body (has_bit n 8) (test (not (length hs == 1)) (silently InvalidMessage) >> on r (c (n % 256) None)) (only (silently InvalidMessage) hs >>= (λ h. on r (c (n % 256) (Some h))))
      (λ is. then' r (test (not (length hs == 1)) (silently InvalidMessage)) (on r (c (n % 256) None)) (well (n % 256) None))
      (λ is. bind' r (only (silently InvalidMessage) hs) (λ h. on r (c (n % 256) (Some h))) (λ h. well (n % 256) (Some h))))

  -- while postcopy listens, regions have a reply of their own
  own-reply : is_listen s.postcopy ≡ true → (is_listen s.postcopy && length body == 8) ≡ false → (is_listen s.postcopy && not (length body == 8)) ≡ true
  own-reply is unmapped = by (is_listen s.postcopy) (length body == 8) is unmapped
    where
      by : (a b : Bool) → a ≡ true → (a && b) ≡ false → (a && not b) ≡ true
      by true true is other = absurd (cc other)
      by true false is other = refl
      by false b is other = absurd (cc is)

  -- else they are acknowledged
  no-reply : is_listen s.postcopy ≡ false → (is_listen s.postcopy && not (length body == 8)) ≡ false
  no-reply is = ap (λ a. a && not (length body == 8)) is

  -- a refusal ends the session then
  dies : (r : HeardReq) → has_reply r s (length body) ≡ true → ((o : Out) → refused_reply r body o ≡ ended o) → (e : Error) → is_some (became s standard r need body (failed_with s (msg r) e)).session.failed ≡ false → ⊥
  dies r own none e alive = never-acked s standard r need body s {A = ⊤} (Err e) own none alive

  abbrev table_in : Bool → Row
  table_in listens = on SET_MEM_TABLE (device.SetMemTable (table.table (msg SET_MEM_TABLE)) hs (Some listens))

  module _ (own : has_reply SET_MEM_TABLE s (length body) ≡ true) (valid : is_valid_table s (msg SET_MEM_TABLE) ≡ true) where
    abbrev regions : List VhostUserMemoryRegion
    regions = table.table (msg SET_MEM_TABLE)

    abbrev tables : Said → Out
    tables x = became s standard SET_MEM_TABLE need body (with_bases s (msg SET_MEM_TABLE) regions (bases_in x))

    as-many : length regions ≡ (memory_of body).num_regions
    as-many = length-regions_of (memory_of body).num_regions (drop MEMORY_HEAD_SIZE body)

    memory : is_valid_memory (memory_of body) ≡ true
    memory = and-right _ _ (and-left _ _ (and-left _ _ (and-left _ _ valid)))

    some : 1 ≤ length regions
    some = subst (λ n. 1 ≤ n) (sym as-many) (leb-true 1 (memory_of body).num_regions (and-right _ _ (and-left _ _ memory)))

    few : length regions ≤ MAX_MEM_REGIONS
    few = subst (λ n. n ≤ MAX_MEM_REGIONS) (sym as-many) (leb-true (memory_of body).num_regions MAX_MEM_REGIONS (and-right _ _ memory))

    mapped-there : (x : Said) (bs : List ℕ) → bases_in x ≡ Ok (Some bs) → (length bs == length regions) ≡ true → tables x ≡ replied s (Regions (rebased regions bs)) []
    mapped-there x bs is fits =
        ap (λ a. became s standard SET_MEM_TABLE need body (with_bases s (msg SET_MEM_TABLE) regions a)) is
        ∙ ap (λ b. became s standard SET_MEM_TABLE need body (if b then replied s (Regions (rebased regions bs)) [] else failed_with s (msg SET_MEM_TABLE) BackendInternalError)) fits
        ∙ replied-is s standard SET_MEM_TABLE need body s (Regions (rebased regions bs)) []

    table-mapped : (d : Reply) (x x' : Said) (d' : Reply) → IsSized d → Says (form.Table true) d x → is_some (tables x).session.failed ≡ false → HoldsBases (told_bases (text_in SET_MEM_TABLE (tables x).served)) (text_in SET_MEM_TABLE (tables x).served) d' → Says (form.Table true) d' x' → Same (tables x) (tables x')
    table-mapped d x x' d' sized says alive holds says' = by (some-bases d x sized says)
      where
        fitting : (bs : List ℕ) (fits : Bool) → All (λ base. base < 2 ^ 64) bs → bases_in x ≡ Ok (Some bs) → (length bs == length regions) ≡ fits → Same (tables x) (tables x')
        fitting bs true small is fits =
            let long : length bs ≡ length regions = eqb-true (length bs) (length regions) fits in
            let first : tables x ≡ replied s (Regions (rebased regions bs)) [] = mapped-there x bs is fits in
            let told : told_bases (text_in SET_MEM_TABLE (tables x).served) ≡ bs = ap (λ (o : Out). told_bases (text_in SET_MEM_TABLE o.served)) first ∙ table-back SET_MEM_TABLE regions bs long (subst (λ n. n ≤ MAX_MEM_REGIONS) (sym long) few) small in
            let again : bases_in x' ≡ Ok (Some bs) = said-bases bs (text_in SET_MEM_TABLE (tables x).served) d' x' (subst (λ n. 0 < n) (sym long) some) (subst (λ xs. HoldsBases xs (text_in SET_MEM_TABLE (tables x).served) d') told holds) says' in
            both-are s standard SET_MEM_TABLE need body (tables x) (tables x') (replied s (Regions (rebased regions bs)) []) first (mapped-there x' bs again fits)
        fitting bs false small is fits = absurd (dies SET_MEM_TABLE own (λ o. refl) BackendInternalError (subst (λ (o : Out). is_some o.session.failed ≡ false)
            (ap (λ a. became s standard SET_MEM_TABLE need body (with_bases s (msg SET_MEM_TABLE) regions a)) is
            ∙ ap (λ b. became s standard SET_MEM_TABLE need body (if b then replied s (Regions (rebased regions bs)) [] else failed_with s (msg SET_MEM_TABLE) BackendInternalError)) fits) alive))

        by : ((bs : List ℕ) × All (λ base. base < 2 ^ 64) bs × (bases_in x ≡ Ok (Some bs))) ⊎ ((e : Error) × (bases_in x ≡ Err e)) → Same (tables x) (tables x')
        by (inl (bs, small, is)) = fitting bs (length bs == length regions) small is refl
        by (inr (e, is)) = absurd (dies SET_MEM_TABLE own (λ o. refl) e (subst (λ a. is_some (became s standard SET_MEM_TABLE need body (with_bases s (msg SET_MEM_TABLE) regions a)).session.failed ≡ false) is alive))

  tabled : (is_listen s.postcopy && length body == 8) ≡ false → W SET_MEM_TABLE (table.table_row s (msg SET_MEM_TABLE))
  tabled unmapped = well-test s standard SET_MEM_TABLE need body (is_valid_table s (msg SET_MEM_TABLE)) (acknowledged s (msg SET_MEM_TABLE) InvalidMessage) (if is_listen s.postcopy then table_in true else table_in false)
      (λ valid. well-cond s standard SET_MEM_TABLE need body (is_listen s.postcopy) (table_in true) (table_in false)
      (λ is. λ d x b sized says alive fds gives d' x' b' holds says'. table-mapped (own-reply is unmapped) valid d x x' d' sized says alive holds says')
      (λ is. λ d x b sized says alive fds gives d' x' b' holds says'. acks-unmapped s standard SET_MEM_TABLE need body (form.Table false) (λ y. bases_in y) table-decides s (no-reply is) refl x x' d' holds says'))

  abbrev region_in : PlainHandle → VhostUserSingleMemoryRegion → Bool → Row
  region_in h v listens = on ADD_MEM_REG (device.AddMemRegion v h (Some listens))

  module _ (own : has_reply ADD_MEM_REG s (length body) ≡ true) (v : VhostUserSingleMemoryRegion) where
    abbrev adds : Said → Out
    adds x = became s standard ADD_MEM_REG need body (with_base s (msg ADD_MEM_REG) v (base_in x))

    added-there : (x : Said) (b : ℕ) → base_in x ≡ Ok (Some b) → adds x ≡ replied s (OneRegion (rebased_region v b)) []
    added-there x b is = ap (λ a. became s standard ADD_MEM_REG need body (with_base s (msg ADD_MEM_REG) v a)) is ∙ replied-is s standard ADD_MEM_REG need body s (OneRegion (rebased_region v b)) []

    region-mapped : (d : Reply) (x x' : Said) (d' : Reply) → IsSized d → Says (form.Region true) d x → is_some (adds x).session.failed ≡ false → HoldsBases (told_bases (text_in ADD_MEM_REG (adds x).served)) (text_in ADD_MEM_REG (adds x).served) d' → Says (form.Region true) d' x' → Same (adds x) (adds x')
    region-mapped d x x' d' sized says alive holds says' = by (some-base d x sized says)
      where
        refused : (a : Result (Option ℕ) Error) (e : Error) → base_in x ≡ a → with_base s (msg ADD_MEM_REG) v a ≡ failed_with s (msg ADD_MEM_REG) e → ⊥
        refused a e is none = dies ADD_MEM_REG own (λ o. refl) e (subst (λ (o : Out). is_some (became s standard ADD_MEM_REG need body o).session.failed ≡ false) (ap (with_base s (msg ADD_MEM_REG) v) is ∙ none) alive)

        by : ((b : ℕ) × (b < 2 ^ 64) × (base_in x ≡ Ok (Some b))) ⊎ ((base_in x ≡ Ok None) ⊎ ((e : Error) × (base_in x ≡ Err e))) → Same (adds x) (adds x')
        by (inl (b, small, is)) =
            let first : adds x ≡ replied s (OneRegion (rebased_region v b)) [] = added-there x b is in
            let told : told_bases (text_in ADD_MEM_REG (adds x).served) ≡ b ∷ [] = ap (λ (o : Out). told_bases (text_in ADD_MEM_REG o.served)) first ∙ region-back ADD_MEM_REG v b small in
            let again : base_in x' ≡ Ok (Some b) = said-base b (text_in ADD_MEM_REG (adds x).served) d' x' (subst (λ xs. HoldsBases xs (text_in ADD_MEM_REG (adds x).served) d') told holds) says' in
            both-are s standard ADD_MEM_REG need body (adds x) (adds x') (replied s (OneRegion (rebased_region v b)) []) first (added-there x' b again)
        by (inr (inl is)) = absurd (refused (Ok None) BackendInternalError is refl)
        by (inr (inr (e, is))) = absurd (refused (Err e) e is refl)

  added : (is_listen s.postcopy && length body == 8) ≡ false → W ADD_MEM_REG (table.region_row s (msg ADD_MEM_REG))
  added unmapped = bind' ADD_MEM_REG (only (silently InvalidParam) hs) (λ h. table.body 40 single_region_of table.always (msg ADD_MEM_REG) >>= (λ v. if is_listen s.postcopy then region_in h v true else region_in h v false))
      (λ h. bind' ADD_MEM_REG (table.body 40 single_region_of table.always (msg ADD_MEM_REG)) (λ v. if is_listen s.postcopy then region_in h v true else region_in h v false)
      (λ v. well-cond s standard ADD_MEM_REG need body (is_listen s.postcopy) (region_in h v true) (region_in h v false)
      (λ is. λ d x b sized says alive fds gives d' x' b' holds says'. region-mapped (own-reply is unmapped) v d x x' d' sized says alive holds says')
      (λ is. λ d x b sized says alive fds gives d' x' b' holds says'. acks-unmapped s standard ADD_MEM_REG need body (form.Region false) (λ y. base_in y) region-decides s (no-reply is) refl x x' d' holds says')))

  -- the inflight region is given, or none
  abbrev buffer : Said → Out
  buffer x = settled s (asking GET_INFLIGHT_FD need body) (with_inflight s (inflight_in x))

  inflight : (d : Reply) (x x' : Said) (d' : Reply) → IsSized d → Says form.Inflight d x → All IsFd (handles_in (buffer x).served) → HoldsInflight (text_in GET_INFLIGHT_FD (buffer x).served) (map fd_in (handles_in (buffer x).served)) d' → Says form.Inflight d' x' → Same (buffer x) (buffer x')
  inflight d x x' d' sized said fds holds says = by (inflight_in x) refl
    where
      given : (y : Said) (a : VhostUserInflight × PlainHandle) → inflight_in y ≡ Ok a → buffer y ≡ replied s (InflightArea a.0) (a.1 ∷ [])
      given y a is = ap (λ z. settled s (asking GET_INFLIGHT_FD need body) (with_inflight s z)) is ∙ replied-is s standard GET_INFLIGHT_FD need body s (InflightArea a.0) (a.1 ∷ [])

      lacking : (y : Said) (e : Error) → inflight_in y ≡ Err e → buffer y ≡ settling.lacks s standard need body e
      lacking y e is = ap (λ a. settled s (asking GET_INFLIGHT_FD need body) (with_inflight s a)) is

      by : (a : Result (VhostUserInflight × PlainHandle) Error) → inflight_in x ≡ a → Same (buffer x) (buffer x')
      by (Ok a) is =
          let first : buffer x ≡ replied s (InflightArea a.0) (a.1 ∷ []) = given x a is in
          let one : IsFd a.1 = All-head IsFd a.1 [] (subst (λ (o : Out). All IsFd (handles_in o.served)) first fds) in
          let told : told_area (text_in GET_INFLIGHT_FD (Replied (InflightArea a.0) (a.1 ∷ []))) ≡ a.0 = area-back GET_INFLIGHT_FD a.0 (a.1 ∷ []) (some-area d x sized said a is) in
          let held : HoldsInflight (text_in GET_INFLIGHT_FD (Replied (InflightArea a.0) (a.1 ∷ []))) (fd_in a.1 ∷ []) d' = subst (λ (o : Out). HoldsInflight (text_in GET_INFLIGHT_FD o.served) (map fd_in (handles_in o.served)) d') first holds in
          both-are s standard GET_INFLIGHT_FD need body (buffer x) (buffer x') (replied s (InflightArea a.0) (a.1 ∷ [])) first (given x' a (said-area a.0 a.1 (text_in GET_INFLIGHT_FD (Replied (InflightArea a.0) (a.1 ∷ []))) d' x' one told held says))
      by (Err e) is =
          let none : handles_in (buffer x).served ≡ [] = ap (λ (o : Out). handles_in o.served) (lacking x e is) ∙ lacks-bare s standard need body e in
          let refused : inflight_in x' ≡ Err BackendInternalError = ap {A = Said} inflight_in (said-refused form.Inflight x' (subst (λ y. Says form.Inflight y x') (no-area (text_in GET_INFLIGHT_FD (buffer x).served) d' (subst (λ (ks : List PlainHandle). HoldsInflight (text_in GET_INFLIGHT_FD (buffer x).served) (map fd_in ks) d') none holds)) says)) in
          subst (λ o. Same o (buffer x')) (sym (lacking x e is)) (subst (λ o. Same (settling.lacks s standard need body e) o) (sym (lacking x' BackendInternalError refused)) (lacks-same s standard need body e BackendInternalError))

  area : is_valid_area (asking GET_CONFIG need body) ≡ true → (((config_of body).size == 0) ≡ false) × ((config_of body).size ≤ 4084)
  area valid = (
    turned-round ((config_of body).size == 0) (and-right _ _ (and-left _ _ (and-right _ _ (and-left _ _ valid)))),
    small-config 0 (config_of body).size (length body) small (eqb-true (length body) (12 + (config_of body).size) (and-right _ _ valid)),
  )
    where
      turned-round : (b : Bool) → not b ≡ true → b ≡ false
      turned-round true is = absurd (cc is)
      turned-round false is = refl

  checked : (a : Result ⊤ Error) → ((settled s (asking CHECK_DEVICE_STATE need body) (with_check s a)).served ≡ Replied (U64 (if is_ok a then 0 else 1)) []) × ((settled s (asking CHECK_DEVICE_STATE need body) (with_check s a)).session ≡ s)
  checked (Ok u) = let e = replied-is s standard CHECK_DEVICE_STATE need body s (U64 0) [] in (ap (λ (o : Out). o.served) e, ap (λ (o : Out). o.session) e)
  checked (Err e) = let e = replied-is s standard CHECK_DEVICE_STATE need body s (U64 1) [] in (ap (λ (o : Out). o.served) e, ap (λ (o : Out). o.session) e)

  -- a channel is opened
  abbrev backend_in : PlainHandle → Row
  backend_in h = OpensBackend h (λ opened. channel s (msg SET_BACKEND_REQ_FD) opened >>= (λ c. on SET_BACKEND_REQ_FD (device.SetBackendReqFd c)))

  abbrev gpu_in : PlainHandle → Row
  gpu_in h = OpensGpu h (λ opened. channel s (msg GPU_SET_SOCKET) opened >>= (λ c. on GPU_SET_SOCKET (device.SetGpuSocket c)))

  pub rows : (r : HeardReq) → W r (row_of r s (msg r))
  rows SET_OWNER = then' SET_OWNER (table.bare 0 (msg SET_OWNER)) (on SET_OWNER device.SetOwner) (λ d x b sized says alive fds gives d' x' b' holds says'. acks s standard SET_OWNER need body s refl refl x x' d' holds says')
  rows RESET_OWNER = then' RESET_OWNER (table.bare 0 (msg RESET_OWNER)) (on RESET_OWNER device.ResetOwner) (λ d x b sized says alive fds gives d' x' b' holds says'. acks s standard RESET_OWNER need body s refl refl x x' d' holds says')
  rows RESET_DEVICE = then' RESET_DEVICE (table.session_feature s RESETS_DEVICE) (table.bare 0 (msg RESET_DEVICE) >> on RESET_DEVICE device.ResetDevice) (then' RESET_DEVICE (table.bare 0 (msg RESET_DEVICE)) (on RESET_DEVICE device.ResetDevice) (λ d x b sized says alive fds gives d' x' b' holds says'. acks s standard RESET_DEVICE need body s refl refl x x' d' holds says'))
  rows GET_FEATURES = then' GET_FEATURES (table.bare 0 (msg GET_FEATURES)) (on GET_FEATURES device.GetFeatures) (λ d x b sized says alive fds gives d' x' b' holds says'.
      numbers s standard GET_FEATURES need body refl (λ o. refl) (λ n. record s { offered = n }) (λ n. n) (with_features s) (λ n. refl) (λ e. refl) (λ n fits. fits) (λ n. (refl, refl)) d x sized says alive d' x' holds says')
  rows SET_FEATURES = bind' SET_FEATURES (u64 (msg SET_FEATURES)) (λ n. on SET_FEATURES (device.SetFeatures n)) (λ n. λ d x b sized says alive fds gives d' x' b' holds says'. acks s standard SET_FEATURES need body (record s { acked = n }) refl refl x x' d' holds says')
  rows SET_MEM_TABLE = well-cond s standard SET_MEM_TABLE need body (is_mapped s (msg SET_MEM_TABLE)) (mapped_row s (msg SET_MEM_TABLE)) (table.table_row s (msg SET_MEM_TABLE)) (λ is. mapped SET_MEM_TABLE (mapped-reply is) refl) (λ is. tabled is)
  rows SET_LOG_BASE = well-test s standard SET_LOG_BASE need body (has_bit s.acked_protocol_features LOG_SHMFD) (silently (InactiveOperation (2 ^ LOG_SHMFD))) (only (silently IncorrectFds) hs >>= (λ h. table.body 16 log_of is_valid_log (msg SET_LOG_BASE) >>= (λ l. on SET_LOG_BASE (device.SetLogBase l h))))
      (λ agreed. bind' SET_LOG_BASE (only (silently IncorrectFds) hs) (λ h. table.body 16 log_of is_valid_log (msg SET_LOG_BASE) >>= (λ l. on SET_LOG_BASE (device.SetLogBase l h))) (λ h. bind' SET_LOG_BASE (table.body 16 log_of is_valid_log (msg SET_LOG_BASE)) (λ l. on SET_LOG_BASE (device.SetLogBase l h)) (λ l. λ d x b sized says alive fds gives d' x' b' holds says'.
      repeated s standard SET_LOG_BASE need body agreed (λ o. refl) (LogArea l) x x' d' alive holds says')))
  rows SET_VRING_NUM = bind' SET_VRING_NUM (table.body 8 vring_state_of table.always (msg SET_VRING_NUM)) (λ v. on SET_VRING_NUM (device.SetVringNum v.index v.num)) (λ v. λ d x b sized says alive fds gives d' x' b' holds says'. acks s standard SET_VRING_NUM need body s refl refl x x' d' holds says')
  rows SET_VRING_BASE = bind' SET_VRING_BASE (table.body 8 vring_state_of table.always (msg SET_VRING_BASE)) (λ v. on SET_VRING_BASE (device.SetVringBase v.index v.num)) (λ v. λ d x b sized says alive fds gives d' x' b' holds says'. acks s standard SET_VRING_BASE need body s refl refl x x' d' holds says')
  rows SET_VRING_ADDR = bind' SET_VRING_ADDR (table.body 40 vring_addr_of is_valid_vring_addr (msg SET_VRING_ADDR)) (λ v. on SET_VRING_ADDR (device.SetVringAddr v)) (λ v. λ d x b sized says alive fds gives d' x' b' holds says'. acks s standard SET_VRING_ADDR need body s refl refl x x' d' holds says')
  rows GET_VRING_BASE = bind' GET_VRING_BASE (table.body 8 vring_state_of table.always (msg GET_VRING_BASE)) (λ v. on GET_VRING_BASE (device.GetVringBase v.index)) (λ v. λ d x b sized says alive fds gives d' x' b' holds says'. ring s standard GET_VRING_BASE need body refl (λ o. refl) d x sized says alive d' x' holds says')
  rows SET_VRING_KICK = rung SET_VRING_KICK (λ n h. device.SetVringKick n h) (λ n h. λ d x b sized says alive fds gives d' x' b' holds says'. acks s standard SET_VRING_KICK need body s refl refl x x' d' holds says')
  rows SET_VRING_CALL = rung SET_VRING_CALL (λ n h. device.SetVringCall n h) (λ n h. λ d x b sized says alive fds gives d' x' b' holds says'. acks s standard SET_VRING_CALL need body s refl refl x x' d' holds says')
  rows SET_VRING_ERR = rung SET_VRING_ERR (λ n h. device.SetVringErr n h) (λ n h. λ d x b sized says alive fds gives d' x' b' holds says'. acks s standard SET_VRING_ERR need body s refl refl x x' d' holds says')
  rows GET_PROTOCOL_FEATURES = then' GET_PROTOCOL_FEATURES (table.bare 0 (msg GET_PROTOCOL_FEATURES)) (on GET_PROTOCOL_FEATURES device.GetProtocolFeatures) (λ d x b sized says alive fds gives d' x' b' holds says'.
      numbers s standard GET_PROTOCOL_FEATURES need body refl (λ o. refl) (λ n. s) (λ n. bit_or n (2 ^ REPLY_ACK)) (replied_or_silent s (λ n. U64 (bit_or n (2 ^ REPLY_ACK)))) (λ n. refl) (λ e. refl) (λ n fits. or_lt 64 n 8 fits (lit< tt)) (λ n. (refl, or-again n 8)) d x sized says alive d' x' holds says')
  rows SET_PROTOCOL_FEATURES = bind' SET_PROTOCOL_FEATURES (u64 (msg SET_PROTOCOL_FEATURES)) (λ n. on SET_PROTOCOL_FEATURES (device.SetProtocolFeatures n)) (λ n. λ d x b sized says alive fds gives d' x' b' holds says'. acks s standard SET_PROTOCOL_FEATURES need body (record s { acked_protocol_features = n }) refl refl x x' d' holds says')
  rows GET_QUEUE_NUM = then' GET_QUEUE_NUM (table.session_feature s MQ) (table.bare 0 (msg GET_QUEUE_NUM) >> on GET_QUEUE_NUM device.GetQueueNum) (then' GET_QUEUE_NUM (table.bare 0 (msg GET_QUEUE_NUM)) (on GET_QUEUE_NUM device.GetQueueNum) (λ d x b sized says alive fds gives d' x' b' holds says'.
      numbers s standard GET_QUEUE_NUM need body refl (λ o. refl) (λ n. s) (λ n. n) (replied_or_silent s U64) (λ n. refl) (λ e. refl) (λ n fits. fits) (λ n. (refl, refl)) d x sized says alive d' x' holds says'))
  rows GET_MAX_MEM_SLOTS = then' GET_MAX_MEM_SLOTS (table.session_feature s CONFIGURE_MEM_SLOTS) (table.bare 0 (msg GET_MAX_MEM_SLOTS) >> on GET_MAX_MEM_SLOTS device.GetMaxMemSlots) (then' GET_MAX_MEM_SLOTS (table.bare 0 (msg GET_MAX_MEM_SLOTS)) (on GET_MAX_MEM_SLOTS device.GetMaxMemSlots) (λ d x b sized says alive fds gives d' x' b' holds says'.
      numbers s standard GET_MAX_MEM_SLOTS need body refl (λ o. refl) (λ n. s) (λ n. n) (replied_or_silent s U64) (λ n. refl) (λ e. refl) (λ n fits. fits) (λ n. (refl, refl)) d x sized says alive d' x' holds says'))
  rows SET_VRING_ENABLE = bind' SET_VRING_ENABLE (table.body 8 vring_state_of table.always (msg SET_VRING_ENABLE)) (λ v. test (has_bit (enabling s) PROTOCOL_FEATURES) (silently (InactiveFeature (2 ^ PROTOCOL_FEATURES))) >> (test (nat_le v.num 1) (silently InvalidParam) >> on SET_VRING_ENABLE (device.SetVringEnable v.index (v.num == 1)))) (λ v. then' SET_VRING_ENABLE (test (has_bit (enabling s) PROTOCOL_FEATURES) (silently (InactiveFeature (2 ^ PROTOCOL_FEATURES)))) (test (nat_le v.num 1) (silently InvalidParam) >> on SET_VRING_ENABLE (device.SetVringEnable v.index (v.num == 1))) (then' SET_VRING_ENABLE (test (nat_le v.num 1) (silently InvalidParam)) (on SET_VRING_ENABLE (device.SetVringEnable v.index (v.num == 1))) (λ d x b sized says alive fds gives d' x' b' holds says'. acks s standard SET_VRING_ENABLE need body s refl refl x x' d' holds says')))
  rows NET_SET_MTU = then' NET_SET_MTU (table.session_feature s MTU) (u64 (msg NET_SET_MTU) >>= (λ n. test (nat_le n 65535) (silently InvalidParam) >> on NET_SET_MTU (device.SetMtu n))) (bind' NET_SET_MTU (u64 (msg NET_SET_MTU)) (λ n. test (nat_le n 65535) (silently InvalidParam) >> on NET_SET_MTU (device.SetMtu n)) (λ n. then' NET_SET_MTU (test (nat_le n 65535) (silently InvalidParam)) (on NET_SET_MTU (device.SetMtu n)) (λ d x b sized says alive fds gives d' x' b' holds says'. acks s standard NET_SET_MTU need body s refl refl x x' d' holds says')))
  rows GET_CONFIG = then' GET_CONFIG (table.session_feature s CONFIG) (test (true && is_valid_area (msg GET_CONFIG)) (silently InvalidMessage) >> on GET_CONFIG (device.GetConfig (config_of body).offset (config_of body).size (config_of body).flags)) (well-test s standard GET_CONFIG need body (true && is_valid_area (msg GET_CONFIG)) (silently InvalidMessage) (on GET_CONFIG (device.GetConfig (config_of body).offset (config_of body).size (config_of body).flags)) (λ valid. λ d x b sized says alive fds gives d' x' b' holds says'.
      config s standard GET_CONFIG need body (config_of body) (area valid).0 (area valid).1 x x' d' holds says'))
  rows SET_CONFIG = then' SET_CONFIG (table.session_feature s CONFIG) (test true (silently InvalidMessage) >> (test (is_valid_area (msg SET_CONFIG)) (acknowledged s (msg SET_CONFIG) InvalidMessage) >> on SET_CONFIG (device.SetConfig (config_of body).offset (drop 12 body) (config_of body).flags))) (then' SET_CONFIG (test true (silently InvalidMessage)) (test (is_valid_area (msg SET_CONFIG)) (acknowledged s (msg SET_CONFIG) InvalidMessage) >> on SET_CONFIG (device.SetConfig (config_of body).offset (drop 12 body) (config_of body).flags)) (then' SET_CONFIG (test (is_valid_area (msg SET_CONFIG)) (acknowledged s (msg SET_CONFIG) InvalidMessage)) (on SET_CONFIG (device.SetConfig (config_of body).offset (drop 12 body) (config_of body).flags)) (λ d x b sized says alive fds gives d' x' b' holds says'. acks s standard SET_CONFIG need body s refl refl x x' d' holds says')))
  rows SET_BACKEND_REQ_FD = then' SET_BACKEND_REQ_FD (table.session_feature s BACKEND_REQ) (test true (silently InvalidMessage) >> (only (acknowledged s (msg SET_BACKEND_REQ_FD) InvalidMessage) hs >>= backend_in)) (then' SET_BACKEND_REQ_FD (test true (silently InvalidMessage)) (only (acknowledged s (msg SET_BACKEND_REQ_FD) InvalidMessage) hs >>= backend_in)
      (bind' SET_BACKEND_REQ_FD (only (acknowledged s (msg SET_BACKEND_REQ_FD) InvalidMessage) hs) backend_in (λ h. backend s standard SET_BACKEND_REQ_FD need body refl refl hs h)))
  rows GPU_SET_SOCKET = bind' GPU_SET_SOCKET (only (acknowledged s (msg GPU_SET_SOCKET) InvalidMessage) hs) gpu_in (λ h. gpu s standard GPU_SET_SOCKET need body refl refl hs h)
  rows GET_SHARED_OBJECT = then' GET_SHARED_OBJECT (table.session_feature s SHARED_OBJECT) (table.body 16 table.name_of table.is_valid_name (msg GET_SHARED_OBJECT) >>= (λ name. on GET_SHARED_OBJECT (device.GetSharedObject name))) (bind' GET_SHARED_OBJECT (table.body 16 table.name_of table.is_valid_name (msg GET_SHARED_OBJECT)) (λ name. on GET_SHARED_OBJECT (device.GetSharedObject name)) (λ name. λ d x b sized says alive fds gives d' x' b' holds says'.
      handle s standard GET_SHARED_OBJECT need body (with_handle s) (λ h. refl) (λ h. replied-is s standard GET_SHARED_OBJECT need body s Empty (h ∷ [])) (λ e. replied-is s standard GET_SHARED_OBJECT need body s Empty []) x x' d' fds holds says'))
  rows GET_INFLIGHT_FD = then' GET_INFLIGHT_FD (table.session_feature s INFLIGHT_SHMFD) (table.body 24 inflight_of is_valid_inflight (msg GET_INFLIGHT_FD) >>= (λ i. on GET_INFLIGHT_FD (device.GetInflightFd i))) (bind' GET_INFLIGHT_FD (table.body 24 inflight_of is_valid_inflight (msg GET_INFLIGHT_FD)) (λ i. on GET_INFLIGHT_FD (device.GetInflightFd i)) (λ i. λ d x b sized says alive fds gives d' x' b' holds says'. inflight d x x' d' sized says fds holds says'))
  rows SET_INFLIGHT_FD = then' SET_INFLIGHT_FD (table.session_feature s INFLIGHT_SHMFD) (only (silently IncorrectFds) hs >>= (λ h. table.body 24 inflight_of is_valid_inflight (msg SET_INFLIGHT_FD) >>= (λ i. on SET_INFLIGHT_FD (device.SetInflightFd i h)))) (bind' SET_INFLIGHT_FD (only (silently IncorrectFds) hs) (λ h. table.body 24 inflight_of is_valid_inflight (msg SET_INFLIGHT_FD) >>= (λ i. on SET_INFLIGHT_FD (device.SetInflightFd i h)))
      (λ h. bind' SET_INFLIGHT_FD (table.body 24 inflight_of is_valid_inflight (msg SET_INFLIGHT_FD)) (λ i. on SET_INFLIGHT_FD (device.SetInflightFd i h)) (λ i. λ d x b sized says alive fds gives d' x' b' holds says'. acks s standard SET_INFLIGHT_FD need body s refl refl x x' d' holds says')))
  rows ADD_MEM_REG = then' ADD_MEM_REG (table.session_feature s CONFIGURE_MEM_SLOTS) (if is_mapped s (msg ADD_MEM_REG) then mapped_row s (msg ADD_MEM_REG) else table.region_row s (msg ADD_MEM_REG)) (well-cond s standard ADD_MEM_REG need body (is_mapped s (msg ADD_MEM_REG)) (mapped_row s (msg ADD_MEM_REG)) (table.region_row s (msg ADD_MEM_REG)) (λ is. mapped ADD_MEM_REG (mapped-reply is) refl) (λ is. added is))
  rows REM_MEM_REG = then' REM_MEM_REG (table.session_feature s CONFIGURE_MEM_SLOTS) (if is_mapped s (msg REM_MEM_REG) then mapped_row s (msg REM_MEM_REG) else table.body 40 single_region_of table.always (msg REM_MEM_REG) >>= (λ v. on REM_MEM_REG (device.RemoveMemRegion v))) (well-cond s standard REM_MEM_REG need body (is_mapped s (msg REM_MEM_REG)) (mapped_row s (msg REM_MEM_REG)) (table.body 40 single_region_of table.always (msg REM_MEM_REG) >>= (λ v. on REM_MEM_REG (device.RemoveMemRegion v))) (λ is. mapped REM_MEM_REG refl refl)
      (λ is. bind' REM_MEM_REG (table.body 40 single_region_of table.always (msg REM_MEM_REG)) (λ v. on REM_MEM_REG (device.RemoveMemRegion v)) (λ v. λ d x b sized says alive fds gives d' x' b' holds says'. acks s standard REM_MEM_REG need body s refl refl x x' d' holds says')))
  rows SET_DEVICE_STATE_FD = bind' SET_DEVICE_STATE_FD (only (silently IncorrectFds) hs) (λ h. table.body 8 transfer_of is_valid_transfer (msg SET_DEVICE_STATE_FD) >>= (λ t. on SET_DEVICE_STATE_FD (device.SetDeviceStateFd t h))) (λ h. bind' SET_DEVICE_STATE_FD (table.body 8 transfer_of is_valid_transfer (msg SET_DEVICE_STATE_FD)) (λ t. on SET_DEVICE_STATE_FD (device.SetDeviceStateFd t h)) (λ t. λ d x b sized says alive fds gives d' x' b' holds says'.
      state s standard SET_DEVICE_STATE_FD need body x x' d' (gives refl) fds holds says'))
  rows CHECK_DEVICE_STATE = λ d x b sized says alive fds gives d' x' b' holds says'. checks s standard CHECK_DEVICE_STATE need body (with_check s) s checked x x' d' holds says'
  rows GET_SHMEM_CONFIG = then' GET_SHMEM_CONFIG (table.session_feature s SHMEM) (on GET_SHMEM_CONFIG device.GetShmemConfig) (λ d x b sized says alive fds gives d' x' b' holds says'. absurd (shmem s standard GET_SHMEM_CONFIG need body refl (λ o. refl) d x b says Shmem alive))
  rows POSTCOPY_ADVISE = then' POSTCOPY_ADVISE (table.session_feature s PAGEFAULT) (test (is_inactive s.postcopy) (silently (InvalidOperation (codes "postcopy already advised"))) >> on POSTCOPY_ADVISE device.PostcopyAdvice) (then' POSTCOPY_ADVISE (test (is_inactive s.postcopy) (silently (InvalidOperation (codes "postcopy already advised")))) (on POSTCOPY_ADVISE device.PostcopyAdvice) (λ d x b sized says alive fds gives d' x' b' holds says'.
      handle s standard POSTCOPY_ADVISE need body (λ a. with_handle (if_agreed s Advise a) a) (λ h. refl) (λ h. replied-is s standard POSTCOPY_ADVISE need body (record s { postcopy = Advise }) Empty (h ∷ [])) (λ e. replied-is s standard POSTCOPY_ADVISE need body s Empty []) x x' d' fds holds says'))
  rows POSTCOPY_LISTEN = then' POSTCOPY_LISTEN (table.session_feature s PAGEFAULT) (test (is_advise s.postcopy) (silently (InvalidOperation (codes "postcopy not advised"))) >> on POSTCOPY_LISTEN device.PostcopyListen) (then' POSTCOPY_LISTEN (test (is_advise s.postcopy) (silently (InvalidOperation (codes "postcopy not advised")))) (on POSTCOPY_LISTEN device.PostcopyListen) (λ d x b sized says alive fds gives d' x' b' holds says'. listening s standard need body x x' d' alive holds says'))
  rows POSTCOPY_END = then' POSTCOPY_END (table.session_feature s PAGEFAULT) (test (is_listen s.postcopy) (silently (InvalidOperation (codes "postcopy not listening"))) >> on POSTCOPY_END device.PostcopyEnd) (then' POSTCOPY_END (test (is_listen s.postcopy) (silently (InvalidOperation (codes "postcopy not listening")))) (on POSTCOPY_END device.PostcopyEnd) (λ d x b sized says alive fds gives d' x' b' holds says'.
      checks s standard POSTCOPY_END need body (λ a. with_ack (record s { postcopy = End }) (asking POSTCOPY_END need body) a) (record s { postcopy = End }) (ends-is s standard need body) x x' d' holds says'))
  rows GET_STATUS = then' GET_STATUS (test (is_standard s.profile && true) (silently InvalidMessage)) (on GET_STATUS (device.Other (request_number GET_STATUS) body hs)) (λ d x b sized says alive fds gives d' x' b' holds says'. absurd (unserved s standard GET_STATUS need body refl (λ o. refl) (done_in x) alive))
  rows CREATE_CRYPTO_SESSION = then' CREATE_CRYPTO_SESSION (test (is_standard s.profile && true) (silently InvalidMessage)) (on CREATE_CRYPTO_SESSION (device.Other (request_number CREATE_CRYPTO_SESSION) body hs)) (λ d x b sized says alive fds gives d' x' b' holds says'. absurd (unserved s standard CREATE_CRYPTO_SESSION need body refl (λ o. refl) (done_in x) alive))
  rows r = then' r (test (is_standard s.profile && true) (silently InvalidMessage)) (on r (device.Other (request_number r) body hs)) (λ d x b sized says alive fds gives d' x' b' holds says'. acks s standard r need body s refl refl x x' d' holds says')
