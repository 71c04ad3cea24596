-- Each reply that a call may have is taken as the answer table says.
use Rattle.std.proofs.Common.{◌≡◌, ℕ, ◌+◌, ◌*◌, ◌≤◌, inl, inr, ◌<◌, Bool, true, false, cond, not, ◌&&◌, List, [], ◌∷◌, ◌++◌, length, drop, Option, Some, None, Result, Ok, Err, refl, sym, ◌∙◌, ap, subst, arith, lit<, length-append}
use Rattle.std.specs.Prelude.{◌==◌, ◌||◌, flat_map, All}
use Rattle.std.proofs.lemmas.Bool.{eq-eqb, ne_eqb}
use Rattle.std.proofs.lemmas.List.{append-nil}
use Rattle.vhost_message.specs.declared.limits.TheConstants.{MAX_MEM_REGIONS, MAX_MSG_SIZE, MEMORY_REGION_SIZE}
use Rattle.vhost_message.specs.declared.heard_req.HeardReq.{HeardReq}
use Rattle.vhost_message.specs.declared.records.config.VhostUserConfig.{VhostUserConfig}
use Rattle.vhost_message.specs.declared.records.inflight.VhostUserInflight.{VhostUserInflight}
use Rattle.vhost_message.specs.declared.records.log.VhostUserLog.{VhostUserLog}
use Rattle.vhost_message.specs.declared.records.memory.VhostUserMemoryRegion.{VhostUserMemoryRegion}
use Rattle.vhost_message.specs.declared.records.memory.VhostUserSingleMemoryRegion.{VhostUserSingleMemoryRegion}
use Rattle.vhost_message.specs.declared.records.shmem.VhostUserShMemConfig.{VhostUserShMemConfig}
use Rattle.vhost_message.specs.declared.records.vring.VhostUserVringState.{VhostUserVringState}
use Rattle.vhost_message.specs.LongRecords.{ShMemConfigFits, shmem_config-length, shmem_config-reads_back}
use Rattle.vhost_message.specs.RecordLaws.{RegionFits, SingleRegionFits, VringStateFits, ConfigFits, InflightFits, LogFits, single_region-reads_back, vring_state-reads_back, config-reads_back, inflight-reads_back, log-reads_back}
use Rattle.vhost_message.specs.Records.{region_text, regions_of, memory_of, memory_text, single_region_text, shmem_config_text, vring_state_text, config_text, inflight_text, log_text}
use Rattle.vhost_message.specs.Valid.{is_valid_config, is_valid_inflight, is_valid_log}
use Rattle.vhost_message.specs.Bits.{has_bit}
use Rattle.vhost_message.specs.HeardReq.{request_number, is_named}
use Rattle.vhost_message.specs.Header.{Header, header_of, header_text}
use Rattle.vhost_protocol.specs.AnswerTable.{answered, answer, inflight_reply, only_if}
use Rattle.vhost_protocol.specs.declared.asked.Awaited.TheVariants.{Nobody, Ack, Reply}
use Rattle.vhost_protocol.specs.declared.asked.Shape.{Shape}
use Rattle.vhost_protocol.specs.declared.asked.Shape.TheVariants as shape
use Rattle.vhost_protocol.specs.Error.{Error, PartialMessage, InvalidMessage, InvalidParam, BackendInternalError}
use Rattle.vhost_protocol.specs.FrontendCall.{FrontendCall, SetMemTable, GetConfig, GetInflightFd, ConfigOf, Info, Frontend}
use Rattle.vhost_protocol.specs.Laws.{IsShort, IsSentFor, IsTableOf, IsConfigOf, IsInflightOf, TakesReply, TakesNothing}
use Rattle.vhost_protocol.specs.declared.profile.Profile.{Profile}
use Rattle.vhost_protocol.specs.declared.profile.Profile.TheVariants.{Vhost, Standard}
use Rattle.vhost_protocol.specs.ReplySplit.{Received, reply_split, bare_or_reply, not_bare, whole_split, has_config_size, is_right, apart, then_made, parted_or_none}
use Rattle.vhost_message.specs.Text.{number_at}
use Rattle.vhost_protocol.specs.Served.{Silent, Replied, reply, cells_of}
use Rattle.vhost_protocol.specs.Stream.{Cell, has_some}
use Rattle.vhost_protocol.specs.Take.{room, is_valid_record, is_known, answers, reply_cut, config_cut, understood, understood_config, take_reply, take}
use Rattle.vhost_protocol.specs.Written.{Payload, Empty, U64, ConfigBytes, head_of, Regions, OneRegion, Shmem, RingState, InflightArea, LogArea, Written, table_head, payload_text, written_cells, reply_to}
use Rattle.vhost_protocol.proofs.RegionLaws.{regions-read, regions-length, head-read, head-valid}
use Rattle.vhost_protocol.proofs.ReplyLaws.{reply-invalid}
use Rattle.vhost_protocol.proofs.TakeLaws.{reply-answers, split-cut, reply-understood, IsReadable, the_reply, short-room, short-sized, short-plainly, take-number, take-empty, take-replied, reply-known}
use Rattle.vhost_protocol.proofs.TextLaws.{request-small, header-read}
use Rattle.vhost_protocol.proofs.WholeLaws.{the_whole, whole-read, sized-read, right-size, apart-read}

module _ (H : Type 0) where
  readable-ring : (call : FrontendCall H) (r : HeardReq) (v : VhostUserVringState) (handles : List H) → IsShort call → VringStateFits v → is_named r ≡ true → IsReadable H call shape.VringState r (RingState v) handles
  readable-ring call r v handles short fits named = record {
    named = named;
    body = vring_state_text v;
    more = [];
    text = refl;
    size = refl;
    rest = short-room H call short;
    alone = tt;
    small = lit< tt;
    valid = refl;
    read = ap (λ x. RingState x) (vring_state-reads_back v fits);
    sized = short-sized H call (the_reply H r (RingState v) handles (vring_state_text v) []) short;
  }

  readable-region : (call : FrontendCall H) (r : HeardReq) (v : VhostUserSingleMemoryRegion) (handles : List H) → IsShort call → SingleRegionFits v → is_named r ≡ true → IsReadable H call shape.SingleMemoryRegion r (OneRegion v) handles
  readable-region call r v handles short fits named = record {
    named = named;
    body = single_region_text v;
    more = [];
    text = refl;
    size = refl;
    rest = short-room H call short;
    alone = tt;
    small = lit< tt;
    valid = refl;
    read = ap (λ x. OneRegion x) (single_region-reads_back v fits);
    sized = short-sized H call (the_reply H r (OneRegion v) handles (single_region_text v) []) short;
  }

  readable-inflight : (call : FrontendCall H) (r : HeardReq) (i : VhostUserInflight) (handles : List H) → IsShort call → is_valid_inflight i ≡ true → InflightFits i → is_named r ≡ true → IsReadable H call shape.Inflight r (InflightArea i) handles
  readable-inflight call r i handles short valid fits named = record {
    named = named;
    body = inflight_text i;
    more = [];
    text = refl;
    size = refl;
    rest = short-room H call short;
    alone = tt;
    small = lit< tt;
    valid = ap (λ x. is_valid_inflight x) (inflight-reads_back i fits) ∙ valid;
    read = ap (λ x. InflightArea x) (inflight-reads_back i fits);
    sized = short-sized H call (the_reply H r (InflightArea i) handles (inflight_text i) []) short;
  }

  readable-log : (call : FrontendCall H) (r : HeardReq) (l : VhostUserLog) (handles : List H) → IsShort call → is_valid_log l ≡ true → LogFits l → is_named r ≡ true → IsReadable H call shape.Log r (LogArea l) handles
  readable-log call r l handles short valid fits named = record {
    named = named;
    body = log_text l;
    more = [];
    text = refl;
    size = refl;
    rest = short-room H call short;
    alone = refl;
    small = lit< tt;
    valid = ap (λ x. is_valid_log x) (log-reads_back l fits) ∙ valid;
    read = ap (λ x. LogArea x) (log-reads_back l fits);
    sized = short-sized H call (the_reply H r (LogArea l) handles (log_text l) []) short;
  }

  readable-shmem : (call : FrontendCall H) (r : HeardReq) (c : VhostUserShMemConfig) (handles : List H) → IsShort call → ShMemConfigFits c → is_named r ≡ true → IsReadable H call shape.ShMemConfig r (Shmem c) handles
  readable-shmem call r c handles short fits named = record {
    named = named;
    body = shmem_config_text c;
    more = [];
    text = sym (append-nil (shmem_config_text c));
    size = shmem_config-length c fits;
    rest = short-room H call short;
    alone = tt;
    small = omega (arith, shmem_config-length c fits);
    valid = refl;
    read = ap (λ x. Shmem x) (shmem_config-reads_back c fits);
    sized = short-sized H call (the_reply H r (Shmem c) handles (shmem_config_text c) []) short;
  }

  -- the table of as many regions as were sent
  readable-table : (infos : List (Info H)) (r : HeardReq) (rs : List VhostUserMemoryRegion) (handles : List H) → length rs ≡ length infos → 1 ≤ length rs → length rs ≤ MAX_MEM_REGIONS → All RegionFits rs → is_named r ≡ true → IsReadable H (SetMemTable infos) shape.Memory r (Regions rs) handles
  readable-table infos r rs handles same least most fits named =
      let bytes : length (flat_map region_text rs) ≡ MEMORY_REGION_SIZE * length rs = regions-length rs in record {
        named = named;
        body = memory_text (table_head (length rs));
        more = flat_map region_text rs;
        text = refl;
        size = refl;
        rest = bytes ∙ ap (λ n. MEMORY_REGION_SIZE * n) same;
        alone = tt;
        small = omega (arith, bytes);
        valid = head-valid (length rs) least most;
        read = ap (λ n. Regions (regions_of n (flat_map region_text rs))) (omega (arith, bytes)) ∙ ap (λ x. Regions x) (regions-read rs fits);
        sized =
            ap (λ b. b && (memory_of (memory_text (table_head (length rs)))).num_regions == length infos && length (flat_map region_text rs) == MEMORY_REGION_SIZE * length infos)
            (eq-eqb (length (payload_text (Regions rs))) (8 + MEMORY_REGION_SIZE * length infos) (omega (arith, bytes, same)))
            ∙ ap (λ b. b && length (flat_map region_text rs) == MEMORY_REGION_SIZE * length infos)
            (eq-eqb (memory_of (memory_text (table_head (length rs)))).num_regions (length infos) (ap (λ m. m.num_regions) (head-read (length rs) most) ∙ same))
            ∙ eq-eqb (length (flat_map region_text rs)) (MEMORY_REGION_SIZE * length infos) (omega (arith, bytes, same));
      }

  -- an area that is not valid is read whole
  invalid-cut : (profile : Profile) (r : HeardReq) (i : VhostUserInflight) (handles : List H) (rest : List (Cell H)) → is_valid_inflight i ≡ false → InflightFits i → is_named r ≡ true
      → reply_cut shape.Inflight profile 0 (cells_of request_number (reply r (Replied (InflightArea i) handles)) ++ rest) ≡ (Err InvalidMessage, rest)
  invalid-cut Vhost r i handles rest invalid fits named =
      reply-invalid request_number is_known (is_valid_record shape.Inflight) (reply_to r (InflightArea i) handles) (inflight_text i) [] rest refl (request-small r named) (lit< tt) (reply-known r (InflightArea i) handles named (lit< tt)) (ap (λ x. is_valid_inflight x) (inflight-reads_back i fits) ∙ invalid)
  invalid-cut Standard r i handles rest invalid fits named =
      sized-read request_number is_known (is_valid_record shape.Inflight) (reply_to r (InflightArea i) handles) (inflight_text i) [] rest false refl (request-small r named) (lit< tt) (reply-known r (InflightArea i) handles named (lit< tt)) (ap (λ x. is_valid_inflight x) (inflight-reads_back i fits) ∙ invalid)

  -- it is refused, as the answer table says
  take-invalid : (asked : VhostUserInflight) (sent : Header) (f : Frontend) (r : HeardReq) (i : VhostUserInflight) (handles : List H) (rest : List (Cell H)) → has_bit sent.flags 2 ≡ false → is_valid_inflight i ≡ false → InflightFits i → is_named r ≡ true
      → take (GetInflightFd asked) (Reply shape.Inflight) sent f (cells_of request_number (reply r (Replied (InflightArea i) handles)) ++ rest) ≡ (answer (GetInflightFd asked) (Reply shape.Inflight) f (Replied (InflightArea i) handles), rest)
  take-invalid asked sent f r i handles rest flag invalid fits named =
      let w : Written HeardReq H = reply_to r (InflightArea i) handles in
      let cells : List (Cell H) = written_cells request_number w ++ rest in
      ap (λ b. cond b (Some (answered f (Err InvalidParam)), cells) (take_reply (GetInflightFd asked) shape.Inflight sent f cells)) flag
      ∙ ap (λ cut. (understood (GetInflightFd asked) (Reply shape.Inflight) sent f cut.0, cut.1)) (invalid-cut f.profile r i handles rest invalid fits named)
      ∙ ap (λ b. (Some (answered f (cond b (inflight_reply f i handles) (Err InvalidMessage))), rest)) (sym invalid)

  take-inflight : (asked : VhostUserInflight) (sent : Header) (f : Frontend) (r : HeardReq) (i : VhostUserInflight) (handles : List H) (rest : List (Cell H)) → IsSentFor r sent → InflightFits i
      → take (GetInflightFd asked) (Reply shape.Inflight) sent f (cells_of request_number (reply r (Replied (InflightArea i) handles)) ++ rest) ≡ (answer (GetInflightFd asked) (Reply shape.Inflight) f (Replied (InflightArea i) handles), rest)
  take-inflight asked sent f r i handles rest of_r fits = go (is_valid_inflight i) refl
    where
      go : (b : Bool) → is_valid_inflight i ≡ b → take (GetInflightFd asked) (Reply shape.Inflight) sent f (cells_of request_number (reply r (Replied (InflightArea i) handles)) ++ rest) ≡ (answer (GetInflightFd asked) (Reply shape.Inflight) f (Replied (InflightArea i) handles), rest)
      go true valid = take-replied H (GetInflightFd asked) shape.Inflight sent f r (InflightArea i) handles rest tt (readable-inflight (GetInflightFd asked) r i handles tt valid fits of_r.2) of_r.0 of_r.1
      go false invalid = take-invalid asked sent f r i handles rest of_r.1 invalid fits of_r.2

  -- ---- configuration bytes

  readable-config : (o n k : ℕ) (buffer : List ℕ) (r : HeardReq) (c : VhostUserConfig) (bytes : List ℕ) (handles : List H) → length bytes ≡ length buffer → 12 + length bytes ≤ MAX_MSG_SIZE → is_valid_config c ≡ true → ConfigFits c
      → is_named r ≡ true → IsReadable H (GetConfig o n k buffer) shape.Config r (ConfigBytes c bytes) handles
  readable-config o n k buffer r c bytes handles same small valid fits named = record {
    named = named;
    body = config_text c;
    more = bytes;
    text = refl;
    size = refl;
    rest = same;
    alone = tt;
    small = omega (arith, small);
    valid = ap (λ x. is_valid_config x) (config-reads_back c fits) ∙ valid;
    read = ap (λ x. ConfigBytes x bytes) (config-reads_back c fits);
    sized =
        ap (λ b. b && length bytes == length buffer) (eq-eqb (length (payload_text (ConfigBytes c bytes))) (12 + length buffer) (omega (arith, same)))
        ∙ eq-eqb (length bytes) (length buffer) same;
  }

  -- the test for a bare reply, by its parts
  bare-test : Header → Header → Bool → ℕ → Bool
  bare-test sent h brings size = is_known h && answers sent h && h.size == 12 && not brings && size == 0

  bare-known : (sent : Header) (r : HeardReq) (c : VhostUserConfig) → IsSentFor r sent → c.size ≡ 0 → ConfigFits c
      → bare-test sent (header_of (header_text (head_of request_number (reply_to {H = H} r (ConfigBytes c []) [])))) false (number_at 4 4 (config_text c)) ≡ true
  unfolding bare-test
  bare-known sent r c of_r none fits =
      let w : Written HeardReq H = reply_to r (ConfigBytes c []) [] in
      let h : Header = head_of request_number w in
      ap (λ x. bare-test sent x false (number_at 4 4 (config_text c))) (header-read h (request-small r of_r.2) (lit< tt) (lit< tt))
      ∙ ap (λ b. b && answers sent h && true && true && number_at 4 4 (config_text c) == 0) (reply-known {H = H} r (ConfigBytes c []) [] of_r.2 (lit< tt))
      ∙ ap (λ b. b && true && true && number_at 4 4 (config_text c) == 0) (reply-answers {H = H} r (ConfigBytes c []) [] sent of_r.2 of_r.0 of_r.1)
      ∙ eq-eqb (number_at 4 4 (config_text c)) 0 (ap (λ x. x.size) (config-reads_back c fits) ∙ none)

  -- a bare reply is read whole
  bare-cut : (profile : Profile) (sent : Header) (room : ℕ) (r : HeardReq) (c : VhostUserConfig) (rest : List (Cell H)) → IsSentFor r sent → c.size ≡ 0 → ConfigFits c
      → config_cut profile sent room (cells_of request_number (reply r (Replied (ConfigBytes c []) [])) ++ rest) ≡ (Ok None, rest)
  unfolding bare_or_reply bare-test
  bare-cut Vhost sent room r c rest of_r none fits =
      let cells : List (Cell H) = written_cells request_number (reply_to r (ConfigBytes c []) []) ++ rest in
      ap (λ x. cond x (Ok None, rest) (not_bare is_known (reply_split is_known 12 (is_valid_record shape.Config) room cells))) (bare-known sent r c of_r none fits)
  bare-cut Standard sent room r c rest of_r none fits =
      let w : Written HeardReq H = reply_to r (ConfigBytes c []) [] in
      ap (λ cut. then_made is_known (parted_or_none is_known (answers sent) (is_valid_record shape.Config) room) cut)
      (whole-read request_number (has_config_size is_known room) w rest (request-small r of_r.2) (lit< tt) (ap (λ b. b && true) (reply-known {H = H} r (ConfigBytes c []) [] of_r.2 (lit< tt))))
      ∙ ap (λ b. (cond (b && true && (number_at 4 4 (config_text c) == 0)) (Ok None) (right w), rest)) (reply-answers {H = H} r (ConfigBytes c []) [] sent of_r.2 of_r.0 of_r.1)
      ∙ ap (λ b. (cond b (Ok None) (right w), rest)) (eq-eqb (number_at 4 4 (config_text c)) 0 (ap (λ x. x.size) (config-reads_back c fits) ∙ none))
    where
      right : Written HeardReq H → Result (Option (Received H)) Error
      right w = let r = the_whole request_number is_known w in cond (is_right is_known 12 (is_valid_record shape.Config) room r) (Ok (Some (apart is_known 12 r))) (Err InvalidMessage)

  -- and taken whole
  take-bare : (o n k b : ℕ) (buffer : List ℕ) (sent : Header) (f : Frontend) (r : HeardReq) (c : VhostUserConfig) (rest : List (Cell H)) → IsSentFor r sent → c.size ≡ 0 → ConfigFits c
      → take (GetConfig o n k (b ∷ buffer)) (Reply shape.Config) sent f (cells_of request_number (reply r (Replied (ConfigBytes c []) [])) ++ rest)
      ≡ (answer (GetConfig o n k (b ∷ buffer)) (Reply shape.Config) f (Replied (ConfigBytes c []) []), rest)
  take-bare o n k b buffer sent f r c rest of_r none fits =
      let call : FrontendCall H = GetConfig o n k (b ∷ buffer) in
      let cells : List (Cell H) = written_cells request_number (reply_to r (ConfigBytes c []) []) ++ rest in
      ap (λ x. cond x (Some (answered f (Err InvalidParam)), cells) (take_reply call shape.Config sent f cells)) of_r.1
      ∙ ap (λ cut. (understood_config call sent f cut.0, cut.1)) (bare-cut f.profile sent (length (b ∷ buffer)) r c rest of_r none fits)
      ∙ ap (λ x. (Some (answered f (cond x (Err BackendInternalError) (only_if (c.offset == o && c.size == n && c.size == length (b ∷ buffer)) InvalidMessage (ConfigOf c [])))), rest)) (sym (ap (λ x. x && true) (eq-eqb c.size 0 none)))

  -- a reply with bytes is not bare: its size says so
  full-known : (sent : Header) (r : HeardReq) (c : VhostUserConfig) (x : ℕ) (bytes : List ℕ) (handles : List H) (brings : Bool) → IsSentFor r sent → 12 + length (x ∷ bytes) ≤ MAX_MSG_SIZE
      → bare-test sent (header_of (header_text (head_of request_number (reply_to {H = H} r (ConfigBytes c (x ∷ bytes)) handles)))) brings (number_at 4 4 (config_text c)) ≡ false
  unfolding bare-test
  full-known sent r c x bytes handles brings of_r small =
      let p : Payload = ConfigBytes c (x ∷ bytes) in
      let w : Written HeardReq H = reply_to r p handles in
      let h : Header = head_of request_number w in
      ap (λ y. bare-test sent y brings (number_at 4 4 (config_text c))) (header-read h (request-small r of_r.2) (lit< tt) (omega (arith, small)))
      ∙ ap (λ b. b && answers sent h && h.size == 12 && not brings && number_at 4 4 (config_text c) == 0) (reply-known {H = H} r p handles of_r.2 (omega (arith, small)))
      ∙ ap (λ b. b && h.size == 12 && not brings && number_at 4 4 (config_text c) == 0) (reply-answers {H = H} r p handles sent of_r.2 of_r.0 of_r.1)
      ∙ ap (λ b. b && not brings && number_at 4 4 (config_text c) == 0) (ne_eqb (length (payload_text p)) 12 (λ same. omega (arith, same)))

  -- nor is it empty
  full-some : (ans alone : Bool) (size : ℕ) (none : Bool) → 12 < size → (ans && alone && (size == 0 || size == 12 && none)) ≡ false
  full-some false alone size none large = refl
  full-some true false size none large = refl
  full-some true true size none large =
      ap (λ b. b || size == 12 && none) (ne_eqb size 0 (λ same. omega (arith, same, large)))
      ∙ ap (λ b. b && none) (ne_eqb size 12 (λ same. omega (arith, same, large)))

  -- but its size is one that it may have
  full-size : {known : Bool} (size room : ℕ) → size ≡ 12 + room → known ≡ true → (known && (size == 0 || size == 12 || size == 12 + room)) ≡ true
  full-size size room same known = ap (λ b. b && (size == 0 || size == 12 || size == 12 + room)) known ∙ or-last (size == 0) (size == 12) (size == 12 + room) (eq-eqb size (12 + room) same)
    where
      or-last : (a b c : Bool) → c ≡ true → (a || b || c) ≡ true
      or-last true b c h = refl
      or-last false true c h = refl
      or-last false false c h = h

  -- it is read with its bytes
  full-cut : (profile : Profile) (o n k b : ℕ) (buffer : List ℕ) (sent : Header) (r : HeardReq) (c : VhostUserConfig) (x : ℕ) (bytes : List ℕ) (handles : List H) (rest : List (Cell H)) → IsSentFor r sent → 12 + length (x ∷ bytes) ≤ MAX_MSG_SIZE
      → (kept : IsReadable H (GetConfig o n k (b ∷ buffer)) shape.Config r (ConfigBytes c (x ∷ bytes)) handles)
      → config_cut profile sent (length (b ∷ buffer)) (cells_of request_number (reply r (Replied (ConfigBytes c (x ∷ bytes)) handles)) ++ rest) ≡ (Ok (Some (the_reply H r (ConfigBytes c (x ∷ bytes)) handles kept.body kept.more)), rest)
  unfolding bare_or_reply bare-test
  full-cut Vhost o n k b buffer sent r c x bytes handles rest of_r small kept =
      let call : FrontendCall H = GetConfig o n k (b ∷ buffer) in
      let cells : List (Cell H) = written_cells request_number (reply_to r (ConfigBytes c (x ∷ bytes)) handles) ++ rest in
      ap (λ y. cond y (Ok None, drop 24 cells) (not_bare is_known (reply_split is_known 12 (is_valid_record shape.Config) (length (b ∷ buffer)) cells))) (full-known sent r c x bytes handles (has_some handles) of_r small)
      ∙ ap (λ y. not_bare is_known y) (split-cut H call shape.Config r (ConfigBytes c (x ∷ bytes)) handles rest kept)
  full-cut Standard o n k b buffer sent r c x bytes handles rest of_r small kept =
      ap (λ cut. then_made is_known (parted_or_none is_known (answers sent) valid (length (b ∷ buffer))) cut)
      (whole-read request_number (has_config_size is_known (length (b ∷ buffer))) w rest (request-small r of_r.2) (omega (arith, small)) (full-size (length (payload_text p)) (length (b ∷ buffer)) (omega (arith, kept.rest, kept.size, ap (λ y. length y) kept.text, length-append kept.body kept.more)) (reply-known {H = H} r p handles of_r.2 (omega (arith, small)))))
      ∙ ap (λ e. (cond e (Ok None) (right 12 (length (b ∷ buffer))), rest)) (full-some (answers sent (head_of request_number w)) (not (has_some handles)) (length (payload_text p)) (number_at 4 4 (payload_text p) == 0) (omega (arith, small)))
      ∙ ap (λ size. (right size (length (b ∷ buffer)), rest)) (sym kept.size)
      ∙ ap (λ room. (right (length (kept.body)) room, rest)) (sym kept.rest)
      ∙ ap (λ e. (cond e (Ok (Some (apart is_known (length (kept.body)) whole))) (Err InvalidMessage), rest)) (right-size request_number is_known valid w kept.body kept.more kept.text ∙ kept.valid)
      ∙ ap (λ y. (Ok (Some y), rest)) (apart-read request_number is_known valid w kept.body kept.more kept.text)
    where
      p : Payload
      p = ConfigBytes c (x ∷ bytes)

      w : Written HeardReq H
      w = reply_to r p handles

      valid : List ℕ → Bool
      valid = is_valid_record shape.Config

      whole : Received H
      whole = the_whole request_number is_known w

      right : ℕ → ℕ → Result (Option (Received H)) Error
      right size room = cond (is_right is_known size valid room whole) (Ok (Some (apart is_known size whole))) (Err InvalidMessage)

  -- it is taken with its bytes
  take-full : (o n k b : ℕ) (buffer : List ℕ) (sent : Header) (f : Frontend) (r : HeardReq) (c : VhostUserConfig) (bytes : List ℕ) (handles : List H) (rest : List (Cell H)) → IsSentFor r sent
      → length bytes ≡ length (b ∷ buffer) → 12 + length bytes ≤ MAX_MSG_SIZE → is_valid_config c ≡ true → ConfigFits c
      → take (GetConfig o n k (b ∷ buffer)) (Reply shape.Config) sent f (cells_of request_number (reply r (Replied (ConfigBytes c bytes) handles)) ++ rest)
      ≡ (answer (GetConfig o n k (b ∷ buffer)) (Reply shape.Config) f (Replied (ConfigBytes c bytes) handles), rest)
  take-full o n k b buffer sent f r c [] handles rest of_r same small valid fits = absurd (omega (arith, same))
  take-full o n k b buffer sent f r c (x ∷ bytes) handles rest of_r same small valid fits =
      let call : FrontendCall H = GetConfig o n k (b ∷ buffer) in
      let p : Payload = ConfigBytes c (x ∷ bytes) in
      let cells : List (Cell H) = written_cells request_number (reply_to r p handles) ++ rest in
      let kept : IsReadable H call shape.Config r p handles = readable-config o n k (b ∷ buffer) r c (x ∷ bytes) handles same small valid fits of_r.2 in
      ap (λ y. cond y (Some (answered f (Err InvalidParam)), cells) (take_reply call shape.Config sent f cells)) of_r.1
      ∙ ap (λ cut. (understood_config call sent f cut.0, cut.1)) (full-cut f.profile o n k b buffer sent r c x bytes handles rest of_r small kept)
      ∙ ap (λ y. (y, rest)) (reply-understood H call shape.Config sent f r p handles kept of_r.0 of_r.1)

  -- ---- all of them

  take-config : (call : FrontendCall H) (sent : Header) (f : Frontend) (r : HeardReq) (c : VhostUserConfig) (bytes : List ℕ) (handles : List H) (rest : List (Cell H)) → IsSentFor r sent → IsConfigOf call c bytes handles → ConfigFits c
      → take call (Reply shape.Config) sent f (cells_of request_number (reply r (Replied (ConfigBytes c bytes) handles)) ++ rest) ≡ (answer call (Reply shape.Config) f (Replied (ConfigBytes c bytes) handles), rest)
  take-config (GetConfig o n k []) sent f r c bytes handles rest of_r is fits = absurd is
  take-config (GetConfig o n k (b ∷ buffer)) sent f r c bytes handles rest of_r (inl bare) fits =
      subst {A = List ℕ × List H} (λ x. take call (Reply shape.Config) sent f (cells_of request_number (reply r (Replied (ConfigBytes c x.0) x.1)) ++ rest) ≡ (answer call (Reply shape.Config) f (Replied (ConfigBytes c x.0) x.1), rest))
      (λ i. (sym bare.1 i, sym bare.2 i)) (take-bare o n k b buffer sent f r c rest of_r bare.0 fits)
    where
      call : FrontendCall H
      call = GetConfig o n k (b ∷ buffer)
  take-config (GetConfig o n k (b ∷ buffer)) sent f r c bytes handles rest of_r (inr full) fits = take-full o n k b buffer sent f r c bytes handles rest of_r full.0 full.1 full.2 fits
  take-config _ sent f r c bytes handles rest of_r is fits = absurd is

  take-table : (call : FrontendCall H) (sent : Header) (f : Frontend) (r : HeardReq) (rs : List VhostUserMemoryRegion) (handles : List H) (rest : List (Cell H)) → IsSentFor r sent → IsTableOf call rs → All RegionFits rs
      → take call (Reply shape.Memory) sent f (cells_of request_number (reply r (Replied (Regions rs) handles)) ++ rest) ≡ (answer call (Reply shape.Memory) f (Replied (Regions rs) handles), rest)
  take-table (SetMemTable infos) sent f r rs handles rest of_r is fits =
      take-replied H (SetMemTable infos) shape.Memory sent f r (Regions rs) handles rest tt (readable-table infos r rs handles is.0 is.1 is.2 fits of_r.2) of_r.0 of_r.1
  take-table _ sent f r rs handles rest of_r is fits = absurd is

  take-area : (call : FrontendCall H) (sent : Header) (f : Frontend) (r : HeardReq) (i : VhostUserInflight) (handles : List H) (rest : List (Cell H)) → IsSentFor r sent → IsInflightOf call → InflightFits i
      → take call (Reply shape.Inflight) sent f (cells_of request_number (reply r (Replied (InflightArea i) handles)) ++ rest) ≡ (answer call (Reply shape.Inflight) f (Replied (InflightArea i) handles), rest)
  take-area (GetInflightFd asked) sent f r i handles rest of_r is fits = take-inflight asked sent f r i handles rest of_r fits
  take-area _ sent f r i handles rest of_r is fits = absurd is

  pub take-reply : TakesReply H
  take-reply call sent f r shape.Empty of_r Empty handles is fits rest = take-empty H call sent f r is of_r handles rest
  take-reply call sent f r shape.U64 of_r (U64 n) handles is fits rest = take-number H call sent f r is of_r n handles fits rest
  take-reply call sent f r shape.SingleMemoryRegion of_r (OneRegion v) handles is fits rest =
      take-replied H call shape.SingleMemoryRegion sent f r (OneRegion v) handles rest (short-plainly H call is) (readable-region call r v handles is fits of_r.2) of_r.0 of_r.1
  take-reply call sent f r shape.ShMemConfig of_r (Shmem c) handles is fits rest =
      take-replied H call shape.ShMemConfig sent f r (Shmem c) handles rest (short-plainly H call is) (readable-shmem call r c handles is fits of_r.2) of_r.0 of_r.1
  take-reply call sent f r shape.VringState of_r (RingState v) handles is fits rest =
      take-replied H call shape.VringState sent f r (RingState v) handles rest (short-plainly H call is) (readable-ring call r v handles is fits of_r.2) of_r.0 of_r.1
  take-reply call sent f r shape.Inflight of_r (InflightArea i) handles is fits rest = take-area call sent f r i handles rest of_r is fits
  take-reply call sent f r shape.Log of_r (LogArea l) handles is fits rest =
      take-replied H call shape.Log sent f r (LogArea l) handles rest (short-plainly H call is.0) (readable-log call r l handles is.0 is.1 fits of_r.2) of_r.0 of_r.1
  take-reply call sent f r shape.Memory of_r (Regions rs) handles is fits rest = take-table call sent f r rs handles rest of_r is fits
  take-reply call sent f r shape.Config of_r (ConfigBytes c bytes) handles is fits rest = take-config call sent f r c bytes handles rest of_r is fits
  take-reply call sent f r _ of_r _ handles is fits rest = absurd is

  -- ---- a silent handler

  nothing-config : (profile : Profile) (sent : Header) (room : ℕ) → config_cut {H = H} profile sent room [] ≡ (Err PartialMessage, [])
  unfolding bare_or_reply whole_split
  nothing-config Vhost sent room = refl
  nothing-config Standard sent room = refl

  silent-config : (o n k : ℕ) (buffer : List ℕ) (shape : Shape) (sent : Header) (f : Frontend) → take_reply {H = H} (GetConfig o n k buffer) shape sent f [] ≡ (answer (GetConfig o n k buffer) (Reply shape) f Silent, [])
  silent-config o n k [] shape sent f = refl
  silent-config o n k (b ∷ buffer) shape sent f =
      ap (λ cut. (understood_config {H = H} (GetConfig o n k (b ∷ buffer)) sent f cut.0, cut.1)) (nothing-config f.profile sent (length (b ∷ buffer)))

  -- a record of any shape is missing
  nothing-cut : (profile : Profile) (shape : Shape) (room : ℕ) → reply_cut {H = H} shape profile room [] ≡ (Err PartialMessage, [])
  unfolding reply_split whole_split
  nothing-cut Vhost shape.Empty room = refl
  nothing-cut Vhost shape.Log room = refl
  nothing-cut Vhost _ room = refl
  nothing-cut Standard shape.Log room = refl
  nothing-cut Standard _ room = refl

  silent-reply : (call : FrontendCall H) (shape : Shape) (sent : Header) (f : Frontend) → take_reply call shape sent f [] ≡ (answer call (Reply shape) f Silent, [])
  silent-reply (GetConfig o n k buffer) shape sent f = silent-config o n k buffer shape sent f
  silent-reply (SetMemTable infos) shape sent f = ap (λ cut. (understood (SetMemTable infos) (Reply shape) sent f cut.0, cut.1)) (nothing-cut f.profile shape (room (SetMemTable infos)))
  silent-reply call shape sent f = ap (λ cut. (understood call (Reply shape) sent f cut.0, cut.1)) (nothing-cut f.profile shape (room call))

  pub take-nothing : TakesNothing H
  take-nothing call Nobody sent f flag = refl
  take-nothing call Ack sent f flag = ap (λ cut. (understood call Ack sent f cut.0, cut.1)) (nothing-cut f.profile shape.U64 0)
  take-nothing call (Reply shape) sent f flag =
      ap (λ b. cond b (Some (answered f (Err InvalidParam)), []) (take_reply call shape sent f [])) flag ∙ silent-reply call shape sent f
