-- Frontend and handler stay in agreement, until the last step.
use Rattle.std.proofs.Common.{◌≡◌, ℕ, ◌^◌, ◌<◌, Bool, true, false, cond, ◌&&◌, List, [], ◌∷◌, length, Option, Some, None, Result, Ok, Err, refl, sym, ◌∙◌, ap, subst, is_ok, bit_and}
use Rattle.std.specs.Prelude.{◌==◌, nat_le}
use Rattle.std.specs.List.{list_all}
use Rattle.std.proofs.lemmas.Nat.{and_comm, and_assoc}
use Rattle.std.specs.Int.Bits.{and_self}
use Rattle.byteorder.specs.Numbers.{little_number-reads_back}
use Rattle.vhost_message.specs.declared.limits.TheConstants.{MAX_MEM_REGIONS}
use Rattle.vhost_message.specs.Bits.{has_bit}
use Rattle.vhost_message.specs.declared.heard_req.HeardReq.{HeardReq}
use Rattle.vhost_message.specs.declared.heard_req.HeardReq.TheVariants.{GET_FEATURES, SET_FEATURES, SET_MEM_TABLE, SET_PROTOCOL_FEATURES, POSTCOPY_LISTEN, POSTCOPY_END, ADD_MEM_REG, GET_QUEUE_NUM}
use Rattle.vhost_message.specs.declared.postcopy.PostcopyState.TheVariants.{Advise, Listen, End}
use Rattle.vhost_message.specs.declared.records.config.VhostUserConfig.{VhostUserConfig}
use Rattle.vhost_message.specs.declared.records.inflight.VhostUserInflight.{VhostUserInflight}
use Rattle.vhost_message.specs.declared.records.memory.VhostUserSingleMemoryRegion.{VhostUserSingleMemoryRegion}
use Rattle.vhost_message.specs.declared.records.shared.VhostUserSharedMsg.{VhostUserSharedMsg}
use Rattle.vhost_message.specs.declared.records.transfer.VhostUserTransferDeviceState.{VhostUserTransferDeviceState}
use Rattle.vhost_message.specs.declared.records.log.VhostUserLog.{VhostUserLog}
use Rattle.vhost_message.specs.declared.records.shmem.VhostUserShMemConfig.{VhostUserShMemConfig}
use Rattle.vhost_message.specs.declared.records.vring.VhostUserVringState.{VhostUserVringState}
use Rattle.vhost_message.specs.Records.{u64_at, single_region, single_region_of}
use Rattle.vhost_message.specs.Text.{digits}
use Rattle.vhost_protocol.specs.Error.{test}
use Rattle.vhost_protocol.specs.Agreement.{IsNegotiated, IsKnown, AllKnown, StaysInStep, KeepsStep}
use Rattle.vhost_protocol.specs.AnswerTable.{answered, after_success}
use Rattle.vhost_protocol.specs.Ask.{Asked, Sends, ask, awaited_ack, awaited_turn, frontend_feature, needs_reply, turning, message, unacknowledged, sends, asks_unacknowledged, param, regions_in, handles_in, is_usable, given, ◌>>◌, ◌>>=◌}
use Rattle.vhost_protocol.specs.declared.asked.Awaited.{Awaited}
use Rattle.vhost_protocol.specs.declared.asked.Awaited.TheVariants.{Nobody, Ack, Reply}
use Rattle.vhost_protocol.specs.declared.asked.Shape.{Shape}
use Rattle.vhost_protocol.specs.declared.asked.Shape.TheVariants as shape
use Rattle.vhost_protocol.specs.DeviceCall as device
use Rattle.vhost_protocol.specs.Error.{Error, InvalidMessage, InactiveFeature, BackendInternalError}
use Rattle.vhost_protocol.specs.Features.{PROTOCOL_FEATURES, REPLY_ACK, PAGEFAULT}
use Rattle.vhost_protocol.specs.Profile.{is_standard}
use Rattle.vhost_protocol.specs.FrontendCall.{FrontendCall, GetFeatures, SetFeatures, GetProtocolFeatures, SetProtocolFeatures, GetQueueNum, SetMemTable, SetLogBase, SetLogFd, SetVringCall, SetVringKick, SetVringErr, GetVringBase, GetConfig, GetSharedObject, GetInflightFd, GetMaxMemSlots, AddMemRegion, GetShmemConfig, SetDeviceStateFd, CheckDeviceState, PostcopyAdvise, PostcopyListen, PostcopyEnd, PostcopyAckMemRegions, SetHdrFlags, Info, LogRegion, Number, Frontend}
use Rattle.vhost_protocol.specs.Joined.{AgreeOn, is_end, read_as}
use Rattle.vhost_protocol.specs.Answered.{if_agreed, rebased, with_features, with_handle, with_inflight, with_state, with_check, with_config, with_base, with_bases}
use Rattle.vhost_protocol.specs.Row.{row, body, always, channel, is_valid_table, mapped_row, table}
use Rattle.vhost_protocol.specs.Served.{Silent, Acknowledged}
use Rattle.vhost_protocol.specs.Session.{Session, ack_on, is_listen}
use Rattle.vhost_protocol.specs.Step as step
use Rattle.vhost_protocol.specs.Step.{Outcome, Step, Calls, with_ack, silently, acknowledged}
use Rattle.vhost_protocol.specs.Split.{Message}
use Rattle.vhost_protocol.specs.Written.{Empty, U64, Regions, OneRegion, RingState, Shmem, LogArea, ConfigBytes, Written, Payload}

-- what both have and one of them has
pub acked-stays : (n offered : ℕ) → bit_and (bit_and n offered) n ≡ bit_and n offered
acked-stays n offered = and_comm (bit_and n offered) n ∙ sym (and_assoc offered n n) ∙ ap (λ x. bit_and x offered) (and_self n)

module _ (H B G : Type 0) where
  abbrev Stays : Session → FrontendCall H → Asked H → Type 0
  Stays s call asked = StaysInStep B G s call asked

  abbrev Row : FrontendCall H → Awaited → Frontend → HeardReq → Session → Step H B G → Type 0
  Row call awaited g r s next = AllKnown call awaited g r s next

  -- an error in silence is known, and the last step
  known-silent : (call : FrontendCall H) (awaited : Awaited) (g : Frontend) (r : HeardReq) (e : Error) (s : Session) → IsKnown call awaited g r (record { answer = Err e; served = Silent; session = s })
  known-silent call Nobody g r e s = record { to_caller = _; known = refl; agree = λ last. absurd (cc last) }
  known-silent call Ack g r e s = record { to_caller = _; known = refl; agree = λ last. absurd (cc last) }
  known-silent call (Reply shape) g r e s = record { to_caller = _; known = refl; agree = λ last. absurd (cc last) }

  -- ---- tests

  -- a test that refuses in silence
  known-then : (call : FrontendCall H) (awaited : Awaited) (g : Frontend) (r : HeardReq) (s : Session) (b : Bool) (e : Error) (next : Step H B G) → Row call awaited g r s next → Row call awaited g r s (step.◌>>◌ (test b (silently e)) next)
  known-then call awaited g r s true e next h = h
  known-then call awaited g r s false e next h = known-silent call awaited g r e s

  known-if : (call : FrontendCall H) (awaited : Awaited) (g : Frontend) (r : HeardReq) (s : Session) (A : Type 0) (b : Bool) (a : A) (e : Error) (next : A → Step H B G) → Row call awaited g r s (next a) → Row call awaited g r s (step.◌>>=◌ (cond b (Ok a) (Err (silently e))) next)
  known-if call awaited g r s A true a e next h = h
  known-if call awaited g r s A false a e next h = known-silent call awaited g r e s

  known-cond : (call : FrontendCall H) (awaited : Awaited) (g : Frontend) (r : HeardReq) (s : Session) (b : Bool) (x y : Step H B G) → Row call awaited g r s x → Row call awaited g r s y → Row call awaited g r s (cond b x y)
  known-cond call awaited g r s true x y h k = h
  known-cond call awaited g r s false x y h k = k

  -- ---- acknowledgements

  -- what the frontend waits for is what the handler writes
  pub ack-agrees : (g : Frontend) (s : Session) → AgreeOn g s → IsNegotiated g → awaited_ack g ≡ cond (ack_on s && needs_reply g) Ack Nobody
  ack-agrees g s agree on =
      both (has_bit g.acked_protocol_features REPLY_ACK) (has_bit g.offered PROTOCOL_FEATURES) (has_bit g.header_flags 3) (is_standard g.profile) on
      ∙ ap (λ x. cond (has_bit x PROTOCOL_FEATURES && has_bit g.acked_protocol_features REPLY_ACK && needs_reply g) Ack Nobody) agree.offered
      ∙ ap (λ x. cond (has_bit s.offered PROTOCOL_FEATURES && has_bit x REPLY_ACK && needs_reply g) Ack Nobody) agree.acked_protocol_features
    where
      both : (x o n p : Bool) → (x ≡ true → o ≡ true) → cond (x && n) Ack Nobody ≡ cond (o && x && (n && cond p x true)) Ack Nobody
      both true true true true h = refl
      both true true true false h = refl
      both true true false p h = refl
      both true false n p h = absurd (cc (h refl))
      both false true n p h = refl
      both false false n p h = refl

  -- an acknowledged answer
  known-acked : (A : Type 0) (call : FrontendCall H) (g : Frontend) (r : HeardReq) (s : Session) (b : Bool) (a : Result A Error) → (is_ok a ≡ true → AgreeOn (after_success g call) s) → (is_ok a ≡ false → is_end r ≡ false → AgreeOn g s)
      → IsKnown call (cond b Ack Nobody) g r (record { answer = step.done a; served = cond b (Acknowledged (is_ok a)) Silent; session = s })
  known-acked A call g r s true (Ok a) agreed refused = record { to_caller = _; known = refl; agree = λ last. agreed refl }
  known-acked A call g r s true (Err e) agreed refused = record { to_caller = _; known = refl; agree = λ last. refused refl last }
  known-acked A call g r s false (Ok a) agreed refused = record { to_caller = _; known = refl; agree = λ last. agreed refl }
  known-acked A call g r s false (Err e) agreed refused = record { to_caller = _; known = refl; agree = λ last. absurd (cc last) }

  -- the same, for a call that sends its session on
  known-ack : (A : Type 0) (call : FrontendCall H) (f : Frontend) (t : Session) (w : Written HeardReq H) (a : Result A Error) → awaited_ack f ≡ cond (ack_on t && needs_reply f) Ack Nobody → w.need_reply ≡ needs_reply f
      → (is_ok a ≡ true → AgreeOn (after_success f call) t) → (is_ok a ≡ false → is_end w.request ≡ false → AgreeOn f t)
      → IsKnown call (awaited_ack f) f w.request (with_ack t (read_as w) a)
  known-ack A call f t w a same wants agreed refused =
      subst (λ x. IsKnown call x f w.request (with_ack t (read_as w) a)) (sym (same ∙ ap (λ x. cond (ack_on t && x) Ack Nobody) (sym wants)))
      (known-acked A call f w.request t (ack_on t && w.need_reply) a agreed refused)

  -- and changes no session
  known-same : (call : FrontendCall H) (f : Frontend) (s : Session) (r : HeardReq) (payload : Payload) (handles : List H) (a : Result (Unit {0}) Error) → AgreeOn f s → IsNegotiated f → after_success f call ≡ f → IsKnown call (awaited_ack f) f r (with_ack s (read_as (message f r payload handles)) a)
  known-same call f s r payload handles a agree on same = known-ack (Unit {0}) call f s (message f r payload handles) a (ack-agrees f s agree on) refl (λ h. subst (λ x. AgreeOn x s) (sym same) agree) (λ h last. agree)

  -- an error that is acknowledged
  known-refused : (call : FrontendCall H) (f : Frontend) (s : Session) (r : HeardReq) (payload : Payload) (handles : List H) (e : Error) (b : Bool) (next : Step H B G) → AgreeOn f s → IsNegotiated f → after_success f call ≡ f
      → Row call (awaited_ack f) f r s next → Row call (awaited_ack f) f r s (step.◌>>◌ (test b (acknowledged s (read_as (message f r payload handles)) e)) next)
  known-refused call f s r payload handles e true next agree on same h = h
  known-refused call f s r payload handles e false next agree on same h = known-same call f s r payload handles (Err e) agree on same

  -- a handle that may open no channel
  known-channel : (C : Type 0) (call : FrontendCall H) (f : Frontend) (s : Session) (r : HeardReq) (payload : Payload) (handles : List H) (opened : Result C Error) (next : C → Step H B G) → AgreeOn f s → IsNegotiated f → after_success f call ≡ f
      → ((c : C) → Row call (awaited_ack f) f r s (next c)) → Row call (awaited_ack f) f r s (step.◌>>=◌ (channel s (read_as (message f r payload handles)) opened) next)
  known-channel C call f s r payload handles (Ok c) next agree on same h = h c
  known-channel C call f s r payload handles (Err e) next agree on same h = known-same call f s r payload handles (Err e) agree on same

  -- the handler's own answer goes nowhere
  known-unwritten : (call : FrontendCall H) (awaited : Awaited) (f : Frontend) (s : Session) (r : HeardReq) (a : Result (Unit {0}) Error) → AgreeOn f s → after_success f call ≡ f → IsKnown call awaited f r (step.unwritten s a)
  known-unwritten call Nobody f s r (Ok u) agree same = record { to_caller = _; known = refl; agree = λ last. subst (λ x. AgreeOn x s) (sym same) agree }
  known-unwritten call Ack f s r (Ok u) agree same = record { to_caller = _; known = refl; agree = λ last. agree }
  known-unwritten call (Reply shape) f s r (Ok u) agree same = record { to_caller = _; known = refl; agree = λ last. agree }
  known-unwritten call awaited f s r (Err e) agree same = known-silent call awaited f r e s

  -- ---- the frontend's tests

  ask-then : (s : Session) (call : FrontendCall H) (x : Result (Unit {0}) Error) (next : Asked H) → Stays s call next → Stays s call (x >> next)
  ask-then s call (Ok u) next h = h
  ask-then s call (Err e) next h = tt

  ask-given : (A : Type 0) (s : Session) (call : FrontendCall H) (x : Option A) (next : A → Asked H) → ((a : A) → Stays s call (next a)) → Stays s call (given x >>= next)
  ask-given A s call (Some a) next h = h a
  ask-given A s call None next h = tt

  ask-cond : (s : Session) (call : FrontendCall H) (b : Bool) (x y : Asked H) → Stays s call x → Stays s call y → Stays s call (cond b x y)
  ask-cond s call true x y h k = h
  ask-cond s call false x y h k = k

  -- ---- replies

  known-features : (f : Frontend) (s : Session) (a : Result ℕ Error) → AgreeOn f s → IsKnown {H = H} GetFeatures (Reply shape.U64) f GET_FEATURES (with_features s a)
  known-features f s (Ok n) agree = record { to_caller = _; known = refl; agree = λ last. record { offered = refl; acked_protocol_features = agree.acked_protocol_features; postcopy = agree.postcopy; acked = agree.acked; profile = agree.profile } }
  known-features f s (Err e) agree = known-silent GetFeatures (Reply shape.U64) f GET_FEATURES e s

  -- a reply whose answer changes no session
  known-reply : (A : Type 0) (call : FrontendCall H) (shape : Shape) (f : Frontend) (s : Session) (r : HeardReq) (payload : A → Payload) (a : Result A Error)
      → ((x : A) → IsKnown call (Reply shape) f r (step.replied s (payload x) [])) → IsKnown call (Reply shape) f r (step.replied_or_silent s payload a)
  known-reply A call shape f s r payload (Ok x) h = h x
  known-reply A call shape f s r payload (Err e) h = known-silent call (Reply shape) f r e s

  known-queues : (f : Frontend) (s : Session) (n : ℕ) → AgreeOn f s → IsKnown {H = H} GetQueueNum (Reply shape.U64) f GET_QUEUE_NUM (step.replied s (U64 n) [])
  known-queues f s n agree = record { to_caller = _; known = refl; agree = λ last. go (nat_le n 0x8000) }
    where
      go : (b : Bool) → AgreeOn (cond b (answered {H = H} (record f { max_queue_num = n }) (Ok (Number n))) (answered f (Err InvalidMessage))).session s
      go true = record { offered = agree.offered; acked_protocol_features = agree.acked_protocol_features; postcopy = agree.postcopy; acked = agree.acked; profile = agree.profile }
      go false = agree

  known-config : (call : FrontendCall H) (f : Frontend) (s : Session) (r : HeardReq) (c : VhostUserConfig) (a : Result (List ℕ) Error)
      → ((d : VhostUserConfig) (bytes : List ℕ) → IsKnown call (Reply shape.Config) f r (step.replied s (ConfigBytes d bytes) [])) → IsKnown call (Reply shape.Config) f r (with_config s c a)
  known-config call f s r c (Ok bytes) h = go (length bytes == c.size)
    where
      go : (b : Bool) → IsKnown call (Reply shape.Config) f r (cond b (step.replied s (ConfigBytes c bytes) []) (step.replied s (ConfigBytes (record c { size = 0 }) []) []))
      go true = h c bytes
      go false = h (record c { size = 0 }) []
  known-config call f s r c (Err e) h = h (record c { size = 0 }) []

  known-object : (f : Frontend) (s : Session) (r : HeardReq) (name : VhostUserSharedMsg) (a : Result H Error) → AgreeOn f s → IsKnown (GetSharedObject name) (Reply shape.Empty) f r (with_handle s a)
  known-object f s r name (Ok h) agree = record { to_caller = _; known = refl; agree = λ last. agree }
  known-object f s r name (Err e) agree = record { to_caller = _; known = refl; agree = λ last. agree }

  known-inflight : (f : Frontend) (s : Session) (r : HeardReq) (asked : VhostUserInflight) (a : Result (VhostUserInflight × H) Error) → AgreeOn f s → IsKnown (GetInflightFd asked) (Reply shape.Inflight) f r (with_inflight s a)
  known-inflight f s r asked (Ok x) agree = record { to_caller = _; known = refl; agree = λ last. agree }
  known-inflight f s r asked (Err e) agree = known-silent (GetInflightFd asked) (Reply shape.Inflight) f r e s

  known-state : (f : Frontend) (s : Session) (r : HeardReq) (t : VhostUserTransferDeviceState) (h : H) (a : Result (Option H) Error) → AgreeOn f s → IsKnown (SetDeviceStateFd t h) (Reply shape.U64) f r (with_state s a)
  known-state f s r t h (Ok (Some g)) agree = record { to_caller = _; known = refl; agree = λ last. agree }
  known-state f s r t h (Ok None) agree = record { to_caller = _; known = refl; agree = λ last. agree }
  known-state f s r t h (Err e) agree = record { to_caller = _; known = refl; agree = λ last. agree }

  known-check : (f : Frontend) (s : Session) (r : HeardReq) (a : Result (Unit {0}) Error) → AgreeOn f s → IsKnown {H = H} CheckDeviceState (Reply shape.U64) f r (with_check s a)
  known-check f s r (Ok u) agree = record { to_caller = _; known = refl; agree = λ last. agree }
  known-check f s r (Err e) agree = record { to_caller = _; known = refl; agree = λ last. agree }

  ruleset silent = (ask-then, ask-given, ask-cond, known-silent, known-then, known-if, known-cond)

  ruleset known = (silent, known-same, known-unwritten, known-refused, known-channel, known-features, known-object, known-inflight, known-state, known-check)

  simple-log_fd : (f : Frontend) (s : Session) (h : H) → AgreeOn f s → IsNegotiated f → Stays s (SetLogFd h) (ask f (SetLogFd h))
  simple-log_fd f s h agree on = search known depth 12

  -- ---- replies that change no session

  simple-protocol_features : (f : Frontend) (s : Session) → AgreeOn f s → IsNegotiated f → Stays s GetProtocolFeatures (ask f GetProtocolFeatures)
  simple-protocol_features f s agree on = search (silent, known-reply, back) depth 12
    where
      back : (r : HeardReq) (n : ℕ) → IsKnown {H = H} GetProtocolFeatures (Reply shape.U64) f r (step.replied s (U64 n) [])
      back r n = record { to_caller = _; known = refl; agree = λ last. agree }

  simple-queues : (f : Frontend) (s : Session) → AgreeOn f s → IsNegotiated f → Stays s GetQueueNum (ask f GetQueueNum)
  simple-queues f s agree on = search (silent, known-reply, known-queues) depth 12

  simple-slots : (f : Frontend) (s : Session) → AgreeOn f s → IsNegotiated f → Stays s GetMaxMemSlots (ask f GetMaxMemSlots)
  simple-slots f s agree on = search (silent, known-reply, back) depth 12
    where
      back : (r : HeardReq) (n : ℕ) → IsKnown {H = H} GetMaxMemSlots (Reply shape.U64) f r (step.replied s (U64 n) [])
      back r n = record { to_caller = _; known = refl; agree = λ last. agree }

  simple-get_base : (f : Frontend) (s : Session) (i : ℕ) → AgreeOn f s → IsNegotiated f → Stays s (GetVringBase i) (ask f (GetVringBase i))
  simple-get_base f s i agree on = search (silent, known-reply, back) depth 12
    where
      back : (r : HeardReq) (v : VhostUserVringState) → IsKnown {H = H} (GetVringBase i) (Reply shape.VringState) f r (step.replied s (RingState v) [])
      back r v = record { to_caller = _; known = refl; agree = λ last. agree }

  simple-shmem : (f : Frontend) (s : Session) → AgreeOn f s → IsNegotiated f → Stays s GetShmemConfig (ask f GetShmemConfig)
  simple-shmem f s agree on = search (silent, known-reply, back) depth 12
    where
      back : (r : HeardReq) (c : VhostUserShMemConfig) → IsKnown {H = H} GetShmemConfig (Reply shape.ShMemConfig) f r (step.replied s (Shmem c) [])
      back r c = record { to_caller = _; known = refl; agree = λ last. agree }

  simple-log : (f : Frontend) (s : Session) (base : ℕ) (r : LogRegion H) → AgreeOn f s → IsNegotiated f → Stays s (SetLogBase base (Some r)) (ask f (SetLogBase base (Some r)))
  simple-log f s base r agree on = search (silent, known-reply, back) depth 12
    where
      back : (q : HeardReq) (l : VhostUserLog) → IsKnown {H = H} (SetLogBase base (Some r)) (Reply shape.Log) f q (step.replied s (LogArea l) [])
      back q l = record { to_caller = _; known = refl; agree = λ last. agree }

  simple-no_log : (f : Frontend) (s : Session) (base : ℕ) → AgreeOn f s → IsNegotiated f → Stays s (SetLogBase base None) (ask f (SetLogBase base None))
  simple-no_log f s base agree on = search silent depth 12

  simple-get_config : (f : Frontend) (s : Session) (o n flags : ℕ) (buffer : List ℕ) → AgreeOn f s → IsNegotiated f → Stays s (GetConfig o n flags buffer) (ask f (GetConfig o n flags buffer))
  simple-get_config f s o n flags buffer agree on = search (silent, known-config, back) depth 12
    where
      back : (r : HeardReq) (c : VhostUserConfig) (bytes : List ℕ) → IsKnown {H = H} (GetConfig o n flags buffer) (Reply shape.Config) f r (step.replied s (ConfigBytes c bytes) [])
      back r c bytes = record { to_caller = _; known = refl; agree = λ last. agree }

  -- ---- postcopy

  simple-advise : (f : Frontend) (s : Session) → AgreeOn f s → IsNegotiated f → Stays s PostcopyAdvise (ask f PostcopyAdvise)
  simple-advise f s agree on = search (silent, advised) depth 12
    where
      advised : (r : HeardReq) (a : Result H Error) → IsKnown PostcopyAdvise (Reply shape.Empty) f r (with_handle (if_agreed s Advise a) a)
      advised r (Ok h) = record { to_caller = _; known = refl; agree = λ last. record { offered = agree.offered; acked_protocol_features = agree.acked_protocol_features; postcopy = refl; acked = agree.acked; profile = agree.profile } }
      advised r (Err e) = record { to_caller = _; known = refl; agree = λ last. agree }

  -- what the frontend waits for is what the handler writes, of a message that turns both
  pub turn-agrees : (g : Frontend) (s : Session) (r : HeardReq) → AgreeOn g s → IsNegotiated g → awaited_turn g ≡ cond (ack_on s && (turning {H = H} g r).need_reply) Ack Nobody
  turn-agrees g s r agree on =
      both (has_bit g.acked_protocol_features REPLY_ACK) (has_bit g.offered PROTOCOL_FEATURES) (has_bit g.header_flags 3) (is_standard g.profile) on
      ∙ ap (λ x. cond (has_bit x PROTOCOL_FEATURES && has_bit g.acked_protocol_features REPLY_ACK && (turning {H = H} g r).need_reply) Ack Nobody) agree.offered
      ∙ ap (λ x. cond (has_bit s.offered PROTOCOL_FEATURES && has_bit x REPLY_ACK && (turning {H = H} g r).need_reply) Ack Nobody) agree.acked_protocol_features
    where
      both : (x o n p : Bool) → (x ≡ true → o ≡ true) → cond p (cond x Ack Nobody) (cond (x && n) Ack Nobody) ≡ cond (o && x && cond p x (n && cond p x true)) Ack Nobody
      both true true true true h = refl
      both true true true false h = refl
      both true true false true h = refl
      both true true false false h = refl
      both true false n p h = absurd (cc (h refl))
      both false true n true h = refl
      both false true n false h = refl
      both false false n true h = refl
      both false false n false h = refl

  -- where the handler listens, so does the frontend; a refused start leaves both as they were
  simple-listen : (f : Frontend) (s : Session) → AgreeOn f s → IsNegotiated f → Stays s PostcopyListen (ask f PostcopyListen)
  simple-listen f s agree on = search (silent, listened) depth 12
    where
      w : Written HeardReq H
      w = turning f POSTCOPY_LISTEN

      turned : (t : Session) (a : Result (Unit {0}) Error) → (is_ok a ≡ true → AgreeOn (record f { postcopy = Listen }) (record s { postcopy = t.postcopy })) → (is_ok a ≡ false → AgreeOn f (record s { postcopy = t.postcopy }))
          → IsKnown PostcopyListen (awaited_turn f) f POSTCOPY_LISTEN (with_ack (record s { postcopy = t.postcopy }) (read_as w) a)
      turned t a agreed refused = subst (λ x. IsKnown PostcopyListen x f POSTCOPY_LISTEN (with_ack (record s { postcopy = t.postcopy }) (read_as w) a)) (sym (turn-agrees f s POSTCOPY_LISTEN agree on))
          (known-acked (Unit {0}) PostcopyListen f POSTCOPY_LISTEN (record s { postcopy = t.postcopy }) (ack_on s && w.need_reply) a agreed (λ h last. refused h))

      listened : (a : Result (Unit {0}) Error) → IsKnown PostcopyListen (awaited_turn f) f POSTCOPY_LISTEN (with_ack (if_agreed s Listen a) (read_as w) a)
      listened (Ok u) = turned (record s { postcopy = Listen }) (Ok u)
          (λ h. record { offered = agree.offered; acked_protocol_features = agree.acked_protocol_features; postcopy = refl; acked = agree.acked; profile = agree.profile }) (λ h. absurd (cc h))
      listened (Err e) = turned s (Err e) (λ h. absurd (cc h)) (λ h. agree)

  -- a refused end is the last step; under Standard its reply is settled
  simple-end : (f : Frontend) (s : Session) → is_standard f.profile ≡ false → AgreeOn f s → IsNegotiated f → Stays s PostcopyEnd (ask f PostcopyEnd)
  simple-end f s vhost agree on = subst (λ p. Stays s PostcopyEnd (sent p)) (sym vhost) (search (silent, ended) depth 12)
    where
      -- by whether the profile is Standard
      sent : Bool → Asked H
      sent p = frontend_feature f PAGEFAULT >> Sends (record (message f POSTCOPY_END Empty []) { need_reply = cond p (has_bit f.acked_protocol_features REPLY_ACK) (needs_reply f) }) (cond p (Reply shape.U64) (awaited_ack f)) f

      w : Written HeardReq H
      w = message f POSTCOPY_END Empty []

      ended : (a : Result (Unit {0}) Error) → IsKnown PostcopyEnd (awaited_ack f) f POSTCOPY_END (with_ack (record s { postcopy = End }) (read_as w) a)
      ended a = known-ack (Unit {0}) PostcopyEnd f (record s { postcopy = End }) w a (ack-agrees f s agree on) refl
          (λ h. record { offered = agree.offered; acked_protocol_features = agree.acked_protocol_features; postcopy = refl; acked = agree.acked; profile = agree.profile }) (λ h last. absurd (cc last))

  -- ---- features

  simple-set_features : (f : Frontend) (s : Session) (n : ℕ) → n < 2 ^ 64 → AgreeOn f s → IsNegotiated f → Stays s (SetFeatures n) (ask f (SetFeatures n))
  simple-set_features f s n fits agree on = search (silent, stored) depth 12
    where
      g : Frontend
      g = record f { acked = bit_and n f.offered }

      w : Written HeardReq H
      w = message g SET_FEATURES (U64 n) []

      both : AgreeOn g (record s { acked = n })
      both = record { offered = agree.offered; acked_protocol_features = agree.acked_protocol_features; postcopy = agree.postcopy; acked = acked-stays n f.offered; profile = agree.profile }

      stored : (a : Result (Unit {0}) Error) → IsKnown {H = H} (SetFeatures n) (awaited_ack g) g SET_FEATURES (with_ack (record s { acked = u64_at 0 (digits 8 n) }) (read_as w) a)
      stored a = subst (λ k. IsKnown {H = H} (SetFeatures n) (awaited_ack g) g SET_FEATURES (with_ack (record s { acked = k }) (read_as w) a)) (sym (little_number-reads_back 8 n [] fits))
          (known-ack (Unit {0}) (SetFeatures n) g (record s { acked = n }) w a (ack-agrees f s agree on) refl (λ h. both) (λ h last. both))

  simple-set_protocol_features : (f : Frontend) (s : Session) (n : ℕ) → n < 2 ^ 64 → AgreeOn f s → Stays s (SetProtocolFeatures n) (ask f (SetProtocolFeatures n))
  simple-set_protocol_features f s n fits agree = go (has_bit f.offered PROTOCOL_FEATURES) refl
    where
      g : Frontend
      g = record f { acked_protocol_features = n }

      w : Written HeardReq H
      w = message g SET_PROTOCOL_FEATURES (U64 n) []

      both : AgreeOn g (record s { acked_protocol_features = n })
      both = record { offered = agree.offered; acked_protocol_features = refl; postcopy = agree.postcopy; acked = agree.acked; profile = agree.profile }

      stored : has_bit f.offered PROTOCOL_FEATURES ≡ true → (a : Result (Unit {0}) Error) → IsKnown {H = H} (SetProtocolFeatures n) (awaited_ack g) g SET_PROTOCOL_FEATURES (with_ack (record s { acked_protocol_features = u64_at 0 (digits 8 n) }) (read_as w) a)
      stored offers a = subst (λ k. IsKnown {H = H} (SetProtocolFeatures n) (awaited_ack g) g SET_PROTOCOL_FEATURES (with_ack (record s { acked_protocol_features = k }) (read_as w) a)) (sym (little_number-reads_back 8 n [] fits))
          (known-ack (Unit {0}) (SetProtocolFeatures n) g (record s { acked_protocol_features = n }) w a (ack-agrees g (record s { acked_protocol_features = n }) both (λ on. offers)) refl (λ h. both) (λ h last. both))

      served : has_bit f.offered PROTOCOL_FEATURES ≡ true → Row (SetProtocolFeatures n) (awaited_ack g) g SET_PROTOCOL_FEATURES s (row s (read_as w))
      served offers = search (silent, stored) depth 12

      go : (b : Bool) → has_bit f.offered PROTOCOL_FEATURES ≡ b → Stays s (SetProtocolFeatures n) (cond b (Ok tt) (Err (InactiveFeature (2 ^ PROTOCOL_FEATURES))) >> Sends w (awaited_ack g) g)
      go true offers = served offers
      go false closed = tt

  -- ---- regions

  -- where no acknowledgement is wanted, an error is silent
  known-hushed : (call : FrontendCall H) (awaited : Awaited) (g : Frontend) (r : HeardReq) (e : Error) (s : Session) (on agreed : Bool) → IsKnown call awaited g r (record { answer = Err e; served = cond (on && false) (Acknowledged agreed) Silent; session = s })
  known-hushed call awaited g r e s true agreed = known-silent call awaited g r e s
  known-hushed call awaited g r e s false agreed = known-silent call awaited g r e s

  known-hushed_then : (call : FrontendCall H) (awaited : Awaited) (g : Frontend) (s : Session) (r : HeardReq) (payload : Payload) (handles : List H) (e : Error) (b : Bool) (next : Step H B G)
      → Row call awaited g r s next → Row call awaited g r s (step.◌>>◌ (test b (acknowledged s (read_as (unacknowledged g r payload handles)) e)) next)
  known-hushed_then call awaited g s r payload handles e true next h = h
  known-hushed_then call awaited g s r payload handles e false next h = known-hushed call awaited g r e s (ack_on s) false

  -- and so is an agreement
  known-hushed_ack : (call : FrontendCall H) (g : Frontend) (s : Session) (r : HeardReq) (payload : Payload) (handles : List H) (a : Result (Unit {0}) Error) → AgreeOn g s → after_success g call ≡ g
      → IsKnown call Nobody g r (with_ack s (read_as (unacknowledged g r payload handles)) a)
  known-hushed_ack call g s r payload handles (Ok u) agree same = hush (ack_on s)
    where
      hush : (on : Bool) → IsKnown call Nobody g r (record { answer = Ok tt; served = cond (on && false) (Acknowledged true) Silent; session = s })
      hush true = record { to_caller = _; known = refl; agree = λ last. subst (λ x. AgreeOn x s) (sym same) agree }
      hush false = record { to_caller = _; known = refl; agree = λ last. subst (λ x. AgreeOn x s) (sym same) agree }
  known-hushed_ack call g s r payload handles (Err e) agree same = known-hushed call Nobody g r e s (ack_on s) false

  -- what a device answers about a region reaches no session
  known-plain : (call : FrontendCall H) (f : Frontend) (s : Session) (r : HeardReq) (payload : Payload) (handles : List H) (A : Type 0) (a : Result (Option A) Error) → AgreeOn f s → IsNegotiated f → after_success f call ≡ f → IsKnown call (awaited_ack f) f r (with_ack s (read_as (message f r payload handles)) a)
  known-plain call f s r payload handles A a agree on same = known-ack (Option A) call f s (message f r payload handles) a (ack-agrees f s agree on) refl (λ h. subst (λ x. AgreeOn x s) (sym same) agree) (λ h last. agree)

  known-bases : (f : Frontend) (s : Session) (infos : List (Info H)) (payload : Payload) (handles : List H) (a : Result (Option (List ℕ)) Error) → AgreeOn f s
      → IsKnown (SetMemTable infos) (Reply shape.Memory) f SET_MEM_TABLE (with_bases s (read_as (unacknowledged f SET_MEM_TABLE payload handles)) (table (read_as (unacknowledged f SET_MEM_TABLE payload handles))) a)
  known-bases f s infos payload handles (Ok (Some bases)) agree = go (length bases == length (table m))
    where
      m : Message HeardReq H
      m = read_as (unacknowledged f SET_MEM_TABLE payload handles)

      go : (b : Bool) → IsKnown (SetMemTable infos) (Reply shape.Memory) f SET_MEM_TABLE (cond b (step.replied s (Regions (rebased (table m) bases)) []) (step.failed_with s m BackendInternalError))
      go true = record { to_caller = _; known = refl; agree = λ last. agree }
      go false = known-hushed (SetMemTable infos) (Reply shape.Memory) f SET_MEM_TABLE BackendInternalError s (ack_on s) false
  known-bases f s infos payload handles (Ok None) agree = known-hushed (SetMemTable infos) (Reply shape.Memory) f SET_MEM_TABLE BackendInternalError s (ack_on s) false
  known-bases f s infos payload handles (Err e) agree = known-hushed (SetMemTable infos) (Reply shape.Memory) f SET_MEM_TABLE e s (ack_on s) false

  known-base : (f : Frontend) (s : Session) (info : Info H) (payload : Payload) (handles : List H) (r : VhostUserSingleMemoryRegion) (a : Result (Option ℕ) Error) → AgreeOn f s
      → IsKnown (AddMemRegion info) (Reply shape.SingleMemoryRegion) f ADD_MEM_REG (with_base s (read_as (unacknowledged f ADD_MEM_REG payload handles)) r a)
  known-base f s info payload handles r (Ok (Some base)) agree = record { to_caller = _; known = refl; agree = λ last. agree }
  known-base f s info payload handles r (Ok None) agree = known-hushed (AddMemRegion info) (Reply shape.SingleMemoryRegion) f ADD_MEM_REG BackendInternalError s (ack_on s) false
  known-base f s info payload handles r (Err e) agree = known-hushed (AddMemRegion info) (Reply shape.SingleMemoryRegion) f ADD_MEM_REG e s (ack_on s) false

  -- both listen, or neither does
  listens-alike : (f : Frontend) (s : Session) → AgreeOn f s → is_listen f.postcopy ≡ is_listen s.postcopy
  listens-alike f s agree = ap (λ x. is_listen x) agree.postcopy

  simple-mem_table : (f : Frontend) (s : Session) (infos : List (Info H)) → AgreeOn f s → IsNegotiated f → Stays s (SetMemTable infos) (ask f (SetMemTable infos))
  simple-mem_table f s infos agree on =
      ask-then s (SetMemTable infos) (param (nat_le 1 (length infos) && nat_le (length infos) MAX_MEM_REGIONS && list_all is_usable infos)) (sent (is_listen f.postcopy))
      (go (is_listen f.postcopy) (listens-alike f s agree))
    where
      payload : Payload
      payload = Regions (regions_in infos)

      sent : Bool → Asked H
      sent b = cond b (asks_unacknowledged f SET_MEM_TABLE payload (handles_in infos) shape.Memory) (sends f SET_MEM_TABLE payload (handles_in infos))

      listening : Message HeardReq H → Bool → Step H B G
      listening m b = cond (b && length m.body == 8) (mapped_row s m) (step.◌>>◌ (test (is_valid_table s m) (acknowledged s m InvalidMessage)) (cond b (Calls (device.SetMemTable (table m) m.handles (Some true)) (with_bases s m (table m))) (Calls (device.SetMemTable (table m) m.handles (Some false)) (with_ack s m))))

      aloud : Message HeardReq H
      aloud = read_as (message f SET_MEM_TABLE payload (handles_in infos))

      hushed : Message HeardReq H
      hushed = read_as (unacknowledged f SET_MEM_TABLE payload (handles_in infos))

      go : (b : Bool) → b ≡ is_listen s.postcopy → Stays s (SetMemTable infos) (sent b)
      go true same = subst (λ b. Row (SetMemTable infos) (Reply shape.Memory) f SET_MEM_TABLE s (listening hushed b)) same (search (silent, known-unwritten, known-hushed_then, known-bases) depth 12)
      go false same = subst (λ b. Row (SetMemTable infos) (awaited_ack f) f SET_MEM_TABLE s (listening aloud b)) same (search (silent, known-refused, known-plain) depth 12)

  simple-add_region : (f : Frontend) (s : Session) (info : Info H) → AgreeOn f s → IsNegotiated f → Stays s (AddMemRegion info) (ask f (AddMemRegion info))
  simple-add_region f s info agree on = search (silent, sent) depth 12
    where
      payload : Payload
      payload = OneRegion (single_region info.region)

      listening : Message HeardReq H → Bool → H → Step H B G
      listening m b h = cond (b && length m.body == 8) (mapped_row s m) (step.◌>>=◌ (body 40 single_region_of always m)
          (λ r. cond b (Calls (device.AddMemRegion r h (Some true)) (with_base s m r)) (Calls (device.AddMemRegion r h (Some false)) (with_ack s m))))

      go : (h : H) (b : Bool) → b ≡ is_listen s.postcopy → Stays s (AddMemRegion info) (cond b (asks_unacknowledged f ADD_MEM_REG payload (h ∷ []) shape.SingleMemoryRegion) (sends f ADD_MEM_REG payload (h ∷ [])))
      go h true same = known-then (AddMemRegion info) (Reply shape.SingleMemoryRegion) f ADD_MEM_REG s _ _ _
          (subst (λ b. Row (AddMemRegion info) (Reply shape.SingleMemoryRegion) f ADD_MEM_REG s (listening (read_as (unacknowledged f ADD_MEM_REG payload (h ∷ []))) b h)) same (search (silent, known-base) depth 12))
      go h false same = known-then (AddMemRegion info) (awaited_ack f) f ADD_MEM_REG s _ _ _
          (subst (λ b. Row (AddMemRegion info) (awaited_ack f) f ADD_MEM_REG s (listening (read_as (message f ADD_MEM_REG payload (h ∷ []))) b h)) same (search (silent, known-plain) depth 12))

      sent : (h : H) → Stays s (AddMemRegion info) (cond (is_listen f.postcopy) (asks_unacknowledged f ADD_MEM_REG payload (h ∷ []) shape.SingleMemoryRegion) (sends f ADD_MEM_REG payload (h ∷ [])))
      sent h = go h (is_listen f.postcopy) (listens-alike f s agree)

  -- the frontend says that it has mapped the regions, and awaits nothing
  simple-mapped : (f : Frontend) (s : Session) (r : HeardReq) → AgreeOn f s → Stays s (PostcopyAckMemRegions r) (ask f (PostcopyAckMemRegions r))
  simple-mapped f s SET_MEM_TABLE agree = go (is_listen s.postcopy)
    where
      m : Message HeardReq H
      m = read_as (unacknowledged f SET_MEM_TABLE (U64 0) [])

      listening : Bool → Step H B G
      listening b = cond (b && true) (mapped_row s m) (step.◌>>◌ (test (is_valid_table s m) (acknowledged s m InvalidMessage)) (cond b (Calls (device.SetMemTable (table m) m.handles (Some true)) (with_bases s m (table m))) (Calls (device.SetMemTable (table m) m.handles (Some false)) (with_ack s m))))

      dropped : (A : Type 0) (a : Result A Error) → IsKnown {H = H} (PostcopyAckMemRegions SET_MEM_TABLE) Nobody f SET_MEM_TABLE (with_ack s m a)
      dropped A (Ok x) = known-hushed_ack (PostcopyAckMemRegions SET_MEM_TABLE) f s SET_MEM_TABLE (U64 0) [] (Ok tt) agree refl
      dropped A (Err e) = known-hushed (PostcopyAckMemRegions SET_MEM_TABLE) Nobody f SET_MEM_TABLE e s (ack_on s) false

      go : (b : Bool) → Row (PostcopyAckMemRegions SET_MEM_TABLE) Nobody f SET_MEM_TABLE s (listening b)
      go true = search (silent, known-unwritten) depth 12
      go false = search (silent, known-hushed_then, dropped) depth 12
  simple-mapped f s ADD_MEM_REG agree = search (silent, known-unwritten) depth 12
  simple-mapped f s _ agree = tt

  -- ---- all calls

  pub keeps-step : KeepsStep H B G
  keeps-step f s (SetFeatures n) other agree on fits = simple-set_features f s n fits agree on
  keeps-step f s GetProtocolFeatures other agree on fits = simple-protocol_features f s agree on
  keeps-step f s (SetProtocolFeatures n) other agree on fits = simple-set_protocol_features f s n fits agree
  keeps-step f s GetQueueNum other agree on fits = simple-queues f s agree on
  keeps-step f s (SetMemTable infos) other agree on fits = simple-mem_table f s infos agree on
  keeps-step f s (SetLogBase base None) other agree on fits = simple-no_log f s base agree on
  keeps-step f s (SetLogBase base (Some r)) other agree on fits = simple-log f s base r agree on
  keeps-step f s (SetLogFd h) other agree on fits = simple-log_fd f s h agree on
  keeps-step f s (GetVringBase i) other agree on fits = simple-get_base f s i agree on
  keeps-step f s (GetConfig o n flags buffer) other agree on fits = simple-get_config f s o n flags buffer agree on
  keeps-step f s GetMaxMemSlots other agree on fits = simple-slots f s agree on
  keeps-step f s (AddMemRegion info) other agree on fits = simple-add_region f s info agree on
  keeps-step f s GetShmemConfig other agree on fits = simple-shmem f s agree on
  keeps-step f s PostcopyAdvise other agree on fits = simple-advise f s agree on
  keeps-step f s PostcopyListen other agree on fits = simple-listen f s agree on
  keeps-step f s PostcopyEnd other agree on fits = simple-end f s other agree on
  keeps-step f s (PostcopyAckMemRegions r) other agree on fits = simple-mapped f s r agree
  keeps-step f s (SetVringCall i None) other agree on fits = search known depth 12
  keeps-step f s (SetVringCall i (Some h)) other agree on fits = search known depth 12
  keeps-step f s (SetVringKick i None) other agree on fits = search known depth 12
  keeps-step f s (SetVringKick i (Some h)) other agree on fits = search known depth 12
  keeps-step f s (SetVringErr i None) other agree on fits = search known depth 12
  keeps-step f s (SetVringErr i (Some h)) other agree on fits = search known depth 12
  keeps-step f s (SetHdrFlags flags) other agree on fits = record { offered = agree.offered; acked_protocol_features = agree.acked_protocol_features; postcopy = agree.postcopy; acked = agree.acked; profile = agree.profile }
  keeps-step f s _ other agree on fits = search known depth 12
