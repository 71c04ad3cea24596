-- Both sides under Standard: no stop in silence.
use Rattle.std.proofs.Common.{◌≡◌, ℕ, length, Bool, true, false, cond, ◌&&◌, ◌||◌, List, [], ◌∷◌, Option, Some, None, Result, Ok, Err, refl, sym, ap, ◌∙◌, subst, is_ok, bit_and, ◌<◌, ◌^◌}
use Rattle.std.specs.Prelude.{◌==◌, not, is_err, codes, ⊤}
use Rattle.vhost_message.specs.declared.heard_req.HeardReq.{HeardReq}
use Rattle.vhost_message.specs.declared.heard_req.HeardReq.TheVariants.{SET_FEATURES, SET_PROTOCOL_FEATURES, POSTCOPY_LISTEN, POSTCOPY_END, SET_MEM_TABLE, ADD_MEM_REG, SET_LOG_BASE}
use Rattle.vhost_message.specs.declared.records.config.VhostUserConfig.{VhostUserConfig}
use Rattle.vhost_message.specs.declared.records.inflight.VhostUserInflight.{VhostUserInflight}
use Rattle.vhost_message.specs.declared.records.memory.VhostUserMemoryRegion.{VhostUserMemoryRegion}
use Rattle.vhost_message.specs.declared.records.memory.VhostUserSingleMemoryRegion.{VhostUserSingleMemoryRegion}
use Rattle.vhost_message.specs.declared.records.shared.VhostUserSharedMsg.{VhostUserSharedMsg}
use Rattle.vhost_message.specs.declared.records.transfer.VhostUserTransferDeviceState.{VhostUserTransferDeviceState}
use Rattle.byteorder.specs.Numbers.{little_number-reads_back}
use Rattle.vhost_message.specs.declared.postcopy.PostcopyState.TheVariants.{Listen, End}
use Rattle.vhost_protocol.proofs.AgreeLaws.{keeps-step, ack-agrees, turn-agrees, acked-stays}
use Rattle.vhost_protocol.specs.Answered.{calls, if_agreed, rebased, with_features, with_handle, with_inflight, with_state, with_check, with_config, with_base, with_bases}
use Rattle.vhost_protocol.specs.declared.asked.Shape.{Shape}
use Rattle.vhost_protocol.specs.declared.asked.Shape.TheVariants as shape
use Rattle.vhost_protocol.specs.Row.{row, row_of}
use Rattle.vhost_protocol.specs.Step as step
use Rattle.vhost_protocol.specs.Written.{Payload, Empty, U64, ConfigBytes, InflightArea, LogArea, Regions, Written, payload_text}
use Rattle.vhost_protocol.specs.declared.profile.Profile.{Profile}
use Rattle.vhost_protocol.specs.declared.profile.Profile.TheVariants.{Vhost, Standard}
use Rattle.vhost_protocol.specs.Agreement.{IsKnown, AllKnown, StaysInStep, IsNegotiated, is_settled_end}
use Rattle.vhost_protocol.specs.AnswerTable.{after_success}
use Rattle.vhost_protocol.specs.Answering.{IsHeard, AllHeard, StaysHeard, NoSilentStop}
use Rattle.vhost_protocol.specs.Ask.{Asked, Refuses, Answers, Sends, ask, sends, sends_base, asks, message, unacknowledged, log_area, awaited_ack, awaited_turn, frontend_feature, turning, given, ◌>>◌, ◌>>=◌}
use Rattle.vhost_protocol.specs.declared.asked.Awaited.{Awaited}
use Rattle.vhost_protocol.specs.declared.asked.Awaited.TheVariants.{Nobody, Ack, Reply}
use Rattle.vhost_protocol.specs.DeviceCall as device
use Rattle.vhost_protocol.specs.DeviceCall.{Answer}
use Rattle.vhost_protocol.specs.Error.{Error, InvalidMessage, InvalidOperation, InactiveFeature, InactiveOperation, BackendInternalError, test}
use Rattle.vhost_protocol.specs.FrontendCall.{FrontendCall, GetConfig, GetInflightFd, GetSharedObject, PostcopyAdvise, PostcopyListen, PostcopyEnd, PostcopyAckMemRegions, SetDeviceStateFd, CheckDeviceState, SetFeatures, SetProtocolFeatures, SetLogBase, LogRegion, SetVringCall, SetVringKick, SetVringErr, SetHdrFlags, Frontend}
use Rattle.vhost_protocol.specs.Joined.{AgreeOn, is_end, read_as}
use Rattle.vhost_message.specs.Bits.{has_bit}
use Rattle.vhost_protocol.specs.Features.{LOG_SHMFD, PROTOCOL_FEATURES, PAGEFAULT}
use Rattle.vhost_protocol.specs.Profile.{is_standard}
use Rattle.vhost_protocol.specs.Served.{Served, Silent, Acknowledged, Replied}
use Rattle.vhost_protocol.specs.Session.{Session, ack_on, is_advise, is_listen}
use Rattle.vhost_protocol.specs.Settled.{has_reply, awaits_reply, awaits_ack, is_unanswered, is_fatal, ended, saying, refused_reply, spoken, settled}
use Rattle.vhost_protocol.specs.Split.{Message}
use Rattle.vhost_protocol.specs.Step.{Outcome, Refusal, Step, Refused, Calls, OpensBackend, OpensGpu, replied, replied_or_silent, failed_with, with_ack, silently}

-- a reply was written
abbrev is_replied : {H : Type 0} → Served H → Bool
is_replied (Replied payload handles) = true
is_replied _ = false

module _ (H : Type 0) where
  -- one of four, by what each is under
  pick : (R n F A : Bool) (x y z w : Outcome H) (P : Outcome H → Type 0) → (R ≡ true → n ≡ true → P x) → P y → (R ≡ false → A ≡ true → P z) → (R ≡ false → A ≡ false → P w) → P (cond (R && n) x (cond (F || R) y (cond A z w)))
  pick true true F A x y z w P hx hy hz hw = hx refl refl
  pick true false true A x y z w P hx hy hz hw = hy
  pick true false false A x y z w P hx hy hz hw = hy
  pick false n true A x y z w P hx hy hz hw = hy
  pick false n false true x y z w P hx hy hz hw = hz refl refl
  pick false n false false x y z w P hx hy hz hw = hw refl refl

  -- What a call awaits is what its request is answered with: the form that refuses is known, or an acknowledgement comes where one is awaited.
  pub record IsAwaitedWell (call : FrontendCall H) (awaited : Awaited) (g : Frontend) (s : Session) (m : Message HeardReq H) : Type 0 where
    pub own : awaits_reply s m ≡ true → not m.reply ≡ true → (a : Result ⊤ Error) → IsHeard call awaited g (refused_reply m.request m.body (record { answer = a; served = Silent; session = s }))
    pub acks : awaits_reply s m ≡ false → (ack_on s && m.need_reply) ≡ true → awaited ≡ Ack

  module _ (call : FrontendCall H) (awaited : Awaited) (g : Frontend) (s : Session) (m : Message HeardReq H) (agree : AgreeOn g s) (same : after_success g call ≡ g) (other : is_end m.request ≡ false) (well : IsAwaitedWell call awaited g s m) where
    -- an acknowledgement that is awaited
    acked : (a : Result ⊤ Error) → IsHeard call Ack g (record { answer = a; served = Acknowledged (is_ok a); session = s })
    acked (Ok u) = record { to_caller = _; known = refl; agree = λ goes_on. subst (λ x. AgreeOn x s) (sym same) agree }
    acked (Err e) = record { to_caller = _; known = refl; agree = λ goes_on. agree }

    -- nothing comes
    unheard : (x : Awaited) (a : Result ⊤ Error) → IsHeard call x g (record { answer = a; served = Silent; session = s })
    unheard Nobody a = record { to_caller = _; known = refl; agree = λ goes_on. subst (λ x. AgreeOn x s) (sym same) agree }
    unheard Ack a = record { to_caller = _; known = refl; agree = λ goes_on. agree }
    unheard (Reply shape) a = record { to_caller = _; known = refl; agree = λ goes_on. agree }

    -- silence
    silent-heard : (a : Result ⊤ Error) → IsHeard call awaited g (spoken s m (record { answer = a; served = Silent; session = s }))
    silent-heard a = pick (awaits_reply s m) (not m.reply) (is_fatal m o) (awaits_ack m o) (refused_reply m.request m.body o) (ended o) (saying o (Acknowledged (is_ok a))) o (λ x. IsHeard call awaited g x)
        (λ waits plain. well.own waits plain a)
        (record { to_caller = (unheard awaited a).to_caller; known = (unheard awaited a).known; agree = λ goes_on. absurd (cc goes_on) })
        (λ none wants. subst (λ x. IsHeard call x g (saying o (Acknowledged (is_ok a)))) (sym (well.acks none wants)) (acked a))
        (λ none wants. unheard awaited a)
      where
        o : Outcome H
        o = record { answer = a; served = Silent; session = s }

    -- what was written is not the last step
    not-last : (a : Result ⊤ Error) → (is_err a && is_end m.request) ≡ false
    not-last (Ok u) = refl
    not-last (Err e) = other

    -- nothing that was waited for was written, and the session is as it was
    unanswered-heard : (a : Result ⊤ Error) (t : Session) → t ≡ s → IsHeard call awaited g (spoken s m (record { answer = a; served = Silent; session = t }))
    unanswered-heard a t same = subst (λ x. IsHeard call awaited g (spoken s m (record { answer = a; served = Silent; session = x }))) (sym same) (silent-heard a)

    by-served : (p : Profile) → p ≡ Standard → (a : Result ⊤ Error) (v : Served H) (t : Session) → (is_replied v ≡ false → t ≡ s) → IsKnown call awaited g m.request (record { answer = a; served = v; session = t })
        → IsHeard call awaited g (cond (is_standard p && is_unanswered (awaits_reply s m) v) (spoken s m (record { answer = a; served = Silent; session = t })) (record { answer = a; served = v; session = t }))
    by-served Standard e a (Acknowledged b) t quiet k = go (awaits_reply s m)
      where
        go : (u : Bool) → IsHeard call awaited g (cond u (spoken s m (record { answer = a; served = Silent; session = t })) (record { answer = a; served = Acknowledged b; session = t }))
        go true = unanswered-heard a t (quiet refl)
        go false = record { to_caller = k.to_caller; known = k.known; agree = λ goes_on. k.agree (not-last a) }
    by-served Standard e a (Replied payload hs) t quiet k = record { to_caller = k.to_caller; known = k.known; agree = λ goes_on. k.agree (not-last a) }
    by-served Standard e a Silent t quiet k = unanswered-heard a t (quiet refl)
    by-served Vhost e a v t quiet k = absurd (cc e)

    -- What the answer table knows of the table's outcome, it knows of the settled one, and no silence is the last step.
    pub settled-heard : s.profile ≡ Standard → (o : Outcome H) → (is_replied o.served ≡ false → o.session ≡ s) → IsKnown call awaited g m.request o → IsHeard call awaited g (settled s m o)
    settled-heard e o quiet k = by-served s.profile e o.answer o.served o.session quiet k

-- ---- rows that leave the session where they say nothing

module _ (H B G : Type 0) where
  -- whatever the device answers
  abbrev AllQuiet : Session → Step H B G → Type 0
  AllQuiet s (Refused refusal) = ⊤
  AllQuiet s (Calls c next) = (a : Answer c) → is_replied (next a).served ≡ false → (next a).session ≡ s
  AllQuiet s (OpensBackend h next) = (opened : Result B Error) → AllQuiet s (next opened)
  AllQuiet s (OpensGpu h next) = (opened : Result G Error) → AllQuiet s (next opened)

  -- the four requests that turn the session
  abbrev is_plain : HeardReq → Bool
  is_plain SET_FEATURES = false
  is_plain SET_PROTOCOL_FEATURES = false
  is_plain POSTCOPY_LISTEN = false
  is_plain POSTCOPY_END = false
  is_plain _ = true

  quiet-then : (s : Session) (t : Result (Unit {0}) (Refusal H)) (next : Step H B G) → AllQuiet s next → AllQuiet s (step.◌>>◌ t next)
  quiet-then s (Ok u) next h = h
  quiet-then s (Err r) next h = tt

  quiet-bind : (A : Type 0) (s : Session) (t : Result A (Refusal H)) (next : A → Step H B G) → ((a : A) → AllQuiet s (next a)) → AllQuiet s (step.◌>>=◌ t next)
  quiet-bind A s (Ok a) next h = h a
  quiet-bind A s (Err r) next h = tt

  quiet-if : (s : Session) (b : Bool) (x y : Step H B G) → AllQuiet s x → AllQuiet s y → AllQuiet s (cond b x y)
  quiet-if s true x y h k = h
  quiet-if s false x y h k = k

  quiet-number : (A : Type 0) (s : Session) (payload : A → Payload) (a : Result A Error) → is_replied (replied_or_silent {H = H} s payload a).served ≡ false → (replied_or_silent {H = H} s payload a).session ≡ s
  quiet-number A s payload (Ok a) h = refl
  quiet-number A s payload (Err e) h = refl

  quiet-handle : (s t : Session) (a : Result H Error) → is_replied (with_handle t a).served ≡ false → (with_handle t a).session ≡ s
  quiet-handle s t (Ok a) h = absurd (cc h)
  quiet-handle s t (Err e) h = absurd (cc h)

  quiet-inflight : (s : Session) (a : Result (VhostUserInflight × H) Error) → is_replied (with_inflight s a).served ≡ false → (with_inflight s a).session ≡ s
  quiet-inflight s (Ok a) h = refl
  quiet-inflight s (Err e) h = refl

  quiet-state : (s : Session) (a : Result (Option H) Error) → is_replied (with_state s a).served ≡ false → (with_state s a).session ≡ s
  quiet-state s (Ok (Some x)) h = refl
  quiet-state s (Ok None) h = refl
  quiet-state s (Err e) h = refl

  quiet-check : (s : Session) (a : Result (Unit {0}) Error) → is_replied (with_check {H = H} s a).served ≡ false → (with_check {H = H} s a).session ≡ s
  quiet-check s (Ok u) h = refl
  quiet-check s (Err e) h = refl

  quiet-features : (s : Session) (a : Result ℕ Error) → is_replied (with_features {H = H} s a).served ≡ false → (with_features {H = H} s a).session ≡ s
  quiet-features s (Ok a) h = absurd (cc h)
  quiet-features s (Err e) h = refl

  quiet-config : (s : Session) (c : VhostUserConfig) (a : Result (List ℕ) Error) → is_replied (with_config {H = H} s c a).served ≡ false → (with_config {H = H} s c a).session ≡ s
  quiet-config s c (Ok bytes) h = go (length bytes == c.size)
    where
      go : (b : Bool) → (cond b (replied {H = H} s (ConfigBytes c bytes) []) (replied s (ConfigBytes (record c { size = 0 }) []) [])).session ≡ s
      go true = refl
      go false = refl
  quiet-config s c (Err e) h = refl

  quiet-base : (s : Session) (m : Message HeardReq H) (r : VhostUserSingleMemoryRegion) (a : Result (Option ℕ) Error) → is_replied (with_base s m r a).served ≡ false → (with_base s m r a).session ≡ s
  quiet-base s m r (Ok (Some base)) h = refl
  quiet-base s m r (Ok None) h = refl
  quiet-base s m r (Err e) h = refl

  quiet-bases : (s : Session) (m : Message HeardReq H) (regions : List VhostUserMemoryRegion) (a : Result (Option (List ℕ)) Error) → is_replied (with_bases s m regions a).served ≡ false → (with_bases s m regions a).session ≡ s
  quiet-bases s m regions (Ok (Some bases)) h = go (length bases == length regions)
    where
      go : (b : Bool) → (cond b (replied s (Regions (rebased regions bases)) []) (failed_with s m BackendInternalError)).session ≡ s
      go true = refl
      go false = refl
  quiet-bases s m regions (Ok None) h = refl
  quiet-bases s m regions (Err e) h = refl

  ruleset quiet = (quiet-then, quiet-bind, quiet-if, quiet-number, quiet-handle, quiet-inflight, quiet-state, quiet-check, quiet-features, quiet-config, quiet-base, quiet-bases)

  rows-quiet : (r : HeardReq) (s : Session) (m : Message HeardReq H) → is_plain r ≡ true → AllQuiet s (row_of r s m)
  rows-quiet SET_FEATURES s m e = absurd (cc e)
  rows-quiet SET_PROTOCOL_FEATURES s m e = absurd (cc e)
  rows-quiet POSTCOPY_LISTEN s m e = absurd (cc e)
  rows-quiet POSTCOPY_END s m e = absurd (cc e)
  rows-quiet SET_MEM_TABLE s m e = search quiet depth 12
  rows-quiet _ s m e = search quiet depth 12

  -- ---- from the table to what is settled

  all-heard : (call : FrontendCall H) (awaited : Awaited) (g : Frontend) (s : Session) (m : Message HeardReq H) → s.profile ≡ Standard → AgreeOn g s → after_success g call ≡ g → is_end m.request ≡ false → IsAwaitedWell H call awaited g s m
      → (x : Step H B G) → AllKnown call awaited g m.request s x → AllQuiet s x → AllHeard call awaited g s m x
  all-heard call awaited g s m e agree same other well (Refused refusal) known quiet = settled-heard H call awaited g s m agree same other well e _ (λ h. refl) known
  all-heard call awaited g s m e agree same other well (Calls c next) known quiet = λ a. settled-heard H call awaited g s m agree same other well e (next a) (quiet a) (known a)
  all-heard call awaited g s m e agree same other well (OpensBackend h next) known quiet = λ opened. all-heard call awaited g s m e agree same other well (next opened) (known opened) (quiet opened)
  all-heard call awaited g s m e agree same other well (OpensGpu h next) known quiet = λ opened. all-heard call awaited g s m e agree same other well (next opened) (known opened) (quiet opened)

  -- a message that is sent well
  abbrev SentWell : Session → FrontendCall H → Asked H → Type 0
  SentWell s call (Sends w awaited g) = AgreeOn g s × (after_success g call ≡ g) × (is_end w.request ≡ false) × (is_plain w.request ≡ true) × IsAwaitedWell H call awaited g s (read_as w)
  SentWell s call _ = ⊤

  heard-asked : (s : Session) (call : FrontendCall H) (x : Asked H) → s.profile ≡ Standard → StaysInStep B G s call x → SentWell s call x → StaysHeard B G s call x
  heard-asked s call (Refuses e) p known well = tt
  heard-asked s call (Answers v g) p known well = known
  heard-asked s call (Sends w awaited g) p known (agree, same, other, plain, well) = all-heard call awaited g s (read_as w) p agree same other well (row s (read_as w)) known (rows-quiet w.request s (read_as w) plain)

  -- ---- what each call awaits

  sent-then : (s : Session) (call : FrontendCall H) (x : Result (Unit {0}) Error) (next : Asked H) → SentWell s call next → SentWell s call (x >> next)
  sent-then s call (Ok u) next h = h
  sent-then s call (Err e) next h = tt

  sent-given : (A : Type 0) (s : Session) (call : FrontendCall H) (x : Option A) (next : A → Asked H) → ((a : A) → SentWell s call (next a)) → SentWell s call (given x >>= next)
  sent-given A s call (Some a) next h = h a
  sent-given A s call None next h = tt

  sent-cond : (s : Session) (call : FrontendCall H) (b : Bool) (x y : Asked H) → SentWell s call x → SentWell s call y → SentWell s call (cond b x y)
  sent-cond s call true x y h k = h
  sent-cond s call false x y h k = k

  -- one that may be acknowledged
  sent-plain : (call : FrontendCall H) (f : Frontend) (s : Session) (r : HeardReq) (payload : Payload) (handles : List H) → AgreeOn f s → IsNegotiated f → after_success f call ≡ f → is_end r ≡ false → is_plain r ≡ true
      → has_reply r s (length (payload_text payload)) ≡ false → SentWell s call (sends f r payload handles)
  sent-plain call f s r payload handles agree on same other plain none = (agree, same, other, plain, record { own = λ waits. absurd (cc (sym none ∙ waits)); acks = λ none wants. ack-agrees H B G f s agree on ∙ ap (λ x. cond x Ack Nobody) wants })

  -- one that has a reply
  sent-asked : (call : FrontendCall H) (f : Frontend) (s : Session) (r : HeardReq) (payload : Payload) (handles : List H) (shape : Shape) → AgreeOn f s → after_success f call ≡ f → is_end r ≡ false → is_plain r ≡ true
      → has_reply r s (length (payload_text payload)) ≡ true
      → ((a : Result ⊤ Error) → IsHeard call (Reply shape) f (refused_reply r (payload_text payload) (record { answer = a; served = Silent; session = s }))) → SentWell s call (asks f r payload handles shape)
  sent-asked call f s r payload handles shape agree same other plain own form = (agree, same, other, plain, record { own = λ waits plainly. form; acks = λ none wants. absurd (cc (sym own ∙ none)) })

  -- no form refuses: the session ends
  heard-ended : (call : FrontendCall H) (shape : Shape) (f : Frontend) (s : Session) (a : Result ⊤ Error) → IsHeard call (Reply shape) f (ended (record { answer = a; served = Silent; session = s }))
  heard-ended call shape f s a = record { to_caller = _; known = refl; agree = λ goes_on. absurd (cc goes_on) }

  heard-over : (call : FrontendCall H) (awaited : Awaited) (f : Frontend) (s : Session) (a : Result ⊤ Error) → IsHeard call awaited f (ended (record { answer = a; served = Silent; session = s }))
  heard-over call Nobody f s a = record { to_caller = _; known = refl; agree = λ goes_on. absurd (cc goes_on) }
  heard-over call Ack f s a = record { to_caller = _; known = refl; agree = λ goes_on. absurd (cc goes_on) }
  heard-over call (Reply shape) f s a = record { to_caller = _; known = refl; agree = λ goes_on. absurd (cc goes_on) }

  -- the requests of regions and of the log, whose refusals end the session where they have a reply
  abbrev is_of_regions : HeardReq → Bool
  is_of_regions SET_MEM_TABLE = true
  is_of_regions ADD_MEM_REG = true
  is_of_regions SET_LOG_BASE = true
  is_of_regions _ = false

  over : (r : HeardReq) → is_of_regions r ≡ true → (call : FrontendCall H) (awaited : Awaited) (f : Frontend) (s : Session) (body : List ℕ) (a : Result ⊤ Error) → IsHeard call awaited f (refused_reply r body (record { answer = a; served = Silent; session = s }))
  over SET_MEM_TABLE e call awaited f s body a = heard-over call awaited f s a
  over ADD_MEM_REG e call awaited f s body a = heard-over call awaited f s a
  over SET_LOG_BASE e call awaited f s body a = heard-over call awaited f s a
  over _ e call awaited f s body a = absurd (cc e)

  plain-regions : (r : HeardReq) → is_of_regions r ≡ true → (is_end r ≡ false) × (is_plain r ≡ true)
  plain-regions SET_MEM_TABLE e = (refl, refl)
  plain-regions ADD_MEM_REG e = (refl, refl)
  plain-regions SET_LOG_BASE e = (refl, refl)
  plain-regions _ e = absurd (cc e)

  sent-regions : (call : FrontendCall H) (f : Frontend) (s : Session) (r : HeardReq) (payload : Payload) (handles : List H) → is_of_regions r ≡ true → AgreeOn f s → IsNegotiated f → after_success f call ≡ f → SentWell s call (sends f r payload handles)
  sent-regions call f s r payload handles e agree on same =
      let p = plain-regions r e in
      (agree, same, p.0, p.1, record { own = λ waits plainly a. over r e call _ f s _ a; acks = λ none wants. ack-agrees H B G f s agree on ∙ ap (λ x. cond x Ack Nobody) wants })

  not-quiet : (b : Bool) → (b && false) ≡ true → ⊥
  not-quiet true e = cc e
  not-quiet false e = cc e

  sent-quietly : (call : FrontendCall H) (awaited : Awaited) (f : Frontend) (s : Session) (r : HeardReq) (payload : Payload) (handles : List H) → is_of_regions r ≡ true → AgreeOn f s → after_success f call ≡ f → SentWell s call (Sends (unacknowledged f r payload handles) awaited f)
  sent-quietly call awaited f s r payload handles e agree same =
      let p = plain-regions r e in
      (agree, same, p.0, p.1, record { own = λ waits plainly a. over r e call _ f s _ a; acks = λ none wants. absurd (not-quiet (ack_on s) wants) })

  -- under Standard the acknowledgement of a base alone is awaited
  sent-base : (call : FrontendCall H) (f : Frontend) (s : Session) (base : ℕ) → f.profile ≡ Standard → AgreeOn f s → IsNegotiated f → after_success f call ≡ f → SentWell s call (sends_base f base)
  sent-base call f s base p agree on same = (
    agree,
    same,
    refl,
    refl,
    record {
      own = λ waits plainly a. heard-over call _ f s a;
      acks = λ none wants. ap (λ x. cond (is_standard x) (awaited_ack f) Nobody) p ∙ ack-agrees H B G f s agree on ∙ ap (λ x. cond x Ack Nobody) wants;
    },
  )

  sent-log : (f : Frontend) (s : Session) (base : ℕ) (r : LogRegion H) → f.profile ≡ Standard → AgreeOn f s → IsNegotiated f → SentWell s (SetLogBase base (Some r)) (ask f (SetLogBase base (Some r)))
  sent-log f s base r p agree on = go (has_bit f.acked_protocol_features LOG_SHMFD) refl
    where
      asked : has_bit f.acked_protocol_features LOG_SHMFD ≡ true → (h : H) → SentWell s (SetLogBase base (Some r)) (asks f SET_LOG_BASE (LogArea (log_area r)) (h ∷ []) shape.Log)
      asked e h = sent-asked (SetLogBase base (Some r)) f s SET_LOG_BASE (LogArea (log_area r)) (h ∷ []) shape.Log agree refl refl refl
          (ap (λ x. has_bit x LOG_SHMFD) (sym agree.acked_protocol_features) ∙ e) (heard-over _ _ f s)

      go : (b : Bool) → has_bit f.acked_protocol_features LOG_SHMFD ≡ b → SentWell s (SetLogBase base (Some r)) (cond b (given r.handle >>= (λ h. asks f SET_LOG_BASE (LogArea (log_area r)) (h ∷ []) shape.Log)) (sends_base f base))
      go true e = sent-given H s (SetLogBase base (Some r)) r.handle _ (asked e)
      go false e = sent-base (SetLogBase base (Some r)) f s base p agree on refl

  ruleset sent = (sent-then, sent-given, sent-cond, sent-plain, sent-asked, heard-ended)

  form-config : (o n flags : ℕ) (buffer : List ℕ) (f : Frontend) (s : Session) (p : VhostUserConfig) (a : Result ⊤ Error) → AgreeOn f s → IsHeard {H = H} (GetConfig o n flags buffer) (Reply shape.Config) f (record { answer = a; served = Replied (ConfigBytes p []) []; session = s })
  form-config o n flags buffer f s p a agree = record { to_caller = _; known = refl; agree = λ goes_on. agree }

  form-inflight : (i : VhostUserInflight) (f : Frontend) (s : Session) (p : VhostUserInflight) (a : Result ⊤ Error) → AgreeOn f s → IsHeard {H = H} (GetInflightFd i) (Reply shape.Inflight) f (record { answer = a; served = Replied (InflightArea p) []; session = s })
  form-inflight i f s p a agree = record { to_caller = _; known = refl; agree = λ goes_on. agree }

  form-object : (name : VhostUserSharedMsg) (f : Frontend) (s : Session) (a : Result ⊤ Error) → AgreeOn f s → IsHeard {H = H} (GetSharedObject name) (Reply shape.Empty) f (record { answer = a; served = Replied Empty []; session = s })
  form-object name f s a agree = record { to_caller = _; known = refl; agree = λ goes_on. agree }

  form-advise : (f : Frontend) (s : Session) (a : Result ⊤ Error) → AgreeOn f s → IsHeard {H = H} PostcopyAdvise (Reply shape.Empty) f (record { answer = a; served = Replied Empty []; session = s })
  form-advise f s a agree = record { to_caller = _; known = refl; agree = λ goes_on. agree }

  form-state : (t : VhostUserTransferDeviceState) (h : H) (f : Frontend) (s : Session) (a : Result ⊤ Error) → AgreeOn f s → IsHeard {H = H} (SetDeviceStateFd t h) (Reply shape.U64) f (record { answer = a; served = Replied (U64 0x101) []; session = s })
  form-state t h f s a agree = record { to_caller = _; known = refl; agree = λ goes_on. agree }

  form-check : (f : Frontend) (s : Session) (a : Result ⊤ Error) → AgreeOn f s → IsHeard {H = H} CheckDeviceState (Reply shape.U64) f (record { answer = a; served = Replied (U64 1) []; session = s })
  form-check f s a agree = record { to_caller = _; known = refl; agree = λ goes_on. agree }

  abbrev is_unturned : FrontendCall H → Bool
  is_unturned (SetFeatures n) = false
  is_unturned (SetProtocolFeatures n) = false
  is_unturned PostcopyListen = false
  is_unturned PostcopyEnd = false
  is_unturned _ = true

  ruleset well = (sent, sent-regions, sent-quietly, form-config, form-inflight, form-object, form-advise, form-state, form-check)

  sent-well : (f : Frontend) (s : Session) (call : FrontendCall H) → is_unturned call ≡ true → f.profile ≡ Standard → AgreeOn f s → IsNegotiated f → SentWell s call (ask f call)
  sent-well f s (SetFeatures n) e p agree on = absurd (cc e)
  sent-well f s (SetProtocolFeatures n) e p agree on = absurd (cc e)
  sent-well f s PostcopyListen e p agree on = absurd (cc e)
  sent-well f s PostcopyEnd e p agree on = absurd (cc e)
  sent-well f s (SetLogBase base None) e p agree on = sent-base (SetLogBase base None) f s base p agree on refl
  sent-well f s (SetLogBase base (Some r)) e p agree on = sent-log f s base r p agree on
  sent-well f s (PostcopyAckMemRegions SET_MEM_TABLE) e p agree on = search (sent, sent-quietly) depth 12
  sent-well f s (PostcopyAckMemRegions ADD_MEM_REG) e p agree on = search (sent, sent-quietly) depth 12
  sent-well f s (PostcopyAckMemRegions _) e p agree on = tt
  sent-well f s (SetVringCall i None) e p agree on = search sent depth 12
  sent-well f s (SetVringCall i (Some h)) e p agree on = search sent depth 12
  sent-well f s (SetVringKick i None) e p agree on = search sent depth 12
  sent-well f s (SetVringKick i (Some h)) e p agree on = search sent depth 12
  sent-well f s (SetVringErr i None) e p agree on = search sent depth 12
  sent-well f s (SetVringErr i (Some h)) e p agree on = search sent depth 12
  sent-well f s (SetHdrFlags flags) e p agree on = tt
  sent-well f s _ e p agree on = search well depth 12

  -- ---- calls that change what both sides agree on as they are sent

  -- one of four, by what each is under
  pick4 : (R n F A : Bool) (x y z w : Outcome H) (P : Outcome H → Type 0) → (R ≡ true → P x) → P y → (F ≡ false → A ≡ true → P z) → (F ≡ false → A ≡ false → P w) → P (cond (R && n) x (cond (F || R) y (cond A z w)))
  pick4 true true F A x y z w P hx hy hz hw = hx refl
  pick4 true false true A x y z w P hx hy hz hw = hy
  pick4 true false false A x y z w P hx hy hz hw = hy
  pick4 false n true A x y z w P hx hy hz hw = hy
  pick4 false n false true x y z w P hx hy hz hw = hz refl refl
  pick4 false n false false x y z w P hx hy hz hw = hw refl refl

  module _ (call : FrontendCall H) (g : Frontend) (s t : Session) (m : Message HeardReq H) (standard : s.profile ≡ Standard) (none : awaits_reply s m ≡ false) where
    abbrev silence : Result ⊤ Error → Outcome H
    silence a = record { answer = a; served = Silent; session = t }

    -- what both sides agree on after each answer; a refusal that nobody hears is fatal, or changes nothing
    record Agreed (a : Result ⊤ Error) : Type 0 where
      okay : is_ok a ≡ true → AgreeOn (after_success g call) t
      nope : is_ok a ≡ false → AgreeOn g t
      lost : is_ok a ≡ false → is_fatal m (silence a) ≡ false → awaits_ack m (silence a) ≡ false → AgreeOn (after_success g call) t

    told : (a : Result ⊤ Error) → Agreed a → IsHeard call Ack g (record { answer = a; served = Acknowledged (is_ok a); session = t })
    told (Ok u) agreed = record { to_caller = _; known = refl; agree = λ goes_on. agreed.okay refl }
    told (Err e) agreed = record { to_caller = _; known = refl; agree = λ goes_on. agreed.nope refl }

    kept : (a : Result ⊤ Error) → Agreed a → is_fatal m (silence a) ≡ false → awaits_ack m (silence a) ≡ false → IsHeard call Nobody g (silence a)
    kept (Ok u) agreed lives unwanted = record { to_caller = _; known = refl; agree = λ goes_on. agreed.okay refl }
    kept (Err e) agreed lives unwanted = record { to_caller = _; known = refl; agree = λ goes_on. agreed.lost refl lives unwanted }

    spoken-turned : (a : Result ⊤ Error) → Agreed a → IsHeard call (cond (ack_on t && m.need_reply) Ack Nobody) g (spoken s m (silence a))
    spoken-turned a agreed = pick4 (awaits_reply s m) (not m.reply) (is_fatal m (silence a)) (awaits_ack m (silence a)) (refused_reply m.request m.body (silence a)) (ended (silence a)) (saying (silence a) (Acknowledged (is_ok a))) (silence a)
        (λ x. IsHeard call (cond (ack_on t && m.need_reply) Ack Nobody) g x)
        (λ waits. absurd (cc (sym none ∙ waits)))
        (heard-over call _ g t a)
        (λ lives wants. subst (λ b. IsHeard call (cond b Ack Nobody) g (saying (silence a) (Acknowledged (is_ok a)))) (sym wants) (told a agreed))
        (λ lives unwanted. subst (λ b. IsHeard call (cond b Ack Nobody) g (silence a)) (sym unwanted) (kept a agreed lives unwanted))

    -- a silence
    silent-turned : (a : Result ⊤ Error) → Agreed a → IsHeard call (cond (ack_on t && m.need_reply) Ack Nobody) g (settled s m (silence a))
    silent-turned a agreed = subst (λ p. IsHeard call (cond (ack_on t && m.need_reply) Ack Nobody) g (cond (is_standard p && true) (spoken s m (silence a)) (silence a))) (sym standard) (spoken-turned a agreed)

    -- an answer that is acknowledged where that is wanted
    acked-turned : (a : Result ⊤ Error) → Agreed a → IsHeard call (cond (ack_on t && m.need_reply) Ack Nobody) g (settled s m (with_ack t m a))
    acked-turned a agreed = go (ack_on t && m.need_reply) refl a agreed
      where
        plain-done : Result ⊤ Error → Served H → Outcome H
        plain-done a v = record { answer = step.done a; served = v; session = t }

        silently-so : (a : Result ⊤ Error) → Agreed a → IsHeard call (cond (ack_on t && m.need_reply) Ack Nobody) g (settled s m (plain-done a Silent))
        silently-so (Ok u) agreed = silent-turned (Ok u) agreed
        silently-so (Err e) agreed = silent-turned (Err e) agreed

        aloud : (p : Profile) (a : Result ⊤ Error) → Agreed a → IsHeard call Ack g (cond (is_standard p && false) (spoken s m (plain-done a Silent)) (plain-done a (Acknowledged (is_ok a))))
        aloud Vhost (Ok u) agreed = told (Ok u) agreed
        aloud Vhost (Err e) agreed = told (Err e) agreed
        aloud Standard (Ok u) agreed = told (Ok u) agreed
        aloud Standard (Err e) agreed = told (Err e) agreed

        go : (b : Bool) → (ack_on t && m.need_reply) ≡ b → (a : Result ⊤ Error) → Agreed a → IsHeard call (cond b Ack Nobody) g (settled s m (plain-done a (cond b (Acknowledged (is_ok a)) Silent)))
        go true e a agreed = subst (λ own. IsHeard call Ack g (cond (is_standard s.profile && own) (spoken s m (plain-done a Silent)) (plain-done a (Acknowledged (is_ok a))))) (sym none) (aloud s.profile a agreed)
        go false e a agreed = subst (λ b. IsHeard call (cond b Ack Nobody) g (settled s m (plain-done a Silent))) e (silently-so a agreed)

  -- a message that is itself a reply is refused, and ends the session
  refused-reply : (call : FrontendCall H) (awaited : Awaited) (g : Frontend) (s : Session) (m : Message HeardReq H) (e : Error) → s.profile ≡ Standard → awaits_reply s m ≡ false → m.reply ≡ true → IsHeard call awaited g (settled s m (record { answer = Err e; served = Silent; session = s }))
  refused-reply call awaited g s m e standard none is = subst (λ p. IsHeard call awaited g (cond (is_standard p && true) (spoken s m o) o)) (sym standard)
      (pick4 (awaits_reply s m) (not m.reply) (is_fatal m o) (awaits_ack m o) (refused_reply m.request m.body o) (ended o) (saying o (Acknowledged false)) o (λ x. IsHeard call awaited g x)
      (λ waits. absurd (cc (sym none ∙ waits))) (heard-over call awaited g s (Err e)) (λ lives wants. absurd (lives-not lives)) (λ lives unwanted. absurd (lives-not lives)))
    where
      o : Outcome H
      o = record { answer = Err e; served = Silent; session = s }

      fatal : (b c : Bool) → b ≡ true → (b || c) ≡ false → ⊥
      fatal true c is lives = cc lives
      fatal false c is lives = cc is

      lives-not : is_fatal m o ≡ false → ⊥
      lives-not lives = fatal m.reply _ is lives

  turned-features : (f : Frontend) (s : Session) (n : ℕ) → s.profile ≡ Standard → n < 2 ^ 64 → AgreeOn f s → IsNegotiated f → StaysHeard {H = H} B G s (SetFeatures n) (ask f (SetFeatures n))
  turned-features f s n standard fits agree on = go (has_bit f.header_flags 2) refl
    where
      g : Frontend
      g = record f { acked = bit_and n f.offered }

      t : Session
      t = record s { acked = n }

      both : AgreeOn g t
      both = record { offered = agree.offered; acked_protocol_features = agree.acked_protocol_features; postcopy = agree.postcopy; acked = acked-stays n f.offered; profile = agree.profile }

      w : Bool → Written HeardReq H
      w b = record (message g SET_FEATURES (U64 n) []) { reply = b }

      go : (b : Bool) → has_bit f.header_flags 2 ≡ b → AllHeard {H = H} {B = B} {G = G} (SetFeatures n) (awaited_ack g) g s (read_as (w b)) (row s (read_as (w b)))
      go true e = refused-reply (SetFeatures n) (awaited_ack g) g s (read_as (w true)) InvalidMessage standard refl refl
      go false e = λ a. subst (λ k. IsHeard {H = H} (SetFeatures n) (awaited_ack g) g (settled s (read_as (w false)) (with_ack (record s { acked = k }) (read_as (w false)) a))) (sym (little_number-reads_back 8 n [] fits))
          (subst (λ x. IsHeard {H = H} (SetFeatures n) x g (settled s (read_as (w false)) (with_ack t (read_as (w false)) a))) (sym (ack-agrees H B G f s agree on))
          (acked-turned (SetFeatures n) g s t (read_as (w false)) standard refl a (record { okay = λ h. both; nope = λ h. both; lost = λ h l u. both })))

  turned-protocol : (f : Frontend) (s : Session) (n : ℕ) → s.profile ≡ Standard → n < 2 ^ 64 → AgreeOn f s → StaysHeard {H = H} B G s (SetProtocolFeatures n) (ask f (SetProtocolFeatures n))
  turned-protocol f s n standard fits agree = go (has_bit f.offered PROTOCOL_FEATURES) refl
    where
      g : Frontend
      g = record f { acked_protocol_features = n }

      t : Session
      t = record s { acked_protocol_features = n }

      both : AgreeOn g t
      both = record { offered = agree.offered; acked_protocol_features = refl; postcopy = agree.postcopy; acked = agree.acked; profile = agree.profile }

      w : Bool → Written HeardReq H
      w b = record (message g SET_PROTOCOL_FEATURES (U64 n) []) { reply = b }

      sent : has_bit f.offered PROTOCOL_FEATURES ≡ true → (b : Bool) → AllHeard {H = H} {B = B} {G = G} (SetProtocolFeatures n) (awaited_ack g) g s (read_as (w b)) (row s (read_as (w b)))
      sent offers true = refused-reply (SetProtocolFeatures n) (awaited_ack g) g s (read_as (w true)) InvalidMessage standard refl refl
      sent offers false = λ a. subst (λ k. IsHeard {H = H} (SetProtocolFeatures n) (awaited_ack g) g (settled s (read_as (w false)) (with_ack (record s { acked_protocol_features = k }) (read_as (w false)) a))) (sym (little_number-reads_back 8 n [] fits))
          (subst (λ x. IsHeard {H = H} (SetProtocolFeatures n) x g (settled s (read_as (w false)) (with_ack t (read_as (w false)) a))) (sym (ack-agrees H B G g t both (λ on. offers)))
          (acked-turned (SetProtocolFeatures n) g s t (read_as (w false)) standard refl a (record { okay = λ h. both; nope = λ h. both; lost = λ h l u. both })))

      go : (b : Bool) → has_bit f.offered PROTOCOL_FEATURES ≡ b → StaysHeard {H = H} B G s (SetProtocolFeatures n) (cond b (Ok tt) (Err (InactiveFeature (2 ^ PROTOCOL_FEATURES))) >> Sends (w (has_bit f.header_flags 2)) (awaited_ack g) g)
      go true offers = sent offers (has_bit f.header_flags 2)
      go false closed = tt

  turned-listen : (f : Frontend) (s : Session) → s.profile ≡ Standard → AgreeOn f s → IsNegotiated f → StaysHeard {H = H} B G s PostcopyListen (ask f PostcopyListen)
  turned-listen f s standard agree on = go (has_bit f.acked_protocol_features PAGEFAULT)
    where
      m : Message HeardReq H
      m = read_as (turning f POSTCOPY_LISTEN)

      t : Session
      t = record s { postcopy = Listen }

      both : AgreeOn (record f { postcopy = Listen }) t
      both = record { offered = agree.offered; acked_protocol_features = agree.acked_protocol_features; postcopy = refl; acked = agree.acked; profile = agree.profile }

      fatal : (b c : Bool) → c ≡ false → (b || not c) ≡ false → ⊥
      fatal true c is lives = cc lives
      fatal false true is lives = cc is
      fatal false false is lives = cc lives

      refused : (e : Error) → Agreed PostcopyListen f s s m standard refl (Err e)
      refused e = record { okay = λ h. absurd (cc h); nope = λ h. agree; lost = λ h lives unwanted. absurd (fatal m.reply (ack_on s && m.need_reply) unwanted lives) }

      same : (o : Outcome H) → IsHeard {H = H} PostcopyListen (cond (ack_on s && m.need_reply) Ack Nobody) f o → IsHeard {H = H} PostcopyListen (awaited_turn f) f o
      same o h = subst (λ x. IsHeard PostcopyListen x f o) (sym (turn-agrees H B G f s POSTCOPY_LISTEN agree on)) h

      answered-so : (a : Result ⊤ Error) → IsHeard {H = H} PostcopyListen (awaited_turn f) f (settled s m (with_ack (if_agreed s Listen a) m a))
      answered-so (Ok u) = same _ (acked-turned PostcopyListen f s t m standard refl (Ok u) (record { okay = λ h. both; nope = λ h. absurd (cc h); lost = λ h l u. absurd (cc h) }))
      answered-so (Err e) = same _ (acked-turned PostcopyListen f s s m standard refl (Err e) (refused e))

      quiet-refusal : (e : Error) → IsHeard {H = H} PostcopyListen (awaited_turn f) f (settled s m (record { answer = Err e; served = Silent; session = s }))
      quiet-refusal e = same _ (silent-turned PostcopyListen f s s m standard refl (Err e) (refused e))

      tested : (b : Bool) (e : Error) (next : Step H B G) → AllHeard PostcopyListen (awaited_turn f) f s m next → AllHeard PostcopyListen (awaited_turn f) f s m (step.◌>>◌ (test b (silently e)) next)
      tested true e next h = h
      tested false e next h = quiet-refusal e

      called : Step H B G
      called = calls s m device.PostcopyListen

      go : (b : Bool) → StaysHeard {H = H} B G s PostcopyListen (test b (InactiveOperation (2 ^ PAGEFAULT)) >> Sends (turning f POSTCOPY_LISTEN) (awaited_turn f) f)
      go true = tested (has_bit s.acked_protocol_features PAGEFAULT) (InactiveOperation (2 ^ PAGEFAULT)) (step.◌>>◌ (test (is_advise s.postcopy) (silently (InvalidOperation (codes "postcopy not advised")))) called)
          (tested (is_advise s.postcopy) (InvalidOperation (codes "postcopy not advised")) called answered-so)
      go false = tt

  -- The end of postcopy has a reply of its own. Whoever listened has ended, whatever became of it.
  turned-end : (f : Frontend) (s : Session) → f.profile ≡ Standard → s.profile ≡ Standard → AgreeOn f s → StaysHeard {H = H} B G s PostcopyEnd (ask f PostcopyEnd)
  turned-end f s p standard agree =
      subst (λ b. StaysHeard {H = H} B G s PostcopyEnd (frontend_feature f PAGEFAULT >> Sends (turning f POSTCOPY_END) (cond b (Reply shape.U64) (awaited_ack f)) f)) (sym (ap (λ x. is_standard x) p))
      (asked (has_bit f.acked_protocol_features PAGEFAULT) refl)
    where
      m : Message HeardReq H
      m = read_as (turning f POSTCOPY_END)

      -- what the frontend is after a refusal
      after : Frontend
      after = cond (is_listen f.postcopy) (record f { postcopy = End }) f

      heard : (a : Result ⊤ Error) (t : Session) → (is_ok a ≡ true → AgreeOn (record f { postcopy = End }) t) → (is_ok a ≡ false → AgreeOn after t)
          → IsHeard {H = H} PostcopyEnd (Reply shape.U64) f (record { answer = a; served = Replied (U64 (cond (is_ok a) 0 1)) []; session = t })
      heard (Ok u) t okay nope = record { to_caller = _; known = refl; agree = λ goes_on. okay refl }
      heard (Err e) t okay nope = record { to_caller = _; known = refl; agree = λ goes_on. nope refl }

      spoken-end : (a : Result ⊤ Error) (t : Session) → (is_ok a ≡ true → AgreeOn (record f { postcopy = End }) t) → (is_ok a ≡ false → AgreeOn after t)
          → IsHeard {H = H} PostcopyEnd (Reply shape.U64) f (spoken s m (record { answer = a; served = Silent; session = t }))
      spoken-end a t okay nope =
          let o : Outcome H = record { answer = a; served = Silent; session = t } in
          pick H true (not m.reply) (is_fatal m o) (awaits_ack m o) (refused_reply POSTCOPY_END m.body o) (ended o) (saying o (Acknowledged (is_ok a))) o (λ x. IsHeard {H = H} PostcopyEnd (Reply shape.U64) f x)
          (λ own plain. heard a t okay nope) (heard-over PostcopyEnd (Reply shape.U64) f t a) (λ none wants. absurd (cc none)) (λ none wants. absurd (cc none))

      settled-end : (a : Result ⊤ Error) (v : Served H) (t : Session) → is_replied v ≡ false → (is_ok a ≡ true → AgreeOn (record f { postcopy = End }) t) → (is_ok a ≡ false → AgreeOn after t)
          → IsHeard {H = H} PostcopyEnd (Reply shape.U64) f (settled s m (record { answer = a; served = v; session = t }))
      settled-end a (Replied payload hs) t plain okay nope = absurd (cc plain)
      settled-end a Silent t plain okay nope = subst (λ x. IsHeard {H = H} PostcopyEnd (Reply shape.U64) f (cond (is_standard x && true) (spoken s m (record { answer = a; served = Silent; session = t })) (record { answer = a; served = Silent; session = t }))) (sym standard) (spoken-end a t okay nope)
      settled-end a (Acknowledged b) t plain okay nope = subst (λ x. IsHeard {H = H} PostcopyEnd (Reply shape.U64) f (cond (is_standard x && true) (spoken s m (record { answer = a; served = Silent; session = t })) (record { answer = a; served = Acknowledged b; session = t }))) (sym standard) (spoken-end a t okay nope)

      over-ack : (b agreed : Bool) → is_replied {H = H} (cond b (Acknowledged agreed) Silent) ≡ false
      over-ack true agreed = refl
      over-ack false agreed = refl

      over-done : (a : Result ⊤ Error) → is_ok (step.done a) ≡ is_ok a
      over-done (Ok u) = refl
      over-done (Err e) = refl

      tested : (b : Bool) (e : Error) (next : Step H B G) → (b ≡ false → AgreeOn after s) → (b ≡ true → AllHeard PostcopyEnd (Reply shape.U64) f s m next) → AllHeard PostcopyEnd (Reply shape.U64) f s m (step.◌>>◌ (test b (silently e)) next)
      tested true e next refused h = h refl
      tested false e next refused h = settled-end (Err e) Silent s refl (λ fine. absurd (cc fine)) (λ bad. refused refl)

      called : is_listen s.postcopy ≡ true → AllHeard {H = H} {B = B} {G = G} PostcopyEnd (Reply shape.U64) f s m (calls s m device.PostcopyEnd)
      called listens a =
          let t : Session = record s { postcopy = End } in
          let both : AgreeOn (record f { postcopy = End }) t = record { offered = agree.offered; acked_protocol_features = agree.acked_protocol_features; postcopy = refl; acked = agree.acked; profile = agree.profile } in
          settled-end (step.done a) _ t (over-ack (ack_on t && m.need_reply) (is_ok a)) (λ fine. both)
          (λ bad. subst (λ b. AgreeOn (cond b (record f { postcopy = End }) f) t) (sym (ap (λ x. is_listen x) agree.postcopy ∙ listens)) both)

      asked : (b : Bool) → has_bit f.acked_protocol_features PAGEFAULT ≡ b → StaysHeard {H = H} B G s PostcopyEnd (test b (InactiveOperation (2 ^ PAGEFAULT)) >> Sends (turning f POSTCOPY_END) (Reply shape.U64) f)
      asked true on =
          tested (has_bit s.acked_protocol_features PAGEFAULT) (InactiveOperation (2 ^ PAGEFAULT)) _ (λ off. absurd (cc (sym on ∙ ap (λ x. has_bit x PAGEFAULT) agree.acked_protocol_features ∙ off)))
          (λ has. tested (is_listen s.postcopy) (InvalidOperation (codes "postcopy not listening")) (calls s m device.PostcopyEnd)
          (λ deaf. subst (λ b. AgreeOn (cond b (record f { postcopy = End }) f) s) (sym (ap (λ x. is_listen x) agree.postcopy ∙ deaf)) agree) called)
      asked false on = tt

  -- Under Standard no silence is the last step.
  pub no-silent-stop : NoSilentStop H B G
  no-silent-stop f s (SetFeatures n) p q agree on fits = turned-features f s n q fits agree on
  no-silent-stop f s (SetProtocolFeatures n) p q agree on fits = turned-protocol f s n q fits agree
  no-silent-stop f s PostcopyListen p q agree on fits = turned-listen f s q agree on
  no-silent-stop f s PostcopyEnd p q agree on fits = turned-end f s p q agree
  no-silent-stop f s call p q agree on fits = heard-asked s call (ask f call) q (keeps-step H B G f s call (no-end call refl) agree on fits) (sent-well f s call refl p agree on)
    where
      no-end : (call : FrontendCall H) → is_unturned call ≡ true → is_settled_end f call ≡ false
      no-end PostcopyEnd e = absurd (cc e)
      no-end _ e = refl
