-- Whoever waits is answered.
use Rattle.std.proofs.Common.{◌≡◌, ℕ, length, Bool, true, false, cond, ◌&&◌, ◌||◌, List, [], Option, Some, None, Result, Ok, Err, refl, sym, ap, inl, inr, is_ok}
use Rattle.std.specs.Prelude.{◌==◌, ◌∷◌, not, ⊤}
use Rattle.vhost_message.specs.declared.heard_req.HeardReq.{HeardReq}
use Rattle.vhost_message.specs.declared.heard_req.HeardReq.TheVariants.{GET_CONFIG, GET_INFLIGHT_FD, GET_SHARED_OBJECT, POSTCOPY_ADVISE, SET_DEVICE_STATE_FD, CHECK_DEVICE_STATE, POSTCOPY_END, SET_MEM_TABLE, SET_LOG_BASE, ADD_MEM_REG}
use Rattle.vhost_protocol.specs.declared.profile.Profile.{Profile}
use Rattle.vhost_protocol.specs.declared.profile.Profile.TheVariants.{Vhost, Standard}
use Rattle.vhost_protocol.specs.Answering.{IsAsked, AnswersWell, AllWell, WhoeverWaitsIsAnswered, AllAsked, RowsAreAsked}
use Rattle.vhost_message.specs.declared.records.config.VhostUserConfig.{VhostUserConfig}
use Rattle.vhost_message.specs.declared.records.inflight.VhostUserInflight.{VhostUserInflight}
use Rattle.vhost_message.specs.declared.records.memory.VhostUserMemoryRegion.{VhostUserMemoryRegion}
use Rattle.vhost_message.specs.declared.records.memory.VhostUserSingleMemoryRegion.{VhostUserSingleMemoryRegion}
use Rattle.vhost_message.specs.Records.{log_of, single_region_of}
use Rattle.vhost_message.specs.Valid.{is_valid_log}
use Rattle.vhost_protocol.specs.Answered.{calls, rebased, with_features, with_handle, with_inflight, with_state, with_check, with_config, with_base, with_bases}
use Rattle.vhost_protocol.specs.DeviceCall.{SetMemTable, AddMemRegion, SetLogBase}
use Rattle.vhost_protocol.specs.Error.{Error, InvalidParam, InvalidMessage, InactiveOperation, IncorrectFds, BackendInternalError, test}
use Rattle.vhost_protocol.specs.Profile.{is_standard}
use Rattle.vhost_protocol.specs.Row.{row, only, channel, body, always, mapped_row, table, is_valid_table}
use Rattle.vhost_protocol.specs.Served.{Served, Silent, Acknowledged, Replied}
use Rattle.vhost_protocol.specs.Session.{Session, ack_on, is_listen}
use Rattle.vhost_protocol.specs.Settled.{awaits_reply, awaits_ack, is_unanswered, is_fatal, ended, silenced, saying, refused_reply, spoken, settled}
use Rattle.vhost_protocol.specs.Split.{Message}
use Rattle.vhost_protocol.specs.Written.{Payload, ConfigBytes, Regions}
use Rattle.vhost_protocol.specs.Step.{Outcome, Step, Refused, Calls, OpensBackend, OpensGpu, ◌>>=◌, ◌>>◌, ack_back, with_ack, failed_with, replied, replied_or_silent, unwritten, silently, acknowledged}

module _ (H : Type 0) where
  -- one of four, by what each is under
  pub pick : (R n F A : Bool) (x y z w : Outcome H) (P : Outcome H → Type 0) → (R ≡ true → P x) → P y → (R ≡ false → A ≡ true → P z) → (R ≡ false → A ≡ false → P w) → P (cond (R && n) x (cond (F || R) y (cond A z w)))
  pick true true F A x y z w P hx hy hz hw = hx refl
  pick true false true A x y z w P hx hy hz hw = hy
  pick true false false A x y z w P hx hy hz hw = hy
  pick false n true A x y z w P hx hy hz hw = hy
  pick false n false true x y z w P hx hy hz hw = hz refl refl
  pick false n false false x y z w P hx hy hz hw = hw refl refl

  none-waits : (R A : Bool) → R ≡ false → A ≡ false → R || A ≡ true → ⊥
  none-waits true A r a h = absurd (cc r)
  none-waits false true r a h = absurd (cc a)
  none-waits false false r a h = absurd (cc h)

  or-left : (R A : Bool) → R ≡ true → R || A ≡ true
  or-left true A r = refl
  or-left false A r = absurd (cc r)

  or-right : (R A : Bool) → A ≡ true → R || A ≡ true
  or-right true A a = refl
  or-right false A a = a

  -- ---- the forms that refuse

  Well : Session → Message HeardReq H → Outcome H → Type 0
  Well s m o = AnswersWell s m o

  ended-well : (s t : Session) (m : Message HeardReq H) (a : Result ⊤ Error) → AnswersWell s m (ended (record { answer = a; served = Silent; session = t }))
  ended-well s t m a = record { answered = λ waits. inr refl; asked = tt }

  replied-well : (s : Session) (m : Message HeardReq H) (o : Outcome H) (r : HeardReq) (t : Session) (a : Result ⊤ Error) → awaits_reply s m ≡ true
      → AnswersWell s m (refused_reply r m.body (record { answer = a; served = Silent; session = t }))
  replied-well s m o GET_CONFIG t a own = record { answered = λ waits. inl refl; asked = own }
  replied-well s m o GET_INFLIGHT_FD t a own = record { answered = λ waits. inl refl; asked = own }
  replied-well s m o GET_SHARED_OBJECT t a own = record { answered = λ waits. inl refl; asked = own }
  replied-well s m o POSTCOPY_ADVISE t a own = record { answered = λ waits. inl refl; asked = own }
  replied-well s m o SET_DEVICE_STATE_FD t a own = record { answered = λ waits. inl refl; asked = own }
  replied-well s m o CHECK_DEVICE_STATE t a own = record { answered = λ waits. inl refl; asked = own }
  replied-well s m o POSTCOPY_END t a own = record { answered = λ waits. inl refl; asked = own }
  replied-well s m o _ t a own = ended-well s t m a

  -- ---- a silence that is settled

  spoken-well : (s t : Session) (m : Message HeardReq H) (a : Result ⊤ Error) → AnswersWell s m (spoken s m (record { answer = a; served = Silent; session = t }))
  spoken-well s t m a = pick (awaits_reply s m) (not m.reply) (is_fatal m o) (awaits_ack m o) (refused_reply m.request m.body o) (ended o) (saying o (Acknowledged (is_ok a))) o (λ x. AnswersWell s m x)
      (λ own. replied-well s m o m.request t a own)
      (ended-well s t m a)
      (λ none wants. record { answered = λ waits. inl none; asked = (refl, or-right _ _ wants) })
      (λ own wants. record { answered = λ waits. absurd (none-waits _ _ own wants waits); asked = tt })
    where
      o : Outcome H
      o = record { answer = a; served = Silent; session = t }

  -- whatever the table has
  by-served : (p : Profile) → p ≡ Standard → (s t : Session) (m : Message HeardReq H) (a : Result ⊤ Error) (v : Served H) → IsAsked s m a v t
      → AnswersWell s m (cond (is_standard p && is_unanswered (awaits_reply s m) v) (spoken s m (record { answer = a; served = Silent; session = t })) (record { answer = a; served = v; session = t }))
  by-served Standard e s t m a Silent asked = spoken-well s t m a
  by-served Standard e s t m a (Acknowledged b) asked = go (awaits_reply s m) refl
    where
      go : (u : Bool) → u ≡ (awaits_reply s m)
          → AnswersWell s m (cond u (spoken s m (record { answer = a; served = Silent; session = t })) (record { answer = a; served = Acknowledged b; session = t }))
      go true same = spoken-well s t m a
      go false same = record { answered = λ waits. inl (sym same); asked = asked }
  by-served Standard e s t m a (Replied payload hs) asked = record { answered = λ waits. inl refl; asked = asked }
  by-served Vhost e s t m a v asked = absurd (cc e)

  settled-well : (s : Session) (m : Message HeardReq H) (o : Outcome H) → s.profile ≡ Standard → IsAsked s m o.answer o.served o.session → AnswersWell s m (settled s m o)
  settled-well s m o e asked = by-served s.profile e s o.session m o.answer o.served asked

  -- under Vhost nothing is settled
  pub settled-vhost : (s : Session) (m : Message HeardReq H) (o : Outcome H) → s.profile ≡ Vhost → settled s m o ≡ o
  settled-vhost s m o e = ap (λ p. cond (is_standard p && is_unanswered (awaits_reply s m) o.served) (spoken s m (silenced o)) o) e

  -- what is settled keeps of an outcome what each form of a refusal keeps
  kept : (A : Type 0) (part : Outcome H → A) (s : Session) (m : Message HeardReq H) (o : Outcome H) → ((v : Served H) → part (record o { served = v }) ≡ part o) → part (ended (silenced o)) ≡ part o → part (settled s m o) ≡ part o
  kept A part s m o said over = go (is_standard s.profile && is_unanswered (awaits_reply s m) o.served)
    where
      refused : (r : HeardReq) (body : List ℕ) → part (refused_reply r body (silenced o)) ≡ part o
      refused GET_CONFIG body = said _
      refused GET_INFLIGHT_FD body = said _
      refused GET_SHARED_OBJECT body = said _
      refused POSTCOPY_ADVISE body = said _
      refused SET_DEVICE_STATE_FD body = said _
      refused CHECK_DEVICE_STATE body = said _
      refused POSTCOPY_END body = said _
      refused _ body = over

      go : (b : Bool) → part (cond b (spoken s m (silenced o)) o) ≡ part o
      go true = pick (awaits_reply s m) (not m.reply) (is_fatal m (silenced o)) (awaits_ack m (silenced o)) (refused_reply m.request m.body (silenced o)) (ended (silenced o)) (saying (silenced o) (Acknowledged (is_ok o.answer))) (silenced o) (λ x. part x ≡ part o)
          (λ own. refused m.request m.body) over (λ none wants. said _) (λ none wants. said Silent)
      go false = refl

  -- it answers the same
  pub settled-answer : (s : Session) (m : Message HeardReq H) (o : Outcome H) → (settled s m o).answer ≡ o.answer
  settled-answer s m o = kept (Result ⊤ Error) (λ x. x.answer) s m o (λ v. refl) refl

  -- and has the same profile
  pub settled-profile : (s : Session) (m : Message HeardReq H) (o : Outcome H) → (settled s m o).session.profile ≡ o.session.profile
  settled-profile s m o = kept Profile (λ x. x.session.profile) s m o (λ v. refl) refl

  -- ---- what the table writes

  Asked : Session → Message HeardReq H → Result ⊤ Error → Served H → Session → Type 0
  Asked s m a v t = IsAsked s m a v t

  -- an acknowledgement that was wanted
  acked-if : (s t : Session) (m : Message HeardReq H) (a : Result ⊤ Error) (b : Bool) → b ≡ is_ok a → IsAsked s m a (ack_back t m b) t
  acked-if s t m a b same = go (ack_on t && m.need_reply) refl
    where
      go : (w : Bool) → w ≡ (ack_on t && m.need_reply) → IsAsked s m a (cond w (Acknowledged b) Silent) t
      go true e = (same, or-right (awaits_reply s m) _ (sym e))
      go false e = tt

module _ (H B G : Type 0) where
  asked-with_ack : (A : Type 0) (s t : Session) (m : Message HeardReq H) (a : Result A Error) → IsAsked s m (with_ack t m a).answer (with_ack t m a).served (with_ack t m a).session
  asked-with_ack A s t m (Ok a) = acked-if H s t m (Ok tt) true refl
  asked-with_ack A s t m (Err e) = acked-if H s t m (Err e) false refl

  asked-failed_with : (s : Session) (m : Message HeardReq H) (e : Error) → IsAsked s m (Err e) (ack_back s m false) s
  asked-failed_with s m e = acked-if H s s m (Err e) false refl

  asked-then : (s : Session) (m : Message HeardReq H) (b : Bool) (e : Error) (next : Step H B G) → AllAsked s m next → AllAsked s m (test b (silently e) >> next)
  asked-then s m true e next h = h
  asked-then s m false e next h = tt

  asked-then_aloud : (s : Session) (m : Message HeardReq H) (b : Bool) (e : Error) (next : Step H B G) → AllAsked s m next → AllAsked s m (test b (acknowledged s m e) >> next)
  asked-then_aloud s m true e next h = h
  asked-then_aloud s m false e next h = asked-failed_with s m e

  asked-if : (A : Type 0) (s : Session) (m : Message HeardReq H) (b : Bool) (a : A) (e : Error) (next : A → Step H B G) → AllAsked s m (next a) → AllAsked s m (cond b (Ok a) (Err (silently e)) >>= next)
  asked-if A s m true a e next h = h
  asked-if A s m false a e next h = tt

  asked-one : (s : Session) (m : Message HeardReq H) (hs : List H) (e : Error) (next : H → Step H B G) → ((h : H) → AllAsked s m (next h)) → AllAsked s m (only (silently e) hs >>= next)
  asked-one s m [] e next h = tt
  asked-one s m (x ∷ []) e next h = h x
  asked-one s m (x ∷ y ∷ hs) e next h = tt

  asked-one_aloud : (s : Session) (m : Message HeardReq H) (hs : List H) (e : Error) (next : H → Step H B G) → ((h : H) → AllAsked s m (next h)) → AllAsked s m (only (acknowledged s m e) hs >>= next)
  asked-one_aloud s m [] e next h = asked-failed_with s m e
  asked-one_aloud s m (x ∷ []) e next h = h x
  asked-one_aloud s m (x ∷ y ∷ hs) e next h = asked-failed_with s m e

  asked-channel : (C : Type 0) (s : Session) (m : Message HeardReq H) (o : Result C Error) (next : C → Step H B G) → ((c : C) → AllAsked s m (next c)) → AllAsked s m (channel s m o >>= next)
  asked-channel C s m (Ok c) next h = h c
  asked-channel C s m (Err e) next h = asked-failed_with s m e

  asked-cond : (s : Session) (m : Message HeardReq H) (b : Bool) (x y : Step H B G) → AllAsked s m x → AllAsked s m y → AllAsked s m (cond b x y)
  asked-cond s m true x y h k = h
  asked-cond s m false x y h k = k

  -- ---- replies of a request that has one

  asked-number : (A : Type 0) (s : Session) (m : Message HeardReq H) (payload : A → Payload) (a : Result A Error) → awaits_reply s m ≡ true
      → IsAsked s m (replied_or_silent {H = H} s payload a).answer (replied_or_silent {H = H} s payload a).served (replied_or_silent {H = H} s payload a).session
  asked-number A s m payload (Ok a) own = own
  asked-number A s m payload (Err e) own = tt

  asked-features : (s : Session) (m : Message HeardReq H) (a : Result ℕ Error) → awaits_reply s m ≡ true → IsAsked s m (with_features {H = H} s a).answer (with_features {H = H} s a).served (with_features {H = H} s a).session
  asked-features s m (Ok a) own = own
  asked-features s m (Err e) own = tt

  asked-handle : (s t : Session) (m : Message HeardReq H) (a : Result H Error) → awaits_reply s m ≡ true → IsAsked s m (with_handle t a).answer (with_handle t a).served (with_handle t a).session
  asked-handle s t m (Ok a) own = own
  asked-handle s t m (Err e) own = own

  asked-inflight : (s : Session) (m : Message HeardReq H) (a : Result (VhostUserInflight × H) Error) → awaits_reply s m ≡ true → IsAsked s m (with_inflight s a).answer (with_inflight s a).served (with_inflight s a).session
  asked-inflight s m (Ok a) own = own
  asked-inflight s m (Err e) own = tt

  asked-state : (s : Session) (m : Message HeardReq H) (a : Result (Option H) Error) → awaits_reply s m ≡ true → IsAsked s m (with_state s a).answer (with_state s a).served (with_state s a).session
  asked-state s m (Ok (Some h)) own = own
  asked-state s m (Ok None) own = own
  asked-state s m (Err e) own = own

  asked-check : (s : Session) (m : Message HeardReq H) (a : Result ⊤ Error) → awaits_reply s m ≡ true → IsAsked s m (with_check {H = H} s a).answer (with_check {H = H} s a).served (with_check {H = H} s a).session
  asked-check s m (Ok u) own = own
  asked-check s m (Err e) own = own

  asked-config : (s : Session) (m : Message HeardReq H) (c : VhostUserConfig) (a : Result (List ℕ) Error) → awaits_reply s m ≡ true → IsAsked s m (with_config {H = H} s c a).answer (with_config {H = H} s c a).served (with_config {H = H} s c a).session
  asked-config s m c (Ok bytes) own = go (length bytes == c.size)
    where
      o : Bool → Outcome H
      o b = cond b (replied {H = H} s (ConfigBytes c bytes) []) (replied s (ConfigBytes (record c { size = 0 }) []) [])

      go : (b : Bool) → IsAsked s m (o b).answer (o b).served (o b).session
      go true = own
      go false = own
  asked-config s m c (Err e) own = own

  asked-base : (s : Session) (m : Message HeardReq H) (r : VhostUserSingleMemoryRegion) (a : Result (Option ℕ) Error) → awaits_reply s m ≡ true → IsAsked s m (with_base s m r a).answer (with_base s m r a).served (with_base s m r a).session
  asked-base s m r (Ok (Some base)) own = own
  asked-base s m r (Ok None) own = asked-failed_with s m BackendInternalError
  asked-base s m r (Err e) own = asked-failed_with s m e

  asked-bases : (s : Session) (m : Message HeardReq H) (regions : List VhostUserMemoryRegion) (a : Result (Option (List ℕ)) Error) → awaits_reply s m ≡ true → IsAsked s m (with_bases s m regions a).answer (with_bases s m regions a).served (with_bases s m regions a).session
  asked-bases s m regions (Ok (Some bases)) own = go (length bases == length regions)
    where
      o : Bool → Outcome H
      o b = cond b (replied s (Regions (rebased regions bases)) []) (failed_with s m BackendInternalError)

      go : (b : Bool) → IsAsked s m (o b).answer (o b).served (o b).session
      go true = own
      go false = asked-failed_with s m BackendInternalError
  asked-bases s m regions (Ok None) own = asked-failed_with s m BackendInternalError
  asked-bases s m regions (Err e) own = asked-failed_with s m e

  asked-unwritten : (A : Type 0) (s : Session) (m : Message HeardReq H) (a : Result A Error) → IsAsked s m (unwritten {H = H} s a).answer (unwritten {H = H} s a).served (unwritten {H = H} s a).session
  asked-unwritten A s m (Ok a) = tt
  asked-unwritten A s m (Err e) = tt

  ruleset asked_so = (asked-then, asked-then_aloud, asked-if, asked-one, asked-one_aloud, asked-channel, asked-cond, asked-with_ack, asked-number, asked-features, asked-handle, asked-inflight, asked-state, asked-check, asked-config, asked-unwritten)

  -- ---- rows whose reply is of some sessions

  log-row : (s : Session) (m : Message HeardReq H) (b : Bool) → awaits_reply s m ≡ b → AllAsked {B = B} {G = G} s m (test b (silently (InactiveOperation 2)) >> (only (silently IncorrectFds) m.handles >>= (λ h. body 16 log_of is_valid_log m >>= (λ l. calls s m (SetLogBase l h)))))
  log-row s m true own = search asked_so depth 12
  log-row s m false own = tt

  table-part : (s : Session) (m : Message HeardReq H) (L E : Bool) → awaits_reply s m ≡ (L && not E) → AllAsked {B = B} {G = G} s m (cond (L && E) (mapped_row s m)
      (test (is_valid_table s m) (acknowledged s m InvalidMessage) >> cond L (calls s m (SetMemTable (table m) m.handles (Some true))) (calls s m (SetMemTable (table m) m.handles (Some false)))))
  table-part s m true true own = search asked_so depth 12
  table-part s m true false own = search (asked_so, asked-bases) depth 12
  table-part s m false E own = search asked_so depth 12

  region-part : (s : Session) (m : Message HeardReq H) (L E : Bool) → awaits_reply s m ≡ (L && not E) → AllAsked {B = B} {G = G} s m (cond (L && E) (mapped_row s m)
      (only (silently InvalidParam) m.handles >>= (λ h. body 40 single_region_of always m >>= (λ r. cond L (calls s m (AddMemRegion r h (Some true))) (calls s m (AddMemRegion r h (Some false)))))))
  region-part s m true true own = search asked_so depth 12
  region-part s m true false own = search (asked_so, asked-base) depth 12
  region-part s m false E own = search asked_so depth 12

  pub rows-asked : RowsAreAsked H B G
  rows-asked SET_MEM_TABLE s m own = table-part s m (is_listen s.postcopy) (length m.body == 8) own
  rows-asked ADD_MEM_REG s m own = asked-then s m _ _ _ (region-part s m (is_listen s.postcopy) (length m.body == 8) own)
  rows-asked SET_LOG_BASE s m own = log-row s m _ own
  rows-asked _ s m own = search asked_so depth 12

  well-all : (s : Session) (m : Message HeardReq H) (x : Step H B G) → s.profile ≡ Standard → AllAsked s m x → AllWell s m x
  well-all s m (Refused r) e asked = settled-well H s m _ e asked
  well-all s m (Calls c next) e asked = λ a. settled-well H s m (next a) e (asked a)
  well-all s m (OpensBackend h next) e asked = λ opened. well-all s m (next opened) e (asked opened)
  well-all s m (OpensGpu h next) e asked = λ opened. well-all s m (next opened) e (asked opened)

  pub whoever-waits : WhoeverWaitsIsAnswered H B G
  whoever-waits s m e = well-all s m (row s m) e (rows-asked m.request s m refl)
