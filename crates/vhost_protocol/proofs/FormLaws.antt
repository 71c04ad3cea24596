-- The forms in which replies refuse are replies that the calls may have.
use Rattle.std.proofs.Common.{◌≡◌, ℕ, ◌+◌, ◌<◌, ◌^◌, Bool, true, false, cond, ◌&&◌, ◌||◌, List, [], ◌∷◌, ◌++◌, length, Option, Some, None, Result, Ok, Err, refl, sym, ◌∙◌, ap, subst, inl, is_ok, lit<, arith}
use Rattle.std.specs.Prelude.{nat_le, not, ⊤}
use Rattle.std.proofs.lemmas.Bool.{le-leb}
use Rattle.byteorder.specs.Numbers.{little_number-reads_back}
use Rattle.vhost_message.specs.declared.heard_req.HeardReq.{HeardReq}
use Rattle.vhost_message.specs.declared.heard_req.HeardReq.TheVariants.{SET_MEM_TABLE, ADD_MEM_REG, GET_CONFIG, GET_INFLIGHT_FD, POSTCOPY_END, SET_DEVICE_STATE_FD, CHECK_DEVICE_STATE}
use Rattle.vhost_message.specs.declared.records.config.VhostUserConfig.{VhostUserConfig}
use Rattle.vhost_message.specs.declared.records.inflight.VhostUserInflight.{VhostUserInflight}
use Rattle.vhost_message.specs.declared.records.transfer.VhostUserTransferDeviceState.{VhostUserTransferDeviceState}
use Rattle.vhost_message.specs.Records.{config_of, config_text, inflight_text}
use Rattle.vhost_message.specs.RecordLaws.{ConfigFits, InflightFits, inflight-reads_back}
use Rattle.vhost_message.specs.Text.{digits}
use Rattle.vhost_message.specs.Valid.{is_valid_config}
use Rattle.vhost_protocol.specs.Ask.{Asked, Sends, ask, asks, config, frontend_feature, given, has_room, param, ◌>>◌, ◌>>=◌}
use Rattle.vhost_protocol.specs.declared.profile.Profile.{Profile}
use Rattle.vhost_protocol.specs.declared.profile.Profile.TheVariants.{Vhost, Standard}
use Rattle.vhost_message.specs.declared.limits.TheConstants.{MAX_MSG_SIZE}
use Rattle.vhost_protocol.specs.declared.asked.Shape.TheVariants as shape
use Rattle.vhost_protocol.specs.Features.{CONFIG}
use Rattle.vhost_protocol.specs.Error.{Error, InvalidParam, test}
use Rattle.vhost_protocol.specs.FrontendCall.{FrontendCall, GetConfig, GetInflightFd, SetDeviceStateFd, CheckDeviceState, PostcopyEnd, PostcopyAckMemRegions, SetHdrFlags, SetLogBase, Frontend}
use Rattle.vhost_protocol.specs.Heard.{CallFits, IsGoodReply}
use Rattle.vhost_protocol.specs.Profile.{is_standard}
use Rattle.vhost_protocol.specs.Served.{Silent, Acknowledged}
use Rattle.vhost_protocol.specs.Session.{Session}
use Rattle.vhost_protocol.specs.Settled.{config_asked, awaits_reply, awaits_ack, is_unanswered, is_fatal, ended, silenced, saying, refused_reply, spoken, settled}
use Rattle.vhost_protocol.specs.Split.{Message}
use Rattle.vhost_protocol.specs.Step.{Outcome}
use Rattle.vhost_protocol.specs.Written.{ConfigBytes, payload_text}
use Rattle.vhost_protocol.proofs.HeardLaws.{config-fits}

-- a record is read behind which something stands
config-read : (c : VhostUserConfig) (rest : List ℕ) → ConfigFits c → config_of (config_text c ++ rest) ≡ c
config-read c rest fits =
    let offset = little_number-reads_back 4 c.offset (digits 4 c.size ++ digits 4 c.flags ++ rest) fits.0 in
    let size = little_number-reads_back 4 c.size (digits 4 c.flags ++ rest) fits.1 in
    let flags = little_number-reads_back 4 c.flags rest fits.2 in
    λ i. record { offset = offset i; size = size i; flags = flags i }

-- and it is there
config-asked-read : (c : VhostUserConfig) (rest : List ℕ) → ConfigFits c → config_asked (config_text c ++ rest) ≡ c
config-asked-read c rest fits =
    ap (λ b. cond b (config_of (config_text c ++ rest)) (record { offset = 0; size = 0; flags = 0 })) (le-leb 12 (length (config_text c ++ rest)) (omega arith)) ∙ config-read c rest fits

pub both-true : (a b : Bool) → (a && b) ≡ true → (a ≡ true) × (b ≡ true)
both-true true true h = (refl, refl)
both-true true false h = absurd (cc h)
both-true false b h = absurd (cc h)

module _ (H : Type 0) where
  -- a refusal of this request, in whatever form it has, is a reply that the call may have
  abbrev pub Refusable : FrontendCall H → HeardReq → List ℕ → Type 0
  Refusable call r body = (a : Result ⊤ Error) (t : Session) → IsGoodReply call (refused_reply r body (record { answer = a; served = Silent; session = t })).served

  -- whatever becomes of the call
  abbrev pub AskedRefusable : FrontendCall H → Asked H → Type 0
  AskedRefusable call (Sends w awaited g) = Refusable call w.request (payload_text w.payload)
  AskedRefusable call _ = ⊤

  form-then : (call : FrontendCall H) (x : Result (Unit {0}) Error) (next : Asked H) → AskedRefusable call next → AskedRefusable call (x >> next)
  form-then call (Ok u) next h = h
  form-then call (Err e) next h = tt

  form-known : (call : FrontendCall H) (b : Bool) (e : Error) (next : Asked H) → (b ≡ true → AskedRefusable call next) → AskedRefusable call (test b e >> next)
  form-known call true e next h = h refl
  form-known call false e next h = tt

  form-given : (A : Type 0) (call : FrontendCall H) (x : Option A) (next : A → Asked H) → ((a : A) → AskedRefusable call (next a)) → AskedRefusable call (given x >>= next)
  form-given A call (Some a) next h = h a
  form-given A call None next h = tt

  form-cond : (call : FrontendCall H) (b : Bool) (x y : Asked H) → AskedRefusable call x → AskedRefusable call y → AskedRefusable call (cond b x y)
  form-cond call true x y h k = h
  form-cond call false x y h k = k

  ruleset formed = (form-then, form-given, form-cond)

  config-form : (f : Frontend) (o n k : ℕ) (buffer : List ℕ) → f.profile ≡ Standard → (is_valid_config (config o n k) && has_room f buffer) ≡ true → Refusable (GetConfig o n k buffer) GET_CONFIG (config_text (config o n k) ++ buffer)
  config-form f o n k [] p tested a t = absurd (cc (sym (ap (λ x. cond (is_standard x) (nat_le 1 0) true) p) ∙ (both-true (is_valid_config (config o n k)) (has_room f []) tested).1))
  config-form f o n k (b ∷ buffer) p tested a t =
      let fits = config-fits H H H (config o n k) (both-true (is_valid_config (config o n k)) (has_room f (b ∷ buffer)) tested).0 in
      let read = config-asked-read (config o n k) (b ∷ buffer) fits in
      (inl (refl, refl, refl), (subst (λ (x : VhostUserConfig). x.offset < 2 ^ 32) (sym read) fits.0, lit< tt, subst (λ (x : VhostUserConfig). x.flags < 2 ^ 32) (sym read) fits.2))

  config-asked : (f : Frontend) (o n k : ℕ) (buffer : List ℕ) → f.profile ≡ Standard → (is_valid_config (config o n k) && has_room f buffer) ≡ true
      → AskedRefusable (GetConfig o n k buffer) (frontend_feature f CONFIG >> (param (nat_le (12 + length buffer) MAX_MSG_SIZE) >> asks f GET_CONFIG (ConfigBytes (config o n k) buffer) [] shape.Config))
  config-asked f o n k buffer p tested =
      let form : Refusable (GetConfig o n k buffer) GET_CONFIG (config_text (config o n k) ++ buffer) = config-form f o n k buffer p tested in
      search (formed, form) depth 12

  area-form : (i : VhostUserInflight) → InflightFits i → Refusable (GetInflightFd i) GET_INFLIGHT_FD (inflight_text i)
  area-form i fits a t =
      let read = inflight-reads_back i fits in
      (tt, (lit< tt, subst (λ (x : VhostUserInflight). x.mmap_offset < 2 ^ 64) (sym read) fits.1, subst (λ (x : VhostUserInflight). x.num_queues < 2 ^ 16) (sym read) fits.2, subst (λ (x : VhostUserInflight). x.queue_size < 2 ^ 16) (sym read) fits.3))

  end-form : Refusable PostcopyEnd POSTCOPY_END []
  end-form (Ok u) t = (tt, lit< tt)
  end-form (Err e) t = (tt, lit< tt)

  state-form : (t : VhostUserTransferDeviceState) (h : H) (body : List ℕ) → Refusable (SetDeviceStateFd t h) SET_DEVICE_STATE_FD body
  state-form t h body a u = (tt, lit< tt)

  check-form : Refusable CheckDeviceState CHECK_DEVICE_STATE []
  check-form a u = (tt, lit< tt)

  -- Under Standard every refusal of what a call sends is a reply that the call may have.
  pub refusable : (f : Frontend) (call : FrontendCall H) → f.profile ≡ Standard → CallFits call → AskedRefusable call (ask f call)
  refusable f (GetConfig o n k buffer) p fits = form-known (GetConfig o n k buffer) (is_valid_config (config o n k) && has_room f buffer) InvalidParam _ (λ tested. config-asked f o n k buffer p tested)
  refusable f (GetInflightFd i) p fits = search (formed, area-form i fits) depth 12
  refusable f PostcopyEnd p fits = search (formed, end-form) depth 12
  refusable f (SetDeviceStateFd t h) p fits = search (formed, state-form t h) depth 12
  refusable f CheckDeviceState p fits = search (formed, check-form) depth 12
  refusable f (PostcopyAckMemRegions SET_MEM_TABLE) p fits = search formed depth 12
  refusable f (PostcopyAckMemRegions ADD_MEM_REG) p fits = search formed depth 12
  refusable f (PostcopyAckMemRegions _) p fits = tt
  refusable f (SetLogBase base None) p fits = search formed depth 12
  refusable f (SetLogBase base (Some r)) p fits = search formed depth 12
  refusable f (SetHdrFlags flags) p fits = tt
  refusable f _ p fits = search formed depth 12

  -- ---- what is settled

  one-of : (R n F A : Bool) (x y z w : Outcome H) (P : Outcome H → Type 0) → P x → P y → P z → P w → P (cond (R && n) x (cond (F || R) y (cond A z w)))
  one-of true true F A x y z w P hx hy hz hw = hx
  one-of true false true A x y z w P hx hy hz hw = hy
  one-of true false false A x y z w P hx hy hz hw = hy
  one-of false n true A x y z w P hx hy hz hw = hy
  one-of false n false true x y z w P hx hy hz hw = hz
  one-of false n false false x y z w P hx hy hz hw = hw

  spoken-good : (call : FrontendCall H) (s t : Session) (m : Message HeardReq H) (a : Result ⊤ Error) → Refusable call m.request m.body → IsGoodReply call (spoken s m (record { answer = a; served = Silent; session = t })).served
  spoken-good call s t m a form =
      let o : Outcome H = record { answer = a; served = Silent; session = t } in
      one-of (awaits_reply s m) (not m.reply) (is_fatal m o) (awaits_ack m o) (refused_reply m.request m.body o) (ended o) (saying o (Acknowledged (is_ok a))) o (λ x. IsGoodReply call x.served) (form a t) tt tt tt

  by-profile : (call : FrontendCall H) (s : Session) (m : Message HeardReq H) (o : Outcome H) (p : Profile) (u : Bool) → (p ≡ Standard → Refusable call m.request m.body) → IsGoodReply call o.served
      → IsGoodReply call (cond (is_standard p && u) (spoken s m (silenced o)) o).served
  by-profile call s m o Standard true form good = spoken-good call s o.session m o.answer (form refl)
  by-profile call s m o Standard false form good = good
  by-profile call s m o Vhost u form good = good

  -- what was a reply that the call may have still is one
  pub settled-good : (call : FrontendCall H) (s : Session) (m : Message HeardReq H) (o : Outcome H) → (s.profile ≡ Standard → Refusable call m.request m.body) → IsGoodReply call o.served → IsGoodReply call (settled s m o).served
  settled-good call s m o form good = by-profile call s m o s.profile (is_unanswered (awaits_reply s m) o.served) form good
