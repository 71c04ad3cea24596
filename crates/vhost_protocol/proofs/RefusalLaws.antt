-- The forms in which replies refuse are heard as errors of the backend.
use Rattle.std.proofs.Common.{◌≡◌, ℕ, ◌+◌, Bool, true, false, cond, ◌&&◌, List, [], ◌∷◌, ◌++◌, length, Option, Some, None, Result, Ok, Err, refl, sym, ◌∙◌, ap, subst}
use Rattle.std.specs.Prelude.{nat_le}
use Rattle.vhost_message.specs.declared.heard_req.HeardReq.{HeardReq}
use Rattle.vhost_message.specs.declared.heard_req.HeardReq.TheVariants.{SET_MEM_TABLE, ADD_MEM_REG, GET_CONFIG, GET_INFLIGHT_FD, GET_SHARED_OBJECT, POSTCOPY_ADVISE, POSTCOPY_END, SET_DEVICE_STATE_FD, CHECK_DEVICE_STATE}
use Rattle.vhost_message.specs.declared.limits.TheConstants.{MAX_MSG_SIZE}
use Rattle.vhost_message.specs.declared.records.inflight.VhostUserInflight.{VhostUserInflight}
use Rattle.vhost_message.specs.declared.records.shared.VhostUserSharedMsg.{VhostUserSharedMsg}
use Rattle.vhost_message.specs.declared.records.transfer.VhostUserTransferDeviceState.{VhostUserTransferDeviceState}
use Rattle.vhost_message.specs.declared.postcopy.PostcopyState.TheVariants.{End}
use Rattle.vhost_message.specs.Records.{config_text, inflight_text}
use Rattle.vhost_message.specs.RecordLaws.{InflightFits, inflight-reads_back}
use Rattle.vhost_message.specs.Valid.{is_valid_config, is_valid_inflight}
use Rattle.vhost_protocol.specs.AnswerTable.{answered, inflight_reply}
use Rattle.vhost_protocol.specs.Answering.{RefusalIsSaid, RefusesAloud, RefusalsAreHeard}
use Rattle.vhost_protocol.specs.Ask.{Asked, Sends, asks, awaited_ack, config, frontend_feature, given, has_queues, has_room, param, turning, ◌>>◌, ◌>>=◌}
use Rattle.vhost_protocol.specs.declared.asked.Awaited.TheVariants.{Nobody, Ack, Reply}
use Rattle.vhost_protocol.specs.declared.asked.Shape.TheVariants as shape
use Rattle.vhost_protocol.specs.declared.profile.Profile.TheVariants.{Standard}
use Rattle.vhost_protocol.specs.Error.{Error, InvalidMessage, InvalidParam, BackendInternalError, test}
use Rattle.vhost_protocol.specs.Features.{CONFIG, INFLIGHT_SHMFD, PAGEFAULT}
use Rattle.vhost_protocol.specs.FrontendCall.{FrontendCall, GetConfig, GetInflightFd, GetSharedObject, PostcopyAdvise, PostcopyEnd, PostcopyAckMemRegions, SetDeviceStateFd, CheckDeviceState, SetHdrFlags, SetLogBase, Frontend}
use Rattle.vhost_protocol.specs.Profile.{is_standard}
use Rattle.vhost_protocol.specs.Session.{is_listen}
use Rattle.vhost_protocol.specs.Written.{ConfigBytes, InflightArea, Written}
use Rattle.vhost_protocol.proofs.FormLaws.{both-true}

module _ (H : Type 0) where
  aloud-then : (call : FrontendCall H) (x : Result (Unit {0}) Error) (next : Asked H) → RefusesAloud call next → RefusesAloud call (x >> next)
  aloud-then call (Ok u) next h = h
  aloud-then call (Err e) next h = tt

  aloud-known : (call : FrontendCall H) (b : Bool) (e : Error) (next : Asked H) → (b ≡ true → RefusesAloud call next) → RefusesAloud call (test b e >> next)
  aloud-known call true e next h = h refl
  aloud-known call false e next h = tt

  aloud-given : (A : Type 0) (call : FrontendCall H) (x : Option A) (next : A → Asked H) → ((a : A) → RefusesAloud call (next a)) → RefusesAloud call (given x >>= next)
  aloud-given A call (Some a) next h = h a
  aloud-given A call None next h = tt

  aloud-cond : (call : FrontendCall H) (b : Bool) (x y : Asked H) → RefusesAloud call x → RefusesAloud call y → RefusesAloud call (cond b x y)
  aloud-cond call true x y h k = h
  aloud-cond call false x y h k = k

  -- a call that awaits no reply of its own
  aloud-acked : (call : FrontendCall H) (w : Written HeardReq H) (b : Bool) (g : Frontend) → RefusesAloud call (Sends w (cond b Ack Nobody) g)
  aloud-acked call w true g = tt
  aloud-acked call w false g = tt

  aloud-turned : (call : FrontendCall H) (w : Written HeardReq H) (a b c : Bool) (g : Frontend) → RefusesAloud call (Sends w (cond a (cond b Ack Nobody) (cond c Ack Nobody)) g)
  aloud-turned call w true b c g = aloud-acked call w b g
  aloud-turned call w false b c g = aloud-acked call w c g

  aloud-based : (call : FrontendCall H) (w : Written HeardReq H) (a b : Bool) (g : Frontend) → RefusesAloud call (Sends w (cond a (cond b Ack Nobody) Nobody) g)
  aloud-based call w true b g = aloud-acked call w b g
  aloud-based call w false b g = tt

  ruleset aloud = (aloud-then, aloud-given, aloud-cond, aloud-acked, aloud-turned, aloud-based)

  -- without bytes there is room for none
  config-said : (f : Frontend) (o n k : ℕ) (buffer : List ℕ) → f.profile ≡ Standard → (is_valid_config (config o n k) && has_room f buffer) ≡ true
      → RefusalIsSaid {H = H} (GetConfig o n k buffer) (Reply shape.Config) f GET_CONFIG (config_text (config o n k) ++ buffer)
  config-said f o n k [] p tested e t = absurd (cc (sym (ap (λ x. cond (is_standard x) (nat_le 1 0) true) p) ∙ (both-true (is_valid_config (config o n k)) (has_room f []) tested).1))
  config-said f o n k (b ∷ buffer) p tested e t = (f, refl)

  config-aloud : (f : Frontend) (o n k : ℕ) (buffer : List ℕ) → f.profile ≡ Standard → (is_valid_config (config o n k) && has_room f buffer) ≡ true
      → RefusesAloud {H = H} (GetConfig o n k buffer) (frontend_feature f CONFIG >> (param (nat_le (12 + length buffer) MAX_MSG_SIZE) >> asks f GET_CONFIG (ConfigBytes (config o n k) buffer) [] shape.Config))
  config-aloud f o n k buffer p tested =
      let said : RefusalIsSaid {H = H} (GetConfig o n k buffer) (Reply shape.Config) f GET_CONFIG (config_text (config o n k) ++ buffer) = config-said f o n k buffer p tested in
      search (aloud, said) depth 12

  -- the record that is named again has the queues that were asked for
  area-said : (f : Frontend) (i : VhostUserInflight) → f.profile ≡ Standard → has_queues f i ≡ true → InflightFits i
      → RefusalIsSaid {H = H} (GetInflightFd i) (Reply shape.Inflight) f GET_INFLIGHT_FD (inflight_text i)
  area-said f i p queues fits e t =
      let valid : is_valid_inflight i ≡ true = sym (ap (λ x. cond (is_standard x) (is_valid_inflight i) true) p) ∙ queues in
      let again : (VhostUserInflight → VhostUserInflight) = λ j. record j { mmap_size = 0 } in (
        f,
        ap (λ j. Some (answered f (cond (is_valid_inflight (again j)) (inflight_reply f (again j) []) (Err InvalidMessage)))) (inflight-reads_back i fits)
            ∙ ap (λ b. Some (answered f (cond b (inflight_reply f (again i) []) (Err InvalidMessage)))) valid
            ∙ ap (λ x. Some (answered f (Err (cond (is_standard x && true) BackendInternalError InvalidMessage)))) p,
      )

  area-aloud : (f : Frontend) (i : VhostUserInflight) → f.profile ≡ Standard → InflightFits i → RefusesAloud {H = H} (GetInflightFd i) (param (has_queues f i) >> asks f GET_INFLIGHT_FD (InflightArea i) [] shape.Inflight)
  area-aloud f i p fits = aloud-known (GetInflightFd i) (has_queues f i) InvalidParam _ (λ queues. area-said f i p queues fits)

  object-said : (f : Frontend) (name : VhostUserSharedMsg) (body : List ℕ) → f.profile ≡ Standard → RefusalIsSaid {H = H} (GetSharedObject name) (Reply shape.Empty) f GET_SHARED_OBJECT body
  object-said f name body p e t = (f, ap (λ x. Some (answered f (Err (cond (is_standard x) BackendInternalError InvalidMessage)))) p)

  advice-said : (f : Frontend) (body : List ℕ) → f.profile ≡ Standard → RefusalIsSaid {H = H} PostcopyAdvise (Reply shape.Empty) f POSTCOPY_ADVISE body
  advice-said f body p e t = (f, ap (λ x. Some (answered f (Err (cond (is_standard x) BackendInternalError InvalidMessage)))) p)

  end-said : (f : Frontend) (body : List ℕ) → RefusalIsSaid {H = H} PostcopyEnd (Reply shape.U64) f POSTCOPY_END body
  end-said f body e t = (cond (is_listen f.postcopy) (record f { postcopy = End }) f, refl)

  -- its reply is awaited under Standard alone
  end-aloud : (f : Frontend) → f.profile ≡ Standard → RefusesAloud {H = H} PostcopyEnd (Sends (turning f POSTCOPY_END) (cond (is_standard f.profile) (Reply shape.U64) (awaited_ack f)) f)
  end-aloud f p = subst (λ x. RefusesAloud {H = H} PostcopyEnd (Sends (turning f POSTCOPY_END) (cond (is_standard x) (Reply shape.U64) (awaited_ack f)) f)) (sym p) (end-said f [])

  state-said : (f : Frontend) (d : VhostUserTransferDeviceState) (h : H) (body : List ℕ) → RefusalIsSaid {H = H} (SetDeviceStateFd d h) (Reply shape.U64) f SET_DEVICE_STATE_FD body
  state-said f d h body e t = (f, refl)

  check-said : (f : Frontend) (body : List ℕ) → RefusalIsSaid {H = H} CheckDeviceState (Reply shape.U64) f CHECK_DEVICE_STATE body
  check-said f body e t = (f, refl)

  pub refusals-heard : RefusalsAreHeard H
  refusals-heard f (GetConfig o n k buffer) p fits = aloud-known (GetConfig o n k buffer) (is_valid_config (config o n k) && has_room f buffer) InvalidParam _ (λ tested. config-aloud f o n k buffer p tested)
  refusals-heard f (GetInflightFd i) p fits = aloud-then (GetInflightFd i) (frontend_feature f INFLIGHT_SHMFD) _ (area-aloud f i p fits)
  refusals-heard f (GetSharedObject name) p fits = search (aloud, object-said f name, p) depth 12
  refusals-heard f PostcopyAdvise p fits = search (aloud, advice-said f [] p) depth 12
  refusals-heard f PostcopyEnd p fits = aloud-then PostcopyEnd (frontend_feature f PAGEFAULT) _ (end-aloud f p)
  refusals-heard f (SetDeviceStateFd d h) p fits = search (aloud, state-said f d h) depth 12
  refusals-heard f CheckDeviceState p fits = search (aloud, check-said f []) depth 12
  refusals-heard f (PostcopyAckMemRegions SET_MEM_TABLE) p fits = search aloud depth 12
  refusals-heard f (PostcopyAckMemRegions ADD_MEM_REG) p fits = search aloud depth 12
  refusals-heard f (PostcopyAckMemRegions _) p fits = tt
  refusals-heard f (SetLogBase base None) p fits = search aloud depth 12
  refusals-heard f (SetLogBase base (Some r)) p fits = search aloud depth 12
  refusals-heard f (SetHdrFlags flags) p fits = tt
  refusals-heard f _ p fits = search aloud depth 12
