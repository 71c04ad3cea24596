-- The device is called once, or not at all; and then the session is as it was, or has ended.
use Rattle.std.proofs.Common.{◌≡◌, ◌⊎◌, ◌∙◌, ℕ, Bool, true, false, cond, ◌&&◌, not, List, Result, inl, inr, refl, sym, ap, subst, is_ok}
use Rattle.std.specs.Prelude.{⊤}
use Rattle.vhost_message.specs.declared.heard_req.HeardReq.{HeardReq}
use Rattle.vhost_message.specs.declared.heard_req.HeardReq.TheVariants.{GET_FEATURES, GET_CONFIG, GET_INFLIGHT_FD, GET_SHARED_OBJECT, POSTCOPY_ADVISE, SET_DEVICE_STATE_FD, CHECK_DEVICE_STATE, POSTCOPY_END}
use Rattle.vhost_protocol.proofs.SettleLaws.{pick}
use Rattle.vhost_protocol.specs.DeviceCall.{Call, Answer}
use Rattle.vhost_protocol.specs.Error.{Error}
use Rattle.vhost_protocol.specs.Handler.{Follows, MeetsRow}
use Rattle.vhost_protocol.specs.Profile.{is_standard}
use Rattle.vhost_protocol.specs.Row.{row}
use Rattle.vhost_protocol.specs.Served.{Acknowledged}
use Rattle.vhost_protocol.specs.Session.{Session}
use Rattle.vhost_protocol.specs.Settled.{awaits_reply, awaits_ack, is_fatal, is_unanswered, ended, saying, silenced, refused_reply, spoken, settled}
use Rattle.vhost_protocol.specs.Split.{Message}
use Rattle.vhost_protocol.specs.Step.{Outcome, Step, Refused, Calls, OpensBackend, OpensGpu}
use Rattle.vhost_protocol.specs.Stream.{Cell}
use Rattle.vhost_backend_req_handler.specs.Serving.{fitting, kept_unsent}
use Rattle.vhost_headline.specs.Headline.{Stays}

module _ (H : Type 0) where
  refused-stays : (o : Outcome H) (r : HeardReq) (body : List ℕ) → Stays o.session (refused_reply r body o).session
  refused-stays o GET_CONFIG body = inl refl
  refused-stays o GET_INFLIGHT_FD body = inl refl
  refused-stays o GET_SHARED_OBJECT body = inl refl
  refused-stays o POSTCOPY_ADVISE body = inl refl
  refused-stays o SET_DEVICE_STATE_FD body = inl refl
  refused-stays o CHECK_DEVICE_STATE body = inl refl
  refused-stays o POSTCOPY_END body = inl refl
  refused-stays o _ body = inr refl

  spoken-stays : (s : Session) (m : Message HeardReq H) (o : Outcome H) → Stays o.session (spoken s m o).session
  spoken-stays s m o = pick H (awaits_reply s m) (not m.reply) (is_fatal m o) (awaits_ack m o) (refused_reply m.request m.body o) (ended o) (saying o (Acknowledged (is_ok o.answer))) o (λ x. Stays o.session x.session)
      (λ own. refused-stays o m.request m.body) (inr refl) (λ none wants. inl refl) (λ none wants. inl refl)

  settled-stays : (s : Session) (m : Message HeardReq H) (o : Outcome H) → Stays o.session (settled s m o).session
  settled-stays s m o = go (is_standard s.profile && is_unanswered (awaits_reply s m) o.served)
    where
      go : (b : Bool) → Stays o.session (cond b (spoken s m (silenced o)) o).session
      go true = spoken-stays s m (silenced o)
      go false = inl refl

-- of a session whose reply was stopped the older is kept, or the newer
unsent-stays : (r : HeardReq) (s after : Session) → Stays s after → Stays s (kept_unsent r s after)
unsent-stays GET_FEATURES s after stays = inl refl
unsent-stays _ s after stays = stays

module _ {H B G Dev : Type 0} (gives : Dev → (c : Call H B G) → Answer c → Dev → Type 0) (opens_backend : H → Result B Error → Type 0) (opens_gpu : H → Result G Error → Type 0) where
  -- it was called once; or neither it nor the session has changed, but that this may have ended
  abbrev pub Once : Session → Dev → Session → Dev → Type 0
  Once s d s' d' = ((c : Call H B G) × (a : Answer c) × gives d c a d') ⊎ ((d' ≡ d) × Stays s s')

  followed : (s : Session) (d : Dev) (x : Step H B G) (o : Outcome H) (d' : Dev) → Follows (fitting gives) opens_backend opens_gpu s d x o d'
      → ((c : Call H B G) × (a : Answer c) × gives d c a d') ⊎ ((d' ≡ d) × (o.session ≡ s))
  followed s d (Refused r) o d' f = inr (f.1, ap (λ y. y.session) f.0)
  followed s d (Calls c next) o d' f = inl (c, f.0, f.1.0)
  followed s d (OpensBackend h next) o d' f = followed s d (next f.0) o d' f.2
  followed s d (OpensGpu h next) o d' f = followed s d (next f.0) o d' f.2

  settled-once : (s : Session) (m : Message HeardReq H) (d : Dev) (told : Outcome H) (s' : Session) (d' : Dev) → s' ≡ (settled s m told).session
      → ((c : Call H B G) × (a : Answer c) × gives d c a d') ⊎ ((d' ≡ d) × (told.session ≡ s)) → Once s d s' d'
  settled-once s m d told s' d' is (inl called) = inl called
  settled-once s m d told s' d' is (inr (still, same)) =
      inr (still, subst (λ t. Stays s t) (sym is) (subst (λ t. Stays t (settled s m told).session) same (settled-stays H s m told)))

  pub met-once : (s : Session) (d : Dev) (m : Message HeardReq H) (answer : Result ⊤ Error) (written : List (Cell H)) (s' : Session) (d' : Dev) → MeetsRow (fitting gives) opens_backend opens_gpu s d m answer written s' d' → Once s d s' d'
  met-once s d m answer written s' d' (o, (told, follows, is), is_answer, is_written, same) =
      settled-once s m d told s' d' (same ∙ ap (λ y. y.session) is) (followed s d (row s m) told d' follows)

  -- the same where the reply was stopped
  pub stopped-once : (r : HeardReq) (s : Session) (d : Dev) (after s' : Session) (d' : Dev) → s' ≡ kept_unsent r s after → Once s d after d' → Once s d s' d'
  stopped-once r s d after s' d' is (inl called) = inl called
  stopped-once r s d after s' d' is (inr (still, stays)) = inr (still, subst (λ t. Stays s t) (sym is) (unsent-stays r s after stays))
