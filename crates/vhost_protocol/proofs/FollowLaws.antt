-- What holds of a row whatever its device answers, holds of each row that was met.
use Rattle.std.proofs.Common.{◌≡◌, false, Option, Some, None, Result, refl, sym, ◌∙◌, ap, subst, ℤ}
use Rattle.std.specs.Prelude.{is_some}
use Rattle.vhost_message.specs.declared.heard_req.HeardReq.{HeardReq}
use Rattle.vhost_protocol.specs.Agreement.{KeepsMark, lasting, IsKnown, AllKnown, IsNegotiated, Fits, StaysInStep, is_settled_end}
use Rattle.vhost_protocol.specs.Answering.{AnswersWell, AllWell, IsHeard, AllHeard, IsServed, StaysHeard}
use Rattle.vhost_protocol.specs.Ask.{Sends, ask}
use Rattle.vhost_protocol.specs.declared.asked.Awaited.{Awaited}
use Rattle.vhost_protocol.specs.DeviceCall.{Call, Answer}
use Rattle.vhost_protocol.specs.Error.{Error}
use Rattle.vhost_protocol.specs.FrontendCall.{FrontendCall, PostcopyEnd, Frontend}
use Rattle.vhost_protocol.specs.Handler.{Follows, Meets}
use Rattle.vhost_protocol.specs.Heard.{AnswerFits, CallFits, IsGoodReply, AllGood, AskedWell}
use Rattle.vhost_protocol.specs.Joined.{AgreeOn, read_as, stops}
use Rattle.vhost_protocol.specs.Row.{row}
use Rattle.vhost_protocol.specs.Profile.{is_standard}
use Rattle.vhost_protocol.specs.declared.profile.Profile.{Profile}
use Rattle.vhost_protocol.specs.declared.profile.Profile.TheVariants.{Vhost, Standard}
use Rattle.vhost_protocol.specs.Session.{Session}
use Rattle.vhost_protocol.specs.Settled.{settled}
use Rattle.vhost_protocol.specs.Split.{Message}
use Rattle.vhost_protocol.specs.Step.{Outcome, Step, Refused, Calls, OpensBackend, OpensGpu}
use Rattle.vhost_protocol.specs.Written.{Written}
use Rattle.vhost_protocol.proofs.AgreeLaws.{keeps-step}
use Rattle.vhost_protocol.proofs.HeardLaws.{replies-well}
use Rattle.vhost_protocol.proofs.FormLaws.{AskedRefusable, refusable, settled-good}
use Rattle.vhost_protocol.proofs.LockLaws.{no-silent-stop}
use Rattle.vhost_protocol.proofs.RowLaws.{rows-keep}
use Rattle.vhost_protocol.proofs.SettleLaws.{settled-profile, settled-vhost, whoever-waits}

module _ {H B G Dev : Type 0} (gives : Dev → (c : Call H B G) → Answer c → Dev → Type 0)
    (opens_backend : H → Result B Error → Type 0) (opens_gpu : H → Result G Error → Type 0) where
  abbrev Followed : Session → Dev → Step H B G → Outcome H → Dev → Type 0
  Followed s d x o d' = Follows gives opens_backend opens_gpu s d x o d'

  -- the failure mark and the profile stay
  followed-lasting : (s : Session) (d : Dev) (x : Step H B G) (o : Outcome H) (d' : Dev) → KeepsMark s x → Followed s d x o d' → lasting o.session ≡ lasting s
  followed-lasting s d (Refused r) o d' keeps f = ap (λ y. lasting y.session) f.0
  followed-lasting s d (Calls c next) o d' keeps f = ap (λ y. lasting y.session) f.2 ∙ keeps f.0
  followed-lasting s d (OpensBackend h next) o d' keeps f = followed-lasting s d (next f.0) o d' (keeps f.0) f.2
  followed-lasting s d (OpensGpu h next) o d' keeps f = followed-lasting s d (next f.0) o d' (keeps f.0) f.2

  pub followed-mark : (s : Session) (d : Dev) (x : Step H B G) (o : Outcome H) (d' : Dev) → KeepsMark s x → Followed s d x o d' → o.session.failed ≡ s.failed
  followed-mark s d x o d' keeps f = ap (λ y. y.0) (followed-lasting s d x o d' keeps f)

  -- the profile stays, whatever is settled
  pub met-profile : (s : Session) (m : Message HeardReq H) (d : Dev) (o : Outcome H) (d' : Dev) → Meets gives opens_backend opens_gpu s d m o d' → o.session.profile ≡ s.profile
  met-profile s m d o d' met =
      ap (λ y. y.session.profile) met.2 ∙ settled-profile H s m met.0 ∙ ap (λ y. y.1) (followed-lasting s d (row s m) met.0 d' (rows-keep H B G m.request s m) met.1)

  -- the answer table knows what came
  pub followed-known : (call : FrontendCall H) (awaited : Awaited) (g : Frontend) (r : HeardReq) (s : Session) (d : Dev) (x : Step H B G) (o : Outcome H) (d' : Dev) → AllKnown call awaited g r s x → Followed s d x o d' → IsKnown call awaited g r o
  followed-known call awaited g r s d (Refused refusal) o d' known f = subst (λ y. IsKnown call awaited g r y) (sym f.0) known
  followed-known call awaited g r s d (Calls c next) o d' known f = subst (λ y. IsKnown call awaited g r y) (sym f.2) (known f.0)
  followed-known call awaited g r s d (OpensBackend h next) o d' known f = followed-known call awaited g r s d (next f.0) o d' (known f.0) f.2
  followed-known call awaited g r s d (OpensGpu h next) o d' known f = followed-known call awaited g r s d (next f.0) o d' (known f.0) f.2

  -- a reply is one that the call may have, where the device's answers have the bits of their types
  pub followed-good : (fits : (old : Dev) (c : Call H B G) (a : Answer c) (new : Dev) → gives old c a new → AnswerFits c a) (call : FrontendCall H) (s : Session) (d : Dev) (x : Step H B G) (o : Outcome H) (d' : Dev) → AllGood call x → Followed s d x o d' → IsGoodReply call o.served
  followed-good fits call s d (Refused refusal) o d' good f = subst (λ y. IsGoodReply call y.served) (sym f.0) good
  followed-good fits call s d (Calls c next) o d' good f = subst (λ y. IsGoodReply call y.served) (sym f.2) (good f.0 (fits d c f.0 d' f.1))
  followed-good fits call s d (OpensBackend h next) o d' good f = followed-good fits call s d (next f.0) o d' (good f.0) f.2
  followed-good fits call s d (OpensGpu h next) o d' good f = followed-good fits call s d (next f.0) o d' (good f.0) f.2

  -- whoever waits is answered
  pub followed-well : (s : Session) (m : Message HeardReq H) (d : Dev) (x : Step H B G) (told : Outcome H) (d' : Dev) → AllWell s m x → Followed s d x told d' → AnswersWell s m (settled s m told)
  followed-well s m d (Refused refusal) told d' well f = subst (λ y. AnswersWell s m (settled s m y)) (sym f.0) well
  followed-well s m d (Calls c next) told d' well f = subst (λ y. AnswersWell s m (settled s m y)) (sym f.2) (well f.0)
  followed-well s m d (OpensBackend h next) told d' well f = followed-well s m d (next f.0) told d' (well f.0) f.2
  followed-well s m d (OpensGpu h next) told d' well f = followed-well s m d (next f.0) told d' (well f.0) f.2

  pub met-well : (s : Session) (m : Message HeardReq H) (d : Dev) (o : Outcome H) (d' : Dev) → s.profile ≡ Standard → Meets gives opens_backend opens_gpu s d m o d' → AnswersWell s m o
  met-well s m d o d' e met = subst (λ y. AnswersWell s m y) (sym met.2) (followed-well s m d (row s m) met.0 d' (whoever-waits H B G s m e) met.1)

  -- under Vhost the row says all
  pub met-row : (s : Session) (m : Message HeardReq H) (d : Dev) (o : Outcome H) (d' : Dev) → s.profile ≡ Vhost → Meets gives opens_backend opens_gpu s d m o d' → Followed s d (row s m) o d'
  met-row s m d o d' e met = subst (λ y. Followed s d (row s m) y d') (sym (met.2 ∙ settled-vhost H s m met.0 e)) met.1

  -- both sides know it
  pub followed-heard : (call : FrontendCall H) (awaited : Awaited) (g : Frontend) (s : Session) (m : Message HeardReq H) (d : Dev) (x : Step H B G) (told : Outcome H) (d' : Dev) → AllHeard call awaited g s m x → Followed s d x told d' → IsHeard call awaited g (settled s m told)
  followed-heard call awaited g s m d (Refused refusal) told d' heard f = subst (λ y. IsHeard call awaited g (settled s m y)) (sym f.0) heard
  followed-heard call awaited g s m d (Calls c next) told d' heard f = subst (λ y. IsHeard call awaited g (settled s m y)) (sym f.2) (heard f.0)
  followed-heard call awaited g s m d (OpensBackend h next) told d' heard f = followed-heard call awaited g s m d (next f.0) told d' (heard f.0) f.2
  followed-heard call awaited g s m d (OpensGpu h next) told d' heard f = followed-heard call awaited g s m d (next f.0) told d' (heard f.0) f.2

  -- ---- a call that was sent, and whose row was met

  not-settled : (f : Frontend) (call : FrontendCall H) → f.profile ≡ Vhost → is_settled_end f call ≡ false
  not-settled f PostcopyEnd e = ap (λ p. is_standard p) e
  not-settled f _ e = refl

  -- the answer table knows what came, and both sides agree unless the run stops
  pub met-known : (f : Frontend) (s : Session) (call : FrontendCall H) (w : Written HeardReq H) (awaited : Awaited) (g : Frontend) (d : Dev) (o : Outcome H) (d' : Dev) → AgreeOn f s → IsNegotiated f → Fits call
      → ask f call ≡ Sends w awaited g → Meets gives opens_backend opens_gpu s d (read_as w) o d' → IsServed s.profile call awaited g w.request o
  met-known f s call w awaited g d o d' agree on fits sent met = by-profile s.profile refl
    where
      by-profile : (p : Profile) → s.profile ≡ p → IsServed p call awaited g w.request o
      by-profile Vhost e =
          let k = followed-known call awaited g w.request s d (row s (read_as w)) o d' (subst (λ x. StaysInStep B G s call x) sent (keeps-step H B G f s call (not-settled f call (agree.profile ∙ e)) agree on fits)) (met-row s (read_as w) d o d' e met) in
          record { to_caller = k.to_caller; known = k.known; agree = k.agree }
      by-profile Standard e =
          let h = followed-heard call awaited g s (read_as w) d (row s (read_as w)) met.0 d' (subst (λ x. StaysHeard B G s call x) sent (no-silent-stop H B G f s call (agree.profile ∙ e) e agree on fits)) met.1 in
          subst (λ y. IsServed Standard call awaited g w.request y) (sym met.2) (record { to_caller = h.to_caller; known = h.known; agree = h.agree })

  -- a reply is one that the call may have
  pub met-good : (fits : (old : Dev) (c : Call H B G) (a : Answer c) (new : Dev) → gives old c a new → AnswerFits c a) (f : Frontend) (s : Session) (call : FrontendCall H) (w : Written HeardReq H) (awaited : Awaited) (g : Frontend) (d : Dev) (o : Outcome H) (d' : Dev) → f.profile ≡ s.profile → CallFits call
      → ask f call ≡ Sends w awaited g → Meets gives opens_backend opens_gpu s d (read_as w) o d' → IsGoodReply call o.served
  met-good fits f s call w awaited g d o d' same small sent met =
      subst (λ y. IsGoodReply call y.served) (sym met.2) (settled-good H call s (read_as w) met.0 (λ e. subst (λ x. AskedRefusable H call x) sent (refusable H f call (same ∙ e) small))
      (followed-good fits call s d (row s (read_as w)) met.0 d' (subst (λ x. AskedWell B G s call x) sent (replies-well H B G f s call small)) met.1))

  -- a session that has not ended goes on, unless the run stops
  pub met-alive : (s : Session) (w : Written HeardReq H) (d : Dev) (o : Outcome H) (d' : Dev) → s.failed ≡ None → Meets gives opens_backend opens_gpu s d (read_as w) o d' → stops s.profile w.request o ≡ false → o.session.failed ≡ None
  met-alive s w d o d' none met goes_on = by-profile s.profile refl goes_on
    where
      nothing : (x : Option ℤ) → is_some x ≡ false → x ≡ None
      nothing None h = refl
      nothing (Some n) h = absurd (cc h)

      by-profile : (p : Profile) → s.profile ≡ p → stops p w.request o ≡ false → o.session.failed ≡ None
      by-profile Vhost e h = followed-mark s d (row s (read_as w)) o d' (rows-keep H B G w.request s (read_as w)) (met-row s (read_as w) d o d' e met) ∙ none
      by-profile Standard e h = nothing o.session.failed h
