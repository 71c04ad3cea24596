-- What a joined step keeps of a frontend that is ready.
use Rattle.std.proofs.Common.{◌≡◌, ℕ, Bool, true, false, cond, [], Result, Ok, Err, refl, sym, ◌∙◌, ap, subst, IfSome, Option, Some, None, inl, inr, ◌⊎◌}
use Rattle.std.specs.Prelude.{⊤, ◌&&◌}
use Rattle.vhost_message.specs.Bits.{has_bit}
use Rattle.vhost_message.specs.declared.heard_req.HeardReq.{HeardReq}
use Rattle.vhost_message.specs.declared.heard_req.HeardReq.TheVariants.{GET_FEATURES}
use Rattle.vhost_protocol.specs.Agreement.{Negotiates, AskedNegotiates, OffersBit}
use Rattle.vhost_protocol.specs.AnswerTable.{Answered, answer}
use Rattle.vhost_protocol.specs.declared.asked.Awaited.TheVariants.{Reply}
use Rattle.vhost_protocol.specs.declared.asked.Shape.TheVariants as shape
use Rattle.vhost_protocol.specs.Ask.{Asked, Refuses, Answers, Sends, ask, needs_reply}
use Rattle.vhost_protocol.specs.DeviceCall as device
use Rattle.vhost_protocol.specs.Error.{Error, InvalidMessage}
use Rattle.vhost_protocol.specs.Features.{PROTOCOL_FEATURES}
use Rattle.vhost_protocol.specs.FrontendCall.{FrontendCall, GetFeatures, SetHdrFlags, Value, Number, Frontend}
use Rattle.vhost_protocol.specs.Handler.{Meets}
use Rattle.vhost_protocol.specs.Joined.{Shown, Exchanges, JoinedStep, read_as}
use Rattle.vhost_protocol.specs.Answered.{with_features}
use Rattle.vhost_protocol.specs.Profile.{is_standard}
use Rattle.vhost_protocol.specs.Served.{Served}
use Rattle.vhost_protocol.specs.Session.{Session}
use Rattle.vhost_protocol.specs.Settled.{settled, silenced, spoken}
use Rattle.vhost_protocol.specs.Split.{Message}
use Rattle.vhost_protocol.specs.Step.{Outcome}
use Rattle.vhost_protocol.proofs.NegotiationLaws.{calls-negotiate, replies-negotiate}
use Rattle.vhost_link.specs.declared.plain.PlainHandle.{PlainHandle}
use Rattle.vhost_frontend_core.specs.ValueHalves.{IsSent}
use Rattle.vhost_joined.specs.Device.{Gives, opens_backend, opens_gpu}
use Rattle.vhost_protocol.specs.declared.profile.Profile.{Profile}
use Rattle.vhost_joined.specs.Joined.{View, IsReady, Offers}
use Rattle.vhost_joined.specs.Lockstep.{IsPlain}
use Rattle.vhost_joined.proofs.Settings.{SentWith, sent-with, With, answered-with}

-- every call but the one for the features
abbrev IsOther : {H : Type 0} → FrontendCall H → Type 0
IsOther GetFeatures = ⊥
IsOther _ = ⊤

data Kind {H : Type 0} (call : FrontendCall H) : Type 0 where
  features : call ≡ GetFeatures → Kind call
  flags : (n : ℕ) → call ≡ SetHdrFlags n → Kind call
  other : IsOther call → IsSent call → Kind call

kind-of : {H : Type 0} (call : FrontendCall H) → Kind call
kind-of GetFeatures = features refl
kind-of (SetHdrFlags n) = flags n refl
kind-of _ = other tt tt

module _ {Dev : Type 0} (gives : Gives Dev) (bit : Bool) where
  -- requests are not sent as replies, and acknowledgements are on only where protocol features were offered
  abbrev pub IsReadyFrontend : Frontend → Type 0
  IsReadyFrontend f = (has_bit f.header_flags 2 ≡ false) × Negotiates bit f

  -- the features that are answered have the bit, or none has it
  abbrev pub Shows : FrontendCall PlainHandle → Shown PlainHandle → Type 0
  Shows call shown = (n : ℕ) → call ≡ GetFeatures → shown.result ≡ Ok (Number n) → has_bit n PROTOCOL_FEATURES ≡ bit

  -- ---- and so have those that are replied

  abbrev features_request : Bool → Message HeardReq PlainHandle
  features_request need_reply = record { request = GET_FEATURES; reply = false; need_reply = need_reply; body = []; handles = [] }

  -- nothing is written in the place of the features
  features-settled : (s : Session) (n : Bool) (r : Result ℕ Error) → (settled s (features_request n) (with_features {H = PlainHandle} s r)).served ≡ (with_features {H = PlainHandle} s r).served
  features-settled s n (Ok k) = by-profile (is_standard s.profile)
    where
      by-profile : (b : Bool) → (cond (b && false) (spoken s (features_request n) (silenced (with_features {H = PlainHandle} s (Ok k)))) (with_features {H = PlainHandle} s (Ok k))).served ≡ (with_features {H = PlainHandle} s (Ok k)).served
      by-profile true = refl
      by-profile false = refl
  features-settled s n (Err e) = by-profile (is_standard s.profile)
    where
      by-profile : (b : Bool) → (cond (b && true) (spoken s (features_request n) (silenced (with_features {H = PlainHandle} s (Err e)))) (with_features {H = PlainHandle} s (Err e))).served ≡ (with_features {H = PlainHandle} s (Err e)).served
      by-profile true = refl
      by-profile false = refl

  features-offer : (P : Served PlainHandle → Type 0) (s : Session) (d : Dev) (need_reply reply : Bool) (o : Outcome PlainHandle) (d' : Dev) → reply ≡ false
      → ((r : Result ℕ Error) → gives d device.GetFeatures r d' → P (with_features {H = PlainHandle} s r).served)
      → Meets gives opens_backend opens_gpu s d (record { request = GET_FEATURES; reply = reply; need_reply = need_reply; body = []; handles = [] }) o d' → P o.served
  features-offer P s d n true o d' plain each met = absurd (cc plain)
  features-offer P s d n false o d' plain each (told, (a, given, same), is) =
      subst (λ (x : Outcome PlainHandle). P x.served) (sym (is ∙ ap (λ (x : Outcome PlainHandle). settled s (features_request n) x) same)) (subst P (sym (features-settled s n a)) (each a given))

  module _ (f : Frontend) (s : Session) (d : Dev) (call : FrontendCall PlainHandle) (shown : Shown PlainHandle) (f' : Frontend) (s' : Session) (d' : Dev) where
    -- whatever the handler serves
    abbrev OffersSo : Asked PlainHandle → Type 0
    OffersSo (Sends w awaited g) = (o : Outcome PlainHandle) → Meets gives opens_backend opens_gpu s d (read_as w) o d'
        → answer call awaited g o.served ≡ Some (record { result = shown.result; session = f' }) → OffersBit bit call o.served
    OffersSo _ = ⊤

    offered-else : IsOther call → (served : Served PlainHandle) → OffersBit bit call served
    offered-else = go call
      where
        go : (c : FrontendCall PlainHandle) → IsOther c → (served : Served PlainHandle) → OffersBit bit c served
        go GetFeatures not served = absurd not
        go _ not served = tt

    others-offer : (x : Asked PlainHandle) → IsOther call → OffersSo x
    others-offer (Refuses e) not = tt
    others-offer (Answers v g) not = tt
    others-offer (Sends w awaited g) not = λ o met is. offered-else not o.served

    -- ---- a step

    ready-asked : (x : Asked PlainHandle) → IsReadyFrontend f → SentWith PlainHandle f.header_flags f.profile x → AskedNegotiates bit x → OffersSo x
        → Exchanges gives opens_backend opens_gpu f s d call x shown f' s' d' → IsReadyFrontend f'
    ready-asked (Refuses e) ready sent asked offers step = subst IsReadyFrontend (sym step.1) ready
    ready-asked (Answers v g) ready sent asked offers step = absurd sent
    ready-asked (Sends w awaited g) ready sent asked offers (o, met, session, is, request, handled, reply, last) =
        let same = subst (With PlainHandle f.header_flags f.profile) is (answered-with PlainHandle f.header_flags f.profile call awaited g o.served sent) in
        (ap (λ n. has_bit n 2) same.0 ∙ ready.0, subst (λ x. IfSome x (λ a. Negotiates bit a.session)) is (replies-negotiate PlainHandle bit call awaited g o.served asked (offers o met is)))

    sent-ready : IsSent call → OffersSo (ask f call) → IsReadyFrontend f → JoinedStep gives opens_backend opens_gpu f s d call shown f' s' d' → IsReadyFrontend f'
    sent-ready sent offers ready step = ready-asked (ask f call) ready (sent-with PlainHandle f.header_flags f.profile f call sent (refl, refl)) (calls-negotiate PlainHandle bit f call ready.1) offers step

  -- where the answer shows no other features, or the device offers no others
  abbrev pub Reveals : Dev → FrontendCall PlainHandle → Shown PlainHandle → Dev → Type 0
  Reveals d call shown d' = Shows call shown ⊎ ((n : ℕ) → gives d device.GetFeatures (Ok n) d' → has_bit n PROTOCOL_FEATURES ≡ bit)

  abbrev result_in : Option (Answered PlainHandle) → Result (Value PlainHandle) Error
  result_in (Some a) = a.result
  result_in None = Err InvalidMessage

  revealed : (s : Session) (d : Dev) (shown : Shown PlainHandle) (d' : Dev) (g f' : Frontend) → Reveals d GetFeatures shown d' → (r : Result ℕ Error) → gives d device.GetFeatures r d'
      → answer GetFeatures (Reply shape.U64) g (with_features s r).served ≡ Some (record { result = shown.result; session = f' }) → OffersBit {H = PlainHandle} bit GetFeatures (with_features s r).served
  revealed s d shown d' g f' shows (Err e) given is = tt
  revealed s d shown d' g f' (inr offers) (Ok n) given is = offers n given
  revealed s d shown d' g f' (inl shows) (Ok n) given is = shows n refl (sym (ap result_in is))

  -- a step of a frontend that is ready leaves it ready
  pub stays-by : (f : Frontend) (s : Session) (d : Dev) (call : FrontendCall PlainHandle) (shown : Shown PlainHandle) (f' : Frontend) (s' : Session) (d' : Dev)
      → Reveals d call shown d' → IsPlain call → IsReadyFrontend f → JoinedStep gives opens_backend opens_gpu f s d call shown f' s' d' → IsReadyFrontend f'
  stays-by f s d call shown f' s' d' shows plain ready step = by-kind (kind-of call)
    where
      flagged : (n : ℕ) → IsPlain {H = PlainHandle} (SetHdrFlags n) → JoinedStep gives opens_backend opens_gpu f s d (SetHdrFlags n) shown f' s' d' → IsReadyFrontend f'
      flagged n without done = subst IsReadyFrontend (sym done.1) (without, ready.1)

      offered : Reveals d GetFeatures shown d' → JoinedStep gives opens_backend opens_gpu f s d GetFeatures shown f' s' d' → IsReadyFrontend f'
      offered so done =
          sent-ready f s d GetFeatures shown f' s' d' tt
          (λ o met is. features-offer (λ served. answer GetFeatures (Reply shape.U64) f served ≡ Some (record { result = shown.result; session = f' }) → OffersBit bit GetFeatures served) s d (needs_reply f) (has_bit f.header_flags 2) o d' ready.0
          (λ r given. revealed s d shown d' f f' so r given) met is) ready done

      by-kind : Kind call → IsReadyFrontend f'
      by-kind (features is) = offered (subst (λ (c : FrontendCall PlainHandle). Reveals d c shown d') is shows) (subst (λ c. JoinedStep gives opens_backend opens_gpu f s d c shown f' s' d') is step)
      by-kind (flags n is) = flagged n (subst (λ (c : FrontendCall PlainHandle). IsPlain c) is plain) (subst (λ c. JoinedStep gives opens_backend opens_gpu f s d c shown f' s' d') is step)
      by-kind (other not sent) = sent-ready f s d call shown f' s' d' sent (others-offer f s d call shown f' s' d' (ask f call) not) ready step

  pub stays-ready : Offers gives bit → (f : Frontend) (s : Session) (d : Dev) (call : FrontendCall PlainHandle) (shown : Shown PlainHandle) (f' : Frontend) (s' : Session) (d' : Dev)
      → IsPlain call → IsReadyFrontend f → JoinedStep gives opens_backend opens_gpu f s d call shown f' s' d' → IsReadyFrontend f'
  stays-ready offers f s d call shown f' s' d' = stays-by f s d call shown f' s' d' (inr (offers d d'))

  -- the same where the answers show what was offered
  pub stays-shown : (f : Frontend) (s : Session) (d : Dev) (call : FrontendCall PlainHandle) (shown : Shown PlainHandle) (f' : Frontend) (s' : Session) (d' : Dev)
      → Shows call shown → IsPlain call → IsReadyFrontend f → JoinedStep gives opens_backend opens_gpu f s d call shown f' s' d' → IsReadyFrontend f'
  stays-shown f s d call shown f' s' d' shows = stays-by f s d call shown f' s' d' (inl shows)

-- whoever was ready is so by any profile of both sides
pub ready-profile : {Dev : Type 0} (bit : Bool) (v : View Dev) (profile : Profile) → IsReady bit v → IsReady bit (record v { frontend = record v.frontend { profile = profile }; session = record v.session { profile = profile } })
ready-profile bit v profile r =
    let a = r.in_step.agree in record {
      in_step = record {
        agree = record { offered = a.offered; acked_protocol_features = a.acked_protocol_features; postcopy = a.postcopy; acked = a.acked; profile = refl };
        nobody = r.in_step.nobody;
        no_request = r.in_step.no_request;
        no_reply = r.in_step.no_reply;
      };
      plain = r.plain;
      negotiates = r.negotiates;
    }
