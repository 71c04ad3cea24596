-- The features that a device's reply offers are those that the frontend is answered.
use Rattle.std.proofs.Common.{◌≡◌, inl, inr, ℕ, Bool, true, false, cond, [], Result, Ok, Err, refl, sym, ◌∙◌, ap, subst}
use Rattle.std.specs.Prelude.{◌&&◌}
use Rattle.vhost_message.specs.Bits.{has_bit}
use Rattle.vhost_message.specs.declared.heard_req.HeardReq.{HeardReq}
use Rattle.vhost_message.specs.declared.heard_req.HeardReq.TheVariants.{GET_FEATURES}
use Rattle.vhost_protocol.specs.Agreement.{OffersBit}
use Rattle.vhost_protocol.specs.Answered.{with_features}
use Rattle.vhost_protocol.specs.Ask.{Asked, Sends, ask, needs_reply}
use Rattle.vhost_protocol.specs.declared.asked.Awaited.{Awaited}
use Rattle.vhost_protocol.specs.DeviceCall as device
use Rattle.vhost_protocol.specs.Error.{Error}
use Rattle.vhost_protocol.specs.Features.{PROTOCOL_FEATURES}
use Rattle.vhost_protocol.specs.FrontendCall.{FrontendCall, GetFeatures, Frontend}
use Rattle.vhost_protocol.specs.Handler.{Meets}
use Rattle.vhost_protocol.specs.Joined.{read_as}
use Rattle.vhost_protocol.specs.Profile.{is_standard}
use Rattle.vhost_protocol.specs.Session.{Session}
use Rattle.vhost_protocol.specs.Settled.{settled, silenced, spoken}
use Rattle.vhost_protocol.specs.Split.{Message}
use Rattle.vhost_protocol.specs.Step.{Outcome}
use Rattle.vhost_protocol.specs.Written.{Written}
use Rattle.vhost_link.specs.declared.plain.PlainHandle.{PlainHandle}
use Rattle.vhost_backend_req_handler_core.specs.Concluding.{number_in}
use Rattle.vhost_backend_req_handler_core.specs.declared.answer.DeviceAnswer.{DeviceAnswer}
use Rattle.vhost_c_backend.specs.Replies.{Gives}
use Rattle.vhost_c_backend.specs.declared.replies.Form.TheVariants as form
use Rattle.vhost_c_backend.specs.declared.replies.Reply.{Reply}
use Rattle.vhost_c_backend.specs.declared.replies.Reply.TheVariants as reply
use Rattle.vhost_c_joined.specs.Device.{Says, replies, opens}
use Rattle.vhost_c_joined.specs.Joined.{Offers}

-- a reply's number
given-number : (r : Reply) (a : DeviceAnswer PlainHandle) (n : ℕ) (bit : Bool) → Offers bit GetFeatures r → Gives form.Number r a → Ok n ≡ number_in a → has_bit n PROTOCOL_FEATURES ≡ bit
given-number (reply.Number k) a n bit offers gives is =
    let same : ◌≡◌ {A = Result ℕ Error} (Ok n) (Ok k) = is ∙ ap {A = DeviceAnswer PlainHandle} number_in gives in let number : n ≡ k = cc same in ap (λ x. has_bit x PROTOCOL_FEATURES) number ∙ offers
given-number reply.Refused a n bit offers gives is = absurd (cc (is ∙ ap {A = DeviceAnswer PlainHandle} number_in gives))
given-number _ a n bit offers gives is = absurd gives

refused-number : (a : DeviceAnswer PlainHandle) (n : ℕ) → Gives form.Number reply.Refused a → Ok n ≡ number_in a → ⊥
refused-number a n gives is = cc (is ∙ ap {A = DeviceAnswer PlainHandle} number_in gives)

said-number : (r : Reply) (a : DeviceAnswer PlainHandle) (n : ℕ) (bit : Bool) → Offers bit GetFeatures r → Says form.Number r a → Ok n ≡ number_in a → has_bit n PROTOCOL_FEATURES ≡ bit
said-number r a n bit offers (inl gives) is = given-number r a n bit offers gives is
said-number r a n bit offers (inr other) is = absurd (refused-number a n other.1 is)

offered-number : (r : Reply) (n : ℕ) (bit : Bool) → Offers bit GetFeatures r → replies r tt device.GetFeatures (Ok n) tt → has_bit n PROTOCOL_FEATURES ≡ bit
offered-number r n bit offers (a, says, b, is) = said-number r a n bit offers says is

-- ---- the features

abbrev features_request : Bool → Message HeardReq PlainHandle
features_request need_reply = record { request = GET_FEATURES; reply = false; need_reply = need_reply; body = []; handles = [] }

-- nothing is written in the place of the features
features-settled : (s : Session) (n : Bool) (r : Result ℕ Error) → (settled s (features_request n) (with_features {H = PlainHandle} s r)).served ≡ (with_features {H = PlainHandle} s r).served
features-settled s n (Ok k) = by-profile (is_standard s.profile)
  where
    by-profile : (b : Bool) → (cond (b && false) (spoken s (features_request n) (silenced (with_features {H = PlainHandle} s (Ok k)))) (with_features {H = PlainHandle} s (Ok k))).served ≡ (with_features {H = PlainHandle} s (Ok k)).served
    by-profile true = refl
    by-profile false = refl
features-settled s n (Err e) = by-profile (is_standard s.profile)
  where
    by-profile : (b : Bool) → (cond (b && true) (spoken s (features_request n) (silenced (with_features {H = PlainHandle} s (Err e)))) (with_features {H = PlainHandle} s (Err e))).served ≡ (with_features {H = PlainHandle} s (Err e)).served
    by-profile true = refl
    by-profile false = refl

features-offer : (r : Reply) (bit : Bool) → Offers bit GetFeatures r → (s : Session) (need_reply reply : Bool) (o : Outcome PlainHandle) → reply ≡ false
    → Meets (replies r) (opens r) (opens r) s tt (record { request = GET_FEATURES; reply = reply; need_reply = need_reply; body = []; handles = [] }) o tt → OffersBit {H = PlainHandle} bit GetFeatures o.served
features-offer r bit offers s n true o plain met = absurd (cc plain)
features-offer r bit offers s n false o plain (told, (a, given, same), is) =
    subst (λ (x : Outcome PlainHandle). OffersBit {H = PlainHandle} bit GetFeatures x.served) (sym (is ∙ ap (λ (x : Outcome PlainHandle). settled s (features_request n) x) same))
    (subst (λ served. OffersBit {H = PlainHandle} bit GetFeatures served) (sym (features-settled s n a)) (by a given))
  where
    by : (x : Result ℕ Error) → replies r tt device.GetFeatures x tt → OffersBit {H = PlainHandle} bit GetFeatures (with_features s x).served
    by (Ok k) given = offered-number r k bit offers given
    by (Err e) given = tt

-- whatever is asked
pub offers-so : (r : Reply) (bit : Bool) (f : Frontend) (s : Session) (call : FrontendCall PlainHandle) (w : Written HeardReq PlainHandle) (awaited : Awaited) (g : Frontend) (o : Outcome PlainHandle) → Offers bit call r → has_bit f.header_flags 2 ≡ false → ask f call ≡ Sends w awaited g
    → Meets (replies r) (opens r) (opens r) s tt (read_as w) o tt → OffersBit bit call o.served
offers-so r bit f s GetFeatures w awaited g o offers plain asked met =
    let same : record { request = GET_FEATURES; reply = has_bit f.header_flags 2; need_reply = needs_reply f; body = []; handles = [] } ≡ read_as w = ap {A = Asked PlainHandle} message-of asked in
    features-offer r bit offers s (needs_reply f) (has_bit f.header_flags 2) o plain (subst {A = Message HeardReq PlainHandle} (λ m. Meets (replies r) (opens r) (opens r) s tt m o tt) (sym same) met)
  where
    message-of : Asked PlainHandle → Message HeardReq PlainHandle
    message-of (Sends v a h) = read_as v
    message-of _ = features_request false
offers-so r bit f s _ w awaited g o offers plain asked met = tt
