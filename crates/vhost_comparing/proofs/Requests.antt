-- Requests that have the same number, and both a name or none, are the same.
use Rattle.std.proofs.Common.{◌≡◌, ℕ, Bool, true, false, Option, Some, refl, sym, ◌∙◌, ap}
use Rattle.std.specs.Prelude.{not}
use Rattle.vhost_message.specs.declared.heard_req.HeardReq.{HeardReq}
use Rattle.vhost_message.specs.declared.heard_req.HeardReq.TheVariants.{OTHER}
use Rattle.vhost_message.specs.HeardReq.{request_of, request_number, is_named, request_of-request_number}

-- one without a name is its number
nameless : (r : HeardReq) → is_named r ≡ false → r ≡ OTHER (request_number r)
nameless (OTHER n) bare = refl
nameless _ bare = absurd (cc bare)

alike : (a b : HeardReq) (named : Bool) → is_named a ≡ named → is_named b ≡ named → request_number a ≡ request_number b → a ≡ b
alike a b true is is_too same =
    let both : Some a ≡ Some b = sym (request_of-request_number a is) ∙ ap request_of same ∙ request_of-request_number b is_too in cc both
alike a b false is is_too same = nameless a is ∙ ap OTHER same ∙ sym (nameless b is_too)

pub same_request : (a b : HeardReq) → request_number a ≡ request_number b → not (is_named a) ≡ not (is_named b) → a ≡ b
same_request a b same other = alike a b (is_named a) refl (go (is_named a) (is_named b) other) same
  where
    go : (x y : Bool) → not x ≡ not y → y ≡ x
    go true true e = refl
    go false false e = refl
    go true false e = absurd (cc e)
    go false true e = absurd (cc e)
