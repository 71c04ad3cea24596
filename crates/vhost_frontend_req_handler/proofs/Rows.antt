-- Rows of requests, up to the device's answer.
use Rattle.std.proofs.Common.{◌≡◌, ℕ, Bool, true, false, List, [], ◌∷◌, Some, None, Result, Ok, Err, ◌⊎◌, inl, inr, refl, sym, ap, subst}
use Rattle.std.specs.Prelude.{IfErr, IsErrAnd, if◌then◌else◌}
use Rattle.vhost_message.specs.declared.error.Error as error
use Rattle.vhost_message.specs.declared.backend_req.BackendReq.{BackendReq}
use Rattle.vhost_message.specs.declared.backend_req.BackendReq.TheVariants.{IOTLB_MSG, VRING_HOST_NOTIFIER_MSG, VRING_CALL, VRING_ERR}
use Rattle.vhost_protocol.specs.Reverse.{ReverseCall, ReverseStep, Calls, Server, bad_body, reverse_row_of, with_number, with_one_handle}
use Rattle.vhost_protocol.specs.Split.{Message}
use Rattle.vhost_frontend_req_handler.specs.declared.call.Begun.TheVariants as begun
use Rattle.vhost_frontend_req_handler.specs.declared.call.FrontendSideCall.{FrontendSideCall}
use Rattle.vhost_frontend_req_handler.specs.Calling.{call_in}
use Rattle.vhost_frontend_req_handler.specs.Core.Asks.{calls as asks_calls, is_bad as asks_bad, is_unserved as asks_unserved}
use Rattle.vhost_frontend_req_handler.specs.Core.Begins.{calls, is_bad, is_unserved}
use Rattle.vhost_frontend_req_handler.specs.Core.{Asks, Begins, first_of}
use Rattle.vhost_frontend_req_handler.specs.declared.asked.Asked.TheVariants.{Answered, BadBody, Unserved}
use Rattle.vhost_message.specs.declared.io_error.IoError as declared
use Rattle.vhost_protocol.specs.IoError.{IoError, seen_io_result}

module _ {H : Type 0} {s : Server} {m : Message BackendReq H} where
  -- a body that is not what the request brings
  pub bad : (holds : Bool) (step : ReverseStep H) → holds ≡ false → Begins s m (if holds then step else bad_body) begun.BadBody
  bad holds step e = rw e (is_bad refl)

  -- one that is, and the device is to be called
  pub asks : (holds : Bool) (c : ReverseCall H) (call : FrontendSideCall H) → holds ≡ true → call_in call ≡ c → Begins s m (if holds then Calls c (with_number s m) else bad_body) (begun.Calls call)
  asks holds c call e same = rw (e) (calls call (ap (λ x. Calls x (with_number s m)) (sym same)))

  -- a row that needs a handle
  pub no_handle : (hs : List H) (row : H → ReverseStep H) → None ≡ first_of hs → Begins s m (with_one_handle hs row) begun.BadBody
  no_handle [] row e = is_bad refl
  no_handle (h ∷ hs) row e = absurd (cc e)

  -- a request that is known, but not served
  pub not_served : (r : BackendReq) → (r ≡ IOTLB_MSG) ⊎ ((r ≡ VRING_HOST_NOTIFIER_MSG) ⊎ ((r ≡ VRING_CALL) ⊎ (r ≡ VRING_ERR))) → Begins s m (reverse_row_of r s m) begun.Unserved
  not_served r (inl e) = rw e (is_unserved refl)
  not_served r (inr (inl e)) = rw e (is_unserved refl)
  not_served r (inr (inr (inl e))) = rw e (is_unserved refl)
  not_served r (inr (inr (inr e))) = rw e (is_unserved refl)

module _ {H Dev : Type 0} {gives : Dev → ReverseCall H → Result ℕ IoError → Dev → Type 0} {s : Server} {m : Message BackendReq H} {step : ReverseStep H} where
  -- the device was called
  pub answered : {d d' : Dev} {call : FrontendSideCall H} {a : Result ℕ declared.IoError} → Begins s m step (begun.Calls call) → gives d (call_in call) (seen_io_result a) d' → Asks gives s m step d (Answered a) d'
  answered (calls c e) gave = asks_calls (call_in c) e gave

  -- it was not
  pub bad_body_answered : {d : Dev} → Begins s m step begun.BadBody → Asks gives s m step d BadBody d
  bad_body_answered (is_bad e) = asks_bad e

  pub unserved_answered : {d : Dev} → Begins s m step begun.Unserved → Asks gives s m step d Unserved d
  unserved_answered (is_unserved e) = asks_unserved e

-- the row of a request that became a call
pub call_row : {H : Type 0} {s : Server} {m : Message BackendReq H} {step : ReverseStep H} {call : FrontendSideCall H} → Begins s m step (begun.Calls call) → step ≡ Calls (call_in call) (with_number s m)
call_row (calls c e) = e

-- what holds of an error
pub if_error : {A : Type 0} (F : error.Error → Type 0) (e : error.Error) (result : Result A error.Error) → IsErrAnd result (λ y. y ≡ e) → F e → IfErr result F
if_error F e (Ok a) is p = absurd is
if_error F e (Err x) is p = subst F (sym is) p

-- the row with the one handle
pub one_handle : {H : Type 0} (hs : List H) (h : H) (row : H → ReverseStep H) → Some h ≡ first_of hs → with_one_handle hs row ≡ row h
one_handle [] h row e = absurd (cc e)
one_handle (g ∷ hs) h row e = let same : h ≡ g = cc e in rw same refl
