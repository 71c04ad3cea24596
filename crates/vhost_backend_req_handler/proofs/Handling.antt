-- A request that was answered step by step met the row of the message that it is.
use Rattle.std.proofs.Common.{◌≡◌, ◌∙◌, ℤ, false, Option, None, Some, Result, refl, ap, subst}
use Rattle.std.specs.Prelude.{⊤, is_some}
use Rattle.vhost_message.specs.declared.error.Error as declared
use Rattle.vhost_message.specs.declared.heard_req.HeardReq.{HeardReq}
use Rattle.vhost_protocol.specs.DeviceCall.{Call, Answer}
use Rattle.vhost_protocol.specs.Error.{Error}
use Rattle.vhost_protocol.specs.Handler.{MeetsRow}
use Rattle.vhost_protocol.specs.Row.{row_of}
use Rattle.vhost_protocol.specs.Session.{Session}
use Rattle.vhost_protocol.specs.Settled.{settled}
use Rattle.vhost_protocol.specs.Split.{Message}
use Rattle.vhost_link.specs.Law.{Event}
use Rattle.vhost_connection.specs.Serving as serving
use Rattle.vhost_connection.specs.Talk.{State}
use Rattle.vhost_connection.proofs.Serving.{answers-as}
use Rattle.vhost_backend_req_handler.specs.Serving.{Met, Answers, fitting, kept_unsent}

module _ {L H B G Dev : Type 0} (event : L → Event H → L → Type 0) (gives : Dev → (c : Call H B G) → Answer c → Dev → Type 0)
    (opens_backend : H → Result B Error → Type 0) (opens_gpu : H → Result G Error → Type 0) where
  pub meets-row : (code : HeardReq) (old new : State L H) (s s' : Session) (d d' : Dev) (m : Message HeardReq H) (result : Result ⊤ declared.Error) → code ≡ m.request
      → Answers event gives opens_backend opens_gpu m (row_of code s m) old s d result new s' d'
      → serving.Answers event (MeetsRow (fitting gives) opens_backend opens_gpu s d m) (kept_unsent m.request s) old result new s' d'
  meets-row code old new s s' d d' m result is p =
      answers-as event (Met gives opens_backend opens_gpu m (row_of m.request s m) s d) (MeetsRow (fitting gives) opens_backend opens_gpu s d m) (kept_unsent m.request s)
      (λ answer written t e met. (settled s m met.told, (met.told, met.follows, refl), met.is_answer, met.is_written, met.session)) old new s' d' result
      (subst (λ (r : HeardReq). Answers event gives opens_backend opens_gpu m (row_of r s m) old s d result new s' d') is p)

-- no call is open after a request, where none was before
pub idle-after : {A : Type 0} (failed : Option ℤ) (before after : Option A) → (failed ≡ None → is_some after ≡ false) → ((n : ℤ) → failed ≡ Some n → after ≡ before) → is_some before ≡ false → is_some after ≡ false
idle-after None before after idle kept none = idle refl
idle-after (Some n) before after idle kept none = ap is_some (kept n refl) ∙ none
