-- A request for a channel that was served.
use Rattle.std.proofs.Common.{◌≡◌, ℕ, [], ◌∷◌, List, Result, Ok, Err, IfOk, refl, sym, ap, subst, ◌∙◌}
use Rattle.std.specs.Prelude.{⊤, not}
use Rattle.vhost_message.specs.declared.cause.IoCause.{IoCause}
use Rattle.vhost_message.specs.declared.error.Error as declared
use Rattle.vhost_message.specs.declared.heard_req.HeardReq.{HeardReq}
use Rattle.vhost_message.specs.declared.heard_req.HeardReq.TheVariants.{SET_BACKEND_REQ_FD}
use Rattle.vhost_protocol.specs.Answered.{calls}
use Rattle.vhost_protocol.specs.Codes.{allows_handles}
use Rattle.vhost_protocol.specs.DeviceCall.{Call, Answer, SetBackendReqFd}
use Rattle.vhost_protocol.specs.Error.{InvalidMessage, test}
use Rattle.vhost_protocol.specs.Features.{BACKEND_REQ}
use Rattle.vhost_protocol.specs.Handler.{Follows, MeetsRow}
use Rattle.vhost_protocol.specs.Row.{channel, only, row_of, session_feature}
use Rattle.vhost_protocol.specs.Run as run
use Rattle.vhost_protocol.specs.Session.{Session, heard_in}
use Rattle.vhost_protocol.specs.Split.{Message}
use Rattle.vhost_protocol.proofs.SettleLaws.{settled-answer}
use Rattle.vhost_protocol.specs.Step.{Outcome, Refusal, Step, OpensBackend, acknowledged, silently, ◌>>=◌, ◌>>◌}
use Rattle.vhost_link.specs.Law.{Event}
use Rattle.vhost_link.specs.declared.handle.Kind.{Kind}
use Rattle.vhost_connection.specs.Talk.{State}
use Rattle.vhost_backend_req.specs.declared.backend.Backend.{Backend}
use Rattle.vhost_gpu_backend_req.specs.declared.backend.GpuBackend.{GpuBackend}
use Rattle.vhost_backend_req_handler.specs.Opening.{OpensAsBackend, OpensAsGpu}
use Rattle.vhost_backend_req_handler.specs.Serving.{HandlesOne, fitting}
use Rattle.vhost_promises.specs.Opening.{GivenItsOwn, OpensItsOwn}

-- the one element of a list is all of it
only-one : {A E : Type 0} (e : E) (xs : List A) {x : A} → only e xs ≡ Ok x → xs ≡ x ∷ []
only-one e [] is = absurd (cc is)
only-one e (y ∷ []) is = cc is
only-one e (y ∷ z ∷ xs) is = absurd (cc is)

module _ {L H Dev : Type 0} (opens : L → H → Result L IoCause → Type 0) (kinds : H → Result Kind IoCause → Type 0) (gives : Dev → (c : Call H (Backend L H) (GpuBackend L H)) → Answer c → Dev → Type 0) (budget : ℕ)
    (s : Session) (m : Message HeardReq H) (d d' : Dev) (o : Outcome H) where
  abbrev Followed : Step H (Backend L H) (GpuBackend L H) → Type 0
  Followed step = Follows (fitting gives) (λ h c. OpensAsBackend opens kinds budget h c) (λ h c. OpensAsGpu opens kinds budget h c) s d step o d'

  -- behind its checks, which passed
  own-row : (feature plain : Result ⊤ (Refusal H)) (refusal : Refusal H) (one : Result H (Refusal H)) → only refusal m.handles ≡ one → (u : ⊤) → o.answer ≡ Ok u
      → Followed (feature >> (plain >> (one >>= λ h. OpensBackend h (λ opened. channel s m opened >>= λ backend. calls s m (SetBackendReqFd backend))))) → GivenItsOwn opens kinds gives budget m d d'
  own-row (Err r) plain refusal one is w good p = absurd (cc (sym good ∙ ap (λ (x : Outcome H). x.answer) p.0))
  own-row (Ok u) (Err r) refusal one is w good p = absurd (cc (sym good ∙ ap (λ (x : Outcome H). x.answer) p.0))
  own-row (Ok u) (Ok v) refusal (Err r) is w good p = absurd (cc (sym good ∙ ap (λ (x : Outcome H). x.answer) p.0))
  own-row (Ok u) (Ok v) refusal (Ok h) is w good (Err e, by, p) = absurd (cc (sym good ∙ ap (λ (x : Outcome H). x.answer) p.0))
  own-row (Ok u) (Ok v) refusal (Ok h) is w good (Ok backend, (Ok link, opened, over), (a, gave, out)) =
      record { handle = h; one = only-one refusal m.handles is; link = link; opened = opened; channel = backend; over = over; given = gave.0 }
  own-row (Ok u) (Ok v) refusal (Ok h) is w good (Ok backend, (Err e, opened, over), p) = absurd (cc over)

  pub given-own : m.request ≡ SET_BACKEND_REQ_FD → (u : ⊤) → o.answer ≡ Ok u → Followed (row_of m.request s m) → GivenItsOwn opens kinds gives budget m d d'
  given-own is u good p = own-row (session_feature s BACKEND_REQ) (test (not m.reply) (silently InvalidMessage)) (acknowledged s m InvalidMessage) _ refl u good (subst (λ r. Followed (row_of r s m)) is p)

module _ {L H Dev : Type 0} (event : L → Event H → L → Type 0) (opens : L → H → Result L IoCause → Type 0) (kinds : H → Result Kind IoCause → Type 0) (gives : Dev → (c : Call H (Backend L H) (GpuBackend L H)) → Answer c → Dev → Type 0)
    (old new : State L H) (s s' : Session) (d d' : Dev) where
  pub opens-own : (result : Result ⊤ declared.Error) → HandlesOne event gives (λ h c. OpensAsBackend opens kinds old.budget h c) (λ h c. OpensAsGpu opens kinds old.budget h c) old s d result new s' d'
      → IfOk result (λ u. OpensItsOwn opens kinds gives event s old d d')
  opens-own (Err e) p = tt
  opens-own (Ok u) h = record {
    heard = h.heard;
    mid = h.mid;
    hears = h.hears;
    own = λ m is asked.
        let met = subst (λ x. run.Handles heard_in allows_handles (λ (t : Session). t.failed) (MeetsRow (fitting gives) (λ h c. OpensAsBackend opens kinds old.budget h c) (λ h c. OpensAsGpu opens kinds old.budget h c)) s d x (Ok u) h.written s' d') is h.handles in
        given-own opens kinds gives old.budget s m d d' met.1.0 asked u (sym (met.2 ∙ ap (λ (x : Outcome H). x.answer) met.1.2 ∙ settled-answer H s m met.1.0)) met.1.1;
  }
