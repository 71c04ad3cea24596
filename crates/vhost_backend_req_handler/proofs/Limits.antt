-- A session's retry limit stays, and channels that descriptors open have it.
use Rattle.std.proofs.Common.{◌≡◌, ℕ, List, Option, None, Some, Result, Ok, Err, inl, inr, ap, subst, ◌∙◌}
use Rattle.std.specs.Prelude.{⊤, ℤ, Bool}
use Rattle.vhost_message.specs.declared.cause.IoCause.{IoCause}
use Rattle.vhost_message.specs.declared.error.Error as declared
use Rattle.vhost_message.specs.declared.heard_req.HeardReq.{HeardReq}
use Rattle.vhost_protocol.specs.Codes.{allows_handles}
use Rattle.vhost_protocol.specs.DeviceCall.{Call, Answer}
use Rattle.vhost_protocol.specs.Error.{Error}
use Rattle.vhost_protocol.specs.Handler.{MeetsRow}
use Rattle.vhost_protocol.specs.Session.{Session, heard_in}
use Rattle.vhost_protocol.specs.Split.{Message}
use Rattle.vhost_protocol.specs.Stream.{Cell}
use Rattle.vhost_link.specs.Law.{Event, Move}
use Rattle.vhost_link.specs.declared.handle.Kind.{Kind}
use Rattle.vhost_connection.specs.Serving as serving
use Rattle.vhost_connection.specs.Talk as talk
use Rattle.vhost_connection.specs.Talk.{State, Growth, Trouble}
use Rattle.vhost_backend_req.specs.declared.backend.Backend.{Backend}
use Rattle.vhost_gpu_backend_req.specs.declared.backend.GpuBackend.{GpuBackend}
use Rattle.vhost_backend_req_handler.specs.Opening.{OpensAsBackend, OpensAsGpu}
use Rattle.vhost_backend_req_handler.specs.Serving.{Answers, CallsOnce, fitting, kept_unsent}

trouble-keeps : {L H : Type 0} {event : L → Event H → L → Type 0} {old new : State L H} {limit : ℕ} {grows : Growth} {breaks : Bool} {m : Move H} {e : declared.Error} → Trouble event old limit grows breaks m e new → new.budget ≡ old.budget
trouble-keeps (talk.was_broken b m is) = ap (λ (x : State _ _). x.budget) is
trouble-keeps (talk.no_memory g b l m is) = ap (λ (x : State _ _). x.budget) is
trouble-keeps (talk.fault c b fell f r t a w k) = fell.talks.budget

module _ {L H Dev : Type 0} (event : L → Event H → L → Type 0) (Meets : Session → Dev → Message HeardReq H → Result ⊤ Error → List (Cell H) → Session → Dev → Type 0) (old new : State L H) (s s' : Session) (d d' : Dev) where
  breaks-keeps : (e : declared.Error) → serving.Breaks event heard_in allows_handles (λ (t : Session). t.failed) kept_unsent Meets old s d e new s' d' → new.budget ≡ old.budget
  breaks-keeps e (serving.unread r t u) = trouble-keeps r.trouble
  breaks-keeps e (serving.unanswered m mid h p) = p.stops.fell.talks.budget ∙ h.serves.talks.budget

  -- one call, whether or not the session is marked
  pub once-keeps : (mark : Option ℤ) (result : Result ⊤ declared.Error) → serving.CallsUnless event heard_in allows_handles (λ (t : Session). t.failed) kept_unsent Meets mark old s d result new s' d' → new.budget ≡ old.budget
  once-keeps (Some n) result p = ap (λ (x : State L H). x.budget) p.1
  once-keeps None (Ok a) h = h.replies.serves.talks.budget ∙ h.hears.serves.talks.budget
  once-keeps None (Err e) (inl h) = h.replies.serves.talks.budget ∙ h.hears.serves.talks.budget
  once-keeps None (Err e) (inr b) = breaks-keeps e b

module _ {L H Dev : Type 0} (event : L → Event H → L → Type 0) (gives : Dev → (c : Call H (Backend L H) (GpuBackend L H)) → Answer c → Dev → Type 0) (opens : L → H → Result L IoCause → Type 0) (kinds : H → Result Kind IoCause → Type 0)
    (old new : State L H) (s s' : Session) (d d' : Dev) where
  -- a row that was met with the limit of one endpoint is met with that of another which has the same
  pub within : (m : Message HeardReq H) (result : Result ⊤ declared.Error) {n k : ℕ} → n ≡ k
      → serving.Answers event (MeetsRow (fitting gives) (λ h o. OpensAsBackend opens kinds n h o) (λ h o. OpensAsGpu opens kinds n h o) s d m) (kept_unsent m.request s) old result new s' d'
      → serving.Answers event (MeetsRow (fitting gives) (λ h o. OpensAsBackend opens kinds k h o) (λ h o. OpensAsGpu opens kinds k h o) s d m) (kept_unsent m.request s) old result new s' d'
  within m result is p =
      subst (λ (x : ℕ). serving.Answers event (MeetsRow (fitting gives) (λ h o. OpensAsBackend opens kinds x h o) (λ h o. OpensAsGpu opens kinds x h o) s d m) (kept_unsent m.request s) old result new s' d') is p

  -- the same of a call
  pub once-within : (result : Result ⊤ declared.Error) {n k : ℕ} → n ≡ k → CallsOnce event gives (λ h o. OpensAsBackend opens kinds n h o) (λ h o. OpensAsGpu opens kinds n h o) old s d result new s' d'
      → CallsOnce event gives (λ h o. OpensAsBackend opens kinds k h o) (λ h o. OpensAsGpu opens kinds k h o) old s d result new s' d'
  once-within result is p = subst (λ (x : ℕ). CallsOnce event gives (λ h o. OpensAsBackend opens kinds x h o) (λ h o. OpensAsGpu opens kinds x h o) old s d result new s' d') is p
