-- A channel that is opened with the session's retry limit is opened with some limit.
use Rattle.std.proofs.Common.{ℕ, List, None, Result, sym, subst}
use Rattle.std.specs.Prelude.{◌≡◌, ⊤}
use Rattle.vhost_message.specs.declared.error.Error as declared
use Rattle.vhost_message.specs.declared.heard_req.HeardReq.{HeardReq}
use Rattle.vhost_protocol.specs.Codes.{allows_handles}
use Rattle.vhost_protocol.specs.Error.{Error}
use Rattle.vhost_protocol.specs.Handler.{Follows, MeetsRow}
use Rattle.vhost_protocol.specs.Session.{Session, heard_in}
use Rattle.vhost_protocol.specs.Split.{Message}
use Rattle.vhost_protocol.specs.Step.{Outcome, Step, Refused, Calls, OpensBackend, OpensGpu}
use Rattle.vhost_protocol.specs.Stream.{Cell}
use Rattle.vhost_link.specs.Ends.{Ends}
use Rattle.vhost_link.specs.Mem.{event}
use Rattle.vhost_link.specs.declared.plain.PlainHandle.{PlainHandle}
use Rattle.vhost_connection.specs.Serving.{CallsUnless}
use Rattle.vhost_connection.specs.Talk.{State}
use Rattle.vhost_connection.proofs.Running.{wider-once}
use Rattle.vhost_backend_req.specs.declared.backend.Backend.{Backend}
use Rattle.vhost_gpu_backend_req.specs.declared.backend.GpuBackend.{GpuBackend}
use Rattle.vhost_backend_req_handler.specs.Opening.{OpensAsBackend, OpensAsGpu}
use Rattle.vhost_backend_req_handler.specs.Serving.{HandlesOne, fitting, kept_unsent}
use Rattle.vhost_joined.specs.Device.{Gives, opens, kinds, opens_backend, opens_gpu}

module _ {Dev : Type 0} (gives : Gives Dev) (n : ℕ) where
  -- a row
  follows-some : (s : Session) (d d' : Dev) (o : Outcome PlainHandle) (step : Step PlainHandle (Backend Ends PlainHandle) (GpuBackend Ends PlainHandle))
      → Follows (fitting gives) (λ h c. OpensAsBackend opens kinds n h c) (λ h c. OpensAsGpu opens kinds n h c) s d step o d' → Follows (fitting gives) opens_backend opens_gpu s d step o d'
  follows-some s d d' o (Refused r) p = p
  follows-some s d d' o (Calls c next) p = p
  follows-some s d d' o (OpensBackend h next) (opened, by, p) = (opened, (n, by), follows-some s d d' o (next opened) p)
  follows-some s d d' o (OpensGpu h next) (opened, by, p) = (opened, (n, by), follows-some s d d' o (next opened) p)

  meets-some : (s s' : Session) (d d' : Dev) (m : Message HeardReq PlainHandle) (answer : Result ⊤ Error) (written : List (Cell PlainHandle))
      → MeetsRow (fitting gives) (λ h c. OpensAsBackend opens kinds n h c) (λ h c. OpensAsGpu opens kinds n h c) s d m answer written s' d' → MeetsRow (fitting gives) opens_backend opens_gpu s d m answer written s' d'
  meets-some s s' d d' m answer written (o, (told, follows, is), answers, writes, keeps) = (o, (told, follows-some s d d' told _ follows, is), answers, writes, keeps)

  -- one call of the handler, of a session that is not marked as failed
  pub handles-some : (old new : State Ends PlainHandle) (s s' : Session) (d d' : Dev) (result : Result ⊤ declared.Error) → s.failed ≡ None
      → HandlesOne event gives (λ h c. OpensAsBackend opens kinds n h c) (λ h c. OpensAsGpu opens kinds n h c) old s d result new s' d' → HandlesOne event gives opens_backend opens_gpu old s d result new s' d'
  handles-some old new s s' d d' result alive one =
      subst (λ mark. CallsUnless event heard_in allows_handles (λ (t : Session). t.failed) kept_unsent (MeetsRow (fitting gives) opens_backend opens_gpu) mark old s d result new s' d') alive
      (wider-once event heard_in allows_handles (λ (t : Session). t.failed) kept_unsent (MeetsRow (fitting gives) (λ h c. OpensAsBackend opens kinds n h c) (λ h c. OpensAsGpu opens kinds n h c)) (MeetsRow (fitting gives) opens_backend opens_gpu) (λ e. e) meets-some old new s s' d d' result
      (subst (λ mark. CallsUnless event heard_in allows_handles (λ (t : Session). t.failed) kept_unsent (MeetsRow (fitting gives) (λ h c. OpensAsBackend opens kinds n h c) (λ h c. OpensAsGpu opens kinds n h c)) mark old s d result new s' d') (sym alive) one))
