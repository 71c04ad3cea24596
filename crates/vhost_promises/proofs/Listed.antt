-- Calls one after another: an answer without a handle leaves the list of handles, and with it no call wants memory.
use Rattle.std.proofs.Common.{◌≡◌, ℕ, [], Bool, true, false, Option, Some, None, Ok, Err, sym, ap, ◌∙◌}
use Rattle.std.specs.Prelude.{ℤ, codes, if◌then◌else◌}
use Rattle.vhost_message.specs.declared.backend_req.BackendReq.TheVariants.{SHARED_OBJECT_ADD}
use Rattle.vhost_message.specs.declared.error.Error as declared
use Rattle.vhost_message.specs.declared.error.Error.TheVariants.{OutOfMemory}
use Rattle.vhost_message.specs.declared.io_error.IoError as io
use Rattle.vhost_message.specs.declared.io_error.IoError.TheVariants.{Of}
use Rattle.vhost_message.specs.declared.records.shared.VhostUserSharedMsg.{VhostUserSharedMsg}
use Rattle.vhost_protocol.specs.Error as protocol
use Rattle.vhost_protocol.specs.Error.{Named}
use Rattle.vhost_protocol.specs.IoError as seen
use Rattle.vhost_protocol.specs.IoError.{seen_io}
use Rattle.vhost_protocol.specs.Reverse.{Backend, ReverseAsked, Refuses, SharedObjectAdd, sends_unless}
use Rattle.vhost_protocol.specs.Written.{ObjectName}
use Rattle.vhost_link.specs.Law.{Event}
use Rattle.vhost_connection.specs.Talk.{State}
use Rattle.vhost_backend_req.specs.Asking.{AsksCall}
use Rattle.vhost_backend_req.specs.Channel.{Channel, backend_of}
use Rattle.vhost_promises.specs.Asks.{IsNotDone}
use Rattle.vhost_promises.specs.Asks.IsNotDone.{refused, answered, fault}
use Rattle.vhost_promises.specs.Calls.{HasReason, is_io_fault}
use Rattle.vhost_promises.specs.Calls.HasReason.{was_broken, no_list, failed}
use Rattle.vhost_promises.proofs.TwoCalls.{no-want}
use Rattle.vhost_promises.proofs.FrontendAnswers.{answers-call}

-- no call is refused for want of memory
not-for-memory : {H : Type 0} (shared : Bool) (mark : Option ℤ) (b : Backend) (name : VhostUserSharedMsg)
    → ◌≡◌ {A = ReverseAsked H} (if shared then sends_unless mark b SHARED_OBJECT_ADD (ObjectName name) [] else Refuses (seen.Because (Named (codes "Shared Object feature not negotiated")))) (Refuses (seen.Of protocol.OutOfMemory)) → ⊥
not-for-memory true (Some n) b name is = absurd cc
not-for-memory true None b name is = absurd cc
not-for-memory false mark b name is = absurd cc

module _ {L H : Type 0} (event : L → Event H → L → Type 0) where
  -- memory is wanted only where the list was away
  listed-reason : (e : declared.Error) (old new : State L H) → old.list ≡ true → e ≡ OutOfMemory → HasReason event old e new → ⊥
  listed-reason e old new listed is (was_broken b s) = absurd cc
  listed-reason e old new listed is (no_list away s) = absurd (cc (sym listed ∙ away))
  listed-reason e old new listed is (failed c talks none broken fell once spent breaks) = no-want c is

  -- ---- a device's call to its frontend

  adds-for-memory : (name : VhostUserSharedMsg) (e : io.IoError) (old new : Channel L H) → old.endpoint.list ≡ true → e ≡ Of OutOfMemory → IsNotDone event (SharedObjectAdd name) old e new → ⊥
  adds-for-memory name e old new listed is (refused asked) = not-for-memory old.shared_object old.failed (backend_of old) name (asked ∙ ap (λ x. Refuses (seen_io x)) is)
  adds-for-memory name e old new listed is (answered w asked cells ended moved taken other) = let want : is_io_fault (seen_io e) ≡ true = ap (λ x. is_io_fault (seen_io x)) is in absurd (cc (sym want ∙ other))
  adds-for-memory name e old new listed is (fault {e = cause} r) = let same : cause ≡ OutOfMemory = cc in listed-reason cause old.endpoint new.endpoint listed same r

  pub adds-listed : (name : VhostUserSharedMsg) (n : ℕ) (old new : Channel L H) → AsksCall event (SharedObjectAdd name) old (Ok n) new → new.endpoint.list ≡ true
  adds-listed name n old new asks = (answers-call event (SharedObjectAdd name) old (Ok n) new asks).list

  pub adds-without-memory : (name : VhostUserSharedMsg) (e : io.IoError) (old new : Channel L H) → AsksCall event (SharedObjectAdd name) old (Err e) new → old.endpoint.list ≡ true → e ≡ Of OutOfMemory → ⊥
  adds-without-memory name e old new asks listed is = adds-for-memory name e old new listed is (answers-call event (SharedObjectAdd name) old (Err e) new asks)
