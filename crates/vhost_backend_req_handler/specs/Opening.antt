-- Opening a handle as a channel.
use Rattle.std.specs.Prelude.{◌≡◌, ℕ, Result, Ok, Err}
use Rattle.vhost_message.specs.declared.cause.IoCause.{IoCause}
use Rattle.vhost_protocol.specs.Error.{Error, Cause, OutOfMemory, seen_cause}
use Rattle.vhost_protocol.specs.Socket as protocol
use Rattle.vhost_protocol.specs.Socket.{opened}
use Rattle.vhost_link.specs.declared.handle.Kind.{Kind}
use Rattle.vhost_link.specs.declared.handle.Kind.TheVariants.{NoSocket, NotUnix, NotStream, UnixStream}
use Rattle.vhost_backend_req.specs.Opened as backend
use Rattle.vhost_backend_req.specs.declared.backend.Backend.{Backend}
use Rattle.vhost_gpu_backend_req.specs.Opened as gpu
use Rattle.vhost_gpu_backend_req.specs.declared.backend.GpuBackend.{GpuBackend}

-- a kind as it is seen
abbrev pub seen_kind : Result Kind IoCause → Result protocol.Kind Cause
seen_kind (Ok NoSocket) = Ok protocol.NoSocket
seen_kind (Ok NotUnix) = Ok protocol.NotUnix
seen_kind (Ok NotStream) = Ok protocol.NotStream
seen_kind (Ok UnixStream) = Ok protocol.UnixStream
seen_kind (Err c) = Err (seen_cause c)

-- what opening it as a link answered, as it is seen
abbrev pub seen_made : {L : Type 0} → Result L IoCause → Result L Cause
seen_made (Ok link) = Ok link
seen_made (Err c) = Err (seen_cause c)

-- The channel over that link, with this retry limit, unless there was no link; or there was no memory for it.
abbrev pub Becomes : {L C : Type 0} → (C → L → ℕ → Type 0) → ℕ → Result L Error → Result C Error → Type 0
Becomes is_over budget (Err e) result = result ≡ Err e
Becomes is_over budget (Ok link) (Ok channel) = is_over channel link budget
Becomes is_over budget (Ok link) (Err e) = e ≡ OutOfMemory

module _ {L H : Type 0} (opens : L → H → Result L IoCause → Type 0) (kinds : H → Result Kind IoCause → Type 0) where
  -- only a Unix stream socket is opened, by a link; of another handle it makes no difference what opening it would answer
  abbrev pub LinkOf : Result Kind IoCause → H → Result L Error → Type 0
  LinkOf (Ok UnixStream) h result = (by : L) × (made : Result L IoCause) × opens by h made × (result ≡ opened (Ok protocol.UnixStream) (seen_made made))
  LinkOf kind h result = (made : Result L Cause) → result ≡ opened (seen_kind kind) made

  -- a handle was opened as a link, by what asking for its kind answered
  abbrev pub OpensLink : H → Result L Error → Type 0
  OpensLink h result = (kind : Result Kind IoCause) × kinds h kind × LinkOf kind h result

  -- and then as a channel with the session's retry limit
  abbrev pub OpensAs : {C : Type 0} → (C → L → ℕ → Type 0) → ℕ → H → Result C Error → Type 0
  OpensAs is_over budget h result = (link : Result L Error) × OpensLink h link × Becomes is_over budget link result

  -- the backend channel
  abbrev pub OpensAsBackend : ℕ → H → Result (Backend L H) Error → Type 0
  OpensAsBackend budget h result = OpensAs (λ c link n. backend.IsOver c link n) budget h result

  -- the vhost-user-gpu channel
  abbrev pub OpensAsGpu : ℕ → H → Result (GpuBackend L H) Error → Type 0
  OpensAsGpu budget h result = OpensAs (λ c link n. gpu.IsOver c link n) budget h result
