-- Devices behind a joined handler, which are reached over links in memory.
use Rattle.std.specs.Prelude.{◌≡◌, ℕ, [], Result, Ok}
use Rattle.vhost_message.specs.declared.cause.IoCause.{IoCause}
use Rattle.vhost_protocol.specs.DeviceCall.{Call, Answer}
use Rattle.vhost_protocol.specs.Error.{Error}
use Rattle.vhost_link.specs.declared.handle.Kind.{Kind}
use Rattle.vhost_link.specs.declared.plain.PlainHandle.{PlainHandle}
use Rattle.vhost_link.specs.Ends.{Ends, empty}
use Rattle.vhost_backend_req.specs.declared.backend.Backend.{Backend}
use Rattle.vhost_gpu_backend_req.specs.declared.backend.GpuBackend.{GpuBackend}
use Rattle.vhost_backend_req_handler.specs.Opening.{OpensAsBackend, OpensAsGpu}

-- what a device may do at each call: old state, call, answer and new state
abbrev pub Gives : Type 0 → Type 1
Gives Dev = Dev → (c : Call PlainHandle (Backend Ends PlainHandle) (GpuBackend Ends PlainHandle)) → Answer c → Dev → Type 0

-- a link in memory opens each handle as a link that holds nothing
abbrev pub opens : Ends → PlainHandle → Result Ends IoCause → Type 0
opens link handle result = result ≡ Ok (empty [])

-- a handle says its kind
abbrev pub kinds : PlainHandle → Result Kind IoCause → Type 0
kinds handle result = result ≡ Ok handle.kind

-- a handle is opened as a channel from the device to its frontend, with some retry limit
abbrev pub opens_backend : PlainHandle → Result (Backend Ends PlainHandle) Error → Type 0
opens_backend handle channel = (budget : ℕ) × OpensAsBackend opens kinds budget handle channel

-- a handle is opened as a channel from the device to a display, with some retry limit
abbrev pub opens_gpu : PlainHandle → Result (GpuBackend Ends PlainHandle) Error → Type 0
opens_gpu handle channel = (budget : ℕ) × OpensAsGpu opens kinds budget handle channel
