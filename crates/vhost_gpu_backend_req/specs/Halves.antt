-- The halves of a call of the channel: one sends, the other takes the reply. The first sends all of a message but its pixels, and its caller sends these behind it.
use Rattle.std.specs.Prelude.{◌≡◌, ℕ, ◌<◌, ◌≤◌, List, [], ◌++◌, Option, Some, None, false, true, Result, Ok, Err, codes}
use Rattle.std.specs.Option.{option_map}
use Rattle.vhost_message.specs.declared.error.Error as declared
use Rattle.vhost_message.specs.declared.io_error.IoError as declared_io
use Rattle.vhost_message.specs.Header.{header_text}
use Rattle.vhost_gpu_message.specs.declared.gpu_backend_req.GpuBackendReq.{GpuBackendReq}
use Rattle.vhost_gpu_message.specs.declared.header.VhostUserGpuMsgHeader.{VhostUserGpuMsgHeader}
use Rattle.vhost_gpu_message.specs.declared.limits.TheConstants.{MAX_GPU_MSG_SIZE}
use Rattle.vhost_gpu_message.specs.GpuBackendReq.{gpu_request_number}
use Rattle.vhost_gpu_message.specs.GpuHeader.{gpu_fields_of}
use Rattle.vhost_protocol.specs.Error.{OversizedMsg, OutOfMemory, seen}
use Rattle.vhost_protocol.specs.Gpu as gpu
use Rattle.vhost_protocol.specs.Gpu.{GpuSent, gpu_row, gpu_head, sent_by, gpu_refusal}
use Rattle.vhost_protocol.specs.IoError.{IoError, In, seen_io}
use Rattle.vhost_protocol.specs.Stream.{Cell, carrying}
use Rattle.vhost_link.specs.Law.{Event}
use Rattle.vhost_connection.specs.Talk.{State}
use Rattle.vhost_connection.specs.Calls.{Sends}
use Rattle.vhost_gpu_backend_req.specs.Channel.{Channel}
use Rattle.vhost_gpu_backend_req.specs.declared.call.GpuCall.{GpuCall}
use Rattle.vhost_gpu_backend_req.specs.declared.call.GpuCall.TheVariants as call
use Rattle.vhost_gpu_backend_req.specs.declared.call.GpuReply.{GpuReply}
use Rattle.vhost_gpu_backend_req.specs.declared.call.GpuReply.TheVariants as reply
use Rattle.vhost_gpu_backend_req.specs.declared.call.Awaited.{Awaited}

-- ---- calls that are values

-- how many bytes of pixels there are, which the caller sends
abbrev pub pixels_of : {H : Type 0} → GpuCall H → ℕ
pixels_of (call.UpdateScanout u n) = n
pixels_of (call.CursorUpdate c) = 16384
pixels_of _ = 0

-- a call of the code with these pixels
abbrev pub call_in : {H : Type 0} → GpuCall H → List ℕ → gpu.GpuCall H
call_in call.GetProtocolFeatures pixels = gpu.GetProtocolFeatures
call_in (call.SetProtocolFeatures n) pixels = gpu.SetProtocolFeatures n.value
call_in call.GetDisplayInfo pixels = gpu.GetDisplayInfo
call_in (call.GetEdid e) pixels = gpu.GetEdid e
call_in (call.SetScanout s) pixels = gpu.SetScanout s
call_in (call.UpdateScanout u n) pixels = gpu.UpdateScanout u pixels
call_in (call.SetDmabufScanout d h) pixels = gpu.SetDmabufScanout d h
call_in (call.SetDmabufScanout2 d h) pixels = gpu.SetDmabufScanout2 d h
call_in (call.UpdateDmabufScanout u) pixels = gpu.UpdateDmabufScanout u
call_in (call.CursorPos c) pixels = gpu.MoveCursor c
call_in (call.CursorPosHide c) pixels = gpu.HideCursor c
call_in (call.CursorUpdate c) pixels = gpu.UpdateCursor c pixels

-- its code
abbrev pub code_in : {H : Type 0} → GpuCall H → GpuBackendReq
code_in c = (gpu_row (call_in c [])).request

-- the record of a reply
abbrev pub reply_in : GpuReply → gpu.GpuReply
reply_in reply.Features = gpu.TheFeatures
reply_in reply.DisplayInfo = gpu.TheDisplayInfo
reply_in reply.Edid = gpu.TheEdid
reply_in reply.Empty = gpu.TheEmpty

-- that of the reply that a call awaits
abbrev pub replies_to : {H : Type 0} → GpuCall H → Option GpuReply → Type 0
replies_to c r = (gpu_row (call_in c [])).awaited ≡ option_map reply_in r

-- ---- messages without their pixels

-- the wire bytes of a message but those behind its record, with the handles on the first
abbrev pub gpu_front : {H : Type 0} → GpuSent H → List (Cell H)
gpu_front g = carrying g.handles (header_text (gpu_head g) ++ g.body)

-- A message whose body has so many bytes may be sent by this header: there is a list of handles for a reply.
pub record Ready {L H : Type 0} (code : GpuBackendReq) (size : ℕ) (old : Channel L H) (header : VhostUserGpuMsgHeader GpuBackendReq) (new : Channel L H) : Type 0 where
  pub alive : old.failed ≡ None
  pub fits : size ≤ MAX_GPU_MSG_SIZE
  pub is : gpu_fields_of header ≡ record { code = gpu_request_number code; flags = 0; size = size }
  pub listed : new ≡ record old { endpoint = record old.endpoint { list = true } }

-- It may not, and this is why: place is the step that sends.
pub data NotReady {L H : Type 0} (place : List ℕ) (size : ℕ) (old : Channel L H) : IoError → Channel L H → Type 0 where
  -- the channel was marked as failed, and nothing changed
  refused : {e : IoError} → gpu_refusal old.failed ≡ Some e → NotReady place size old e old
  -- there is no memory for another list of handles, and nothing changed
  no_memory : {new : Channel L H} → old.failed ≡ None → old.endpoint.list ≡ false → new ≡ old → NotReady place size old (In (codes "check_state") OutOfMemory) new
  -- no header can say its size
  too_long : {new : Channel L H} → old.failed ≡ None → MAX_GPU_MSG_SIZE < size → new ≡ record old { endpoint = record old.endpoint { list = true } } → NotReady place size old (In place OversizedMsg) new

-- by the result
abbrev pub Prepares : {L H : Type 0} → List ℕ → GpuBackendReq → ℕ → Channel L H → Result (VhostUserGpuMsgHeader GpuBackendReq) declared_io.IoError → Channel L H → Type 0
Prepares place code size old (Ok header) new = Ready code size old header new
Prepares place code size old (Err e) new = NotReady place size old (seen_io e) new

-- of a message whose reply is awaited the header is kept, and which record the reply has
abbrev pub Keeps : {H : Type 0} → GpuSent H → Option Awaited → Type 0
Keeps sent None = sent.awaited ≡ None
Keeps sent (Some a) = (sent.awaited ≡ Some (reply_in a.reply)) × (gpu_fields_of a.request ≡ gpu_head sent)

module _ {L H : Type 0} (event : L → Event H → L → Type 0) where
  -- All of a message went out but its pixels. The list of handles for a reply was there before its first byte.
  pub record FrontGoes (sent : GpuSent H) (old : Channel L H) (new : State L H) : Type 0 where
    pub alive : old.failed ≡ None
    pub fits : (gpu_head sent).size ≤ MAX_GPU_MSG_SIZE
    pub sends : Sends event (record old.endpoint { list = true }) (gpu_front sent) (Ok tt) new

  -- It did not: nothing was sent; or the endpoint was broken, or a part of that went out, and then the link failed.
  pub data FrontUnsent (place : List ℕ) (sent : GpuSent H) (old : Channel L H) : IoError → Channel L H → Type 0 where
    not_ready : {e : IoError} {new : Channel L H} → NotReady place (gpu_head sent).size old e new → FrontUnsent place sent old e new
    stopped : {e : declared.Error} {new : Channel L H} → old.failed ≡ None → (gpu_head sent).size ≤ MAX_GPU_MSG_SIZE → Sends event (record old.endpoint { list = true }) (gpu_front sent) (Err e) new.endpoint
        → new ≡ record old { endpoint = new.endpoint } → FrontUnsent place sent old (In place (seen e)) new

  -- by the result: the header that was sent
  abbrev pub SendsFront : List ℕ → GpuSent H → Channel L H → Result (VhostUserGpuMsgHeader GpuBackendReq) declared_io.IoError → Channel L H → Type 0
  SendsFront place sent old (Ok header) new = (gpu_fields_of header ≡ gpu_head sent) × FrontGoes sent old new.endpoint × (new ≡ record old { endpoint = new.endpoint })
  SendsFront place sent old (Err e) new = FrontUnsent place sent old (seen_io e) new

  -- The half that asks: the reply that is awaited is known. Nothing but the endpoint changes.
  abbrev pub AsksHalf : gpu.GpuCall H → Channel L H → Result (Option Awaited) declared_io.IoError → Channel L H → Type 0
  AsksHalf c old (Ok kept) new = Keeps (gpu_row c) kept × FrontGoes (gpu_row c) old new.endpoint × (new ≡ record old { endpoint = new.endpoint })
  AsksHalf c old (Err e) new = FrontUnsent (sent_by c) (gpu_row c) old (seen_io e) new
