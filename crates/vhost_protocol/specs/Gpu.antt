-- The channel to a display: what each call sends, which record it waits for, and what it answers (vhost-user-gpu protocol).
use Rattle.std.specs.Prelude.{ℕ, ℤ, ◌+◌, Bool, not, ◌&&◌, List, [], ◌∷◌, ◌++◌, length, Option, Some, None, Result, Ok, Err, is_some, if◌then◌else◌, codes}
use Rattle.vhost_gpu_message.specs.declared.gpu_backend_req.GpuBackendReq.{GpuBackendReq}
use Rattle.vhost_gpu_message.specs.declared.gpu_backend_req.GpuBackendReq.TheVariants as code
use Rattle.vhost_gpu_message.specs.declared.records.cursor.VhostUserGpuCursorPos.{VhostUserGpuCursorPos}
use Rattle.vhost_gpu_message.specs.declared.records.cursor.VhostUserGpuCursorUpdate.{VhostUserGpuCursorUpdate}
use Rattle.vhost_gpu_message.specs.declared.records.edid.VhostUserGpuEdidRequest.{VhostUserGpuEdidRequest}
use Rattle.vhost_gpu_message.specs.declared.records.scanout.VhostUserGpuUpdate.{VhostUserGpuUpdate}
use Rattle.vhost_gpu_message.specs.declared.records.scanout.VhostUserGpuDMABUFScanout.{VhostUserGpuDMABUFScanout}
use Rattle.vhost_gpu_message.specs.declared.records.scanout.VhostUserGpuDMABUFScanout2.{VhostUserGpuDMABUFScanout2}
use Rattle.vhost_gpu_message.specs.declared.records.scanout.VhostUserGpuScanout.{VhostUserGpuScanout}
use Rattle.vhost_gpu_message.specs.GpuBackendReq.{gpu_request_of, gpu_request_number}
use Rattle.vhost_gpu_message.specs.GpuHeader.{is_valid_gpu_header}
use Rattle.vhost_gpu_message.specs.Records.{dmabuf_scanout2_text}
use Rattle.vhost_gpu_message.specs.WordRecords.{edid_request_text, update_text, dmabuf_scanout_text, cursor_pos_text, cursor_update_text, scanout_text}
use Rattle.vhost_message.specs.Header.{Header, header_text, is_reply_for}
use Rattle.vhost_message.specs.Text.{digits}
use Rattle.vhost_protocol.specs.Error.{Error, InvalidMessage, SocketBroken, Raw}
use Rattle.vhost_protocol.specs.IoError.{IoError, In}
use Rattle.vhost_protocol.specs.ReplySplit.{Received, reply_split}
use Rattle.vhost_protocol.specs.Row.{always}
use Rattle.vhost_protocol.specs.Stream.{Cell, carrying, has_some}

-- a call of the display, over handles of the type H; images are bytes
pub data GpuCall (H : Type 0) : Type 0 where
  GetProtocolFeatures : GpuCall H
  SetProtocolFeatures : (features : ℕ) → GpuCall H
  GetDisplayInfo : GpuCall H
  GetEdid : VhostUserGpuEdidRequest → GpuCall H
  SetScanout : VhostUserGpuScanout → GpuCall H
  UpdateScanout : VhostUserGpuUpdate → (image : List ℕ) → GpuCall H
  SetDmabufScanout : VhostUserGpuDMABUFScanout → Option H → GpuCall H
  SetDmabufScanout2 : VhostUserGpuDMABUFScanout2 → Option H → GpuCall H
  UpdateDmabufScanout : VhostUserGpuUpdate → GpuCall H
  MoveCursor : VhostUserGpuCursorPos → GpuCall H
  HideCursor : VhostUserGpuCursorPos → GpuCall H
  UpdateCursor : VhostUserGpuCursorUpdate → (image : List ℕ) → GpuCall H

-- the record of a reply
pub data GpuReply : Type 0 where
  TheFeatures : GpuReply
  TheDisplayInfo : GpuReply
  TheEdid : GpuReply
  TheEmpty : GpuReply

-- how many bytes it has
abbrev pub gpu_record_size : GpuReply → ℕ
gpu_record_size TheFeatures = 8
gpu_record_size TheDisplayInfo = 408
gpu_record_size TheEdid = 1056
gpu_record_size TheEmpty = 0

-- what a call sends: the code, the record's text, the bytes behind it and the handles; and what it waits for
pub record GpuSent (H : Type 0) : Type 0 where
  pub request : GpuBackendReq
  pub body : List ℕ
  pub payload : List ℕ
  pub handles : List H
  pub awaited : Option GpuReply

-- a message without handles
abbrev pub gpu_message : {H : Type 0} → GpuBackendReq → List ℕ → List ℕ → Option GpuReply → GpuSent H
gpu_message request body payload awaited = record { request = request; body = body; payload = payload; handles = []; awaited = awaited }

-- a handle, where there is one
abbrev pub perhaps : {H : Type 0} → Option H → List H
perhaps None = []
perhaps (Some h) = h ∷ []

-- what each call sends and awaits
abbrev pub gpu_row : {H : Type 0} → GpuCall H → GpuSent H
gpu_row GetProtocolFeatures = gpu_message code.GET_PROTOCOL_FEATURES [] [] (Some TheFeatures)
gpu_row (SetProtocolFeatures n) = gpu_message code.SET_PROTOCOL_FEATURES (digits 8 n) [] None
gpu_row GetDisplayInfo = gpu_message code.GET_DISPLAY_INFO [] [] (Some TheDisplayInfo)
gpu_row (GetEdid e) = gpu_message code.GET_EDID (edid_request_text e) [] (Some TheEdid)
gpu_row (SetScanout s) = gpu_message code.SCANOUT (scanout_text s) [] None
gpu_row (UpdateScanout u image) = gpu_message code.UPDATE (update_text u) image None
gpu_row (SetDmabufScanout d h) = record (gpu_message code.DMABUF_SCANOUT (dmabuf_scanout_text d) [] None) { handles = perhaps h }
gpu_row (SetDmabufScanout2 d h) = record (gpu_message code.DMABUF_SCANOUT2 (dmabuf_scanout2_text d) [] None) { handles = perhaps h }
gpu_row (UpdateDmabufScanout u) = gpu_message code.DMABUF_UPDATE (update_text u) [] (Some TheEmpty)
gpu_row (MoveCursor c) = gpu_message code.CURSOR_POS (cursor_pos_text c) [] None
gpu_row (HideCursor c) = gpu_message code.CURSOR_POS_HIDE (cursor_pos_text c) [] None
gpu_row (UpdateCursor c image) = gpu_message code.CURSOR_UPDATE (cursor_update_text c) image None

-- the header: requests have no flags
abbrev pub gpu_head : {H : Type 0} → GpuSent H → Header
gpu_head g = record { code = gpu_request_number g.request; flags = 0; size = length g.body + length g.payload }

-- the bytes, with the handles on the first
abbrev pub gpu_cells : {H : Type 0} → GpuSent H → List (Cell H)
gpu_cells g = carrying g.handles (header_text (gpu_head g) ++ g.body ++ g.payload)

-- the step at which a message may fail to be sent
abbrev pub sent_by : {H : Type 0} → GpuCall H → List ℕ
sent_by GetProtocolFeatures = codes "send_header"
sent_by GetDisplayInfo = codes "send_header"
sent_by (UpdateScanout u image) = codes "send_message_with_payload"
sent_by (UpdateCursor c image) = codes "send_message_with_payload"
sent_by _ = codes "send_message"

-- a session that failed sends nothing
abbrev pub gpu_refusal : Option ℤ → Option IoError
gpu_refusal (Some e) = Some (In (codes "check_state") (SocketBroken (Raw e)))
gpu_refusal None = None

-- a valid header of this channel: a known code, no flag but REPLY, any size
abbrev pub is_known_gpu : Header → Bool
is_known_gpu h = is_some (gpu_request_of h.code) && is_valid_gpu_header h

-- the record of a reply that answers what was sent, and brings no handle
abbrev pub gpu_understood : {H : Type 0} → (sent : Header) → Result (Received H) Error → Result (List ℕ) IoError
gpu_understood sent (Err e) = Err (In (codes "recv_body") e)
gpu_understood sent (Ok r) =
    if is_reply_for gpu_request_of r.header sent && not (has_some r.handles) then Ok r.body
    else Err (In (codes "Unexpected reply") InvalidMessage)

-- the bytes of the awaited record, and the rest of the stream; where nothing is awaited, none
abbrev pub gpu_take : {H : Type 0} → Option GpuReply → (sent : Header) → List (Cell H) → Result (List ℕ) IoError × List (Cell H)
gpu_take None sent cells = (Ok [], cells)
gpu_take (Some shape) sent cells =
    let cut = reply_split is_known_gpu (gpu_record_size shape) always 0 cells in
    (gpu_understood sent cut.0, cut.1)
