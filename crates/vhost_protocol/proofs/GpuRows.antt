-- Worked rows of the channel to a display: each holds by computing.
use Rattle.std.proofs.Common.{◌≡◌, ℕ, List, [], ◌∷◌, ◌++◌, replicate, take, length, Some, None, Result, Ok, Err, refl, pos}
use Rattle.std.specs.Prelude.{codes}
use Rattle.vhost_message.specs.Header.{header_of, header_text}
use Rattle.vhost_message.specs.Text.{digits}
use Rattle.vhost_protocol.specs.Error.{InvalidMessage, PartialMessage, SocketBroken, Raw}
use Rattle.vhost_protocol.specs.Gpu.{GpuCall, GetProtocolFeatures, GetEdid, MoveCursor, UpdateCursor, UpdateScanout, SetDmabufScanout2, TheFeatures, gpu_row, gpu_cells, gpu_refusal, is_known_gpu, gpu_take}
use Rattle.vhost_protocol.specs.IoError.{IoError, In}
use Rattle.vhost_protocol.specs.ReplySplit.{reply_split, received}
use Rattle.vhost_protocol.specs.Stream.{Cell, bytes, plain, carrying}
use Rattle.std.specs.Prelude.{true}

-- the bytes of a call
gpu : GpuCall ℕ → List ℕ
gpu call = bytes (gpu_cells (gpu_row call))

features : gpu GetProtocolFeatures ≡ 1 ∷ replicate 11 0
unfolding gpu
features = refl

edid : gpu (GetEdid (record { scanout_id = 1 })) ≡ 0xb ∷ replicate 7 0 ++ 4 ∷ 0 ∷ 0 ∷ 0 ∷ 1 ∷ 0 ∷ 0 ∷ 0 ∷ []
unfolding gpu
edid = refl

cursor : gpu (MoveCursor (record { scanout_id = 1; x = 10; y = 20 })) ≡ 4 ∷ replicate 7 0 ++ 0xc ∷ 0 ∷ 0 ∷ 0 ∷ 1 ∷ 0 ∷ 0 ∷ 0 ∷ 10 ∷ 0 ∷ 0 ∷ 0 ∷ 20 ∷ 0 ∷ 0 ∷ 0 ∷ []
unfolding gpu
cursor = refl

scanout : take 12 (gpu (UpdateScanout (record { scanout_id = 0; x = 0; y = 0; width = 0; height = 0 }) (replicate 4096 0))) ≡ 8 ∷ replicate 7 0 ++ 0x14 ∷ 0x10 ∷ 0 ∷ 0 ∷ []
unfolding gpu
scanout = refl

cursor_image : take 12 (gpu (UpdateCursor (record { pos = record { scanout_id = 0; x = 0; y = 0 }; hot_x = 0; hot_y = 0 }) (replicate 16384 0))) ≡ 6 ∷ replicate 7 0 ++ 0x14 ∷ 0x40 ∷ 0 ∷ 0 ∷ []
unfolding gpu
cursor_image = refl

-- a record of 48 bytes
modified : length (gpu (SetDmabufScanout2 (record { dmabuf_scanout = record { scanout_id = 0; x = 0; y = 0; width = 0; height = 0; fd_width = 0; fd_height = 0; fd_stride = 0; fd_flags = 0; fd_drm_fourcc = 0 }; modifier = 0 }) None)) ≡ 60
unfolding gpu
modified = refl

-- the header of a reply
edid_reply : is_known_gpu (header_of (0xb ∷ 0 ∷ 0 ∷ 0 ∷ 4 ∷ 0 ∷ 0 ∷ 0 ∷ 0x20 ∷ 4 ∷ 0 ∷ 0 ∷ [])) ≡ true
edid_reply = refl

-- what is taken of a reply to the request for the features
taken : List (Cell ℕ) → Result (List ℕ) IoError
taken cells = (gpu_take (Some TheFeatures) (record { code = 1; flags = 0; size = 0 }) cells).0

reply : ℕ → ℕ → List ℕ
reply code flags = header_text (record { code = code; flags = flags; size = 8 }) ++ digits 8 3

unexpected : Result (List ℕ) IoError
unexpected = Err (In (codes "Unexpected reply") InvalidMessage)

features_3 : taken (plain (reply 1 4)) ≡ Ok (3 ∷ replicate 7 0)
unfolding taken reply reply_split received
features_3 = refl

no_reply_flag : taken (plain (reply 1 0)) ≡ unexpected
unfolding taken reply unexpected reply_split received
no_reply_flag = refl

other_code : taken (plain (reply 11 4)) ≡ unexpected
unfolding taken reply unexpected reply_split received
other_code = refl

with_handle : taken (carrying (7 ∷ []) (reply 1 4)) ≡ unexpected
unfolding taken reply unexpected reply_split received
with_handle = refl

unknown_code : taken (plain (reply 13 4)) ≡ Err (In (codes "recv_body") InvalidMessage)
unfolding taken reply reply_split received
unknown_code = refl

short : taken (plain (replicate 19 1)) ≡ Err (In (codes "recv_body") PartialMessage)
unfolding taken reply_split received
short = refl

failed : gpu_refusal (Some (pos 104)) ≡ Some (In (codes "check_state") (SocketBroken (Raw (pos 104))))
failed = refl
