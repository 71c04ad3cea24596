-- The records of numbers of four bytes alone: their numbers in order, and the record of some numbers.
use Rattle.std.specs.Prelude.{◌≡◌, ℕ, List, [], ◌∷◌, ◌++◌, slice_index}
use Rattle.std.proofs.Common.{ap}
use Rattle.vhost_gpu_message.specs.Words.{words, words_of, AreWords, words-read_back}
use Rattle.vhost_gpu_message.specs.declared.records.cursor.VhostUserGpuCursorPos.{VhostUserGpuCursorPos}
use Rattle.vhost_gpu_message.specs.declared.records.cursor.VhostUserGpuCursorUpdate.{VhostUserGpuCursorUpdate}
use Rattle.vhost_gpu_message.specs.declared.records.display.VirtioGpuDisplayOne.{VirtioGpuDisplayOne}
use Rattle.vhost_gpu_message.specs.declared.records.rect.VirtioGpuRect.{VirtioGpuRect}
use Rattle.vhost_gpu_message.specs.declared.records.edid.VhostUserGpuEdidRequest.{VhostUserGpuEdidRequest}
use Rattle.vhost_gpu_message.specs.declared.records.scanout.VhostUserGpuUpdate.{VhostUserGpuUpdate}
use Rattle.vhost_gpu_message.specs.declared.records.scanout.VhostUserGpuDMABUFScanout.{VhostUserGpuDMABUFScanout}
use Rattle.vhost_gpu_message.specs.declared.records.scanout.VhostUserGpuScanout.{VhostUserGpuScanout}

-- a rectangle: its corner and its size, in pixels
abbrev pub rect_words : VirtioGpuRect → List ℕ
rect_words r = r.x ∷ r.y ∷ r.width ∷ r.height ∷ []

-- its bytes
abbrev pub rect_text : VirtioGpuRect → List ℕ
rect_text r = words (rect_words r)

-- the one of some numbers
abbrev pub rect_from : List ℕ → VirtioGpuRect
rect_from ns = record { x = slice_index ns 0; y = slice_index ns 1; width = slice_index ns 2; height = slice_index ns 3 }

-- the one at the head of some bytes
abbrev pub rect_of : List ℕ → VirtioGpuRect
rect_of bs = rect_from (words_of 4 bs)

pub rect-reads_back : (r : VirtioGpuRect) → AreWords (rect_words r) → rect_of (rect_text r) ≡ r
rect-reads_back r fits = ap rect_from (words-read_back (rect_words r) [] fits)

-- which screen's EDID is asked for
abbrev pub edid_request_words : VhostUserGpuEdidRequest → List ℕ
edid_request_words e = e.scanout_id ∷ []

-- its bytes
abbrev pub edid_request_text : VhostUserGpuEdidRequest → List ℕ
edid_request_text e = words (edid_request_words e)

-- the one of some numbers
abbrev pub edid_request_from : List ℕ → VhostUserGpuEdidRequest
edid_request_from ns = record { scanout_id = slice_index ns 0 }

-- the one at the head of some bytes
abbrev pub edid_request_of : List ℕ → VhostUserGpuEdidRequest
edid_request_of bs = edid_request_from (words_of 1 bs)

pub edid_request-reads_back : (e : VhostUserGpuEdidRequest) → AreWords (edid_request_words e) → edid_request_of (edid_request_text e) ≡ e
edid_request-reads_back e fits = ap edid_request_from (words-read_back (edid_request_words e) [] fits)

-- a rectangle of a screen, in pixels
abbrev pub update_words : VhostUserGpuUpdate → List ℕ
update_words u = u.scanout_id ∷ u.x ∷ u.y ∷ u.width ∷ u.height ∷ []

-- its bytes
abbrev pub update_text : VhostUserGpuUpdate → List ℕ
update_text u = words (update_words u)

-- the one of some numbers
abbrev pub update_from : List ℕ → VhostUserGpuUpdate
update_from ns = record { scanout_id = slice_index ns 0; x = slice_index ns 1; y = slice_index ns 2; width = slice_index ns 3; height = slice_index ns 4 }

-- the one at the head of some bytes
abbrev pub update_of : List ℕ → VhostUserGpuUpdate
update_of bs = update_from (words_of 5 bs)

pub update-reads_back : (u : VhostUserGpuUpdate) → AreWords (update_words u) → update_of (update_text u) ≡ u
update-reads_back u fits = ap update_from (words-read_back (update_words u) [] fits)

-- a rectangle of a screen that shows a buffer, and the buffer's form
abbrev pub dmabuf_scanout_words : VhostUserGpuDMABUFScanout → List ℕ
dmabuf_scanout_words d = d.scanout_id ∷ d.x ∷ d.y ∷ d.width ∷ d.height ∷ d.fd_width ∷ d.fd_height ∷ d.fd_stride ∷ d.fd_flags ∷ d.fd_drm_fourcc ∷ []

-- its bytes
abbrev pub dmabuf_scanout_text : VhostUserGpuDMABUFScanout → List ℕ
dmabuf_scanout_text d = words (dmabuf_scanout_words d)

-- the one of some numbers
abbrev pub dmabuf_scanout_from : List ℕ → VhostUserGpuDMABUFScanout
dmabuf_scanout_from ns = record { scanout_id = slice_index ns 0; x = slice_index ns 1; y = slice_index ns 2; width = slice_index ns 3; height = slice_index ns 4; fd_width = slice_index ns 5; fd_height = slice_index ns 6; fd_stride = slice_index ns 7; fd_flags = slice_index ns 8; fd_drm_fourcc = slice_index ns 9 }

-- the one at the head of some bytes
abbrev pub dmabuf_scanout_of : List ℕ → VhostUserGpuDMABUFScanout
dmabuf_scanout_of bs = dmabuf_scanout_from (words_of 10 bs)

pub dmabuf_scanout-reads_back : (d : VhostUserGpuDMABUFScanout) → AreWords (dmabuf_scanout_words d) → dmabuf_scanout_of (dmabuf_scanout_text d) ≡ d
dmabuf_scanout-reads_back d fits = ap dmabuf_scanout_from (words-read_back (dmabuf_scanout_words d) [] fits)

-- where the cursor is on a screen, in pixels
abbrev pub cursor_pos_words : VhostUserGpuCursorPos → List ℕ
cursor_pos_words c = c.scanout_id ∷ c.x ∷ c.y ∷ []

-- its bytes
abbrev pub cursor_pos_text : VhostUserGpuCursorPos → List ℕ
cursor_pos_text c = words (cursor_pos_words c)

-- the one of some numbers
abbrev pub cursor_pos_from : List ℕ → VhostUserGpuCursorPos
cursor_pos_from ns = record { scanout_id = slice_index ns 0; x = slice_index ns 1; y = slice_index ns 2 }

-- the one at the head of some bytes
abbrev pub cursor_pos_of : List ℕ → VhostUserGpuCursorPos
cursor_pos_of bs = cursor_pos_from (words_of 3 bs)

pub cursor_pos-reads_back : (c : VhostUserGpuCursorPos) → AreWords (cursor_pos_words c) → cursor_pos_of (cursor_pos_text c) ≡ c
cursor_pos-reads_back c fits = ap cursor_pos_from (words-read_back (cursor_pos_words c) [] fits)

-- a screen and its size, in pixels
abbrev pub scanout_words : VhostUserGpuScanout → List ℕ
scanout_words s = s.scanout_id ∷ s.width ∷ s.height ∷ []

-- its bytes
abbrev pub scanout_text : VhostUserGpuScanout → List ℕ
scanout_text s = words (scanout_words s)

-- the one of some numbers
abbrev pub scanout_from : List ℕ → VhostUserGpuScanout
scanout_from ns = record { scanout_id = slice_index ns 0; width = slice_index ns 1; height = slice_index ns 2 }

-- the one at the head of some bytes
abbrev pub scanout_of : List ℕ → VhostUserGpuScanout
scanout_of bs = scanout_from (words_of 3 bs)

pub scanout-reads_back : (s : VhostUserGpuScanout) → AreWords (scanout_words s) → scanout_of (scanout_text s) ≡ s
scanout-reads_back s fits = ap scanout_from (words-read_back (scanout_words s) [] fits)

-- a screen's rectangle, and whether it is used
abbrev pub display_one_words : VirtioGpuDisplayOne → List ℕ
display_one_words d = rect_words d.r ++ d.enabled ∷ d.flags ∷ []

-- its bytes
abbrev pub display_one_text : VirtioGpuDisplayOne → List ℕ
display_one_text d = words (display_one_words d)

-- the one of some numbers
abbrev pub display_one_from : List ℕ → VirtioGpuDisplayOne
display_one_from ns = record { r = rect_from ns; enabled = slice_index ns 4; flags = slice_index ns 5 }

-- the one at the head of some bytes
abbrev pub display_one_of : List ℕ → VirtioGpuDisplayOne
display_one_of bs = display_one_from (words_of 6 bs)

pub display_one-reads_back : (d : VirtioGpuDisplayOne) → AreWords (display_one_words d) → display_one_of (display_one_text d) ≡ d
display_one-reads_back d fits = ap display_one_from (words-read_back (display_one_words d) [] fits)

-- the cursor's place and its hot spot
abbrev pub cursor_update_words : VhostUserGpuCursorUpdate → List ℕ
cursor_update_words c = cursor_pos_words c.pos ++ c.hot_x ∷ c.hot_y ∷ []

-- its bytes
abbrev pub cursor_update_text : VhostUserGpuCursorUpdate → List ℕ
cursor_update_text c = words (cursor_update_words c)

-- the one of some numbers
abbrev pub cursor_update_from : List ℕ → VhostUserGpuCursorUpdate
cursor_update_from ns = record { pos = cursor_pos_from ns; hot_x = slice_index ns 3; hot_y = slice_index ns 4 }

-- the one at the head of some bytes
abbrev pub cursor_update_of : List ℕ → VhostUserGpuCursorUpdate
cursor_update_of bs = cursor_update_from (words_of 5 bs)

pub cursor_update-reads_back : (c : VhostUserGpuCursorUpdate) → AreWords (cursor_update_words c) → cursor_update_of (cursor_update_text c) ≡ c
cursor_update-reads_back c fits = ap cursor_update_from (words-read_back (cursor_update_words c) [] fits)
