-- The bodies of a display's replies.
use Rattle.std.specs.Prelude.{◌≡◌, ℕ, zero, suc, ◌+◌, ◌<◌, ◌^◌, List, [], ◌∷◌, ◌++◌, length, take, drop, replicate, refl, ⊤}
use Rattle.std.specs.List.{flat_map}
use Rattle.std.proofs.Common.{ap, sym, ◌∙◌, length-append}
use Rattle.std.proofs.Math.Seq.{take-length}
use Rattle.byteorder.specs.Numbers.{little_number-reads_back}
use Rattle.vhost_message.specs.Text.{digits, number_at}
use Rattle.vhost_gpu_message.specs.Words.{AreWords, words-read_back}
use Rattle.vhost_gpu_message.specs.WordRecords.{display_one_words, display_one_text, display_one_from, display_one_of}
use Rattle.vhost_gpu_message.specs.CtrlHdr.{ctrl_hdr_text, ctrl_hdr_of, CtrlHdrFits, ctrl_hdr-length, ctrl_hdr-reads_before, of_three, padded}
use Rattle.vhost_gpu_message.specs.declared.limits.TheConstants.{VIRTIO_GPU_MAX_SCANOUTS}
use Rattle.vhost_gpu_message.specs.declared.records.ctrl_hdr.VirtioGpuCtrlHdr.{VirtioGpuCtrlHdr}
use Rattle.vhost_gpu_message.specs.declared.records.display.VirtioGpuDisplayOne.{VirtioGpuDisplayOne}
use Rattle.vhost_gpu_message.specs.declared.records.replies.VirtioGpuRespDisplayInfo.{VirtioGpuRespDisplayInfo}
use Rattle.vhost_gpu_message.specs.declared.records.replies.VirtioGpuRespGetEdid.{VirtioGpuRespGetEdid}

-- ---- what follows a head

behind_hdr : (h : VirtioGpuCtrlHdr) (rest : List ℕ) → CtrlHdrFits h → drop 24 (ctrl_hdr_text h ++ rest) ≡ rest
behind_hdr h rest fits = of_three (λ padding. drop 24 (ctrl_hdr_text (padded h padding) ++ rest) ≡ rest) (λ a b c. refl) h.padding fits.padding

-- ---- all 0

-- a head
abbrev pub empty_hdr : VirtioGpuCtrlHdr
empty_hdr = record { type_ = 0; flags = 0; fence_id = 0; ctx_id = 0; ring_idx = 0; padding = replicate 3 0 }

-- a screen
abbrev pub empty_screen : VirtioGpuDisplayOne
empty_screen = record { r = record { x = 0; y = 0; width = 0; height = 0 }; enabled = 0; flags = 0 }

-- a reply with screens
abbrev pub empty_info : VirtioGpuRespDisplayInfo
empty_info = record { hdr = empty_hdr; pmodes = replicate VIRTIO_GPU_MAX_SCANOUTS empty_screen }

-- a reply with an EDID
abbrev pub empty_edid : VirtioGpuRespGetEdid
empty_edid = record { hdr = empty_hdr; size = 0; padding = 0; edid = replicate 1024 0 }

-- ---- the screens of a display

-- n screens at the head of some bytes
abbrev pub screens_of : ℕ → List ℕ → List VirtioGpuDisplayOne
screens_of zero bs = []
screens_of (suc n) bs = display_one_of bs ∷ screens_of n (drop 24 bs)

-- the numbers of each are within their fields
abbrev pub ScreensFit : List VirtioGpuDisplayOne → Type 0
ScreensFit [] = ⊤
ScreensFit (d ∷ ds) = AreWords (display_one_words d) × ScreensFit ds

-- a reply with the screens
abbrev pub display_info_text : VirtioGpuRespDisplayInfo → List ℕ
display_info_text r = ctrl_hdr_text r.hdr ++ flat_map display_one_text r.pmodes

-- the one at the head of some bytes
abbrev pub display_info_of : List ℕ → VirtioGpuRespDisplayInfo
display_info_of bs = record { hdr = ctrl_hdr_of bs; pmodes = screens_of VIRTIO_GPU_MAX_SCANOUTS (drop 24 bs) }

-- as many screens as a display may have, and each number within its field
pub record DisplayInfoFits (r : VirtioGpuRespDisplayInfo) : Type 0 where
  pub hdr : CtrlHdrFits r.hdr
  pub count : length r.pmodes ≡ VIRTIO_GPU_MAX_SCANOUTS
  pub pmodes : ScreensFit r.pmodes

-- the bytes of n screens
abbrev sizes : ℕ → ℕ
sizes zero = 0
sizes (suc n) = 24 + sizes n

length-screens : (ds : List VirtioGpuDisplayOne) → length (flat_map display_one_text ds) ≡ sizes (length ds)
length-screens [] = refl
length-screens (d ∷ ds) = length-append (display_one_text d) (flat_map display_one_text ds) ∙ ap (λ n. 24 + n) (length-screens ds)

screens-read_back : (ds : List VirtioGpuDisplayOne) → ScreensFit ds → screens_of (length ds) (flat_map display_one_text ds) ≡ ds
screens-read_back [] fits = refl
screens-read_back (d ∷ ds) fits =
    let first = ap display_one_from (words-read_back (display_one_words d) (flat_map display_one_text ds) fits.0) in
    let others = screens-read_back ds fits.1 in
    λ i. first i ∷ others i

pub display_info-length : (r : VirtioGpuRespDisplayInfo) → DisplayInfoFits r → length (display_info_text r) ≡ 408
display_info-length r fits =
    let head = ctrl_hdr-length r.hdr fits.hdr in
    let screens = length-screens r.pmodes ∙ ap sizes fits.count in
    length-append (ctrl_hdr_text r.hdr) (flat_map display_one_text r.pmodes) ∙ (λ i. head i + screens i)

pub display_info-reads_back : (r : VirtioGpuRespDisplayInfo) → DisplayInfoFits r → display_info_of (display_info_text r) ≡ r
display_info-reads_back r fits =
    let rest = flat_map display_one_text r.pmodes in
    let hdr = ctrl_hdr-reads_before r.hdr rest fits.hdr in
    let behind = behind_hdr r.hdr rest fits.hdr in
    let screens = (λ i. screens_of (sym fits.count i) (behind i)) ∙ screens-read_back r.pmodes fits.pmodes in
    λ i. record { hdr = hdr i; pmodes = screens i }

-- ---- the EDID of a screen

-- a reply with the bytes of an EDID
abbrev pub edid_text : VirtioGpuRespGetEdid → List ℕ
edid_text r = ctrl_hdr_text r.hdr ++ (digits 4 r.size ++ digits 4 r.padding ++ r.edid)

-- the one at the head of some bytes
abbrev pub edid_of : List ℕ → VirtioGpuRespGetEdid
edid_of bs = record {
  hdr = ctrl_hdr_of bs;
  size = number_at 0 4 (drop 24 bs);
  padding = number_at 4 4 (drop 24 bs);
  edid = take 1024 (drop 8 (drop 24 bs));
}

-- 1024 bytes of EDID, and each number within its field
pub record EdidFits (r : VirtioGpuRespGetEdid) : Type 0 where
  pub hdr : CtrlHdrFits r.hdr
  pub size : r.size < 2 ^ 32
  pub padding : r.padding < 2 ^ 32
  pub edid : length r.edid ≡ 1024

pub edid-length : (r : VirtioGpuRespGetEdid) → EdidFits r → length (edid_text r) ≡ 1056
edid-length r fits =
    let rest = digits 4 r.size ++ digits 4 r.padding ++ r.edid in
    let head = ctrl_hdr-length r.hdr fits.hdr in
    let behind = length-append (digits 4 r.size ++ digits 4 r.padding) r.edid ∙ ap (λ n. 8 + n) fits.edid in
    length-append (ctrl_hdr_text r.hdr) rest ∙ (λ i. head i + behind i)

pub edid-reads_back : (r : VirtioGpuRespGetEdid) → EdidFits r → edid_of (edid_text r) ≡ r
edid-reads_back r fits =
    let rest = digits 4 r.size ++ digits 4 r.padding ++ r.edid in
    let hdr = ctrl_hdr-reads_before r.hdr rest fits.hdr in
    let behind = behind_hdr r.hdr rest fits.hdr in
    let size = ap (number_at 0 4) behind ∙ little_number-reads_back 4 r.size (digits 4 r.padding ++ r.edid) fits.size in
    let padding = ap (number_at 4 4) behind ∙ little_number-reads_back 4 r.padding r.edid fits.padding in
    let edid = ap (λ bs. take 1024 (drop 8 bs)) behind ∙ ap (λ n. take n r.edid) (sym fits.edid) ∙ take-length r.edid in
    λ i. record { hdr = hdr i; size = size i; padding = padding i; edid = edid i }
