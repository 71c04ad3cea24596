-- Records that hold more than numbers of four bytes.
use Rattle.std.specs.Prelude.{◌≡◌, ℕ, ◌<◌, ◌^◌, List, [], ◌++◌}
use Rattle.byteorder.specs.Numbers.{little_number-reads_back}
use Rattle.vhost_message.specs.Text.{digits, number_at}
use Rattle.vhost_gpu_message.specs.Words.{AreWords, words-read_back}
use Rattle.vhost_gpu_message.specs.WordRecords.{dmabuf_scanout_words, dmabuf_scanout_text, dmabuf_scanout_from, dmabuf_scanout_of}
use Rattle.vhost_gpu_message.specs.declared.records.scanout.VhostUserGpuDMABUFScanout2.{VhostUserGpuDMABUFScanout2}

-- a rectangle in a buffer, with a modifier
abbrev pub dmabuf_scanout2_text : VhostUserGpuDMABUFScanout2 → List ℕ
dmabuf_scanout2_text d = dmabuf_scanout_text d.dmabuf_scanout ++ digits 8 d.modifier

-- the one at the head of some bytes
abbrev pub dmabuf_scanout2_of : List ℕ → VhostUserGpuDMABUFScanout2
dmabuf_scanout2_of bs = record { dmabuf_scanout = dmabuf_scanout_of bs; modifier = number_at 40 8 bs }

-- each number is within its field
abbrev pub DmabufScanout2Fits : VhostUserGpuDMABUFScanout2 → Type 0
DmabufScanout2Fits d = AreWords (dmabuf_scanout_words d.dmabuf_scanout) × (d.modifier < 2 ^ 64)

pub dmabuf_scanout2-reads_back : (d : VhostUserGpuDMABUFScanout2) → DmabufScanout2Fits d → dmabuf_scanout2_of (dmabuf_scanout2_text d) ≡ d
dmabuf_scanout2-reads_back d fits =
    let scanout = words-read_back (dmabuf_scanout_words d.dmabuf_scanout) (digits 8 d.modifier) fits.0 in
    let modifier = little_number-reads_back 8 d.modifier [] fits.1 in
    λ i. record { dmabuf_scanout = dmabuf_scanout_from (scanout i); modifier = modifier i }
