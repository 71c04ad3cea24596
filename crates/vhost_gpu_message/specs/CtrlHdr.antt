-- The head of a display's replies.
use Rattle.std.specs.Prelude.{◌≡◌, ℕ, zero, suc, ◌<◌, ◌^◌, Bool, true, false, List, [], ◌∷◌, ◌++◌, length, take, drop, refl}
use Rattle.std.proofs.Common.{ap, sym, ◌∙◌, append-nil}
use Rattle.std.proofs.lemmas.Bool.{false≢true}
use Rattle.byteorder.specs.Numbers.{little_number-reads_back}
use Rattle.vhost_message.specs.Text.{digits, number_at}
use Rattle.vhost_gpu_message.specs.declared.records.ctrl_hdr.VirtioGpuCtrlHdr.{VirtioGpuCtrlHdr}

-- the numbers of a head
abbrev ctrl_hdr_numbers : VirtioGpuCtrlHdr → List ℕ
ctrl_hdr_numbers h = digits 4 h.type_ ++ digits 4 h.flags ++ digits 8 h.fence_id ++ digits 4 h.ctx_id ++ digits 1 h.ring_idx

-- its bytes
abbrev pub ctrl_hdr_text : VirtioGpuCtrlHdr → List ℕ
ctrl_hdr_text h = ctrl_hdr_numbers h ++ h.padding

-- the one at the head of some bytes
abbrev pub ctrl_hdr_of : List ℕ → VirtioGpuCtrlHdr
ctrl_hdr_of bs = record {
  type_ = number_at 0 4 bs;
  flags = number_at 4 4 bs;
  fence_id = number_at 8 8 bs;
  ctx_id = number_at 16 4 bs;
  ring_idx = number_at 20 1 bs;
  padding = take 3 (drop 21 bs);
}

-- three bytes of padding, and each number within its field
pub record CtrlHdrFits (h : VirtioGpuCtrlHdr) : Type 0 where
  pub type_ : h.type_ < 2 ^ 32
  pub flags : h.flags < 2 ^ 32
  pub fence_id : h.fence_id < 2 ^ 64
  pub ctx_id : h.ctx_id < 2 ^ 32
  pub ring_idx : h.ring_idx < 2 ^ 8
  pub padding : length h.padding ≡ 3

-- the number is three
abbrev is_three : ℕ → Bool
is_three (suc (suc (suc zero))) = true
is_three _ = false

-- what holds of each list of three holds of a list of that length
pub of_three : (P : List ℕ → Type 0) → ((a b c : ℕ) → P (a ∷ b ∷ c ∷ [])) → (xs : List ℕ) → length xs ≡ 3 → P xs
of_three P h (a ∷ b ∷ c ∷ []) count = h a b c
of_three P h _ count = absurd (false≢true (ap is_three count))

-- the head with other padding
abbrev pub padded : VirtioGpuCtrlHdr → List ℕ → VirtioGpuCtrlHdr
padded h padding = record h { padding = padding }

pub ctrl_hdr-length : (h : VirtioGpuCtrlHdr) → CtrlHdrFits h → length (ctrl_hdr_text h) ≡ 24
ctrl_hdr-length h fits = of_three (λ padding. length (ctrl_hdr_text (padded h padding)) ≡ 24) (λ a b c. refl) h.padding fits.padding

-- it is read again, whatever is behind it
pub ctrl_hdr-reads_before : (h : VirtioGpuCtrlHdr) (rest : List ℕ) → CtrlHdrFits h → ctrl_hdr_of (ctrl_hdr_text h ++ rest) ≡ h
ctrl_hdr-reads_before h rest fits =
    let tail = h.padding ++ rest in
    let type_ = little_number-reads_back 4 h.type_ (digits 4 h.flags ++ digits 8 h.fence_id ++ digits 4 h.ctx_id ++ digits 1 h.ring_idx ++ tail) fits.type_ in
    let flags = little_number-reads_back 4 h.flags (digits 8 h.fence_id ++ digits 4 h.ctx_id ++ digits 1 h.ring_idx ++ tail) fits.flags in
    let fence_id = little_number-reads_back 8 h.fence_id (digits 4 h.ctx_id ++ digits 1 h.ring_idx ++ tail) fits.fence_id in
    let ctx_id = little_number-reads_back 4 h.ctx_id (digits 1 h.ring_idx ++ tail) fits.ctx_id in
    let ring_idx = little_number-reads_back 1 h.ring_idx tail fits.ring_idx in
    of_three (λ padding. ctrl_hdr_of (ctrl_hdr_text (padded h padding) ++ rest) ≡ padded h padding)
    (λ a b c i. record { type_ = type_ i; flags = flags i; fence_id = fence_id i; ctx_id = ctx_id i; ring_idx = ring_idx i; padding = a ∷ b ∷ c ∷ [] })
    h.padding
    fits.padding

pub ctrl_hdr-reads_back : (h : VirtioGpuCtrlHdr) → CtrlHdrFits h → ctrl_hdr_of (ctrl_hdr_text h) ≡ h
ctrl_hdr-reads_back h fits = sym (ap ctrl_hdr_of (append-nil (ctrl_hdr_text h))) ∙ ctrl_hdr-reads_before h [] fits
