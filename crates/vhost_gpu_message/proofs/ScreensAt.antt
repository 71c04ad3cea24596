-- Screens one behind the other.
use Rattle.std.proofs.Common.{◌≡◌, ℕ, zero, suc, ◌+◌, ◌-◌, ◌*◌, ◌<◌, ◌≤◌, List, [], ◌∷◌, ◌++◌, length, take, drop, set, refl, ap, sym, subst, ◌∙◌, arith, append_assoc, length-append, get_or, add-one, lit≤}
use Rattle.std.specs.List.{flat_map}
use Rattle.std.proofs.lemmas.List.{drop-drop, drop-take, take_all, take_more, take_more_set, take-append-le, drop-append-le, length-take, length-drop}
use Rattle.std.proofs.lemmas.Grind.{flat_map-append}
use Rattle.std.proofs.Math.ListN.{drop_of_length-le}
use borrow.Rule.Slice.PartMut.{put_mid}
use Rattle.vhost_message.proofs.Numbers.{rest_is}
use Rattle.byteorder.specs.Numbers.{little_from-take}
use Rattle.vhost_gpu_message.specs.Words.{AreWords}
use Rattle.vhost_gpu_message.specs.WordRecords.{display_one_words, display_one_text, display_one_from, display_one_of}
use Rattle.vhost_gpu_message.specs.CtrlHdr.{ctrl_hdr_of}
use Rattle.vhost_gpu_message.specs.Replies.{screens_of, ScreensFit}
use Rattle.vhost_gpu_message.specs.declared.records.display.VirtioGpuDisplayOne.{VirtioGpuDisplayOne}
use Rattle.vhost_gpu_message.proofs.Slices.{words_of-take}

-- a screen lies within 24 bytes
pub display_one_of-take : (m : ℕ) (bs : List ℕ) → 24 ≤ m → display_one_of (take m bs) ≡ display_one_of bs
display_one_of-take m bs h = ap display_one_from (words_of-take 6 m bs (omega arith))

-- one more screen is behind those before it
pub screens_of-more : (n : ℕ) (bs : List ℕ) → screens_of (suc n) bs ≡ screens_of n bs ++ display_one_of (drop (24 * n) bs) ∷ []
screens_of-more zero bs = refl
screens_of-more (suc n) bs =
    let place : 24 + 24 * n ≡ 24 * suc n = omega arith in
    let behind : drop (24 * n) (drop 24 bs) ≡ drop (24 * suc n) bs = drop-drop (24 * n) 24 bs ∙ ap (λ k. drop k bs) place in
    let rest : screens_of (suc n) (drop 24 bs) ≡ screens_of n (drop 24 bs) ++ display_one_of (drop (24 * suc n) bs) ∷ [] =
    screens_of-more n (drop 24 bs) ∙ ap (λ xs. screens_of n (drop 24 bs) ++ display_one_of xs ∷ []) behind in
    ap (λ ds. display_one_of bs ∷ ds) rest

-- one more screen fits
pub fits-more : (ds : List VirtioGpuDisplayOne) (d : VirtioGpuDisplayOne) → ScreensFit ds → AreWords (display_one_words d) → ScreensFit (ds ++ d ∷ [])
fits-more [] d fits one = (one, tt)
fits-more (e ∷ ds) d fits one = (fits.0, fits-more ds d fits.1 one)

-- the head of a reply lies within 24 bytes
pub ctrl_hdr_of-take : (bs : List ℕ) → ctrl_hdr_of (take 24 bs) ≡ ctrl_hdr_of bs
ctrl_hdr_of-take bs =
    let type_ = little_from-take 0 4 24 bs (lit≤ tt) in
    let flags = little_from-take 4 4 24 bs (lit≤ tt) in
    let fence_id = little_from-take 8 8 24 bs (lit≤ tt) in
    let ctx_id = little_from-take 16 4 24 bs (lit≤ tt) in
    let ring_idx = little_from-take 20 1 24 bs (lit≤ tt) in
    let padding : take 3 (drop 21 (take 24 bs)) ≡ take 3 (drop 21 bs) =
    ap (take 3) (drop-take 21 3 bs) ∙ take_all 3 (take 3 (drop 21 bs)) (omega (arith, length-take 3 (drop 21 bs))) in
    λ i. record { type_ = type_ i; flags = flags i; fence_id = fence_id i; ctx_id = ctx_id i; ring_idx = ring_idx i; padding = padding i }

-- the bytes of an EDID behind the head and its two numbers
pub edid_behind : (rest bs given : List ℕ) → rest ≡ drop 24 bs → length bs ≡ 1056 → given ≡ take (length rest - 8) (drop 8 rest) → given ≡ take 1024 (drop 8 (drop 24 bs))
edid_behind rest bs given back count copied =
    let short : length (drop 8 (drop 24 bs)) ≤ 1024 = omega (arith, length-drop 8 (drop 24 bs), length-drop 24 bs) in
    copied ∙ rest_is 8 rest ∙ ap (drop 8) back ∙ sym (take_all 1024 (drop 8 (drop 24 bs)) short)

-- a text written behind what stands
pub placed : (done old t : List ℕ) (k m : ℕ) → length done ≡ k → length t ≡ m - k → m ≤ length old → k ≤ m → put_mid k (m - k) (done ++ drop k old) t ≡ (done ++ t) ++ drop m old
placed done old t k m at size room order =
    let front : take k (done ++ drop k old) ≡ done = take-append-le k done (drop k old) (omega arith) ∙ take_all k done (omega arith) in
    let none : drop k done ≡ [] = drop_of_length-le done (omega arith) in
    let after : drop k (done ++ drop k old) ≡ drop k old = drop-append-le k done (drop k old) (omega arith) ∙ ap (λ xs. xs ++ drop k old) none in
    let sum : k + (m - k) ≡ m = omega arith in
    let behind : drop (m - k) (drop k (done ++ drop k old)) ≡ drop m old = ap (drop (m - k)) after ∙ drop-drop (m - k) k old ∙ ap (λ n. drop n old) sum in
    (λ i. front i ++ (t ++ behind i)) ∙ sym (append_assoc done t (drop m old))

-- the bytes of the first screens, and of one more
pub texts-more : (screens : List VirtioGpuDisplayOne) (i : ℕ) (d : VirtioGpuDisplayOne) → i < length screens
    → flat_map display_one_text (take (i + 1) screens) ≡ flat_map display_one_text (take i screens) ++ display_one_text (get_or screens i d)
texts-more screens i d h =
    ap (flat_map display_one_text) (take_more screens i d h) ∙ flat_map-append display_one_text (take i screens) (get_or screens i d ∷ [])

pub texts-length : (screens : List VirtioGpuDisplayOne) → length (flat_map display_one_text screens) ≡ 24 * length screens
texts-length [] = refl
texts-length (d ∷ ds) = omega (arith, length-append (display_one_text d) (flat_map display_one_text ds), texts-length ds)

-- one more screen is written
pub screen-written : (screens : List VirtioGpuDisplayOne) (i : ℕ) (d : VirtioGpuDisplayOne) (old out t : List ℕ) → i < length screens → length old ≡ 24 * length screens
    → out ≡ flat_map display_one_text (take i screens) ++ drop (24 * i) old → t ≡ display_one_text (get_or screens i d)
    → put_mid (24 * i) (24 * i + 24 - 24 * i) out t ≡ flat_map display_one_text (take (i + 1) screens) ++ drop (24 * (i + 1)) old
screen-written screens i d old out t h room now text =
    let done = flat_map display_one_text (take i screens) in
    let at : length done ≡ 24 * i = texts-length (take i screens) ∙ omega (arith, length-take i screens) in
    let size : length t ≡ 24 * i + 24 - 24 * i = ap length text ∙ omega arith in
    let place : 24 * i + 24 ≡ 24 * (i + 1) = omega arith in
    let written : put_mid (24 * i) (24 * i + 24 - 24 * i) (done ++ drop (24 * i) old) t ≡ (done ++ t) ++ drop (24 * i + 24) old =
    placed done old t (24 * i) (24 * i + 24) at size (omega arith) (omega arith) in
    let texts : done ++ t ≡ flat_map display_one_text (take (i + 1) screens) = ap (λ xs. done ++ xs) text ∙ sym (texts-more screens i d h) in
    ap (λ xs. put_mid (24 * i) (24 * i + 24 - 24 * i) xs t) now ∙ written ∙ (λ j. texts j ++ drop (place j) old)

-- one more screen is read
pub screen-read : (screens : List VirtioGpuDisplayOne) (i m : ℕ) (bs : List ℕ) (d : VirtioGpuDisplayOne) → i < length screens → take i screens ≡ screens_of i bs → 24 ≤ m
    → d ≡ display_one_of (take m (drop (24 * i) bs)) → take (i + 1) (set screens i d) ≡ screens_of (i + 1) bs
screen-read screens i m bs d h now room read =
    let one : d ≡ display_one_of (drop (24 * i) bs) = read ∙ display_one_of-take m (drop (24 * i) bs) room in
    take_more_set screens i d h ∙ (λ j. now j ++ one j ∷ []) ∙ sym (screens_of-more i bs) ∙ ap (λ n. screens_of n bs) (sym (add-one i))

pub screens-fit : (screens : List VirtioGpuDisplayOne) (i : ℕ) (d : VirtioGpuDisplayOne) → i < length screens → ScreensFit (take i screens) → AreWords (display_one_words d) → ScreensFit (take (i + 1) (set screens i d))
screens-fit screens i d h fits one = subst ScreensFit (sym (take_more_set screens i d h)) (fits-more (take i screens) d fits one)

pub screens-fit_next : (screens : List VirtioGpuDisplayOne) (i : ℕ) (d : VirtioGpuDisplayOne) → i < length screens → ScreensFit (take i screens) → AreWords (display_one_words (get_or screens i d)) → ScreensFit (take (i + 1) screens)
screens-fit_next screens i d h fits one = subst ScreensFit (sym (take_more screens i d h)) (fits-more (take i screens) (get_or screens i d) fits one)
