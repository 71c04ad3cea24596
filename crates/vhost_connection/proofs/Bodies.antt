-- A header and a record come in, and what fits of a payload.
use Rattle.std.proofs.Common.{◌≡◌, ℕ, ◌+◌, ◌<◌, ◌≤◌, List, length, take, drop, refl, sym, ap, subst, ◌∙◌, arith, Bool, true, false, ◌&&◌, Option, Vec}
use Rattle.std.specs.Global.{Global}
use Rattle.std.proofs.lemmas.List.{drop-take, take-take}
use Rattle.vhost_message.specs.declared.error.Error.TheVariants.{InvalidMessage, PartialMessage}
use Rattle.vhost_protocol.specs.Stream.{Cell, bytes}
use Rattle.vhost_connection.specs.Calls.{HandsOver, IsMessage, IsNoMessage, is_sound}
use Rattle.vhost_connection.specs.Calls.IsNoMessage.{too_few, not_valid}
use Rattle.vhost_connection.specs.Front.{IsFront}

module _ {H : Type 0} {len count more : ℕ} {hs : List H} {text : List ℕ} {cs : List (Cell H)} (f : IsFront len cs count more hs text) where
  -- the end came within the front
  pub front-short : {test : List ℕ → Bool} → count < len → IsNoMessage len test cs PartialMessage
  front-short short = too_few (omega (arith, f.counted))

  module _ (most : len ≤ count) where
    pub front-long : len ≤ length cs
    front-long = omega (arith, f.counted)

    pub front-more : length cs ≡ len + more
    front-more = omega (arith, f.counted, f.rest)

    -- the text begins with what came
    pub begins : take len text ≡ take len (bytes cs)
    begins =
        let full : count ≡ len = omega (arith, f.counted) in
        ap (λ n. take n text) (sym full) ∙ f.bytes

    pub front-of-text : (k : ℕ) → k ≤ len → take k text ≡ take k (bytes cs)
    front-of-text k le = sym (take-take k len text le) ∙ ap (take k) begins ∙ take-take k len (bytes cs) le

    pub part-of : (k n : ℕ) → k + n ≡ len → take n (drop k text) ≡ take n (drop k (bytes cs))
    part-of k n e = sym (drop-take k n text) ∙ ap (drop k) (ap (λ m. take m text) e ∙ begins ∙ ap (λ m. take m (bytes cs)) (sym e)) ∙ drop-take k n (bytes cs)

-- a header and a record that were read from the text are those of the cells
module _ {M T H : Type 0} (read : List ℕ → M) (valid : M → Bool) (size : ℕ) (read_body : List ℕ → T) (valid_body : T → Bool) {count more : ℕ} {hs : List H} {text : List ℕ} {cs : List (Cell H)} (f : IsFront (12 + size) cs count more hs text)
    (most : 12 + size ≤ count) (x : M) (y : T) (is_x : x ≡ read (take 12 text)) (is_y : y ≡ read_body (take size (drop 12 text))) where
  head : x ≡ read (take 12 (bytes cs))
  head = is_x ∙ ap read (front-of-text f most 12 (omega arith))

  body : y ≡ read_body (take size (drop 12 (bytes cs)))
  body = is_y ∙ ap read_body (part-of f most 12 size (omega arith))

  pub message-bad : (valid x && valid_body y) ≡ false → IsNoMessage (12 + size) (is_sound read valid size read_body valid_body) cs InvalidMessage
  message-bad bad = not_valid (front-long f most) (ap (λ z. valid z && valid_body (read_body (take size (drop 12 (bytes cs))))) (sym head) ∙ ap (λ z. valid x && valid_body z) (sym body) ∙ bad)

  pub message-whole : (handles : Option (Vec H Global)) → valid x ≡ true → valid_body y ≡ true → HandsOver handles hs → IsMessage read valid size read_body valid_body cs x y handles
  message-whole handles ok_x ok_y over = (head, ok_x, body, ok_y, subst (λ ys. HandsOver handles ys) f.first over)

-- so is a header alone
module _ {M H : Type 0} (read : List ℕ → M) (valid : M → Bool) {count more : ℕ} {hs : List H} {text : List ℕ} {cs : List (Cell H)} (f : IsFront 12 cs count more hs text) (most : 12 ≤ count) (x : M) (is : x ≡ read (take 12 text)) where
  pub into-head : x ≡ read (take 12 (bytes cs))
  into-head = is ∙ ap read (begins f most)

  pub into-bad : valid x ≡ false → IsNoMessage 12 (λ bs. valid (read (take 12 bs))) cs InvalidMessage
  into-bad bad = not_valid (front-long f most) (ap valid (sym into-head) ∙ bad)

pub bad-left : (a b : Bool) → a ≡ false → (a && b) ≡ false
bad-left true b e = absurd cc
bad-left false b e = refl

pub bad-right : (a b : Bool) → b ≡ false → (a && b) ≡ false
bad-right true b e = e
bad-right false b e = refl
