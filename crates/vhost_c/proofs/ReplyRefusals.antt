-- Which errors a reply is that came whole, and is none.
use Rattle.std.proofs.Common.{◌≡◌, ◌<◌, ◌≤◌, ◌+◌, ◌-◌, ℕ, Bool, true, false, ◌&&◌, List, [], length, take as front, drop, Result, Ok, Err, refl, subst, sym, ap, ◌∙◌, arith}
use Rattle.std.specs.Prelude.{⊤, nat_lt, if◌then◌else◌}
use Rattle.std.proofs.lemmas.Bool.{ltb-true, ltb-false}
use Rattle.vhost_message.specs.declared.limits.TheConstants.{MAX_MSG_SIZE, MSG_HEADER_SIZE}
use Rattle.vhost_message.specs.Header.{Header, header_of}
use Rattle.vhost_protocol.specs.Error.{Error, InvalidMessage, PartialMessage}
use Rattle.vhost_protocol.specs.ReplySplit.{Received, received, reply_split}
use Rattle.vhost_protocol.specs.Stream.{Cell, bytes, first_handles, is_shorter}
use Rattle.vhost_protocol.proofs.SplitLaws.{le-shorter}
use Rattle.vhost_link.specs.declared.plain.PlainHandle.{PlainHandle}
use Rattle.vhost_c_common.specs.Incoming.{missing_in}
use Rattle.vhost_c_common.specs.declared.incoming.Incoming.{Incoming}

abbrev Reply : Type 0
Reply = Received PlainHandle

abbrev Parted : Result Reply Error × List (Cell PlainHandle) → Type 0
Parted x = (e : Error) → x.0 ≡ Err e → e ≡ InvalidMessage

at-once : (r : Reply) (cells : List (Cell PlainHandle)) → Parted (Ok r, cells)
at-once r cells e is = absurd (cc is)

at-invalid : (cells : List (Cell PlainHandle)) → Parted (Err InvalidMessage, cells)
at-invalid cells e is = sym (cc is)

either : (b : Bool) (x y : Result Reply Error × List (Cell PlainHandle)) → Parted x → Parted y → Parted (if b then x else y)
either true x y p q = p
either false x y p q = q

module _ (is_known : Header → Bool) where
  received-invalid : (h : Header) (valid : List ℕ → Bool) (hs : List PlainHandle) (body : List ℕ) (n : ℕ) (cells : List (Cell PlainHandle)) → Parted (received is_known h valid hs body n cells)
  unfolding received
  received-invalid h valid hs body n cells =
      either (is_known h && valid body) (Ok (record { header = h; body = body; payload = bytes (front n cells); handles = hs }), drop n cells) (Err InvalidMessage, drop n cells) (at-once (record { header = h; body = body; payload = bytes (front n cells); handles = hs }) (drop n cells)) (at-invalid (drop n cells))

  pub cut-invalid : (size : ℕ) (valid : List ℕ → Bool) (n : ℕ) (cells : List (Cell PlainHandle)) → MSG_HEADER_SIZE + size ≤ length cells → Parted (reply_split is_known size valid n cells)
  unfolding reply_split
  cut-invalid size valid n cells many = go (is_shorter (MSG_HEADER_SIZE + size) cells) (le-shorter (MSG_HEADER_SIZE + size) cells many)
    where
      whole : Result Reply Error × List (Cell PlainHandle)
      whole = received is_known (header_of (bytes (front MSG_HEADER_SIZE cells))) valid (first_handles cells) (bytes (front size (drop MSG_HEADER_SIZE cells))) n (drop size (drop MSG_HEADER_SIZE cells))

      go : (b : Bool) → b ≡ false → Parted (if b then (Err PartialMessage, []) else whole)
      go true is = absurd (cc is)
      go false is = received-invalid (header_of (bytes (front MSG_HEADER_SIZE cells))) valid (first_handles cells) (bytes (front size (drop MSG_HEADER_SIZE cells))) n (drop size (drop MSG_HEADER_SIZE cells))

-- no byte of it is missing, whose size is told
pub whole-reply : (i : Incoming) (n : ℕ) → n ≤ MAX_MSG_SIZE → missing_in i ≡ 0 → (header_of i.head).size ≡ n → 12 + n ≤ i.count
whole-reply i n small none size = by (nat_lt i.count MSG_HEADER_SIZE) (nat_lt MAX_MSG_SIZE (header_of i.head).size) refl refl none
  where
    by : (a b : Bool) → nat_lt i.count MSG_HEADER_SIZE ≡ a → nat_lt MAX_MSG_SIZE (header_of i.head).size ≡ b → (if a then MSG_HEADER_SIZE - i.count else if b then 0 else MSG_HEADER_SIZE + (header_of i.head).size - i.count) ≡ 0 → 12 + n ≤ i.count
    by true b few long zero = let short : i.count < 12 = ltb-true i.count 12 few in absurd (omega (arith, short, zero))
    by false true far long zero = let big : MAX_MSG_SIZE < (header_of i.head).size = ltb-true MAX_MSG_SIZE (header_of i.head).size long in absurd (omega (arith, big, small, size))
    by false false far long zero = let whole : MSG_HEADER_SIZE + (header_of i.head).size - i.count ≡ 0 = zero in omega (arith, whole, size)
