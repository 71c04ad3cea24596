-- A reply that is written is read again by its header, whatever follows it.
use Rattle.std.proofs.Common.{◌≡◌, ℕ, ◌+◌, ◌^◌, ◌≤◌, ◌<◌, Bool, true, not, ◌&&◌, cond, List, [], ◌++◌, length, take, drop, Result, Ok, Err, refl, ◌∙◌, ap, arith}
use Rattle.std.specs.Prelude.{◌==◌}
use Rattle.std.proofs.lemmas.Bool.{eq-eqb}
use Rattle.std.proofs.lemmas.List.{take_at, drop_at, length-append}
use Rattle.vhost_message.specs.Header.{Header, header_of, header_text}
use Rattle.vhost_protocol.specs.Stream.{Cell, bytes, plain, is_shorter}
use Rattle.vhost_protocol.specs.Error.{Error, PartialMessage, InvalidMessage}
use Rattle.vhost_protocol.specs.ReplySplit.{Received, whole_split, has_size, is_right, apart, parted, then_made, sized_split}
use Rattle.vhost_protocol.specs.Written.{Written, head_of, payload_text, written_cells}
use Rattle.vhost_protocol.proofs.SplitLaws.{le-shorter}
use Rattle.vhost_protocol.proofs.TextLaws.{header-read, flags-small, bytes-plain, length-plain}

module _ {R H : Type 0} (number_of : R → ℕ) (is_known : Header → Bool) where
  -- what is received of a message, before record and payload are told apart
  abbrev pub the_whole : Written R H → Received H
  the_whole w = record { header = head_of number_of w; body = payload_text w.payload; payload = []; handles = w.handles }

  -- behind the header
  tail : Header → List H → List (Cell H) → Result (Received H) Error × List (Cell H)
  tail h handles cells =
      cond (not (is_known h)) (Err InvalidMessage, cells)
      (cond (is_shorter h.size cells) (Err PartialMessage, []) (Ok (record { header = h; body = bytes (take h.size cells); payload = []; handles = handles }), drop h.size cells))

  whole-header : (w : Written R H) (rest : List (Cell H))
      → whole_split is_known (written_cells number_of w ++ rest) ≡ tail (header_of (header_text (head_of number_of w))) w.handles (plain (payload_text w.payload) ++ rest)
  unfolding whole_split tail
  whole-header w rest = refl

  whole-behind : (h : Header) (handles : List H) (text : List ℕ) (rest : List (Cell H)) → is_known h ≡ true → h.size ≡ length text
      → tail h handles (plain text ++ rest) ≡ (Ok (record { header = h; body = text; payload = []; handles = handles }), rest)
  unfolding tail
  whole-behind h handles text rest known size =
      ap (λ b. cond (not b) (Err InvalidMessage, cells) (cond (is_shorter h.size cells) (Err PartialMessage, []) (found (bytes (take h.size cells)) (drop h.size cells)))) known
      ∙ ap (λ n. cond (is_shorter n cells) (Err PartialMessage, []) (found (bytes (take n cells)) (drop n cells))) size
      ∙ ap (λ b. cond b (Err PartialMessage, []) (found (bytes (take (length text) cells)) (drop (length text) cells))) (le-shorter (length text) cells long)
      ∙ ap (λ x. found (bytes x) (drop (length text) cells)) (take_at (plain text) rest (length text) (length-plain H text))
      ∙ ap (λ x. found (bytes (plain {H = H} text)) x) (drop_at (plain text) rest (length text) (length-plain H text))
      ∙ ap (λ x. found x rest) (bytes-plain H text)
    where
      cells : List (Cell H)
      cells = plain text ++ rest

      long : length text ≤ length cells
      long = omega (arith, length-append (plain {H = H} text) rest, length-plain H text)

      found : List ℕ → List (Cell H) → Result (Received H) Error × List (Cell H)
      found body behind = (Ok (record { header = h; body = body; payload = []; handles = handles }), behind)

  -- a reply is read whole
  pub whole-read : (w : Written R H) (rest : List (Cell H)) → number_of w.request < 2 ^ 32 → length (payload_text w.payload) < 2 ^ 32 → is_known (head_of number_of w) ≡ true
      → whole_split is_known (written_cells number_of w ++ rest) ≡ (Ok (the_whole w), rest)
  whole-read w rest code size known =
      whole-header w rest
      ∙ ap (λ h. tail h w.handles (plain (payload_text w.payload) ++ rest)) (header-read (head_of number_of w) code (flags-small w.reply w.need_reply) size)
      ∙ whole-behind (head_of number_of w) w.handles (payload_text w.payload) rest known refl

module _ {R H : Type 0} (number_of : R → ℕ) (is_known : Header → Bool) (is_valid : List ℕ → Bool) where
  -- a message of this record, and the payload behind it, has the size of both
  pub right-size : (w : Written R H) (body more : List ℕ) → payload_text w.payload ≡ body ++ more → is_right is_known (length body) is_valid (length more) (the_whole number_of is_known w) ≡ is_valid body
  right-size w body more text =
      ap (λ b. b && is_valid (take (length body) (payload_text w.payload))) (eq-eqb (length (payload_text w.payload)) (length body + length more) (ap (λ x. length x) text ∙ length-append body more))
      ∙ ap (λ x. is_valid (take (length body) x)) text
      ∙ ap (λ x. is_valid x) (take_at body more (length body) refl)

  -- and is told apart into them
  pub apart-read : (w : Written R H) (body more : List ℕ) → payload_text w.payload ≡ body ++ more
      → apart is_known (length body) (the_whole number_of is_known w) ≡ record { header = head_of number_of w; body = body; payload = more; handles = w.handles }
  apart-read w body more text =
      ap (λ x. found (take (length body) x) (drop (length body) x)) text
      ∙ ap (λ x. found x (drop (length body) (body ++ more))) (take_at body more (length body) refl)
      ∙ ap (λ x. found body x) (drop_at body more (length body) refl)
    where
      found : List ℕ → List ℕ → Received H
      found front back = record { header = head_of number_of w; body = front; payload = back; handles = w.handles }

  -- and by its record and the payload behind it, if they have its size; one whose record is not valid is read whole, too
  pub sized-read : (w : Written R H) (body more : List ℕ) (rest : List (Cell H)) (valid : Bool) → payload_text w.payload ≡ body ++ more
      → number_of w.request < 2 ^ 32 → length (payload_text w.payload) < 2 ^ 32 → is_known (head_of number_of w) ≡ true → is_valid body ≡ valid
      → sized_split is_known (length body) is_valid (length more) (written_cells number_of w ++ rest)
      ≡ (cond valid (Ok (record { header = head_of number_of w; body = body; payload = more; handles = w.handles })) (Err InvalidMessage), rest)
  sized-read w body more rest valid text code size known is =
      ap (λ cut. then_made is_known (parted is_known (length body) is_valid (length more)) cut)
      (whole-read number_of (has_size is_known (length body + length more)) w rest code size (ap (λ b. b && length (payload_text w.payload) == length body + length more) known ∙ eq-eqb (length (payload_text w.payload)) (length body + length more) (ap (λ x. length x) text ∙ length-append body more)))
      ∙ ap (λ b. (cond b (Ok (apart is_known (length body) (the_whole number_of is_known w))) (Err InvalidMessage), rest)) (right-size w body more text ∙ is)
      ∙ ap (λ r. (cond valid (Ok r) (Err InvalidMessage), rest)) (apart-read w body more text)
