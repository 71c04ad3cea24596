-- A reply that is written is read again, whatever follows it.
use Rattle.std.proofs.Common.{◌≡◌, ℕ, ◌+◌, ◌^◌, ◌≤◌, ◌<◌, Bool, true, false, ◌&&◌, cond, List, [], ◌∷◌, ◌++◌, length, take, drop, Option, None, Result, Ok, Err, refl, ◌∙◌, ap, arith}
use Rattle.std.proofs.lemmas.List.{take_at, drop_at, drop_all, append_assoc, length-append, length-drop}
use Rattle.vhost_message.specs.Header.{Header, header_of, header_text}
use Rattle.vhost_protocol.specs.Stream.{Cell, cell, bytes, plain, first_handles, is_shorter}
use Rattle.vhost_protocol.specs.Error.{Error, PartialMessage, InvalidMessage}
use Rattle.vhost_protocol.specs.ReplySplit.{Received, received, reply_split, is_bare_reply, not_bare, bare_or_reply}
use Rattle.vhost_protocol.specs.Written.{Written, head_of, payload_text, written_cells}
use Rattle.vhost_protocol.proofs.SplitLaws.{le-shorter}
use Rattle.vhost_protocol.proofs.TextLaws.{header-read, flags-small, bytes-plain, length-plain}

pub plain-append : (H : Type 0) (bs more : List ℕ) → plain {H = H} (bs ++ more) ≡ plain bs ++ plain more
plain-append H [] more = refl
plain-append H (b ∷ bs) more = ap (λ x. cell b [] ∷ x) (plain-append H bs more)

-- ---- so short a stream is read whole

module _ {H : Type 0} (is_known : Header → Bool) where
  received-rest : (h : Header) (is_valid : List ℕ → Bool) (handles : List H) (body : List ℕ) (room : ℕ) (cells : List (Cell H)) → length cells ≤ room → (received is_known h is_valid handles body room cells).1 ≡ []
  unfolding received
  received-rest h is_valid handles body room cells few = go (is_known h && is_valid body)
    where
      go : (b : Bool) → (cond {A = Result (Received H) Error × List (Cell H)} b (Ok (record { header = h; body = body; payload = bytes (take room cells); handles = handles }), drop room cells) (Err InvalidMessage, drop room cells)).1 ≡ []
      go true = drop_all room cells few
      go false = drop_all room cells few

  -- a reply, where no more than its header, its record and the payload are there
  pub reply-rest : (size : ℕ) (is_valid : List ℕ → Bool) (room : ℕ) (cells : List (Cell H)) → length cells ≤ 12 + size + room → (reply_split is_known size is_valid room cells).1 ≡ []
  unfolding reply_split
  reply-rest size is_valid room cells few = go (is_shorter (12 + size) cells)
    where
      behind : length (drop size (drop 12 cells)) ≤ room
      behind = omega (arith, length-drop size (drop 12 cells), length-drop 12 cells)

      whole : Result (Received H) Error × List (Cell H)
      whole = received is_known (header_of (bytes (take 12 cells))) is_valid (first_handles cells) (bytes (take size (drop 12 cells))) room (drop size (drop 12 cells))

      go : (b : Bool) → (cond b (Err PartialMessage, []) whole).1 ≡ []
      go true = refl
      go false = received-rest (header_of (bytes (take 12 cells))) is_valid (first_handles cells) (bytes (take size (drop 12 cells))) room (drop size (drop 12 cells)) behind

  not-bare-rest : (x : Result (Received H) Error × List (Cell H)) → (not_bare is_known x).1 ≡ x.1
  not-bare-rest (Ok r, rest) = refl
  not-bare-rest (Err e, rest) = refl

  choose : (answers : Header → Bool) (is_valid : List ℕ → Bool) (room : ℕ) (cells : List (Cell H)) (bare : Bool) → Result (Option (Received H)) Error × List (Cell H)
  choose answers is_valid room cells bare = cond bare (Ok None, drop 24 cells) (not_bare is_known (reply_split is_known 12 is_valid room cells))

  -- a reply that may be bare, where no more than its header and its record are there
  pub bare-rest : (answers : Header → Bool) (is_valid : List ℕ → Bool) (room : ℕ) (cells : List (Cell H)) → length cells ≤ 24 → (bare_or_reply is_known answers is_valid room cells).1 ≡ []
  unfolding bare_or_reply choose
  bare-rest answers is_valid room cells few = go (is_shorter 24 cells)
    where
      bare : (b : Bool) → (choose answers is_valid room cells b).1 ≡ []
      bare true = drop_all 24 cells few
      bare false = not-bare-rest (reply_split is_known 12 is_valid room cells) ∙ reply-rest 12 is_valid room cells (omega arith)

      go : (b : Bool) → (cond b (Err PartialMessage, []) (choose answers is_valid room cells (is_bare_reply is_known answers cells))).1 ≡ []
      go true = refl
      go false = bare (is_bare_reply is_known answers cells)

  -- one that is not bare is read as any other
  pub whole-rest : (answers : Header → Bool) (is_valid : List ℕ → Bool) (room : ℕ) (cells : List (Cell H)) → is_bare_reply is_known answers cells ≡ false
      → (reply_split is_known 12 is_valid room cells).1 ≡ [] → (bare_or_reply is_known answers is_valid room cells).1 ≡ []
  unfolding bare_or_reply choose
  whole-rest answers is_valid room cells no_bare nothing = go (is_shorter 24 cells)
    where
      go : (b : Bool) → (cond b (Err PartialMessage, []) (choose answers is_valid room cells (is_bare_reply is_known answers cells))).1 ≡ []
      go true = refl
      go false = ap (λ b. (choose answers is_valid room cells b).1) no_bare ∙ not-bare-rest (reply_split is_known 12 is_valid room cells) ∙ nothing

-- ---- what was written is read

module _ {R H : Type 0} (number_of : R → ℕ) (is_known : Header → Bool) (is_valid : List ℕ → Bool) where
  -- behind the header
  tail : Header → List H → ℕ → ℕ → List (Cell H) → Result (Received H) Error × List (Cell H)
  tail h handles size room cells = received is_known h is_valid handles (bytes (take size cells)) room (drop size cells)

  reply-header : (w : Written R H) (size room : ℕ) (rest : List (Cell H)) → 12 + size ≤ length (written_cells number_of w ++ rest)
      → reply_split is_known size is_valid room (written_cells number_of w ++ rest)
      ≡ tail (header_of (header_text (head_of number_of w))) w.handles size room (plain (payload_text w.payload) ++ rest)
  unfolding reply_split tail
  reply-header w size room rest long = rw (le-shorter (12 + size) (written_cells number_of w ++ rest) long) refl

  reply-payload : (h : Header) (handles : List H) (body more : List ℕ) (rest : List (Cell H)) → is_known h ≡ true → is_valid body ≡ true
      → received is_known h is_valid handles body (length more) (plain more ++ rest) ≡ (Ok (record { header = h; body = body; payload = more; handles = handles }), rest)
  unfolding received
  reply-payload h handles body more rest known valid =
      ap (λ b. cond (b && is_valid body) (found (bytes (take (length more) cells)) (drop (length more) cells)) (Err InvalidMessage, drop (length more) cells)) known
      ∙ ap (λ b. cond b (found (bytes (take (length more) cells)) (drop (length more) cells)) (Err InvalidMessage, drop (length more) cells)) valid
      ∙ ap (λ x. found (bytes x) (drop (length more) cells)) (take_at (plain more) rest (length more) (length-plain H more))
      ∙ ap (λ x. found (bytes (plain {H = H} more)) x) (drop_at (plain more) rest (length more) (length-plain H more))
      ∙ ap (λ x. found x rest) (bytes-plain H more)
    where
      cells : List (Cell H)
      cells = plain more ++ rest

      found : List ℕ → List (Cell H) → Result (Received H) Error × List (Cell H)
      found payload behind = (Ok (record { header = h; body = body; payload = payload; handles = handles }), behind)

  reply-behind : (h : Header) (handles : List H) (body more : List ℕ) (rest : List (Cell H)) → is_known h ≡ true → is_valid body ≡ true
      → tail h handles (length body) (length more) (plain body ++ (plain more ++ rest))
      ≡ (Ok (record { header = h; body = body; payload = more; handles = handles }), rest)
  unfolding tail
  reply-behind h handles body more rest known valid =
      ap (λ x. received is_known h is_valid handles (bytes x) (length more) (drop (length body) (plain body ++ (plain more ++ rest)))) (take_at (plain body) (plain more ++ rest) (length body) (length-plain H body))
      ∙ ap (λ x. received is_known h is_valid handles (bytes (plain {H = H} body)) (length more) x) (drop_at (plain body) (plain more ++ rest) (length body) (length-plain H body))
      ∙ ap (λ x. received is_known h is_valid handles x (length more) (plain more ++ rest)) (bytes-plain H body)
      ∙ reply-payload h handles body more rest known valid

  reply-refused : (h : Header) (handles : List H) (body more : List ℕ) (rest : List (Cell H)) → is_known h ≡ true → is_valid body ≡ false
      → tail h handles (length body) (length more) (plain body ++ (plain more ++ rest)) ≡ (Err InvalidMessage, rest)
  unfolding tail received
  reply-refused h handles body more rest known valid =
      ap (λ x. received is_known h is_valid handles (bytes x) (length more) (drop (length body) (plain body ++ (plain more ++ rest)))) (take_at (plain body) (plain more ++ rest) (length body) (length-plain H body))
      ∙ ap (λ x. received is_known h is_valid handles (bytes (plain {H = H} body)) (length more) x) (drop_at (plain body) (plain more ++ rest) (length body) (length-plain H body))
      ∙ ap (λ x. received is_known h is_valid handles x (length more) (plain more ++ rest)) (bytes-plain H body)
      ∙ ap (λ b. cond (b && is_valid body) (found (bytes (take (length more) cells)) (drop (length more) cells)) (Err InvalidMessage, drop (length more) cells)) known
      ∙ ap (λ b. cond b (found (bytes (take (length more) cells)) (drop (length more) cells)) (Err InvalidMessage, drop (length more) cells)) valid
      ∙ ap (λ x. (Err InvalidMessage, x)) (drop_at (plain more) rest (length more) (length-plain H more))
    where
      cells : List (Cell H)
      cells = plain more ++ rest

      found : List ℕ → List (Cell H) → Result (Received H) Error × List (Cell H)
      found payload behind = (Ok (record { header = h; body = body; payload = payload; handles = handles }), behind)

  -- the cut of a reply, by its record and the payload behind it
  reply-parts : (w : Written R H) (body more : List ℕ) (rest : List (Cell H)) → payload_text w.payload ≡ body ++ more
      → number_of w.request < 2 ^ 32 → length (payload_text w.payload) < 2 ^ 32
      → reply_split is_known (length body) is_valid (length more) (written_cells number_of w ++ rest)
      ≡ tail (head_of number_of w) w.handles (length body) (length more) (plain body ++ (plain more ++ rest))
  reply-parts w body more rest text code size =
      let long : 12 + length body ≤ length (written_cells number_of w ++ rest) = lengths in
      reply-header w (length body) (length more) rest long
      ∙ ap (λ h. tail h w.handles (length body) (length more) (plain (payload_text w.payload) ++ rest))
      (header-read (head_of number_of w) code (flags-small w.reply w.need_reply) size)
      ∙ ap (λ cells. tail (head_of number_of w) w.handles (length body) (length more) cells) cells
    where
      cells : plain (payload_text w.payload) ++ rest ≡ plain body ++ (plain more ++ rest)
      cells = ap (λ x. plain x ++ rest) text ∙ ap (λ x. x ++ rest) (plain-append H body more) ∙ append_assoc (plain body) (plain more) rest

      lengths : 12 + length body ≤ length (written_cells number_of w ++ rest)
      lengths = omega (arith, ap (λ x. length x) cells, length-append (plain {H = H} body) (plain more ++ rest), length-plain H body)

  -- a reply is read by its record and the payload behind it
  pub reply-read : (w : Written R H) (body more : List ℕ) (rest : List (Cell H)) → payload_text w.payload ≡ body ++ more
      → number_of w.request < 2 ^ 32 → length (payload_text w.payload) < 2 ^ 32 → is_known (head_of number_of w) ≡ true → is_valid body ≡ true
      → reply_split is_known (length body) is_valid (length more) (written_cells number_of w ++ rest)
      ≡ (Ok (record { header = head_of number_of w; body = body; payload = more; handles = w.handles }), rest)
  reply-read w body more rest text code size known valid =
      reply-parts w body more rest text code size ∙ reply-behind (head_of number_of w) w.handles body more rest known valid

  -- one whose record is not valid is read as far
  pub reply-invalid : (w : Written R H) (body more : List ℕ) (rest : List (Cell H)) → payload_text w.payload ≡ body ++ more
      → number_of w.request < 2 ^ 32 → length (payload_text w.payload) < 2 ^ 32 → is_known (head_of number_of w) ≡ true → is_valid body ≡ false
      → reply_split is_known (length body) is_valid (length more) (written_cells number_of w ++ rest) ≡ (Err InvalidMessage, rest)
  reply-invalid w body more rest text code size known valid =
      reply-parts w body more rest text code size ∙ reply-refused (head_of number_of w) w.handles body more rest known valid
