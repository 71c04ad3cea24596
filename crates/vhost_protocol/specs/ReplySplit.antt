-- How the side that asked reads the reply from its stream.
use Rattle.std.specs.Prelude.{ℕ, ◌+◌, Bool, not, ◌&&◌, ◌||◌, List, [], take, drop, Option, Some, None, Result, Ok, Err, if◌then◌else◌, ◌==◌}
use Rattle.vhost_message.specs.declared.limits.TheConstants.{MSG_HEADER_SIZE}
use Rattle.vhost_message.specs.Header.{Header, header_of}
use Rattle.vhost_message.specs.Text.{number_at}
use Rattle.vhost_protocol.specs.declared.profile.Profile.{Profile}
use Rattle.vhost_protocol.specs.declared.profile.Profile.TheVariants.{Vhost, Standard}
use Rattle.vhost_protocol.specs.Error.{Error, PartialMessage, InvalidMessage}
use Rattle.vhost_protocol.specs.Stream.{Cell, bytes, first_handles, has_some, is_shorter}

-- a reply: its header, the bytes of its record, the payload behind it, and the handles on its first byte
pub record Received (H : Type 0) : Type 0 where
  pub header : Header
  pub body : List ℕ
  pub payload : List ℕ
  pub handles : List H

-- is_known says which headers are valid
module _ {H : Type 0} (is_known : Header → Bool) where
  -- behind a header and a record: as much payload as there is room for, then the test of both
  unfoldable pub received : Header → (List ℕ → Bool) → List H → List ℕ → ℕ → List (Cell H) → Result (Received H) Error × List (Cell H)
  received h is_valid handles body room cells =
      if is_known h && is_valid body
      then (Ok (record { header = h; body = body; payload = bytes (take room cells); handles = handles }), drop room cells)
      else (Err InvalidMessage, drop room cells)

  -- The reply at the front of a stream, with a record of so many bytes and room for so much payload. The size in the header is not compared, and handles on later bytes are dropped.
  unfoldable pub reply_split : (size : ℕ) → (List ℕ → Bool) → (room : ℕ) → List (Cell H) → Result (Received H) Error × List (Cell H)
  reply_split size is_valid room cells =
      if is_shorter (MSG_HEADER_SIZE + size) cells then (Err PartialMessage, [])
      else received (header_of (bytes (take MSG_HEADER_SIZE cells))) is_valid (first_handles cells) (bytes (take size (drop MSG_HEADER_SIZE cells))) room (drop size (drop MSG_HEADER_SIZE cells))

  -- a reply with configuration bytes may be bare: the record of twelve bytes alone, without handles, and with a record that says size 0
  abbrev pub is_bare_reply : (Header → Bool) → List (Cell H) → Bool
  is_bare_reply answers cells =
      let h = header_of (bytes (take MSG_HEADER_SIZE cells)) in
      is_known h && answers h && h.size == 12 && not (has_some (first_handles cells)) && number_at 4 4 (bytes (take 12 (drop MSG_HEADER_SIZE cells))) == 0

  -- what was received, where a bare reply might have been
  abbrev pub not_bare : Result (Received H) Error × List (Cell H) → Result (Option (Received H)) Error × List (Cell H)
  not_bare (Ok r, rest) = (Ok (Some r), rest)
  not_bare (Err e, rest) = (Err e, rest)

  -- A reply with configuration bytes, or None for a bare one, for a request that answers decides on.
  unfoldable pub bare_or_reply : (Header → Bool) → (List ℕ → Bool) → (room : ℕ) → List (Cell H) → Result (Option (Received H)) Error × List (Cell H)
  bare_or_reply answers is_valid room cells =
      if is_shorter (MSG_HEADER_SIZE + 12) cells then (Err PartialMessage, [])
      else if is_bare_reply answers cells then (Ok None, drop (MSG_HEADER_SIZE + 12) cells)
      else not_bare (reply_split 12 is_valid room cells)

  -- ---- under Standard a reply is read by its header

  -- A whole reply: a header, and as many bytes as that announces. Behind a header that is not known nothing is read.
  unfoldable pub whole_split : List (Cell H) → Result (Received H) Error × List (Cell H)
  whole_split cells =
      let h = header_of (bytes (take MSG_HEADER_SIZE cells)) in
      let behind = drop MSG_HEADER_SIZE cells in
      if is_shorter MSG_HEADER_SIZE cells then (Err PartialMessage, [])
      else if not (is_known h) then (Err InvalidMessage, behind)
      else if is_shorter h.size behind then (Err PartialMessage, [])
      else (Ok (record { header = h; body = bytes (take h.size behind); payload = []; handles = first_handles cells }), drop h.size behind)

-- of the headers that are known those that announce this size
abbrev pub has_size : (Header → Bool) → ℕ → Header → Bool
has_size is_known size h = is_known h && h.size == size

-- those that announce nothing, a record of configuration bytes alone, or one with so many bytes behind it
abbrev pub has_config_size : (Header → Bool) → (room : ℕ) → Header → Bool
has_config_size is_known room h = is_known h && (h.size == 0 || h.size == 12 || h.size == 12 + room)

-- is_known says which headers are valid
module _ {H : Type 0} (is_known : Header → Bool) where
  -- it has a valid record of so many bytes, and behind that as much payload as there is room for
  abbrev pub is_right : (size : ℕ) → (List ℕ → Bool) → (room : ℕ) → Received H → Bool
  is_right size is_valid room r = r.header.size == size + room && is_valid (take size r.body)

  -- its record, and the payload behind it
  abbrev pub apart : (size : ℕ) → Received H → Received H
  apart size r = record r { body = take size r.body; payload = drop size r.body }

  -- what is made of a whole reply; with a record that is not valid it is refused
  abbrev pub parted : (size : ℕ) → (List ℕ → Bool) → (room : ℕ) → Received H → Result (Received H) Error
  parted size is_valid room r = if is_right size is_valid room r then Ok (apart size r) else Err InvalidMessage

  -- what was received, and what is made of it
  abbrev pub then_made : {A : Type 0} → (Received H → Result A Error) → Result (Received H) Error × List (Cell H) → Result A Error × List (Cell H)
  then_made make (Ok r, rest) = (make r, rest)
  then_made make (Err e, rest) = (Err e, rest)

  -- The reply at the front of a stream, read whole: so the next one stands at its place also where the record of this one is refused. One of another size is refused at its header: what it announces may never come.
  abbrev pub sized_split : (size : ℕ) → (List ℕ → Bool) → (room : ℕ) → List (Cell H) → Result (Received H) Error × List (Cell H)
  sized_split size is_valid room cells = then_made (parted size is_valid room) (whole_split (has_size is_known (size + room)) cells)

  -- a reply that says that there are no such configuration bytes: without a body, or bare
  abbrev pub is_empty_reply : (Header → Bool) → Received H → Bool
  is_empty_reply answers r = answers r.header && not (has_some r.handles) && (r.header.size == 0 || r.header.size == 12 && number_at 4 4 r.body == 0)

  -- a reply with configuration bytes, or None for one that has none
  abbrev pub parted_or_none : (Header → Bool) → (List ℕ → Bool) → (room : ℕ) → Received H → Result (Option (Received H)) Error
  parted_or_none answers is_valid room r =
      if is_empty_reply answers r then Ok None else if is_right 12 is_valid room r then Ok (Some (apart 12 r)) else Err InvalidMessage

  -- the same at the front of a stream, read whole
  abbrev pub sized_or_none : (Header → Bool) → (List ℕ → Bool) → (room : ℕ) → List (Cell H) → Result (Option (Received H)) Error × List (Cell H)
  sized_or_none answers is_valid room cells = then_made (parted_or_none answers is_valid room) (whole_split (has_config_size is_known room) cells)

  -- ---- by the profile of the side that asked

  -- a reply with a record of so many bytes, and room for so much payload
  abbrev pub split_by : Profile → (size : ℕ) → (List ℕ → Bool) → (room : ℕ) → List (Cell H) → Result (Received H) Error × List (Cell H)
  split_by Vhost size is_valid room cells = reply_split is_known size is_valid room cells
  split_by Standard size is_valid room cells = sized_split size is_valid room cells

  -- a reply that may have any size under Standard
  abbrev pub any_by : Profile → (size : ℕ) → (List ℕ → Bool) → List (Cell H) → Result (Received H) Error × List (Cell H)
  any_by Vhost size is_valid cells = reply_split is_known size is_valid 0 cells
  any_by Standard size is_valid cells = whole_split is_known cells

  -- a reply with configuration bytes, or None for one that has none
  abbrev pub config_by : Profile → (Header → Bool) → (List ℕ → Bool) → (room : ℕ) → List (Cell H) → Result (Option (Received H)) Error × List (Cell H)
  config_by Vhost answers is_valid room cells = bare_or_reply is_known answers is_valid room cells
  config_by Standard answers is_valid room cells = sized_or_none answers is_valid room cells
