-- How a stream is cut into messages ("Message Specification").
use Rattle.std.specs.Prelude.{◌≡◌, ℕ, Bool, true, false, List, [], ◌∷◌, ◌++◌, take, drop, length, Option, Some, None, Result, Ok, Err, if◌then◌else◌}
use Rattle.vhost_message.specs.declared.limits.TheConstants.{MSG_HEADER_SIZE}
use Rattle.vhost_message.specs.Bits.{has_bit}
use Rattle.vhost_message.specs.Header.{Header, header_of, is_valid_header}
use Rattle.vhost_protocol.specs.Error.{Error, Disconnected, PartialMessage, InvalidMessage}
use Rattle.vhost_protocol.specs.Stream.{Cell, bytes, brings_handles, is_shorter}

-- a message: its request, the flags REPLY and NEED_REPLY, the body, and the handles on its first byte
pub record Message (R H : Type 0) : Type 0 where
  pub request : R
  pub reply : Bool
  pub need_reply : Bool
  pub body : List ℕ
  pub handles : List H

-- the request that a header announces, where the header is valid ("Header")
abbrev pub announced : {R : Type 0} → (ℕ → Option R) → Header → Option R
announced request_of h = if is_valid_header h then request_of h.code else None

-- request_of gives the request of a number, allows_handles says with how many handles a request may come
module _ {R H : Type 0} (request_of : ℕ → Option R) (allows_handles : R → ℕ → Bool) where
  -- what a header with allowed handles makes of its body: a message, if no byte of the body brings a handle
  unfoldable pub body_outcome : R → Header → List H → List (Cell H) → Result (Message R H) Error
  body_outcome r h handles cells =
      if brings_handles cells then Err InvalidMessage
      else Ok (record { request = r; reply = has_bit h.flags 2; need_reply = has_bit h.flags 3; body = bytes cells; handles = handles })

  -- after a header with allowed handles: the whole body, if it is there
  unfoldable pub split_body : R → Header → List H → List (Cell H) → Result (Message R H) Error × List (Cell H)
  split_body r h handles cells =
      if is_shorter h.size cells then (Err InvalidMessage, []) else (body_outcome r h handles (take h.size cells), drop h.size cells)

  -- after a header, and what they announce: where it is nothing, or with handles that are not allowed, the body stays unread
  unfoldable pub split_after : Header → Option R → List H → List (Cell H) → Result (Message R H) Error × List (Cell H)
  split_after h None handles cells = (Err InvalidMessage, cells)
  split_after h (Some r) handles cells =
      if allows_handles r (length handles) then split_body r h handles cells else (Err InvalidMessage, cells)

  -- the first message of a whole stream, or why there is none; and the rest of the stream
  unfoldable pub split : List (Cell H) → Result (Message R H) Error × List (Cell H)
  split [] = (Err Disconnected, [])
  split (c ∷ cells) =
      let stream = c ∷ cells in
      let h = header_of (bytes (take MSG_HEADER_SIZE stream)) in
      if is_shorter MSG_HEADER_SIZE stream then (Err PartialMessage, []) else split_after h (announced request_of h) c.handles (drop MSG_HEADER_SIZE stream)

-- What was read of a stream has this outcome, up to its end where that was told. Either the end was needed:
-- whatever byte had come next would have been read, too. Or what follows makes no difference.
abbrev pub Splits : {A H : Type 0} → (List (Cell H) → A × List (Cell H)) → List (Cell H) → (ended : Bool) → A → Type 0
Splits {H = H} cut consumed true outcome = (cut consumed ≡ (outcome, [])) × ((next : Cell H) → (cut (consumed ++ next ∷ [])).1 ≡ [])
Splits {H = H} cut consumed false outcome = (rest : List (Cell H)) → cut (consumed ++ rest) ≡ (outcome, rest)
