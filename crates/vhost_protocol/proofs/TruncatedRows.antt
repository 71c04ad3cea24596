-- Worked rows on streams that are truncated, or bring a stray handle: why there is no further message.
use Rattle.std.proofs.Common.{◌≡◌, ℕ, zero, suc, Bool, true, false, ◌+◌, ◌||◌, List, [], ◌∷◌, ◌++◌, replicate, take, length, Option, Some, None, Result, Ok, Err, refl}
use Rattle.std.specs.Prelude.{count_by, ◌==◌}
use Rattle.vhost_message.specs.BackendReq.{backend_request_of, backend_request_number}
use Rattle.vhost_message.specs.declared.backend_req.BackendReq.{BackendReq}
use Rattle.vhost_message.specs.declared.backend_req.BackendReq.TheVariants.{SHARED_OBJECT_ADD, SHMEM_MAP, SHMEM_UNMAP}
use Rattle.vhost_message.specs.declared.records.shmem.VhostUserMMap.{VhostUserMMap}
use Rattle.vhost_message.specs.declared.heard_req.HeardReq.{HeardReq}
use Rattle.vhost_message.specs.HeardReq.{request_of}
use Rattle.vhost_message.specs.Records.{mmap_text}
use Rattle.vhost_protocol.specs.Codes.{allows_handles}
use Rattle.vhost_protocol.specs.Error.{Error, Disconnected, PartialMessage, InvalidMessage}
use Rattle.vhost_protocol.specs.Reverse.{backend_allows_handles}
use Rattle.vhost_protocol.specs.Split.{Message, split, split_after, split_body, body_outcome}
use Rattle.vhost_protocol.specs.Stream.{Cell, cell, plain}
use Rattle.vhost_protocol.specs.Written.{Payload, ObjectName, Mapping, written_cells}

-- an error ends the stream; behind a message it goes on
on : {R : Type 0} → (List (Cell ℕ) → Option Error) → Result (Message R ℕ) Error × List (Cell ℕ) → Option Error
on again (Ok m, rest) = again rest
on again (Err e, rest) = Some e

-- why the stream ends, after at most so many messages
ending : {R : Type 0} → (List (Cell ℕ) → Result (Message R ℕ) Error × List (Cell ℕ)) → ℕ → List (Cell ℕ) → Option Error
ending cut zero cells = None
ending cut (suc n) cells = on (ending cut n) (cut cells)

-- the front of each length below n
fronts : {A : Type 0} → ℕ → List A → List (List A)
fronts zero xs = []
fronts (suc n) xs = take n xs ∷ fronts n xs

is_disconnected : Option Error → Bool
is_disconnected (Some Disconnected) = true
is_disconnected _ = false

is_partial : Option Error → Bool
is_partial (Some PartialMessage) = true
is_partial _ = false

is_invalid : Option Error → Bool
is_invalid (Some InvalidMessage) = true
is_invalid _ = false

-- how many of the fronts end so
endings : {R : Type 0} → (List (Cell ℕ) → Result (Message R ℕ) Error × List (Cell ℕ)) → List (Cell ℕ) → ℕ × ℕ × ℕ
endings cut cells =
    let all = fronts (length cells) cells in
    (count_by (λ x. is_disconnected (ending cut 9 x)) all, count_by (λ x. is_partial (ending cut 9 x)) all, count_by (λ x. is_invalid (ending cut 9 x)) all)

-- six requests of a frontend: at 0, 12, 24, 44, 56 and 76 of 88 bytes
six : List (Cell ℕ)
six = plain (
    1 ∷ 0 ∷ 0 ∷ 0 ∷ 1 ∷ replicate 7 0 ++ 3 ∷ 0 ∷ 0 ∷ 0 ∷ 1 ∷ replicate 7 0
    ++ 2 ∷ 0 ∷ 0 ∷ 0 ∷ 1 ∷ 0 ∷ 0 ∷ 0 ∷ 8 ∷ 0 ∷ 0 ∷ 0 ∷ 1 ∷ 0 ∷ 0 ∷ 0x40 ∷ 0 ∷ 0 ∷ 0 ∷ 0 ∷ []
    ++ 15 ∷ 0 ∷ 0 ∷ 0 ∷ 1 ∷ replicate 7 0
    ++ 16 ∷ 0 ∷ 0 ∷ 0 ∷ 1 ∷ 0 ∷ 0 ∷ 0 ∷ 8 ∷ 0 ∷ 0 ∷ 0 ∷ 8 ∷ replicate 7 0
    ++ 3 ∷ 0 ∷ 0 ∷ 0 ∷ 9 ∷ replicate 7 0)

six_long : length six ≡ 88
unfolding six
six_long = refl

six_truncated : endings (split request_of allows_handles) six ≡ (6, 66, 16)
unfolding endings ending on fronts is_disconnected is_partial is_invalid six split split_after split_body body_outcome
six_truncated = refl

sends : BackendReq → Payload → List ℕ → List (Cell ℕ)
sends r payload handles = written_cells backend_request_number (record { request = r; reply = false; need_reply = true; payload = payload; handles = handles })

mapping : VhostUserMMap
mapping = record { shmid = 0; padding = replicate 7 0; fd_offset = 0; shm_offset = 0; len = 4096; flags = 1 }

-- a handle on the byte at this place
with_handle : ℕ → List (Cell ℕ) → List (Cell ℕ)
with_handle n [] = []
with_handle zero (c ∷ cells) = cell c.byte (7 ∷ []) ∷ cells
with_handle (suc n) (c ∷ cells) = c ∷ with_handle n cells

-- how many bytes are left behind an invalid message, after at most so many messages
left_in : Result (Message HeardReq ℕ) Error × List (Cell ℕ) → (List (Cell ℕ) → Option ℕ) → Option ℕ
left_in (Ok m, rest) again = again rest
left_in (Err InvalidMessage, rest) again = Some (length rest)
left_in (Err e, rest) again = None

left : ℕ → List (Cell ℕ) → Option ℕ
left zero cells = None
left (suc n) cells = left_in (split request_of allows_handles cells) (left n)

-- on the first byte of a message that is allowed none: its body stays unread
is_unread : ℕ → Option ℕ → Bool
is_unread place (Some rest) = rest + 12 + place == 88
is_unread place None = false

-- in a body: that is read, and the two messages that have one end before 44 and 12 bytes
is_read : Option ℕ → Bool
is_read (Some rest) = rest == 44 || rest == 12
is_read None = false

-- behind the first byte of a header: it is dropped
is_dropped : Option ℕ → Bool
is_dropped None = true
is_dropped (Some rest) = false

places : ℕ → List ℕ
places zero = []
places (suc n) = n ∷ places n

strayed : (ℕ → Option ℕ → Bool) → ℕ
strayed test = count_by (λ place. test place (left 9 (with_handle place six))) (places 88)

unread : strayed is_unread ≡ 6
unfolding strayed places left left_in with_handle is_unread six split split_after split_body body_outcome
unread = refl

dropped : strayed (λ place o. is_dropped o) ≡ 66
unfolding strayed places left left_in with_handle is_dropped six split split_after split_body body_outcome
dropped = refl

body_read : strayed (λ place o. is_read o) ≡ 16
unfolding strayed places left left_in with_handle is_read six split split_after split_body body_outcome
body_read = refl

-- three requests of a backend, the second with a handle: at 0, 28 and 80 of 132 bytes
three : List (Cell ℕ)
three = sends SHARED_OBJECT_ADD (ObjectName (record { uuid = replicate 16 1 })) [] ++ sends SHMEM_MAP (Mapping mapping) (7 ∷ []) ++ sends SHMEM_UNMAP (Mapping mapping) []

three_long : length three ≡ 132
unfolding three sends mapping
three_long = refl

three_truncated : endings (split backend_request_of backend_allows_handles) three ≡ (3, 33, 96)
unfolding endings ending on fronts is_disconnected is_partial is_invalid three sends mapping split split_after split_body body_outcome
three_truncated = refl

-- the wrong number of handles leaves the body unread
no_handle : split backend_request_of backend_allows_handles (sends SHMEM_MAP (Mapping mapping) []) ≡ (Err InvalidMessage, plain (mmap_text mapping))
unfolding sends mapping split split_after
no_handle = refl

two_handles : split backend_request_of backend_allows_handles (sends SHMEM_MAP (Mapping mapping) (7 ∷ 8 ∷ [])) ≡ (Err InvalidMessage, plain (mmap_text mapping))
unfolding sends mapping split split_after
two_handles = refl

unwanted_handle : split backend_request_of backend_allows_handles (sends SHMEM_UNMAP (Mapping mapping) (7 ∷ [])) ≡ (Err InvalidMessage, plain (mmap_text mapping))
unfolding sends mapping split split_after
unwanted_handle = refl
