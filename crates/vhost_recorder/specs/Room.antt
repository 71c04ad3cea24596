-- Room for one answer.
use Rattle.std.specs.Prelude.{◌≡◌, ◌≤◌, ℕ, [], Option, Some, None, Result, vec_len, vec_capacity}
use Rattle.vhost_protocol.specs.Error.{Error}
use Rattle.vhost_protocol.specs.FrontendCall.{FrontendCall, Value}
use Rattle.vhost_link.specs.declared.plain.PlainHandle.{PlainHandle}
use Rattle.vhost_joined.specs.Lists.{bases_in, bytes_in, records_in, regions_in, buffer_in, records_for}
use Rattle.vhost_recorder.specs.declared.copying.answers.Room.{Room}

-- nothing is in it yet
abbrev pub IsEmpty : Room → Type 0
IsEmpty room = (vec_len room.bases ≡ 0) × (room.bases.items ≡ []) × (vec_len room.bytes ≡ 0) × (room.bytes.items ≡ [])

-- for how many records of shared memory there is a place
abbrev pub places_in : {A : Type 0} → Option A → ℕ
places_in (Some place) = 1
places_in None = 0

-- for whatever a call may answer
abbrev pub HasRoomFor : Room → FrontendCall PlainHandle → Type 0
HasRoomFor room call = IsEmpty room × (regions_in call ≤ vec_capacity room.bases) × (buffer_in call ≤ vec_capacity room.bytes) × (records_for call ≤ places_in room.place)

-- for this answer
abbrev pub Holds : Room → Result (Value PlainHandle) Error → Type 0
Holds room result = IsEmpty room × (bases_in result ≤ vec_capacity room.bases) × (bytes_in result ≤ vec_capacity room.bytes) × (records_in result ≤ places_in room.place)
