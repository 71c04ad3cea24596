-- What a frontend makes of the bytes that come back.
use Rattle.std.specs.Prelude.{ℕ, ◌+◌, ◌*◌, ◌/◌, Bool, true, ◌&&◌, List, [], ◌∷◌, length, Option, Some, None, Result, Ok, Err, is_some, if◌then◌else◌, ◌==◌}
use Rattle.vhost_message.specs.declared.limits.TheConstants.{MEMORY_HEAD_SIZE, MEMORY_REGION_SIZE}
use Rattle.vhost_message.specs.Bits.{has_bit}
use Rattle.vhost_message.specs.HeardReq.{request_of}
use Rattle.vhost_message.specs.Header.{Header, is_reply_for}
use Rattle.vhost_message.specs.Records.{u64_at, memory_of, regions_of, single_region_of, shmem_config_of, vring_state_of, config_of, inflight_of, log_of}
use Rattle.vhost_message.specs.Valid.{is_valid_memory, is_valid_config, is_valid_inflight, is_valid_log}
use Rattle.vhost_protocol.specs.AnswerTable.{Answered, answered, answer}
use Rattle.vhost_protocol.specs.declared.asked.Shape.{Shape}
use Rattle.vhost_protocol.specs.declared.asked.Awaited.{Awaited}
use Rattle.vhost_protocol.specs.declared.asked.Awaited.TheVariants.{Nobody, Ack, Reply}
use Rattle.vhost_protocol.specs.declared.asked.Shape.TheVariants as shape
use Rattle.vhost_protocol.specs.Error.{Error, InvalidParam, InvalidMessage, BackendInternalError}
use Rattle.vhost_protocol.specs.FrontendCall.{FrontendCall, SetMemTable, GetConfig, Frontend}
use Rattle.vhost_protocol.specs.declared.profile.Profile.{Profile}
use Rattle.vhost_protocol.specs.ReplySplit.{Received, split_by, any_by, config_by}
use Rattle.vhost_protocol.specs.Served.{Silent, Acknowledged, Replied}
use Rattle.vhost_protocol.specs.Split.{announced}
use Rattle.vhost_protocol.specs.Stream.{Cell}
use Rattle.vhost_protocol.specs.Written.{Payload, Empty, U64, Regions, OneRegion, Shmem, RingState, ConfigBytes, InflightArea, LogArea}

-- how many bytes the record of a reply has
abbrev pub record_size : Shape → ℕ
record_size shape.Empty = 0
record_size shape.U64 = 8
record_size shape.Memory = MEMORY_HEAD_SIZE
record_size shape.SingleMemoryRegion = 40
record_size shape.ShMemConfig = 2056
record_size shape.VringState = 8
record_size shape.Config = 12
record_size shape.Inflight = 24
record_size shape.Log = 16

-- which records of a reply are valid
abbrev pub is_valid_record : Shape → List ℕ → Bool
is_valid_record shape.Memory bs = is_valid_memory (memory_of bs)
is_valid_record shape.Config bs = is_valid_config (config_of bs)
is_valid_record shape.Inflight bs = is_valid_inflight (inflight_of bs)
is_valid_record shape.Log bs = is_valid_log (log_of bs)
is_valid_record _ bs = true

-- what the bytes say
abbrev pub payload_of : Shape → List ℕ → List ℕ → Payload
payload_of shape.Empty bs more = Empty
payload_of shape.U64 bs more = U64 (u64_at 0 bs)
payload_of shape.Memory bs more = Regions (regions_of (length more / MEMORY_REGION_SIZE) more)
payload_of shape.SingleMemoryRegion bs more = OneRegion (single_region_of bs)
payload_of shape.ShMemConfig bs more = Shmem (shmem_config_of bs)
payload_of shape.VringState bs more = RingState (vring_state_of bs)
payload_of shape.Config bs more = ConfigBytes (config_of bs) more
payload_of shape.Inflight bs more = InflightArea (inflight_of bs)
payload_of shape.Log bs more = LogArea (log_of bs)

-- how much may come behind the record
abbrev pub room : {H : Type 0} → FrontendCall H → ℕ
room (SetMemTable infos) = MEMORY_REGION_SIZE * length infos
room (GetConfig offset size flags buffer) = length buffer
room _ = 0

-- where the header's size is compared: a table has as many regions as were sent, configuration bytes fill the buffer
abbrev pub is_sized : {H : Type 0} → FrontendCall H → Received H → Bool
is_sized (SetMemTable infos) r =
    r.header.size == MEMORY_HEAD_SIZE + MEMORY_REGION_SIZE * length infos && (memory_of r.body).num_regions == length infos
    && length r.payload == MEMORY_REGION_SIZE * length infos
is_sized (GetConfig offset size flags buffer) r = r.header.size == 12 + length buffer && length r.payload == length buffer
is_sized _ r = true

-- a valid header of this channel
abbrev pub is_known : Header → Bool
is_known h = is_some (announced request_of h)

-- the header of a reply answers the one that was sent
abbrev pub answers : Header → Header → Bool
answers sent reply = is_reply_for request_of reply sent

-- How a reply of a shape is read. That of the log may have any size under Standard, since real handlers send what they like.
abbrev pub reply_cut : {H : Type 0} → Shape → Profile → (room : ℕ) → List (Cell H) → Result (Received H) Error × List (Cell H)
reply_cut shape.Log profile room cells = any_by is_known profile (record_size shape.Log) (is_valid_record shape.Log) cells
reply_cut shape profile room cells = split_by is_known profile (record_size shape) (is_valid_record shape) room cells

-- the same of configuration bytes, or None where there are none
abbrev pub config_cut : {H : Type 0} → Profile → (sent : Header) → (room : ℕ) → List (Cell H) → Result (Option (Received H)) Error × List (Cell H)
config_cut profile sent room cells = config_by is_known profile (answers sent) (is_valid_record shape.Config) room cells

-- an acknowledgement says 0 for success, and has no handle
abbrev pub understood_ack : {H : Type 0} → FrontendCall H → Frontend → Received H → Option (Answered H)
understood_ack call f r = if length r.handles == 0 then answer call Ack f (Acknowledged (u64_at 0 r.body == 0)) else Some (answered f (Err InvalidMessage))

-- what was received, read as what is awaited
abbrev pub understood : {H : Type 0} → FrontendCall H → Awaited → (sent : Header) → Frontend → Result (Received H) Error → Option (Answered H)
understood call awaited sent f (Err e) = Some (answered f (Err e))
understood call Nobody sent f (Ok r) = None
understood call Ack sent f (Ok r) = if answers sent r.header then understood_ack call f r else Some (answered f (Err InvalidMessage))
understood call (Reply shape) sent f (Ok r) =
    if answers sent r.header && is_sized call r then answer call (Reply shape) f (Replied (payload_of shape r.body r.payload) r.handles)
    else Some (answered f (Err InvalidMessage))

-- what was received of configuration bytes
abbrev pub understood_config : {H : Type 0} → FrontendCall H → (sent : Header) → Frontend → Result (Option (Received H)) Error → Option (Answered H)
understood_config call sent f (Ok (Some r)) = understood call (Reply shape.Config) sent f (Ok r)
understood_config call sent f (Ok None) = Some (answered f (Err BackendInternalError))
understood_config call sent f (Err e) = Some (answered f (Err e))

-- the reply to `get_config`, perhaps a bare one; into an empty buffer nothing is read
abbrev pub take_config : {H : Type 0} → FrontendCall H → (buffer : List ℕ) → (sent : Header) → Frontend → List (Cell H) → Option (Answered H) × List (Cell H)
take_config call [] sent f cells = (Some (answered f (Err InvalidParam)), cells)
take_config call (b ∷ buffer) sent f cells =
    let cut = config_cut f.profile sent (length (b ∷ buffer)) cells in
    (understood_config call sent f cut.0, cut.1)

-- a reply of a shape
abbrev pub take_reply : {H : Type 0} → FrontendCall H → Shape → (sent : Header) → Frontend → List (Cell H) → Option (Answered H) × List (Cell H)
take_reply (GetConfig offset size flags buffer) shape sent f cells = take_config (GetConfig offset size flags buffer) buffer sent f cells
take_reply call shape sent f cells =
    let cut = reply_cut shape f.profile (room call) cells in
    (understood call (Reply shape) sent f cut.0, cut.1)

-- The caller's answer and the rest of the stream, from what is awaited and the header that was sent. One that was sent with REPLY has no reply.
abbrev pub take : {H : Type 0} → FrontendCall H → Awaited → (sent : Header) → Frontend → List (Cell H) → Option (Answered H) × List (Cell H)
take call Nobody sent f cells = (answer call Nobody f Silent, cells)
take call Ack sent f cells =
    let cut = reply_cut shape.U64 f.profile 0 cells in
    (understood call Ack sent f cut.0, cut.1)
take call (Reply shape) sent f cells =
    if has_bit sent.flags 2 then (Some (answered f (Err InvalidParam)), cells) else take_reply call shape sent f cells
