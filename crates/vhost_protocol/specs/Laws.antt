-- Laws of the definitions. Functions without a body, in `src/laws`, have them as contracts.
use Rattle.std.specs.Prelude.{◌≡◌, ℕ, ◌+◌, ◌^◌, ◌<◌, ◌≤◌, ◌⊎◌, Bool, true, false, List, [], ◌∷◌, ◌++◌, length, All, Option, Some, Result, Ok, ⊤}
use Rattle.vhost_message.specs.declared.limits.TheConstants.{MAX_MEM_REGIONS, MAX_MSG_SIZE, MSG_HEADER_SIZE}
use Rattle.vhost_message.specs.Bits.{has_bit}
use Rattle.vhost_message.specs.declared.heard_req.HeardReq.{HeardReq}
use Rattle.vhost_message.specs.declared.records.config.VhostUserConfig.{VhostUserConfig}
use Rattle.vhost_message.specs.declared.records.memory.VhostUserMemoryRegion.{VhostUserMemoryRegion}
use Rattle.vhost_message.specs.HeardReq.{request_number, is_named}
use Rattle.vhost_message.specs.Header.{Header}
use Rattle.vhost_message.specs.LongRecords.{ShMemConfigFits}
use Rattle.vhost_message.specs.RecordLaws.{RegionFits, SingleRegionFits, VringStateFits, ConfigFits, InflightFits, LogFits}
use Rattle.vhost_message.specs.Valid.{is_valid_config, is_valid_log}
use Rattle.vhost_protocol.specs.AnswerTable.{answer}
use Rattle.vhost_protocol.specs.declared.asked.Awaited.{Awaited}
use Rattle.vhost_protocol.specs.declared.asked.Awaited.TheVariants.{Ack, Reply}
use Rattle.vhost_protocol.specs.declared.asked.Shape.{Shape}
use Rattle.vhost_protocol.specs.declared.asked.Shape.TheVariants as shape
use Rattle.vhost_protocol.specs.Error.{Error}
use Rattle.vhost_protocol.specs.FrontendCall.{FrontendCall, SetMemTable, GetConfig, GetInflightFd, Frontend}
use Rattle.vhost_protocol.specs.Joined.{read_as}
use Rattle.vhost_protocol.specs.Split.{Message, split, Splits}
use Rattle.vhost_protocol.specs.ReplySplit.{reply_split}
use Rattle.vhost_protocol.specs.Served.{Served, Silent, Acknowledged, Replied, reply, cells_of}
use Rattle.vhost_protocol.specs.Stream.{Cell}
use Rattle.vhost_protocol.specs.Take.{take}
use Rattle.vhost_protocol.specs.Written.{Payload, Empty, U64, Regions, OneRegion, Shmem, RingState, ConfigBytes, InflightArea, LogArea, Written, head_of, payload_text, written_cells}

-- ---- how a stream is cut; for every type of codes, and whatever handles are allowed

module _ (R H : Type 0) (request_of : ℕ → Option R) where
  -- The outcome of a stream is that of a front of it: nothing is left behind the front, and the end was needed, or what follows makes no difference.
  abbrev pub CutsFront : Type 0
  CutsFront = (allows_handles : R → ℕ → Bool) (cells : List (Cell H)) (outcome : Result (Message R H) Error) (rest : List (Cell H))
      → split request_of allows_handles cells ≡ (outcome, rest)
      → (front : List (Cell H)) × (cells ≡ front ++ rest)
      × (((rest ≡ []) × Splits (split request_of allows_handles) front true outcome) ⊎ Splits (split request_of allows_handles) front false outcome)

  -- an outcome that needed the end of its stream does not stand without it
  abbrev pub EndIsNeeded : Type 0
  EndIsNeeded = (allows_handles : R → ℕ → Bool) (cells : List (Cell H)) (outcome other : Result (Message R H) Error)
      → Splits (split request_of allows_handles) cells true outcome → Splits (split request_of allows_handles) cells false other → ⊥

  -- a message is that of a front which is as long as its header and its body, whatever follows
  abbrev pub FirstIsFront : Type 0
  FirstIsFront = (allows_handles : R → ℕ → Bool) (cells : List (Cell H)) (m : Message R H) (rest : List (Cell H))
      → split request_of allows_handles cells ≡ (Ok m, rest)
      → (front : List (Cell H)) × (cells ≡ front ++ rest) × (length front ≡ MSG_HEADER_SIZE + length m.body)
      × Splits (split request_of allows_handles) front false (Ok m)

  -- a message that is sent with allowed handles, and with no more body than allowed, is read again, whatever follows it
  abbrev pub SentIsRead : (R → ℕ) → Type 0
  SentIsRead number_of = (allows_handles : R → ℕ → Bool) (w : Written R H) (rest : List (Cell H))
      → request_of (number_of w.request) ≡ Some w.request → number_of w.request < 2 ^ 32
      → allows_handles w.request (length w.handles) ≡ true → length (payload_text w.payload) ≤ MAX_MSG_SIZE
      → split request_of allows_handles (written_cells number_of w ++ rest) ≡ (Ok (read_as w), rest)

-- ---- replies

-- a reply is read by its record and the payload behind it, whatever follows
abbrev pub ReplyIsRead : (R H : Type 0) → (R → ℕ) → Type 0
ReplyIsRead R H number_of = (is_known : Header → Bool) (is_valid : List ℕ → Bool) (w : Written R H) (body more : List ℕ) (rest : List (Cell H))
    → payload_text w.payload ≡ body ++ more → number_of w.request < 2 ^ 32 → length (payload_text w.payload) < 2 ^ 32
    → is_known (head_of number_of w) ≡ true → is_valid body ≡ true
    → reply_split is_known (length body) is_valid (length more) (written_cells number_of w ++ rest)
    ≡ (Ok (record { header = head_of number_of w; body = body; payload = more; handles = w.handles }), rest)

-- a call whose reply has nothing behind its record
abbrev pub IsShort : {H : Type 0} → FrontendCall H → Type 0
IsShort (SetMemTable infos) = ⊥
IsShort (GetConfig offset size flags buffer) = ⊥
IsShort _ = ⊤

-- a header that was sent for a request which has a name, without REPLY
abbrev pub IsSentFor : HeardReq → Header → Type 0
IsSentFor r sent = (sent.code ≡ request_number r) × (has_bit sent.flags 2 ≡ false) × (is_named r ≡ true)

-- what a handler served is taken from the stream as the answer table says, and what follows it is left
abbrev pub IsTaken : {H : Type 0} → FrontendCall H → Awaited → Header → Frontend → HeardReq → Served H → Type 0
IsTaken {H} call awaited sent f r served =
    (rest : List (Cell H)) → take call awaited sent f (cells_of request_number (reply r served) ++ rest) ≡ (answer call awaited f served, rest)

-- an acknowledgement is taken
abbrev pub TakesAck : (H : Type 0) → Type 0
TakesAck H = (call : FrontendCall H) (sent : Header) (f : Frontend) (r : HeardReq) → IsSentFor r sent
    → (agreed : Bool) → IsTaken call Ack sent f r (Acknowledged agreed)

-- a reply of one number is taken
abbrev pub TakesNumber : (H : Type 0) → Type 0
TakesNumber H = (call : FrontendCall H) (sent : Header) (f : Frontend) (r : HeardReq) → IsShort call → IsSentFor r sent
    → (n : ℕ) (handles : List H) → n < 2 ^ 64 → IsTaken call (Reply shape.U64) sent f r (Replied (U64 n) handles)

-- a reply without a body is taken
abbrev pub TakesEmpty : (H : Type 0) → Type 0
TakesEmpty H = (call : FrontendCall H) (sent : Header) (f : Frontend) (r : HeardReq) → IsShort call → IsSentFor r sent
    → (handles : List H) → IsTaken call (Reply shape.Empty) sent f r (Replied Empty handles)

-- the numbers of a payload are within their fields
abbrev pub PayloadFits : Payload → Type 0
PayloadFits (U64 n) = n < 2 ^ 64
PayloadFits (Regions rs) = All RegionFits rs
PayloadFits (OneRegion r) = SingleRegionFits r
PayloadFits (Shmem c) = ShMemConfigFits c
PayloadFits (RingState v) = VringStateFits v
PayloadFits (ConfigBytes c bytes) = ConfigFits c
PayloadFits (InflightArea i) = InflightFits i
PayloadFits (LogArea l) = LogFits l
PayloadFits _ = ⊤

-- as many regions as the call has, and at least one
abbrev pub IsTableOf : {H : Type 0} → FrontendCall H → List VhostUserMemoryRegion → Type 0
IsTableOf (SetMemTable infos) rs = (length rs ≡ length infos) × (1 ≤ length rs) × (length rs ≤ MAX_MEM_REGIONS)
IsTableOf _ rs = ⊥

-- A bare record of size 0 without handles, or a valid one with as many bytes as the call has room for. There is room for one at least.
abbrev pub IsConfigOf : {H : Type 0} → FrontendCall H → VhostUserConfig → List ℕ → List H → Type 0
IsConfigOf (GetConfig offset size flags []) c bytes handles = ⊥
IsConfigOf (GetConfig offset size flags (b ∷ buffer)) c bytes handles =
    ((c.size ≡ 0) × (bytes ≡ []) × (handles ≡ [])) ⊎ ((length bytes ≡ length (b ∷ buffer)) × (12 + length bytes ≤ MAX_MSG_SIZE) × (is_valid_config c ≡ true))
IsConfigOf _ c bytes handles = ⊥

-- the one call that is answered by an area, which need not be valid
abbrev pub IsInflightOf : {H : Type 0} → FrontendCall H → Type 0
IsInflightOf (GetInflightFd asked) = ⊤
IsInflightOf _ = ⊥

-- a payload with these handles is a reply that the call may have
abbrev pub IsReplyOf : {H : Type 0} → FrontendCall H → Shape → Payload → List H → Type 0
IsReplyOf call shape.Empty Empty handles = IsShort call
IsReplyOf call shape.U64 (U64 n) handles = IsShort call
IsReplyOf call shape.SingleMemoryRegion (OneRegion r) handles = IsShort call
IsReplyOf call shape.ShMemConfig (Shmem c) handles = IsShort call
IsReplyOf call shape.VringState (RingState v) handles = IsShort call
IsReplyOf call shape.Inflight (InflightArea i) handles = IsInflightOf call
IsReplyOf call shape.Log (LogArea l) handles = IsShort call × (is_valid_log l ≡ true)
IsReplyOf call shape.Memory (Regions rs) handles = IsTableOf call rs
IsReplyOf call shape.Config (ConfigBytes c bytes) handles = IsConfigOf call c bytes handles
IsReplyOf call _ _ handles = ⊥

-- a reply that the call may have is taken
abbrev pub TakesReply : (H : Type 0) → Type 0
TakesReply H = (call : FrontendCall H) (sent : Header) (f : Frontend) (r : HeardReq) (shape : Shape) → IsSentFor r sent
    → (payload : Payload) (handles : List H) → IsReplyOf call shape payload handles → PayloadFits payload → IsTaken call (Reply shape) sent f r (Replied payload handles)

-- from a stream at its end nothing is taken: the answer is that of a silent handler
abbrev pub TakesNothing : (H : Type 0) → Type 0
TakesNothing H = (call : FrontendCall H) (awaited : Awaited) (sent : Header) (f : Frontend) → has_bit sent.flags 2 ≡ false
    → take call awaited sent f [] ≡ (answer call awaited f Silent, [])
