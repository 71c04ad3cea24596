-- What the handler serves is what the frontend awaits, and is read again.
use Rattle.std.specs.Prelude.{◌≡◌, ◌^◌, ◌<◌, ◌≤◌, true, false, [], length, All, IfOk, IfSome, Some, Result, ⊤}
use Rattle.vhost_message.specs.declared.limits.TheConstants.{MAX_ATTACHED_FD_ENTRIES, MAX_MSG_SIZE}
use Rattle.vhost_message.specs.Bits.{has_bit}
use Rattle.vhost_message.specs.declared.heard_req.HeardReq.{HeardReq}
use Rattle.vhost_message.specs.HeardReq.{request_number, is_named}
use Rattle.vhost_message.specs.LongRecords.{ShMemConfigFits}
use Rattle.vhost_message.specs.RecordLaws.{RegionFits, VringStateFits, InflightFits, LogFits}
use Rattle.vhost_protocol.specs.Ask.{Asked, Refuses, Answers, Sends, ask, regions_in, log_area}
use Rattle.vhost_protocol.specs.declared.asked.Awaited.{Awaited}
use Rattle.vhost_protocol.specs.declared.asked.Awaited.TheVariants.{Reply}
use Rattle.vhost_protocol.specs.declared.asked.Shape.{Shape}
use Rattle.vhost_protocol.specs.declared.asked.Shape.TheVariants as shape
use Rattle.vhost_protocol.specs.AnswerTable.{Answered, answer}
use Rattle.vhost_protocol.specs.Codes.{allows_handles}
use Rattle.vhost_protocol.specs.DeviceCall as device
use Rattle.vhost_protocol.specs.DeviceCall.{Call, Answer}
use Rattle.vhost_protocol.specs.Error.{Error}
use Rattle.vhost_protocol.specs.FrontendCall.{FrontendCall, GetVringBase, GetConfig, GetSharedObject, GetInflightFd, SetMemTable, SetLogBase, AddMemRegion, GetShmemConfig, PostcopyAdvise, Frontend}
use Rattle.vhost_protocol.specs.Joined.{read_as}
use Rattle.vhost_protocol.specs.Laws.{PayloadFits, IsReplyOf}
use Rattle.vhost_protocol.specs.Row.{row}
use Rattle.vhost_protocol.specs.Served.{Served, Replied, reply, cells_of}
use Rattle.vhost_protocol.specs.Session.{Session}
use Rattle.vhost_protocol.specs.Take.{take}
use Rattle.vhost_protocol.specs.Written.{Written, head_of, payload_text}
use Rattle.vhost_protocol.specs.Step.{Step, Refused, Calls, OpensBackend, OpensGpu}

-- the shape of the reply to a call
abbrev pub shape_of : {H : Type 0} → FrontendCall H → Shape
shape_of (SetMemTable infos) = shape.Memory
shape_of (SetLogBase base region) = shape.Log
shape_of (GetVringBase i) = shape.VringState
shape_of (GetConfig offset size flags buffer) = shape.Config
shape_of (GetSharedObject name) = shape.Empty
shape_of (GetInflightFd area) = shape.Inflight
shape_of (AddMemRegion info) = shape.SingleMemoryRegion
shape_of GetShmemConfig = shape.ShMemConfig
shape_of PostcopyAdvise = shape.Empty
shape_of _ = shape.U64

-- the numbers of a device's answer that are replied have the bits of their types
abbrev pub AnswerFits : {H B G : Type 0} → (c : Call H B G) → Answer c → Type 0
AnswerFits device.GetFeatures a = IfOk a (λ n. n < 2 ^ 64)
AnswerFits (device.SetMemTable regions handles (Some true)) a = IfOk a (λ o. IfSome o (λ bases. All (λ base. base < 2 ^ 64) bases))
AnswerFits (device.GetVringBase index) a = IfOk a VringStateFits
AnswerFits device.GetProtocolFeatures a = IfOk a (λ n. n < 2 ^ 64)
AnswerFits device.GetQueueNum a = IfOk a (λ n. n < 2 ^ 64)
AnswerFits (device.GetInflightFd area) a = IfOk a (λ x. InflightFits x.0)
AnswerFits device.GetMaxMemSlots a = IfOk a (λ n. n < 2 ^ 64)
AnswerFits (device.AddMemRegion region handle (Some true)) a = IfOk a (λ o. IfSome o (λ base. base < 2 ^ 64))
AnswerFits device.GetShmemConfig a = IfOk a ShMemConfigFits
AnswerFits _ a = ⊤

-- the numbers of a call that the handler gives back have the bits of their types
abbrev pub CallFits : {H : Type 0} → FrontendCall H → Type 0
CallFits (SetMemTable infos) = All RegionFits (regions_in infos)
CallFits (SetLogBase base (Some r)) = LogFits (log_area r)
CallFits (AddMemRegion info) = RegionFits info.region
CallFits (GetInflightFd area) = InflightFits area
CallFits _ = ⊤

-- a reply is one that the call may have
abbrev pub IsGoodReply : {H : Type 0} → FrontendCall H → Served H → Type 0
IsGoodReply call (Replied payload handles) = IsReplyOf call (shape_of call) payload handles × PayloadFits payload
IsGoodReply call _ = ⊤

-- whatever the device answers
abbrev pub AllGood : {H B G : Type 0} → FrontendCall H → Step H B G → Type 0
AllGood call (Refused refusal) = IsGoodReply call refusal.served
AllGood call (Calls c next) = (a : Answer c) → AnswerFits c a → IsGoodReply call (next a).served
AllGood {B = B} call (OpensBackend h next) = (opened : Result B Error) → AllGood call (next opened)
AllGood {G = G} call (OpensGpu h next) = (opened : Result G Error) → AllGood call (next opened)

-- whatever becomes of a call
abbrev pub AskedWell : {H : Type 0} → (B G : Type 0) → Session → FrontendCall H → Asked H → Type 0
AskedWell B G s call (Refuses e) = ⊤
AskedWell B G s call (Answers v g) = ⊤
AskedWell B G s call (Sends w awaited g) = AllGood {B = B} {G = G} call (row s (read_as w))

-- A reply to a call is one that the call may have.
abbrev pub RepliesWell : (H B G : Type 0) → Type 0
RepliesWell H B G = (f : Frontend) (s : Session) (call : FrontendCall H) → CallFits call → AskedWell B G s call (ask f call)

-- ---- what is sent and awaited

-- a reply is awaited in the shape of the call
abbrev pub IsAwaitedBy : {H : Type 0} → FrontendCall H → Awaited → Type 0
IsAwaitedBy call (Reply shape) = shape ≡ shape_of call
IsAwaitedBy call _ = ⊤

-- a message has the flag REPLY where the frontend's header flags have it
abbrev pub AsksPlainly : {H : Type 0} → Frontend → FrontendCall H → Asked H → Type 0
AsksPlainly f call (Sends w awaited g) = IsAwaitedBy call awaited × (w.reply ≡ has_bit f.header_flags 2)
AsksPlainly f call _ = ⊤

-- each call awaits its own shape
abbrev pub AwaitsItsShape : (H : Type 0) → Type 0
AwaitsItsShape H = (f : Frontend) (call : FrontendCall H) → AsksPlainly f call (ask f call)

-- ---- the answer

-- What the handler served, and nothing behind it: from these bytes the frontend takes the answer of the answer table, and leaves none.
abbrev pub HearsTheAnswer : (H : Type 0) → Type 0
HearsTheAnswer H = (call : FrontendCall H) (awaited : Awaited) (w : Written HeardReq H) (g : Frontend) (served : Served H) (a : Answered H)
    → is_named w.request ≡ true → w.reply ≡ false → IsAwaitedBy call awaited → IsGoodReply call served → answer call awaited g served ≡ Some a
    → take call awaited (head_of request_number w) g (cells_of request_number (reply w.request served)) ≡ (Some a, [])

-- ---- what is sent can be sent

-- the request has a name, its handles are allowed and not too many, and the body is not too long
pub record IsSendable {H : Type 0} (w : Written HeardReq H) : Type 0 where
  pub named : is_named w.request ≡ true
  pub allowed : allows_handles w.request (length w.handles) ≡ true
  pub size : length (payload_text w.payload) ≤ MAX_MSG_SIZE
  pub few : length w.handles ≤ MAX_ATTACHED_FD_ENTRIES

-- the name of an object has sixteen bytes
abbrev pub IsNamedWell : {H : Type 0} → FrontendCall H → Type 0
IsNamedWell (GetSharedObject name) = length name.uuid ≡ 16
IsNamedWell _ = ⊤

-- whatever becomes of a call
abbrev pub AsksSendable : {H : Type 0} → Asked H → Type 0
AsksSendable (Sends w awaited g) = IsSendable w
AsksSendable _ = ⊤

-- each call sends what can be sent
abbrev pub SendsWhole : (H : Type 0) → Type 0
SendsWhole H = (f : Frontend) (call : FrontendCall H) → IsNamedWell call → AsksSendable (ask f call)
