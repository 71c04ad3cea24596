-- The forms of answers.
use Rattle.std.specs.Prelude.{◌<◌, ◌^◌, ⊤}
use Rattle.vhost_protocol.specs.FrontendCall.{FrontendCall, GetFeatures, GetProtocolFeatures, GetQueueNum, SetMemTable, GetVringBase, GetConfig, GetSharedObject, GetInflightFd, GetMaxMemSlots, AddMemRegion, GetShmemConfig, SetDeviceStateFd, PostcopyAdvise}
use Rattle.vhost_frontend_core.specs.declared.answer.Answer.{Answer}
use Rattle.vhost_frontend_core.specs.declared.answer.Answer.TheVariants as answer

-- what the answer of a call that succeeds has
pub data Kind : Type 0 where
  Plain : Kind
  Number : Kind
  RingIndex : Kind
  Bases : Kind
  Base : Kind
  Bytes : Kind
  OneHandle : Kind
  Area : Kind
  StateHandle : Kind
  Regions : Kind

-- the form of a call's answer
abbrev pub kind_of : {H : Type 0} → FrontendCall H → Kind
kind_of GetFeatures = Number
kind_of GetProtocolFeatures = Number
kind_of GetQueueNum = Number
kind_of (SetMemTable infos) = Bases
kind_of (GetVringBase i) = RingIndex
kind_of (GetConfig offset size flags buffer) = Bytes
kind_of (GetSharedObject name) = OneHandle
kind_of (GetInflightFd area) = Area
kind_of GetMaxMemSlots = Number
kind_of (AddMemRegion info) = Base
kind_of GetShmemConfig = Regions
kind_of (SetDeviceStateFd t h) = StateHandle
kind_of PostcopyAdvise = OneHandle
kind_of _ = Plain

-- an answer has this form, or is an error
abbrev pub IsOf : {H : Type 0} → Kind → Answer H → Type 0
IsOf kind (answer.Failed e) = ⊤
IsOf Plain answer.Done = ⊤
IsOf Number (answer.Number n) = ⊤
IsOf RingIndex (answer.Number n) = n < 2 ^ 32
IsOf Bases (answer.Bases bases) = ⊤
IsOf Base (answer.Base base) = ⊤
IsOf Bytes (answer.Config part bytes) = ⊤
IsOf OneHandle (answer.Handle h) = ⊤
IsOf Area (answer.Inflight area h) = ⊤
IsOf StateHandle (answer.StateHandle h) = ⊤
IsOf Regions (answer.ShmemConfig c) = ⊤
IsOf kind a = ⊥
