-- Calls and answers of the code, as the definitions see them.
use Rattle.std.specs.Prelude.{ℕ, List, map, Option, Some, None, Result, Ok, Err, Vec}
use Rattle.std.specs.Global.{Global}
use Rattle.vhost_message.specs.Transfer.{direction_number, phase_number}
use Rattle.vhost_message.specs.declared.error.Error as declared
use Rattle.vhost_protocol.specs.Error.{Error, seen}
use Rattle.vhost_protocol.specs.FrontendCall as calls
use Rattle.vhost_protocol.specs.FrontendCall.{FrontendCall, Info, Value}
use Rattle.vhost_link.specs.declared.plain.PlainHandle.{PlainHandle}
use Rattle.vhost_frontend_core.specs.Regions.{lent, info_in, info_of, table_in, log_region_in, bases_seen}
use Rattle.vhost_frontend_core.specs.declared.answer.Answer.{Answer}
use Rattle.vhost_frontend_core.specs.declared.answer.Answer.TheVariants as any
use Rattle.vhost_frontend_core.specs.declared.call.Call.{Call}
use Rattle.vhost_frontend_core.specs.declared.call.Call.TheVariants as lending
use Rattle.vhost_frontend_core.specs.declared.values.call.FrontendCall as code
use Rattle.vhost_frontend_core.specs.declared.values.call.FrontendCall.TheVariants as call
use Rattle.vhost_frontend_core.specs.declared.values.call.LogRegion.{LogRegion}
use Rattle.vhost_frontend_core.specs.declared.values.answer.FrontendAnswer.{FrontendAnswer}
use Rattle.vhost_frontend_core.specs.declared.values.answer.FrontendAnswer.TheVariants as answer

-- where the dirty log is kept
abbrev pub log_region_of : Option LogRegion → Option (calls.LogRegion PlainHandle)
log_region_of None = None
log_region_of (Some r) = Some (record { mmap_size = r.mmap_size; mmap_offset = r.mmap_offset; handle = r.mmap_handle })

-- a call of the code
abbrev pub call_of : code.FrontendCall → FrontendCall PlainHandle
call_of call.GetFeatures = calls.GetFeatures
call_of (call.SetFeatures n) = calls.SetFeatures n
call_of call.SetOwner = calls.SetOwner
call_of call.ResetOwner = calls.ResetOwner
call_of call.GetProtocolFeatures = calls.GetProtocolFeatures
call_of (call.SetProtocolFeatures f) = calls.SetProtocolFeatures f.bits
call_of call.GetQueueNum = calls.GetQueueNum
call_of call.ResetDevice = calls.ResetDevice
call_of (call.SetMemTable regions) = calls.SetMemTable (map info_of regions.items)
call_of (call.SetLogBase base region) = calls.SetLogBase base (log_region_of region)
call_of (call.SetLogFd h) = calls.SetLogFd h
call_of (call.SetVringNum i n) = calls.SetVringNum i n
call_of (call.SetVringBase i n) = calls.SetVringBase i n
call_of (call.SetVringAddr i c) = calls.SetVringAddr i c
call_of (call.GetVringBase i) = calls.GetVringBase i
call_of (call.SetVringCall i h) = calls.SetVringCall i h
call_of (call.SetVringKick i h) = calls.SetVringKick i h
call_of (call.SetVringErr i h) = calls.SetVringErr i h
call_of (call.SetVringEnable i on) = calls.SetVringEnable i on
call_of (call.GetConfig offset size flags buffer) = calls.GetConfig offset size flags.bits buffer.items
call_of (call.SetConfig offset flags buffer) = calls.SetConfig offset flags.bits buffer.items
call_of (call.SetBackendRequestFd h) = calls.SetBackendRequestFd h
call_of (call.GetSharedObject name) = calls.GetSharedObject name
call_of (call.GetInflightFd area) = calls.GetInflightFd area
call_of (call.SetInflightFd area h) = calls.SetInflightFd area h
call_of call.GetMaxMemSlots = calls.GetMaxMemSlots
call_of (call.AddMemRegion info) = calls.AddMemRegion (info_of info)
call_of (call.RemoveMemRegion info) = calls.RemoveMemRegion (info_of info)
call_of call.GetShmemConfig = calls.GetShmemConfig
call_of (call.SetDeviceStateFd direction phase h) = calls.SetDeviceStateFd (record { direction = direction_number direction; phase = phase_number phase }) h
call_of call.CheckDeviceState = calls.CheckDeviceState
call_of call.PostcopyAdvise = calls.PostcopyAdvise
call_of call.PostcopyListen = calls.PostcopyListen
call_of call.PostcopyEnd = calls.PostcopyEnd
call_of (call.PostcopyAckMemRegions r) = calls.PostcopyAckMemRegions r
call_of (call.SetMtu mtu) = calls.SetMtu mtu
call_of (call.SetHdrFlags flags) = calls.SetHdrFlags flags.bits

-- a call of the code that lends what it is made of
abbrev pub call_in : {H : Type 0} → Call H → FrontendCall H
call_in lending.GetFeatures = calls.GetFeatures
call_in (lending.SetFeatures n) = calls.SetFeatures n
call_in lending.SetOwner = calls.SetOwner
call_in lending.ResetOwner = calls.ResetOwner
call_in lending.GetProtocolFeatures = calls.GetProtocolFeatures
call_in (lending.SetProtocolFeatures f) = calls.SetProtocolFeatures f.bits
call_in lending.GetQueueNum = calls.GetQueueNum
call_in lending.ResetDevice = calls.ResetDevice
call_in (lending.SetMemTable regions) = calls.SetMemTable (table_in regions)
call_in (lending.SetLogBase base region) = calls.SetLogBase base (log_region_in region)
call_in (lending.SetLogFd h) = calls.SetLogFd h.now
call_in (lending.SetVringNum i n) = calls.SetVringNum i n
call_in (lending.SetVringBase i n) = calls.SetVringBase i n
call_in (lending.SetVringAddr i c) = calls.SetVringAddr i c
call_in (lending.GetVringBase i) = calls.GetVringBase i
call_in (lending.SetVringCall i h) = calls.SetVringCall i (lent h)
call_in (lending.SetVringKick i h) = calls.SetVringKick i (lent h)
call_in (lending.SetVringErr i h) = calls.SetVringErr i (lent h)
call_in (lending.SetVringEnable i on) = calls.SetVringEnable i on
call_in (lending.GetConfig offset size flags buffer) = calls.GetConfig offset size flags.bits buffer.now
call_in (lending.SetConfig offset flags buffer) = calls.SetConfig offset flags.bits buffer.now
call_in (lending.SetBackendRequestFd h) = calls.SetBackendRequestFd h.now
call_in (lending.GetSharedObject name) = calls.GetSharedObject name
call_in (lending.GetInflightFd area) = calls.GetInflightFd area
call_in (lending.SetInflightFd area h) = calls.SetInflightFd area h.now
call_in lending.GetMaxMemSlots = calls.GetMaxMemSlots
call_in (lending.AddMemRegion info) = calls.AddMemRegion (info_in info)
call_in (lending.RemoveMemRegion info) = calls.RemoveMemRegion (info_in info)
call_in lending.GetShmemConfig = calls.GetShmemConfig
call_in (lending.SetDeviceStateFd direction phase h) = calls.SetDeviceStateFd (record { direction = direction_number direction; phase = phase_number phase }) h.now
call_in lending.CheckDeviceState = calls.CheckDeviceState
call_in lending.PostcopyAdvise = calls.PostcopyAdvise
call_in lending.PostcopyListen = calls.PostcopyListen
call_in lending.PostcopyEnd = calls.PostcopyEnd
call_in (lending.PostcopyAckMemRegions r) = calls.PostcopyAckMemRegions r
call_in (lending.SetMtu mtu) = calls.SetMtu mtu

-- a result, shown as this value
abbrev pub shown : {A H : Type 0} → (A → Value H) → Result A declared.Error → Result (Value H) declared.Error
shown value (Ok a) = Ok (value a)
shown value (Err e) = Err e

-- an answer over the handles of any link
abbrev pub outcome_of : {H : Type 0} → Answer H → Result (Value H) declared.Error
outcome_of (any.Failed e) = Err e
outcome_of any.Done = Ok calls.Nothing
outcome_of (any.Number n) = Ok (calls.Number n)
outcome_of (any.Bases bases) = Ok (calls.Bases (bases_seen bases))
outcome_of (any.Base base) = Ok (calls.Base base)
outcome_of (any.Config part bytes) = Ok (calls.ConfigOf part bytes.items)
outcome_of (any.Handle h) = Ok (calls.HandleOf h)
outcome_of (any.Inflight area h) = Ok (calls.InflightOf area h)
outcome_of (any.StateHandle h) = Ok (calls.StateHandle h)
outcome_of (any.ShmemConfig c) = Ok (calls.ShmemOf c.value)

-- where regions are mapped
abbrev pub bases_of : Option (Vec ℕ Global) → Option (List ℕ)
bases_of None = None
bases_of (Some bases) = Some bases.items

-- an answer of the code
abbrev pub answer_of : FrontendAnswer → Result (Value PlainHandle) Error
answer_of (answer.Failed e) = Err (seen e)
answer_of answer.Done = Ok calls.Nothing
answer_of (answer.Number n) = Ok (calls.Number n)
answer_of (answer.Bases bases) = Ok (calls.Bases (bases_of bases))
answer_of (answer.Base base) = Ok (calls.Base base)
answer_of (answer.Config part bytes) = Ok (calls.ConfigOf part bytes.items)
answer_of (answer.Handle h) = Ok (calls.HandleOf h)
answer_of (answer.Inflight area h) = Ok (calls.InflightOf area h)
answer_of (answer.StateHandle h) = Ok (calls.StateHandle h)
answer_of (answer.ShmemConfig c) = Ok (calls.ShmemOf c.value)
