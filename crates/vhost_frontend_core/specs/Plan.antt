-- What a call becomes, as the definitions see it.
use Rattle.std.specs.Prelude.{List, Result, Ok, Err, ⊤}
use Rattle.vhost_message.specs.declared.error.Error as declared
use Rattle.vhost_message.specs.declared.heard_req.HeardReq.{HeardReq}
use Rattle.vhost_protocol.specs.Error.{seen}
use Rattle.vhost_protocol.specs.Ask.{Asked, Refuses, Sends, message, unacknowledged, given_handle}
use Rattle.vhost_protocol.specs.FrontendCall.{FrontendCall, Frontend, SetMemTable, GetConfig, SetConfig}
use Rattle.vhost_protocol.specs.Written as payload
use Rattle.vhost_protocol.specs.Written.{Payload, Written}
use Rattle.vhost_frontend_core.specs.Regions.{lent}
use Rattle.vhost_frontend_core.specs.Session.{frontend_of, turn_needs_reply}
use Rattle.vhost_frontend_core.specs.declared.internal.plan.Asking.{Asking}
use Rattle.vhost_frontend_core.specs.declared.internal.plan.Asking.TheVariants.{AsFlagged, Unacknowledged, Turning}
use Rattle.vhost_frontend_core.specs.declared.internal.plan.Record.{Record}
use Rattle.vhost_frontend_core.specs.declared.internal.plan.Record.TheVariants as record_
use Rattle.vhost_frontend_core.specs.declared.internal.plan.Plan.{Plan}

-- the message of a call is a header and at most one record
abbrev pub IsRecord : {H : Type 0} → FrontendCall H → Type 0
IsRecord (SetMemTable infos) = ⊥
IsRecord (GetConfig offset size flags buffer) = ⊥
IsRecord (SetConfig offset flags buffer) = ⊥
IsRecord _ = ⊤

-- a record of the code
abbrev pub record_in : Record → Payload
record_in record_.Empty = payload.Empty
record_in (record_.U64 n) = payload.U64 n
record_in (record_.OneRegion r) = payload.OneRegion r
record_in (record_.RingState v) = payload.RingState v
record_in (record_.RingAddr v) = payload.RingAddr v
record_in (record_.InflightArea i) = payload.InflightArea i
record_in (record_.LogArea l) = payload.LogArea l
record_in (record_.ObjectName name) = payload.ObjectName name
record_in (record_.DeviceState t) = payload.DeviceState t

-- a message, by how it asks for its acknowledgement
abbrev pub asking : {H : Type 0} → Asking → Frontend → HeardReq → Payload → List H → Written HeardReq H
asking AsFlagged f r payload handles = message f r payload handles
asking Unacknowledged f r payload handles = unacknowledged f r payload handles
asking Turning f r payload handles = record (message f r payload handles) { need_reply = turn_needs_reply f }

-- the message of a plan
abbrev pub written : {H : Type 0} → Plan H → Written HeardReq H
written p = asking p.asking (frontend_of p.next) p.request (record_in p.body) (given_handle (lent p.handle))

-- what is planned for a call: a refusal, or a message, what is awaited of it, and the session from then on
abbrev pub planned : {H : Type 0} → Result (Plan H) declared.Error → Asked H
planned (Err e) = Refuses (seen e)
planned (Ok p) = Sends (written p) p.awaited (frontend_of p.next)
