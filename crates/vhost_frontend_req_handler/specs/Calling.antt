-- Calls of the frontend's side as values.
use Rattle.vhost_protocol.specs.Reverse.{ReverseCall, HandleConfigChange, SharedObjectAdd, SharedObjectRemove, SharedObjectLookup, ShmemMap, ShmemUnmap}
use Rattle.vhost_frontend_req_handler.specs.declared.call.FrontendSideCall.{FrontendSideCall}
use Rattle.vhost_frontend_req_handler.specs.declared.call.FrontendSideCall.TheVariants as call

-- a call of the code
abbrev pub call_in : {H : Type 0} → FrontendSideCall H → ReverseCall H
call_in call.ConfigChange = HandleConfigChange
call_in (call.SharedObjectAdd u) = SharedObjectAdd u
call_in (call.SharedObjectRemove u) = SharedObjectRemove u
call_in (call.SharedObjectLookup u h) = SharedObjectLookup u h
call_in (call.ShmemMap m h) = ShmemMap m h
call_in (call.ShmemUnmap m) = ShmemUnmap m
