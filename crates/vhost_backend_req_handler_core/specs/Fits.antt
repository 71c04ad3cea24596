-- Whether the handles of a message are those of its call.
use Rattle.std.specs.Prelude.{Bool, true, false, not, ◌||◌, ◌==◌, List, length, ⊤}
use Rattle.vhost_protocol.specs.Step.{Step, Refused}
use Rattle.vhost_backend_req_handler_core.specs.declared.call.DeviceCall.{DeviceCall}
use Rattle.vhost_backend_req_handler_core.specs.declared.call.DeviceCall.TheVariants as call

-- a call that comes with exactly one handle
abbrev pub wants_one : DeviceCall → Bool
wants_one (call.SetLogBase l) = true
wants_one (call.SetVringKick i wants) = wants
wants_one (call.SetVringCall i wants) = wants
wants_one (call.SetVringErr i wants) = wants
wants_one call.SetBackendReqFd = true
wants_one call.SetGpuSocket = true
wants_one (call.SetInflightFd area) = true
wants_one (call.AddMemRegion r listens) = true
wants_one (call.SetDeviceStateFd direction phase) = true
wants_one _ = false

-- these handles are those of the call
abbrev pub fits : {H : Type 0} → DeviceCall → List H → Bool
fits c hs = not (wants_one c) || length hs == 1

-- a step that does not refuse
abbrev pub Makes : {H B G : Type 0} → Step H B G → Type 0
Makes (Refused r) = ⊥
Makes _ = ⊤
