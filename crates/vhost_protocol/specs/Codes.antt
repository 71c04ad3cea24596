-- Which requests of a frontend carry handles ("Communication").
use Rattle.std.specs.Prelude.{ℕ, Bool, true, false, ◌||◌, ◌==◌}
use Rattle.vhost_message.specs.declared.heard_req.HeardReq.{HeardReq}
use Rattle.vhost_message.specs.declared.heard_req.HeardReq.TheVariants.{SET_MEM_TABLE, SET_LOG_BASE, SET_LOG_FD, SET_VRING_KICK, SET_VRING_CALL, SET_VRING_ERR, SET_BACKEND_REQ_FD, SET_INFLIGHT_FD, GPU_SET_SOCKET, ADD_MEM_REG, REM_MEM_REG, SET_DEVICE_STATE_FD, OTHER}

-- the requests that may come with handles, whatever their number
abbrev pub carries_handles : HeardReq → Bool
carries_handles SET_MEM_TABLE = true
carries_handles SET_VRING_CALL = true
carries_handles SET_VRING_KICK = true
carries_handles SET_VRING_ERR = true
carries_handles SET_LOG_BASE = true
carries_handles SET_LOG_FD = true
carries_handles SET_BACKEND_REQ_FD = true
carries_handles SET_INFLIGHT_FD = true
carries_handles ADD_MEM_REG = true
carries_handles REM_MEM_REG = true
carries_handles SET_DEVICE_STATE_FD = true
carries_handles GPU_SET_SOCKET = true
-- nobody knows what one without a name brings
carries_handles (OTHER n) = true
carries_handles _ = false

-- a request is allowed to come with that many handles
abbrev pub allows_handles : HeardReq → ℕ → Bool
allows_handles r n = n == 0 || carries_handles r
