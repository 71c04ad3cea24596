-- The requests of a backend to a display and their numbers.
use Rattle.std.specs.Prelude.{◌≡◌, ℕ, List, [], ◌∷◌, Option, Some, Result, ok_or, refl, ⊤}
use Rattle.vhost_message.specs.Codes.{find, number-find}
use Rattle.vhost_gpu_message.specs.declared.gpu_backend_req.GpuBackendReq.{GpuBackendReq}
use Rattle.vhost_gpu_message.specs.declared.gpu_backend_req.GpuBackendReq.TheVariants.{GET_PROTOCOL_FEATURES, SET_PROTOCOL_FEATURES, GET_DISPLAY_INFO, CURSOR_POS, CURSOR_POS_HIDE, CURSOR_UPDATE, SCANOUT, UPDATE, DMABUF_SCANOUT, DMABUF_UPDATE, GET_EDID, DMABUF_SCANOUT2}

-- the requests in the order of their numbers, from 1 on
abbrev pub gpu_requests : List GpuBackendReq
gpu_requests = GET_PROTOCOL_FEATURES ∷ SET_PROTOCOL_FEATURES ∷ GET_DISPLAY_INFO ∷ CURSOR_POS ∷ CURSOR_POS_HIDE ∷ CURSOR_UPDATE ∷ SCANOUT ∷ UPDATE ∷ DMABUF_SCANOUT ∷ DMABUF_UPDATE ∷ GET_EDID ∷ DMABUF_SCANOUT2 ∷ []

-- the request of a number
abbrev pub gpu_request_of : ℕ → Option GpuBackendReq
gpu_request_of n = find n 1 gpu_requests

-- the same, or that there is none
abbrev pub gpu_request_at : ℕ → Result GpuBackendReq ⊤
gpu_request_at n = ok_or (gpu_request_of n) tt

-- the number of a request
abbrev pub gpu_request_number : GpuBackendReq → ℕ
gpu_request_number GET_PROTOCOL_FEATURES = 1
gpu_request_number SET_PROTOCOL_FEATURES = 2
gpu_request_number GET_DISPLAY_INFO = 3
gpu_request_number CURSOR_POS = 4
gpu_request_number CURSOR_POS_HIDE = 5
gpu_request_number CURSOR_UPDATE = 6
gpu_request_number SCANOUT = 7
gpu_request_number UPDATE = 8
gpu_request_number DMABUF_SCANOUT = 9
gpu_request_number DMABUF_UPDATE = 10
gpu_request_number GET_EDID = 11
gpu_request_number DMABUF_SCANOUT2 = 12

pub gpu_request_of-number : (r : GpuBackendReq) → gpu_request_of (gpu_request_number r) ≡ Some r
gpu_request_of-number GET_PROTOCOL_FEATURES = refl
gpu_request_of-number _ = refl

pub gpu_request_number-of : (n : ℕ) (r : GpuBackendReq) → gpu_request_of n ≡ Some r → gpu_request_number r ≡ n
gpu_request_number-of n r e = number-find gpu_request_number n 1 gpu_requests r refl e
