-- The requests of a frontend and their numbers.
use Rattle.std.specs.Prelude.{◌≡◌, ℕ, List, [], ◌∷◌, Option, Some, Result, ok_or, refl, ⊤}
use Rattle.vhost_message.specs.Codes.{find, number-find}
use Rattle.vhost_message.specs.declared.frontend_req.FrontendReq.{FrontendReq}
use Rattle.vhost_message.specs.declared.frontend_req.FrontendReq.TheVariants.{GET_FEATURES, SET_FEATURES, SET_OWNER, RESET_OWNER, SET_MEM_TABLE, SET_LOG_BASE, SET_LOG_FD, SET_VRING_NUM, SET_VRING_ADDR, SET_VRING_BASE, GET_VRING_BASE, SET_VRING_KICK, SET_VRING_CALL, SET_VRING_ERR, GET_PROTOCOL_FEATURES, SET_PROTOCOL_FEATURES, GET_QUEUE_NUM, SET_VRING_ENABLE, SEND_RARP, NET_SET_MTU, SET_BACKEND_REQ_FD, IOTLB_MSG, SET_VRING_ENDIAN, GET_CONFIG, SET_CONFIG, CREATE_CRYPTO_SESSION, CLOSE_CRYPTO_SESSION, POSTCOPY_ADVISE, POSTCOPY_LISTEN, POSTCOPY_END, GET_INFLIGHT_FD, SET_INFLIGHT_FD, GPU_SET_SOCKET, RESET_DEVICE, VRING_KICK, GET_MAX_MEM_SLOTS, ADD_MEM_REG, REM_MEM_REG, SET_STATUS, GET_STATUS, GET_SHARED_OBJECT, SET_DEVICE_STATE_FD, CHECK_DEVICE_STATE, GET_SHMEM_CONFIG}

-- the requests in the order of their numbers, from 1 on
abbrev pub frontend_requests : List FrontendReq
frontend_requests = GET_FEATURES ∷ SET_FEATURES ∷ SET_OWNER ∷ RESET_OWNER ∷ SET_MEM_TABLE ∷ SET_LOG_BASE ∷ SET_LOG_FD ∷ SET_VRING_NUM ∷ SET_VRING_ADDR ∷ SET_VRING_BASE ∷ GET_VRING_BASE ∷ SET_VRING_KICK ∷ SET_VRING_CALL ∷ SET_VRING_ERR ∷ GET_PROTOCOL_FEATURES ∷ SET_PROTOCOL_FEATURES ∷ GET_QUEUE_NUM ∷ SET_VRING_ENABLE ∷ SEND_RARP ∷ NET_SET_MTU ∷ SET_BACKEND_REQ_FD ∷ IOTLB_MSG ∷ SET_VRING_ENDIAN ∷ GET_CONFIG ∷ SET_CONFIG ∷ CREATE_CRYPTO_SESSION ∷ CLOSE_CRYPTO_SESSION ∷ POSTCOPY_ADVISE ∷ POSTCOPY_LISTEN ∷ POSTCOPY_END ∷ GET_INFLIGHT_FD ∷ SET_INFLIGHT_FD ∷ GPU_SET_SOCKET ∷ RESET_DEVICE ∷ VRING_KICK ∷ GET_MAX_MEM_SLOTS ∷ ADD_MEM_REG ∷ REM_MEM_REG ∷ SET_STATUS ∷ GET_STATUS ∷ GET_SHARED_OBJECT ∷ SET_DEVICE_STATE_FD ∷ CHECK_DEVICE_STATE ∷ GET_SHMEM_CONFIG ∷ []

-- the request of a number
abbrev pub frontend_request_of : ℕ → Option FrontendReq
frontend_request_of n = find n 1 frontend_requests

-- the same, or that there is none
abbrev pub frontend_request_at : ℕ → Result FrontendReq ⊤
frontend_request_at n = ok_or (frontend_request_of n) tt

-- the number of a request
abbrev pub frontend_request_number : FrontendReq → ℕ
frontend_request_number GET_FEATURES = 1
frontend_request_number SET_FEATURES = 2
frontend_request_number SET_OWNER = 3
frontend_request_number RESET_OWNER = 4
frontend_request_number SET_MEM_TABLE = 5
frontend_request_number SET_LOG_BASE = 6
frontend_request_number SET_LOG_FD = 7
frontend_request_number SET_VRING_NUM = 8
frontend_request_number SET_VRING_ADDR = 9
frontend_request_number SET_VRING_BASE = 10
frontend_request_number GET_VRING_BASE = 11
frontend_request_number SET_VRING_KICK = 12
frontend_request_number SET_VRING_CALL = 13
frontend_request_number SET_VRING_ERR = 14
frontend_request_number GET_PROTOCOL_FEATURES = 15
frontend_request_number SET_PROTOCOL_FEATURES = 16
frontend_request_number GET_QUEUE_NUM = 17
frontend_request_number SET_VRING_ENABLE = 18
frontend_request_number SEND_RARP = 19
frontend_request_number NET_SET_MTU = 20
frontend_request_number SET_BACKEND_REQ_FD = 21
frontend_request_number IOTLB_MSG = 22
frontend_request_number SET_VRING_ENDIAN = 23
frontend_request_number GET_CONFIG = 24
frontend_request_number SET_CONFIG = 25
frontend_request_number CREATE_CRYPTO_SESSION = 26
frontend_request_number CLOSE_CRYPTO_SESSION = 27
frontend_request_number POSTCOPY_ADVISE = 28
frontend_request_number POSTCOPY_LISTEN = 29
frontend_request_number POSTCOPY_END = 30
frontend_request_number GET_INFLIGHT_FD = 31
frontend_request_number SET_INFLIGHT_FD = 32
frontend_request_number GPU_SET_SOCKET = 33
frontend_request_number RESET_DEVICE = 34
frontend_request_number VRING_KICK = 35
frontend_request_number GET_MAX_MEM_SLOTS = 36
frontend_request_number ADD_MEM_REG = 37
frontend_request_number REM_MEM_REG = 38
frontend_request_number SET_STATUS = 39
frontend_request_number GET_STATUS = 40
frontend_request_number GET_SHARED_OBJECT = 41
frontend_request_number SET_DEVICE_STATE_FD = 42
frontend_request_number CHECK_DEVICE_STATE = 43
frontend_request_number GET_SHMEM_CONFIG = 44

pub frontend_request_of-number : (r : FrontendReq) → frontend_request_of (frontend_request_number r) ≡ Some r
frontend_request_of-number GET_FEATURES = refl
frontend_request_of-number _ = refl

pub frontend_request_number-of : (n : ℕ) (r : FrontendReq) → frontend_request_of n ≡ Some r → frontend_request_number r ≡ n
frontend_request_number-of n r e = number-find frontend_request_number n 1 frontend_requests r refl e
