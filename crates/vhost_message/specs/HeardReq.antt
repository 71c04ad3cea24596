-- What a backend may hear as a request, and its number.
use Rattle.std.specs.Prelude.{◌≡◌, ℕ, Bool, true, false, List, [], ◌∷◌, Option, Some, None, Result, ok_or, unwrap_or, refl, ⊤}
use Rattle.std.proofs.Common.{ap, sym, ◌∙◌}
use Rattle.vhost_message.specs.Codes.{find, number-find}
use Rattle.vhost_message.specs.FrontendReq.{frontend_request_number}
use Rattle.vhost_message.specs.declared.frontend_req.FrontendReq.{FrontendReq}
use Rattle.vhost_message.specs.declared.heard_req.HeardReq.{HeardReq}
use Rattle.vhost_message.specs.declared.heard_req.HeardReq.TheVariants.{GET_FEATURES, SET_FEATURES, SET_OWNER, RESET_OWNER, SET_MEM_TABLE, SET_LOG_BASE, SET_LOG_FD, SET_VRING_NUM, SET_VRING_ADDR, SET_VRING_BASE, GET_VRING_BASE, SET_VRING_KICK, SET_VRING_CALL, SET_VRING_ERR, GET_PROTOCOL_FEATURES, SET_PROTOCOL_FEATURES, GET_QUEUE_NUM, SET_VRING_ENABLE, SEND_RARP, NET_SET_MTU, SET_BACKEND_REQ_FD, IOTLB_MSG, SET_VRING_ENDIAN, GET_CONFIG, SET_CONFIG, CREATE_CRYPTO_SESSION, CLOSE_CRYPTO_SESSION, POSTCOPY_ADVISE, POSTCOPY_LISTEN, POSTCOPY_END, GET_INFLIGHT_FD, SET_INFLIGHT_FD, GPU_SET_SOCKET, RESET_DEVICE, VRING_KICK, GET_MAX_MEM_SLOTS, ADD_MEM_REG, REM_MEM_REG, SET_STATUS, GET_STATUS, GET_SHARED_OBJECT, SET_DEVICE_STATE_FD, CHECK_DEVICE_STATE, GET_SHMEM_CONFIG, OTHER}

-- the requests in the order of their numbers, from 1 on
abbrev pub requests : List HeardReq
requests = GET_FEATURES ∷ SET_FEATURES ∷ SET_OWNER ∷ RESET_OWNER ∷ SET_MEM_TABLE ∷ SET_LOG_BASE ∷ SET_LOG_FD ∷ SET_VRING_NUM ∷ SET_VRING_ADDR ∷ SET_VRING_BASE ∷ GET_VRING_BASE ∷ SET_VRING_KICK ∷ SET_VRING_CALL ∷ SET_VRING_ERR ∷ GET_PROTOCOL_FEATURES ∷ SET_PROTOCOL_FEATURES ∷ GET_QUEUE_NUM ∷ SET_VRING_ENABLE ∷ SEND_RARP ∷ NET_SET_MTU ∷ SET_BACKEND_REQ_FD ∷ IOTLB_MSG ∷ SET_VRING_ENDIAN ∷ GET_CONFIG ∷ SET_CONFIG ∷ CREATE_CRYPTO_SESSION ∷ CLOSE_CRYPTO_SESSION ∷ POSTCOPY_ADVISE ∷ POSTCOPY_LISTEN ∷ POSTCOPY_END ∷ GET_INFLIGHT_FD ∷ SET_INFLIGHT_FD ∷ GPU_SET_SOCKET ∷ RESET_DEVICE ∷ VRING_KICK ∷ GET_MAX_MEM_SLOTS ∷ ADD_MEM_REG ∷ REM_MEM_REG ∷ SET_STATUS ∷ GET_STATUS ∷ GET_SHARED_OBJECT ∷ SET_DEVICE_STATE_FD ∷ CHECK_DEVICE_STATE ∷ GET_SHMEM_CONFIG ∷ []

-- the request of a number
abbrev pub request_of : ℕ → Option HeardReq
request_of n = find n 1 requests

-- the same where any number is a request's: one that has no name stands for itself
abbrev pub heard_request : ℕ → HeardReq
heard_request n = unwrap_or (request_of n) (OTHER n)

-- so each number is one
abbrev pub any_request : ℕ → Option HeardReq
any_request n = Some (heard_request n)

-- what a frontend's request is heard as
abbrev pub heard : FrontendReq → HeardReq
heard r = heard_request (frontend_request_number r)

-- the same, or that there is none
abbrev pub request_at : ℕ → Result HeardReq ⊤
request_at n = ok_or (request_of n) tt

-- the number of a request
abbrev pub request_number : HeardReq → ℕ
-- generated from protocol/requests.toml: numbers
request_number GET_FEATURES = 1
request_number SET_FEATURES = 2
request_number SET_OWNER = 3
request_number RESET_OWNER = 4
request_number SET_MEM_TABLE = 5
request_number SET_LOG_BASE = 6
request_number SET_LOG_FD = 7
request_number SET_VRING_NUM = 8
request_number SET_VRING_ADDR = 9
request_number SET_VRING_BASE = 10
request_number GET_VRING_BASE = 11
request_number SET_VRING_KICK = 12
request_number SET_VRING_CALL = 13
request_number SET_VRING_ERR = 14
request_number GET_PROTOCOL_FEATURES = 15
request_number SET_PROTOCOL_FEATURES = 16
request_number GET_QUEUE_NUM = 17
request_number SET_VRING_ENABLE = 18
request_number SEND_RARP = 19
request_number NET_SET_MTU = 20
request_number SET_BACKEND_REQ_FD = 21
request_number IOTLB_MSG = 22
request_number SET_VRING_ENDIAN = 23
request_number GET_CONFIG = 24
request_number SET_CONFIG = 25
request_number CREATE_CRYPTO_SESSION = 26
request_number CLOSE_CRYPTO_SESSION = 27
request_number POSTCOPY_ADVISE = 28
request_number POSTCOPY_LISTEN = 29
request_number POSTCOPY_END = 30
request_number GET_INFLIGHT_FD = 31
request_number SET_INFLIGHT_FD = 32
request_number GPU_SET_SOCKET = 33
request_number RESET_DEVICE = 34
request_number VRING_KICK = 35
request_number GET_MAX_MEM_SLOTS = 36
request_number ADD_MEM_REG = 37
request_number REM_MEM_REG = 38
request_number SET_STATUS = 39
request_number GET_STATUS = 40
request_number GET_SHARED_OBJECT = 41
request_number SET_DEVICE_STATE_FD = 42
request_number CHECK_DEVICE_STATE = 43
request_number GET_SHMEM_CONFIG = 44
-- end
request_number (OTHER n) = n

-- the request has a name
abbrev pub is_named : HeardReq → Bool
is_named (OTHER n) = false
is_named _ = true

pub request_of-request_number : (r : HeardReq) → is_named r ≡ true → request_of (request_number r) ≡ Some r
request_of-request_number (OTHER n) named = absurd (cc named)
request_of-request_number _ named = refl

pub request_number-request_of : (n : ℕ) (r : HeardReq) → request_of n ≡ Some r → request_number r ≡ n
request_number-request_of n r e = number-find request_number n 1 requests r refl e

-- the request of a number is that also where any number is one
pub any-is_named : (n : ℕ) (r : HeardReq) → request_of n ≡ Some r → any_request n ≡ Some r
any-is_named n r e = ap (λ o. Some (unwrap_or o (OTHER n))) e

pub request_number-any : (n : ℕ) (r : HeardReq) → any_request n ≡ Some r → request_number r ≡ n
request_number-any n r e = go (request_of n) refl e
  where
    go : (o : Option HeardReq) → request_of n ≡ o → Some (unwrap_or o (OTHER n)) ≡ Some r → request_number r ≡ n
    go (Some q) is same = ap request_number (sym (ap (λ x. unwrap_or x q) same)) ∙ request_number-request_of n q is
    go None is same = ap request_number (sym (ap (λ x. unwrap_or x (OTHER n)) same))
