-- The requests of a backend and their numbers.
use Rattle.std.specs.Prelude.{◌≡◌, ℕ, List, [], ◌∷◌, Option, Some, Result, ok_or, refl, ⊤}
use Rattle.vhost_message.specs.Codes.{find, number-find}
use Rattle.vhost_message.specs.declared.backend_req.BackendReq.{BackendReq}
use Rattle.vhost_message.specs.declared.backend_req.BackendReq.TheVariants.{IOTLB_MSG, CONFIG_CHANGE_MSG, VRING_HOST_NOTIFIER_MSG, VRING_CALL, VRING_ERR, SHARED_OBJECT_ADD, SHARED_OBJECT_REMOVE, SHARED_OBJECT_LOOKUP, SHMEM_MAP, SHMEM_UNMAP}

-- the requests in the order of their numbers, from 1 on
abbrev pub backend_requests : List BackendReq
backend_requests = IOTLB_MSG ∷ CONFIG_CHANGE_MSG ∷ VRING_HOST_NOTIFIER_MSG ∷ VRING_CALL ∷ VRING_ERR ∷ SHARED_OBJECT_ADD ∷ SHARED_OBJECT_REMOVE ∷ SHARED_OBJECT_LOOKUP ∷ SHMEM_MAP ∷ SHMEM_UNMAP ∷ []

-- the request of a number
abbrev pub backend_request_of : ℕ → Option BackendReq
backend_request_of n = find n 1 backend_requests

-- the same, or that there is none
abbrev pub backend_request_at : ℕ → Result BackendReq ⊤
backend_request_at n = ok_or (backend_request_of n) tt

-- the number of a request
abbrev pub backend_request_number : BackendReq → ℕ
backend_request_number IOTLB_MSG = 1
backend_request_number CONFIG_CHANGE_MSG = 2
backend_request_number VRING_HOST_NOTIFIER_MSG = 3
backend_request_number VRING_CALL = 4
backend_request_number VRING_ERR = 5
backend_request_number SHARED_OBJECT_ADD = 6
backend_request_number SHARED_OBJECT_REMOVE = 7
backend_request_number SHARED_OBJECT_LOOKUP = 8
backend_request_number SHMEM_MAP = 9
backend_request_number SHMEM_UNMAP = 10

pub backend_request_of-number : (r : BackendReq) → backend_request_of (backend_request_number r) ≡ Some r
backend_request_of-number IOTLB_MSG = refl
backend_request_of-number _ = refl

pub backend_request_number-of : (n : ℕ) (r : BackendReq) → backend_request_of n ≡ Some r → backend_request_number r ≡ n
backend_request_number-of n r e = number-find backend_request_number n 1 backend_requests r refl e
