-- Worked rows of the reverse channel: each holds by computing.
use Rattle.std.proofs.Common.{◌≡◌, ℕ, pos, negsuc, Bool, true, false, List, [], ◌∷◌, replicate, Option, Some, None, Result, Ok, Err, refl}
use Rattle.std.specs.Prelude.{codes}
use Rattle.vhost_message.specs.BackendReq.{backend_request_number}
use Rattle.vhost_message.specs.declared.backend_req.BackendReq.{BackendReq}
use Rattle.vhost_message.specs.declared.backend_req.BackendReq.TheVariants.{VRING_CALL}
use Rattle.vhost_protocol.specs.Error.{Error, Raw, Named, InvalidMessage, PartialMessage, FrontendInternalError, ReqHandlerError}
use Rattle.vhost_protocol.specs.IoError.{IoError, Because, Of}
use Rattle.vhost_protocol.specs.Joined.{read_as}
use Rattle.vhost_protocol.specs.Reverse.{ReverseCall, HandleConfigChange, SharedObjectAdd, ShmemMap, Backend, ReverseAsked, Refuses, Sends, reverse_ask, reverse_answer, Server, ReverseOutcome, ReverseStep, Refused, Calls, reverse_row, error_number}
use Rattle.vhost_protocol.specs.Served.{Replied, reply}
use Rattle.vhost_protocol.specs.Written.{Written, U64, written_text}

backend : Bool → Bool → Backend
backend ack on = record { reply_ack = ack; shared_object = on; shmem = on; config_change = on; failed = None }

server : Bool → Server
server ack = record { reply_ack = ack; failed = None }

outcome : Result ℕ IoError → ReverseStep ℕ → ReverseOutcome ℕ
outcome given (Refused o) = o
outcome given (Calls c next) = next given

-- request, reply, the handler's answer and the caller's
line : Bool → Result ℕ IoError → ReverseCall ℕ → List ℕ × List ℕ × Option (Result ℕ Error) × Option (Result ℕ IoError)
line ack given call = go (reverse_ask (backend ack true) call)
  where
    text_of : Option (Written BackendReq ℕ) → List ℕ
    text_of None = []
    text_of (Some w) = written_text backend_request_number w

    go : ReverseAsked ℕ → List ℕ × List ℕ × Option (Result ℕ Error) × Option (Result ℕ IoError)
    go (Refuses e) = ([], [], None, Some (Err e))
    go (Sends w awaited) =
        let o = outcome given (reverse_row (server ack) (read_as w)) in
        (written_text backend_request_number w, text_of (reply w.request o.served), Some o.answer, reverse_answer awaited o.served)

bytes_of : List ℕ
bytes_of = 1 ∷ 2 ∷ 3 ∷ 4 ∷ 5 ∷ 6 ∷ 7 ∷ 8 ∷ 9 ∷ 10 ∷ 11 ∷ 12 ∷ 13 ∷ 14 ∷ 15 ∷ 16 ∷ []

added : line true (Ok 0) (SharedObjectAdd (record { uuid = bytes_of }))
    ≡ (6 ∷ 0 ∷ 0 ∷ 0 ∷ 9 ∷ 0 ∷ 0 ∷ 0 ∷ 0x10 ∷ 0 ∷ 0 ∷ 0 ∷ bytes_of, 6 ∷ 0 ∷ 0 ∷ 0 ∷ 5 ∷ 0 ∷ 0 ∷ 0 ∷ 8 ∷ replicate 11 0, Some (Ok 0), Some (Ok 0))
unfolding line outcome backend server bytes_of
added = refl

again : line true (Ok 1) (SharedObjectAdd (record { uuid = bytes_of }))
    ≡ (6 ∷ 0 ∷ 0 ∷ 0 ∷ 9 ∷ 0 ∷ 0 ∷ 0 ∷ 0x10 ∷ 0 ∷ 0 ∷ 0 ∷ bytes_of, 6 ∷ 0 ∷ 0 ∷ 0 ∷ 5 ∷ 0 ∷ 0 ∷ 0 ∷ 8 ∷ 0 ∷ 0 ∷ 0 ∷ 1 ∷ replicate 7 0, Some (Ok 1), Some (Err (Of FrontendInternalError)))
unfolding line outcome backend server bytes_of
again = refl

nil_silent : line false (Ok 0) (SharedObjectAdd (record { uuid = replicate 16 0 }))
    ≡ (6 ∷ 0 ∷ 0 ∷ 0 ∷ 1 ∷ 0 ∷ 0 ∷ 0 ∷ 0x10 ∷ replicate 19 0, [], Some (Err InvalidMessage), Some (Ok 0))
unfolding line outcome backend server
nil_silent = refl

nil_awaited : line true (Ok 0) (SharedObjectAdd (record { uuid = replicate 16 0 }))
    ≡ (6 ∷ 0 ∷ 0 ∷ 0 ∷ 9 ∷ 0 ∷ 0 ∷ 0 ∷ 0x10 ∷ replicate 19 0, [], Some (Err InvalidMessage), Some (Err (Of PartialMessage)))
unfolding line outcome backend server
nil_awaited = refl

changed_silent : line false (Ok 0) HandleConfigChange ≡ (2 ∷ 0 ∷ 0 ∷ 0 ∷ 1 ∷ replicate 7 0, [], Some (Ok 0), Some (Ok 0))
unfolding line outcome backend server
changed_silent = refl

changed : line true (Ok 0) HandleConfigChange ≡ (2 ∷ 0 ∷ 0 ∷ 0 ∷ 9 ∷ replicate 7 0, 2 ∷ 0 ∷ 0 ∷ 0 ∷ 5 ∷ 0 ∷ 0 ∷ 0 ∷ 8 ∷ replicate 11 0, Some (Ok 0), Some (Ok 0))
unfolding line outcome backend server
changed = refl

changed_in_vain : line true (Err (Because (Raw (pos 38)))) HandleConfigChange
    ≡ (2 ∷ 0 ∷ 0 ∷ 0 ∷ 9 ∷ replicate 7 0, 2 ∷ 0 ∷ 0 ∷ 0 ∷ 5 ∷ 0 ∷ 0 ∷ 0 ∷ 8 ∷ 0 ∷ 0 ∷ 0 ∷ 0xda ∷ replicate 7 0xff, Some (Err (ReqHandlerError (Raw (pos 38)))), Some (Err (Of FrontendInternalError)))
unfolding line outcome backend server
changed_in_vain = refl

unagreed : reverse_ask {H = ℕ} (backend true false) HandleConfigChange ≡ Refuses (Because (Raw (pos 38)))
unfolding backend
unagreed = refl

raw_38 : error_number (Because (Raw (pos 38))) ≡ 0xFFFFFFFFFFFFFFDA
raw_38 = refl

raw_least : error_number (Because (Raw (negsuc 0x7FFFFFFF))) ≡ 0xFFFFFFFFFFFFFFEA
raw_least = refl

raw_0 : error_number (Because (Raw (pos 0))) ≡ 0
raw_0 = refl

too_soon : reverse_ask {H = ℕ} (backend true false) (ShmemMap (record { shmid = 0; padding = replicate 7 0; fd_offset = 0; shm_offset = 0; len = 1; flags = 0 }) 7) ≡ Refuses (Because (Named (codes "SHMEM feature not negotiated")))
unfolding backend
too_soon = refl

unserved : (outcome (Ok 0) (reverse_row (server true) (record { request = VRING_CALL; reply = false; need_reply = true; body = []; handles = [] }))).served ≡ Replied (U64 0xffffffffffffffea) []
unfolding outcome server
unserved = refl
