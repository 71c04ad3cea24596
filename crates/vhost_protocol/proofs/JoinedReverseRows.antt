-- Worked steps of both sides of the reverse channel joined: each holds by computing.
use Rattle.std.proofs.Common.{◌≡◌, ℕ, suc, pos, Bool, true, false, List, [], ◌∷◌, ◌++◌, replicate, Some, None, Result, Ok, Err, refl}
use Rattle.std.specs.Prelude.{codes}
use Rattle.vhost_protocol.specs.Error.{Raw, Named, InvalidMessage, PartialMessage, FrontendInternalError, ReqHandlerError}
use Rattle.vhost_protocol.specs.IoError.{IoError, Because, Of}
use Rattle.vhost_protocol.specs.JoinedReverse.{SetReplyAck, SetShmem, Asks, ReverseShown, ReverseJoinedStep, ReverseJoinedRun, reverse_unsent}
use Rattle.vhost_protocol.specs.Reverse.{ReverseCall, HandleConfigChange, SharedObjectAdd, ShmemMap, Backend, Server}
use Rattle.vhost_protocol.specs.Stream.{Cell, plain, carrying}

-- a device that counts its calls, and always answers the same
counts : Result ℕ IoError → ℕ → ReverseCall ℕ → Result ℕ IoError → ℕ → Type 0
counts answer old c a new = (a ≡ answer) × (new ≡ suc old)

backend : (ack shmem : Bool) → Backend
backend ack shmem = record { reply_ack = ack; shared_object = true; shmem = shmem; config_change = true; failed = None }

server : (ack : Bool) → Server
server ack = record { reply_ack = ack; failed = None }

-- the number of an answer, behind the header of a reply
numbered : ℕ → ℕ → List (Cell ℕ)
numbered request n = plain (request ∷ 0 ∷ 0 ∷ 0 ∷ 5 ∷ 0 ∷ 0 ∷ 0 ∷ 8 ∷ 0 ∷ 0 ∷ 0 ∷ n ∷ replicate 7 0)

-- a change of the configuration, with and without an answer that is awaited
changed : (awaited : ℕ) → List (Cell ℕ)
changed awaited = plain (2 ∷ 0 ∷ 0 ∷ 0 ∷ awaited ∷ replicate 7 0)

acknowledged : ReverseShown ℕ
acknowledged = record { request = changed 9; handled = Some (Ok 0); reply = numbered 2 0; result = Ok 0; last = false }

acknowledges : ReverseJoinedStep (counts (Ok 0)) (backend true true) (server true) 4 (Asks HandleConfigChange) acknowledged (backend true true) (server true) 5
unfolding counts backend server numbered changed acknowledged
acknowledges = ((_, (Ok 0, (refl, refl), refl), refl, refl, refl, refl, refl), refl, refl)

-- a device's own number comes back, but is no success
refused : ReverseShown ℕ
refused = record { request = changed 9; handled = Some (Ok 1); reply = numbered 2 1; result = Err (Of FrontendInternalError); last = false }

refuses : ReverseJoinedStep (counts (Ok 1)) (backend true true) (server true) 4 (Asks HandleConfigChange) refused (backend true true) (server true) 5
unfolding counts backend server numbered changed refused
refuses = ((_, (Ok 1, (refl, refl), refl), refl, refl, refl, refl, refl), refl, refl)

-- nobody awaits the answer: the caller is told of success at once, and the run ends with the device's error
unheard : ReverseShown ℕ
unheard = record { request = changed 1; handled = Some (Err (ReqHandlerError (Raw (pos 38)))); reply = []; result = Ok 0; last = true }

ends-unheard : ReverseJoinedStep (counts (Err (Because (Raw (pos 38))))) (backend false true) (server false) 4 (Asks HandleConfigChange) unheard (backend false true) (server false) 5
unfolding counts backend server changed unheard
ends-unheard = ((_, (Err (Because (Raw (pos 38))), (refl, refl), refl), refl, refl, refl, refl, refl), refl, refl)

-- a name that is none is refused in silence: the device is not asked, the awaited answer never comes, and the run ends
nameless : ReverseShown ℕ
nameless = record { request = plain (6 ∷ 0 ∷ 0 ∷ 0 ∷ 9 ∷ 0 ∷ 0 ∷ 0 ∷ 0x10 ∷ replicate 19 0); handled = Some (Err InvalidMessage); reply = []; result = Err (Of PartialMessage); last = true }

ends-nameless : ReverseJoinedStep (counts (Ok 0)) (backend true true) (server true) 4 (Asks (SharedObjectAdd (record { uuid = replicate 16 0 }))) nameless (backend true true) (server true) 4
unfolding counts backend server nameless
ends-nameless = ((_, (refl, refl), refl, refl, refl, refl, refl), refl, refl)

-- what was not agreed on is not sent, and the run goes on
unagreed : ReverseJoinedStep (counts (Ok 0)) (backend true false) (server true) 4
    (Asks (ShmemMap (record { shmid = 0; padding = replicate 7 0; fd_offset = 0; shm_offset = 0; len = 1; flags = 0 }) 7))
    (reverse_unsent (Err (Because (Named (codes "SHMEM feature not negotiated"))))) (backend true false) (server true) 4
unfolding counts backend server
unagreed = ((refl, refl), refl, refl)

-- the flag for acknowledgements is that of both sides
agrees : ReverseJoinedStep (counts (Ok 0)) (backend false true) (server false) 4 (SetReplyAck true) (reverse_unsent (Ok 0)) (backend true true) (server true) 4
unfolding counts backend server
agrees = (refl, refl, refl, refl)

-- both flags, and then an acknowledged mapping with its handle
mapped : ReverseShown ℕ
mapped = record {
  request = carrying (7 ∷ []) (9 ∷ 0 ∷ 0 ∷ 0 ∷ 9 ∷ 0 ∷ 0 ∷ 0 ∷ 0x28 ∷ replicate 27 0 ++ 1 ∷ replicate 15 0);
  handled = Some (Ok 0);
  reply = numbered 9 0;
  result = Ok 0;
  last = false;
}

a-run : ReverseJoinedRun (counts (Ok 0)) (backend false false) (server false) 4
    ((SetReplyAck true, Ok 0) ∷ (SetShmem true, Ok 0) ∷ (Asks (ShmemMap (record { shmid = 0; padding = replicate 7 0; fd_offset = 0; shm_offset = 0; len = 1; flags = 0 }) 7), Ok 0) ∷ [])
    (backend true true) (server true) 5
unfolding counts backend server numbered mapped
a-run =
    let one : ReverseShown ℕ = reverse_unsent (Ok 0) in (
      one,
      backend true false,
      server true,
      4,
      (refl, refl, refl, refl),
      refl,
      (λ last. absurd (cc last)),
      (
        one,
        backend true true,
        server true,
        4,
        (refl, refl, refl, refl),
        refl,
        (λ last. absurd (cc last)),
        (
          mapped,
          backend true true,
          server true,
          5,
          ((_, (Ok 0, (refl, refl), refl), refl, refl, refl, refl, refl), refl, refl),
          refl,
          (λ last. absurd (cc last)),
          (refl, refl, refl),
        ),
      ),
    )
