-- A device is called as a step of the table says.
use Rattle.std.specs.Prelude.{◌≡◌, List, Option, Some, None, ◌⊎◌, Result, Ok, Err, ⊤}
use Rattle.vhost_message.specs.declared.heard_req.HeardReq.{HeardReq}
use Rattle.vhost_message.specs.declared.records.memory.VhostUserMemoryRegion.{VhostUserMemoryRegion}
use Rattle.vhost_message.specs.declared.records.shmem.VhostUserShMemConfig.{VhostUserShMemConfig}
use Rattle.vhost_message.specs.declared.error.Error as declared
use Rattle.vhost_protocol.specs.DeviceCall.{Call, Answer, SetBackendReqFd, SetGpuSocket}
use Rattle.vhost_protocol.specs.Error.{Error, InvalidMessage, seen_result}
use Rattle.vhost_protocol.specs.Session.{Session}
use Rattle.vhost_protocol.specs.Split.{Message}
use Rattle.vhost_protocol.specs.Step.{Step, Refused, Calls, OpensBackend, OpensGpu, silently}
use Rattle.vhost_backend_req_handler_core.specs.Beginning.{step_of}
use Rattle.vhost_backend_req_handler_core.specs.Concluding.{Beside, answer_in, done_in}
use Rattle.vhost_backend_req_handler_core.specs.declared.answer.DeviceAnswer.{DeviceAnswer}
use Rattle.vhost_backend_req_handler_core.specs.declared.call.DeviceCall.{DeviceCall}

-- a channel to the frontend was opened and given to the device, or could not be opened
abbrev pub GivesBackend : {H B G Dev : Type 0} → (Dev → (c : Call H B G) → Answer c → Dev → Type 0) → (H → Result B Error → Type 0) → Dev → H → Result ⊤ declared.Error → Dev → Type 0
GivesBackend {B = B} gives opens d h result d' =
    ((channel : B) × opens h (Ok channel) × (seen_result result ≡ Ok tt) × gives d (SetBackendReqFd channel) tt d')
    ⊎ ((e : Error) × opens h (Err e) × (seen_result result ≡ Err e) × (d' ≡ d))

-- the same of the channel to a display
abbrev pub GivesGpu : {H B G Dev : Type 0} → (Dev → (c : Call H B G) → Answer c → Dev → Type 0) → (H → Result G Error → Type 0) → Dev → H → Result ⊤ declared.Error → Dev → Type 0
GivesGpu {G = G} gives opens d h result d' =
    ((channel : G) × opens h (Ok channel) × gives d (SetGpuSocket channel) (seen_result result) d')
    ⊎ ((e : Error) × opens h (Err e) × (seen_result result ≡ Err e) × (d' ≡ d))

-- what lies beside a call and its answer
abbrev pub beside : List VhostUserMemoryRegion → VhostUserShMemConfig → Beside
beside rs place = record { regions = rs; shmem = place }

module _ {H B G Dev : Type 0} (gives : Dev → (c : Call H B G) → Answer c → Dev → Type 0)
    (opens_backend : H → Result B Error → Type 0) (opens_gpu : H → Result G Error → Type 0) where
  -- The device is called once, and this is its answer; or the channel that the call wants could not be opened, which is the
  -- answer then. There is none where the step refuses.
  abbrev pub Called : Dev → Beside → Step H B G → Option (DeviceAnswer H) → Dev → Type 0
  Called d b (Refused r) None d' = (r ≡ silently InvalidMessage) × (d' ≡ d)
  Called d b (Refused r) (Some a) d' = ⊥
  Called d b (Calls c next) None d' = ⊥
  Called d b (Calls c next) (Some a) d' = gives d c (answer_in b c a) d'
  Called d b (OpensBackend h next) None d' = ⊥
  Called d b (OpensBackend h next) (Some a) d' =
      ((channel : B) × opens_backend h (Ok channel) × (done_in a ≡ Ok tt) × Called d b (next (Ok channel)) (Some a) d')
      ⊎ ((e : Error) × opens_backend h (Err e) × (done_in a ≡ Err e) × (d' ≡ d))
  Called d b (OpensGpu h next) None d' = ⊥
  Called d b (OpensGpu h next) (Some a) d' =
      ((channel : G) × opens_gpu h (Ok channel) × Called d b (next (Ok channel)) (Some a) d')
      ⊎ ((e : Error) × opens_gpu h (Err e) × (done_in a ≡ Err e) × (d' ≡ d))

  -- a call with these handles, whatever else its message holds
  abbrev pub CalledWith : Dev → VhostUserShMemConfig → DeviceCall → List H → Option (DeviceAnswer H) → Dev → Type 0
  CalledWith d place c hs result d' = (s : Session) (m : Message HeardReq H) (rs : List VhostUserMemoryRegion)
      → Called d (beside rs place) (step_of s (record m { handles = hs }) c) result d'
