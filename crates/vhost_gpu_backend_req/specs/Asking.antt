-- What a call of the channel does.
use Rattle.std.specs.Prelude.{◌≡◌, ◌≢◌, ℕ, ◌<◌, ◌≤◌, List, [], Option, Some, None, true, false, Result, Ok, Err, codes}
use Rattle.vhost_message.specs.declared.error.Error as declared
use Rattle.vhost_message.specs.declared.io_error.IoError as declared_io
use Rattle.vhost_message.specs.Header.{Header}
use Rattle.vhost_gpu_message.specs.declared.gpu_backend_req.GpuBackendReq.{GpuBackendReq}
use Rattle.vhost_gpu_message.specs.declared.header.VhostUserGpuMsgHeader.{VhostUserGpuMsgHeader}
use Rattle.vhost_gpu_message.specs.declared.limits.TheConstants.{MAX_GPU_MSG_SIZE}
use Rattle.vhost_gpu_message.specs.GpuHeader.{gpu_fields_of}
use Rattle.vhost_protocol.specs.Error.{InvalidMessage, OversizedMsg, OutOfMemory, seen}
use Rattle.vhost_protocol.specs.Gpu.{GpuCall, GpuReply, GpuSent, gpu_row, gpu_head, gpu_cells, sent_by, gpu_refusal, gpu_take}
use Rattle.vhost_protocol.specs.IoError.{IoError, In, seen_io, seen_io_result}
use Rattle.vhost_protocol.specs.Stream.{Cell}
use Rattle.vhost_link.specs.Law.{Event}
use Rattle.vhost_connection.specs.Talk.{State}
use Rattle.vhost_connection.specs.Calls.{Sends}
use Rattle.vhost_connection.specs.Hearing.{Hears, Fails}
use Rattle.vhost_gpu_backend_req.specs.Channel.{Channel}

-- a record instead of its bytes
abbrev pub read_as : {T : Type 0} → (List ℕ → T) → Result (List ℕ) IoError → Result T IoError
read_as read (Ok bytes) = Ok (read bytes)
read_as read (Err e) = Err e

-- what came answers another request, or brought handles
abbrev pub unexpected : IoError
unexpected = In (codes "Unexpected reply") InvalidMessage

module _ {L H : Type 0} (event : L → Event H → L → Type 0) where
  -- The message went out whole. The list of handles for a reply was there before its first byte.
  pub record GoesOut (sent : GpuSent H) (old : Channel L H) (new : State L H) : Type 0 where
    pub alive : old.failed ≡ None
    pub fits : (gpu_head sent).size ≤ MAX_GPU_MSG_SIZE
    pub sends : Sends event (record old.endpoint { list = true }) (gpu_cells sent) (Ok tt) new

  -- It did not, and this is why: place is the step that sends.
  pub data Unsent (place : List ℕ) (sent : GpuSent H) (old : Channel L H) : IoError → Channel L H → Type 0 where
    -- the channel was marked as failed, and nothing changed
    refused : {e : IoError} → gpu_refusal old.failed ≡ Some e → Unsent place sent old e old
    -- there is no memory for another list of handles, and nothing changed
    no_memory : {new : Channel L H} → old.failed ≡ None → old.endpoint.list ≡ false → new ≡ old → Unsent place sent old (In (codes "check_state") OutOfMemory) new
    -- no header can say its size, and nothing was sent
    too_long : {new : Channel L H} → old.failed ≡ None → MAX_GPU_MSG_SIZE < (gpu_head sent).size → new ≡ record old { endpoint = record old.endpoint { list = true } }
        → Unsent place sent old (In place OversizedMsg) new
    -- the endpoint was broken, or a front of the message went out, and then the link failed
    stopped : {e : declared.Error} {new : Channel L H} → old.failed ≡ None → (gpu_head sent).size ≤ MAX_GPU_MSG_SIZE → Sends event (record old.endpoint { list = true }) (gpu_cells sent) (Err e) new.endpoint
        → new ≡ record old { endpoint = new.endpoint } → Unsent place sent old (In place (seen e)) new

  -- a message is sent; the answer is its header
  abbrev pub SendsRow : List ℕ → GpuSent H → Channel L H → Result (VhostUserGpuMsgHeader GpuBackendReq) declared_io.IoError → Channel L H → Type 0
  SendsRow place sent old (Ok header) new = (gpu_fields_of header ≡ gpu_head sent) × GoesOut sent old new.endpoint × (new ≡ record old { endpoint = new.endpoint })
  SendsRow place sent old (Err e) new = Unsent place sent old (seen_io e) new

  module _ {T : Type 0} (read : List ℕ → T) where
    -- A reply is received: the answer is that of what came, read as a record, and the list of handles is there again unless that was unexpected; or the link failed, and the endpoint is broken.
    pub data RecvsRecord (take : List (Cell H) → Result (List ℕ) IoError × List (Cell H)) (old : State L H) : Result T IoError → State L H → Type 0 where
      heard : {answer : Result (List ℕ) IoError} {result : Result T IoError} {new : State L H} → Hears event take old answer new → result ≡ read_as read answer → (result ≢ Err unexpected → new.list ≡ true) → RecvsRecord take old result new
      stopped : {e : declared.Error} {new : State L H} → Fails event old true e new → RecvsRecord take old (Err (In (codes "recv_body") (seen e))) new

    -- the answer is taken: where none is awaited nothing is read for it
    abbrev pub Takes : Option GpuReply → Header → State L H → Result T IoError → State L H → Type 0
    Takes None head old result new = (result ≡ Ok (read [])) × (new ≡ old)
    Takes (Some shape) head old result new = RecvsRecord (gpu_take (Some shape) head) old result new

    -- The message did not go out whole; or it did, and the answer was taken. Nothing but the endpoint changes.
    pub data Asks (place : List ℕ) (sent : GpuSent H) (old : Channel L H) : Result T IoError → Channel L H → Type 0 where
      unsent : {e : IoError} {new : Channel L H} → Unsent place sent old e new → Asks place sent old (Err e) new
      asked_for : {mid : State L H} {result : Result T IoError} {new : Channel L H} → GoesOut sent old mid → Takes sent.awaited (gpu_head sent) mid result new.endpoint
          → new ≡ record old { endpoint = new.endpoint } → Asks place sent old result new

    -- a call
    abbrev pub AsksCall : GpuCall H → Channel L H → Result T declared_io.IoError → Channel L H → Type 0
    AsksCall call old result new = Asks (sent_by call) (gpu_row call) old (seen_io_result result) new
