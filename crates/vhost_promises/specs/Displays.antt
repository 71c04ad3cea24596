-- What a device asks a display, as its caller derives it.
use Rattle.std.specs.Prelude.{◌≡◌, ℕ, ◌+◌, ◌<◌, ◌≤◌, List, [], Bool, true, false, Option, Some, None, Result, Ok, Err}
use Rattle.vhost_message.specs.declared.error.Error as declared
use Rattle.vhost_message.specs.declared.io_error.IoError as declared_io
use Rattle.vhost_message.specs.Header.{Header, is_reply_for}
use Rattle.vhost_gpu_message.specs.declared.limits.TheConstants.{MAX_GPU_MSG_SIZE}
use Rattle.vhost_gpu_message.specs.GpuBackendReq.{gpu_request_of}
use Rattle.vhost_protocol.specs.Error.{OversizedMsg, seen}
use Rattle.vhost_protocol.specs.Gpu.{GpuCall, GpuReply, GpuSent, gpu_row, gpu_head, gpu_cells, gpu_refusal, gpu_record_size, gpu_take, is_known_gpu, sent_by}
use Rattle.vhost_protocol.specs.IoError.{IoError, In, seen_io}
use Rattle.vhost_protocol.specs.ReplySplit.{Received, reply_split}
use Rattle.vhost_protocol.specs.Row.{always}
use Rattle.vhost_protocol.specs.Stream.{Cell, heard}
use Rattle.vhost_link.specs.Law.{Event}
use Rattle.vhost_connection.specs.Talk.{State}
use Rattle.vhost_gpu_backend_req.specs.Channel.{Channel}
use Rattle.vhost_promises.specs.Calls.{Exchanges, HasReason, is_io_fault}

-- These cells are the reply to a request with this header, of this shape: it brings no handles, and its record has these bytes.
pub record Shows {H : Type 0} (shape : GpuReply) (sent : Header) (cells : List (Cell H)) (bytes : List ℕ) : Type 0 where
  pub reply : Received H
  pub read : reply_split is_known_gpu (gpu_record_size shape) always 0 cells ≡ (Ok reply, [])
  pub answers : is_reply_for gpu_request_of reply.header sent ≡ true
  pub handles : reply.handles ≡ []
  pub body : reply.body ≡ bytes

module _ {L H : Type 0} (event : L → Event H → L → Type 0) where
  -- a message went out, and where a reply is awaited it came with these bytes, and the list of handles is there again
  abbrev pub IsShown : Option GpuReply → GpuSent H → List ℕ → State L H → State L H → Type 0
  IsShown None sent bytes old new = Exchanges event old.budget (gpu_cells sent) [] old new × (bytes ≡ [])
  IsShown (Some shape) sent bytes old new = (cells : List (Cell H)) × (ended : Bool) × Exchanges event (old.budget + old.budget) (gpu_cells sent) (heard cells ended) old new
      × Shows shape (gpu_head sent) cells bytes × (new.list ≡ true)

  module _ {T : Type 0} (read : List ℕ → T) where
    -- A call succeeded: exactly its row went out, and its answer is what came.
    pub record IsDone (call : GpuCall H) (old : Channel L H) (answer : T) (new : Channel L H) : Type 0 where
      pub alive : old.failed ≡ None
      pub fits : (gpu_head (gpu_row call)).size ≤ MAX_GPU_MSG_SIZE
      pub bytes : List ℕ
      pub answered : answer ≡ read bytes
      pub shown : IsShown (gpu_row call).awaited (gpu_row call) bytes old.endpoint new.endpoint
      pub others : new ≡ record old { endpoint = new.endpoint }

  -- A call did not.
  pub data IsNotDone (call : GpuCall H) (old : Channel L H) : IoError → Channel L H → Type 0 where
    -- the channel was marked as failed, and nothing changed
    refused : {e : IoError} → gpu_refusal old.failed ≡ Some e → IsNotDone call old e old
    -- no header can say its size, and nothing went out
    too_long : {new : Channel L H} → MAX_GPU_MSG_SIZE < (gpu_head (gpu_row call)).size → new ≡ record old { endpoint = record old.endpoint { list = true } } → IsNotDone call old (In (sent_by call) OversizedMsg) new
    -- its message went out, and this is what the reply that came says
    answered : {e : IoError} {new : Channel L H} (shape : GpuReply) → (gpu_row call).awaited ≡ Some shape → (cells : List (Cell H)) (ended : Bool)
        → Exchanges event (old.endpoint.budget + old.endpoint.budget) (gpu_cells (gpu_row call)) (heard cells ended) old.endpoint new.endpoint
        → gpu_take (Some shape) (gpu_head (gpu_row call)) cells ≡ (Err e, []) → is_io_fault e ≡ false → IsNotDone call old e new
    -- the link failed, or memory was wanted, at this step
    fault : {place : List ℕ} {e : declared.Error} {new : Channel L H} → HasReason event old.endpoint e new.endpoint → IsNotDone call old (In place (seen e)) new

  -- by its result
  abbrev pub AnswersCall : {T : Type 0} → (List ℕ → T) → GpuCall H → Channel L H → Result T declared_io.IoError → Channel L H → Type 0
  AnswersCall read call old (Ok answer) new = IsDone read call old answer new
  AnswersCall read call old (Err e) new = IsNotDone call old (seen_io e) new
