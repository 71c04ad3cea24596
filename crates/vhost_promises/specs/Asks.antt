-- What a device asks its frontend, as its caller derives it.
use Rattle.std.specs.Prelude.{◌≡◌, ℕ, ◌+◌, List, [], Bool, true, false, Result, Ok, Err}
use Rattle.vhost_message.specs.BackendReq.{backend_request_of, backend_request_number}
use Rattle.vhost_message.specs.declared.backend_req.BackendReq.{BackendReq}
use Rattle.vhost_message.specs.declared.error.Error as declared
use Rattle.vhost_message.specs.declared.io_error.IoError.{IoError}
use Rattle.vhost_message.specs.declared.io_error.IoError.TheVariants as io
use Rattle.vhost_message.specs.Header.{Header, is_reply_for}
use Rattle.vhost_message.specs.Records.{u64_at}
use Rattle.vhost_protocol.specs.IoError.{seen_io}
use Rattle.vhost_protocol.specs.ReplySplit.{Received, reply_split}
use Rattle.vhost_protocol.specs.Reverse.{ReverseCall, Refuses, Sends, reverse_ask, reverse_take}
use Rattle.vhost_protocol.specs.Stream.{Cell, heard}
use Rattle.vhost_protocol.specs.Written.{Written, written_cells, head_of}
use Rattle.vhost_link.specs.Law.{Event}
use Rattle.vhost_connection.specs.Asking.{is_known_by}
use Rattle.vhost_connection.specs.Talk.{State}
use Rattle.vhost_backend_req.specs.Channel.{Channel, backend_of}
use Rattle.vhost_promises.specs.Calls.{Exchanges, HasReason, is_io_fault}

-- These cells are the reply to a request with this header: it brings no handles, and says 0.
pub record SaysZero {H : Type 0} (sent : Header) (cells : List (Cell H)) : Type 0 where
  pub reply : Received H
  pub read : reply_split (is_known_by backend_request_of) 8 (λ bs. true) 0 cells ≡ (Ok reply, [])
  pub answers : is_reply_for backend_request_of reply.header sent ≡ true
  pub handles : reply.handles ≡ []
  pub zero : u64_at 0 reply.body ≡ 0

module _ {L H : Type 0} (event : L → Event H → L → Type 0) where
  -- a message went out, and where an answer was awaited, one came that says 0
  abbrev pub IsTold : (awaited : Bool) → Written BackendReq H → State L H → State L H → Type 0
  IsTold false w old new = Exchanges event old.budget (written_cells backend_request_number w) [] old new
  IsTold true w old new = (cells : List (Cell H)) × (ended : Bool) × Exchanges event (old.budget + old.budget) (written_cells backend_request_number w) (heard cells ended) old new
      × SaysZero (head_of backend_request_number w) cells

  -- A call succeeded: its number is 0, the message that the definitions name went out, and the list of handles is there.
  pub record IsDone (call : ReverseCall H) (old : Channel L H) (n : ℕ) (new : Channel L H) : Type 0 where
    pub number : n ≡ 0
    pub message : Written BackendReq H
    pub awaited : Bool
    pub asked : reverse_ask (backend_of old) call ≡ Sends message awaited
    pub told : IsTold awaited message old.endpoint new.endpoint
    pub list : new.endpoint.list ≡ true
    pub others : new ≡ record old { endpoint = new.endpoint }

  -- A call did not.
  pub data IsNotDone (call : ReverseCall H) (old : Channel L H) : IoError → Channel L H → Type 0 where
    -- the definitions refuse it, and nothing changed
    refused : {e : IoError} → reverse_ask (backend_of old) call ≡ Refuses (seen_io e) → IsNotDone call old e old
    -- its message went out, and this is what the answer that came says
    answered : {e : IoError} {new : Channel L H} (w : Written BackendReq H) → reverse_ask (backend_of old) call ≡ Sends w true → (cells : List (Cell H)) (ended : Bool)
        → Exchanges event (old.endpoint.budget + old.endpoint.budget) (written_cells backend_request_number w) (heard cells ended) old.endpoint new.endpoint
        → reverse_take true (head_of backend_request_number w) cells ≡ (Err (seen_io e), []) → is_io_fault (seen_io e) ≡ false → IsNotDone call old e new
    -- the link failed, or memory was wanted
    fault : {e : declared.Error} {new : Channel L H} → HasReason event old.endpoint e new.endpoint → IsNotDone call old (io.Of e) new

  -- by its result
  abbrev pub AnswersCall : ReverseCall H → Channel L H → Result ℕ IoError → Channel L H → Type 0
  AnswersCall call old (Ok n) new = IsDone call old n new
  AnswersCall call old (Err e) new = IsNotDone call old e new
