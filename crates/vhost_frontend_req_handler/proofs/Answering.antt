-- The device was asked, or not, and then the peer was told, or not.
use Rattle.std.proofs.Common.{◌≡◌, ℕ, ◌<◌, ◌^◌, Bool, false, ◌&&◌, List, [], Result, Ok, Err, refl, sym, ◌∙◌, ap, subst}
use Rattle.std.specs.Prelude.{⊤, if◌then◌else◌}
use Rattle.vhost_message.specs.BackendReq.{backend_request_number}
use Rattle.vhost_message.specs.declared.backend_req.BackendReq.{BackendReq}
use Rattle.vhost_message.specs.declared.error.Error as declared
use Rattle.vhost_message.specs.declared.error.Error.TheVariants as code
use Rattle.vhost_message.specs.declared.io_error.IoError as io
use Rattle.vhost_protocol.specs.Error.{InvalidMessage, seen_result}
use Rattle.vhost_protocol.specs.IoError.{IoError, Of, seen_io_result}
use Rattle.vhost_protocol.specs.Reverse.{ReverseCall, ReverseFollows, ReverseMeets, ReverseOutcome, ReverseStep, Server, handed_on, number_back, result_number, reverse_row_of, with_number}
use Rattle.vhost_protocol.specs.Served.{Silent, Replied, reply, cells_of}
use Rattle.vhost_protocol.specs.Split.{Message}
use Rattle.vhost_protocol.specs.Stream.{Cell}
use Rattle.vhost_protocol.specs.Written.{U64}
use Rattle.vhost_link.specs.Law.{Event}
use Rattle.vhost_connection.specs.Talk.{State}
use Rattle.vhost_connection.specs.Requests as requests
use Rattle.vhost_connection.specs.Requests.{IsReady, Reads, Tells}
use Rattle.vhost_connection.specs.declared.request.Request.{Request}
use Rattle.vhost_frontend_req_handler.specs.declared.asked.Asked.TheVariants.{Answered, BadBody, Unserved}
use Rattle.vhost_frontend_req_handler.specs.Core as core
use Rattle.vhost_frontend_req_handler.specs.Core.{Asks, number_cells}
use Rattle.vhost_frontend_req_handler.specs.Handling.{fitting}
use Rattle.vhost_connection.specs.Serving as serving
use Rattle.vhost_connection.specs.Serving.{Answers}
use Rattle.vhost_connection.proofs.Serving.{none-sent, replies-told, stops-told}

-- no number is wanted
pub unwanted : {L H : Type 0} {event : L → Event H → L → Type 0} {old : State L H} (s : Server) (request : Request BackendReq) (answer : Result ℕ IoError) → IsReady old
    → {said : Bool} → said ≡ (s.reply_ack && request.need_reply) → said ≡ false → Tells event old (number_cells s request answer) (Ok tt) (Ok tt) old
unwanted {event = event} s request answer ready is off =
    let no : (s.reply_ack && request.need_reply) ≡ false = sym is ∙ off in
    rw (no) (requests.whole refl (none-sent event _ ready))

-- what goes back is what the row of the message says
pub cells_as : {H : Type 0} (s : Server) (request : Request BackendReq) (m : Message BackendReq H) (a : Result ℕ IoError) (bytes : List ℕ) → Reads bytes request m
    → number_cells s request a ≡ cells_of backend_request_number (reply m.request (number_back s m a))
cells_as {H = H} s request m a bytes reads =
    ap (λ (need : Bool). cells_of {H = H} backend_request_number (reply request.code (if s.reply_ack && need then Replied (U64 (result_number a)) [] else Silent))) reads.need_reply
    ∙ ap (λ (r : BackendReq). cells_of backend_request_number (reply r (number_back s m a))) reads.code

pub told_as : {L H : Type 0} {event : L → Event H → L → Type 0} {old new : State L H} {result : Result ⊤ declared.Error} (s : Server) (request : Request BackendReq) (m : Message BackendReq H) (a : Result ℕ IoError) (bytes : List ℕ) → Reads bytes request m
    → Tells event old (number_cells s request a) (Ok tt) result new → Tells event old (cells_of backend_request_number (reply m.request (number_back s m a))) (Ok tt) result new
told_as {event = event} {old = old} {new = new} {result = result} s request m a bytes reads told = subst (λ (cells : List (Cell _)). Tells event old cells (Ok tt) result new) (cells_as s request m a bytes reads) told

module _ {L H Dev : Type 0} (event : L → Event H → L → Type 0) (gives : Dev → ReverseCall H → Result ℕ IoError → Dev → Type 0) where
  -- a row of the message's code that is this step
  follows-step : (r : BackendReq) (s : Server) (m : Message BackendReq H) (d d' : Dev) (o : ReverseOutcome H) (step : ReverseStep H) → r ≡ m.request → reverse_row_of r s m ≡ step → ReverseFollows (fitting gives) d step o d'
      → ReverseFollows (fitting gives) d (reverse_row_of m.request s m) o d'
  follows-step r s m d d' o step is same p = subst (λ (x : BackendReq). ReverseFollows (fitting gives) d (reverse_row_of x s m) o d') is (subst (λ (x : ReverseStep H). ReverseFollows (fitting gives) d x o d') (sym same) p)

  -- it was asked
  follows-call : (r : BackendReq) (s : Server) (m : Message BackendReq H) (d d' : Dev) (a : Result ℕ io.IoError) → r ≡ m.request → Asks gives s m (reverse_row_of r s m) d (Answered a) d' → result_number (seen_io_result a) < 2 ^ 64
      → ReverseFollows (fitting gives) d (reverse_row_of m.request s m) (with_number s m (seen_io_result a)) d'
  follows-call r s m d d' a is (core.calls c step gave) fits = follows-step r s m d d' _ _ is step (seen_io_result a, (gave, fits), refl)

  pub call-told : (r : BackendReq) (s s' : Server) (m : Message BackendReq H) (d d' : Dev) (old new : State L H) (result : Result ℕ declared.Error) (a : Result ℕ io.IoError) → r ≡ m.request
      → Asks gives s m (reverse_row_of r s m) d (Answered a) d' → result_number (seen_io_result a) < 2 ^ 64 → Tells event old (cells_of backend_request_number (reply m.request (number_back s m (seen_io_result a)))) (Ok tt) (Ok tt) new → seen_result result ≡ handed_on (seen_io_result a) → s' ≡ s
      → Answers event (ReverseMeets (fitting gives) s d m) (λ t. t) old result new s' d'
  call-told r s s' m d d' old new result a is asked fits told same kept = serving.answered (record {
    written = cells_of backend_request_number (reply m.request (number_back s m (seen_io_result a)));
    meets = (with_number s m (seen_io_result a), follows-call r s m d d' a is asked fits, same, refl, kept);
    replies = replies-told event old new _ told;
  })

  pub call-stopped : (r : BackendReq) (s s' : Server) (m : Message BackendReq H) (d d' : Dev) (old new : State L H) (e : declared.Error) (a : Result ℕ io.IoError) → r ≡ m.request
      → Asks gives s m (reverse_row_of r s m) d (Answered a) d' → result_number (seen_io_result a) < 2 ^ 64 → Tells event old (cells_of backend_request_number (reply m.request (number_back s m (seen_io_result a)))) (Ok tt) (Err e) new → s' ≡ s
      → Answers event (ReverseMeets (fitting gives) s d m) (λ t. t) old (Err e) new s' d'
  call-stopped r s s' m d d' old new e a is asked fits told kept = serving.interrupted (record {
    answer = handed_on (seen_io_result a);
    written = cells_of backend_request_number (reply m.request (number_back s m (seen_io_result a)));
    after = s';
    meets = (with_number s m (seen_io_result a), follows-call r s m d d' a is asked fits, refl, refl, kept);
    stops = stops-told event old new _ e told;
    session = refl;
  })

  -- it was not, since the request is not served
  pub unserved-told : (r : BackendReq) (s s' : Server) (m : Message BackendReq H) (d d' : Dev) (old new : State L H) → r ≡ m.request → Asks gives s m (reverse_row_of r s m) d Unserved d'
      → Tells event old (cells_of backend_request_number (reply m.request (number_back s m (Err (Of InvalidMessage))))) (Ok tt) (Ok tt) new → s' ≡ s
      → Answers event (ReverseMeets (fitting gives) s d m) (λ t. t) old (Err code.InvalidMessage) new s' d'
  unserved-told r s s' m d d' old new is (core.is_unserved step) told kept = serving.answered (record {
    written = cells_of backend_request_number (reply m.request (number_back s m (Err (Of InvalidMessage))));
    meets = (record { answer = Err InvalidMessage; served = number_back s m (Err (Of InvalidMessage)) }, follows-step r s m d d _ _ is step (refl, refl), refl, refl, kept);
    replies = replies-told event old new _ told;
  })

  pub unserved-stopped : (r : BackendReq) (s s' : Server) (m : Message BackendReq H) (d d' : Dev) (old new : State L H) (e : declared.Error) → r ≡ m.request → Asks gives s m (reverse_row_of r s m) d Unserved d'
      → Tells event old (cells_of backend_request_number (reply m.request (number_back s m (Err (Of InvalidMessage))))) (Ok tt) (Err e) new → s' ≡ s
      → Answers event (ReverseMeets (fitting gives) s d m) (λ t. t) old (Err e) new s' d'
  unserved-stopped r s s' m d d' old new e is (core.is_unserved step) told kept = serving.interrupted (record {
    answer = Err InvalidMessage;
    written = cells_of backend_request_number (reply m.request (number_back s m (Err (Of InvalidMessage))));
    after = s';
    meets = (record { answer = Err InvalidMessage; served = number_back s m (Err (Of InvalidMessage)) }, follows-step r s m d d _ _ is step (refl, refl), refl, refl, kept);
    stops = stops-told event old new _ e told;
    session = refl;
  })

  -- nor was it, nor the peer told, since the body is bad
  pub bad-refused : (r : BackendReq) (s : Server) (m : Message BackendReq H) (d d' : Dev) (old : State L H) → r ≡ m.request → Asks gives s m (reverse_row_of r s m) d BadBody d' → IsReady old
      → Answers event (ReverseMeets (fitting gives) s d m) (λ t. t) old (Err code.InvalidMessage) old s d'
  bad-refused r s m d d' old is (core.is_bad step) ready = serving.answered (record {
    written = [];
    meets = (record { answer = Err InvalidMessage; served = Silent }, follows-step r s m d d _ _ is step (refl, refl), refl, refl, refl);
    replies = none-sent event old ready;
  })
