-- A call of a device to a display, by its result.
use Rattle.std.proofs.Common.{◌≡◌, ℕ, List, [], Bool, true, false, Option, Some, None, Result, Ok, Err, refl, sym, ap, subst, ◌∙◌}
use Rattle.std.specs.Prelude.{◌&&◌, not, if◌then◌else◌}
use Rattle.std.proofs.lemmas.Bool.{not-true}
use Rattle.vhost_message.specs.declared.io_error.IoError as declared
use Rattle.vhost_message.specs.Header.{Header, is_reply_for}
use Rattle.vhost_gpu_message.specs.GpuBackendReq.{gpu_request_of}
use Rattle.vhost_protocol.specs.Error.{Error}
use Rattle.vhost_protocol.specs.Gpu.{GpuCall, GpuReply, gpu_row, gpu_head, gpu_cells, gpu_record_size, gpu_take, gpu_understood, is_known_gpu, sent_by}
use Rattle.vhost_protocol.specs.IoError.{IoError, seen_io}
use Rattle.vhost_protocol.specs.ReplySplit.{Received, reply_split}
use Rattle.vhost_protocol.specs.Row.{always}
use Rattle.vhost_protocol.specs.Stream.{Cell, has_some}
use Rattle.vhost_link.specs.Law.{Event}
use Rattle.vhost_connection.specs.Pass.{sends}
use Rattle.vhost_connection.specs.Talk.{State, Serves}
use Rattle.vhost_gpu_backend_req.specs.Asking.{AsksCall, GoesOut, Takes, Unsent, read_as, unexpected}
use Rattle.vhost_gpu_backend_req.specs.Asking.Asks.{unsent, asked_for}
use Rattle.vhost_gpu_backend_req.specs.Asking.RecvsRecord.{heard, stopped}
use Rattle.vhost_gpu_backend_req.specs.Asking.Unsent.{refused as unsent_refused, no_memory as unsent_memory, too_long as unsent_long, stopped as unsent_stopped}
use Rattle.vhost_gpu_backend_req.specs.Channel.{Channel}
use Rattle.vhost_promises.specs.Calls.{Exchanges}
use Rattle.vhost_promises.specs.Calls.HasReason.{no_list}
use Rattle.vhost_promises.specs.Displays.{AnswersCall, IsNotDone, IsShown, Shows}
use Rattle.vhost_promises.specs.Displays.IsNotDone.{refused, too_long, answered, fault}
use Rattle.vhost_promises.proofs.Calls.{exchange, behind-reason, trouble-reason, splits-all, none-of, no_fault, reply-no-fault, fault_in, both}

-- a reply as its record
abbrev records : {H : Type 0} → GpuReply → List (Cell H) → Result (Received H) Error × List (Cell H)
records shape cells = reply_split is_known_gpu (gpu_record_size shape) always 0 cells

-- success says that the tests passed
succeeds : (fits crowded : Bool) (body bytes : List ℕ) → ◌≡◌ {A = Result (List ℕ) IoError} (if fits && not crowded then Ok body else Err unexpected) (Ok bytes) → (fits ≡ true) × (crowded ≡ false) × (body ≡ bytes)
succeeds true true body bytes is = absurd cc
succeeds true false body bytes is = (refl, refl, cc)
succeeds false crowded body bytes is = absurd cc

-- no record is a fault
no-fault-in : (fits crowded : Bool) (body : List ℕ) → fault_in {A = List ℕ} (if fits && not crowded then Ok body else Err unexpected) ≡ false
no-fault-in true true body = refl
no-fault-in true false body = refl
no-fault-in false crowded body = refl

answer-no-fault : {H : Type 0} (sent : Header) (o : Result (Received H) Error) → no_fault o ≡ true → fault_in (gpu_understood sent o) ≡ false
answer-no-fault sent (Ok r) is = no-fault-in (is_reply_for gpu_request_of r.header sent) (has_some r.handles) r.body
answer-no-fault sent (Err e) is = not-true _ is

-- a reply with these bytes
shows : {H : Type 0} (shape : GpuReply) (sent : Header) (cells : List (Cell H)) (o : Result (Received H) Error) (bytes : List ℕ) → records shape cells ≡ (o, []) → gpu_understood sent o ≡ Ok bytes → Shows shape sent cells bytes
shows shape sent cells (Err e) bytes read is = absurd cc
shows shape sent cells (Ok r) bytes read is =
    let s = succeeds (is_reply_for gpu_request_of r.header sent) (has_some r.handles) r.body bytes is in
    record { reply = r; read = read; answers = s.0; handles = none-of r.handles s.1; body = s.2 }

-- a record is read of bytes that came
read-of : {T : Type 0} (read : List ℕ → T) (answer : Result (List ℕ) IoError) (t : T) → Ok t ≡ read_as read answer → (bytes : List ℕ) × (answer ≡ Ok bytes) × (t ≡ read bytes)
read-of read (Ok bytes) t is = (bytes, refl, cc)
read-of read (Err e) t is = absurd cc

-- and an error is that of none
error-of : {T : Type 0} (read : List ℕ → T) (answer : Result (List ℕ) IoError) (e : IoError) → Err e ≡ read_as read answer → answer ≡ Err e
error-of read (Ok bytes) e is = absurd cc
error-of read (Err f) e is = cc

module _ {L H T : Type 0} (event : L → Event H → L → Type 0) (read : List ℕ → T) (call : GpuCall H) (old : Channel L H) where
  -- the list of handles was there before the first byte
  whole : (cells : List (Cell H)) (r : ℕ) (new : State L H) → Serves event (record old.endpoint { list = true }) old.endpoint.budget (sends cells r) new → Serves event old.endpoint old.endpoint.budget (sends cells r) new
  whole cells r new s = record {
    talks = record { below = s.talks.below; moved = s.talks.moved; handed = s.talks.handed; taken = s.talks.taken; retries = s.talks.retries; failures = s.talks.failures; budget = s.talks.budget };
    retries = s.retries;
    failures = s.failures;
    before = s.before;
    after = s.after;
    faulted = s.faulted;
  }

  module _ (mid after : State L H) (out : GoesOut event (gpu_row call) old mid) where
    -- the message went out, and the answer was taken: success
    shown : (awaited : Option GpuReply) (t : T) → Takes event read awaited (gpu_head (gpu_row call)) mid (Ok t) after → (bytes : List ℕ) × (t ≡ read bytes) × IsShown event awaited (gpu_row call) bytes old.endpoint after
    shown None t (is, same) =
        let (r, s, list, left) = out.sends in
        ([], cc, (subst (λ (x : State L H). Exchanges event old.endpoint.budget (gpu_cells (gpu_row call)) [] old.endpoint x) (sym same) (r, whole _ r mid s), refl))
    shown (Some shape) t (heard {answer} h is listed) =
        let (r, s, list, left) = out.sends in
        let (bytes, came, value) = read-of read answer t is in
        let cut : gpu_take (Some shape) (gpu_head (gpu_row call)) h.cells ≡ (Ok bytes, []) = splits-all (gpu_take (Some shape) (gpu_head (gpu_row call))) h.cells h.ended answer h.splits ∙ ap (λ (x : Result (List ℕ) IoError). (x, [])) came in (
          bytes,
          value,
          (
            h.cells,
            h.ended,
            exchange event old.endpoint mid after _ _ r h.retries (whole _ r mid s) h.serves,
            shows shape (gpu_head (gpu_row call)) h.cells (records shape h.cells).0 bytes (both refl (ap (λ (x : Result (List ℕ) IoError × List (Cell H)). x.1) cut)) (ap (λ (x : Result (List ℕ) IoError × List (Cell H)). x.0) cut),
            listed (λ bad. absurd cc),
          ),
        )

    -- and no success
    not-shown : (awaited : Option GpuReply) (e : IoError) → (gpu_row call).awaited ≡ awaited → Takes event read awaited (gpu_head (gpu_row call)) mid (Err e) after → IsNotDone event call old e (record old { endpoint = after })
    not-shown None e row (is, same) = absurd cc
    not-shown (Some shape) e row (heard {answer} h is listed) =
        let (r, s, list, left) = out.sends in
        let none = error-of read answer e is in
        let cut : gpu_take (Some shape) (gpu_head (gpu_row call)) h.cells ≡ (Err e, []) = splits-all (gpu_take (Some shape) (gpu_head (gpu_row call))) h.cells h.ended answer h.splits ∙ ap (λ (x : Result (List ℕ) IoError). (x, [])) none in
        answered shape row h.cells h.ended (exchange event old.endpoint mid after _ _ r h.retries (whole _ r mid s) h.serves) cut
        (ap fault_in (sym (ap (λ (x : Result (List ℕ) IoError × List (Cell H)). x.0) cut)) ∙ answer-no-fault (gpu_head (gpu_row call)) (records shape h.cells).0 (reply-no-fault is_known_gpu (gpu_record_size shape) always 0 h.cells))
    not-shown (Some shape) e row (stopped f) =
        let (r, s, list, left) = out.sends in
        fault (behind-reason event old.endpoint mid _ after (whole _ r mid s) refl list f)

  -- the message did not go out
  not-sent : (e : IoError) (new : Channel L H) → Unsent event (sent_by call) (gpu_row call) old e new → IsNotDone event call old e new
  not-sent e new (unsent_refused is) = refused is
  not-sent e new (unsent_memory alive away same) = fault (no_list away (ap (λ x. x.endpoint.broken) same))
  not-sent e new (unsent_long alive long same) = too_long long same
  not-sent e new (unsent_stopped alive fits (n, r, t, short) others) = fault (trouble-reason event old.endpoint (sends _ r) _ new.endpoint t)

  -- by its result
  pub answers-call : (result : Result T declared.IoError) (new : Channel L H) → AsksCall event read call old result new → AnswersCall event read call old result new
  answers-call (Ok t) new (asked_for {mid = mid} out takes others) =
      let (bytes, value, is) = shown mid new.endpoint out (gpu_row call).awaited t takes in
      record { alive = out.alive; fits = out.fits; bytes = bytes; answered = value; shown = is; others = others }
  answers-call (Err e) new (unsent u) = not-sent (seen_io e) new u
  answers-call (Err e) new (asked_for {mid = mid} out takes others) = subst (λ (x : Channel L H). IsNotDone event call old (seen_io e) x) (sym others) (not-shown mid new.endpoint out (gpu_row call).awaited (seen_io e) refl takes)
