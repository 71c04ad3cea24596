-- A call of a device to its frontend, by its result.
use Rattle.std.proofs.Common.{◌≡◌, ℕ, List, [], Bool, true, false, Result, Ok, Err, refl, sym, ap, subst, ◌∙◌}
use Rattle.std.specs.Prelude.{◌==◌, ◌&&◌, not, if◌then◌else◌}
use Rattle.std.proofs.lemmas.Bool.{not-true, eqb-true}
use Rattle.vhost_message.specs.BackendReq.{backend_request_of, backend_request_number}
use Rattle.vhost_message.specs.declared.backend_req.BackendReq.{BackendReq}
use Rattle.vhost_message.specs.declared.header.VhostUserMsgHeader.{VhostUserMsgHeader}
use Rattle.vhost_message.specs.declared.io_error.IoError as declared
use Rattle.vhost_message.specs.Header.{Header, is_reply_for}
use Rattle.vhost_message.specs.MsgHeader.{fields_of}
use Rattle.vhost_message.specs.Records.{u64_at}
use Rattle.vhost_protocol.specs.Error.{Error, InvalidMessage, FrontendInternalError}
use Rattle.vhost_protocol.specs.IoError.{IoError, Of, seen_io}
use Rattle.vhost_protocol.specs.ReplySplit.{Received, reply_split}
use Rattle.vhost_protocol.specs.Reverse.{ReverseCall, Sends, of_number, reverse_ask, reverse_take, reverse_understood}
use Rattle.vhost_protocol.specs.Stream.{Cell, has_some}
use Rattle.vhost_protocol.specs.Written.{Written}
use Rattle.vhost_link.specs.Law.{Event}
use Rattle.vhost_connection.specs.Asking.{GoesOut, is_known_by}
use Rattle.vhost_connection.specs.Talk.{State}
use Rattle.vhost_backend_req.specs.Asking.{Asks, AsksCall, Takes}
use Rattle.vhost_backend_req.specs.Asking.Asks.{refused, unsent, asked_for}
use Rattle.vhost_backend_req.specs.Asking.RecvsNumber.{heard, stopped}
use Rattle.vhost_backend_req.specs.Channel.{Channel, backend_of}
use Rattle.vhost_promises.specs.Asks.{AnswersCall, IsDone, IsNotDone, IsTold, SaysZero}
use Rattle.vhost_promises.specs.Asks.IsNotDone.{refused as not_asked, answered, fault}
use Rattle.vhost_promises.proofs.Calls.{exchange, fails-reason, behind-reason, splits-all, none-of, no_fault, reply-no-fault, fault_in, both}

-- a reply as its number
abbrev numbers : {H : Type 0} → List (Cell H) → Result (Received H) Error × List (Cell H)
numbers cells = reply_split (is_known_by backend_request_of) 8 (λ bs. true) 0 cells

-- only 0 is success
is-zero : (zero : Bool) (m n : ℕ) → (zero ≡ true → m ≡ 0) → ◌≡◌ {A = Result ℕ IoError} (if zero then Ok 0 else Err (Of FrontendInternalError)) (Ok n) → (m ≡ 0) × (n ≡ 0)
is-zero true m n test is = (test refl, cc)
is-zero false m n test is = absurd cc

-- success says that the tests passed
succeeds : (fits crowded : Bool) (m n : ℕ) → ◌≡◌ {A = Result ℕ IoError} (if fits && not crowded then of_number m else Err (Of InvalidMessage)) (Ok n) → (fits ≡ true) × (crowded ≡ false) × (m ≡ 0) × (n ≡ 0)
succeeds true true m n is = absurd cc
succeeds true false m n is =
    let z = is-zero (m == 0) m n (eqb-true m 0) is in
    (refl, refl, z.0, z.1)
succeeds false crowded m n is = absurd cc

-- no number is a fault
no-fault-in : (fits crowded : Bool) (m : ℕ) → fault_in {A = ℕ} (if fits && not crowded then of_number m else Err (Of InvalidMessage)) ≡ false
no-fault-in true true m = refl
no-fault-in true false m = of-number (m == 0)
  where
    of-number : (zero : Bool) → fault_in {A = ℕ} (if zero then Ok 0 else Err (Of FrontendInternalError)) ≡ false
    of-number true = refl
    of-number false = refl
no-fault-in false crowded m = refl

answer-no-fault : {H : Type 0} (sent : Header) (o : Result (Received H) Error) → no_fault o ≡ true → fault_in (reverse_understood sent o) ≡ false
answer-no-fault sent (Ok r) is = no-fault-in (is_reply_for backend_request_of r.header sent) (has_some r.handles) (u64_at 0 r.body)
answer-no-fault sent (Err e) is = not-true _ is

-- a reply that says 0
says-zero : {H : Type 0} (sent : Header) (cells : List (Cell H)) (o : Result (Received H) Error) (n : ℕ) → numbers cells ≡ (o, []) → reverse_understood sent o ≡ Ok n → (n ≡ 0) × SaysZero sent cells
says-zero sent cells (Err e) n read is = absurd cc
says-zero sent cells (Ok r) n read is =
    let s = succeeds (is_reply_for backend_request_of r.header sent) (has_some r.handles) (u64_at 0 r.body) n is in
    (s.3, record { reply = r; read = read; answers = s.0; handles = none-of r.handles s.1; zero = s.2 })

module _ {L H : Type 0} (event : L → Event H → L → Type 0) (call : ReverseCall H) (old : Channel L H) where
  module _ (w : Written BackendReq H) (sent : VhostUserMsgHeader BackendReq) (mid after : State L H) (out : GoesOut event backend_request_number w old.endpoint sent mid) where
    -- the message went out, and the answer was taken: success
    done : (awaited : Bool) (n : ℕ) → reverse_ask (backend_of old) call ≡ Sends w awaited → Takes event awaited (fields_of sent) mid (Ok n) after → IsDone event call old n (record old { endpoint = after })
    done false n asked (is, same) = record {
      number = cc;
      message = w;
      awaited = false;
      asked = asked;
      told = subst (λ (s : State L H). IsTold event false w old.endpoint s) (sym same) (out.retries, out.serves);
      list = ap (λ (s : State L H). s.list) same ∙ out.list;
      others = refl;
    }
    done true n asked (heard came listed) =
        let h = came.hears in
        let cut : reverse_take true (fields_of sent) h.cells ≡ (Ok n, []) = splits-all (reverse_take true (fields_of sent)) h.cells h.ended (Ok n) h.splits in
        let said = says-zero (fields_of sent) h.cells (numbers h.cells).0 n (both refl (ap (λ (x : Result ℕ IoError × List (Cell H)). x.1) cut)) (ap (λ (x : Result ℕ IoError × List (Cell H)). x.0) cut) in
        record {
          number = said.0;
          message = w;
          awaited = true;
          asked = asked;
          told = (h.cells, h.ended, exchange event old.endpoint mid after _ _ out.retries h.retries out.serves h.serves, subst (λ (x : Header). SaysZero x h.cells) out.header said.1);
          list = listed refl;
          others = refl;
        }

    -- and no success
    not-done : (awaited : Bool) (e : declared.IoError) → reverse_ask (backend_of old) call ≡ Sends w awaited → Takes event awaited (fields_of sent) mid (Err e) after → IsNotDone event call old e (record old { endpoint = after })
    not-done false e asked (is, same) = absurd cc
    not-done true e asked (heard came listed) =
        let h = came.hears in
        let cut : reverse_take true (fields_of sent) h.cells ≡ (Err (seen_io e), []) = splits-all (reverse_take true (fields_of sent)) h.cells h.ended (Err (seen_io e)) h.splits in
        answered w asked h.cells h.ended (exchange event old.endpoint mid after _ _ out.retries h.retries out.serves h.serves)
        (subst (λ (x : Header). reverse_take true x h.cells ≡ (Err (seen_io e), [])) out.header cut)
        (ap fault_in (sym (ap (λ (x : Result ℕ IoError × List (Cell H)). x.0) cut)) ∙ answer-no-fault (fields_of sent) (numbers h.cells).0 (reply-no-fault _ 8 (λ bs. true) 0 h.cells))
    not-done true e asked (stopped f) = fault (behind-reason event old.endpoint mid _ after out.serves refl out.list f)

  -- by its result
  answers : (result : Result ℕ declared.IoError) (after : State L H) → Asks event (reverse_ask (backend_of old) call) old.endpoint result after → AnswersCall event call old result (record old { endpoint = after })
  answers (Ok n) after (asked_for {w} {awaited} {sent} {mid} asked out takes) = done w sent mid after out awaited n asked takes
  answers (Err e) after (refused is) = not_asked is
  answers (Err e) after (unsent is f) = fault (fails-reason event old.endpoint _ after f)
  answers (Err e) after (asked_for {w} {awaited} {sent} {mid} asked out takes) = not-done w sent mid after out awaited e asked takes

  pub answers-call : (result : Result ℕ declared.IoError) (new : Channel L H) → AsksCall event call old result new → AnswersCall event call old result new
  answers-call result new (asks, others) = subst (λ (x : Channel L H). AnswersCall event call old result x) (sym others) (answers result new.endpoint asks)
