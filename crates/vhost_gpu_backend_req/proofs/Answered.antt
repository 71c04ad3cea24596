-- What a call of the channel does, step by step.
use Rattle.std.proofs.Common.{◌≡◌, ℕ, ℤ, ◌+◌, ◌++◌, List, [], length, take, drop, Bool, true, false, Option, Some, None, Result, Ok, Err, Vec, refl, sym, ap, subst, ◌∙◌, lit≤, ◌≤◌, ◌<◌, arith, inl, inr}
use Rattle.std.specs.Prelude.{◌≢◌, ◌&&◌, is_some, is_ok, not, codes, if◌then◌else◌, nat_lt}
use Rattle.std.specs.Global.{Global}
use Rattle.vhost_message.specs.declared.error.Error as declared
use Rattle.vhost_message.specs.declared.io_error.IoError as declared_io
use Rattle.vhost_message.specs.Header.{Header, header_of, header_text, is_reply_for}
use Rattle.vhost_gpu_message.specs.declared.gpu_backend_req.GpuBackendReq.{GpuBackendReq}
use Rattle.vhost_gpu_message.specs.declared.header.VhostUserGpuMsgHeader.{VhostUserGpuMsgHeader}
use Rattle.vhost_gpu_message.specs.GpuBackendReq.{gpu_request_of}
use Rattle.vhost_gpu_message.specs.declared.limits.TheConstants.{MAX_GPU_MSG_SIZE}
use Rattle.vhost_gpu_message.specs.GpuHeader.{gpu_fields_of, of_gpu_fields, is_valid_gpu_header}
use Rattle.vhost_protocol.specs.Error.{Error, InvalidMessage, PartialMessage, SocketBroken, Raw, seen}
use Rattle.vhost_protocol.specs.Gpu.{GpuReply, GpuSent, gpu_row, sent_by, gpu_head, gpu_cells, gpu_record_size, is_known_gpu, gpu_refusal, gpu_take, gpu_understood}
use Rattle.vhost_protocol.specs.IoError.{IoError, In, seen_io}
use Rattle.vhost_protocol.specs.ReplySplit.{Received, reply_split}
use Rattle.vhost_protocol.specs.Row.{always}
use Rattle.vhost_protocol.specs.Stream.{Cell, bytes, carrying, first_handles, has_some, items}
use Rattle.vhost_link.specs.Law.{Event}
use Rattle.vhost_connection.specs.Pass.{receives}
use Rattle.vhost_connection.specs.Talk.{State, IfSound}
use Rattle.vhost_connection.specs.Came.{Came, Alone}
use Rattle.vhost_connection.specs.Calls.{Sends, HandsOver, ReadsPayload, IsNoMessage, is_sound}
use Rattle.vhost_connection.specs.Calls.IsNoMessage.{too_few, not_valid}
use Rattle.vhost_connection.specs.Hearing.{Hears, broken_on}
use Rattle.vhost_connection.proofs.Came.{came-ended}
use Rattle.vhost_connection.proofs.Failing.{trouble-breaks}
use Rattle.vhost_connection.proofs.Replies.{hears-by, reply_in, outcome, splits, is-whole, is-invalid, reply-short}
use Rattle.vhost_gpu_backend_req.specs.Asking.{unexpected, RecvsRecord, Takes, Asks, read_as}
use Rattle.vhost_gpu_backend_req.specs.Asking.Asks.{unsent, asked_for}
use Rattle.vhost_gpu_backend_req.specs.Asking.RecvsRecord.{heard, stopped}
use Rattle.vhost_gpu_backend_req.specs.Asking.{Unsent}
use Rattle.vhost_gpu_backend_req.specs.Asking.Unsent.{refused as unsent_refused, no_memory as unsent_memory, too_long as unsent_long}
use Rattle.vhost_gpu_backend_req.specs.Channel.{Channel}
use Rattle.vhost_gpu_backend_req.specs.Halves.{FrontUnsent, NotReady, SendsFront, call_in, gpu_front, not_ready}
use Rattle.vhost_gpu_backend_req.specs.Halves.NotReady.{refused, no_memory, too_long}
use Rattle.vhost_gpu_backend_req.specs.declared.call.GpuCall as code

module _ {L H : Type 0} (event : L → Event H → L → Type 0) where
  -- the message that was sent is that of the row, by the endpoint that has its list
  pub row-sends : (sent : GpuSent H) (old mid new : State L H) (head : Header) (r : _) → mid ≡ record old { list = true } → head ≡ gpu_head sent
      → Sends event mid (carrying sent.handles (header_text head ++ sent.body ++ sent.payload)) r new → Sends event (record old { list = true }) (gpu_cells sent) r new
  row-sends sent old mid new head r is same p =
      subst (λ (h : Header). Sends event (record old { list = true }) (carrying sent.handles (header_text h ++ sent.body ++ sent.payload)) r new) same
      (subst (λ (s : State L H). Sends event s (carrying sent.handles (header_text head ++ sent.body ++ sent.payload)) r new) is p)

  -- the same of all but its pixels
  pub front-sends : (sent : GpuSent H) (old mid new : State L H) (head : Header) (r : _) → mid ≡ record old { list = true } → head ≡ gpu_head sent
      → Sends event mid (carrying sent.handles (header_text head ++ sent.body)) r new → Sends event (record old { list = true }) (gpu_front sent) r new
  front-sends sent old mid new head r is same p =
      subst (λ (h : Header). Sends event (record old { list = true }) (carrying sent.handles (header_text h ++ sent.body)) r new) same
      (subst (λ (s : State L H). Sends event s (carrying sent.handles (header_text head ++ sent.body)) r new) is p)

  -- where none of this size may be sent, this one is not
  pub not-sent : (place : List ℕ) (sent : GpuSent H) (size : ℕ) (old new : Channel L H) (e : IoError) → size ≡ (gpu_head sent).size → NotReady place size old e new → Unsent event place sent old e new
  not-sent place sent size old _ e is (refused why) = unsent_refused why
  not-sent place sent size old new _ is (no_memory alive list same) = unsent_memory alive list same
  not-sent place sent size old new _ is (too_long alive long same) = unsent_long alive (subst (λ n. MAX_GPU_MSG_SIZE < n) is long) same

  -- nor all of it but its pixels
  pub front-not-sent : (place : List ℕ) (sent : GpuSent H) (size : ℕ) (old new : Channel L H) (e : IoError) → size ≡ (gpu_head sent).size → NotReady place size old e new → FrontUnsent event place sent old e new
  front-not-sent place sent size old new e is n = not_ready (subst {A = ℕ} (λ m. NotReady place m old e new) is n)

  -- what was sent for a value is what is sent for the call
  pub sends-call : (call value : code.GpuCall H) (request : GpuBackendReq) (pixels : List ℕ) (old new : Channel L H) (r : _) → call ≡ value → request ≡ (gpu_row (call_in value pixels)).request
      → SendsFront event (sent_by (call_in value pixels)) (record (gpu_row (call_in value pixels)) { request = request }) old r new → SendsFront event (sent_by (call_in call pixels)) (gpu_row (call_in call pixels)) old r new
  sends-call call value request pixels old new r is coded sends =
      subst {A = code.GpuCall H} (λ k. SendsFront event (sent_by (call_in k pixels)) (gpu_row (call_in k pixels)) old r new) (sym is)
      (subst {A = GpuBackendReq} (λ q. SendsFront event (sent_by (call_in value pixels)) (record (gpu_row (call_in value pixels)) { request = q }) old r new) coded sends)

-- a test of the mark that passes says that there is none
pub alive-is : {A E : Type 0} (failed : Option ℤ) {r : Result A E} {e : ℤ → E} → ((n : ℤ) → failed ≡ Some n → r ≡ Err (e n)) → is_ok r ≡ true → failed ≡ None
alive-is None marked ok = refl
alive-is (Some n) marked ok =
    let s = marked n refl in
    let k = rw s at ok in absurd cc

-- one that fails says which
pub refusal-is : {A : Type 0} (failed : Option ℤ) {e : declared_io.IoError} {a : A} → ((n : ℤ) → failed ≡ Some n → ◌≡◌ {A = Result A IoError} (Err (seen_io e)) (Err (In (codes "check_state") (SocketBroken (Raw n)))))
    → (failed ≡ None → ◌≡◌ {A = Result A declared_io.IoError} (Err e) (Ok a)) → gpu_refusal failed ≡ Some (seen_io e)
refusal-is None marked alive = let s = alive refl in absurd cc
refusal-is (Some n) marked alive = let s = marked n refl in cc

-- a header without flags
abbrev pub head-with : ℕ → ℕ → Header
head-with code size = record { code = code; flags = 0; size = size }

-- what a message sends
abbrev pub row : {H : Type 0} → GpuBackendReq → List ℕ → List ℕ → List H → Option GpuReply → GpuSent H
row request body payload handles awaited = record { request = request; body = body; payload = payload; handles = handles; awaited = awaited }

-- a header in the code's form is valid
abbrev pub valid_head : VhostUserGpuMsgHeader GpuBackendReq → Bool
valid_head h = is_some (gpu_request_of (gpu_fields_of h).code) && is_valid_gpu_header (gpu_fields_of h)

-- handles are given where there are any
hands-is : {H : Type 0} (hs : Option (Vec H Global)) (handles : List H) → HandsOver hs handles → is_some hs ≡ has_some handles
hands-is None handles h = ap has_some (sym h)
hands-is (Some v) handles h = sym h.1

-- a header and a record come in
abbrev pub ReadsGpu : {L H T : Type 0} → (L → Event H → L → Type 0) → ℕ → (List ℕ → T) → (T → Bool) → State L H → Result (VhostUserGpuMsgHeader GpuBackendReq × T × ℕ × Option (Vec H Global)) declared.Error → List ℕ → State L H → Type 0
ReadsGpu event size read valid old r after new = ReadsPayload event (λ bs. of_gpu_fields (header_of bs)) valid_head size read valid old [] r after new

module _ {L H T : Type 0} (event : L → Event H → L → Type 0) (size : ℕ) (read : List ℕ → T) (valid : T → Bool) (shape : GpuReply) (sized : gpu_record_size shape ≡ size) (all : (bs : List ℕ) → valid (read bs) ≡ true) where
  -- what is received, as the channel's definition cuts it
  cut-is : (sent : Header) (cells : List (Cell H)) → gpu_take (Some shape) sent cells
      ≡ (gpu_understood sent (reply_split is_known_gpu size (λ bs. valid (read bs)) 0 cells).0, (reply_split is_known_gpu size (λ bs. valid (read bs)) 0 cells).1)
  cut-is sent cells =
      let v : ◌≡◌ {A = List ℕ → Bool} always (λ bs. valid (read bs)) = λ i bs. sym (all bs) i in
      ap (λ (f : List ℕ → Bool). (gpu_understood sent (reply_split is_known_gpu (gpu_record_size shape) f 0 cells).0, (reply_split is_known_gpu (gpu_record_size shape) f 0 cells).1)) v
      ∙ ap (λ (n : ℕ). (gpu_understood sent (reply_split is_known_gpu n (λ bs. valid (read bs)) 0 cells).0, (reply_split is_known_gpu n (λ bs. valid (read bs)) 0 cells).1)) sized

  module _ (old new : State L H) (sent : Header) (after : List ℕ) where
    came : (cs : List (Cell H)) (o : Result (Received H) Error) {list : Bool} → Came event old Alone (12 + size + 0) cs list new → 12 + size ≤ length cs → outcome is_known_gpu size 0 (λ bs. valid (read bs)) cs ≡ o
        → Hears event (reply_split is_known_gpu size (λ bs. valid (read bs)) 0) old o new
    came cs o m whole e = record {
      cells = cs;
      ended = nat_lt (length cs) (12 + size + 0);
      retries = m.retries;
      serves = m.serves;
      splits = splits is_known_gpu size 0 (λ bs. valid (read bs)) cs o whole m.within e;
    }

    heard-as : (o : Result (Received H) Error) {result : Result T IoError} → Hears event (reply_split is_known_gpu size (λ bs. valid (read bs)) 0) old o new → result ≡ read_as read (gpu_understood sent o)
        → (result ≢ Err unexpected → new.list ≡ true) → RecvsRecord event read (gpu_take (Some shape) sent) old result new
    heard-as o h e listed = heard (hears-by (λ x. gpu_understood sent x) o (cut-is sent) h) e listed

    -- the tests decide which answer it is
    by-tests : (b : Bool) (t : T) (body : List ℕ) → t ≡ read body → ◌≡◌ {A = Result T IoError} (if b then Ok t else Err unexpected) (read_as read (if b then Ok body else Err unexpected))
    by-tests true t body e = ap Ok e
    by-tests false t body e = refl

    -- where handles came, it is unexpected
    none-came : (a b : Bool) (t : T) {result : Result T IoError} → result ≡ (if a && not b then Ok t else Err unexpected) → result ≢ Err unexpected → not b ≡ true
    none-came a false t e good = refl
    none-came true true t e good = absurd (good e)
    none-came false true t e good = absurd (good e)

    -- a reply came: it is the one for the request, without handles, or unexpected
    pub record-comes : (h : VhostUserGpuMsgHeader GpuBackendReq) (t : T) (n : ℕ) (hs : Option (Vec H Global)) {result : Result T IoError} → ReadsGpu event size read valid old (Ok (h, t, n, hs)) after new
        → result ≡ (if is_reply_for gpu_request_of (gpu_fields_of h) sent && not (is_some hs) then Ok t else Err unexpected) → RecvsRecord event read (gpu_take (Some shape) sent) old result new
    unfolding reply_in
    record-comes h t n hs (cs, room, (m, (count, (is_h, ok, is_t, ok_t, over)))) e =
        let head : gpu_fields_of h ≡ header_of (take 12 (bytes cs)) = ap gpu_fields_of is_h in
        heard-as (Ok (reply_in is_known_gpu size 0 (λ bs. valid (read bs)) cs))
        (came cs _ m (omega (arith, count)) (is-whole is_known_gpu size 0 (λ bs. valid (read bs)) cs (ap is_known_gpu (sym head) ∙ ok) (ap valid (sym is_t) ∙ ok_t)))
        (e ∙ ap (λ (b : Bool). if is_reply_for gpu_request_of (gpu_fields_of h) sent && not b then Ok t else Err unexpected) (hands-is hs (first_handles cs) over)
        ∙ ap (λ (x : Header). if is_reply_for gpu_request_of x sent && not (has_some (first_handles cs)) then Ok t else Err unexpected) head
        ∙ by-tests (is_reply_for gpu_request_of (header_of (take 12 (bytes cs))) sent && not (has_some (first_handles cs))) t (take size (drop 12 (bytes cs))) is_t)
        (λ good. m.listed ∙ ap not (sym (hands-is hs (first_handles cs) over)) ∙ none-came (is_reply_for gpu_request_of (gpu_fields_of h) sent) (is_some hs) t e good)

  -- none came, or the link failed
  pub record-fails : (old new : State L H) (sent : Header) (after : List ℕ) (e : declared.Error) → ReadsGpu event size read valid old (Err e) after new
      → RecvsRecord event read (gpu_take (Some shape) sent) old (Err (In (codes "recv_body") (seen e))) (broken_on e new)
  record-fails old new sent after e (cs, room, inr f) = stopped (trouble-breaks event old IfSound false (receives (items cs) f.retries) e new f.trouble refl (lit≤ tt))
  record-fails old new sent after e (cs, room, inl (m, bad)) = go e bad
    where
      go : (y : declared.Error) → IsNoMessage (12 + size) (is_sound (λ bs. of_gpu_fields (header_of bs)) valid_head size read valid) cs y
          → RecvsRecord event read (gpu_take (Some shape) sent) old (Err (In (codes "recv_body") (seen y))) (broken_on y new)
      go y (too_few short) =
          heard-as old new sent after (Err PartialMessage)
          (record { cells = cs; ended = true; retries = m.retries; serves = came-ended m (omega (arith, short)); splits = reply-short is_known_gpu size 0 (λ bs. valid (read bs)) cs short }) refl
          (λ good. m.listed)
      go y (not_valid whole wrong) =
          heard-as old new sent after (Err InvalidMessage) (came old new sent after cs (Err InvalidMessage) m whole (is-invalid is_known_gpu size 0 (λ bs. valid (read bs)) cs wrong)) refl
          (λ good. m.listed)

-- another form of the same answer
abbrev as_another : {A B : Type 0} → (A → B) → Result A IoError → Result B IoError
as_another f (Ok a) = Ok (f a)
as_another f (Err e) = Err e

another-read : {A B : Type 0} (f : A → B) (read : List ℕ → A) (r : Result (List ℕ) IoError) → as_another f (read_as read r) ≡ read_as (λ bs. f (read bs)) r
another-read f read (Ok bs) = refl
another-read f read (Err e) = refl

module _ {L H A B : Type 0} {event : L → Event H → L → Type 0} (f : A → B) {read : List ℕ → A} where
  recvs-map : {take : List (Cell H) → Result (List ℕ) IoError × List (Cell H)} {old new : State L H} {r : Result A IoError} → RecvsRecord event read take old r new → RecvsRecord event (λ bs. f (read bs)) take old (as_another f r) new
  recvs-map {r = r} (heard {answer} h e listed) = heard h (ap (as_another f) e ∙ another-read f read answer) (λ good. listed (λ bad. good (ap (as_another f) bad)))
  recvs-map (stopped x) = stopped x

  pub asks-map : {place : List ℕ} {sent : GpuSent H} {old new : Channel L H} {r : Result A IoError} → Asks event read place sent old r new → Asks event (λ bs. f (read bs)) place sent old (as_another f r) new
  asks-map (unsent u) = unsent u
  asks-map {sent = sent} {old = old} {new} {r} (asked_for {mid = mid} g t s) = asked_for g (go sent.awaited t) s
    where
      go : (awaited : Option GpuReply) → Takes event read awaited (gpu_head sent) mid r new.endpoint → Takes event (λ bs. f (read bs)) awaited (gpu_head sent) mid (as_another f r) new.endpoint
      go None (e, same) = (ap (as_another f) e, same)
      go (Some shape) x = recvs-map x
