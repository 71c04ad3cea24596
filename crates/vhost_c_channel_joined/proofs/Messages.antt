-- What goes over the backend channel: requests that can be sent, what their rows make of them, and replies.
use Rattle.std.proofs.Common.{◌≡◌, ℕ, ◌^◌, ◌<◌, ◌≤◌, Bool, true, false, cond, ◌&&◌, List, [], ◌∷◌, length, Option, Some, None, Result, Ok, Err, refl, sym, ◌∙◌, ap, subst, arith, lit<, length-append}
use Rattle.std.specs.Prelude.{ℤ, ⊤, ◌==◌, is_err, not}
use Rattle.std.proofs.lemmas.Bool.{eq-eqb}
use Rattle.std.proofs.lemmas.List.{append-nil}
use Rattle.vhost_message.specs.BackendReq.{backend_request_of, backend_request_number, backend_request_of-number}
use Rattle.vhost_message.specs.Bits.{has_bit}
use Rattle.vhost_message.specs.declared.backend_req.BackendReq.{BackendReq}
use Rattle.vhost_message.specs.declared.backend_req.BackendReq.TheVariants.{IOTLB_MSG, CONFIG_CHANGE_MSG, SHARED_OBJECT_ADD, SHARED_OBJECT_REMOVE, SHARED_OBJECT_LOOKUP, SHMEM_MAP, SHMEM_UNMAP}
use Rattle.vhost_message.specs.declared.limits.TheConstants.{MAX_MSG_SIZE, MAX_MSG_TEXT}
use Rattle.vhost_message.specs.Header.{Header, header_text}
use Rattle.vhost_message.specs.declared.records.shared.VhostUserSharedMsg.{VhostUserSharedMsg}
use Rattle.vhost_message.specs.declared.records.shmem.VhostUserMMap.{VhostUserMMap}
use Rattle.vhost_message.specs.LongRecords.{mmap-length, mmap-reads_back}
use Rattle.vhost_message.specs.LongRecords.{MMapFits}
use Rattle.vhost_message.specs.Records.{mmap_of, mmap_text}
use Rattle.vhost_message.specs.Valid.{is_valid_mmap}
use Rattle.vhost_protocol.specs.Error.{InvalidMessage}
use Rattle.vhost_protocol.specs.IoError.{IoError, Of}
use Rattle.vhost_protocol.specs.ReplySplit.{reply_split}
use Rattle.vhost_protocol.specs.Row.{is_bare, name_of, is_valid_name}
use Rattle.vhost_protocol.specs.Joined.{read_as}
use Rattle.vhost_protocol.specs.JoinedReverse.{Asks}
use Rattle.vhost_protocol.specs.Reverse.{ReverseCall, HandleConfigChange, SharedObjectAdd, SharedObjectRemove, SharedObjectLookup, ShmemMap, ShmemUnmap, Backend, Server, ReverseAsked, Refuses, Sends, sends_unless, reverse_ask, reverse_answer, reverse_take, ReverseOutcome, ReverseStep, Refused, Calls, ReverseFollows, reverse_row, reverse_row_of, bad_body, object_row, mapping_row, number_back, result_number, with_number, with_one_handle, backend_allows_handles}
use Rattle.vhost_protocol.specs.ReverseLaws.{IsAnswered, AllAnswered, StaysAnswered}
use Rattle.vhost_protocol.specs.Served.{Served, Silent, Replied, reply, cells_of}
use Rattle.vhost_protocol.specs.Written.{Written, Payload, Empty, U64, ObjectName, Mapping, head_of, payload_text, written_cells, written_text}
use Rattle.vhost_protocol.proofs.ReverseLaws.{reverse-answers, reverse-takes}
use Rattle.vhost_protocol.proofs.TextLaws.{IsSendable}
use Rattle.vhost_link.proofs.Cells.{length-carrying}
use Rattle.vhost_link.specs.declared.plain.PlainHandle.{PlainHandle}
use Rattle.vhost_frontend_req_handler.specs.Halves.{uncalled}
use Rattle.vhost_frontend_req_handler.specs.Handling.{fitting}
use Rattle.vhost_c_channel_joined.specs.Crossing.{IsNumber, replies}
use Rattle.vhost_c_channel_joined.specs.Joined.{IsMade, answers, is_valid_call}
use Rattle.vhost_c_channel.specs.Serving.{Request}
use Rattle.vhost_c_channel_joined.specs.Wire.{HaveDescriptors}

-- ---- requests

abbrev pub Sendable : Written BackendReq PlainHandle → Type 0
Sendable w = IsSendable backend_request_of backend_allows_handles backend_request_number w

-- what the row of a call makes of its message
abbrev pub row_for : Server → Request → ReverseCall PlainHandle → ReverseStep PlainHandle
row_for s m c = cond (is_valid_call c) (Calls c (with_number s m)) bad_body

-- What is sent can be sent, is no reply, and wants one where it is awaited. Its descriptors are those of C, and its row makes this call again.
pub record IsSent (b : Backend) (c : ReverseCall PlainHandle) (w : Written BackendReq PlainHandle) (awaited : Bool) : Type 0 where
  pub sendable : Sendable w
  pub plain : w.reply ≡ false
  pub waits : awaited ≡ b.reply_ack
  pub wanted : w.need_reply ≡ b.reply_ack
  pub have : HaveDescriptors w.handles
  pub row : (s : Server) → reverse_row s (read_as w) ≡ row_for s (read_as w) c

abbrev AllSent : Backend → ReverseCall PlainHandle → ReverseAsked PlainHandle → Type 0
AllSent b c (Refuses e) = ⊤
AllSent b c (Sends w awaited) = IsSent b c w awaited

pub small-number : (r : BackendReq) → backend_request_number r < 2 ^ 32
small-number IOTLB_MSG = lit< tt
small-number _ = lit< tt

abbrev asking : Backend → BackendReq → Payload → List PlainHandle → Request
asking b r p hs = record { request = r; reply = false; need_reply = b.reply_ack; body = payload_text p; handles = hs }

sent-unless : (b : Backend) (c : ReverseCall PlainHandle) (r : BackendReq) (p : Payload) (hs : List PlainHandle) → backend_allows_handles r (length hs) ≡ true → length (payload_text p) ≤ MAX_MSG_SIZE → HaveDescriptors hs
    → ((s : Server) → reverse_row_of r s (asking b r p hs) ≡ row_for s (asking b r p hs) c) → (failed : Option ℤ) → AllSent b c (sends_unless failed b r p hs)
sent-unless b c r p hs allowed small have row (Some e) = tt
sent-unless b c r p hs allowed small have row None = record {
  sendable = record { known = backend_request_of-number r; code = small-number r; allowed = allowed; size = small };
  plain = refl;
  waits = refl;
  wanted = refl;
  have = have;
  row = row;
}

sent-if : (b : Backend) (c : ReverseCall PlainHandle) (on : Bool) (e : IoError) (x : ReverseAsked PlainHandle) → AllSent b c x → AllSent b c (cond on x (Refuses e))
sent-if b c true e x h = h
sent-if b c false e x h = tt

-- a row whose body has its size
object-again : (s : Server) (m : Request) (name : VhostUserSharedMsg) (call : VhostUserSharedMsg → ReverseCall PlainHandle) → m.body ≡ name.uuid → m.reply ≡ false → length name.uuid ≡ 16
    → object_row s m call ≡ cond (is_valid_name name) (Calls (call name) (with_number s m)) bad_body
object-again s m name call body plain long =
    let sized : is_bare 16 m ≡ true = (λ i. length (body i) == 16 && not (plain i)) ∙ ap (λ b. b && true) (eq-eqb (length name.uuid) 16 long) in
    ap (λ b. cond (b && is_valid_name (name_of m.body)) (Calls (call (name_of m.body)) (with_number s m)) bad_body) sized
    ∙ ap (λ text. cond (is_valid_name (name_of text)) (Calls (call (name_of text)) (with_number s m)) bad_body) body

mapping-again : (s : Server) (m : Request) (mapping : VhostUserMMap) (call : VhostUserMMap → ReverseCall PlainHandle) → m.body ≡ mmap_text mapping → m.reply ≡ false → MMapFits mapping
    → mapping_row s m call ≡ cond (is_valid_mmap mapping) (Calls (call mapping) (with_number s m)) bad_body
mapping-again s m mapping call body plain fits =
    let sized : is_bare 40 m ≡ true = (λ i. length (body i) == 40 && not (plain i)) ∙ ap (λ b. b && true) (eq-eqb (length (mmap_text mapping)) 40 (mmap-length mapping fits)) in
    ap (λ b. cond (b && is_valid_mmap (mmap_of m.body)) (Calls (call (mmap_of m.body)) (with_number s m)) bad_body) sized
    ∙ ap (λ k. cond (is_valid_mmap k) (Calls (call k) (with_number s m)) bad_body) (ap mmap_of body ∙ mmap-reads_back mapping fits)

named : (name : VhostUserSharedMsg) → length name.uuid ≡ 16 → length (payload_text (ObjectName name)) ≤ MAX_MSG_SIZE
named name long = omega (arith, long)

mapped : (mapping : VhostUserMMap) → MMapFits mapping → length (payload_text (Mapping mapping)) ≤ MAX_MSG_SIZE
mapped mapping fits = subst (λ n. n ≤ MAX_MSG_SIZE) (sym (mmap-length mapping fits)) (omega arith)

all-sent : (b : Backend) (call : ReverseCall PlainHandle) → IsMade (Asks call) → AllSent b call (reverse_ask b call)
all-sent b HandleConfigChange made = sent-if b HandleConfigChange b.config_change _ _ (sent-unless b HandleConfigChange CONFIG_CHANGE_MSG Empty [] refl (omega arith) refl (λ s. refl) b.failed)
all-sent b (SharedObjectAdd name) made =
    sent-if b (SharedObjectAdd name) b.shared_object _ _ (sent-unless b (SharedObjectAdd name) SHARED_OBJECT_ADD (ObjectName name) [] refl (named name made) refl (λ s. object-again s (asking b SHARED_OBJECT_ADD (ObjectName name) []) name SharedObjectAdd refl refl made) b.failed)
all-sent b (SharedObjectRemove name) made =
    sent-if b (SharedObjectRemove name) b.shared_object _ _ (sent-unless b (SharedObjectRemove name) SHARED_OBJECT_REMOVE (ObjectName name) [] refl (named name made) refl (λ s. object-again s (asking b SHARED_OBJECT_REMOVE (ObjectName name) []) name SharedObjectRemove refl refl made) b.failed)
all-sent b (SharedObjectLookup name h) made =
    sent-if b (SharedObjectLookup name h) b.shared_object _ _ (sent-unless b (SharedObjectLookup name h) SHARED_OBJECT_LOOKUP (ObjectName name) (h ∷ []) refl (named name made.0) made.1 (λ s. object-again s (asking b SHARED_OBJECT_LOOKUP (ObjectName name) (h ∷ [])) name (λ n. SharedObjectLookup n h) refl refl made.0) b.failed)
all-sent b (ShmemMap mapping h) made =
    sent-if b (ShmemMap mapping h) b.shmem _ _ (sent-unless b (ShmemMap mapping h) SHMEM_MAP (Mapping mapping) (h ∷ []) refl (mapped mapping made.0) made.1 (λ s. mapping-again s (asking b SHMEM_MAP (Mapping mapping) (h ∷ [])) mapping (λ k. ShmemMap k h) refl refl made.0) b.failed)
all-sent b (ShmemUnmap mapping) made =
    sent-if b (ShmemUnmap mapping) b.shmem _ _ (sent-unless b (ShmemUnmap mapping) SHMEM_UNMAP (Mapping mapping) [] refl (mapped mapping made) refl (λ s. mapping-again s (asking b SHMEM_UNMAP (Mapping mapping) []) mapping ShmemUnmap refl refl made) b.failed)

pub sent : (b : Backend) (call : ReverseCall PlainHandle) → IsMade (Asks call) → (w : Written BackendReq PlainHandle) (awaited : Bool) → reverse_ask b call ≡ Sends w awaited → IsSent b call w awaited
sent b call made w awaited is = subst (λ (x : ReverseAsked PlainHandle). AllSent b call x) is (all-sent b call made)

pub few-written : (w : Written BackendReq PlainHandle) → length (payload_text w.payload) ≤ MAX_MSG_SIZE → length (written_cells backend_request_number w) ≤ MAX_MSG_TEXT
few-written w small =
    rw (length-carrying w.handles (written_text backend_request_number w), length-append (header_text (head_of backend_request_number w)) (payload_text w.payload)) (omega (arith, small))

-- ---- rows

-- What a row makes of a message: a refusal in silence, one that is acknowledged, or a call whose answer is.
pub data Shape (s : Server) (m : Request) : ReverseStep PlainHandle → Type 0 where
  silent : Shape s m bad_body
  unserved : Shape s m (Refused (record { answer = Err InvalidMessage; served = number_back s m (Err (Of InvalidMessage)) }))
  calls : (c : ReverseCall PlainHandle) → Shape s m (Calls c (with_number s m))

shape-if : (b : Bool) (s : Server) (m : Request) (c : ReverseCall PlainHandle) → Shape s m (cond b (Calls c (with_number s m)) bad_body)
shape-if true s m c = calls c
shape-if false s m c = silent

shape-object : (s : Server) (m : Request) (call : VhostUserSharedMsg → ReverseCall PlainHandle) → Shape s m (object_row s m call)
shape-object s m call = shape-if (is_bare 16 m && is_valid_name (name_of m.body)) s m (call (name_of m.body))

shape-mapping : (s : Server) (m : Request) (call : VhostUserMMap → ReverseCall PlainHandle) → Shape s m (mapping_row s m call)
shape-mapping s m call = shape-if (is_bare 40 m && is_valid_mmap (mmap_of m.body)) s m (call (mmap_of m.body))

shape-handle : (s : Server) (m : Request) (hs : List PlainHandle) (row : PlainHandle → ReverseStep PlainHandle) → ((h : PlainHandle) → Shape s m (row h)) → Shape s m (with_one_handle hs row)
shape-handle s m [] row all = silent
shape-handle s m (h ∷ hs) row all = all h

shape-of : (r : BackendReq) (s : Server) (m : Request) → Shape s m (reverse_row_of r s m)
shape-of CONFIG_CHANGE_MSG s m = shape-if (is_bare 0 m) s m HandleConfigChange
shape-of SHARED_OBJECT_ADD s m = shape-object s m SharedObjectAdd
shape-of SHARED_OBJECT_REMOVE s m = shape-object s m SharedObjectRemove
shape-of SHARED_OBJECT_LOOKUP s m = shape-handle s m m.handles (λ h. object_row s m (λ name. SharedObjectLookup name h)) (λ h. shape-object s m (λ name. SharedObjectLookup name h))
shape-of SHMEM_MAP s m = shape-handle s m m.handles (λ h. mapping_row s m (λ mapping. ShmemMap mapping h)) (λ h. shape-mapping s m (λ mapping. ShmemMap mapping h))
shape-of SHMEM_UNMAP s m = shape-mapping s m ShmemUnmap
shape-of _ s m = unserved

pub row-shape : (s : Server) (m : Request) → Shape s m (reverse_row s m)
row-shape s m = shape-of m.request s m

-- ---- what becomes of a request

number-if : (b : Bool) (n : ℕ) → n < 2 ^ 64 → IsNumber (cond b (Replied (U64 n) []) Silent)
number-if true n small = small
number-if false n small = tt

pub number-from : (s : Server) (m : Request) (a : Result ℕ IoError) → result_number a < 2 ^ 64 → IsNumber (number_back s m a)
number-from s m a small = number-if (s.reply_ack && m.need_reply) (result_number a) small

-- a number goes back to whom wants it
spoken : (s : Server) (m : Request) (a : Result ℕ IoError) (A : Type 0) → s.reply_ack ≡ true → m.need_reply ≡ true → number_back s m a ≡ Silent → A
spoken s m a A on wants none =
    let both : (s.reply_ack && m.need_reply) ≡ true = ap (λ b. b && m.need_reply) on ∙ wants in
    absurd (cc (sym (ap (λ b. cond {A = Served PlainHandle} b (Replied (U64 (result_number a)) []) Silent) both) ∙ none))

module _ (a : Result ℕ IoError) (s : Server) (m : Request) where
  is-bad : (x : ReverseStep PlainHandle) (o : ReverseOutcome PlainHandle) → Shape s m x → ReverseFollows (replies a) tt x o tt → s.reply_ack ≡ true → m.need_reply ≡ true → o.served ≡ Silent → x ≡ bad_body
  is-bad _ o silent f on wants none = refl
  is-bad _ o unserved f on wants none = spoken s m (Err (Of InvalidMessage)) _ on wants (ap (λ (y : ReverseOutcome PlainHandle). y.served) (sym f.0) ∙ none)
  is-bad _ o (calls c) f on wants none =
      let same : o ≡ with_number s m a = f.2 ∙ ap (λ b. with_number s m b) f.1 in
      spoken s m a _ on wants (ap (λ (y : ReverseOutcome PlainHandle). y.served) (sym same) ∙ none)

  -- nothing is sent to whom wants it only where the body is not valid
  pub silent-bad : (o : ReverseOutcome PlainHandle) → ReverseFollows (replies a) tt (reverse_row s m) o tt → s.reply_ack ≡ true → m.need_reply ≡ true → o.served ≡ Silent → reverse_row s m ≡ bad_body
  silent-bad o f on wants none = is-bad (reverse_row s m) o (row-shape s m) f on wants none

  -- and that is an error
  pub bad-err : (o : ReverseOutcome PlainHandle) → ReverseFollows (replies a) tt (reverse_row s m) o tt → reverse_row s m ≡ bad_body → is_err o.answer ≡ true
  bad-err o f bad =
      let g : ReverseFollows (replies a) tt bad_body o tt = subst (λ (x : ReverseStep PlainHandle). ReverseFollows (replies a) tt x o tt) bad f in
      ap (λ (y : ReverseOutcome PlainHandle). is_err y.answer) g.0

  -- ---- where nobody is called

  refused-so : (x : ReverseStep PlainHandle) (o : ReverseOutcome PlainHandle) → Shape s m x → ReverseFollows (fitting uncalled) tt x o tt → ReverseFollows (replies a) tt x o tt × (o.answer ≡ Err InvalidMessage) × IsNumber o.served
  refused-so _ o silent f = (f, ap (λ (y : ReverseOutcome PlainHandle). y.answer) f.0, subst (λ (y : ReverseOutcome PlainHandle). IsNumber y.served) (sym f.0) tt)
  refused-so _ o unserved f = (f, ap (λ (y : ReverseOutcome PlainHandle). y.answer) f.0, subst (λ (y : ReverseOutcome PlainHandle). IsNumber y.served) (sym f.0) (number-from s m (Err (Of InvalidMessage)) (lit< tt)))
  refused-so _ o (calls c) f = absurd f.1.0

  pub refused : (o : ReverseOutcome PlainHandle) → ReverseFollows (fitting uncalled) tt (reverse_row s m) o tt → ReverseFollows (replies a) tt (reverse_row s m) o tt × (o.answer ≡ Err InvalidMessage) × IsNumber o.served
  refused o f = refused-so (reverse_row s m) o (row-shape s m) f

  -- ---- the device's answer

  followed-answered : (awaited : Bool) (x : ReverseStep PlainHandle) (o : ReverseOutcome PlainHandle) → AllAnswered awaited x → ReverseFollows (replies a) tt x o tt → IsAnswered awaited o
  followed-answered awaited (Refused o') o all f = subst (λ (y : ReverseOutcome PlainHandle). IsAnswered awaited y) (sym f.0) all
  followed-answered awaited (Calls c next) o all f = subst (λ (y : ReverseOutcome PlainHandle). IsAnswered awaited y) (sym f.2) (all f.0)

-- it is known
pub answered : (a : Result ℕ IoError) (b : Backend) (s : Server) (call : ReverseCall PlainHandle) (w : Written BackendReq PlainHandle) (awaited : Bool) → b.reply_ack ≡ s.reply_ack → reverse_ask b call ≡ Sends w awaited
    → (o : ReverseOutcome PlainHandle) → ReverseFollows (replies a) tt (reverse_row s (read_as w)) o tt → IsAnswered awaited o
answered a b s call w awaited same is o f =
    followed-answered a s (read_as w) awaited (reverse_row s (read_as w)) o (subst (λ (x : ReverseAsked PlainHandle). StaysAnswered s x) is (reverse-answers PlainHandle b s call same)) f

-- ---- the call that was asked

module _ (c : ReverseCall PlainHandle) (a : Result ℕ IoError) (s : Server) (m : Request) (o : ReverseOutcome PlainHandle) where
  again-so : (valid : Bool) → ReverseFollows (replies a) tt (cond valid (Calls c (with_number s m)) bad_body) o tt → ReverseFollows (answers (Asks c, a)) tt (cond valid (Calls c (with_number s m)) bad_body) o tt
  again-so true f = (f.0, (refl, f.1), f.2)
  again-so false f = f

  -- it is the one that the frontend's side was asked
  pub again : reverse_row s m ≡ row_for s m c → ReverseFollows (replies a) tt (reverse_row s m) o tt → ReverseFollows (answers (Asks c, a)) tt (reverse_row s m) o tt
  again row f =
      subst (λ (x : ReverseStep PlainHandle). ReverseFollows (answers (Asks c, a)) tt x o tt) (sym row)
      (again-so (is_valid_call c) (subst (λ (x : ReverseStep PlainHandle). ReverseFollows (replies a) tt x o tt) row f))

-- one that is refused is not valid
pub invalid-so : (c : ReverseCall PlainHandle) (s : Server) (m : Request) → reverse_row s m ≡ row_for s m c → reverse_row s m ≡ bad_body → is_valid_call c ≡ false
invalid-so c s m row bad = by (is_valid_call c) (sym row ∙ bad)
  where
    by : (b : Bool) → ◌≡◌ {A = ReverseStep PlainHandle} (cond b (Calls c (with_number s m)) bad_body) bad_body → b ≡ false
    by true is = absurd (cc is)
    by false is = refl

-- ---- replies

from_some : {A : Type 0} → A → Option A → A
from_some a None = a
from_some a (Some b) = b

-- what came is taken as the answer that it stands for, and nothing is left of it
pub served-taken : (r : BackendReq) (awaited : Bool) (head : Header) (served : Served PlainHandle) (result : Result ℕ IoError) → head.code ≡ backend_request_number r → has_bit head.flags 2 ≡ false → IsNumber served
    → reverse_answer awaited served ≡ Some result → reverse_take awaited head (cells_of backend_request_number (reply r served)) ≡ (result, [])
unfolding from_some reply_split
served-taken r false head Silent result code flag is e = ap {A = Option (Result ℕ IoError)} (λ x. (from_some (Ok 0) x, [])) e
served-taken r true head Silent result code flag is e = ap {A = Option (Result ℕ IoError)} (λ x. (from_some (Ok 0) x, [])) e
served-taken r true head (Replied (U64 n) []) result code flag is e =
    ap (λ cells. reverse_take true head cells) (sym (append-nil (cells_of backend_request_number (reply r (Replied (U64 n) []))))) ∙ reverse-takes PlainHandle r head code flag n is []
    ∙ ap {A = Option (Result ℕ IoError)} (λ x. (from_some (Ok 0) x, [])) e
served-taken r false head (Replied (U64 n) []) result code flag is e = absurd (cc e)
served-taken r awaited head _ result code flag is e = absurd is
