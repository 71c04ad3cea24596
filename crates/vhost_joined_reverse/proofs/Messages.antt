-- What is sent on the reverse channel, and what is answered.
use Rattle.std.proofs.Common.{◌≡◌, ℕ, ◌^◌, ◌<◌, ◌≤◌, Bool, true, false, cond, ◌&&◌, List, [], ◌∷◌, length, Option, Some, None, Result, Ok, Err, refl, sym, ◌∙◌, ap, subst, arith, lit<, length-append}
use Rattle.std.specs.Prelude.{ℤ, ⊤}
use Rattle.std.proofs.lemmas.List.{append-nil}
use Rattle.vhost_message.specs.BackendReq.{backend_request_of, backend_request_number, backend_request_of-number}
use Rattle.vhost_message.specs.Bits.{has_bit}
use Rattle.vhost_message.specs.declared.backend_req.BackendReq.{BackendReq}
use Rattle.vhost_message.specs.declared.backend_req.BackendReq.TheVariants.{IOTLB_MSG, CONFIG_CHANGE_MSG, SHARED_OBJECT_ADD, SHARED_OBJECT_REMOVE, SHARED_OBJECT_LOOKUP, SHMEM_MAP, SHMEM_UNMAP}
use Rattle.vhost_message.specs.declared.limits.TheConstants.{MAX_MSG_SIZE, MAX_MSG_TEXT}
use Rattle.vhost_message.specs.Header.{Header, header_text}
use Rattle.vhost_message.specs.declared.records.shared.VhostUserSharedMsg.{VhostUserSharedMsg}
use Rattle.vhost_message.specs.declared.records.shmem.VhostUserMMap.{VhostUserMMap}
use Rattle.vhost_message.specs.Records.{mmap_of}
use Rattle.vhost_message.specs.Valid.{is_valid_mmap}
use Rattle.vhost_protocol.specs.Error.{InvalidMessage}
use Rattle.vhost_protocol.specs.IoError.{IoError, Of}
use Rattle.vhost_protocol.specs.ReplySplit.{reply_split}
use Rattle.vhost_protocol.specs.Row.{is_bare, name_of, is_valid_name}
use Rattle.vhost_protocol.specs.Joined.{read_as}
use Rattle.vhost_protocol.specs.JoinedReverse.{Asks}
use Rattle.vhost_protocol.specs.Reverse.{ReverseCall, HandleConfigChange, SharedObjectAdd, SharedObjectRemove, SharedObjectLookup, ShmemMap, ShmemUnmap, Backend, Server, ReverseAsked, Refuses, Sends, sends_unless, reverse_ask, reverse_answer, reverse_take, ReverseOutcome, ReverseStep, Refused, Calls, ReverseFollows, reverse_row, reverse_row_of, bad_body, object_row, mapping_row, number_back, result_number, with_number, with_one_handle, backend_allows_handles}
use Rattle.vhost_protocol.specs.ReverseLaws.{IsAnswered, AllAnswered, StaysAnswered}
use Rattle.vhost_protocol.specs.Served.{Served, Silent, Replied, reply, cells_of}
use Rattle.vhost_protocol.specs.Split.{Message}
use Rattle.vhost_protocol.specs.Written.{Written, Payload, Empty, U64, ObjectName, Mapping, head_of, payload_text, reply_to, written_cells, written_text}
use Rattle.vhost_protocol.proofs.ReverseLaws.{reverse-answers, reverse-takes}
use Rattle.vhost_protocol.proofs.TextLaws.{IsSendable}
use Rattle.vhost_link.proofs.Cells.{length-carrying}
use Rattle.vhost_link.specs.declared.plain.PlainHandle.{PlainHandle}
use Rattle.vhost_backend_req.specs.Halves.{IsProper}
use Rattle.vhost_frontend_req_handler.specs.Handling.{fitting}
use Rattle.vhost_joined_reverse.specs.Joined.{Gives}

-- ---- requests

abbrev pub Sendable : Written BackendReq PlainHandle → Type 0
Sendable w = IsSendable backend_request_of backend_allows_handles backend_request_number w

-- what is sent can be sent, and is no reply
abbrev AllSendable : ReverseAsked PlainHandle → Type 0
AllSendable (Refuses e) = ⊤
AllSendable (Sends w awaited) = Sendable w × (w.reply ≡ false)

small-number : (r : BackendReq) → backend_request_number r < 2 ^ 32
small-number IOTLB_MSG = lit< tt
small-number _ = lit< tt

sendable-unless : (b : Backend) (r : BackendReq) (p : Payload) (hs : List PlainHandle) → backend_allows_handles r (length hs) ≡ true → length (payload_text p) ≤ MAX_MSG_SIZE → (failed : Option ℤ) → AllSendable (sends_unless failed b r p hs)
sendable-unless b r p hs allowed small (Some e) = tt
sendable-unless b r p hs allowed small None = (record { known = backend_request_of-number r; code = small-number r; allowed = allowed; size = small }, refl)

sendable-if : (on : Bool) (e : IoError) (x : ReverseAsked PlainHandle) → AllSendable x → AllSendable (cond on x (Refuses e))
sendable-if true e x h = h
sendable-if false e x h = tt

all-sendable : (b : Backend) (call : ReverseCall PlainHandle) → IsProper (Asks call) → AllSendable (reverse_ask b call)
all-sendable b HandleConfigChange proper = sendable-if b.config_change _ _ (sendable-unless b CONFIG_CHANGE_MSG Empty [] refl (omega arith) b.failed)
all-sendable b (SharedObjectAdd name) proper = sendable-if b.shared_object _ _ (sendable-unless b SHARED_OBJECT_ADD (ObjectName name) [] refl (omega (arith, proper)) b.failed)
all-sendable b (SharedObjectRemove name) proper = sendable-if b.shared_object _ _ (sendable-unless b SHARED_OBJECT_REMOVE (ObjectName name) [] refl (omega (arith, proper)) b.failed)
all-sendable b (SharedObjectLookup name h) proper = sendable-if b.shared_object _ _ (sendable-unless b SHARED_OBJECT_LOOKUP (ObjectName name) (h ∷ []) refl (omega (arith, proper)) b.failed)
all-sendable b (ShmemMap mapping h) proper = sendable-if b.shmem _ _ (sendable-unless b SHMEM_MAP (Mapping mapping) (h ∷ []) refl (subst (λ n. n ≤ MAX_MSG_SIZE) (sym proper) (omega arith)) b.failed)
all-sendable b (ShmemUnmap mapping) proper = sendable-if b.shmem _ _ (sendable-unless b SHMEM_UNMAP (Mapping mapping) [] refl (subst (λ n. n ≤ MAX_MSG_SIZE) (sym proper) (omega arith)) b.failed)

pub sendable : (b : Backend) (call : ReverseCall PlainHandle) → IsProper (Asks call) → (w : Written BackendReq PlainHandle) (awaited : Bool) → reverse_ask b call ≡ Sends w awaited → Sendable w × (w.reply ≡ false)
sendable b call proper w awaited is = subst (λ (x : ReverseAsked PlainHandle). AllSendable x) is (all-sendable b call proper)

pub few-written : (w : Written BackendReq PlainHandle) → length (payload_text w.payload) ≤ MAX_MSG_SIZE → length (written_cells backend_request_number w) ≤ MAX_MSG_TEXT
few-written w small =
    rw (length-carrying w.handles (written_text backend_request_number w), length-append (header_text (head_of backend_request_number w)) (payload_text w.payload)) (omega (arith, small))

-- ---- answers

-- nothing, or a number of 64 bits
abbrev pub IsNumber : Served PlainHandle → Type 0
IsNumber Silent = ⊤
IsNumber (Replied (U64 n) []) = n < 2 ^ 64
IsNumber _ = ⊥

abbrev AllNumbers : ReverseStep PlainHandle → Type 0
AllNumbers (Refused o) = IsNumber o.served
AllNumbers (Calls c next) = (a : Result ℕ IoError) → result_number a < 2 ^ 64 → IsNumber (next a).served

number-if : (b : Bool) (n : ℕ) → n < 2 ^ 64 → IsNumber (cond b (Replied (U64 n) []) Silent)
number-if true n small = small
number-if false n small = tt

number-from : (s : Server) (m : Message BackendReq PlainHandle) (a : Result ℕ IoError) → result_number a < 2 ^ 64 → IsNumber (number_back s m a)
number-from s m a small = number-if (s.reply_ack && m.need_reply) (result_number a) small

numbers-call : (b : Bool) (s : Server) (m : Message BackendReq PlainHandle) (c : ReverseCall PlainHandle) → AllNumbers (cond b (Calls c (with_number s m)) bad_body)
numbers-call true s m c = number-from s m
numbers-call false s m c = tt

numbers-object : (s : Server) (m : Message BackendReq PlainHandle) (call : VhostUserSharedMsg → ReverseCall PlainHandle) → AllNumbers (object_row s m call)
numbers-object s m call = numbers-call (is_bare 16 m && is_valid_name (name_of m.body)) s m (call (name_of m.body))

numbers-mapping : (s : Server) (m : Message BackendReq PlainHandle) (call : VhostUserMMap → ReverseCall PlainHandle) → AllNumbers (mapping_row s m call)
numbers-mapping s m call = numbers-call (is_bare 40 m && is_valid_mmap (mmap_of m.body)) s m (call (mmap_of m.body))

numbers-handle : (hs : List PlainHandle) (row : PlainHandle → ReverseStep PlainHandle) → ((h : PlainHandle) → AllNumbers (row h)) → AllNumbers (with_one_handle hs row)
numbers-handle [] row all = tt
numbers-handle (h ∷ hs) row all = all h

row-numbers : (r : BackendReq) (s : Server) (m : Message BackendReq PlainHandle) → AllNumbers (reverse_row_of r s m)
row-numbers CONFIG_CHANGE_MSG s m = numbers-call (is_bare 0 m) s m HandleConfigChange
row-numbers SHARED_OBJECT_ADD s m = numbers-object s m SharedObjectAdd
row-numbers SHARED_OBJECT_REMOVE s m = numbers-object s m SharedObjectRemove
row-numbers SHARED_OBJECT_LOOKUP s m = numbers-handle m.handles (λ h. object_row s m (λ name. SharedObjectLookup name h)) (λ h. numbers-object s m (λ name. SharedObjectLookup name h))
row-numbers SHMEM_MAP s m = numbers-handle m.handles (λ h. mapping_row s m (λ mapping. ShmemMap mapping h)) (λ h. numbers-mapping s m (λ mapping. ShmemMap mapping h))
row-numbers SHMEM_UNMAP s m = numbers-mapping s m ShmemUnmap
row-numbers _ s m = number-from s m (Err (Of InvalidMessage)) (lit< tt)

module _ {Dev : Type 0} (gives : Gives Dev) where
  followed-number : (d d' : Dev) (step : ReverseStep PlainHandle) (o : ReverseOutcome PlainHandle) → AllNumbers step → ReverseFollows (fitting gives) d step o d' → IsNumber o.served
  followed-number d d' (Refused o') o all f = subst (λ (x : ReverseOutcome PlainHandle). IsNumber x.served) (sym f.0) all
  followed-number d d' (Calls c next) o all f = subst (λ (x : ReverseOutcome PlainHandle). IsNumber x.served) (sym f.2) (all f.0 f.1.1)

  pub answers-number : (d d' : Dev) (s : Server) (m : Message BackendReq PlainHandle) (o : ReverseOutcome PlainHandle) → ReverseFollows (fitting gives) d (reverse_row s m) o d' → IsNumber o.served
  answers-number d d' s m o f = followed-number d d' (reverse_row s m) o (row-numbers m.request s m) f

  -- by the device's own relation
  pub follows-plainly : (d d' : Dev) (step : ReverseStep PlainHandle) (o : ReverseOutcome PlainHandle) → ReverseFollows (fitting gives) d step o d' → ReverseFollows gives d step o d'
  follows-plainly d d' (Refused o') o f = f
  follows-plainly d d' (Calls c next) o f = (f.0, f.1.0, f.2)

  followed-answered : (d d' : Dev) (awaited : Bool) (step : ReverseStep PlainHandle) (o : ReverseOutcome PlainHandle) → AllAnswered awaited step → ReverseFollows gives d step o d' → IsAnswered awaited o
  followed-answered d d' awaited (Refused o') o all f = subst (λ (x : ReverseOutcome PlainHandle). IsAnswered awaited x) (sym f.0) all
  followed-answered d d' awaited (Calls c next) o all f = subst (λ (x : ReverseOutcome PlainHandle). IsAnswered awaited x) (sym f.2) (all f.0)

  -- the caller's answer is known
  pub answered-so : (b : Backend) (s : Server) (call : ReverseCall PlainHandle) (w : Written BackendReq PlainHandle) (awaited : Bool) → b.reply_ack ≡ s.reply_ack → reverse_ask b call ≡ Sends w awaited
      → (d d' : Dev) (o : ReverseOutcome PlainHandle) → ReverseFollows gives d (reverse_row s (read_as w)) o d' → IsAnswered awaited o
  answered-so b s call w awaited same is d d' o f =
      followed-answered d d' awaited (reverse_row s (read_as w)) o (subst (λ (x : ReverseAsked PlainHandle). StaysAnswered s x) is (reverse-answers PlainHandle b s call same)) f

pub few-answered : (r : BackendReq) (served : Served PlainHandle) → IsNumber served → length (cells_of backend_request_number (reply r served)) ≤ MAX_MSG_TEXT
few-answered r Silent is = omega arith
few-answered r (Replied (U64 n) []) is = few-written (reply_to r (U64 n) []) (lit< tt)
few-answered r _ is = absurd is

from_some : {A : Type 0} → A → Option A → A
from_some a None = a
from_some a (Some b) = b

-- what came is taken as the answer that it stands for, and nothing is left of it
pub served-taken : (r : BackendReq) (awaited : Bool) (sent : Header) (served : Served PlainHandle) (result : Result ℕ IoError) → sent.code ≡ backend_request_number r → has_bit sent.flags 2 ≡ false → IsNumber served
    → reverse_answer awaited served ≡ Some result → reverse_take awaited sent (cells_of backend_request_number (reply r served)) ≡ (result, [])
unfolding from_some reply_split
served-taken r false sent Silent result code flag is e = ap {A = Option (Result ℕ IoError)} (λ x. (from_some (Ok 0) x, [])) e
served-taken r true sent Silent result code flag is e = ap {A = Option (Result ℕ IoError)} (λ x. (from_some (Ok 0) x, [])) e
served-taken r true sent (Replied (U64 n) []) result code flag is e =
    ap (λ cells. reverse_take true sent cells) (sym (append-nil (cells_of backend_request_number (reply r (Replied (U64 n) []))))) ∙ reverse-takes PlainHandle r sent code flag n is []
    ∙ ap {A = Option (Result ℕ IoError)} (λ x. (from_some (Ok 0) x, [])) e
served-taken r false sent (Replied (U64 n) []) result code flag is e = absurd (cc e)
served-taken r awaited sent _ result code flag is e = absurd is
