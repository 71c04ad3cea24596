-- A session that serves is one still after each of its calls, and holds each number as often.
use Rattle.std.proofs.Common.{◌≡◌, ◌⊎◌, inl, inr, ℕ, ℤ, Bool, true, false, ◌&&◌, List, [], ◌∷◌, Option, Result, Ok, Err, sym, ap, subst, ◌∙◌}
use Rattle.std.specs.Prelude.{⊤, is_some, if◌then◌else◌}
use Rattle.vhost_message.specs.BackendReq.{backend_request_of}
use Rattle.vhost_message.specs.Records.{mmap_of}
use Rattle.vhost_message.specs.Valid.{is_valid_mmap}
use Rattle.vhost_message.specs.declared.backend_req.BackendReq.{BackendReq}
use Rattle.vhost_message.specs.declared.backend_req.BackendReq.TheVariants.{CONFIG_CHANGE_MSG, SHARED_OBJECT_ADD, SHARED_OBJECT_REMOVE, SHARED_OBJECT_LOOKUP, SHMEM_MAP, SHMEM_UNMAP}
use Rattle.vhost_message.specs.declared.error.Error as declared
use Rattle.vhost_protocol.specs.Error.{Error, seen}
use Rattle.vhost_protocol.specs.IoError.{IoError}
use Rattle.vhost_protocol.specs.Reverse.{ReverseCall, ReverseMeets, ReverseStep, Calls, Server, backend_allows_handles, bad_body, reverse_row_of, with_number, with_one_handle}
use Rattle.vhost_protocol.specs.Row.{is_bare, is_valid_name, name_of}
use Rattle.vhost_protocol.specs.Run as run
use Rattle.vhost_protocol.specs.Stream.{Cell}
use Rattle.vhost_link.specs.Mem.{event}
use Rattle.vhost_link.specs.declared.plain.PlainHandle.{PlainHandle}
use Rattle.vhost_connection.specs.Serving.{Handled, Breaks, unread, unanswered}
use Rattle.vhost_connection.specs.declared.request.Request as request
use Rattle.vhost_frontend_req_handler.specs.Calling.{call_in}
use Rattle.vhost_frontend_req_handler.specs.Core.{endpoint_of, server_in}
use Rattle.vhost_frontend_req_handler.specs.Halves.{uncalled}
use Rattle.vhost_frontend_req_handler.specs.Handling as handling
use Rattle.vhost_frontend_req_handler.specs.Handling.{fitting}
use Rattle.vhost_frontend_req_handler.specs.declared.call.FrontendSideCall.{FrontendSideCall}
use Rattle.vhost_c_common.proofs.Balancing.{ends-times, released-times}
use Rattle.vhost_c_common.specs.Held.{held_times}
use Rattle.vhost_c_common.specs.View.{End, Receives}
use Rattle.vhost_c_common.specs.declared.held.Held.{Held}
use Rattle.vhost_c_common.specs.declared.refusal.Refusal.{Refusal}
use Rattle.vhost_c_common.specs.declared.refusal.Refusal.TheVariants.{Protocol, NotReplied, NotYet}
use Rattle.vhost_c_channel.specs.Serving.{Acknowledges, Answering, Begins, Denies, IsNew, IsServed, Nexts, Replies, Request, has_call, remembers, view}
use Rattle.vhost_c_channel.specs.declared.serving.ChannelServer.{ChannelServer}
use Rattle.vhost_c_books.specs.Books.{HasRead, IsServing, Serves}

-- ---- a call stays one, whatever is remembered

abbrev Row : Type 0
Row = ReverseStep PlainHandle

module _ (s t : Server) (m : Request) (k : ReverseCall PlainHandle) where
  if-again : (b : Bool) (c : ReverseCall PlainHandle) → (if b then Calls c (with_number s m) else bad_body) ≡ Calls k (with_number s m) → (if b then Calls c (with_number t m) else bad_body) ≡ Calls k (with_number t m)
  if-again true c is = let same : c ≡ k = cc is in ap (λ x. Calls x (with_number t m)) same
  if-again false c is = absurd (cc is)

  one-again : (hs : List PlainHandle) (next next' : PlainHandle → Row) → ((h : PlainHandle) → next h ≡ Calls k (with_number s m) → next' h ≡ Calls k (with_number t m)) → with_one_handle hs next ≡ Calls k (with_number s m) → with_one_handle hs next' ≡ Calls k (with_number t m)
  one-again [] next next' each is = absurd (cc is)
  one-again (h ∷ hs) next next' each is = each h is

  row-again : (r : BackendReq) → reverse_row_of r s m ≡ Calls k (with_number s m) → reverse_row_of r t m ≡ Calls k (with_number t m)
  row-again CONFIG_CHANGE_MSG is = if-again (is_bare 0 m) _ is
  row-again SHARED_OBJECT_ADD is = if-again (is_bare 16 m && is_valid_name (name_of m.body)) _ is
  row-again SHARED_OBJECT_REMOVE is = if-again (is_bare 16 m && is_valid_name (name_of m.body)) _ is
  row-again SHARED_OBJECT_LOOKUP is = one-again m.handles _ _ (λ h at. if-again (is_bare 16 m && is_valid_name (name_of m.body)) _ at) is
  row-again SHMEM_MAP is = one-again m.handles _ _ (λ h at. if-again (is_bare 40 m && is_valid_mmap (mmap_of m.body)) _ at) is
  row-again SHMEM_UNMAP is = if-again (is_bare 40 m && is_valid_mmap (mmap_of m.body)) _ is
  row-again _ is = absurd (cc is)

-- ---- the call and the end of the connection are as before

module _ (s t : ChannelServer) (pending : t.core.pending ≡ s.core.pending) (call : t.call ≡ s.call) (broken : (endpoint_of t.core).broken ≡ (endpoint_of s.core).broken) (faulted : (endpoint_of t.core).faulted ≡ (endpoint_of s.core).faulted) where
  served-still : (m : Request) (c : FrontendSideCall PlainHandle) → IsServed m c s → IsServed m c t
  served-still m c x = record {
    request = x.request;
    is = pending ∙ x.is;
    code = x.code;
    need_reply = x.need_reply;
    call = call ∙ x.call;
    row = row-again (remembers s) (remembers t) m (call_in c) m.request x.row;
    ready = record { broken = broken ∙ x.ready.broken; faulted = faulted ∙ x.ready.faulted };
  }

  call-still : (has_call s ≡ false) ⊎ HasRead s → (has_call t ≡ false) ⊎ HasRead t
  call-still (inl idle) = inl (ap is_some pending ∙ idle)
  call-still (inr (m, c, x)) = inr (m, c, served-still m c x)

  serving-still : (remembers t).failed ≡ (remembers s).failed → IsServing s → IsServing t
  serving-still mark is = record { unmarked = mark ∙ is.unmarked; call = call-still is.call }

-- what a session keeps between two calls
abbrev Kept : Type 0
Kept = Server × Option (request.Request BackendReq) × List ℕ × Option (FrontendSideCall PlainHandle)

-- bytes came or went
pub serving-since : (s t : ChannelServer) → (view t).rest ≡ (view s).rest → (view t).end ≡ (view s).end → IsServing s → IsServing t
serving-since s t rest end is =
    serving-still s t (ap {A = Kept} (λ k. k.1) rest) (ap {A = Kept} (λ k. k.3) rest) (ap {A = End} (λ e. e.broken) end) (ap {A = End} (λ e. e.faulted) end) (ap {A = Kept} (λ k. k.0.failed) rest) is

-- descriptors went
pub serving-with : (s t : ChannelServer) → t ≡ record s { held = t.held } → IsServing s → IsServing t
serving-with s t same is =
    serving-still s t (ap {A = ChannelServer} (λ k. k.core.pending) same) (ap {A = ChannelServer} (λ k. k.call) same) (ap {A = ChannelServer} (λ k. (endpoint_of k.core).broken) same)
    (ap {A = ChannelServer} (λ k. (endpoint_of k.core).faulted) same) (ap {A = ChannelServer} (λ k. (remembers k).failed) same) is

-- ---- one call

pub serving-new : (s : ChannelServer) → IsNew s → IsServing s
serving-new s new = record { unmarked = ap {A = Server} (λ k. k.failed) new.memory; call = inl new.idle }

-- all is as before
pub alike : (s t : ChannelServer) → t ≡ s → IsServing s → Serves s t
alike s t same is = record { held = λ n. ap {A = ChannelServer} (λ k. held_times n k.held) same; serving = subst IsServing (sym same) is }

pub acknowledges : (on : Bool) (s t : ChannelServer) → Acknowledges on s t → IsServing s → Serves s t
acknowledges on s t x is = record {
  held = λ n. ap {A = Held} (held_times n) x.held;
  serving = serving-still s t x.pending x.call (ap {A = End} (λ e. e.broken) x.end) (ap {A = End} (λ e. e.faulted) x.end) (ap {A = Server} (λ k. k.failed) x.memory) is;
}

-- a piece went out
pub sends : (s t : ChannelServer) → (view t).rest ≡ (view s).rest → (view t).end ≡ (view s).end → t.held ≡ s.held → IsServing s → Serves s t
sends s t rest end held is = record { held = λ n. ap {A = Held} (held_times n) held; serving = serving-since s t rest end is }

-- ---- the next request

abbrev Met : Server → ⊤ → Request → Result ℕ Error → List (Cell PlainHandle) → Server → ⊤ → Type 0
Met = ReverseMeets (fitting uncalled)

heard-same : (s s' : Server) (answer : Result ℕ Error) (x : Result Request Error) (written : List (Cell PlainHandle))
    → run.Handles (λ (_ : Server). backend_request_of) backend_allows_handles (λ (k : Server). k.failed) Met s tt x answer written s' tt → s' ≡ s
heard-same s s' answer (Ok m) written met = met.4
heard-same s s' answer (Err x) written handles = handles.2

module _ (s t : ChannelServer) (e : declared.Error) (d : Denies e s t) where
  denied-same :
      Handled event (λ (_ : Server). backend_request_of) backend_allows_handles (λ (k : Server). k.failed) handling.kept Met (endpoint_of s.core) (server_in s.core) tt (Err (seen e)) (endpoint_of d.mid) (server_in d.mid) tt
      ⊎ Breaks event (λ (_ : Server). backend_request_of) backend_allows_handles (λ (k : Server). k.failed) handling.kept Met (endpoint_of s.core) (server_in s.core) tt e (endpoint_of d.mid) (server_in d.mid) tt
      → server_in d.mid ≡ remembers s
  denied-same (inl h) = heard-same (remembers s) (server_in d.mid) (Err (seen e)) h.heard h.written h.handles
  denied-same (inr (unread part same device)) = same
  denied-same (inr (unanswered m mid hears x)) = x.session ∙ x.meets.4

  denied : IsServing s → Serves s t
  denied is = record {
    held = λ n. released-times n s.held t.held d.held;
    serving = record { unmarked = ap {A = Server} (λ k. k.failed) (d.memory ∙ denied-same d.refuses) ∙ is.unmarked; call = inl d.idle };
  }

begun : (number : ℕ) (s t : ChannelServer) → Begins number s t → IsServing s → Serves s t
begun number s t b is = record {
  held = λ n. ap {A = Held} (held_times n) b.held;
  serving = record { unmarked = ap {A = Server} (λ k. k.failed) b.memory ∙ is.unmarked; call = inr (b.message, b.call, b.served) };
}

pub nexts : (s t : ChannelServer) (outcome : Result ℕ Refusal) → Nexts s outcome t → IsServing s → Serves s t
nexts s t (Ok number) x is = begun number s t (x is.unmarked) is
nexts s t (Err (Protocol e)) x is = denied s t e (x is.unmarked) is
nexts s t (Err NotReplied) x is = alike s t x.1 is
nexts s t (Err NotYet) x is = alike s t x.1 is
nexts s t (Err _) x is = absurd x

-- ---- a reply

module _ (a : Result ℕ IoError) (s t : ChannelServer) (outcome : Result ⊤ Refusal) (x : Answering a s outcome t) where
  left : IsServing s → (has_call s ≡ false) ⊎ HasRead s → IsServing t × (has_call t ≡ false)
  left is (inl idle) = let same : t ≡ s = (x.none idle).1 in (subst IsServing (sym same) is, ap {A = ChannelServer} has_call same ∙ idle)
  left is (inr (m, c, served)) =
      let r : Replies served.request a s outcome t = x.one m c served in
      (record { unmarked = ap {A = Server} (λ k. k.failed) r.memory ∙ is.unmarked; call = inl r.idle }, r.idle)

  pub answers : IsServing s → Serves s t
  answers is = record { held = λ n. ends-times n (has_call s) (has_call t) s.held t.held x.held; serving = (left is is.call).0 }

  -- no call is to be replied to any more
  pub answered-all : IsServing s → has_call t ≡ false
  answered-all is = (left is is.call).1

-- ---- bytes came

pub serving-got : (missing : ℕ) (bytes : List ℕ) (fds : List ℤ) (s t : ChannelServer) (outcome : Result ⊤ Refusal) → Receives missing bytes fds (view s) outcome (view t) → IsServing s → IsServing t
serving-got missing bytes fds s t (Ok done) x is = serving-since s t x.3.rest x.3.end is
serving-got missing bytes fds s t (Err r) x is = serving-since s t x.2.rest x.2.end is
