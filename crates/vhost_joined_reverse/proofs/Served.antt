-- A request that was served, or not.
use Rattle.std.proofs.Common.{◌≡◌, ℕ, ◌<◌, ◌≤◌, ◌⊎◌, inl, inr, true, List, [], ◌++◌, length, take, None, Result, Ok, Err, sym, ◌∙◌, ap, subst}
use Rattle.std.proofs.lemmas.List.{append-nil}
use Rattle.vhost_message.specs.declared.cause.IoCause.{IoCause}
use Rattle.vhost_message.specs.declared.error.Error as declared
use Rattle.vhost_message.specs.declared.backend_req.BackendReq.{BackendReq}
use Rattle.vhost_message.specs.declared.limits.TheConstants.{MAX_MSG_TEXT}
use Rattle.vhost_message.specs.BackendReq.{backend_request_of, backend_request_number}
use Rattle.vhost_protocol.specs.Error.{Error, seen_result}
use Rattle.vhost_protocol.specs.Joined.{read_as}
use Rattle.vhost_protocol.specs.Reverse.{Server, ReverseOutcome, ReverseFollows, ReverseMeets, reverse_row, backend_allows_handles}
use Rattle.vhost_protocol.specs.Run as run
use Rattle.vhost_protocol.specs.Served.{reply, cells_of}
use Rattle.vhost_protocol.specs.Split.{split, Message}
use Rattle.vhost_protocol.specs.Stream.{Cell}
use Rattle.vhost_protocol.specs.Written.{Written, written_cells}
use Rattle.vhost_protocol.proofs.TextLaws.{IsSendable, written-split}
use Rattle.vhost_link.specs.declared.plain.PlainHandle.{PlainHandle}
use Rattle.vhost_link.specs.Mem.{event}
use Rattle.vhost_connection.specs.Serving.{Handled}
use Rattle.vhost_frontend_req_handler.specs.Handling.{HandlesOne, fitting, kept as kept_all}
use Rattle.vhost_joined.specs.OnWay.{incoming, outgoing}
use Rattle.vhost_joined.specs.Joined.{PassesBoth, Stops, StopsReply}
use Rattle.vhost_joined.specs.Sides.{cuts_of}
use Rattle.vhost_joined.proofs.Spent.{End}
use Rattle.vhost_joined.proofs.Handled as handling
use Rattle.vhost_joined.proofs.Handled.{Faults}
use Rattle.vhost_joined.proofs.Served.{pair-first, pair-second}
use Rattle.vhost_joined_reverse.specs.Joined.{Gives}

module _ {Dev : Type 0} (gives : Gives Dev) (he he' : End) (s s' : Server) (d d' : Dev) where
  abbrev Met : Server → Dev → Message BackendReq PlainHandle → Result ℕ Error → List (Cell PlainHandle) → Server → Dev → Type 0
  Met = ReverseMeets (fitting gives)

  abbrev pub Handled1 : Result ℕ Error → Type 0
  Handled1 a = Handled event (λ (_ : Server). backend_request_of) backend_allows_handles (λ (t : Server). t.failed) kept_all Met he s d a he' s' d'

  -- the serving side's link failed
  abbrev pub ServingFaults : Type 0
  ServingFaults = Faults (λ (_ : Server). backend_request_of) backend_allows_handles (λ (t : Server). t.failed) kept_all Met he he' s s' d d'

  pub split-handled : (r : Result ℕ declared.Error) → HandlesOne event gives he s d r he' s' d' → he.broken ≡ None → he.list ≡ true → Handled1 (seen_result r) ⊎ ServingFaults
  split-handled = handling.split-handled (λ (_ : Server). backend_request_of) backend_allows_handles (λ (t : Server). t.failed) kept_all Met he he' s s' d d'

  pub faulted-so : ServingFaults → he'.faulted ≡ true
  faulted-so = handling.faulted-so (λ (_ : Server). backend_request_of) backend_allows_handles (λ (t : Server). t.failed) kept_all Met he he' s s' d d'

  module _ (w : Written BackendReq PlainHandle) (sendable : IsSendable backend_request_of backend_allows_handles backend_request_number w) (came : incoming he ≡ written_cells backend_request_number w) (clear : outgoing he ≡ []) where
    -- what is heard is this request
    own : (heard : Result (Message BackendReq PlainHandle) Error) (left : List (Cell PlainHandle)) → split backend_request_of backend_allows_handles (incoming he) ≡ (heard, left)
        → ◌≡◌ {A = Result (Message BackendReq PlainHandle) Error × List (Cell PlainHandle)} (heard, left) (Ok (read_as w), [])
    own heard left first =
        sym first ∙ ap (λ cells. split backend_request_of backend_allows_handles cells) (came ∙ sym (append-nil (written_cells backend_request_number w)))
        ∙ written-split backend_request_of backend_allows_handles backend_request_number w [] sendable

    -- The request was served.
    pub record IsServed (r : Result ℕ Error) : Type 0 where
      pub handled : Handled1 r
      pub outcome : ReverseOutcome PlainHandle
      pub follows : ReverseFollows (fitting gives) d (reverse_row s (read_as w)) outcome d'
      pub answer : r ≡ outcome.answer
      pub wrote : handled.written ≡ cells_of backend_request_number (reply w.request outcome.served)
      pub written : outgoing he' ≡ cells_of backend_request_number (reply w.request outcome.served)
      pub session : s' ≡ s
      pub nothing : incoming he' ≡ []

    pub is-served : (r : Result ℕ Error) → Handled1 r → IsServed r
    is-served r h =
        let both = own h.heard (incoming he') (handling.handled-first (λ (_ : Server). backend_request_of) backend_allows_handles (λ (t : Server). t.failed) kept_all Met he he' s s' d d' r h) in
        let m : Met s d (read_as w) r h.written s' d' =
        subst (λ x. run.Handles (λ (_ : Server). backend_request_of) backend_allows_handles (λ (t : Server). t.failed) Met s d x r h.written s' d') (pair-first both) h.handles in
        record {
          handled = h;
          outcome = m.0;
          follows = m.1;
          answer = m.2;
          wrote = m.3;
          written = handling.handled-written (λ (_ : Server). backend_request_of) backend_allows_handles (λ (t : Server). t.failed) kept_all Met he he' s s' d d' r h ∙ ap (λ xs. xs ++ h.written) clear ∙ m.3;
          session = m.4;
          nothing = pair-second both;
        }

    -- each of the two messages has its own budget
    pub both-passed : (r : Result ℕ Error) (k : IsServed r) → he.ahead ≡ []
        → PassesBoth he.budget (written_cells backend_request_number w) (cells_of backend_request_number (reply w.request k.outcome.served)) (cuts_of he.link) (cuts_of he'.link)
    both-passed r k fresh =
        subst (λ cells. PassesBoth he.budget (written_cells backend_request_number w) cells (cuts_of he.link) (cuts_of he'.link)) k.wrote
        (handling.both-passed (λ (_ : Server). backend_request_of) backend_allows_handles (λ (t : Server). t.failed) kept_all Met he he' s s' d d' r k.handled (written_cells backend_request_number w) (λ some. (fresh, came, k.nothing)))

    pub served-budget : (r : Result ℕ Error) (k : IsServed r) → he'.budget ≡ he.budget
    served-budget r k = handling.handled-budget (λ (_ : Server). backend_request_of) backend_allows_handles (λ (t : Server). t.failed) kept_all Met he he' s s' d d' r k.handled

    -- It was not: what was written is none, or a front of the row's reply.
    pub data IsUnserved : Type 0 where
      unread : (c : IoCause) → Stops he.budget c (cuts_of he.link) (cuts_of he'.link) → outgoing he' ≡ [] → s' ≡ s → d' ≡ d → IsUnserved
      unanswered : (c : IoCause) (o : ReverseOutcome PlainHandle) (count : ℕ) → StopsReply he.budget c (written_cells backend_request_number w) (cuts_of he.link) (cuts_of he'.link) → ReverseFollows (fitting gives) d (reverse_row s (read_as w)) o d'
          → count < length (cells_of backend_request_number (reply w.request o.served)) → length (cells_of backend_request_number (reply w.request o.served)) ≤ MAX_MSG_TEXT
          → outgoing he' ≡ take count (cells_of backend_request_number (reply w.request o.served)) → s' ≡ s → IsUnserved

    message-of : Message BackendReq PlainHandle → Result (Message BackendReq PlainHandle) Error → Message BackendReq PlainHandle
    message-of m (Ok x) = x
    message-of m (Err e) = m

    pub is-unserved : he.ahead ≡ [] → ServingFaults → IsUnserved
    unfolding message-of
    is-unserved fresh (inl k) = unread k.reading.cause k.reading.stopped (k.reading.sent ∙ clear) k.session k.device
    is-unserved fresh (inr k) =
        let same : k.message ≡ read_as w = ap (message-of k.message) (pair-first (own (Ok k.message) (incoming he') k.first)) in
        let m : Met s d (read_as w) k.answer k.reply k.after d' = subst (λ (x : Message BackendReq PlainHandle). Met s d x k.answer k.reply k.after d') same k.meets in
        unanswered k.cause m.0 k.count (k.stopped (written_cells backend_request_number w) (λ some. (fresh, came, pair-second (own (Ok k.message) (incoming he') k.first)))) m.1 (subst (λ cells. k.count < length cells) m.3 k.short) (subst (λ cells. length cells ≤ MAX_MSG_TEXT) m.3 k.few)
        (k.sent ∙ ap (λ xs. xs ++ take k.count k.reply) clear ∙ ap (λ cells. take k.count cells) m.3) (k.session ∙ m.4)
