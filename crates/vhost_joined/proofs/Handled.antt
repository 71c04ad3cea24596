-- A message that a handler served, or did not, whichever side it serves.
use Rattle.std.proofs.Common.{◌≡◌, ℕ, ℤ, ◌<◌, ◌≤◌, ◌⊎◌, inl, inr, Bool, true, false, List, [], ◌++◌, length, take, Option, None, Result, Ok, Err, refl, ◌∙◌, ap, subst}
use Rattle.std.proofs.lemmas.List.{append-nil}
use Rattle.vhost_message.specs.declared.cause.IoCause.{IoCause}
use Rattle.vhost_message.specs.declared.limits.TheConstants.{MAX_MSG_TEXT}
use Rattle.vhost_message.specs.Cause.{is_retry}
use Rattle.vhost_message.specs.declared.error.Error as declared
use Rattle.vhost_protocol.specs.Error.{Error, seen_result}
use Rattle.vhost_protocol.specs.Split.{split, Message}
use Rattle.vhost_protocol.specs.Stream.{Cell, has_some, items}
use Rattle.vhost_link.specs.declared.plain.PlainHandle.{PlainHandle}
use Rattle.vhost_link.specs.Mem.{event}
use Rattle.vhost_link.specs.Law.{Move}
use Rattle.vhost_connection.specs.Pass.{sends}
use Rattle.vhost_connection.specs.Hearing.{Hears}
use Rattle.vhost_connection.specs.Requests as endpoint
use Rattle.vhost_connection.proofs.Adding.{refused-handed}
use Rattle.vhost_connection.proofs.Failing.{fell-talks, refused-taken}
use Rattle.vhost_connection.specs.Talk.{First}
use Rattle.vhost_connection.specs.Serving.{Handled, HandlesOne, Breaks, Interrupted, unread, unanswered}
use Rattle.vhost_joined.specs.OnWay.{incoming, outgoing}
use Rattle.vhost_joined.specs.Joined.{Passes, PassesBoth, Stops, StopsReply}
use Rattle.vhost_joined.specs.Sides.{cuts_of}
use Rattle.vhost_joined.proofs.OnWay.{cells_in, incoming-cut, incoming-handed, outgoing-taken}
use Rattle.vhost_joined.proofs.Spent.{End, FaultsReading, faults-reading, passes, all-moved, sent-passes, stops}

module _ {R S A Dev : Type 0} (request_of : S → ℕ → Option R) (allows_handles : R → ℕ → Bool) (failed : S → Option ℤ) (kept : R → S → S → S)
    (Meets : S → Dev → Message R PlainHandle → Result A Error → List (Cell PlainHandle) → S → Dev → Type 0) (he he' : End) (s s' : S) (d d' : Dev) where
  abbrev Handled1 : Result A Error → Type 0
  Handled1 a = Handled event request_of allows_handles failed kept Meets he s d a he' s' d'

  -- The link failed while a message came in.
  pub record Unread : Type 0 where
    pub error : declared.Error
    pub reading : FaultsReading he he' error
    pub session : s' ≡ s
    pub device : d' ≡ d

  -- It failed while the reply to one went out.
  pub record Unanswered : Type 0 where
    pub cause : IoCause
    -- what came was moved by a call where nothing had been heard before, and all of it was read
    pub stopped : (request : List (Cell PlainHandle)) → (has_some request ≡ true → (he.ahead ≡ []) × (incoming he ≡ request) × (incoming he' ≡ [])) → StopsReply he.budget cause request (cuts_of he.link) (cuts_of he'.link)
    pub message : Message R PlainHandle
    pub first : split (request_of s) allows_handles (incoming he) ≡ (Ok message, incoming he')
    pub answer : Result A Error
    pub reply : List (Cell PlainHandle)
    pub after : S
    pub meets : Meets s d message answer reply after d'
    pub count : ℕ
    pub short : count < length reply
    pub few : length reply ≤ MAX_MSG_TEXT
    pub sent : outgoing he' ≡ outgoing he ++ take count reply
    pub session : s' ≡ kept message.request s after
    pub faulted : he'.faulted ≡ true

  -- one of the two
  abbrev pub Faults : Type 0
  Faults = Unread ⊎ Unanswered

  pub faulted-so : Faults → he'.faulted ≡ true
  faulted-so (inl k) = k.reading.faulted
  faulted-so (inr k) = k.faulted

  -- what was heard is the first message of all that was coming
  heard-first : (mid : End) (heard : Result (Message R PlainHandle) Error) → Hears event (split (request_of s) allows_handles) he heard mid → split (request_of s) allows_handles (incoming he) ≡ (heard, incoming mid)
  heard-first mid heard h = incoming-cut he mid _ h.serves.talks (split (request_of s) allows_handles) h.cells h.ended heard refl h.splits

  -- the reply was stopped once the request had come in
  stopped-faults : (e : declared.Error) (m : Message R PlainHandle) (mid : End) → Hears event (split (request_of s) allows_handles) he (Ok m) mid → Interrupted event (Meets s d m) (kept m.request s) mid e he' s' d' → Unanswered
  stopped-faults e m mid h i =
      let p : endpoint.Stops event mid i.written e he' = i.stops in
      let part : Move PlainHandle = sends (take p.count i.written) p.retries in
      let still : incoming mid ≡ incoming he' = incoming-handed mid he' _ (fell-talks p.cause p.fell) ∙ ap (λ is. cells_in is ++ incoming he') (refused-handed {H = PlainHandle} p.cause) in
      record {
        cause = p.cause;
        stopped = λ request all. record {
          mid = cuts_of mid.link;
          asked = passes request he mid _ _ h.serves (λ some. let a = all some in all-moved request he mid _ h.serves.talks a.0 a.1 (still ∙ a.2) some);
          stopped = subst (λ n. Stops n p.cause (cuts_of mid.link) (cuts_of he'.link)) h.serves.talks.budget (stops mid he' mid.budget p.cause part p.fell refl p.within p.spent);
        };
        message = m;
        first = heard-first mid (Ok m) h ∙ ap (λ xs. (Ok m, xs)) still;
        answer = i.answer;
        reply = i.written;
        after = i.after;
        meets = i.meets;
        count = p.count;
        short = p.short;
        few = p.few;
        sent = outgoing-taken mid he' _ (fell-talks p.cause p.fell) ∙ ap (λ xs. outgoing mid ++ xs) (refused-taken part p.cause (is_retry p.cause))
            ∙ ap (λ xs. xs ++ take p.count i.written) (outgoing-taken he mid _ h.serves.talks ∙ append-nil (outgoing he));
        session = i.session;
        faulted = p.faulted;
      }

  broke-faults : (e : declared.Error) → Breaks event request_of allows_handles failed kept Meets he s d e he' s' d' → he.broken ≡ None → he.list ≡ true → Faults
  broke-faults e (unread p same kept') whole list = inl (record { error = e; reading = faults-reading he he' (items p.cells) p.retries First false e p.trouble whole list; session = same; device = kept' })
  broke-faults e (unanswered m mid h p) whole list = inr (stopped-faults e m mid h p)

  pub split-handled : (r : Result A declared.Error) → HandlesOne event request_of allows_handles failed kept Meets he s d r he' s' d' → he.broken ≡ None → he.list ≡ true → Handled1 (seen_result r) ⊎ Faults
  split-handled (Ok u) h whole list = inl h
  split-handled (Err e) (inl h) whole list = inl h
  split-handled (Err e) (inr k) whole list = inr (broke-faults e k whole list)

  module _ (r : Result A Error) (h : Handled1 r) where
    kept-coming : incoming h.mid ≡ incoming he'
    kept-coming = incoming-handed h.mid he' _ h.replies.serves.talks

    pub handled-first : split (request_of s) allows_handles (incoming he) ≡ (h.heard, incoming he')
    handled-first = heard-first h.mid h.heard h.hears ∙ ap (λ xs. (h.heard, xs)) kept-coming

    pub handled-written : outgoing he' ≡ outgoing he ++ h.written
    handled-written = outgoing-taken h.mid he' _ h.replies.serves.talks ∙ ap (λ xs. xs ++ h.written) (outgoing-taken he h.mid _ h.hears.serves.talks ∙ append-nil (outgoing he))

    pub handled-budget : he'.budget ≡ he.budget
    handled-budget = h.replies.serves.talks.budget ∙ h.hears.serves.talks.budget

    -- each of the two messages has its own budget; what came was moved by a call where nothing had been heard before, and all of it was read
    pub both-passed : (request : List (Cell PlainHandle)) → (has_some request ≡ true → (he.ahead ≡ []) × (incoming he ≡ request) × (incoming he' ≡ [])) → PassesBoth he.budget request h.written (cuts_of he.link) (cuts_of he'.link)
    both-passed request all = record {
      mid = cuts_of h.mid.link;
      asked = passes request he h.mid _ _ h.hears.serves (λ some. let a = all some in all-moved request he h.mid _ h.hears.serves.talks a.0 a.1 (kept-coming ∙ a.2) some);
      answered = subst (λ n. Passes n h.written (cuts_of h.mid.link) (cuts_of he'.link)) h.hears.serves.talks.budget (sent-passes h.written h.mid he' _ _ h.replies.serves);
    }
