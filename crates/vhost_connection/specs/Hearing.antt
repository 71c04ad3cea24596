-- What a side hears of its stream, and how a call of a side may fail.
use Rattle.std.specs.Prelude.{◌≡◌, ℕ, ◌<◌, ◌≤◌, List, length, Some, None, Bool, true, false, not, ◌||◌, ◌⊎◌, IsTrue, if◌then◌else◌}
use Rattle.vhost_message.specs.declared.limits.TheConstants.{MAX_MSG_TEXT}
use Rattle.vhost_message.specs.declared.cause.IoCause.{IoCause}
use Rattle.vhost_message.specs.Cause.{is_retry, error_of}
use Rattle.vhost_message.specs.declared.error.Error.{Error}
use Rattle.vhost_message.specs.declared.error.Error.TheVariants.{SocketError, SocketConnect, SocketBroken, SocketRetry, OutOfMemory}
use Rattle.vhost_protocol.specs.Stream.{Cell, first_handles, has_some, heard}
use Rattle.vhost_protocol.specs.Split.{Splits}
use Rattle.vhost_link.specs.Law.{Event, Move}
use Rattle.vhost_connection.specs.Pass.{receives}
use Rattle.vhost_connection.specs.State.{first_cause}
use Rattle.vhost_connection.specs.Talk.{State, Fell, Serves, has_moved}

-- What the endpoint received, and nothing else of its stream, has this outcome.
pub record Hears {L H A : Type 0} (event : L → Event H → L → Type 0) (cut : List (Cell H) → A × List (Cell H)) (old : State L H) (outcome : A) (new : State L H) : Type 0 where
  pub cells : List (Cell H)
  pub ended : Bool
  pub retries : ℕ
  pub serves : Serves event old old.budget (receives (heard cells ended) retries) new
  pub splits : Splits cut cells ended outcome

-- What came for a request that was sent has this outcome. The endpoint has its list of handles then, unless a handle came.
pub record HearsReply {L H A : Type 0} (event : L → Event H → L → Type 0) (cut : List (Cell H) → A × List (Cell H)) (old : State L H) (outcome : A) (new : State L H) : Type 0 where
  pub hears : Hears event cut old outcome new
  pub list : has_some (first_handles hears.cells) ≡ false → new.list ≡ true

-- more than the link may do: it failed, or retried more often than one message may
abbrev pub Spends : {H : Type 0} → ℕ → Move H → Type 0
Spends budget m = (0 < m.failures) ⊎ (budget < m.retries)

-- A call of a side failed: so much of one message had moved, and this is why. A request makes its list of handles before all else; between it and the end of its answer each fault breaks the endpoint.
pub data Fails {L H : Type 0} (event : L → Event H → L → Type 0) (old : State L H) (between : Bool) : Error → State L H → Type 0 where
  -- the endpoint was broken before, and nothing changed but that a request has made its list
  was_broken : {c : IoCause} {new : State L H} → old.broken ≡ Some c → new ≡ record old { list = not between || old.list; faulted = false } → Fails event old between (SocketBroken c) new
  -- its list had been given away, there is no memory for another, and nothing changed
  no_memory : {new : State L H} → (between ≡ true → old.broken ≡ None) → old.list ≡ false → new ≡ record old { faulted = false } → Fails event old between OutOfMemory new
  -- the link failed last with this cause, or retried once more than a message may; what had moved is at most one message
  fault : (c : IoCause) (m : Move H) {new : State L H} → old.broken ≡ None → Fell event old m c new → m.failures ≡ 0 → m.retries ≤ old.budget
      → (IsTrue (is_retry c) → m.retries ≡ old.budget) → length m.taken ≤ MAX_MSG_TEXT
      → new.broken ≡ (if between || has_moved m then Some c else None) → new.faulted ≡ true
      → (old.list ≡ true → new.list ≡ true) × ((between || has_moved m) ≡ false → new.left ≡ old.left) → Fails event old between (error_of c) new

-- the endpoint after a call between a request and the end of its answer: an error of the link breaks it, unless it was broken before
abbrev pub broken_on : {L H : Type 0} → Error → State L H → State L H
broken_on (SocketRetry c) s = record s { broken = first_cause s.broken c }
broken_on (SocketBroken c) s = record s { broken = first_cause s.broken c }
broken_on (SocketConnect c) s = record s { broken = first_cause s.broken c }
broken_on (SocketError c) s = record s { broken = first_cause s.broken c }
broken_on _ s = s
