-- What a call of a channel adds up to, as its caller derives it.
use Rattle.std.specs.Prelude.{◌≡◌, ℕ, List, Some, None, Bool, true, false, ◌||◌, IsTrue, if◌then◌else◌}
use Rattle.vhost_message.specs.Cause.{is_retry, error_of}
use Rattle.vhost_message.specs.declared.cause.IoCause.{IoCause}
use Rattle.vhost_message.specs.declared.error.Error as declared
use Rattle.vhost_message.specs.declared.error.Error.TheVariants as code
use Rattle.vhost_protocol.specs.Error.{Error, SocketError, SocketBroken, SocketConnect, SocketRetry, OutOfMemory}
use Rattle.vhost_protocol.specs.IoError.{IoError, Of, In}
use Rattle.vhost_protocol.specs.Stream.{Cell, Item}
use Rattle.vhost_link.specs.Law.{Event, Move, move}
use Rattle.vhost_connection.specs.Talk.{State, Fell, Serves, Talks, has_moved}

-- an error that a link or want of memory may bring
abbrev pub is_fault : Error → Bool
is_fault (SocketError c) = true
is_fault (SocketBroken c) = true
is_fault (SocketConnect c) = true
is_fault (SocketRetry c) = true
is_fault OutOfMemory = true
is_fault _ = false

-- of a channel
abbrev pub is_io_fault : IoError → Bool
is_io_fault (Of e) = is_fault e
is_io_fault (In place e) = is_fault e
is_io_fault _ = false

module _ {L H : Type 0} (event : L → Event H → L → Type 0) where
  -- This went out and this came in, and nothing else, with at most so many retries and no failure; nothing is broken.
  abbrev pub Exchanges : (limit : ℕ) → List (Cell H) → List (Item H) → State L H → State L H → Type 0
  Exchanges limit out came old new = (retries : ℕ) × Serves event old limit (move came out retries 0) new

  -- The error has its reason, and the endpoint is broken for it where it has to be.
  pub data HasReason (old : State L H) : declared.Error → State L H → Type 0 where
    -- the endpoint was broken before, and still is
    was_broken : {c : IoCause} {new : State L H} → old.broken ≡ Some c → new.broken ≡ Some c → HasReason old (code.SocketBroken c) new
    -- its list of handles was away, and it is broken if it was before
    no_list : {new : State L H} → old.list ≡ false → new.broken ≡ old.broken → HasReason old code.OutOfMemory new
    -- the link's last event was its first failure, with this cause; one that asks for a retry was one more than a message may take. It broke the endpoint where a byte had moved before it, and only there.
    failed : (c : IoCause) {mid new : State L H} {n m : Move H} → Talks event old n mid → n.failures ≡ 0 → old.broken ≡ None → Fell event mid m c new → m.failures ≡ 0
        → (IsTrue (is_retry c) → m.retries ≡ old.budget) → new.broken ≡ (if has_moved n || has_moved m then Some c else None) → HasReason old (error_of c) new
