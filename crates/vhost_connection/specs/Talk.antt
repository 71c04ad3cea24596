-- What contracts see of an endpoint, and what its calls have in common.
use Rattle.std.specs.Prelude.{◌≡◌, ℕ, ◌≤◌, List, ◌++◌, Option, Some, None, Bool, true, false, ◌||◌, IsTrue, if◌then◌else◌, Result, Err}
use Rattle.vhost_message.specs.declared.cause.IoCause.{IoCause}
use Rattle.vhost_message.specs.Cause.{is_retry, error_of}
use Rattle.vhost_message.specs.declared.error.Error.{Error}
use Rattle.vhost_message.specs.declared.error.Error.TheVariants.{SocketBroken, OutOfMemory}
use Rattle.vhost_protocol.specs.Stream.{Cell, items, has_some}
use Rattle.vhost_link.specs.Law.{Event, Refused, Move, Moved, nothing}

-- An endpoint, as contracts see it.
pub record State (L H : Type 0) : Type 0 where
  pub link : L
  -- heard of the link, and not handed on yet
  pub ahead : List (Cell H)
  -- how many retries one message may take
  pub budget : ℕ
  -- how many of them are left for the body of the message whose header came last
  pub left : ℕ
  -- the fault that broke it
  pub broken : Option IoCause
  -- whether it has its list of handles
  pub list : Bool
  -- whether its last call that sent or received met a fault
  pub faulted : Bool

-- The endpoint handed on, took in, retried and failed so: its stream is what it has heard ahead, and then the link's.
pub record Talks {L H : Type 0} (event : L → Event H → L → Type 0) (old : State L H) (m : Move H) (new : State L H) : Type 0 where
  pub below : Move H
  pub moved : Moved event old.link below new.link
  pub handed : items old.ahead ++ below.handed ≡ m.handed ++ items new.ahead
  pub taken : below.taken ≡ m.taken
  pub retries : below.retries ≡ m.retries
  pub failures : below.failures ≡ m.failures
  pub budget : new.budget ≡ old.budget

-- The endpoint did so much, and then its link failed with this cause: that was the link's last event.
pub record Fell {L H : Type 0} (event : L → Event H → L → Type 0) (old : State L H) (m : Move H) (c : IoCause) (new : State L H) : Type 0 where
  pub before : L
  pub talks : Talks event old m (record new { link = before })
  pub last : event before (Refused c) new.link

-- The call was served, with at most so many retries, and the endpoint is not broken.
pub record Serves {L H : Type 0} (event : L → Event H → L → Type 0) (old : State L H) (limit : ℕ) (m : Move H) (new : State L H) : Type 0 where
  pub talks : Talks event old m new
  pub retries : m.retries ≤ limit
  pub failures : m.failures ≡ 0
  pub before : old.broken ≡ None
  pub after : new.broken ≡ None
  pub faulted : new.faulted ≡ false

-- something was handed on or taken in
abbrev pub has_moved : {H : Type 0} → Move H → Bool
has_moved m = has_some m.handed || has_some m.taken

-- when a call may make its list of handles, where that was given away
pub data Growth : Type 0 where
  -- at no time
  Never : Growth
  -- once it knows that the endpoint is not broken
  IfSound : Growth
  -- before all else
  First : Growth

-- it may want memory for a list
abbrev pub may_grow : Growth → Bool
may_grow Never = false
may_grow _ = true

-- it wants it whether or not the endpoint is broken
abbrev pub is_first : Growth → Bool
is_first First = true
is_first _ = false

-- The call was not served: this moved before that, and this is the error. A call that breaks does so even where nothing moved.
pub data Trouble {L H : Type 0} (event : L → Event H → L → Type 0) (old : State L H) (limit : ℕ) (grows : Growth) (breaks : Bool) (m : Move H) : Error → State L H → Type 0 where
  -- it was broken before, and nothing changed but that a call which grows first has made its list
  was_broken : {c : IoCause} {new : State L H} → old.broken ≡ Some c → m ≡ nothing → new ≡ record old { list = is_first grows || old.list; faulted = false }
      → Trouble event old limit grows breaks m (SocketBroken c) new
  -- its list had been given away, there is no memory for another, and nothing changed
  no_memory : {new : State L H} → may_grow grows ≡ true → (is_first grows ≡ false → old.broken ≡ None) → old.list ≡ false → m ≡ nothing → new ≡ record old { faulted = false }
      → Trouble event old limit grows breaks m OutOfMemory new
  -- the link failed, or retried once more than the limit allows: the endpoint is broken where something had moved, and else as before; so is what is left for a body
  fault : (c : IoCause) {new : State L H} → old.broken ≡ None → Fell event old m c new → m.failures ≡ 0 → m.retries ≤ limit
      → (IsTrue (is_retry c) → m.retries ≡ limit) → new.broken ≡ (if breaks || has_moved m then Some c else None) → new.faulted ≡ true
      → (old.list ≡ true → new.list ≡ true) × ((breaks || has_moved m) ≡ false → new.left ≡ old.left) → Trouble event old limit grows breaks m (error_of c) new

-- it is broken, and this error says so
abbrev pub IsBroken : {L H : Type 0} → State L H → Error → Type 0
IsBroken old e = (c : IoCause) × (old.broken ≡ Some c) × (e ≡ SocketBroken c)

-- A call that was refused before anything was done.
abbrev pub Refuses : {L H T : Type 0} → State L H → Error → Result T Error → State L H → Type 0
Refuses old e result new = (result ≡ Err e) × (new ≡ old)
