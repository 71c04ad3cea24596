-- How the contracts of all five sessions see one, and what their calls have in common: a frontend's, a backend's, both sides of the backend channel, and one with a display.
use Rattle.std.specs.Prelude.{◌≡◌, ◌<◌, ◌≤◌, ◌⊎◌, ℕ, ℤ, List, [], ◌++◌, length, map, Contains, Some, None, Result, Ok, Err, IfErr, ⊤}
use Rattle.std.specs.Option.{ForSome}
use Rattle.vhost_message.specs.declared.cause.IoCause.TheVariants.{Raw}
use Rattle.vhost_message.specs.declared.errno.TheConstants.{ENOMEM}
use Rattle.vhost_message.specs.declared.error.Error.{Error}
use Rattle.vhost_message.specs.declared.error.Error.TheVariants.{InvalidParam, OutOfMemory, SocketRetry}
use Rattle.vhost_message.specs.declared.limits.TheConstants.{MAX_ATTACHED_FD_ENTRIES}
use Rattle.vhost_protocol.specs.Stream.{Cell}
use Rattle.vhost_link.specs.Ends.{Ends, empty}
use Rattle.vhost_link.specs.declared.plain.PlainHandle.{PlainHandle}
use Rattle.vhost_connection.specs.Memory.{stream}
use Rattle.vhost_connection.specs.State.{fresh}
use Rattle.vhost_connection.specs.Talk.{State}
use Rattle.vhost_c_common.specs.Incoming.{Adds}
use Rattle.vhost_c_common.specs.Moving.{HandsOut, TakesIn}
use Rattle.vhost_c_common.specs.Records.{handle_in}
use Rattle.vhost_c_common.specs.declared.incoming.Incoming.{Incoming}
use Rattle.vhost_c_common.specs.declared.outgoing.Outgoing.{Outgoing}
use Rattle.vhost_c_common.specs.declared.refusal.Refusal.{Refusal}
use Rattle.vhost_c_common.specs.declared.refusal.Refusal.TheVariants.{Protocol, NoRoom, TooManyBytes}

-- ---- an end of the connection

abbrev pub End : Type 0
End = State Ends PlainHandle

-- but for what is to be sent
abbrev pub unsent : End → End
unsent e = record e { link = record e.link { sent = [] } }

-- but for what is to be sent and what came
abbrev pub bare : End → End
bare e = record e { link = record e.link { pending = []; sent = [] }; ahead = [] }

-- that of a new session: nothing broke it, and no call of its link is cut
abbrev pub new_end : End
new_end = fresh (empty []) 0

-- A call was served: the end was not broken, and is not. Where no call of its link was cut, none is.
pub record StaysSound (old new : End) : Type 0 where
  pub before : old.broken ≡ None
  pub after : new.broken ≡ None
  pub uncut : old.link.script ≡ [] → new.link.script ≡ []

-- No call of its link is cut, so that it fails for want of memory alone, and nothing else broke the end.
pub record IsUncut (e : End) : Type 0 where
  pub uncut : e.link.script ≡ []
  pub broken : ForSome e.broken (λ c. c ≡ Raw ENOMEM)

-- What an error of a call leaves of a session's soundness: it is broken now where its link failed for want of memory, or as sound as it was; after any other it is as it was.
abbrev pub Lasts : Error → End → End → Type 0
Lasts (SocketRetry c) old new = (new.broken ≡ old.broken) ⊎ ((old.broken ≡ None) × (new.broken ≡ Some c))
Lasts e old new = new.broken ≡ old.broken

-- ---- a session

-- What is to be sent, each byte with the descriptors that go with it; what came, and was not read; how much came of the next message; the end of the connection but for these; and what is remembered, with the call that is open.
pub record View (R : Type 0) : Type 0 where
  pub queue : List (Cell PlainHandle)
  pub came : List (Cell PlainHandle)
  pub incoming : Incoming
  pub end : End
  pub rest : R

-- one that is made of this
abbrev pub view_of : {R : Type 0} → Outgoing → End → Incoming → R → View R
view_of outgoing e incoming rest = record { queue = outgoing.link.pending ++ e.link.sent; came = stream e; incoming = incoming; end = bare e; rest = rest }

-- why nothing is handed out: there is no room for a byte, or not for all descriptors that one may bring
abbrev pub HandsNone : List ℕ → List ℤ → Refusal → Type 0
HandsNone bytes fds NoRoom = (length bytes ≡ 0) ⊎ (length fds < MAX_ATTACHED_FD_ENTRIES)
HandsNone bytes fds r = ⊥

-- descriptors that are not received: without a byte, more than a message may have, or with a negative one
abbrev pub AreRefused : List ℕ → List ℤ → Type 0
AreRefused bytes fds = ((length bytes ≡ 0) × (0 < length fds)) ⊎ ((MAX_ATTACHED_FD_ENTRIES < length fds) ⊎ Contains (map handle_in fds) None)

-- why an endpoint is given nothing: there are such descriptors; or memory was refused, which bytes alone want
abbrev pub GivesNone : List ℕ → List ℤ → Error → Type 0
GivesNone bytes fds InvalidParam = AreRefused bytes fds
GivesNone bytes fds OutOfMemory = 0 < length bytes
GivesNone bytes fds e = ⊥

-- why nothing is received, where so many bytes are missing: there are more, or such descriptors; or memory was refused
abbrev pub TakesNone : ℕ → List ℕ → List ℤ → Refusal → Type 0
TakesNone missing bytes fds TooManyBytes = missing < length bytes
TakesNone missing bytes fds (Protocol e) = GivesNone bytes fds e
TakesNone missing bytes fds r = ⊥

module _ {R : Type 0} where
  -- A new session is sound and empty.
  pub record IsEmpty (v : View R) : Type 0 where
    pub queue : v.queue ≡ []
    pub came : v.came ≡ []
    pub count : v.incoming.count ≡ 0
    pub end : v.end ≡ new_end

  -- A piece of what is to be sent went out, or nothing did; nothing else changed.
  pub record Hands (old new : View R) : Type 0 where
    pub came : new.came ≡ old.came
    pub incoming : new.incoming ≡ old.incoming
    pub end : new.end ≡ old.end
    pub rest : new.rest ≡ old.rest

  -- what a session answers where it is to hand out what is to be sent
  abbrev pub Sending : List ℕ → List ℤ → ℕ × ℕ → View R → Result ⊤ Refusal → View R → Type 0
  Sending bytes fds count old (Ok done) new = HandsOut old.queue new.queue bytes fds count × Hands old new
  Sending bytes fds count old (Err r) new = HandsNone bytes fds r × (new.queue ≡ old.queue) × Hands old new

  -- A part of the message came, or nothing did; nothing else changed.
  pub record Waits (old new : View R) : Type 0 where
    pub queue : new.queue ≡ old.queue
    pub end : new.end ≡ old.end
    pub rest : new.rest ≡ old.rest

  -- what a session does with bytes of a message, of which so many are missing
  abbrev pub Receives : ℕ → List ℕ → List ℤ → View R → Result ⊤ Refusal → View R → Type 0
  Receives missing bytes fds old (Ok done) new = (length bytes ≤ missing) × TakesIn bytes fds old.came new.came × Adds bytes old.incoming new.incoming × Waits old new
  Receives missing bytes fds old (Err r) new = (new.came ≡ old.came) × (new.incoming ≡ old.incoming) × Waits old new

  -- what it answers to them
  abbrev pub Receiving : ℕ → List ℕ → List ℤ → View R → Result ⊤ Refusal → View R → Type 0
  Receiving missing bytes fds old outcome new = Receives missing bytes fds old outcome new × IfErr outcome (λ r. TakesNone missing bytes fds r)
