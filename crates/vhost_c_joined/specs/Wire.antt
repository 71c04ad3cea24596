-- A message goes from one session to another in pieces.
use Rattle.std.specs.Prelude.{◌≡◌, ◌<◌, ◌≤◌, ◌+◌, ℕ, All, List, [], ◌++◌, length, take, Some, Result, Ok, Err, ⊤}
use Rattle.vhost_message.specs.declared.error.Error.TheVariants.{OutOfMemory}
use Rattle.vhost_message.specs.declared.limits.TheConstants.{MAX_MSG_TEXT, MSG_HEADER_SIZE}
use Rattle.vhost_protocol.specs.Stream.{bytes, carrying}
use Rattle.vhost_link.specs.declared.plain.PlainHandle.{PlainHandle}
use Rattle.vhost_c_common.specs.Records.{fd_in, handle_in}
use Rattle.vhost_c_common.specs.View.{View, Hands, Waits}
use Rattle.vhost_c_common.specs.declared.incoming.Incoming.{Incoming}
use Rattle.vhost_c_common.specs.declared.refusal.Refusal.TheVariants.{Protocol}
use Rattle.vhost_c_joined.specs.declared.wire.Halt.{Halt}
use Rattle.vhost_c_joined.specs.declared.wire.Halt.TheVariants as halt

-- A handle that is a descriptor: it has a number of C, by which it is found again.
abbrev pub IsFd : PlainHandle → Type 0
IsFd h = handle_in (fd_in h) ≡ Some h

-- so much came of a message
pub record HasCome (came : List ℕ) (i : Incoming) : Type 0 where
  pub count : i.count ≡ length came
  pub head : take (length came) i.head ≡ take MSG_HEADER_SIZE came

-- By what came of a text it is told how much of it is missing: never more than there is, and nothing only where it is whole.
abbrev pub IsTold : List ℕ → (Incoming → ℕ) → Type 0
IsTold text missing = (came left : List ℕ) (i : Incoming) → came ++ left ≡ text → HasCome came i → (missing i ≤ length left) × (missing i ≡ 0 → left ≡ [])

-- why it does not come over: memory was refused, or there is nothing, though something is missing before anything came
abbrev pub Stops : (Incoming → ℕ) → List ℕ → Halt → Type 0
Stops missing text (halt.WantsMemory r) = r ≡ Protocol OutOfMemory
Stops missing text halt.Silent = (text ≡ []) × (i : Incoming) × (i.count ≡ 0) × (0 < missing i)
Stops missing text halt.Ended = ⊥

module _ {R S : Type 0} where
  -- What came to the one session, and what the other has still to send, is together a text with its descriptors on the first byte.
  pub record IsOnWay (hs : List PlainHandle) (text : List ℕ) (from : View R) (to : View S) : Type 0 where
    pub whole : to.came ++ from.queue ≡ carrying hs text
    pub few : length text ≤ MAX_MSG_TEXT
    pub fds : All IsFd hs
    pub has : HasCome (bytes to.came) to.incoming

  -- nothing changed but how much of a text is on its way
  pub record Moves (from : View R) (to : View S) (from' : View R) (to' : View S) : Type 0 where
    pub hands : Hands from from'
    pub waits : Waits to to'

  -- It came over with its descriptors, none of it is left to be sent, and none is missing.
  pub record IsOver (missing : Incoming → ℕ) (hs : List PlainHandle) (text : List ℕ) (from : View R) (to : View S) (from' : View R) (to' : View S) : Type 0 where
    pub queue : from'.queue ≡ []
    pub arrived : to'.came ≡ carrying hs text
    pub has : HasCome text to'.incoming
    pub whole : missing to'.incoming ≡ 0
    pub moves : Moves from to from' to'

  -- it did; or not
  abbrev pub Carries : (Incoming → ℕ) → List PlainHandle → List ℕ → View R → View S → Result ⊤ Halt → View R → View S → Type 0
  Carries missing hs text from to (Ok done) from' to' = IsOver missing hs text from to from' to'
  Carries missing hs text from to (Err h) from' to' = Stops missing text h

  -- A piece of it came over, of one byte at least; or not.
  abbrev pub Steps : (Incoming → ℕ) → List PlainHandle → List ℕ → View R → View S → Result ⊤ Halt → View R → View S → Type 0
  Steps missing hs text from to (Ok done) from' to' = IsOnWay hs text from' to' × (to.incoming.count + 1 ≤ to'.incoming.count) × Moves from to from' to'
  Steps missing hs text from to (Err h) from' to' = Stops missing text h
