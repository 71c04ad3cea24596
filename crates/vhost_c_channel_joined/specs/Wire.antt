-- A message goes from one session to another in pieces, with its descriptors.
use Rattle.std.specs.Prelude.{◌≡◌, ◌<◌, ◌≤◌, ◌+◌, ℕ, List, [], ◌∷◌, ◌++◌, length, map, take, Some, Result, Ok, Err, ⊤}
use Rattle.vhost_message.specs.declared.limits.TheConstants.{MAX_MSG_TEXT, MSG_HEADER_SIZE}
use Rattle.vhost_protocol.specs.Stream.{Cell, bytes}
use Rattle.vhost_link.specs.declared.plain.PlainHandle.{PlainHandle}
use Rattle.vhost_c_common.specs.Memory.{WantsMemory}
use Rattle.vhost_c_common.specs.Records.{fd_in, handle_in}
use Rattle.vhost_c_common.specs.View.{View, Hands, Waits}
use Rattle.vhost_c_common.specs.declared.incoming.Incoming.{Incoming}
use Rattle.vhost_c_channel_joined.specs.declared.wire.Halt.{Halt}
use Rattle.vhost_c_channel_joined.specs.declared.wire.Halt.TheVariants as halt

-- each of these handles has a descriptor of C, of which it is the handle
abbrev pub HaveDescriptors : List PlainHandle → Type 0
HaveDescriptors handles = map handle_in (map fd_in handles) ≡ map Some handles

-- each that is on one of these bytes has
abbrev pub CarryDescriptors : List (Cell PlainHandle) → Type 0
CarryDescriptors [] = ⊤
CarryDescriptors (c ∷ cells) = HaveDescriptors c.handles × CarryDescriptors cells

-- so much came of a message
pub record HasCome (came : List ℕ) (i : Incoming) : Type 0 where
  pub count : i.count ≡ length came
  pub head : take (length came) i.head ≡ take MSG_HEADER_SIZE came

-- By what came of a message it is told how much of it is missing: never more than there is, and nothing only where it is whole.
abbrev pub IsTold : List (Cell PlainHandle) → (Incoming → ℕ) → Type 0
IsTold cells missing = (came left : List (Cell PlainHandle)) (i : Incoming) → came ++ left ≡ cells → HasCome (bytes came) i → (missing i ≤ length left) × (missing i ≡ 0 → left ≡ [])

-- why it does not come over: memory was refused, or there is nothing, though something is missing before anything came
abbrev pub Stops : (Incoming → ℕ) → List (Cell PlainHandle) → Halt → Type 0
Stops missing cells (halt.WantsMemory r) = WantsMemory r
Stops missing cells halt.Silent = (cells ≡ []) × (i : Incoming) × (i.count ≡ 0) × (0 < missing i)

module _ {R S : Type 0} where
  -- Of a message the one session has still to send a part, and all before that came to the other, each byte with its descriptors.
  pub record IsOnWay (cells : List (Cell PlainHandle)) (from : View R) (to : View S) : Type 0 where
    pub whole : to.came ++ from.queue ≡ cells
    pub few : length cells ≤ MAX_MSG_TEXT
    pub descriptors : CarryDescriptors cells
    pub has : HasCome (bytes to.came) to.incoming

  -- nothing changed but how much of a message is on its way
  pub record Moves (from : View R) (to : View S) (from' : View R) (to' : View S) : Type 0 where
    pub hands : Hands from from'
    pub waits : Waits to to'

  -- It came over with its descriptors, none of it is left to be sent, and none is missing.
  pub record IsOver (missing : Incoming → ℕ) (cells : List (Cell PlainHandle)) (from : View R) (to : View S) (from' : View R) (to' : View S) : Type 0 where
    pub queue : from'.queue ≡ []
    pub came : to'.came ≡ cells
    pub has : HasCome (bytes cells) to'.incoming
    pub whole : missing to'.incoming ≡ 0
    pub moves : Moves from to from' to'

  -- it did; or not
  abbrev pub Carries : (Incoming → ℕ) → List (Cell PlainHandle) → View R → View S → Result ⊤ Halt → View R → View S → Type 0
  Carries missing cells from to (Ok done) from' to' = IsOver missing cells from to from' to'
  Carries missing cells from to (Err h) from' to' = Stops missing cells h × Moves from to from' to'

  -- A piece of it came over, of one byte at least; or not.
  abbrev pub Steps : (Incoming → ℕ) → List (Cell PlainHandle) → View R → View S → Result ⊤ Halt → View R → View S → Type 0
  Steps missing cells from to (Ok done) from' to' = IsOnWay cells from' to' × (to.incoming.count + 1 ≤ to'.incoming.count) × Moves from to from' to'
  Steps missing cells from to (Err h) from' to' = Stops missing cells h × Moves from to from' to'
