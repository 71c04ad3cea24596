-- How much of a message came, and how much is missing.
use Rattle.std.specs.Prelude.{◌≡◌, ℕ, ◌+◌, ◌-◌, ◌^◌, min, nat_lt, is_some, Option, List, ◌++◌, length, take, if◌then◌else◌}
use Rattle.vhost_message.specs.Header.{header_of}
use Rattle.vhost_message.specs.declared.limits.TheConstants.{MAX_MSG_SIZE, MSG_HEADER_SIZE}
use Rattle.vhost_protocol.specs.Split.{announced}
use Rattle.vhost_c_common.specs.declared.incoming.Incoming.{Incoming}

-- how many bytes can be told to be missing of a reply: those of the header, and then those of the body that it announces; a body that is longer than a message may have is not waited for
abbrev pub missing_in : Incoming → ℕ
missing_in i =
    if nat_lt i.count MSG_HEADER_SIZE then MSG_HEADER_SIZE - i.count
    else if nat_lt MAX_MSG_SIZE (header_of i.head).size then 0
    else MSG_HEADER_SIZE + (header_of i.head).size - i.count

-- the same of a request that is one of these codes: the body is not waited for where the header is not valid
abbrev pub missing_by : {R : Type 0} → (ℕ → Option R) → Incoming → ℕ
missing_by code i =
    if nat_lt i.count MSG_HEADER_SIZE then MSG_HEADER_SIZE - i.count
    else if is_some (announced code (header_of i.head)) then MSG_HEADER_SIZE + (header_of i.head).size - i.count
    else 0

-- These bytes came: so many more, and the header goes on by them until it is whole.
pub record Adds (bytes : List ℕ) (old new : Incoming) : Type 0 where
  pub count : new.count ≡ min (old.count + length bytes) (2 ^ 64 - 1)
  pub head : take (old.count + length bytes) new.head ≡ take MSG_HEADER_SIZE (take old.count old.head ++ bytes)
