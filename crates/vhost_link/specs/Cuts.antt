-- What the next cut of a script allows.
use Rattle.std.specs.Prelude.{◌≡◌, ℕ, ◌+◌, ◌-◌, ◌^◌, ◌≤◌, zero, suc, min, max, List, [], ◌∷◌, Result, Ok, Err, if◌then◌else◌}
use Rattle.vhost_message.specs.declared.cause.IoCause.{IoCause}
use Rattle.vhost_message.specs.declared.cause.IoCause.TheVariants.{Raw}
use Rattle.vhost_message.specs.Cause.{is_retry}
use Rattle.vhost_message.specs.declared.errno.TheConstants.{EAGAIN, ENOMEM}
use Rattle.vhost_link.specs.declared.cut.Cut.{Cut}
use Rattle.vhost_link.specs.declared.cut.Cut.TheVariants.{Give, Retry, Fault}

-- how many bytes the next call moves at most, of so many; or why it fails
abbrev pub allowed : List Cut → ℕ → Result ℕ IoCause
allowed [] most = Ok most
allowed (Give n ∷ cuts) most = Ok (min (max n 1) most)
allowed (Retry ∷ cuts) most = Err (Raw EAGAIN)
allowed (Fault e ∷ cuts) most = Err (Raw e)

-- the next call may move so many bytes
abbrev pub Gives : List Cut → ℕ → Type 0
Gives [] n = Unit {0}
Gives (Give k ∷ cuts) n = n ≤ max k 1
Gives (Retry ∷ cuts) n = ⊥
Gives (Fault e ∷ cuts) n = ⊥

-- a count of wants of memory after so many more; it goes no further than 64 bits do
abbrev pub counted : ℕ → ℕ → ℕ
counted before zero = before
counted before (suc n) = min (counted before n + 1) (2 ^ 64 - 1)

-- The next call may fail with this cause: that of its cut, else only for want of memory, which is counted.
abbrev pub Fails : List Cut → IoCause → (wants wants_after : ℕ) → Type 0
Fails [] c before after = (c ≡ Raw ENOMEM) × (after ≡ counted before 1)
Fails (Give n ∷ cuts) c before after = (c ≡ Raw ENOMEM) × (after ≡ counted before 1)
Fails (Retry ∷ cuts) c before after = (c ≡ Raw EAGAIN) × (after ≡ before)
Fails (Fault e ∷ cuts) c before after = (c ≡ Raw e) × (after ≡ before)

-- how often a call with this cut fails, and may be made again
abbrev pub retry : Cut → ℕ
retry (Give n) = 0
retry Retry = 1
retry (Fault e) = if is_retry (Raw e) then 1 else 0

-- how often it fails for good
abbrev pub failure : Cut → ℕ
failure (Give n) = 0
failure Retry = 0
failure (Fault e) = if is_retry (Raw e) then 0 else 1
