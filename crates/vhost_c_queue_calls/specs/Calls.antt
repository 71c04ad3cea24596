-- What C calls, by the number that it is answered.
use Rattle.std.specs.Prelude.{◌≡◌, ℕ, Bool, true, false, Option, Some, None, Result, Ok, Err}
use Rattle.vhost_queue.specs.declared.memory.AddressSpace.{AddressSpace}
use Rattle.vhost_queue.specs.declared.memory.AddressSpace.TheVariants.{Guest, User}
use Rattle.vhost_c_queue.specs.Number.{number}
use Rattle.vhost_c_queue.specs.declared.refusal.Refusal.{Refusal}

-- A call of C: there is no queue, or what it does to the queue is this.
pub data Calls {S : Type 0} (does : S → S → Type 0) : Option S → ℕ → Option S → Type 0 where
  none : Calls does None 101 None
  some : {s t : S} {n : ℕ} → does s t → Calls does (Some s) n (Some t)

-- what came of it, as a number and what was written: after an error, as it was
abbrev pub Said : {A : Type 0} → Result A Refusal → ℕ → A → A → Type 0
Said {A} (Ok a) n old new = (n ≡ 0) × (new ≡ a)
Said {A} (Err f) n old new = (n ≡ number f) × (new ≡ old)

-- the same of what may be there or not
abbrev pub SaidIf : {A : Type 0} → Result (Option A) Refusal → ℕ → A → A → Bool → Bool → Type 0
SaidIf {A} (Ok (Some a)) n old new was found = (n ≡ 0) × (new ≡ a) × (found ≡ true)
SaidIf {A} (Ok None) n old new was found = (n ≡ 0) × (new ≡ old) × (found ≡ false)
SaidIf {A} (Err f) n old new was found = (n ≡ number f) × (new ≡ old) × (found ≡ was)

-- whose addresses are meant
abbrev pub space_of : Bool → AddressSpace
space_of false = Guest
space_of true = User
