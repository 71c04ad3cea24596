-- What a link may do, and what it adds up to.
use Rattle.std.specs.Prelude.{◌≡◌, ℕ, ◌+◌, ◌<◌, ◌≤◌, List, [], ◌∷◌, ◌++◌, length, take, drop, Result, Ok, Err, if◌then◌else◌}
use Rattle.vhost_message.specs.declared.cause.IoCause.{IoCause}
use Rattle.vhost_message.specs.Cause.{is_retry}
use Rattle.vhost_message.specs.declared.limits.TheConstants.{MAX_ATTACHED_FD_ENTRIES}
use Rattle.vhost_protocol.specs.Stream.{Cell, carrying, Item, End, items}

-- What one call of a link did.
pub data Event (H : Type 0) : Type 0 where
  -- handed out these cells
  Handed : List (Cell H) → Event H
  -- told the end
  Ended : Event H
  -- took in these cells
  Taken : List (Cell H) → Event H
  -- failed, and moved nothing
  Refused : IoCause → Event H

-- A send takes in at least one byte, with the handles on the first; or it fails.
abbrev pub Sends : {S H : Type 0} → (S → Event H → S → Type 0) → S → List ℕ → List H → Result ℕ IoCause → S → Type 0
Sends event old bytes handles (Ok n) new = (0 < n) × (n ≤ length bytes) × event old (Taken (carrying handles (take n bytes))) new
Sends event old bytes handles (Err c) new = event old (Refused c) new

-- A send to a link that takes in all that it is given: all of so many bytes went in; or it failed, and the link takes in all of the next one.
abbrev pub TakesAll : {S : Type 0} → (S → Type 0) → ℕ → Result ℕ IoCause → S → Type 0
TakesAll takes_all len (Ok n) new = n ≡ len
TakesAll takes_all len (Err c) new = takes_all new

-- A receive of n bytes: it hands them out with the handles on the first, or it tells the end.
pub record HandsOut {S H : Type 0} (event : S → Event H → S → Type 0) (old : S) (n : ℕ) (front : List ℕ) (handles : List H) (new : S) : Type 0 where
  pub some : 0 < n → event old (Handed (carrying handles front)) new
  pub ended : n ≡ 0 → event old Ended new
  pub none : n ≡ 0 → handles ≡ []
  pub few : length handles ≤ MAX_ATTACHED_FD_ENTRIES

-- A receive fills the front of the room and leaves the rest of it; or it fails, and room and handles stay.
abbrev pub Receives : {S H : Type 0} → (S → Event H → S → Type 0) → S → List ℕ → Result ℕ IoCause → List ℕ → List H → S → Type 0
Receives event old before (Ok n) after handles new = (n ≤ length before) × (drop n after ≡ drop n before) × HandsOut event old n (take n after) handles new
Receives event old before (Err c) after handles new = event old (Refused c) new × (after ≡ before) × (handles ≡ [])

-- What a link did in some calls, added up: what it handed out with the ends it told, what it took in, and how often it failed.
pub record Move (H : Type 0) : Type 0 where
  pub handed : List (Item H)
  pub taken : List (Cell H)
  -- the causes that ask for the call to be made again
  pub retries : ℕ
  -- all other causes
  pub failures : ℕ

abbrev pub move : {H : Type 0} → List (Item H) → List (Cell H) → ℕ → ℕ → Move H
move h t r f = record { handed = h; taken = t; retries = r; failures = f }

abbrev pub nothing : {H : Type 0} → Move H
nothing = move [] [] 0 0

-- one move after another
infixl 10 ◌then◌
abbrev pub ◌then◌ : {H : Type 0} → Move H → Move H → Move H
m then n = move (m.handed ++ n.handed) (m.taken ++ n.taken) (m.retries + n.retries) (m.failures + n.failures)

-- a failure with this cause
abbrev pub refused : {H : Type 0} → IoCause → Move H
refused c = if is_retry c then move [] [] 1 0 else move [] [] 0 1

-- what one event adds
abbrev pub done : {H : Type 0} → Event H → Move H
done (Handed cs) = move (items cs) [] 0 0
done Ended = move (End ∷ []) [] 0 0
done (Taken cs) = move [] cs 0 0
done (Refused c) = refused c

-- The link went from old to new by single events, which add up to this move.
pub data Moved {S H : Type 0} (event : S → Event H → S → Type 0) : S → Move H → S → Type 0 where
  still : {s : S} → Moved event s nothing s
  more : {old mid new : S} {m : Move H} {e : Event H} → Moved event old m mid → event mid e new → Moved event old (m then done e) new
