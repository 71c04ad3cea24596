-- What came by a call that receives, and what came before trouble.
use Rattle.std.specs.Prelude.{◌≡◌, ℕ, ◌+◌, ◌-◌, ◌<◌, ◌≤◌, List, ◌++◌, length, drop, None, Bool, true, false, not, nat_lt, ◌⊎◌, Result, Ok, Err}
use Rattle.vhost_message.specs.declared.error.Error.{Error}
use Rattle.vhost_protocol.specs.Stream.{Cell, bytes, first_handles, has_some, items, heard}
use Rattle.vhost_link.specs.Law.{Event}
use Rattle.vhost_connection.specs.Pass.{receives}
use Rattle.vhost_connection.specs.Talk.{State, Serves, Trouble, Growth, Never, IfSound}

-- from where a call takes its retries
pub data Budget : Type 0 where
  -- it begins a budget, and what it leaves of it is kept
  Begins : Budget
  -- it goes on with what was kept
  GoesOn : Budget
  -- it has a budget of its own, and leaves what was kept
  Alone : Budget

-- it goes on with a message
abbrev pub goes_on : Budget → Bool
goes_on GoesOn = true
goes_on _ = false

-- one that begins a message makes its list of handles, where that is away
abbrev pub growth : Budget → Growth
growth GoesOn = Never
growth _ = IfSound

-- the retries that a call may take: those of a whole message, or those that were kept
abbrev pub limit : {L H : Type 0} → Budget → State L H → ℕ
limit GoesOn old = old.left
limit _ old = old.budget

-- what is kept after so many retries
abbrev pub KeepsLeft : {L H : Type 0} → Budget → State L H → (retries left : ℕ) → Type 0
KeepsLeft Alone old retries left = left ≡ old.left
KeepsLeft b old retries left = left + retries ≡ limit b old

-- These cells came, up to so many; or fewer, and then the end of the stream. `list` says whether the endpoint has its list of handles then.
pub record Came {L H : Type 0} (event : L → Event H → L → Type 0) (old : State L H) (b : Budget) (len : ℕ) (cs : List (Cell H)) (list : Bool) (new : State L H) : Type 0 where
  pub retries : ℕ
  pub serves : Serves event old (limit b old) (receives (heard cs (nat_lt (length cs) len)) retries) new
  pub within : length cs ≤ len
  pub left : KeepsLeft b old retries new.left
  pub listed : new.list ≡ list

-- Fewer came, and then trouble. Only a call that begins a message may want memory; each fault of one that goes on with a message breaks the endpoint.
pub record CutShort {L H : Type 0} (event : L → Event H → L → Type 0) (old : State L H) (b : Budget) (len : ℕ) (cs : List (Cell H)) (e : Error) (new : State L H) : Type 0 where
  pub retries : ℕ
  pub short : old.broken ≡ None → length cs < len
  pub trouble : Trouble event old (limit b old) (growth b) (goes_on b) (receives (items cs) retries) e new

-- What a call that receives these cells does: they came, and make its result, or are refused with its error; or they are all that came before trouble.
abbrev pub TakesIn : {L H T : Type 0} → (L → Event H → L → Type 0) → State L H → (b : Budget) → (len : ℕ) → List (Cell H) → (list : Bool) → (T → Type 0) → (Error → Type 0) → Result T Error → State L H → Type 0
TakesIn event old b len cs list makes refuses (Ok x) new = Came event old b len cs list new × makes x
TakesIn event old b len cs list makes refuses (Err e) new = (Came event old b len cs list new × refuses e) ⊎ CutShort event old b len cs e new

-- whether the endpoint has its list of handles after a call that begins a message: it gives it away with handles in it alone
abbrev pub keeps : {H T : Type 0} → List (Cell H) → Result T Error → Bool
keeps cs (Ok x) = not (has_some (first_handles cs))
keeps cs (Err e) = true

-- a room, once the bytes behind a head of so many have been put to its front
abbrev pub behind : {H : Type 0} → ℕ → List (Cell H) → List ℕ → List ℕ
behind head cs before = drop head (bytes cs) ++ drop (length cs - head) before
