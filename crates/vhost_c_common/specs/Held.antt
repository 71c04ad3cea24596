-- The descriptors that came with messages, by their numbers.
use Rattle.std.specs.Prelude.{◌≡◌, ◌≤◌, ◌+◌, ℕ, ℤ, Bool, true, false, List, [], ◌∷◌, ◌++◌, length, take, drop, min, Contains, Result, Ok, Err, ⊤, vec_capacity, if◌then◌else◌}
use Rattle.std.specs.List.{count_by}
use Rattle.std.specs.Ordering.{int_eq}
use Rattle.vhost_c_common.specs.declared.held.Held.{Held}

-- those that may be claimed
abbrev pub claimable : Held → List ℤ
claimable h = h.own.items

-- those that nobody will claim
abbrev pub let_go : Held → List ℤ
let_go h = h.loose.items

-- how often a number is in a list
abbrev pub times : ℤ → List ℤ → ℕ
times n ns = count_by (int_eq n) ns

-- how often it is held
abbrev pub held_times : ℤ → Held → ℕ
held_times n h = times n (claimable h) + times n (let_go h)

-- None is held.
pub record HoldsNone (h : Held) : Type 0 where
  pub own : claimable h ≡ []
  pub loose : let_go h ≡ []

-- The same are held.
pub record IsSame (old new : Held) : Type 0 where
  pub own : claimable new ≡ claimable old
  pub loose : let_go new ≡ let_go old

-- There is room for so many more.
pub record HasRoom (count : ℕ) (h : Held) : Type 0 where
  pub own : length (claimable h) + count ≤ vec_capacity h.own
  pub loose : length (let_go h) + (length (claimable h) + count) ≤ vec_capacity h.loose

-- These came: with the first byte of a message, so that they may be claimed; or behind it, so that nobody will.
pub record Arrives (fds : List ℤ) (is_first : Bool) (old new : Held) : Type 0 where
  pub own : claimable new ≡ (if is_first then claimable old ++ fds else claimable old)
  pub loose : let_go new ≡ (if is_first then let_go old else let_go old ++ fds)

-- Those that might be claimed will not be any more.
pub record Released (old new : Held) : Type 0 where
  pub own : claimable new ≡ []
  pub loose : let_go new ≡ let_go old ++ claimable old

-- This one is gone from a list, once.
pub record LosesOne (fd : ℤ) (old new : List ℤ) : Type 0 where
  pub before : List ℤ
  pub after : List ℤ
  pub was : old ≡ before ++ fd ∷ after
  pub is : new ≡ before ++ after

-- One was claimed.
pub record Claimed (fd : ℤ) (old new : Held) : Type 0 where
  pub own : LosesOne fd (claimable old) (claimable new)
  pub loose : let_go new ≡ let_go old

-- what becomes of a claim: it is granted where that one may be claimed, and only then
abbrev pub Claims : ℤ → Held → Bool → Held → Type 0
Claims fd old true new = Claimed fd old new
Claims fd old false new = ¬ (Contains (claimable old) fd) × (new ≡ old)

-- So many that nobody will claim were handed out to the front of a place: as many as there are, or as it has room for.
pub record HandsLoose (old : Held) (before : List ℤ) (n : ℕ) (after : List ℤ) (new : Held) : Type 0 where
  pub own : claimable new ≡ claimable old
  pub loose : let_go old ≡ let_go new ++ take n after
  pub count : n ≡ min (length (let_go old)) (length before)
  pub rest : drop n after ≡ drop n before

-- what becomes of those that come with bytes: they came, where these are received; else the same are held
abbrev pub Gets : {E : Type 0} → List ℤ → Bool → Held → Result ⊤ E → Held → Type 0
Gets fds is_first old (Ok done) new = Arrives fds is_first old new
Gets fds is_first old (Err e) new = IsSame old new

-- what becomes of them where a message will never be whole: unless a call keeps its own, they will not be claimed
abbrev pub Abandons : Bool → Held → Held → Type 0
Abandons true old new = new ≡ old
Abandons false old new = Released old new

-- what becomes of those of a call, which was open before, and is after: where it is answered, nobody will claim what it left; else the same are held
abbrev pub LetsGo : Bool → Bool → Held → Held → Type 0
LetsGo true false old new = Released old new
LetsGo was is old new = new ≡ old

-- Each number came as often as it was claimed, was handed out and is held.
abbrev pub Balances : List ℤ → List ℤ → List ℤ → Held → Type 0
Balances came claimed handed h = (n : ℤ) → times n came ≡ times n claimed + times n handed + held_times n h

-- Each number that came was claimed once or handed out once, and none other was.
abbrev pub IsSettled : List ℤ → List ℤ → List ℤ → Type 0
IsSettled came claimed handed = (n : ℤ) → times n came ≡ times n claimed + times n handed
