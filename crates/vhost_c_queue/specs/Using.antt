-- Many chains are given back by one call, as if by a call for each.
use Rattle.std.specs.Prelude.{◌≡◌, ℕ, ◌+◌, ◌<◌, ◌≤◌, ◌⊎◌, ◌++◌, ◌∷◌, List, [], length, slice_index_or, Result, Ok, Err, MatchResult, ⊤}
use Rattle.vhost_c_queue.specs.DeviceQueue.{ByLayout, UsesPacked, UsesSplit}
use Rattle.vhost_c_queue.specs.declared.device_queue.Ring.{Ring}
use Rattle.vhost_c_queue.specs.declared.records.Used.{Used}
use Rattle.vhost_c_queue.specs.declared.refusal.Refusal.{Refusal}
use Rattle.vhost_c_queue.specs.declared.refusal.Refusal.TheVariants.{NoRoom, NotStarted}

-- the device is done with the chain of this head or id: what is to be written
abbrev pub Uses : ℕ → ℕ → Result Used Refusal → Ring → Ring → Type 0
Uses id len r old new = ByLayout (UsesSplit id len r) (UsesPacked id len r) (r ≡ Err NotStarted) old new

-- .. with the first of these chains, in order, as if they were given back one by one: how many they are, and what is to be written for each
pub data UsesMany (ids lens : List ℕ) (old : Ring) : ℕ → List Used → Ring → Type 0 where
  none : UsesMany ids lens old 0 [] old
  one : {at : ℕ} {us : List Used} {was now : Ring} → UsesMany ids lens old at us was → (u : Used) → at < length ids
      → Uses (slice_index_or ids at 0) (slice_index_or lens at 0) (Ok u) was now → UsesMany ids lens old (at + 1) (us ++ u ∷ []) now

-- each of them has a length and a place
abbrev pub Fits : List ℕ → List ℕ → ℕ → Type 0
Fits ids lens room = (length ids ≤ length lens) × (length ids ≤ room)

-- why no more than the first n were given back: one has no length or no place, and none was; or the next is refused, which changes nothing
abbrev pub Refuses : List ℕ → List ℕ → ℕ → ℕ → Ring → Refusal → Type 0
Refuses ids lens room n ring f =
    ((f ≡ NoRoom) × (n ≡ 0) × ((length lens < length ids) ⊎ (room < length ids)))
    ⊎ (Fits ids lens room × (n < length ids) × Uses (slice_index_or ids n 0) (slice_index_or lens n 0) (Err f) ring ring)

-- the first n of them were given back, and what is to be written for each is told: all of them, or those before the next is refused
abbrev pub UsesAll : List ℕ → List ℕ → ℕ → Result ⊤ Refusal → ℕ → List Used → Ring → Ring → Type 0
UsesAll ids lens room r n us old new = UsesMany ids lens old n us new × MatchResult r (λ _. Fits ids lens room × (n ≡ length ids)) (Refuses ids lens room n new)
