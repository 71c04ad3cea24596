-- Whole runs of a handler over its stream, whichever side it serves.
use Rattle.std.specs.Prelude.{◌≡◌, ℕ, ℤ, Bool, List, [], ◌∷◌, ◌++◌, Option, Some, None, Result, Ok, Err}
use Rattle.vhost_protocol.specs.Error.{Error, SocketBroken, Raw}
use Rattle.vhost_protocol.specs.Split.{Message, split, Splits}
use Rattle.vhost_protocol.specs.Stream.{Cell, Item, heard}

-- A handler: its requests in a session, with how many handles each may come, what marks a session as failed, and what it does with a message: from session and device to the answer, the cells that it writes, and session and device.
module _ {R H S A Dev : Type 0} (request_of : S → ℕ → Option R) (allows_handles : R → ℕ → Bool) (failed : S → Option ℤ)
    (Meets : S → Dev → Message R H → Result A Error → List (Cell H) → S → Dev → Type 0) where
  -- the outcome of what was heard, and of nothing else
  abbrev pub Hears : S → List (Item H) → Result (Message R H) Error → Type 0
  Hears s input outcome = (cells : List (Cell H)) × (ended : Bool) × (input ≡ heard cells ended) × Splits (split (request_of s) allows_handles) cells ended outcome

  -- what was read decides: an error changes nothing, a message meets its row
  abbrev pub Handles : S → Dev → Result (Message R H) Error → Result A Error → List (Cell H) → S → Dev → Type 0
  Handles s d (Err e) answer written s' d' = (answer ≡ Err e) × (written ≡ []) × (s' ≡ s) × (d' ≡ d)
  Handles s d (Ok m) answer written s' d' = Meets s d m answer written s' d'

  -- a failed session reads nothing, and says that it is broken; another one reads a message
  abbrev pub ServesUnless : Option ℤ → S → Dev → List (Item H) → Result A Error → List (Cell H) → S → Dev → Type 0
  ServesUnless (Some e) s d input answer written s' d' = (input ≡ []) × Handles s d (Err (SocketBroken (Raw e))) answer written s' d'
  ServesUnless None s d input answer written s' d' =
      (outcome : Result (Message R H) Error) × Hears s input outcome × Handles s d outcome answer written s' d'

  -- one call of the handler
  abbrev pub Serves : S → Dev → List (Item H) → Result A Error → List (Cell H) → S → Dev → Type 0
  Serves s d input answer written s' d' = ServesUnless (failed s) s d input answer written s' d'

  -- Calls one after another: each reads on where the one before stopped, and the written messages stand in order.
  abbrev pub Run : S → Dev → List (Result A Error) → List (Item H) → List (Cell H) → S → Dev → Type 0
  Run s d [] input written s' d' = (input ≡ []) × (written ≡ []) × (s' ≡ s) × (d' ≡ d)
  Run s d (answer ∷ answers) input written s' d' =
      (now later : List (Item H)) × (first rest : List (Cell H)) × (mid : S) × (between : Dev)
      × Serves s d now answer first mid between × (input ≡ now ++ later) × (written ≡ first ++ rest)
      × Run mid between answers later rest s' d'
