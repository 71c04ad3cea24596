-- Which handles an answer names.
use Rattle.std.specs.Prelude.{◌≡◌, ◌⊎◌, List, [], ◌∷◌, Some, Result, Ok, Err, ⊤}
use Rattle.vhost_protocol.specs.Error.{Error}
use Rattle.vhost_protocol.specs.FrontendCall.{Value, HandleOf, InflightOf, StateHandle}

-- the handles of a value
abbrev pub handles_of : {H : Type 0} → Value H → List H
handles_of (HandleOf h) = h ∷ []
handles_of (InflightOf area h) = h ∷ []
handles_of (StateHandle (Some h)) = h ∷ []
handles_of _ = []

-- a result names no handle, or all those that came, which are one
abbrev pub Names : {H : Type 0} → List H → Result (Value H) Error → Type 0
Names came (Ok v) = (handles_of v ≡ []) ⊎ (handles_of v ≡ came)
Names came (Err e) = ⊤
