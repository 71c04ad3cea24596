-- What callers see of a recorder.
use Rattle.std.specs.Prelude.{◌≡◌, ℕ, ◌+◌, List, [], ◌∷◌, ◌++◌}
use Rattle.vhost_protocol.specs.FrontendCall.{FrontendCall}
use Rattle.vhost_protocol.specs.Log.{Entry, calls_of}
use Rattle.vhost_link.specs.declared.plain.PlainHandle.{PlainHandle}

-- Two calls of one caller, one after the other: the log has two entries more, of this caller, with its next two serials and these calls.
pub record RecordsTwo (by : ℕ) (asked asked' : FrontendCall PlainHandle) (old : List (Entry PlainHandle)) (one two : Entry PlainHandle) (new : List (Entry PlainHandle)) : Type 0 where
  pub entries : new ≡ old ++ one ∷ two ∷ []
  pub callers : (one.caller ≡ by) × (two.caller ≡ by)
  pub serials : (one.serial ≡ calls_of by old) × (two.serial ≡ calls_of by old + 1)
  pub calls : (one.call ≡ asked) × (two.call ≡ asked')

-- the log's first entry is of this call
abbrev pub Begins : List (Entry PlainHandle) → FrontendCall PlainHandle → Type 0
Begins [] call = ⊥
Begins (e ∷ es) call = e.call ≡ call
