-- What the calls of a session with a display answer to C.
use Rattle.std.specs.Prelude.{◌≡◌, ℕ, List, ◌∷◌, Option, Some, None, Result, Ok, Err, ⊤}
use Rattle.vhost_message.specs.Records.{u64_at}
use Rattle.vhost_protocol.specs.Gpu.{GpuCall, TheFeatures}
use Rattle.vhost_link.specs.declared.plain.PlainHandle.{PlainHandle}
use Rattle.vhost_c_common.specs.ByNumber.{By}
use Rattle.vhost_c_common.specs.declared.refusal.Refusal.{Refusal}
use Rattle.vhost_c_channel.specs.Display.{IsNew, Asking, TakesRecord, missing_of}
use Rattle.vhost_c_channel.specs.declared.display.Display.{Display}

-- A session was opened; or there was one; or memory was refused.
pub data OpensDisplay : Option Display → ℕ → Option Display → Type 0 where
  opened : {s : Display} → IsNew s → OpensDisplay None 0 (Some s)
  was_open : {s : Display} → OpensDisplay (Some s) 102 (Some s)
  no_room : OpensDisplay None 24 None

-- how many bytes can be told to be missing, where there is a session
abbrev pub missing_at : Option Display → ℕ
missing_at None = 0
missing_at (Some s) = missing_of s

-- an ask of C
abbrev pub AsksBy : GpuCall PlainHandle → Option Display → ℕ → Option Display → Type 0
AsksBy c = By (Asking c)

-- features are taken to a place; where they are not, it is as before
abbrev pub TakesNumber : ℕ → ℕ → Display → Result ⊤ Refusal → Display → Type 0
TakesNumber before after s (Ok done) s' = TakesRecord TheFeatures (u64_at 0) s s' (Ok after)
TakesNumber before after s (Err r) s' = TakesRecord TheFeatures (u64_at 0) s s' (Err r) × (after ≡ before)

-- the wire bytes of SCANOUT, which gives screen 0 a size of 2 by 2 pixels, and of UPDATE, which shows these
abbrev pub sized_and_shown : List ℕ → List ℕ
sized_and_shown pixels =
    7 ∷ 0 ∷ 0 ∷ 0 ∷ 0 ∷ 0 ∷ 0 ∷ 0 ∷ 12 ∷ 0 ∷ 0 ∷ 0 ∷ 0 ∷ 0 ∷ 0 ∷ 0 ∷ 2 ∷ 0 ∷ 0 ∷ 0 ∷ 2 ∷ 0 ∷ 0 ∷ 0 ∷ 8 ∷ 0 ∷ 0 ∷ 0 ∷ 0 ∷ 0 ∷ 0 ∷ 0 ∷ 36 ∷ 0 ∷ 0 ∷ 0 ∷ 0 ∷ 0 ∷ 0 ∷ 0 ∷ 0 ∷ 0 ∷ 0 ∷ 0 ∷ 0 ∷ 0 ∷ 0 ∷ 0 ∷ 2 ∷ 0 ∷ 0 ∷ 0 ∷ 2 ∷ 0 ∷ 0 ∷ 0 ∷ pixels
