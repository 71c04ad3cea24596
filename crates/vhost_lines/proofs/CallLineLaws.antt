-- Laws of lines.
use Rattle.std.proofs.Common.{◌≡◌, ℕ, Bool, true, false, List, None, if◌then◌else◌, refl}
use Rattle.std.proofs.lemmas.Str.{IsUtf8-from_is_utf8, is_utf8-from_IsUtf8}
use Rattle.std.specs.Str.{is_utf8, IsUtf8}
use Rattle.vhost_lines.specs.Calls.{call_named, call_in}
use Rattle.vhost_lines.specs.Words.{words}

-- a line that is a text
pub call_in-utf8 : (line : List ℕ) → IsUtf8 line → call_in line ≡ call_named (words line)
call_in-utf8 line is = rw (is_utf8-from_IsUtf8 line is) refl

-- a line that is none
pub call_in-not_utf8 : (line : List ℕ) → (IsUtf8 line → ⊥) → call_in line ≡ None
call_in-not_utf8 line refused = from (is_utf8 line) (IsUtf8-from_is_utf8 line) where
  from : (b : Bool) → (b ≡ true → IsUtf8 line) → (if b then call_named (words line) else None) ≡ None
  from true is = absurd (refused (is refl))
  from false is = refl
