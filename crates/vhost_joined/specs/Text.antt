-- What a copy of a message shows.
use Rattle.std.specs.Prelude.{ℕ, List, []}
use Rattle.vhost_protocol.specs.Stream.{Cell, bytes, first_handles}
use Rattle.vhost_link.specs.declared.plain.PlainHandle.{PlainHandle}

-- the bytes, and the handles on the first of them
pub record Text : Type 0 where
  pub bytes : List ℕ
  pub handles : List PlainHandle

-- of the cells on a stream
abbrev pub text_of : List (Cell PlainHandle) → Text
text_of cells = record { bytes = bytes cells; handles = first_handles cells }

-- of no message
abbrev pub no_text : Text
no_text = record { bytes = []; handles = [] }
