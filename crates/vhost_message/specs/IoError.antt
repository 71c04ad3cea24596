-- The errors of handlers and of the channel to the display.
use Rattle.std.specs.Prelude.{◌≡◌, ℕ, ℤ, List, codes, Option, Some, None}
use Rattle.vhost_message.specs.declared.cause.IoCause.{IoCause}
use Rattle.vhost_message.specs.declared.cause.IoCause.TheVariants as cause
use Rattle.vhost_message.specs.declared.io_error.IoError.{IoError}
use Rattle.vhost_message.specs.declared.io_error.IoError.TheVariants as io

-- the number of the system's error
abbrev pub raw_of : IoError → Option ℤ
raw_of (io.Raw number) = Some number
raw_of (io.Named name) = None
raw_of (io.Of e) = None
raw_of (io.In place e) = None

-- the cause has no number, but this name
abbrev pub IsNamed : List ℕ → IoCause → Type 0
IsNamed text (cause.Raw number) = ⊥
IsNamed text (cause.Named name) = name.now ≡ text

-- the same number or name; for an error of the protocol its step, or a name for all of them
abbrev pub IsCauseOf : IoError → IoCause → Type 0
IsCauseOf (io.Raw number) c = c ≡ cause.Raw number
IsCauseOf (io.Named name) c = c ≡ cause.Named name
IsCauseOf (io.Of e) c = IsNamed (codes "vhost-user error") c
IsCauseOf (io.In place e) c = c ≡ cause.Named place
