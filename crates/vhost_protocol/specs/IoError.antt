-- The errors of the reverse channel and of the channel to a display.
use Rattle.std.specs.Prelude.{ℕ, List, Result, Ok, Err, codes}
use Rattle.vhost_message.specs.declared.io_error.IoError as declared
use Rattle.vhost_message.specs.declared.io_error.IoError.TheVariants as code
use Rattle.vhost_protocol.specs.Error.{Error, Cause, Raw, Named, seen}

-- a cause of the system, or an error of the protocol, perhaps with the step that met it
pub data IoError : Type 0 where
  Because : Cause → IoError
  Of : Error → IoError
  In : List ℕ → Error → IoError

-- the cause of such an error
abbrev pub cause : IoError → Cause
cause (Because c) = c
cause (Of e) = Named (codes "vhost-user error")
cause (In place e) = Named place

-- the code's own error, as it is seen here
abbrev pub seen_io : declared.IoError → IoError
seen_io (code.Raw number) = Because (Raw number)
seen_io (code.Named name) = Because (Named name.now)
seen_io (code.Of e) = Of (seen e)
seen_io (code.In place e) = In place.now (seen e)

-- a result
abbrev pub seen_io_result : {A : Type 0} → Result A declared.IoError → Result A IoError
seen_io_result (Ok a) = Ok a
seen_io_result (Err e) = Err (seen_io e)
