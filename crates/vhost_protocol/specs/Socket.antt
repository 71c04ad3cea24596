-- The handle of a message that is to become a channel of its own.
use Rattle.std.specs.Prelude.{Result, Ok, Err, codes}
use Rattle.vhost_protocol.specs.Error.{Error, Cause, Named, InvalidSocketFd, NotUnixSocket, NotStreamSocket}

-- what a handle is
pub data Kind : Type 0 where
  NoSocket : Kind
  NotUnix : Kind
  NotStream : Kind
  UnixStream : Kind

-- The channel that a handle opens: from what asking for its kind answered, and making a channel of it.
abbrev pub opened : {C : Type 0} → Result Kind Cause → Result C Cause → Result C Error
opened (Err cause) made = Err (InvalidSocketFd cause)
opened (Ok NoSocket) made = Err (InvalidSocketFd (Named (codes "not a socket")))
opened (Ok NotUnix) made = Err NotUnixSocket
opened (Ok NotStream) made = Err NotStreamSocket
opened (Ok UnixStream) (Err cause) = Err (InvalidSocketFd cause)
opened (Ok UnixStream) (Ok channel) = Ok channel
