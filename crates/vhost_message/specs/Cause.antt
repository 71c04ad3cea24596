-- What a link's cause becomes.
use Rattle.std.specs.Prelude.{Bool, false, ◌||◌, if◌then◌else◌}
use Rattle.std.specs.Ordering.{int_eq}
use Rattle.vhost_message.specs.declared.cause.IoCause.{IoCause}
use Rattle.vhost_message.specs.declared.cause.IoCause.TheVariants.{Raw, Named}
use Rattle.vhost_message.specs.declared.errno.TheConstants.{EACCES, EAGAIN, ECONNRESET, EINTR, ENOBUFS, ENOMEM, EPIPE}
use Rattle.vhost_message.specs.declared.error.Error.{Error}
use Rattle.vhost_message.specs.declared.error.Error.TheVariants.{SocketError, SocketConnect, SocketBroken, SocketRetry}

-- the call would have to wait, it was interrupted, or there is no room in the system's buffers or no memory
abbrev pub is_retry : IoCause → Bool
is_retry (Raw n) = int_eq n EAGAIN || int_eq n EINTR || int_eq n ENOBUFS || int_eq n ENOMEM
is_retry (Named name) = false

-- the other side reset the connection, or no longer reads
abbrev pub is_break : IoCause → Bool
is_break (Raw n) = int_eq n ECONNRESET || int_eq n EPIPE
is_break (Named name) = false

-- permission is denied
abbrev pub is_denial : IoCause → Bool
is_denial (Raw n) = int_eq n EACCES
is_denial (Named name) = false

-- the error of a cause
abbrev pub error_of : IoCause → Error
error_of c = if is_retry c then SocketRetry c else if is_break c then SocketBroken c else if is_denial c then SocketConnect c else SocketError c
