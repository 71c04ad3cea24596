-- After which errors a connection is to be made again.
use Rattle.std.specs.Prelude.{Bool, true, false}
use Rattle.vhost_message.specs.declared.error.Error.{Error}
use Rattle.vhost_message.specs.declared.error.Error.TheVariants.{PartialMessage, SocketBroken, BackendInternalError, FrontendInternalError}

-- the stream is lost, or the peer failed
abbrev pub should_reconnect : Error → Bool
should_reconnect PartialMessage = true
should_reconnect (SocketBroken cause) = true
should_reconnect BackendInternalError = true
should_reconnect FrontendInternalError = true
should_reconnect _ = false
