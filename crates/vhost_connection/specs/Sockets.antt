-- Which errors the calls of a socket may answer.
use Rattle.std.specs.Prelude.{⊤}
use Rattle.vhost_message.specs.declared.error.Error.{Error}
use Rattle.vhost_message.specs.declared.error.Error.TheVariants.{SocketError, SocketConnect, OutOfMemory}
use Rattle.vhost_link.specs.Unix.{IsOfSystem}

-- a failure of a listening socket
abbrev pub IsSocketError : Error → Type 0
IsSocketError (SocketError cause) = IsOfSystem cause
IsSocketError e = ⊥

-- a failure to listen
abbrev pub IsListenError : Error → Type 0
IsListenError (SocketError cause) = IsOfSystem cause
IsListenError OutOfMemory = ⊤
IsListenError e = ⊥

-- a failure to connect
abbrev pub IsConnectError : Error → Type 0
IsConnectError (SocketConnect cause) = IsOfSystem cause
IsConnectError OutOfMemory = ⊤
IsConnectError e = ⊥
