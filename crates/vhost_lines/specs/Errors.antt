-- An error as text.
use Rattle.std.specs.Prelude.{ℕ, List, ◌++◌, codes}
use Rattle.vhost_message.specs.declared.error.Error.{Error}
use Rattle.vhost_message.specs.declared.error.Error.TheVariants.{InvalidParam, InvalidOperation, InactiveFeature, InactiveOperation, InvalidMessage, InvalidSocketFd, NotUnixSocket, NotStreamSocket, PartialMessage, Disconnected, OversizedMsg, IncorrectFds, SocketError, SocketConnect, SocketBroken, SocketRetry, BackendInternalError, FrontendInternalError, FeatureMismatch, ReqHandlerError, MemFdCreateError, FileTruncateError, MemFdSealError, OutOfMemory}
use Rattle.vhost_lines.specs.Numbers.{hex_text}

-- the name of an error
abbrev pub name_of : Error → List ℕ
name_of InvalidParam = codes "InvalidParam"
name_of (InvalidOperation x) = codes "InvalidOperation"
name_of (InactiveFeature x) = codes "InactiveFeature"
name_of (InactiveOperation x) = codes "InactiveOperation"
name_of InvalidMessage = codes "InvalidMessage"
name_of (InvalidSocketFd x) = codes "InvalidSocketFd"
name_of NotUnixSocket = codes "NotUnixSocket"
name_of NotStreamSocket = codes "NotStreamSocket"
name_of PartialMessage = codes "PartialMessage"
name_of Disconnected = codes "Disconnected"
name_of OversizedMsg = codes "OversizedMsg"
name_of IncorrectFds = codes "IncorrectFds"
name_of (SocketError x) = codes "SocketError"
name_of (SocketConnect x) = codes "SocketConnect"
name_of (SocketBroken x) = codes "SocketBroken"
name_of (SocketRetry x) = codes "SocketRetry"
name_of BackendInternalError = codes "BackendInternalError"
name_of FrontendInternalError = codes "FrontendInternalError"
name_of FeatureMismatch = codes "FeatureMismatch"
name_of (ReqHandlerError x) = codes "ReqHandlerError"
name_of MemFdCreateError = codes "MemFdCreateError"
name_of FileTruncateError = codes "FileTruncateError"
name_of MemFdSealError = codes "MemFdSealError"
name_of OutOfMemory = codes "OutOfMemory"

-- an error by its name, and the bits that are missing
abbrev pub error_text : Error → List ℕ
error_text (InactiveFeature missing) = codes "err InactiveFeature " ++ hex_text missing.bits
error_text (InactiveOperation missing) = codes "err InactiveOperation " ++ hex_text missing.bits
error_text e = codes "err " ++ name_of e
