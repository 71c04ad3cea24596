-- The errors of the protocol, with texts as lists of codes.
use Rattle.std.specs.Prelude.{ℕ, ℤ, Bool, List, Result, Ok, Err, if◌then◌else◌, ⊤}
use Rattle.vhost_message.specs.declared.cause.IoCause.{IoCause}
use Rattle.vhost_message.specs.declared.cause.IoCause.TheVariants as io
use Rattle.vhost_message.specs.declared.error.Error.TheVariants as code
use Rattle.vhost_message.specs.declared.error.Error as declared

-- why a call of the system failed: its number, or a name
pub data Cause : Type 0 where
  Raw : ℤ → Cause
  Named : List ℕ → Cause

-- the errors of a session; the number of an inactive feature is its bits
pub data Error : Type 0 where
  InvalidParam : Error
  InvalidOperation : List ℕ → Error
  InactiveFeature : ℕ → Error
  InactiveOperation : ℕ → Error
  InvalidMessage : Error
  InvalidSocketFd : Cause → Error
  NotUnixSocket : Error
  NotStreamSocket : Error
  PartialMessage : Error
  Disconnected : Error
  OversizedMsg : Error
  IncorrectFds : Error
  SocketError : Cause → Error
  SocketConnect : Cause → Error
  SocketBroken : Cause → Error
  SocketRetry : Cause → Error
  BackendInternalError : Error
  FrontendInternalError : Error
  FeatureMismatch : Error
  ReqHandlerError : Cause → Error
  MemFdCreateError : Error
  FileTruncateError : Error
  MemFdSealError : Error
  OutOfMemory : Error

-- a test that fails with this error where it does not hold; tests stand in order, and the first that fails refuses
abbrev pub test : {E : Type 0} → Bool → E → Result ⊤ E
test holds e = if holds then Ok tt else Err e

-- ---- the code's own errors, as they are seen here

-- a cause
abbrev pub seen_cause : IoCause → Cause
seen_cause (io.Raw number) = Raw number
seen_cause (io.Named name) = Named name.now

-- an error
abbrev pub seen : declared.Error → Error
seen code.InvalidParam = InvalidParam
seen (code.InvalidOperation reason) = InvalidOperation reason.now
seen (code.InactiveFeature feature) = InactiveFeature feature.bits
seen (code.InactiveOperation feature) = InactiveOperation feature.bits
seen code.InvalidMessage = InvalidMessage
seen (code.InvalidSocketFd cause) = InvalidSocketFd (seen_cause cause)
seen code.NotUnixSocket = NotUnixSocket
seen code.NotStreamSocket = NotStreamSocket
seen code.PartialMessage = PartialMessage
seen code.Disconnected = Disconnected
seen code.OversizedMsg = OversizedMsg
seen code.IncorrectFds = IncorrectFds
seen (code.SocketError cause) = SocketError (seen_cause cause)
seen (code.SocketConnect cause) = SocketConnect (seen_cause cause)
seen (code.SocketBroken cause) = SocketBroken (seen_cause cause)
seen (code.SocketRetry cause) = SocketRetry (seen_cause cause)
seen code.BackendInternalError = BackendInternalError
seen code.FrontendInternalError = FrontendInternalError
seen code.FeatureMismatch = FeatureMismatch
seen (code.ReqHandlerError cause) = ReqHandlerError (seen_cause cause)
seen code.MemFdCreateError = MemFdCreateError
seen code.FileTruncateError = FileTruncateError
seen code.MemFdSealError = MemFdSealError
seen code.OutOfMemory = OutOfMemory

-- a result
abbrev pub seen_result : {A : Type 0} → Result A declared.Error → Result A Error
seen_result (Ok a) = Ok a
seen_result (Err e) = Err (seen e)
