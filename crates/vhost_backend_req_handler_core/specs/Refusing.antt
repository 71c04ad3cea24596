-- Why a request is refused.
use Rattle.std.specs.Prelude.{codes}
use Rattle.vhost_protocol.specs.Error.{Error, InvalidParam, InvalidOperation, InactiveFeature, InactiveOperation, InvalidMessage, IncorrectFds, FrontendInternalError}
use Rattle.vhost_backend_req_handler_core.specs.declared.refusal.Refusal.{Refusal}
use Rattle.vhost_backend_req_handler_core.specs.declared.refusal.Refusal.TheVariants as refusal

-- the error of a refusal
abbrev pub refusal_in : Refusal → Error
refusal_in refusal.InvalidParam = InvalidParam
refusal_in refusal.AlreadyAdvised = InvalidOperation (codes "postcopy already advised")
refusal_in refusal.NotAdvised = InvalidOperation (codes "postcopy not advised")
refusal_in refusal.NotListening = InvalidOperation (codes "postcopy not listening")
refusal_in (refusal.InactiveFeature bits) = InactiveFeature bits
refusal_in (refusal.InactiveOperation bits) = InactiveOperation bits
refusal_in refusal.InvalidMessage = InvalidMessage
refusal_in refusal.IncorrectFds = IncorrectFds
refusal_in refusal.FrontendInternalError = FrontendInternalError
