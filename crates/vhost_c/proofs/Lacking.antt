-- A feature is told of an ask only where it was refused for that.
use Rattle.std.proofs.Common.{◌≡◌, ℕ, Option, Result, Ok, Err, refl, ◌∙◌}
use Rattle.std.specs.Prelude.{◌≢◌, ⊤}
use Rattle.vhost_message.specs.declared.error.Error.{Error}
use Rattle.vhost_message.specs.declared.error.Error.TheVariants as error
use Rattle.vhost_protocol.specs.FrontendCall.{FrontendCall}
use Rattle.vhost_link.specs.declared.plain.PlainHandle.{PlainHandle}
use Rattle.vhost_c_common.specs.ByNumber.{By, none, some}
use Rattle.vhost_c_common.specs.Number.{error_number, outcome_number, feature_in, inactive_in}
use Rattle.vhost_c_common.specs.declared.refusal.Refusal.{Refusal}
use Rattle.vhost_c_common.specs.declared.refusal.Refusal.TheVariants as refusal
use Rattle.vhost_c_frontend.specs.Session.{Asking, Rejecting, AsksUnless, asks, refuses, wants, inactive_at}
use Rattle.vhost_c_frontend.specs.declared.session.Session.{Session}

of-error : (e : Error) → error_number e ≢ 3 → error_number e ≢ 4 → feature_in e ≡ 0
of-error error.InvalidParam no-feature no-operation = refl
of-error (error.InvalidOperation name) no-feature no-operation = refl
of-error (error.InactiveFeature f) no-feature no-operation = absurd (no-feature refl)
of-error (error.InactiveOperation f) no-feature no-operation = absurd (no-operation refl)
of-error error.InvalidMessage no-feature no-operation = refl
of-error (error.InvalidSocketFd c) no-feature no-operation = refl
of-error error.NotUnixSocket no-feature no-operation = refl
of-error error.NotStreamSocket no-feature no-operation = refl
of-error error.PartialMessage no-feature no-operation = refl
of-error error.Disconnected no-feature no-operation = refl
of-error error.OversizedMsg no-feature no-operation = refl
of-error error.IncorrectFds no-feature no-operation = refl
of-error (error.SocketError c) no-feature no-operation = refl
of-error (error.SocketConnect c) no-feature no-operation = refl
of-error (error.SocketBroken c) no-feature no-operation = refl
of-error (error.SocketRetry c) no-feature no-operation = refl
of-error error.BackendInternalError no-feature no-operation = refl
of-error error.FrontendInternalError no-feature no-operation = refl
of-error error.FeatureMismatch no-feature no-operation = refl
of-error (error.ReqHandlerError c) no-feature no-operation = refl
of-error error.MemFdCreateError no-feature no-operation = refl
of-error error.FileTruncateError no-feature no-operation = refl
of-error error.MemFdSealError no-feature no-operation = refl
of-error error.OutOfMemory no-feature no-operation = refl

of-outcome : (o : Result ⊤ Refusal) → outcome_number o ≢ 3 → outcome_number o ≢ 4 → inactive_in o ≡ 0
of-outcome (Ok done) no-feature no-operation = refl
of-outcome (Err (refusal.Protocol e)) no-feature no-operation = of-error e no-feature no-operation
of-outcome (Err refusal.NoSession) no-feature no-operation = refl
of-outcome (Err refusal.SessionOpen) no-feature no-operation = refl
of-outcome (Err refusal.NotTaken) no-feature no-operation = refl
of-outcome (Err refusal.NothingAsked) no-feature no-operation = refl
of-outcome (Err refusal.NotYet) no-feature no-operation = refl
of-outcome (Err refusal.TooManyBytes) no-feature no-operation = refl
of-outcome (Err refusal.NoRoom) no-feature no-operation = refl
of-outcome (Err refusal.OtherAnswer) no-feature no-operation = refl
of-outcome (Err refusal.NotReplied) no-feature no-operation = refl
of-outcome (Err refusal.OtherCall) no-feature no-operation = refl

asked : {call : FrontendCall PlainHandle} {n : ℕ} {old new : Option Session} → By (Asking call) old n new → n ≢ 3 → n ≢ 4 → inactive_at new ≡ 0
asked none no-feature no-operation = refl
asked (some {outcome = o} did) no-feature no-operation = did.1 ∙ of-outcome o no-feature no-operation

rejected : {e : Error} {n : ℕ} {old new : Option Session} → By (Rejecting e) old n new → n ≢ 3 → n ≢ 4 → inactive_at new ≡ 0
rejected none no-feature no-operation = refl
rejected (some {outcome = o} did) no-feature no-operation = did.2 ∙ of-outcome o no-feature no-operation

-- whether its arguments make a call or none
pub lacks-none : {bad : Type 0} {call : FrontendCall PlainHandle} {n : ℕ} {old new : Option Session} → AsksUnless bad call old n new → n ≢ 3 → n ≢ 4 → inactive_at new ≡ 0
lacks-none (asks by) no-feature no-operation = asked by no-feature no-operation
lacks-none (refuses bad by) no-feature no-operation = rejected by no-feature no-operation
lacks-none (wants by) no-feature no-operation = rejected by no-feature no-operation
