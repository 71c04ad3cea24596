-- The numbers of `enum covretin_error`.
use Rattle.std.specs.Prelude.{ℕ, Result, Ok, Err, ⊤}
use Rattle.vhost_message.specs.declared.error.Error.{Error}
use Rattle.vhost_message.specs.declared.error.Error.TheVariants as error
use Rattle.vhost_c_common.specs.declared.refusal.Refusal.{Refusal}
use Rattle.vhost_c_common.specs.declared.refusal.Refusal.TheVariants as refusal

abbrev pub error_number : Error → ℕ
error_number error.InvalidParam = 1
error_number (error.InvalidOperation name) = 2
error_number (error.InactiveFeature f) = 3
error_number (error.InactiveOperation f) = 4
error_number error.InvalidMessage = 5
error_number (error.InvalidSocketFd c) = 6
error_number error.NotUnixSocket = 7
error_number error.NotStreamSocket = 8
error_number error.PartialMessage = 9
error_number error.Disconnected = 10
error_number error.OversizedMsg = 11
error_number error.IncorrectFds = 12
error_number (error.SocketError c) = 13
error_number (error.SocketConnect c) = 14
error_number (error.SocketBroken c) = 15
error_number (error.SocketRetry c) = 16
error_number error.BackendInternalError = 17
error_number error.FrontendInternalError = 18
error_number error.FeatureMismatch = 19
error_number (error.ReqHandlerError c) = 20
error_number error.MemFdCreateError = 21
error_number error.FileTruncateError = 22
error_number error.MemFdSealError = 23
error_number error.OutOfMemory = 24

abbrev pub number : Refusal → ℕ
number (refusal.Protocol e) = error_number e
number refusal.NoSession = 101
number refusal.SessionOpen = 102
number refusal.NotTaken = 103
number refusal.NothingAsked = 104
number refusal.NotYet = 105
number refusal.TooManyBytes = 106
number refusal.NoRoom = 107
number refusal.OtherAnswer = 108
number refusal.NotReplied = 109
number refusal.OtherCall = 110

-- what a call answers: 0, or the number of its refusal
abbrev pub outcome_number : Result ⊤ Refusal → ℕ
outcome_number (Ok done) = 0
outcome_number (Err r) = number r

-- the feature that was not active, as a number with its bit, where an error says so; else 0
abbrev pub feature_in : Error → ℕ
feature_in (error.InactiveFeature f) = f.bits
feature_in (error.InactiveOperation f) = f.bits
feature_in _ = 0

-- the same of why a call was refused
abbrev pub inactive_in : Result ⊤ Refusal → ℕ
inactive_in (Err (refusal.Protocol e)) = feature_in e
inactive_in _ = 0
