-- Which errors the tests of a call name.
use Rattle.std.proofs.Common.{◌≡◌, ℕ, Bool, true, false, Option, Some, None, refl, subst}
use Rattle.std.specs.Prelude.{⊤, if◌then◌else◌}
use Rattle.vhost_message.specs.declared.error.Error as declared
use Rattle.vhost_message.specs.declared.error.Error.TheVariants as code
use Rattle.vhost_protocol.specs.Ask.{Asked, Refuses, Answers, Sends, ask, given, ◌>>◌, ◌>>=◌}
use Rattle.vhost_protocol.specs.Error as errors
use Rattle.vhost_protocol.specs.Error.{Error, seen, test}
use Rattle.vhost_protocol.specs.FrontendCall.{FrontendCall, SetLogBase, Frontend}
use Rattle.vhost_frontend_core.specs.declared.values.call.FrontendCall as asks
use Rattle.vhost_c_common.specs.Number.{error_number}
use Rattle.vhost_c.specs.Calls.{is_named}
use Rattle.vhost_c.specs.Program.{refusals}
use Rattle.vhost_c.specs.declared.program.ProgramCall.TheVariants.{Ask}

-- the number of an error as it is seen
abbrev pub seen_number : Error → ℕ
seen_number errors.InvalidParam = 1
seen_number (errors.InvalidOperation reason) = 2
seen_number (errors.InactiveFeature f) = 3
seen_number (errors.InactiveOperation f) = 4
seen_number errors.InvalidMessage = 5
seen_number (errors.InvalidSocketFd c) = 6
seen_number errors.NotUnixSocket = 7
seen_number errors.NotStreamSocket = 8
seen_number errors.PartialMessage = 9
seen_number errors.Disconnected = 10
seen_number errors.OversizedMsg = 11
seen_number errors.IncorrectFds = 12
seen_number (errors.SocketError c) = 13
seen_number (errors.SocketConnect c) = 14
seen_number (errors.SocketBroken c) = 15
seen_number (errors.SocketRetry c) = 16
seen_number errors.BackendInternalError = 17
seen_number errors.FrontendInternalError = 18
seen_number errors.FeatureMismatch = 19
seen_number (errors.ReqHandlerError c) = 20
seen_number errors.MemFdCreateError = 21
seen_number errors.FileTruncateError = 22
seen_number errors.MemFdSealError = 23
seen_number errors.OutOfMemory = 24

pub is-seen : (e : declared.Error) → seen_number (seen e) ≡ error_number e
is-seen code.InvalidParam = refl
is-seen (code.InvalidOperation reason) = refl
is-seen (code.InactiveFeature f) = refl
is-seen (code.InactiveOperation f) = refl
is-seen code.InvalidMessage = refl
is-seen (code.InvalidSocketFd c) = refl
is-seen code.NotUnixSocket = refl
is-seen code.NotStreamSocket = refl
is-seen code.PartialMessage = refl
is-seen code.Disconnected = refl
is-seen code.OversizedMsg = refl
is-seen code.IncorrectFds = refl
is-seen (code.SocketError c) = refl
is-seen (code.SocketConnect c) = refl
is-seen (code.SocketBroken c) = refl
is-seen (code.SocketRetry c) = refl
is-seen code.BackendInternalError = refl
is-seen code.FrontendInternalError = refl
is-seen code.FeatureMismatch = refl
is-seen (code.ReqHandlerError c) = refl
is-seen code.MemFdCreateError = refl
is-seen code.FileTruncateError = refl
is-seen code.MemFdSealError = refl
is-seen code.OutOfMemory = refl

-- a number that each ask may answer
abbrev pub IsOfAsk : ℕ → Type 0
IsOfAsk n = (call : asks.FrontendCall) → is_named (refusals (Ask call)) n ≡ true

module _ {H : Type 0} where
  -- a call is refused for a test alone
  abbrev Fine : Asked H → Type 0
  Fine (Refuses e) = IsOfAsk (seen_number e)
  Fine (Answers value f) = ⊤
  Fine (Sends w awaited f) = ⊤

  tested : (b : Bool) (e : Error) (next : Asked H) → IsOfAsk (seen_number e) → Fine next → Fine (test b e >> next)
  tested true e next is fine = fine
  tested false e next is fine = is

  with-given : {A : Type 0} (o : Option A) (next : A → Asked H) → ((a : A) → Fine (next a)) → Fine (given o >>= next)
  with-given None next fine = λ call. refl
  with-given (Some a) next fine = fine a

  either : (b : Bool) (x y : Asked H) → Fine x → Fine y → Fine (if b then x else y)
  either true x y p q = p
  either false x y p q = q

  ruleset tests = (tested, with-given, either)

  asked-fine : (f : Frontend) (call : FrontendCall H) → Fine (ask f call)
  asked-fine f (SetLogBase base None) = tt
  asked-fine f (SetLogBase base (Some r)) = search tests
  asked-fine f _ = search tests

  -- an error that refuses a call is that of a test
  pub ask-refused : (f : Frontend) (call : FrontendCall H) (e : declared.Error) → ask f call ≡ Refuses (seen e) → IsOfAsk (error_number e)
  ask-refused f call e is = subst IsOfAsk (is-seen e) (subst Fine is (asked-fine f call))
