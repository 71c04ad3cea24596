-- What a link's cause becomes, and how an error is passed on.
use Rattle.std.proofs.Common.{◌≡◌, sym, ap, ◌∙◌, Bool, true, false, Result, Ok, Err}
use Rattle.std.specs.Prelude.{if◌then◌else◌}
use Rattle.std.specs.Result.{IsErrAnd}
use Rattle.vhost_message.specs.declared.cause.IoCause.{IoCause}
use Rattle.vhost_message.specs.declared.error.Error.{Error}
use Rattle.vhost_message.specs.declared.error.Error.TheVariants.{SocketError, SocketConnect, SocketBroken, SocketRetry, OutOfMemory}
use Rattle.vhost_message.specs.Cause.{is_retry, is_break, is_denial, error_of}

-- What holds of the four errors of a link holds of whichever a cause becomes.
pub socket : (P Q : Error → Type 0) (c : IoCause) (b d f : Bool) → (P (SocketRetry c) → Q (SocketRetry c)) → (P (SocketBroken c) → Q (SocketBroken c)) → (P (SocketConnect c) → Q (SocketConnect c)) → (P (SocketError c) → Q (SocketError c))
    → P (if b then SocketRetry c else if d then SocketBroken c else if f then SocketConnect c else SocketError c)
    → Q (if b then SocketRetry c else if d then SocketBroken c else if f then SocketConnect c else SocketError c)
socket P Q c true d f p q r s x = p x
socket P Q c false true f p q r s x = q x
socket P Q c false false true p q r s x = r x
socket P Q c false false false p q r s x = s x

-- none of them is a want of memory
pub no_memory_error : (e : Error) (c : IoCause) → e ≡ error_of c → e ≡ OutOfMemory → ⊥
no_memory_error e c is memory =
    socket (λ _. Unit {0}) (λ y. y ≡ OutOfMemory → ⊥) c (is_retry c) (is_break c) (is_denial c) (λ _ h. absurd cc) (λ _ h. absurd cc) (λ _ h. absurd cc) (λ _ h. absurd cc) tt (sym is ∙ memory)

-- A `?` whose error is passed on as it is answers that error.
pub passed-on : {T E : Type 0} {e : E} (r : Result T E) → IsErrAnd r (λ y. y ≡ e) → r ≡ Err e
passed-on (Ok x) h = absurd h
passed-on (Err y) h = ap (λ z. Err z) h
