-- A channel over a link.
use Rattle.std.proofs.Common.{◌≡◌, ℕ, IfOk, IfErr, Result, Ok, Err, ap, subst}
use Rattle.vhost_message.specs.declared.error.Error as declared
use Rattle.vhost_message.specs.declared.error.Error.TheVariants as code
use Rattle.vhost_protocol.specs.Error.{seen, seen_result}
use Rattle.vhost_backend_req_handler.specs.Opening.{Becomes}

-- it is there with this limit, which is that of the session, or there was no memory for it
pub becomes : {L C : Type 0} (is_over : C → L → ℕ → Type 0) {n budget : ℕ} (link : L) (result : Result C declared.Error) → n ≡ budget → IfOk result (λ c. is_over c link n) → IfErr result (λ e. e ≡ code.OutOfMemory)
    → Becomes is_over budget (Ok link) (seen_result result)
becomes is_over link (Ok channel) is over memory = subst (λ k. is_over channel link k) is over
becomes is_over link (Err e) is over memory = ap (λ x. seen x) memory
