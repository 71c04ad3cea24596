-- A device as a session reaches it, by the calls of its trait.
use Rattle.std.specs.Prelude.{◌≡◌, codes, Err}
use Rattle.vhost_protocol.specs.DeviceCall.{Call, Answer, Other}
use Rattle.vhost_protocol.specs.Error.{Error, InvalidOperation}

-- what is said of a request that the trait has no call for
abbrev pub not_served : Error
not_served = InvalidOperation (codes "request not served")

-- What the device gives. A request without a call of its own, which comes under Standard alone, is refused, and does not reach it.
abbrev pub by_trait : {H B G Dev : Type 0} → (Dev → (c : Call H B G) → Answer c → Dev → Type 0) → Dev → (c : Call H B G) → Answer c → Dev → Type 0
by_trait gives old (Other request body files) answer new = (answer ≡ Err not_served) × (new ≡ old)
by_trait gives old c answer new = gives old c answer new
