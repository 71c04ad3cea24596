-- What the device answers at each call, and how it changes.
use Rattle.std.specs.Prelude.{◌≡◌, ℕ, true, false, bit_and, Result, Ok, Err, ⊤}
use Rattle.vhost_protocol.specs.DeviceCall.{Call, Answer, GetFeatures, SetFeatures, SetOwner, ResetOwner}
use Rattle.vhost_protocol.specs.Error.{Error, InvalidParam}
use Rattle.vhost_examples.specs.declared.device.Device.{Device}

-- It offers bit 0 and the protocol features, bit 30.
abbrev pub offered : ℕ
offered = 0x40000001

-- a device after it was asked for these features: it takes those that it offers, and refuses all others
abbrev pub Takes : Device → ℕ → Result ⊤ Error → Device → Type 0
Takes old features (Ok done) new = (bit_and features offered ≡ features) × (new ≡ record old { features = features })
Takes old features (Err e) new = (e ≡ InvalidParam) × (new ≡ old)

-- By cases on the call. Every other call is answered somehow, and changes nothing.
abbrev pub Gives : {H B G : Type 0} → Device → (c : Call H B G) → Answer c → Device → Type 0
Gives old GetFeatures answer new = (answer ≡ Ok offered) × (new ≡ old)
Gives old (SetFeatures features) answer new = Takes old features answer new
Gives old SetOwner answer new = (answer ≡ Ok tt) × (new ≡ record old { owned = true })
Gives old ResetOwner answer new = (answer ≡ Ok tt) × (new ≡ record old { owned = false; features = 0 })
Gives old c answer new = new ≡ old
