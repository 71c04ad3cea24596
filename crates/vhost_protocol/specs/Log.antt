-- The log of a session that several callers share.
use Rattle.std.specs.Prelude.{◌≡◌, ℕ, ◌-◌, Bool, true, not, ◌&&◌, List, [], ◌∷◌, length, take, map, Option, Some, None, Result, Ok, count_by, ◌==◌, if◌then◌else◌, ⊤}
use Rattle.vhost_message.specs.Bits.{has_bit}
use Rattle.vhost_protocol.specs.DeviceCall.{Call, Answer}
use Rattle.vhost_protocol.specs.Error.{Error}
use Rattle.vhost_protocol.specs.Features.{PROTOCOL_FEATURES}
use Rattle.vhost_protocol.specs.FrontendCall.{FrontendCall, GetFeatures, SetHdrFlags, Value, Number, Frontend, new_frontend}
use Rattle.vhost_protocol.specs.Joined.{JoinedRun}
use Rattle.vhost_protocol.specs.Session.{Session, fresh}

-- who called, how many times before, with what, and what was answered
pub record Entry (H : Type 0) : Type 0 where
  pub caller : ℕ
  pub serial : ℕ
  pub call : FrontendCall H
  pub result : Result (Value H) Error

-- the entries of one caller
abbrev pub calls_of : {H : Type 0} → ℕ → List (Entry H) → ℕ
calls_of caller entries = count_by (λ e. e.caller == caller) entries

-- each entry's serial is the number of its caller's earlier ones
abbrev pub AreNumbered : {H : Type 0} → (earlier : List (Entry H)) → List (Entry H) → Type 0
AreNumbered earlier [] = ⊤
AreNumbered earlier (e ∷ es) = (e.serial ≡ calls_of e.caller earlier) × AreNumbered (e ∷ earlier) es

-- ---- premises of the lockstep that the entries show

-- the call leaves the header flags without REPLY
abbrev pub is_plain_call : {H : Type 0} → FrontendCall H → Bool
is_plain_call (SetHdrFlags flags) = not (has_bit flags 2)
is_plain_call _ = true

-- whether the features that a device answered have the bit of protocol features
abbrev pub offered_bit : {H : Type 0} → FrontendCall H → Result (Value H) Error → Option Bool
offered_bit GetFeatures (Ok (Number n)) = Some (has_bit n PROTOCOL_FEATURES)
offered_bit _ _ = None

-- the bit is the one that was answered before
abbrev pub is_same_bit : Option Bool → Option Bool → Bool
is_same_bit (Some before) (Some now) = if before then now else not now
is_same_bit _ _ = true

-- the first bit that was answered
abbrev pub first_bit : Option Bool → Option Bool → Option Bool
first_bit None now = now
first_bit before now = before

-- the entries before the first that fails a premise; `before` is the bit that was answered earlier
abbrev pub plain_entries : {H : Type 0} → (before : Option Bool) → List (Entry H) → List (Entry H)
plain_entries before [] = []
plain_entries before (e ∷ es) =
    let now = offered_bit e.call e.result in
    if is_plain_call e.call && is_same_bit before now then e ∷ plain_entries (first_bit before now) es else []

-- the entries before the one at which a premise failed; where want of memory, a link or a budget stopped the run, that is the last at the latest
abbrev pub kept_entries : {H : Type 0} → (stopped : Bool) → List (Entry H) → List (Entry H)
kept_entries stopped log = plain_entries None (if stopped then take (length log - 1) log else log)

-- ---- the log

-- A legal log: its entries are numbered, and before a failed premise they are a joined run from new sessions and some device on.
-- Where no premise failed, it leads to the present sessions and the present device.
pub record IsLegal {H B G Dev : Type 0} (gives : Dev → (c : Call H B G) → Answer c → Dev → Type 0)
    (opens_backend : H → Result B Error → Type 0) (opens_gpu : H → Result G Error → Type 0)
    (queues : ℕ) (stopped : Bool) (log : List (Entry H)) (f : Frontend) (s : Session) (d : Dev) : Type 0 where
  pub numbered : AreNumbered [] log
  pub opening : Dev
  pub frontend : Frontend
  pub session : Session
  pub device : Dev
  pub run : JoinedRun gives opens_backend opens_gpu (new_frontend queues) fresh opening (map (λ e. (e.call, e.result)) (kept_entries stopped log)) frontend session device
  pub present : kept_entries stopped log ≡ log → (frontend ≡ f) × (session ≡ s) × (device ≡ d)
