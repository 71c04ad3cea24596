-- The example device behind a handler under the profile Standard, over a stream of two requests.
use Rattle.std.specs.Prelude.{◌≡◌, ℕ, List, [], ◌∷◌, ◌++◌, true, Result, Ok, Err, map, codes, replicate, ⊤}
use Rattle.vhost_message.specs.declared.error.Error as declared
use Rattle.vhost_protocol.specs.declared.profile.Profile.TheVariants.{Standard}
use Rattle.vhost_protocol.specs.Error.{InvalidOperation, seen_result}
use Rattle.vhost_protocol.specs.Session.{Session, fresh}
use Rattle.vhost_link.specs.Ends.{Ends, empty}
use Rattle.vhost_link.specs.declared.cut.Cut.{Cut}
use Rattle.vhost_protocol.specs.Stream.{plain}
use Rattle.vhost_promises.specs.Example.{Device, owner_request}
use Rattle.vhost_connection.specs.Memory.{stream}
use Rattle.vhost_promises.specs.Streams.{Near}

-- a new session under Standard
abbrev pub standing : Session
standing = record fresh { profile = Standard }

-- a number that is no request's, 600: it, no flag but the version's, and eight bytes
abbrev pub unserved_request : List ℕ
unserved_request = 88 ∷ 2 ∷ 0 ∷ 0 ∷ 1 ∷ 0 ∷ 0 ∷ 0 ∷ 8 ∷ 0 ∷ 0 ∷ 0 ∷ replicate 8 0

-- it, and then the device is claimed
abbrev pub two_requests : List ℕ
two_requests = unserved_request ++ owner_request

-- a link in memory that holds them, with these cuts
abbrev pub holding_two : List Cut → Ends
holding_two cuts = record (empty cuts) { pending = plain two_requests }

-- The device refused the first, nothing was written, and the second was served: nothing is left, and the device has an owner.
pub record GoesOn (device : Device) (old : Near) (answers : List (Result ⊤ declared.Error)) (new : Near) (s : Session) (now : Device) : Type 0 where
  pub answered : map (λ a. seen_result a) answers ≡ Err (InvalidOperation (codes "request not served")) ∷ Ok tt ∷ []
  pub written : new.link.sent ≡ old.link.sent
  pub left : stream new ≡ []
  pub session : s ≡ standing
  pub owned : now ≡ record device { owned = true }
