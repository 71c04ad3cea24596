-- The example device behind a handler, over a stream of three requests.
use Rattle.std.specs.Prelude.{◌≡◌, ℕ, List, [], ◌∷◌, ◌++◌, true, Result, Ok, Err, map, codes, ⊤}
use Rattle.vhost_message.specs.declared.error.Error as declared
use Rattle.vhost_protocol.specs.Error.{InvalidOperation, seen_result}
use Rattle.vhost_protocol.specs.Session.{Session}
use Rattle.vhost_protocol.specs.Stream.{plain}
use Rattle.vhost_link.specs.Ends.{Ends, empty}
use Rattle.vhost_link.specs.declared.cut.Cut.{Cut}
use Rattle.vhost_promises.specs.Example.{Device, owner_request, serving}
use Rattle.vhost_connection.specs.Memory.{stream}
use Rattle.vhost_promises.specs.Streams.{Near}

-- the request for the features: its code, no flag but the version's, and no body
abbrev pub features_request : List ℕ
features_request = 1 ∷ 0 ∷ 0 ∷ 0 ∷ 1 ∷ 0 ∷ 0 ∷ 0 ∷ 0 ∷ 0 ∷ 0 ∷ 0 ∷ []

-- its reply: the code, REPLY, eight bytes, and these are 0x40000003
abbrev pub features_reply : List ℕ
features_reply = 1 ∷ 0 ∷ 0 ∷ 0 ∷ 5 ∷ 0 ∷ 0 ∷ 0 ∷ 8 ∷ 0 ∷ 0 ∷ 0 ∷ 3 ∷ 0 ∷ 0 ∷ 0x40 ∷ 0 ∷ 0 ∷ 0 ∷ 0 ∷ []

-- the features are asked for, the device is claimed, and claimed once more
abbrev pub three_requests : List ℕ
three_requests = features_request ++ owner_request ++ owner_request

-- a link in memory that holds them, with these cuts
abbrev pub holding : List Cut → Ends
holding cuts = record (empty cuts) { pending = plain three_requests }

-- They were served: these answers, these bytes behind what had been written, nothing left of the stream, and the device that was there, now with an owner.
pub record ServesThree (device : Device) (old : Near) (answers : List (Result ⊤ declared.Error)) (new : Near) (s : Session) (now : Device) : Type 0 where
  pub answered : map (λ a. seen_result a) answers ≡ Ok tt ∷ Ok tt ∷ Err (InvalidOperation (codes "already claimed")) ∷ []
  pub written : new.link.sent ≡ old.link.sent ++ plain features_reply
  pub left : stream new ≡ []
  pub session : s ≡ serving
  pub owned : now ≡ record device { owned = true }
