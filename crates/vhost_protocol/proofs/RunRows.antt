-- Worked runs over a stream.
use Rattle.std.proofs.Common.{◌≡◌, ℕ, suc, true, false, List, [], ◌∷◌, ◌++◌, map, Result, Ok, Err, refl}
use Rattle.vhost_protocol.specs.DeviceCall.{Call, Answer}
use Rattle.vhost_protocol.specs.Error.{Error, PartialMessage, InvalidMessage, Disconnected}
use Rattle.vhost_protocol.specs.Handler.{HandlesRequests}
use Rattle.vhost_protocol.specs.Session.{fresh}
use Rattle.vhost_protocol.specs.Split.{split, split_after, split_body, body_outcome}
use Rattle.vhost_protocol.specs.Stream.{Cell, plain, carrying, Byte, End, heard}

-- a device that counts its calls, and answers anything
counts : ℕ → (c : Call ℕ ℕ ℕ) → Answer c → ℕ → Type 0
counts old c a new = new ≡ suc old

any : ℕ → Result ℕ Error → Type 0
any h a = Unit {0}

features : List (Cell ℕ)
features = carrying (7 ∷ []) (2 ∷ 0 ∷ 0 ∷ 0 ∷ 1 ∷ 0 ∷ 0 ∷ 0 ∷ 8 ∷ 0 ∷ 0 ∷ 0 ∷ [])

value : List (Cell ℕ)
value = plain (3 ∷ 0 ∷ 0 ∷ 0x40 ∷ 0 ∷ 0 ∷ 0 ∷ 0 ∷ [])

-- handles that are not allowed leave the body unread: the next call finds a part of a message, and the one after it the next stream
unwanted : HandlesRequests {B = ℕ} {G = ℕ} counts any any fresh 0 (Err InvalidMessage ∷ Err PartialMessage ∷ Err Disconnected ∷ []) (map Byte (features ++ value) ++ End ∷ End ∷ []) [] fresh 0
unfolding split split_after split_body body_outcome features value
unwanted = (
  heard features false,
  heard value true ++ End ∷ [],
  [],
  [],
  fresh,
  0,
  (Err InvalidMessage, (features, false, refl, λ rest. refl), (refl, refl, refl, refl)),
  refl,
  refl,
  (
    heard value true,
    End ∷ [],
    [],
    [],
    fresh,
    0,
    (Err PartialMessage, (value, true, refl, (refl, λ next. refl)), (refl, refl, refl, refl)),
    refl,
    refl,
    (
      End ∷ [],
      [],
      [],
      [],
      fresh,
      0,
      (Err Disconnected, ([], true, refl, (refl, λ next. refl)), (refl, refl, refl, refl)),
      refl,
      refl,
      (refl, refl, refl, refl),
    ),
  ),
)

owner : List (Cell ℕ)
owner = plain (3 ∷ 0 ∷ 0 ∷ 0 ∷ 1 ∷ 0 ∷ 0 ∷ 0 ∷ 0 ∷ 0 ∷ 0 ∷ 0 ∷ [])

-- one call of the device, and nothing written
owned : HandlesRequests {B = ℕ} {G = ℕ} counts any any fresh 0 (Ok tt ∷ []) (map Byte owner) [] fresh 1
unfolding split split_after split_body body_outcome owner counts any
owned = (
  heard owner false,
  [],
  [],
  [],
  fresh,
  1,
  (_, (owner, false, refl, λ rest. refl), (_, (_, (Ok tt, refl, refl), refl), refl, refl, refl)),
  refl,
  refl,
  (refl, refl, refl, refl),
)
