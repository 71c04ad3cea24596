-- Worked logs: the entries before a failed premise.
use Rattle.std.proofs.Common.{◌≡◌, ℕ, true, false, [], ◌∷◌, Result, Ok, Err, refl}
use Rattle.vhost_protocol.specs.Error.{Error, PartialMessage}
use Rattle.vhost_protocol.specs.FrontendCall.{FrontendCall, GetFeatures, SetOwner, SetHdrFlags, Value, Nothing, Number}
use Rattle.vhost_protocol.specs.Log.{Entry, AreNumbered, kept_entries}

-- an entry of the second caller
entry : ℕ → FrontendCall ℕ → Result (Value ℕ) Error → Entry ℕ
entry serial call result = record { caller = 2; serial = serial; call = call; result = result }

owned : Entry ℕ
owned = entry 0 SetOwner (Ok Nothing)

offers : ℕ → ℕ → Entry ℕ
offers serial n = entry serial GetFeatures (Ok (Number n))

-- numbers count the caller's own entries
numbered : AreNumbered [] (owned ∷ record owned { caller = 5 } ∷ offers 1 0x40000000 ∷ [])
unfolding owned offers entry
numbered = (refl, (refl, (refl, tt)))

-- each premise holds: header flags without REPLY, and the same bit in all features
whole : kept_entries false (offers 0 0x40000000 ∷ entry 1 (SetHdrFlags 9) (Ok Nothing) ∷ offers 2 0x40000003 ∷ []) ≡ (offers 0 0x40000000 ∷ entry 1 (SetHdrFlags 9) (Ok Nothing) ∷ offers 2 0x40000003 ∷ [])
unfolding offers entry
whole = refl

-- header flags with REPLY
with_reply : kept_entries false (owned ∷ entry 1 (SetHdrFlags 5) (Ok Nothing) ∷ offers 2 1 ∷ []) ≡ (owned ∷ [])
unfolding owned offers entry
with_reply = refl

-- a device that offers protocol features at first, and none later
other_bit : kept_entries false (offers 0 0x40000000 ∷ owned ∷ offers 2 3 ∷ owned ∷ []) ≡ (offers 0 0x40000000 ∷ owned ∷ [])
unfolding owned offers entry
other_bit = refl

-- a fault of the link stopped the run at the last entry
stopped_last : kept_entries true (owned ∷ entry 1 GetFeatures (Err PartialMessage) ∷ []) ≡ (owned ∷ [])
unfolding owned entry
stopped_last = refl
