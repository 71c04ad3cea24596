-- Worked rows on how a stream is cut: each holds by computing.
use Rattle.std.proofs.Common.{◌≡◌, ℕ, true, false, List, [], ◌∷◌, ◌++◌, replicate, Result, Ok, Err, refl}
use Rattle.vhost_message.specs.HeardReq.{request_of}
use Rattle.vhost_message.specs.declared.heard_req.HeardReq.{HeardReq}
use Rattle.vhost_message.specs.declared.heard_req.HeardReq.TheVariants.{SET_FEATURES, OTHER}
use Rattle.vhost_protocol.specs.Codes.{allows_handles}
use Rattle.vhost_protocol.specs.Error.{Error, Disconnected, PartialMessage, InvalidMessage}
use Rattle.vhost_protocol.specs.declared.profile.Profile.{Profile}
use Rattle.vhost_protocol.specs.declared.profile.Profile.TheVariants.{Vhost, Standard}
use Rattle.vhost_protocol.specs.Session.{fresh, heard_in}
use Rattle.vhost_protocol.specs.Split.{Message, split, split_after, split_body, body_outcome}
use Rattle.vhost_protocol.specs.Stream.{Cell, plain, carrying}

-- the first message of a stream of the frontend, with numbers for handles
cut : List (Cell ℕ) → Result (Message HeardReq ℕ) Error × List (Cell ℕ)
cut = split request_of allows_handles

empty_stream : cut [] ≡ (Err Disconnected, [])
unfolding cut split
empty_stream = refl

eleven_bytes : cut (plain (replicate 11 1)) ≡ (Err PartialMessage, [])
unfolding cut split
eleven_bytes = refl

features : List ℕ
features = 2 ∷ 0 ∷ 0 ∷ 0 ∷ 1 ∷ 0 ∷ 0 ∷ 0 ∷ 8 ∷ 0 ∷ 0 ∷ 0 ∷ []

value : List ℕ
value = 3 ∷ 0 ∷ 0 ∷ 0x40 ∷ 0 ∷ 0 ∷ 0 ∷ 0 ∷ []

whole : cut (plain (features ++ value ++ 7 ∷ [])) ≡ (Ok (record { request = SET_FEATURES; reply = false; need_reply = false; body = value; handles = [] }), plain (7 ∷ []))
unfolding cut split split_after split_body body_outcome features value
whole = refl

half_a_body : cut (plain (features ++ 3 ∷ 0 ∷ 0 ∷ [])) ≡ (Err InvalidMessage, [])
unfolding cut split split_after split_body body_outcome features value
half_a_body = refl

-- handles that the code does not want: the body stays
unwanted : cut (carrying (7 ∷ []) (features ++ value)) ≡ (Err InvalidMessage, plain value)
unfolding cut split split_after split_body body_outcome features value
unwanted = refl

-- a handle on the first byte of the body: the body is read
strayed : cut (plain features ++ carrying (7 ∷ []) value) ≡ (Err InvalidMessage, [])
unfolding cut split split_after split_body body_outcome features value
strayed = refl

-- ---- a number that is no request's

-- the stream of a session with this behaviour
cut_by : Profile → List (Cell ℕ) → Result (Message HeardReq ℕ) Error × List (Cell ℕ)
cut_by profile = split (heard_in (record fresh { profile = profile })) allows_handles

nameless : List ℕ
nameless = 45 ∷ 0 ∷ 0 ∷ 0 ∷ 9 ∷ 0 ∷ 0 ∷ 0 ∷ 8 ∷ 0 ∷ 0 ∷ 0 ∷ []

-- it is heard whole, with its handles
heard_whole : cut_by Standard (carrying (7 ∷ []) (nameless ++ value ++ 7 ∷ [])) ≡ (Ok (record { request = OTHER 45; reply = false; need_reply = true; body = value; handles = 7 ∷ [] }), plain (7 ∷ []))
unfolding cut_by split split_after split_body body_outcome nameless value
heard_whole = refl

-- as the crate `vhost` does it, its body stays
unheard : cut_by Vhost (plain (nameless ++ value)) ≡ (Err InvalidMessage, plain value)
unfolding cut_by split split_after split_body body_outcome nameless value
unheard = refl

-- a number that has a name is heard alike
heard_named : cut_by Standard (plain (features ++ value)) ≡ cut (plain (features ++ value))
unfolding cut cut_by split split_after split_body body_outcome features value
heard_named = refl
