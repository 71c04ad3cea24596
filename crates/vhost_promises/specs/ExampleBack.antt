-- Both sides of the reverse channel over a frontend that takes one object, step by step.
use Rattle.std.specs.Prelude.{◌≡◌, ℕ, pos, List, [], ◌∷◌, ◌++◌, map, true, None, Result, Ok, Err, if◌then◌else◌}
use Rattle.vhost_message.specs.declared.io_error.IoError as declared
use Rattle.vhost_message.specs.declared.records.shared.VhostUserSharedMsg.{VhostUserSharedMsg}
use Rattle.vhost_protocol.specs.Error.{FrontendInternalError, Raw}
use Rattle.vhost_protocol.specs.IoError.{IoError, Because, Of, seen_io_result}
use Rattle.vhost_protocol.specs.Reverse.{Backend, ReverseCall, SharedObjectAdd, Server}
use Rattle.vhost_link.specs.declared.plain.PlainHandle.{PlainHandle}
use Rattle.vhost_joined_reverse.specs.Joined.{View, IsReady}
use Rattle.vhost_promises.specs.Joined.{new_backend, new_server}
use Rattle.vhost_promises.specs.declared.example_back.OneObject.{OneObject}

-- the system's error 38
abbrev pub unserved : IoError
unserved = Because (Raw (pos 38))

-- it takes an object where it has none, and fails every other call
abbrev pub OneObjectGives : OneObject → ReverseCall PlainHandle → Result ℕ IoError → OneObject → Type 0
OneObjectGives old (SharedObjectAdd name) answer new = (answer ≡ (if old.taken then Err unserved else Ok 0)) × (new ≡ record { taken = true })
OneObjectGives old _ answer new = (answer ≡ Err unserved) × (new ≡ old)

-- the name of an object
abbrev pub name_bytes : List ℕ
name_bytes = 1 ∷ 2 ∷ 3 ∷ 4 ∷ 5 ∷ 6 ∷ 7 ∷ 8 ∷ 9 ∷ 10 ∷ 11 ∷ 12 ∷ 13 ∷ 14 ∷ 15 ∷ 16 ∷ []

abbrev pub name : VhostUserSharedMsg
name = record { uuid = name_bytes }

-- the request to take it: its code, the version with NEED_REPLY, sixteen bytes, and these
abbrev pub add_request : List ℕ
add_request = (6 ∷ 0 ∷ 0 ∷ 0 ∷ 9 ∷ 0 ∷ 0 ∷ 0 ∷ 16 ∷ 0 ∷ 0 ∷ 0 ∷ []) ++ name_bytes

-- the reply: its code, the version with REPLY, and a number in eight bytes
abbrev pub add_reply : List ℕ → List ℕ
add_reply number = (6 ∷ 0 ∷ 0 ∷ 0 ∷ 5 ∷ 0 ∷ 0 ∷ 0 ∷ 8 ∷ 0 ∷ 0 ∷ 0 ∷ []) ++ number

-- 0, and the negative of 38 in 64 bits
abbrev pub taken_number : List ℕ
taken_number = 0 ∷ 0 ∷ 0 ∷ 0 ∷ 0 ∷ 0 ∷ 0 ∷ 0 ∷ []

abbrev pub refused_number : List ℕ
refused_number = 0xda ∷ 0xff ∷ 0xff ∷ 0xff ∷ 0xff ∷ 0xff ∷ 0xff ∷ 0xff ∷ []

-- what both sides remember once acknowledgements and objects were agreed on
abbrev pub agreed : Backend
agreed = record new_backend { reply_ack = true; shared_object = true }

abbrev pub agreed_server : Server
agreed_server = record new_server { reply_ack = true }

-- the state of a run behind such a request: these messages, both sides agreed, in step and going on, and the frontend has an object
pub record IsAfter (number : List ℕ) (now : View OneObject) : Type 0 where
  pub request : now.request ≡ record { bytes = add_request; handles = [] }
  pub reply : now.reply ≡ record { bytes = add_reply number; handles = [] }
  pub backend : now.backend ≡ agreed
  pub server : now.server ≡ agreed_server
  pub taken : now.device ≡ record { taken = true }
  pub going : now.stopped ≡ None
  pub ready : IsReady now

-- The object was taken.
pub record Shares (answers : List (Result ℕ declared.IoError)) (now : View OneObject) : Type 0 where
  pub answered : map (λ a. seen_io_result a) answers ≡ Ok 0 ∷ Ok 0 ∷ Ok 0 ∷ []
  pub after : IsAfter taken_number now

-- Shared once more it was refused: the number says so, and the run goes on.
pub record SharesAgain (last : Result ℕ declared.IoError) (now : View OneObject) : Type 0 where
  pub answered : seen_io_result last ≡ Err (Of FrontendInternalError)
  pub after : IsAfter refused_number now
