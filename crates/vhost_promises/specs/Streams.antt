-- What a handler makes of a stream that is known, however its link is cut.
use Rattle.std.specs.Prelude.{◌≡◌, ℕ, List, [], ◌∷◌, Option, None, false, ℤ, Result, Err}
use Rattle.vhost_message.specs.declared.error.Error as declared
use Rattle.vhost_protocol.specs.Error.{Error, seen_result}
use Rattle.vhost_protocol.specs.Stream.{Cell}
use Rattle.vhost_link.specs.Ends.{Ends}
use Rattle.vhost_link.specs.declared.plain.PlainHandle.{PlainHandle}
use Rattle.vhost_connection.specs.Memory.{stream}
use Rattle.vhost_connection.specs.Talk.{State}
use Rattle.vhost_promises.specs.Runs.{answer_of_link}

-- an endpoint over a link in memory
abbrev pub Near : Type 0
Near = State Ends PlainHandle

-- A call found no message: this is its answer, this is left of the stream, and nothing was written or changed.
pub record FindsNone {S Dev A : Type 0} (e : Error) (rest : List (Cell PlainHandle)) (old : Near) (s : S) (d : Dev) (result : Result A declared.Error) (new : Near) (s' : S) (d' : Dev) : Type 0 where
  pub answered : seen_result result ≡ Err e
  pub left : stream new ≡ rest
  pub written : new.link.sent ≡ old.link.sent
  pub session : s' ≡ s
  pub device : d' ≡ d

-- So does a call of a session that is not marked as failed, unless its answer is an error that a link or want of memory may bring.
abbrev pub Refuses : {S Dev A : Type 0} → Option ℤ → Error → List (Cell PlainHandle) → Near → S → Dev → Result A declared.Error → Near → S → Dev → Type 0
Refuses failed e rest old s d result new s' d' = failed ≡ None → answer_of_link result ≡ false → FindsNone e rest old s d result new s' d'

-- ---- streams without a message

-- less than a header
abbrev pub in_header : List ℕ
in_header = 2 ∷ 0 ∷ 0 ∷ 0 ∷ 1 ∷ []

-- the header of SET_FEATURES, and three of the eight bytes that it announces
abbrev pub in_body : List ℕ
in_body = 2 ∷ 0 ∷ 0 ∷ 0 ∷ 1 ∷ 0 ∷ 0 ∷ 0 ∷ 8 ∷ 0 ∷ 0 ∷ 0 ∷ 1 ∷ 2 ∷ 3 ∷ []

-- the header of SET_OWNER in version 2
abbrev pub other_version : List ℕ
other_version = 3 ∷ 0 ∷ 0 ∷ 0 ∷ 2 ∷ 0 ∷ 0 ∷ 0 ∷ 0 ∷ 0 ∷ 0 ∷ 0 ∷ []

-- of a device's requests: the header of SHARED_OBJECT_ADD, and three of its sixteen bytes
abbrev pub in_body_back : List ℕ
in_body_back = 6 ∷ 0 ∷ 0 ∷ 0 ∷ 1 ∷ 0 ∷ 0 ∷ 0 ∷ 16 ∷ 0 ∷ 0 ∷ 0 ∷ 1 ∷ 2 ∷ 3 ∷ []

-- the header of CONFIG_CHANGE_MSG in version 2
abbrev pub other_version_back : List ℕ
other_version_back = 2 ∷ 0 ∷ 0 ∷ 0 ∷ 2 ∷ 0 ∷ 0 ∷ 0 ∷ 0 ∷ 0 ∷ 0 ∷ 0 ∷ []
