-- A session between two requests, and with one that was read.
use Rattle.std.specs.Prelude.{◌≡◌, ℕ, List, [], ◌∷◌, Option, None, Ok}
use Rattle.std.specs.Option.{IsSomeAnd}
use Rattle.vhost_message.specs.Text.{digits}
use Rattle.vhost_protocol.specs.Codes.{allows_handles}
use Rattle.vhost_protocol.specs.Session.{Session, heard_in}
use Rattle.vhost_protocol.specs.Split.{split}
use Rattle.vhost_protocol.specs.Stream.{Cell, plain}
use Rattle.vhost_link.specs.declared.plain.PlainHandle.{PlainHandle}
use Rattle.vhost_c_backend.specs.Calls.{asked_number}
use Rattle.vhost_c_backend.specs.Served.{arrived, queued, remembers}
use Rattle.vhost_c_backend.specs.Serving.{Request, row, IsServed}
use Rattle.vhost_c_backend.specs.declared.served.Served.{Served}

-- Nothing of a request waits to be read, this is remembered, and this is to be sent.
pub record IsWaiting (kept : Session) (cells : List (Cell PlainHandle)) (s : Served) : Type 0 where
  pub came : arrived s ≡ []
  pub memory : remembers s ≡ kept
  pub queue : queued s ≡ cells

-- A message was read; this is the number of what its row asks.
pub record HasRead (m : Request) (memory : Session) (queue : List (Cell PlainHandle)) (number : ℕ) (s : Served) : Type 0 where
  pub served : IsServed m s
  pub is_number : number ≡ asked_number (row memory m)
  pub waits : IsWaiting memory queue s

-- What bytes do that come and are read, where both are answered 0: if they are one message, it was read, whatever was remembered and was to be sent.
abbrev pub Comes : List ℕ → Option Served → ℕ × ℕ → ℕ → Option Served → Type 0
Comes text old n number new = (m : Request) (memory : Session) (queue : List (Cell PlainHandle)) → split (heard_in memory) allows_handles (plain text) ≡ (Ok m, []) → memory.failed ≡ None
    → IsSomeAnd old (IsWaiting memory queue) → n.0 ≡ 0 → n.1 ≡ 0 → IsSomeAnd new (HasRead m memory queue number)

-- the bytes of a request without a body
abbrev pub bare_request : ℕ → List ℕ
bare_request code = code ∷ 0 ∷ 0 ∷ 0 ∷ 1 ∷ 0 ∷ 0 ∷ 0 ∷ 0 ∷ 0 ∷ 0 ∷ 0 ∷ []

-- the bytes of the reply to the request for the features
abbrev pub features_reply : ℕ → List ℕ
features_reply n = 1 ∷ 0 ∷ 0 ∷ 0 ∷ 5 ∷ 0 ∷ 0 ∷ 0 ∷ 8 ∷ 0 ∷ 0 ∷ 0 ∷ digits 8 n
