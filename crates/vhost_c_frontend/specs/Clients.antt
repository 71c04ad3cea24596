-- What follows of the calls of a session for one that owns its backend again and again.
use Rattle.std.specs.Prelude.{◌≡◌, ℕ, zero, suc, List, [], ◌∷◌, ◌++◌, None, Result, Ok, Err, ⊤}
use Rattle.vhost_protocol.specs.FrontendCall.{new_frontend}
use Rattle.vhost_protocol.specs.Stream.{Cell, plain}
use Rattle.vhost_protocol.specs.declared.profile.Profile.{Profile}
use Rattle.vhost_link.specs.declared.plain.PlainHandle.{PlainHandle}
use Rattle.vhost_frontend_core.specs.Frontend.{endpoint_of}
use Rattle.vhost_c_common.specs.Memory.{WantsMemory}
use Rattle.vhost_c_common.specs.declared.refusal.Refusal.{Refusal}
use Rattle.vhost_c_frontend.specs.Session.{queued, remembers}
use Rattle.vhost_c_frontend.specs.declared.session.Session.{Session}

-- what is sent to own a backend
abbrev pub own : List (Cell PlainHandle)
own = plain (3 ∷ 0 ∷ 0 ∷ 0 ∷ 1 ∷ 0 ∷ 0 ∷ 0 ∷ 0 ∷ 0 ∷ 0 ∷ 0 ∷ [])

-- what is sent to own it so often
abbrev pub owns : ℕ → List (Cell PlainHandle)
owns zero = []
owns (suc n) = owns n ++ own

-- A session remembers what a new one does, with this profile; it awaits nothing, this is to be sent, it is sound, and no call of its link is cut.
pub record IsOwning (queues : ℕ) (profile : Profile) (cells : List (Cell PlainHandle)) (s : Session) : Type 0 where
  pub queue : queued s ≡ cells
  pub asked : s.asked ≡ None
  pub memory : remembers s ≡ record (new_frontend queues) { profile = profile }
  pub sound : (endpoint_of s.frontend).broken ≡ None
  pub uncut : (endpoint_of s.frontend).link.script ≡ []

-- Exactly this is to be sent; or memory was refused.
abbrev pub Owns : ℕ → Profile → List (Cell PlainHandle) → Result ⊤ Refusal → Session → Type 0
Owns queues profile cells (Ok done) s = IsOwning queues profile cells s
Owns queues profile cells (Err r) s = WantsMemory r
