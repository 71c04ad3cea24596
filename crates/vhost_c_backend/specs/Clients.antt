-- What follows of the calls of a session for one that offers features as often as it is asked for them.
use Rattle.std.specs.Prelude.{◌≡◌, ℕ, zero, suc, false, List, [], ◌++◌, None, Result, Ok, Err, ⊤}
use Rattle.vhost_protocol.specs.Stream.{Cell, plain}
use Rattle.vhost_link.specs.declared.plain.PlainHandle.{PlainHandle}
use Rattle.vhost_backend_req_handler.specs.Core.{endpoint_of}
use Rattle.vhost_c_common.specs.Memory.{WantsMemory}
use Rattle.vhost_c_common.specs.declared.refusal.Refusal.{Refusal}
use Rattle.vhost_c_backend.specs.Served.{arrived, has_call, new_session, queued, remembers}
use Rattle.vhost_c_backend.specs.Waiting.{features_reply}
use Rattle.vhost_c_backend.specs.declared.served.Served.{Served}

-- what is sent to offer these features
abbrev pub offer : ℕ → List (Cell PlainHandle)
offer features = plain (features_reply features)

-- what is sent to offer them so often
abbrev pub offers : ℕ → ℕ → List (Cell PlainHandle)
offers features zero = []
offers features (suc n) = offers features n ++ offer features

-- A session remembers what a new one does, but for what it offered; no call is to be replied to, nothing came, this is to be sent, it is sound, and no call of its link is cut.
pub record IsOffering (cells : List (Cell PlainHandle)) (s : Served) : Type 0 where
  pub queue : queued s ≡ cells
  pub came : arrived s ≡ []
  pub count : s.incoming.count ≡ 0
  pub idle : has_call s ≡ false
  pub offered : ℕ
  pub memory : remembers s ≡ record new_session { offered = offered }
  pub sound : (endpoint_of s.core).broken ≡ None
  pub uncut : (endpoint_of s.core).link.script ≡ []

-- Exactly this is to be sent; or memory was refused.
abbrev pub Offers : List (Cell PlainHandle) → Result ⊤ Refusal → Served → Type 0
Offers cells (Ok done) s = IsOffering cells s
Offers cells (Err r) s = WantsMemory r
