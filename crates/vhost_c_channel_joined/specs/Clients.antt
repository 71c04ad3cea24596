-- What follows of the calls of a device's session for one that reports changes of the configuration space; of those of a frontend's for one that hears of them; and of those of a session with a display for one that gives a screen its size.
use Rattle.std.specs.Prelude.{◌≡◌, ℕ, zero, suc, true, false, List, [], ◌∷◌, ◌++◌, None, Result, Ok, Err, ⊤}
use Rattle.vhost_protocol.specs.Stream.{Cell, plain}
use Rattle.vhost_link.specs.declared.plain.PlainHandle.{PlainHandle}
use Rattle.vhost_frontend_req_handler.specs.Core as core
use Rattle.vhost_c_common.specs.Memory.{WantsMemory}
use Rattle.vhost_c_common.specs.declared.refusal.Refusal.{Refusal}
use Rattle.vhost_c_channel.specs.Asking.{endpoint_of, queued, remembers}
use Rattle.vhost_c_channel.specs.Display as display
use Rattle.vhost_c_channel.specs.Serving as serving
use Rattle.vhost_c_channel.specs.declared.asking.Channel.{Channel}
use Rattle.vhost_c_channel.specs.declared.display.Display.{Display}
use Rattle.vhost_c_channel.specs.declared.serving.ChannelServer.{ChannelServer}

-- ---- changes are reported

-- what is sent to report one change
abbrev pub report : List (Cell PlainHandle)
report = plain (2 ∷ 0 ∷ 0 ∷ 0 ∷ 1 ∷ 0 ∷ 0 ∷ 0 ∷ 0 ∷ 0 ∷ 0 ∷ 0 ∷ [])

-- what is sent to report so many
abbrev pub reports : ℕ → List (Cell PlainHandle)
reports zero = []
reports (suc n) = reports n ++ report

-- A session may report changes and awaits nothing, this is to be sent, it is sound, and no call of its link is cut.
pub record IsReporting (cells : List (Cell PlainHandle)) (s : Channel) : Type 0 where
  pub queue : queued s ≡ cells
  pub asked : s.asked ≡ None
  pub memory : remembers s ≡ record { reply_ack = false; shared_object = false; shmem = false; config_change = true; failed = None }
  pub sound : (endpoint_of s).broken ≡ None
  pub uncut : (endpoint_of s).link.script ≡ []

-- Exactly this is to be sent; or memory was refused.
abbrev pub Reports : List (Cell PlainHandle) → Result ⊤ Refusal → Channel → Type 0
Reports cells (Ok done) s = IsReporting cells s
Reports cells (Err r) s = WantsMemory r

-- ---- changes are heard of

-- what is sent to acknowledge one
abbrev pub acknowledgement : List (Cell PlainHandle)
acknowledgement = plain (2 ∷ 0 ∷ 0 ∷ 0 ∷ 5 ∷ 0 ∷ 0 ∷ 0 ∷ 8 ∷ 0 ∷ 0 ∷ 0 ∷ 0 ∷ 0 ∷ 0 ∷ 0 ∷ 0 ∷ 0 ∷ 0 ∷ 0 ∷ [])

-- what is sent to acknowledge so many
abbrev pub acknowledgements : ℕ → List (Cell PlainHandle)
acknowledgements zero = []
acknowledgements (suc n) = acknowledgements n ++ acknowledgement

-- A session acknowledges requests, no call is to be replied to, nothing came, this is to be sent, it is sound, and no call of its link is cut.
pub record IsHearing (cells : List (Cell PlainHandle)) (s : ChannelServer) : Type 0 where
  pub queue : serving.queued s ≡ cells
  pub came : serving.arrived s ≡ []
  pub count : s.incoming.count ≡ 0
  pub idle : serving.has_call s ≡ false
  pub memory : serving.remembers s ≡ record { reply_ack = true; failed = None }
  pub sound : (core.endpoint_of s.core).broken ≡ None
  pub uncut : (core.endpoint_of s.core).link.script ≡ []

-- Exactly this is to be sent; or memory was refused.
abbrev pub Hears : List (Cell PlainHandle) → Result ⊤ Refusal → ChannelServer → Type 0
Hears cells (Ok done) s = IsHearing cells s
Hears cells (Err r) s = WantsMemory r

-- ---- a screen is given its size

-- what is sent to give the first screen a size of 2 by 2 pixels
abbrev pub size : List (Cell PlainHandle)
size = plain (7 ∷ 0 ∷ 0 ∷ 0 ∷ 0 ∷ 0 ∷ 0 ∷ 0 ∷ 12 ∷ 0 ∷ 0 ∷ 0 ∷ 0 ∷ 0 ∷ 0 ∷ 0 ∷ 2 ∷ 0 ∷ 0 ∷ 0 ∷ 2 ∷ 0 ∷ 0 ∷ 0 ∷ [])

-- what is sent to do so this often
abbrev pub sizes : ℕ → List (Cell PlainHandle)
sizes zero = []
sizes (suc n) = sizes n ++ size

-- A session awaits nothing, this is to be sent, it is sound and not marked as failed, and no call of its link is cut.
pub record IsSizing (cells : List (Cell PlainHandle)) (s : Display) : Type 0 where
  pub queue : display.queued s ≡ cells
  pub asked : s.asked ≡ None
  pub mark : display.mark_of s ≡ None
  pub sound : (display.endpoint_of s).broken ≡ None
  pub uncut : (display.endpoint_of s).link.script ≡ []

-- Exactly this is to be sent; or memory was refused.
abbrev pub Sizes : List (Cell PlainHandle) → Result ⊤ Refusal → Display → Type 0
Sizes cells (Ok done) s = IsSizing cells s
Sizes cells (Err r) s = WantsMemory r
