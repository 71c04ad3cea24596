-- What the calls of the backend channel's sessions answer to C.
use Rattle.std.specs.Prelude.{◌≡◌, ℕ, Bool, Option, Some, None, Result, Ok, ⊤}
use Rattle.vhost_protocol.specs.Reverse.{ReverseCall}
use Rattle.vhost_link.specs.declared.plain.PlainHandle.{PlainHandle}
use Rattle.vhost_c_common.specs.ByNumber.{By}
use Rattle.vhost_c_common.specs.declared.refusal.Refusal.{Refusal}
use Rattle.vhost_c_channel.specs.Asking as asking
use Rattle.vhost_c_channel.specs.Asking.{Agrees, Asking}
use Rattle.vhost_c_channel.specs.Serving as serving
use Rattle.vhost_c_channel.specs.Serving.{Acknowledges}
use Rattle.vhost_c_channel.specs.declared.asking.Channel.{Channel}
use Rattle.vhost_c_channel.specs.declared.asking.Feature.{Feature}
use Rattle.vhost_c_channel.specs.declared.serving.ChannelServer.{ChannelServer}

-- ---- a device's session

-- A session was opened; or there was one; or memory was refused.
pub data OpensChannel : Option Channel → ℕ → Option Channel → Type 0 where
  opened : {s : Channel} → asking.IsNew s → OpensChannel None 0 (Some s)
  was_open : {s : Channel} → OpensChannel (Some s) 102 (Some s)
  no_room : OpensChannel None 24 None

-- what both sides agreed on is kept
abbrev pub Agreeing : Feature → Bool → Channel → Result ⊤ Refusal → Channel → Type 0
Agreeing f on s outcome s' = (outcome ≡ Ok tt) × Agrees f on s s'

-- how many bytes can be told to be missing, where there is a session
abbrev pub missing_at : Option Channel → ℕ
missing_at None = 0
missing_at (Some s) = asking.missing_of s

-- an ask of C
abbrev pub AsksBy : ReverseCall PlainHandle → Option Channel → ℕ → Option Channel → Type 0
AsksBy c = By (Asking c)

-- An ask whose arguments may be such that no call can be made of them: then it is refused, 1.
pub data AsksUnless (bad : Type 0) (c : ReverseCall PlainHandle) (old : Option Channel) (n : ℕ) (new : Option Channel) : Type 0 where
  asks : AsksBy c old n new → AsksUnless bad c old n new
  refuses : bad → n ≡ 1 → new ≡ old → AsksUnless bad c old n new

-- An ask with a descriptor: where there is none, it is refused as one with an argument that is not allowed.
abbrev pub AsksWith : Option PlainHandle → (PlainHandle → Option Channel → ℕ → Option Channel → Type 0) → Option Channel → ℕ → Option Channel → Type 0
AsksWith (Some h) does old n new = does h old n new
AsksWith None does old n new = (n ≡ 1) × (new ≡ old)

-- ---- a frontend's session

-- A session was opened; or there was one; or memory was refused.
pub data OpensServer : Option ChannelServer → ℕ → Option ChannelServer → Type 0 where
  opened : {s : ChannelServer} → serving.IsNew s → OpensServer None 0 (Some s)
  was_open : {s : ChannelServer} → OpensServer (Some s) 102 (Some s)
  no_room : OpensServer None 24 None

-- whether requests are replied to is kept
abbrev pub Acknowledging : Bool → ChannelServer → Result ⊤ Refusal → ChannelServer → Type 0
Acknowledging on s outcome s' = (outcome ≡ Ok tt) × Acknowledges on s s'

-- how many bytes can be told to be missing, where there is a session
abbrev pub missing_of_server : Option ChannelServer → ℕ
missing_of_server None = 0
missing_of_server (Some s) = serving.missing_of s
