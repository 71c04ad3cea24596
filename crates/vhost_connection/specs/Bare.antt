-- A reply with configuration bytes comes in, or a bare one.
use Rattle.std.specs.Prelude.{◌≡◌, ℕ, ◌≤◌, List, length, Option, Some, None, Bool, true, false, ◌&&◌, is_some, Result, Ok, Err, Vec}
use Rattle.std.specs.Global.{Global}
use Rattle.vhost_message.specs.declared.error.Error.{Error}
use Rattle.vhost_message.specs.declared.header.VhostUserMsgHeader.{VhostUserMsgHeader}
use Rattle.vhost_message.specs.declared.records.config.VhostUserConfig.{VhostUserConfig}
use Rattle.vhost_message.specs.Header.{Header, header_of, is_valid_header, is_reply_for}
use Rattle.vhost_message.specs.MsgHeader.{fields_of, of_fields}
use Rattle.vhost_message.specs.Records.{config_of}
use Rattle.vhost_message.specs.Valid.{is_valid_config}
use Rattle.vhost_protocol.specs.Stream.{Cell}
use Rattle.vhost_protocol.specs.ReplySplit.{is_bare_reply}
use Rattle.vhost_link.specs.Law.{Event}
use Rattle.vhost_connection.specs.Talk.{State}
use Rattle.vhost_connection.specs.Calls.{ReadsPayload}
use Rattle.vhost_connection.specs.Came.{Came, Alone}

-- A bare reply to a request, whose header this is: the codes are those of the channel.
abbrev pub is_bare : {R H : Type 0} → (ℕ → Option R) → Header → List (Cell H) → Bool
is_bare code request cs = is_bare_reply (λ h. is_some (code h.code) && is_valid_header h) (λ h. is_reply_for code h request) cs

module _ {R L H : Type 0} (event : L → Event H → L → Type 0) (code : ℕ → Option R) where
  -- a header and a configuration record come in, and then what fits into the room, up to the end
  abbrev pub ReadsConfig : State L H → List ℕ → Result (VhostUserMsgHeader R × VhostUserConfig × ℕ × Option (Vec H Global)) Error → List ℕ → State L H → Type 0
  ReadsConfig = ReadsPayload event (λ bs. of_fields (header_of bs)) (λ h. is_some (code (fields_of h).code) && is_valid_header (fields_of h)) 12 config_of is_valid_config

  -- The 24 cells of a bare reply come in, and nothing behind them; or what comes is not bare, and is read on.
  abbrev pub ReadsOrBare : Header → State L H → List ℕ → Result (Option (VhostUserMsgHeader R × VhostUserConfig × ℕ × Option (Vec H Global))) Error → List ℕ → State L H → Type 0
  ReadsOrBare request old before (Ok None) after new = (cs : List (Cell H)) × Came event old Alone 24 cs true new × (length cs ≡ 24) × (is_bare code request cs ≡ true) × (after ≡ before)
  ReadsOrBare request old before (Ok (Some x)) after new = (p : ReadsConfig old before (Ok x) after new) × (is_bare code request p.0 ≡ false)
  ReadsOrBare request old before (Err e) after new = (p : ReadsConfig old before (Err e) after new) × (24 ≤ length p.0 → is_bare code request p.0 ≡ false)
