-- How a reply with configuration bytes is received.
use Rattle.std.specs.Prelude.{◌≡◌, ℕ, ◌+◌, List, [], ◌++◌, length, drop, Option, Some, None, Bool, true, false, ◌&&◌, ◌==◌, Result, Ok, Err, Vec}
use Rattle.std.specs.Global.{Global}
use Rattle.vhost_message.specs.declared.error.Error as declared
use Rattle.vhost_message.specs.declared.error.Error.TheVariants as code
use Rattle.vhost_message.specs.declared.records.config.VhostUserConfig.{VhostUserConfig}
use Rattle.vhost_message.specs.declared.heard_req.HeardReq.{HeardReq}
use Rattle.vhost_message.specs.declared.header.VhostUserMsgHeader.{VhostUserMsgHeader}
use Rattle.vhost_message.specs.Header.{Header}
use Rattle.vhost_message.specs.MsgHeader.{fields_of}
use Rattle.vhost_message.specs.Records.{config_of}
use Rattle.vhost_protocol.specs.declared.profile.Profile.{Profile}
use Rattle.vhost_protocol.specs.Stream.{has_some}
use Rattle.vhost_protocol.specs.Error.{seen}
use Rattle.vhost_protocol.specs.ReplySplit.{Received}
use Rattle.vhost_protocol.specs.Take.{answers, config_cut}
use Rattle.vhost_link.specs.Law.{Event}
use Rattle.vhost_connection.specs.Talk.{State}
use Rattle.vhost_connection.specs.Calls.{HandsOver}
use Rattle.vhost_connection.specs.Hearing.{HearsReply, Fails}
use Rattle.vhost_connection.specs.Whole.{ReadsNone}

-- a reply has so many configuration bytes, as its header and its bytes say
abbrev pub is_part : {H : Type 0} → (room : ℕ) → Received H → Bool
is_part room r = r.header.size == 12 + room && length r.payload == room

-- it answers the request, too
abbrev pub is_reply_of : {H : Type 0} → (sent : Header) → (room : ℕ) → Received H → Bool
is_reply_of sent room r = answers sent r.header && is_part room r

-- the part of the configuration space that was asked for, of so many bytes
abbrev pub is_asked : VhostUserConfig → ℕ → VhostUserConfig → Bool
is_asked asked count part = part.offset == asked.offset && part.size == asked.size && part.size == count

module _ {L H : Type 0} (event : L → Event H → L → Type 0) (profile : Profile) where
  -- A reply with configuration bytes is received, whether or not it answers the request, or one that has none.
  abbrev pub ReadsBytes : (sent : Header) → State L H → List ℕ → Result (Option (VhostUserMsgHeader HeardReq × VhostUserConfig × ℕ × Option (Vec H Global))) declared.Error → List ℕ → State L H → Type 0
  ReadsBytes sent old before (Ok None) after new = HearsReply event (config_cut profile sent (length before)) old (Ok None) new
  ReadsBytes sent old before (Ok (Some x)) after new =
      (reply : Received H) × HearsReply event (config_cut profile sent (length before)) old (Ok (Some reply)) new × (reply.header ≡ fields_of x.0) × (x.1 ≡ config_of reply.body)
      × (x.2 ≡ length reply.payload) × (after ≡ reply.payload ++ drop x.2 before) × HandsOver x.3 reply.handles
  ReadsBytes sent old before (Err e) after new = ReadsNone event (config_cut profile sent (length before)) old e new

  -- A reply with so many configuration bytes and without a handle is received, and they lie in the room; or another reply comes, or a bare one, or none.
  pub data RecvsConfig (room : ℕ) (old : State L H) (sent : Header) : Result VhostUserConfig declared.Error → List ℕ → State L H → Type 0 where
    came : (reply : Received H) {part : VhostUserConfig} {after : List ℕ} {new : State L H} → HearsReply event (config_cut profile sent room) old (Ok (Some reply)) new → is_reply_of sent room reply ≡ true
        → reply.handles ≡ [] → part ≡ config_of reply.body → after ≡ reply.payload → RecvsConfig room old sent (Ok part) after new
    unfit : (reply : Received H) {after : List ℕ} {new : State L H} → HearsReply event (config_cut profile sent room) old (Ok (Some reply)) new → is_reply_of sent room reply ≡ false
        → RecvsConfig room old sent (Err code.InvalidMessage) after new
    crowded : (reply : Received H) {after : List ℕ} {new : State L H} → HearsReply event (config_cut profile sent room) old (Ok (Some reply)) new → is_reply_of sent room reply ≡ true
        → has_some reply.handles ≡ true → RecvsConfig room old sent (Err code.InvalidMessage) after new
    bare : {after : List ℕ} {new : State L H} → HearsReply event (config_cut profile sent room) old (Ok None) new → RecvsConfig room old sent (Err code.BackendInternalError) after new
    none : {e : declared.Error} {after : List ℕ} {new : State L H} → HearsReply event (config_cut profile sent room) old (Err (seen e)) new → RecvsConfig room old sent (Err e) after new
    failed : {e : declared.Error} {after : List ℕ} {new : State L H} → Fails event old true e new → RecvsConfig room old sent (Err e) after new
