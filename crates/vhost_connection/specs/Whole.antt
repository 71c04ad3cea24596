-- A reply comes in by its header: that, and as many bytes as it announces.
use Rattle.std.specs.Prelude.{◌≡◌, ℕ, ◌+◌, List, ◌++◌, length, take, drop, Option, Some, None, Bool, true, false, ◌&&◌, is_some, Result, Ok, Err, Vec}
use Rattle.std.specs.Global.{Global}
use Rattle.vhost_message.specs.declared.error.Error as declared
use Rattle.vhost_message.specs.declared.error.Error.TheVariants as code
use Rattle.vhost_message.specs.declared.header.VhostUserMsgHeader.{VhostUserMsgHeader}
use Rattle.vhost_message.specs.declared.records.config.VhostUserConfig.{VhostUserConfig}
use Rattle.vhost_message.specs.Header.{Header, header_of, is_valid_header, is_reply_for}
use Rattle.vhost_message.specs.MsgHeader.{fields_of, of_fields}
use Rattle.vhost_message.specs.Records.{config_of}
use Rattle.vhost_message.specs.Valid.{is_valid_config}
use Rattle.vhost_protocol.specs.Error.{Error, PartialMessage, InvalidMessage}
use Rattle.vhost_protocol.specs.ReplySplit.{Received, whole_split, has_size, has_config_size, sized_or_none}
use Rattle.vhost_protocol.specs.Stream.{Cell, bytes, first_handles}
use Rattle.vhost_link.specs.Law.{Event}
use Rattle.vhost_connection.specs.Asking.{is_known_by, Comes, Missing}
use Rattle.vhost_connection.specs.Calls.{HandsOver}
use Rattle.vhost_connection.specs.Came.{Came, CutShort, GoesOn, Alone}
use Rattle.vhost_connection.specs.Hearing.{HearsReply}
use Rattle.vhost_connection.specs.Talk.{State}
use Rattle.vhost_connection.specs.declared.endpoint.whole.Sizes.{Sizes}
use Rattle.vhost_connection.specs.declared.endpoint.whole.Sizes.TheVariants.{Any, One, Config}
use Rattle.vhost_connection.specs.declared.list.Front.{Front}

-- the valid headers that say a size which the reply may have
abbrev pub sized_by : (Header → Bool) → Sizes → Header → Bool
sized_by is_known Any = is_known
sized_by is_known (One front room) = has_size is_known (front + room)
sized_by is_known (Config room) = has_config_size is_known room

-- These cells are a whole reply: its header was read from them and is awaited, and its body lies at the front of the text.
pub record IsWhole {R H : Type 0} (is_awaited : Header → Bool) (cs : List (Cell H)) (h : VhostUserMsgHeader R) (hs : List H) (text : List ℕ) : Type 0 where
  pub header : h ≡ of_fields (header_of (take 12 (bytes cs)))
  pub known : is_awaited (fields_of h) ≡ true
  pub size : length cs ≡ 12 + (fields_of h).size
  pub handles : hs ≡ first_handles cs
  pub body : take (fields_of h).size text ≡ drop 12 (bytes cs)

-- Behind the front of a message so many bytes come in, or fewer and then the end, with the retries that its front has left: they lie at the front of the text.
abbrev pub ReadsBehind : {L H : Type 0} → (L → Event H → L → Type 0) → State L H → (left len : ℕ) → Result ℕ declared.Error → List ℕ → State L H → Type 0
ReadsBehind {H = H} event old left len (Ok n) text new = (cs : List (Cell H)) × (take n text ≡ bytes cs) × (n ≡ length cs) × (new.left ≡ old.left)
    × (rest : ℕ) × Came event (record old { left = left }) GoesOn len cs old.list (record new { left = rest })
ReadsBehind {H = H} event old left len (Err e) text new = (cs : List (Cell H)) × CutShort event (record old { left = left }) GoesOn len cs e new

-- No reply came in: the end came first, or what came is none, and the endpoint has its list of handles then; or there was trouble.
pub data ReadsNone {A L H : Type 0} (event : L → Event H → L → Type 0) (cut : List (Cell H) → Result A Error × List (Cell H)) (old : State L H) : declared.Error → State L H → Type 0 where
  ended : {new : State L H} → HearsReply event cut old (Err PartialMessage) new → new.list ≡ true → ReadsNone event cut old code.PartialMessage new
  refused : {new : State L H} → HearsReply event cut old (Err InvalidMessage) new → new.list ≡ true → ReadsNone event cut old code.InvalidMessage new
  short : {e : declared.Error} {new : State L H} (len : ℕ) (cs : List (Cell H)) → CutShort event old Alone len cs e new → ReadsNone event cut old e new

-- A whole reply comes in, if its header is awaited. The list of handles is given away.
abbrev pub ReadsWhole : {R L H : Type 0} → (L → Event H → L → Type 0) → (is_awaited : Header → Bool) → State L H → Result (VhostUserMsgHeader R × Front H) declared.Error → List ℕ → State L H → Type 0
ReadsWhole {H = H} event is_awaited old (Ok x) text new = (cs : List (Cell H)) × Came event old Alone (12 + (fields_of x.0).size) cs false new × IsWhole is_awaited cs x.0 x.1.list.items text
ReadsWhole event is_awaited old (Err e) text new = ReadsNone event (whole_split is_awaited) old e new

module _ {R L H : Type 0} (event : L → Event H → L → Type 0) (request_of : ℕ → Option R) where
  -- A reply of any size for a request comes in: its handles.
  abbrev pub RecvsAny : State L H → (sent : Header) → Result (Option (Vec H Global)) declared.Error → State L H → Type 0
  RecvsAny old sent (Ok hs) new = (reply : Received H) × Comes event request_of (whole_split (is_known_by request_of)) old sent reply new × HandsOver hs reply.handles
  RecvsAny old sent (Err e) new = Missing event request_of (whole_split (is_known_by request_of)) old sent e new

  -- the reply to a request for so many configuration bytes, or None where it has none
  abbrev pub bytes_cut : (sent : Header) → (room : ℕ) → List (Cell H) → Result (Option (Received H)) Error × List (Cell H)
  bytes_cut sent room cells = sized_or_none (is_known_by request_of) (λ h. is_reply_for request_of h sent) (λ bs. is_valid_config (config_of bs)) room cells

  -- A reply with as many configuration bytes as there is room for comes in, whether or not it answers the request, or one that has none.
  abbrev pub ReadsOrNone : (sent : Header) → State L H → List ℕ → Result (Option (VhostUserMsgHeader R × VhostUserConfig × ℕ × Option (Vec H Global))) declared.Error → List ℕ → State L H → Type 0
  ReadsOrNone sent old before (Ok None) after new = HearsReply event (bytes_cut sent (length before)) old (Ok None) new
  ReadsOrNone sent old before (Ok (Some x)) after new =
      (reply : Received H) × HearsReply event (bytes_cut sent (length before)) old (Ok (Some reply)) new × (reply.header ≡ fields_of x.0) × (x.1 ≡ config_of reply.body)
      × (x.2 ≡ length reply.payload) × (after ≡ reply.payload ++ drop x.2 before) × HandsOver x.3 reply.handles
  ReadsOrNone sent old before (Err e) after new = ReadsNone event (bytes_cut sent (length before)) old e new
