-- The side that asks: a request goes out, and the reply for it comes in.
use Rattle.std.specs.Prelude.{◌≡◌, ℕ, List, length, drop, Option, Bool, true, false, not, ◌++◌, Result, Ok, Err, is_some, Vec}
use Rattle.std.specs.Global.{Global}
use Rattle.vhost_message.specs.declared.error.Error as declared
use Rattle.vhost_message.specs.declared.error.Error.TheVariants as code
use Rattle.vhost_message.specs.declared.header.VhostUserMsgHeader.{VhostUserMsgHeader}
use Rattle.vhost_message.specs.Bits.{has_bit}
use Rattle.vhost_message.specs.Header.{Header, is_reply_for}
use Rattle.vhost_message.specs.MsgHeader.{fields_of}
use Rattle.vhost_protocol.specs.declared.profile.Profile.{Profile}
use Rattle.vhost_protocol.specs.Error.{Error, seen}
use Rattle.vhost_protocol.specs.ReplySplit.{Received, split_by}
use Rattle.vhost_protocol.specs.Split.{announced}
use Rattle.vhost_protocol.specs.Stream.{Cell, has_some}
use Rattle.vhost_protocol.specs.Written.{Payload, Written, written_cells, head_of}
use Rattle.vhost_link.specs.Law.{Event}
use Rattle.vhost_connection.specs.Pass.{sends}
use Rattle.vhost_connection.specs.Talk.{State, Serves}
use Rattle.vhost_connection.specs.Calls.{HandsOver}
use Rattle.vhost_connection.specs.Hearing.{HearsReply, Fails}

-- a request with these flags
abbrev pub request_with : {R H : Type 0} → (flags : ℕ) → R → Payload → List H → Written R H
request_with flags r payload handles = record { request = r; reply = has_bit flags 2; need_reply = has_bit flags 3; payload = payload; handles = handles }

-- a header is known where it is valid and names a request
abbrev pub is_known_by : {R : Type 0} → (ℕ → Option R) → Header → Bool
is_known_by code h = is_some (announced code h)

-- A request went out whole, and the endpoint has its list of handles.
pub record GoesOut {R L H : Type 0} (event : L → Event H → L → Type 0) (number : R → ℕ) (w : Written R H) (old : State L H) (sent : VhostUserMsgHeader R) (new : State L H) : Type 0 where
  pub retries : ℕ
  pub serves : Serves event old old.budget (sends (written_cells number w) retries) new
  pub header : fields_of sent ≡ head_of number w
  pub list : new.list ≡ true

-- The same, or the link failed.
abbrev pub SendsRequest : {R L H : Type 0} → (L → Event H → L → Type 0) → (R → ℕ) → Written R H → State L H → Result (VhostUserMsgHeader R) declared.Error → State L H → Type 0
SendsRequest event number w old (Ok header) new = GoesOut event number w old header new
SendsRequest event number w old (Err e) new = Fails event old false e new

-- cut says how a reply is read
module _ {R L H : Type 0} (event : L → Event H → L → Type 0) (request_of : ℕ → Option R) (cut : List (Cell H) → Result (Received H) Error × List (Cell H)) where
  -- The reply for a request came.
  pub record Comes (old : State L H) (sent : Header) (reply : Received H) (new : State L H) : Type 0 where
    pub hears : HearsReply event cut old (Ok reply) new
    pub answers : is_reply_for request_of reply.header sent ≡ true
    -- the endpoint has given its list of handles away only where there were some
    pub list : new.list ≡ not (has_some reply.handles)

  -- None came: what came is no reply for the request; or there is no valid reply; or the link failed.
  pub data Missing (old : State L H) (sent : Header) : declared.Error → State L H → Type 0 where
    unfit : (r : Received H) {new : State L H} → HearsReply event cut old (Ok r) new → is_reply_for request_of r.header sent ≡ false → Missing old sent code.InvalidMessage new
    none : {e : declared.Error} {new : State L H} → HearsReply event cut old (Err (seen e)) new → new.list ≡ true → Missing old sent e new
    failed : {e : declared.Error} {new : State L H} → Fails event old true e new → Missing old sent e new

module _ {R L H : Type 0} (event : L → Event H → L → Type 0) (is_known : Header → Bool) (request_of : ℕ → Option R) (profile : Profile) where
  -- A reply is received: the size that its header says, its record, how many bytes of payload lie in the room, and its handles.
  abbrev pub RecvsReply : {T : Type 0} → ℕ → (List ℕ → T) → (T → Bool) → State L H → Header → List ℕ → Result (ℕ × T × ℕ × Option (Vec H Global)) declared.Error → List ℕ → State L H → Type 0
  RecvsReply size read valid old sent before (Ok x) after new =
      (reply : Received H) × Comes event request_of (split_by is_known profile size (λ bs. valid (read bs)) (length before)) old sent reply new × (x.0 ≡ reply.header.size) × (x.1 ≡ read reply.body) × (valid x.1 ≡ true)
      × (x.2 ≡ length reply.payload) × (after ≡ reply.payload ++ drop x.2 before) × HandsOver x.3 reply.handles
  RecvsReply size read valid old sent before (Err e) after new = Missing event request_of (split_by is_known profile size (λ bs. valid (read bs)) (length before)) old sent e new
