-- What a call of the channel does, step by step.
use Rattle.std.proofs.Common.{◌≡◌, ℕ, Bool, true, false, List, [], Option, Some, None, Result, Ok, Err, refl, sym, ap, subst, ◌∙◌}
use Rattle.vhost_message.specs.declared.cause.IoCause.TheVariants.{Raw}
use Rattle.std.specs.Prelude.{ℤ, if◌then◌else◌, ◌==◌, not}
use Rattle.vhost_message.specs.BackendReq.{backend_request_of}
use Rattle.vhost_message.specs.declared.backend_req.BackendReq.{BackendReq}
use Rattle.vhost_message.specs.declared.error.Error as declared
use Rattle.vhost_message.specs.declared.error.Error.TheVariants as code
use Rattle.vhost_message.specs.declared.io_error.IoError.{IoError}
use Rattle.vhost_message.specs.declared.io_error.IoError.TheVariants.{Of}
use Rattle.vhost_message.specs.Bits.{has_bit}
use Rattle.vhost_message.specs.Header.{Header}
use Rattle.vhost_message.specs.MsgHeader.{fields_of}
use Rattle.vhost_message.specs.Records.{u64_at}
use Rattle.vhost_protocol.specs.Stream.{Cell, has_some}
use Rattle.vhost_protocol.specs.Error.{Error, seen}
use Rattle.vhost_protocol.specs.IoError.{seen_io, seen_io_result}
use Rattle.vhost_protocol.specs.ReplySplit.{Received, reply_split}
use Rattle.vhost_protocol.specs.Reverse.{ReverseAsked, Backend, Refuses, Sends, sends_unless, reverse_understood, reverse_take}
use Rattle.vhost_protocol.specs.Written.{Payload}
use Rattle.vhost_link.specs.Law.{Event}
use Rattle.vhost_connection.specs.Talk.{State}
use Rattle.vhost_connection.specs.Asking.{request_with, is_known_by, Comes, Missing}
use Rattle.vhost_connection.specs.Asking.Missing.{unfit, none, failed}
use Rattle.vhost_connection.specs.Hearing.{HearsReply}
use Rattle.vhost_connection.proofs.Replies.{replies-by}
use Rattle.vhost_backend_req.specs.Asking as asking
use Rattle.vhost_backend_req.specs.Asking.{RecvsNumber, says_number, Takes, Asks, AsksFor}
use Rattle.vhost_backend_req.specs.Channel.{Channel}
use Rattle.vhost_backend_req.specs.Halves as halves
use Rattle.vhost_backend_req.specs.Halves.{Head, AsksHalf, AsksHalfFor, TakesHalf}

-- a number on the stream, with the header before it
abbrev numbers : {H : Type 0} → List (Cell H) → Result (Received H) Error × List (Cell H)
numbers cells = reply_split (is_known_by backend_request_of) 8 (λ bs. true) 0 cells

-- what a call becomes, by the flags of its request
pub sends-is : {H : Type 0} (b : Backend) (r : BackendReq) (p : Payload) (hs : List H) (flags : ℕ) (awaited : Bool) → has_bit flags 2 ≡ false → has_bit flags 3 ≡ b.reply_ack → b.reply_ack ≡ awaited
    → sends_unless None b r p hs ≡ Sends (request_with flags r p hs) awaited
sends-is b r p hs flags awaited no_reply need same = rw (no_reply, need, same) refl

module _ {L H : Type 0} {event : L → Event H → L → Type 0} {old new : Channel L H} {result : Result (Option Head) IoError} where
  -- what was agreed on is sent
  pub agreed : {on : Bool} (asked not_agreed : ReverseAsked H) → on ≡ true → AsksHalfFor event asked old result new → AsksHalfFor event (if on then asked else not_agreed) old result new
  agreed asked not_agreed is p = subst (λ (b : Bool). AsksHalfFor event (if b then asked else not_agreed) old result new) (sym is) p

  -- unless the channel was marked as failed
  pub asks-unless : (mark : Option ℤ) (b : Backend) (r : BackendReq) (p : Payload) (hs : List H) → ((n : ℤ) → mark ≡ Some n → (result ≡ Err (Of (code.SocketBroken (Raw n)))) × (new ≡ old))
      → (mark ≡ None → AsksHalfFor event (sends_unless None b r p hs) old result new) → AsksHalfFor event (sends_unless mark b r p hs) old result new
  asks-unless (Some n) b r p hs stays sends =
      let s = stays n refl in
      subst (λ (x : Channel L H). AsksHalfFor event (Refuses (seen_io (Of (code.SocketBroken (Raw n))))) old result x) (sym s.1)
      (subst (λ (x : Result (Option Head) IoError). AsksHalfFor event (Refuses (seen_io (Of (code.SocketBroken (Raw n))))) old x old) (sym s.0) (halves.refuses refl, refl))
  asks-unless None b r p hs stays sends = sends refl

module _ {L H : Type 0} (event : L → Event H → L → Type 0) (asked : ReverseAsked H) where
  unsent-half : {old new : State L H} (e : IoError) → AsksHalf event asked old (Err e) new → Asks event asked old (Err e) new
  unsent-half _ (halves.refuses is) = asking.refused is
  unsent-half _ (halves.fails is f) = asking.unsent is f

  takes-half : (mid : State L H) (result : Result ℕ IoError) (new : State L H) (head : Head) (awaited : Bool) → TakesHalf event (if awaited then Some head else None) mid result new → Takes event awaited (fields_of head) mid result new
  takes-half mid result new head true t = t
  takes-half mid result new head false t = t

  both-halves : {old : State L H} (mid : State L H) (result : Result ℕ IoError) (new : State L H) (sent : Option Head) → AsksHalf event asked old (Ok sent) mid → TakesHalf event sent mid result new → Asks event asked old result new
  both-halves mid result new _ (halves.goes {awaited = awaited} head is out) t = asking.asked_for is out (takes-half mid result new head awaited t)

  -- a call whose request was not sent
  pub ends-unsent : {old new : Channel L H} (e : IoError) → AsksHalfFor event asked old (Err e) new → AsksFor event asked old (Err e) new
  ends-unsent e (h, same) = (unsent-half e h, same)

  -- a call by both of its halves
  pub by-halves : {old : Channel L H} (mid : Channel L H) (result : Result ℕ IoError) (new : Channel L H) (sent : Option Head) → AsksHalfFor event asked old (Ok sent) mid → new ≡ record mid { endpoint = new.endpoint }
      → TakesHalf event sent mid.endpoint result new.endpoint → AsksFor event asked old result new
  by-halves mid result new sent (h, same) kept takes = (both-halves mid.endpoint result new.endpoint sent h takes, kept ∙ ap (λ (c : Channel L H). record c { endpoint = new.endpoint }) same)

module _ {L H : Type 0} (event : L → Event H → L → Type 0) (sent : Header) (old new : State L H) where
  number-heard : (o : Result (Received H) Error) {result : Result ℕ IoError} → HearsReply event numbers old o new → reverse_understood sent o ≡ seen_io_result result → (says_number result ≡ true → new.list ≡ true) → RecvsNumber event sent old result new
  number-heard o h e listed = asking.heard (subst (λ x. HearsReply event (reverse_take true sent) old x new) e (replies-by (λ r. reverse_understood sent r) o (λ cells. refl) h)) listed

  module _ (r : Received H) (x : Comes event backend_request_of (reply_split (is_known_by backend_request_of) 8 (λ bs. true) 0) old sent r new) where
    -- 0 came
    pub number-zero : u64_at 0 r.body ≡ 0 → r.handles ≡ [] → RecvsNumber event sent old (Ok 0) new
    number-zero zero none_came = number-heard (Ok r) x.hears (rw (x.answers, none_came, zero) refl) (λ is. x.list ∙ ap (λ hs. not (has_some hs)) none_came)

    -- another number came
    pub number-other : (u64_at 0 r.body == 0) ≡ false → r.handles ≡ [] → RecvsNumber event sent old (Err (Of code.FrontendInternalError)) new
    number-other some none_came = number-heard (Ok r) x.hears (rw (x.answers, none_came, some) refl) (λ is. x.list ∙ ap (λ hs. not (has_some hs)) none_came)

    -- it came with handles
    pub number-crowded : has_some r.handles ≡ true → RecvsNumber event sent old (Err (Of code.InvalidMessage)) new
    number-crowded many = number-heard (Ok r) x.hears (rw (x.answers, many) refl) (λ is. absurd cc)

  -- none came
  pub number-missing : {e : declared.Error} → Missing event backend_request_of (reply_split (is_known_by backend_request_of) 8 (λ bs. true) 0) old sent e new → RecvsNumber event sent old (Err (Of e)) new
  number-missing (unfit r h bad) = number-heard (Ok r) h (rw bad refl) (λ is. absurd cc)
  number-missing {e} (none h listed) = number-heard (Err (seen e)) h refl (λ is. listed)
  number-missing (failed f) = asking.stopped f
