-- The header's flags change by their own call alone, and the profile by no call.
use Rattle.std.proofs.Common.{◌≡◌, ℕ, Bool, true, false, cond, List, [], ◌∷◌, length, Option, Some, None, Result, Ok, Err, IfSome, subst}
use Rattle.std.specs.Prelude.{⊤, nat_le, ◌==◌, ◌&&◌}
use Rattle.vhost_message.specs.Bits.{has_bit}
use Rattle.vhost_message.specs.Header.{Header}
use Rattle.vhost_message.specs.Records.{u64_at}
use Rattle.vhost_message.specs.declared.heard_req.HeardReq.{HeardReq}
use Rattle.vhost_message.specs.declared.postcopy.PostcopyState.TheVariants.{End}
use Rattle.vhost_protocol.specs.AnswerTable.{Answered, answered, answer, after_success, alone, changed, queues_reply, end_reply, from_reply}
use Rattle.vhost_protocol.specs.Ask.{Asked, Refuses, Answers, Sends, ask, given, ◌>>◌, ◌>>=◌}
use Rattle.vhost_protocol.specs.declared.asked.Awaited.{Awaited}
use Rattle.vhost_protocol.specs.declared.asked.Awaited.TheVariants.{Nobody, Ack, Reply}
use Rattle.vhost_protocol.specs.declared.profile.Profile.{Profile}
use Rattle.vhost_protocol.specs.declared.asked.Shape.{Shape}
use Rattle.vhost_protocol.specs.declared.asked.Shape.TheVariants as shape
use Rattle.vhost_protocol.specs.Error.{Error, InvalidParam, InvalidMessage, BackendInternalError}
use Rattle.vhost_protocol.specs.ReplySplit.{Received}
use Rattle.vhost_protocol.specs.Stream.{Cell}
use Rattle.vhost_protocol.specs.Take.{answers, is_sized, payload_of, room, reply_cut, config_cut, understood, understood_config, take_reply, take}
use Rattle.vhost_protocol.specs.FrontendCall.{FrontendCall, GetFeatures, GetQueueNum, SetLogBase, GetConfig, PostcopyListen, PostcopyEnd, SetHdrFlags, Value, Nothing, Number, Frontend}
use Rattle.vhost_protocol.specs.Served.{Served, Silent, Acknowledged, Replied}
use Rattle.vhost_protocol.specs.Session.{is_listen}
use Rattle.vhost_frontend_core.specs.ValueHalves.{IsSent}
use Rattle.vhost_protocol.specs.Written.{Written, Payload, Empty, U64}

module _ (H : Type 0) (flags : ℕ) (profile : Profile) where
  -- these flags, and this profile
  abbrev pub Has : Frontend → Type 0
  Has f = (f.header_flags ≡ flags) × (f.profile ≡ profile)

  -- ---- calls

  -- it was refused or sent
  abbrev pub SentWith : Asked H → Type 0
  SentWith (Refuses e) = ⊤
  SentWith (Answers v g) = ⊥
  SentWith (Sends w awaited g) = Has g

  sent-then : (x : Result (Unit {0}) Error) (next : Asked H) → SentWith next → SentWith (x >> next)
  sent-then (Ok u) next h = h
  sent-then (Err e) next h = tt

  sent-given : (A : Type 0) (x : Option A) (next : A → Asked H) → ((a : A) → SentWith (next a)) → SentWith (given x >>= next)
  sent-given A (Some a) next h = h a
  sent-given A None next h = tt

  sent-cond : (b : Bool) (x y : Asked H) → SentWith x → SentWith y → SentWith (cond b x y)
  sent-cond true x y h k = h
  sent-cond false x y h k = k

  ruleset sending = (sent-then, sent-given, sent-cond)

  pub sent-with : (f : Frontend) (call : FrontendCall H) → IsSent call → Has f → SentWith (ask f call)
  sent-with f (SetLogBase base None) sent h = h
  sent-with f (SetLogBase base (Some r)) sent h = search sending
  sent-with f (SetHdrFlags n) sent h = absurd sent
  sent-with f _ sent h = search sending

  is-sent : (f : Frontend) (call : FrontendCall H) (w : Written HeardReq H) (awaited : Awaited) (g : Frontend) → ask f call ≡ Sends w awaited g → IsSent call
  is-sent f (SetHdrFlags n) w awaited g is = absurd (cc is)
  is-sent f _ w awaited g is = tt

  -- its message was sent
  pub kept-sent : (f : Frontend) (call : FrontendCall H) (w : Written HeardReq H) (awaited : Awaited) (g : Frontend) → ask f call ≡ Sends w awaited g → Has f → Has g
  kept-sent f call w awaited g is h = subst (λ (x : Asked H). SentWith x) is (sent-with f call (is-sent f call w awaited g is) h)

  -- ---- answers

  abbrev pub With : Option (Answered H) → Type 0
  With o = IfSome o (λ a. Has a.session)

  with-changed : (f g : Frontend) (r : Result (Value H) Error) → Has f → Has g → Has (changed f g r).session
  with-changed f g (Ok v) h k = k
  with-changed f g (Err e) h k = h

  with-queues : (f : Frontend) (n : ℕ) (r : Result (Value H) Error) → Has f → Has (queues_reply f n r).session
  with-queues f n r h = go (nat_le n 0x8000)
    where
      go : (b : Bool) → Has (cond b (changed f (record f { max_queue_num = n }) r) (answered f (Err InvalidMessage))).session
      go true = with-changed f (record f { max_queue_num = n }) r h h
      go false = h

  with-end : (f : Frontend) (n : ℕ) (hs : List H) → Has f → Has (end_reply f n hs).session
  with-end f n [] h = go (n == 0) (is_listen f.postcopy)
    where
      listened : (b : Bool) → Has (cond b (record f { postcopy = End }) f)
      listened true = h
      listened false = h

      go : (done listens : Bool) → Has (cond done (answered {H = H} (record f { postcopy = End }) (Ok Nothing)) (answered (cond listens (record f { postcopy = End }) f) (Err BackendInternalError))).session
      go true listens = h
      go false listens = listened listens
  with-end f n (x ∷ hs) h = h

  ruleset replies = (with-changed)

  with-reply : (call : FrontendCall H) (f : Frontend) (p : Payload) (hs : List H) → Has f → With (from_reply call f p hs)
  with-reply GetFeatures f (U64 n) hs h = with-changed f (record f { offered = n }) (alone hs (Ok (Number n))) h h
  with-reply GetQueueNum f (U64 n) hs h = with-queues f n (alone hs (Ok (Number n))) h
  with-reply PostcopyEnd f (U64 n) hs h = with-end f n hs h
  with-reply _ f Empty hs h = search replies
  with-reply _ f _ hs h = search

  with-success : (call : FrontendCall H) (f : Frontend) → Has f → Has (after_success f call)
  with-success PostcopyListen f h = h
  with-success PostcopyEnd f h = h
  with-success _ f h = h

  pub answered-with : (call : FrontendCall H) (awaited : Awaited) (f : Frontend) (served : Served H) → Has f → With (answer call awaited f served)
  answered-with call Nobody f Silent h = with-success call f h
  answered-with call Ack f Silent h = h
  answered-with call (Reply shape) f Silent h = h
  answered-with call Ack f (Acknowledged true) h = with-success call f h
  answered-with call Ack f (Acknowledged false) h = h
  answered-with call (Reply shape) f (Replied p hs) h = with-reply call f p hs h
  answered-with call _ f _ h = tt

  -- ---- what comes back

  with-understood : (call : FrontendCall H) (awaited : Awaited) (sent : Header) (f : Frontend) (r : Result (Received H) Error) → Has f → With (understood call awaited sent f r)
  with-understood call awaited sent f (Err e) h = h
  with-understood call Nobody sent f (Ok r) h = tt
  with-understood call Ack sent f (Ok r) h = go (answers sent r.header) (length r.handles == 0)
    where
      go : (known alone : Bool) → With (cond known (cond alone (answer call Ack f (Acknowledged (u64_at 0 r.body == 0))) (Some (answered f (Err InvalidMessage)))) (Some (answered f (Err InvalidMessage))))
      go true true = answered-with call Ack f (Acknowledged (u64_at 0 r.body == 0)) h
      go true false = h
      go false alone = h
  with-understood call (Reply shape) sent f (Ok r) h = go (answers sent r.header && is_sized call r)
    where
      go : (known : Bool) → With (cond known (answer call (Reply shape) f (Replied (payload_of shape r.body r.payload) r.handles)) (Some (answered f (Err InvalidMessage))))
      go true = answered-with call (Reply shape) f (Replied (payload_of shape r.body r.payload) r.handles) h
      go false = h

  with-config : (call : FrontendCall H) (sent : Header) (f : Frontend) (r : Result (Option (Received H)) Error) → Has f → With (understood_config call sent f r)
  with-config call sent f (Ok (Some r)) h = with-understood call (Reply shape.Config) sent f (Ok r) h
  with-config call sent f (Ok None) h = h
  with-config call sent f (Err e) h = h

  with-taken : (call : FrontendCall H) (s : Shape) (sent : Header) (f : Frontend) (cells : List (Cell H)) → Has f → With (take_reply call s sent f cells).0
  with-taken (GetConfig o n k []) s sent f cells h = h
  with-taken (GetConfig o n k (b ∷ buffer)) s sent f cells h = with-config (GetConfig o n k (b ∷ buffer)) sent f (config_cut f.profile sent (length (b ∷ buffer)) cells).0 h
  with-taken call s sent f cells h = with-understood call (Reply s) sent f (reply_cut s f.profile (room call) cells).0 h

  pub taken-with : (call : FrontendCall H) (awaited : Awaited) (sent : Header) (f : Frontend) (cells : List (Cell H)) → Has f → With (take call awaited sent f cells).0
  taken-with call Nobody sent f cells h = answered-with call Nobody f Silent h
  taken-with call Ack sent f cells h = with-understood call Ack sent f (reply_cut shape.U64 f.profile 0 cells).0 h
  taken-with call (Reply s) sent f cells h = go (has_bit sent.flags 2)
    where
      go : (b : Bool) → With (cond b (Some (answered f (Err InvalidParam)), cells) (take_reply call s sent f cells)).0
      go true = h
      go false = with-taken call s sent f cells h
