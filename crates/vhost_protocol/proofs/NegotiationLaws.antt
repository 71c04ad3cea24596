-- Acknowledgements are on only where protocol features were offered.
use Rattle.std.proofs.Common.{◌≡◌, ℕ, ◌^◌, Bool, true, false, cond, List, [], Option, Some, None, Result, Ok, Err, refl, sym, ◌∙◌, IfSome}
use Rattle.std.specs.Prelude.{◌==◌, nat_le}
use Rattle.vhost_message.specs.declared.postcopy.PostcopyState.TheVariants.{End}
use Rattle.vhost_message.specs.Bits.{has_bit}
use Rattle.vhost_message.specs.declared.heard_req.HeardReq.TheVariants.{SET_PROTOCOL_FEATURES}
use Rattle.vhost_protocol.specs.Agreement.{Negotiates, AskedNegotiates, OffersBit, AsksNegotiate, AnswersNegotiate}
use Rattle.vhost_protocol.specs.AnswerTable.{Answered, answered, answer, after_success, alone, changed, queues_reply, from_reply}
use Rattle.vhost_protocol.specs.Ask.{Asked, Sends, ask, awaited_ack, message, given, ◌>>◌, ◌>>=◌}
use Rattle.vhost_protocol.specs.declared.asked.Awaited.{Awaited}
use Rattle.vhost_protocol.specs.declared.asked.Awaited.TheVariants.{Nobody, Ack, Reply}
use Rattle.vhost_protocol.specs.Error.{Error, InvalidMessage, InactiveFeature, BackendInternalError}
use Rattle.vhost_protocol.specs.Features.{PROTOCOL_FEATURES}
use Rattle.vhost_protocol.specs.FrontendCall.{FrontendCall, GetFeatures, SetFeatures, SetProtocolFeatures, GetQueueNum, SetLogBase, PostcopyListen, PostcopyEnd, SetHdrFlags, Value, Nothing, Number, Frontend}
use Rattle.vhost_protocol.specs.Session.{is_listen}
use Rattle.vhost_protocol.specs.Served.{Served, Silent, Acknowledged, Replied}
use Rattle.vhost_protocol.specs.Written.{Payload, Empty, U64}

module _ (H : Type 0) (bit : Bool) where
  -- ---- calls

  asked-then : (x : Result (Unit {0}) Error) (next : Asked H) → AskedNegotiates bit next → AskedNegotiates bit (x >> next)
  asked-then (Ok u) next h = h
  asked-then (Err e) next h = tt

  asked-given : (A : Type 0) (x : Option A) (next : A → Asked H) → ((a : A) → AskedNegotiates bit (next a)) → AskedNegotiates bit (given x >>= next)
  asked-given A (Some a) next h = h a
  asked-given A None next h = tt

  asked-cond : (b : Bool) (x y : Asked H) → AskedNegotiates bit x → AskedNegotiates bit y → AskedNegotiates bit (cond b x y)
  asked-cond true x y h k = h
  asked-cond false x y h k = k

  ruleset asking = (asked-then, asked-given, asked-cond)

  asked-protocol : (f : Frontend) (n : ℕ) → Negotiates bit f → AskedNegotiates {H = H} bit (ask f (SetProtocolFeatures n))
  asked-protocol f n h = go (has_bit f.offered PROTOCOL_FEATURES) refl
    where
      g : Frontend
      g = record f { acked_protocol_features = n }

      go : (b : Bool) → has_bit f.offered PROTOCOL_FEATURES ≡ b → AskedNegotiates {H = H} bit (cond b (Ok tt) (Err (InactiveFeature (2 ^ PROTOCOL_FEATURES))) >> Sends (message g SET_PROTOCOL_FEATURES (U64 n) []) (awaited_ack g) g)
      go true offers = (λ on. offers, λ on. h.2 offers, h.2)
      go false closed = tt

  asks-negotiate : (f : Frontend) (call : FrontendCall H) → Negotiates bit f → AskedNegotiates bit (ask f call)
  asks-negotiate f GetFeatures h = h
  asks-negotiate f (SetFeatures n) h = h
  asks-negotiate f (SetProtocolFeatures n) h = asked-protocol f n h
  asks-negotiate f (SetLogBase base None) h = h
  asks-negotiate f (SetLogBase base (Some r)) h = search asking
  asks-negotiate f (SetHdrFlags flags) h = h
  asks-negotiate f _ h = search asking

  -- ---- answers

  abbrev Kept : Option (Answered H) → Type 0
  Kept o = IfSome o (λ a. Negotiates bit a.session)

  kept-changed : (f g : Frontend) (r : Result (Value H) Error) → Negotiates bit f → Negotiates bit g → Negotiates bit (changed f g r).session
  kept-changed f g (Ok v) h k = k
  kept-changed f g (Err e) h k = h

  kept-queues : (f : Frontend) (n : ℕ) (r : Result (Value H) Error) → Negotiates bit f → Negotiates bit (queues_reply f n r).session
  kept-queues f n r h = go (nat_le n 0x8000)
    where
      go : (b : Bool) → Negotiates bit (cond b (changed f (record f { max_queue_num = n }) r) (answered f (Err InvalidMessage))).session
      go true = kept-changed f (record f { max_queue_num = n }) r h h
      go false = h

  kept-end : (f : Frontend) (fine listens : Bool) → Negotiates bit f
      → Negotiates bit (cond fine (answered {H = H} (record f { postcopy = End }) (Ok Nothing)) (answered (cond listens (record f { postcopy = End }) f) (Err BackendInternalError))).session
  kept-end f true listens h = h
  kept-end f false true h = h
  kept-end f false false h = h

  ruleset replies = (kept-changed)

  -- the features: with their bit, wherever acknowledgements are on
  kept-reply : (call : FrontendCall H) (f : Frontend) (p : Payload) (hs : List H) → Negotiates bit f → OffersBit bit call (Replied p hs) → Kept (from_reply call f p hs)
  kept-reply GetFeatures f (U64 n) hs h offers = kept-changed f (record f { offered = n }) (alone hs (Ok (Number n))) h (λ on. offers ∙ h.1 on, h.1, λ has. sym offers ∙ has)
  kept-reply GetQueueNum f (U64 n) hs h offers = kept-queues f n (alone hs (Ok (Number n))) h
  kept-reply PostcopyEnd f (U64 n) [] h offers = kept-end f (n == 0) (is_listen f.postcopy) h
  kept-reply _ f Empty hs h offers = search replies
  kept-reply _ f _ hs h offers = search

  kept-success : (call : FrontendCall H) (f : Frontend) → Negotiates bit f → Negotiates bit (after_success f call)
  kept-success PostcopyListen f h = h
  kept-success PostcopyEnd f h = h
  kept-success _ f h = h

  answers-negotiate : (call : FrontendCall H) (awaited : Awaited) (f : Frontend) (served : Served H) → Negotiates bit f → OffersBit bit call served → Kept (answer call awaited f served)
  answers-negotiate call Nobody f Silent h offers = kept-success call f h
  answers-negotiate call Ack f Silent h offers = h
  answers-negotiate call (Reply shape) f Silent h offers = h
  answers-negotiate call Ack f (Acknowledged true) h offers = kept-success call f h
  answers-negotiate call Ack f (Acknowledged false) h offers = h
  answers-negotiate call (Reply shape) f (Replied p hs) h offers = kept-reply call f p hs h offers
  answers-negotiate call _ f _ h offers = tt

pub calls-negotiate : (H : Type 0) → AsksNegotiate H
calls-negotiate H bit f call h = asks-negotiate H bit f call h

pub replies-negotiate : (H : Type 0) → AnswersNegotiate H
replies-negotiate H bit call awaited f served h offers = answers-negotiate H bit call awaited f served h offers
