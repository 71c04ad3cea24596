-- Under Standard a frontend that waits is answered: what it awaits is what the backend's table has to write.
use Rattle.std.proofs.Common.{◌≡◌, ◌⊎◌, inl, inr, ℕ, Bool, true, false, cond, List, [], ◌∷◌, length, Option, Some, None, Result, Ok, Err, refl, sym, ap, subst, ◌∙◌, length-append, arith}
use Rattle.std.proofs.lemmas.Bool.{ne_eqb}
use Rattle.std.specs.Prelude.{◌<◌, ◌+◌, ◌*◌, flat_map, ⊤, ◌&&◌, ◌||◌, ◌==◌, not, is_some}
use Rattle.vhost_message.specs.Bits.{has_bit}
use Rattle.vhost_message.specs.declared.heard_req.HeardReq.{HeardReq}
use Rattle.vhost_message.specs.declared.heard_req.HeardReq.TheVariants.{ADD_MEM_REG, POSTCOPY_LISTEN, POSTCOPY_END}
use Rattle.vhost_message.specs.declared.limits.TheConstants.{MEMORY_REGION_SIZE}
use Rattle.vhost_message.specs.declared.records.memory.VhostUserMemoryRegion.{VhostUserMemoryRegion}
use Rattle.vhost_message.specs.Records.{memory_text, region_text, single_region}
use Rattle.vhost_protocol.specs.Agreement.{Negotiates}
use Rattle.vhost_protocol.specs.Answering.{AnswersWell}
use Rattle.vhost_protocol.specs.AnswerTable.{Answered, answer, answered}
use Rattle.vhost_protocol.specs.Ask.{Asked, Refuses, Answers, Sends, ask, asks_unacknowledged, frontend_feature, given, param, sends, message, awaited_ack, turning, awaited_turn, regions_in, ◌>>◌, ◌>>=◌}
use Rattle.vhost_protocol.specs.declared.asked.Awaited.{Awaited}
use Rattle.vhost_protocol.specs.declared.asked.Awaited.TheVariants.{Nobody, Ack, Reply}
use Rattle.vhost_protocol.specs.declared.asked.Shape.TheVariants as shape
use Rattle.vhost_protocol.specs.Error.{Error, PartialMessage}
use Rattle.vhost_protocol.specs.Features.{PROTOCOL_FEATURES, REPLY_ACK, LOG_SHMFD, PAGEFAULT, CONFIGURE_MEM_SLOTS}
use Rattle.vhost_protocol.specs.FrontendCall.{FrontendCall, SetMemTable, SetLogBase, AddMemRegion, PostcopyListen, PostcopyEnd, SetHdrFlags, Frontend}
use Rattle.vhost_protocol.specs.Joined.{AgreeOn, read_as}
use Rattle.vhost_protocol.specs.Profile.{is_standard}
use Rattle.vhost_protocol.specs.Served.{Silent}
use Rattle.vhost_protocol.specs.Session.{Session, ack_on, is_listen}
use Rattle.vhost_protocol.specs.Settled.{has_reply, awaits_reply, is_awaited, is_unanswered}
use Rattle.vhost_protocol.specs.Step.{Outcome}
use Rattle.vhost_protocol.specs.Written.{Written, Payload, OneRegion, Regions, payload_text, table_head}
use Rattle.vhost_protocol.proofs.RegionLaws.{regions-length}

-- a table with a region is longer than a number
table-long : (rs : List VhostUserMemoryRegion) → 0 < length rs → (length (payload_text (Regions rs)) == 8) ≡ false
table-long rs some =
    let e : length (flat_map region_text rs) ≡ MEMORY_REGION_SIZE * length rs = regions-length rs in
    ne_eqb _ _ (λ is. let long : length (payload_text (Regions rs)) ≡ 8 + length (flat_map region_text rs) = length-append (memory_text (table_head (length rs))) (flat_map region_text rs) in omega (arith, e, is, long, some))

module _ (H : Type 0) (s : Session) where
  -- A reply is awaited of a request that has one, and an acknowledgement of one that asks for it, where that was agreed on.
  abbrev WaitsWell : Awaited → Written HeardReq H → Frontend → Type 0
  WaitsWell Nobody w g = ⊤
  WaitsWell Ack w g = (w.need_reply ≡ true) × (has_bit g.acked_protocol_features REPLY_ACK ≡ true)
  WaitsWell (Reply shape) w g = has_reply w.request s (length (payload_text w.payload)) ≡ true

  abbrev AsksWell : Asked H → Type 0
  AsksWell (Refuses e) = ⊤
  AsksWell (Answers v g) = ⊤
  AsksWell (Sends w awaited g) = WaitsWell awaited w g

  well-then : (x : Result (Unit {0}) Error) (next : Asked H) → AsksWell next → AsksWell (x >> next)
  well-then (Ok u) next h = h
  well-then (Err e) next h = tt

  well-given : (A : Type 0) (x : Option A) (next : A → Asked H) → ((a : A) → AsksWell (next a)) → AsksWell (given x >>= next)
  well-given A (Some a) next h = h a
  well-given A None next h = tt

  well-cond : (b : Bool) (x y : Asked H) → (b ≡ true → AsksWell x) → AsksWell y → AsksWell (cond b x y)
  well-cond true x y h k = h refl
  well-cond false x y h k = k

  well-ack : (f : Frontend) (r : HeardReq) (payload : Payload) (handles : List H) → WaitsWell (awaited_ack f) (message f r payload handles) f
  well-ack f r payload handles = by (has_bit f.acked_protocol_features REPLY_ACK) (has_bit f.header_flags 3) (is_standard f.profile) refl
    where
      by : (a h p : Bool) → has_bit f.acked_protocol_features REPLY_ACK ≡ a → WaitsWell (cond (a && h) Ack Nobody) (record { request = r; reply = has_bit f.header_flags 2; need_reply = h && cond p a true; payload = payload; handles = handles }) f
      by true true true is = (refl, is)
      by true true false is = (refl, is)
      by true false p is = tt
      by false h p is = tt

  well-base : (f : Frontend) (r : HeardReq) (payload : Payload) (handles : List H) → WaitsWell (cond (is_standard f.profile) (awaited_ack f) Nobody) (message f r payload handles) f
  well-base f r payload handles = by (is_standard f.profile)
    where
      by : (p : Bool) → WaitsWell (cond p (awaited_ack f) Nobody) (message f r payload handles) f
      by true = well-ack f r payload handles
      by false = tt

  well-turn : (f : Frontend) (r : HeardReq) → WaitsWell (awaited_turn f) (turning f r) f
  well-turn f r = by (has_bit f.acked_protocol_features REPLY_ACK) (has_bit f.header_flags 3) (is_standard f.profile) refl
    where
      by : (a h p : Bool) → has_bit f.acked_protocol_features REPLY_ACK ≡ a → WaitsWell (cond p (cond a Ack Nobody) (cond (a && h) Ack Nobody)) (record (turning f r) { need_reply = cond p a (h && cond p a true) }) f
      by true h true is = (refl, is)
      by false h true is = tt
      by true true false is = (refl, is)
      by true false false is = tt
      by false h false is = tt

  well-end : (f : Frontend) (r : HeardReq) → has_reply r s 0 ≡ true → WaitsWell (cond (is_standard f.profile) (Reply shape.U64) (awaited_ack f)) (turning f r) f
  well-end f r own = by (has_bit f.acked_protocol_features REPLY_ACK) (has_bit f.header_flags 3) (is_standard f.profile) refl
    where
      by : (a h p : Bool) → has_bit f.acked_protocol_features REPLY_ACK ≡ a → WaitsWell (cond p (Reply shape.U64) (cond (a && h) Ack Nobody)) (record (turning f r) { need_reply = cond p a (h && cond p a true) }) f
      by a h true is = own
      by true true false is = (refl, is)
      by true false false is = tt
      by false h false is = tt

  ruleset waiting = (well-then, well-given, well-ack, well-base, well-turn)

  listening : (f : Frontend) (size : ℕ) → AgreeOn f s → (size == 8) ≡ false → is_listen f.postcopy ≡ true → (is_listen s.postcopy && not (size == 8)) ≡ true
  listening f size agree other listens = ap (λ p. is_listen p && not (size == 8)) (sym agree.postcopy) ∙ ap (λ b. b && not (size == 8)) listens ∙ ap (λ b. not b) other

  pub asks-well : (f : Frontend) (call : FrontendCall H) → AgreeOn f s → AsksWell (ask f call)
  asks-well f (SetMemTable []) agree = tt
  asks-well f (SetMemTable (i ∷ infos)) agree = well-then _ _ (well-cond (is_listen f.postcopy) _ _ (λ listens. listening f _ agree (table-long (regions_in (i ∷ infos)) (omega arith)) listens) (well-ack f _ _ _))
  asks-well f (SetLogBase base None) agree = well-base f _ _ _
  asks-well f (SetLogBase base (Some r)) agree = well-cond (has_bit f.acked_protocol_features LOG_SHMFD) _ _ (λ on. well-given H r.handle _ (λ h. ap (λ n. has_bit n LOG_SHMFD) (sym agree.acked_protocol_features) ∙ on)) (well-base f _ _ _)
  asks-well f (AddMemRegion info) agree =
      let asked : H → Asked H = λ h. asks_unacknowledged f ADD_MEM_REG (OneRegion (single_region info.region)) (h ∷ []) shape.SingleMemoryRegion in
      let sent : H → Asked H = λ h. sends f ADD_MEM_REG (OneRegion (single_region info.region)) (h ∷ []) in
      let next : H → Asked H = λ h. cond (is_listen f.postcopy) (asked h) (sent h) in
      well-then (frontend_feature f CONFIGURE_MEM_SLOTS) (param (not (info.region.memory_size == 0)) >> (given info.handle >>= next))
      (well-then (param (not (info.region.memory_size == 0))) (given info.handle >>= next)
      (well-given H info.handle next (λ h. well-cond (is_listen f.postcopy) (asked h) (sent h) (λ listens. listening f 40 agree refl listens) (well-ack f ADD_MEM_REG (OneRegion (single_region info.region)) (h ∷ [])))))
  asks-well f PostcopyEnd agree = well-then (frontend_feature f PAGEFAULT) (Sends (turning f POSTCOPY_END) (cond (is_standard f.profile) (Reply shape.U64) (awaited_ack f)) f) (well-end f POSTCOPY_END refl)
  asks-well f PostcopyListen agree = well-then (frontend_feature f PAGEFAULT) (Sends (turning f POSTCOPY_LISTEN) (awaited_turn f) f) (well-turn f POSTCOPY_LISTEN)
  asks-well f (SetHdrFlags flags) agree = tt
  asks-well f _ agree = search waiting

  -- ---- so it is never silent

  module _ (f g : Frontend) (call : FrontendCall H) (awaited : Awaited) (w : Written HeardReq H) (o : Outcome H) (bit : Bool) (agree : AgreeOn f s) (asked : ask f call ≡ Sends w awaited g) (negotiated : Negotiates bit g)
      (well : AnswersWell s (read_as w) o) (alive : is_some o.session.failed ≡ false) (silent : o.served ≡ Silent) where
    waits : WaitsWell awaited w g
    waits = subst AsksWell asked (asks-well f call agree)

    unanswered : is_awaited s (read_as w) o ≡ true → ⊥
    unanswered is = by (well.answered is)
      where
        by : (is_unanswered (awaits_reply s (read_as w)) o.served ≡ false) ⊎ (is_some o.session.failed ≡ true) → ⊥
        by (inl answered) = cc (sym answered ∙ ap (λ x. is_unanswered (awaits_reply s (read_as w)) x) silent)
        by (inr failed) = cc (sym alive ∙ failed)

    own : awaits_reply s (read_as w) ≡ true → is_awaited s (read_as w) o ≡ true
    own is = ap (λ b. b || (ack_on o.session && w.need_reply)) is

    acks : w.need_reply ≡ true → ack_on o.session ≡ true → is_awaited s (read_as w) o ≡ true
    acks wants on = ap (λ b. awaits_reply s (read_as w) || (b && w.need_reply)) on ∙ ap (λ b. awaits_reply s (read_as w) || b) wants ∙ or-last (awaits_reply s (read_as w))
      where
        or-last : (b : Bool) → (b || true) ≡ true
        or-last true = refl
        or-last false = refl

    pub never-silent : (a : Answered H) → answer call awaited g o.served ≡ Some a → AgreeOn a.session o.session → (awaited ≡ Nobody → ⊥) → ⊥
    never-silent a known after some = by awaited refl waits
      where
        by : (x : Awaited) → awaited ≡ x → WaitsWell x w g → ⊥
        by Nobody is h = some is
        by (Reply shape) is h = unanswered (own h)
        by Ack is (wants, acked) =
            let kept : Some a ≡ Some (answered g (Err PartialMessage)) = sym known ∙ ap (λ x. answer call awaited g x) silent ∙ ap (λ x. answer call x g Silent) is in
            let same : a.session ≡ g = (let e : a ≡ answered g (Err PartialMessage) = cc kept in ap (λ (x : Answered H). x.session) e) in
            unanswered (acks wants (on (ap (λ n. has_bit n PROTOCOL_FEATURES) (sym after.offered ∙ ap (λ (k : Frontend). k.offered) same) ∙ negotiated.0 acked) (ap (λ n. has_bit n REPLY_ACK) (sym after.acked_protocol_features ∙ ap (λ (k : Frontend). k.acked_protocol_features) same) ∙ acked)))
          where
            on : has_bit o.session.offered PROTOCOL_FEATURES ≡ true → has_bit o.session.acked_protocol_features REPLY_ACK ≡ true → ack_on o.session ≡ true
            on offered acked = ap (λ b. b && has_bit o.session.acked_protocol_features REPLY_ACK) offered ∙ acked
