-- What a request becomes by an answer of the device, and by the answer that its reply holds.
use Rattle.std.proofs.Common.{◌≡◌, ℕ, ◌<◌, ◌^◌, Bool, true, false, List, [], length, Result, Ok, Err, refl, sym, ap, subst, ◌∙◌, arith}
use Rattle.std.specs.Prelude.{⊤, ◌&&◌, ◌||◌, not, is_ok, is_err, is_some, bit_or, if◌then◌else◌}
use Rattle.std.specs.Int.Bits.{or_add_and}
use Rattle.std.proofs.lemmas.Nat.{and_or_self}
use Rattle.byteorder.specs.Numbers.{little_number-reads_back}
use Rattle.vhost_message.specs.declared.heard_req.HeardReq.{HeardReq}
use Rattle.vhost_message.specs.declared.heard_req.HeardReq.TheVariants.{POSTCOPY_LISTEN, POSTCOPY_END, GET_INFLIGHT_FD}
use Rattle.vhost_message.specs.declared.postcopy.PostcopyState.TheVariants.{Listen, End}
use Rattle.vhost_message.specs.declared.records.vring.VhostUserVringState.{VhostUserVringState}
use Rattle.vhost_message.specs.declared.records.inflight.VhostUserInflight.{VhostUserInflight}
use Rattle.vhost_message.specs.RecordLaws.{InflightFits, inflight-reads_back}
use Rattle.vhost_message.specs.Text.{digits}
use Rattle.vhost_protocol.specs.Answered.{if_agreed}
use Rattle.vhost_protocol.specs.Error.{Error}
use Rattle.vhost_protocol.specs.Profile.{is_standard}
use Rattle.vhost_protocol.specs.Served.{Served, Silent, Acknowledged, Replied}
use Rattle.vhost_protocol.specs.Session.{Session, ack_on}
use Rattle.vhost_protocol.specs.Settled.{ended, has_reply, is_listening, is_unanswered, refused_reply, settled, silenced, spoken}
use Rattle.vhost_protocol.specs.Split.{Message}
use Rattle.vhost_protocol.specs.Step.{Outcome, done, replied, unwritten, with_ack}
use Rattle.vhost_protocol.specs.Written.{Payload, InflightArea, U64, RingState}
use Rattle.vhost_link.specs.declared.plain.PlainHandle.{PlainHandle}
use Rattle.vhost_c_joined.specs.Judged.{told_area, told_number, told_word}
use Rattle.vhost_c_joined.proofs.Replying.{handles_in, text_in}

abbrev pub Out : Type 0
Out = Outcome PlainHandle

-- a request without descriptors that is no reply
abbrev pub asking : HeardReq → Bool → List ℕ → Message HeardReq PlainHandle
asking r need body = record { request = r; reply = false; need_reply = need; body = body; handles = [] }

-- what is written, and what is remembered, are the same
pub record Same (o o' : Out) : Type 0 where
  pub served : o'.served ≡ o.served
  pub session : o'.session ≡ o.session

-- an acknowledgement, where one is wanted
abbrev pub acking : Bool → Bool → Served PlainHandle
acking wants agreed = if wants then Acknowledged agreed else Silent

-- how a result that is acknowledged is settled
abbrev shape : (standard own listening wants agreed : Bool) → HeardReq → List ℕ → Result ⊤ Error → Session → Out
shape standard own listening wants agreed r body answer s =
    let o : Out = record { answer = answer; served = acking wants agreed; session = s } in
    let q : Out = record { answer = answer; served = Silent; session = s } in
    if standard && is_unanswered own o.served
    then (if own && not false then refused_reply r body q
    else if (is_err answer && (false || listening && not wants)) || own then ended q
    else if wants then record { answer = answer; served = Acknowledged (is_ok answer); session = s }
    else q)
    else o

-- the refusal of a request whose reply cannot refuse ends the session
never-ends : (b : Bool) (x y : Out) → b ≡ true → is_some (if b then ended x else y).session.failed ≡ false → ⊥
never-ends true x y is alive = cc alive
never-ends false x y is alive = cc is

module _ (s : Session) (standard : is_standard s.profile ≡ true) where
  module _ (r : HeardReq) (need : Bool) (body : List ℕ) (s' : Session) where
    abbrev pub wants : Bool
    wants = ack_on s' && need

    abbrev pub told : {A : Type 0} → Result A Error → Out
    told a = settled s (asking r need body) (with_ack s' (asking r need body) a)

    -- an acknowledgement alone
    module _ (own : has_reply r s (length body) ≡ false) (listening : is_listening r ≡ false) where
      as-shape : {A : Type 0} (a : Result A Error) → told a ≡ shape true false false wants (is_ok a) r body (done a) s'
      as-shape a =
          ap (λ x. shape x (has_reply r s (length body)) (is_listening r) wants (is_ok a) r body (done a) s') standard
          ∙ ap (λ x. shape true x (is_listening r) wants (is_ok a) r body (done a) s') own
          ∙ ap (λ x. shape true false x wants (is_ok a) r body (done a) s') listening

      by-shape : {A : Type 0} (a : Result A Error) (w : Bool) → ((shape true false false w (is_ok a) r body (done a) s').served ≡ acking w (is_ok a)) × ((shape true false false w (is_ok a) r body (done a) s').session ≡ s')
      by-shape (Ok a) true = (refl, refl)
      by-shape (Err e) true = (refl, refl)
      by-shape (Ok a) false = (refl, refl)
      by-shape (Err e) false = (refl, refl)

      pub acked : {A : Type 0} (a : Result A Error) → ((told a).served ≡ acking wants (is_ok a)) × ((told a).session ≡ s')
      acked a = subst (λ o. (o.served ≡ acking wants (is_ok a)) × (o.session ≡ s')) (sym (as-shape a)) (by-shape a wants)

      pub acked-same : {A B : Type 0} (a : Result A Error) (a' : Result B Error) → (wants ≡ true → is_ok a' ≡ is_ok a) → Same (told a) (told a')
      acked-same a a' is = record { served = (acked a').0 ∙ by wants refl ∙ sym (acked a).0; session = (acked a').1 ∙ sym (acked a).1 }
        where
          by : (w : Bool) → wants ≡ w → acking wants (is_ok a') ≡ acking wants (is_ok a)
          by true on = ap (λ k. acking wants k) (is on)
          by false off = ap (λ w. acking w (is_ok a')) off ∙ sym (ap (λ w. acking w (is_ok a)) off)

    -- silence
    abbrev quiet_shape : (standard own listening wants : Bool) → Result ⊤ Error → Out
    quiet_shape standard own listening wants answer =
        let q : Out = record { answer = answer; served = Silent; session = s' } in
        if standard && true
        then (if own && not false then refused_reply r body q
        else if (is_err answer && (false || listening && not wants)) || own then ended q
        else if wants then record { answer = answer; served = Acknowledged (is_ok answer); session = s' }
        else q)
        else q

    quiet-as : (own listening : Bool) (a : Result ⊤ Error) → has_reply r s (length body) ≡ own → is_listening r ≡ listening → settled s (asking r need body) (record { answer = a; served = Silent; session = s' }) ≡ quiet_shape true own listening wants a
    quiet-as own listening a is-own is-listening =
        ap (λ x. quiet_shape x (has_reply r s (length body)) (is_listening r) wants a) standard
        ∙ ap (λ x. quiet_shape true x (is_listening r) wants a) is-own
        ∙ ap (λ x. quiet_shape true own x wants a) is-listening

    -- it is acknowledged, where that is wanted
    module _ (own : has_reply r s (length body) ≡ false) (listening : is_listening r ≡ false) where
      abbrev pub quiet : {A : Type 0} → Result A Error → Out
      quiet a = settled s (asking r need body) (unwritten s' a)

      quiet-by : {A : Type 0} (a : Result A Error) (w : Bool) → ((quiet_shape true false false w (done a)).served ≡ acking w (is_ok a)) × ((quiet_shape true false false w (done a)).session ≡ s')
      quiet-by (Ok a) true = (refl, refl)
      quiet-by (Err e) true = (refl, refl)
      quiet-by (Ok a) false = (refl, refl)
      quiet-by (Err e) false = (refl, refl)

      pub quieted : {A : Type 0} (a : Result A Error) → ((quiet a).served ≡ acking wants (is_ok a)) × ((quiet a).session ≡ s')
      quieted a = subst (λ o. (o.served ≡ acking wants (is_ok a)) × (o.session ≡ s')) (sym (quiet-as false false (done a) own listening)) (quiet-by a wants)

      pub quiet-same : {A B : Type 0} (a : Result A Error) (a' : Result B Error) → (wants ≡ true → is_ok a' ≡ is_ok a) → Same (quiet a) (quiet a')
      quiet-same a a' is = record { served = (quieted a').0 ∙ by wants refl ∙ sym (quieted a).0; session = (quieted a').1 ∙ sym (quieted a).1 }
        where
          by : (w : Bool) → wants ≡ w → acking wants (is_ok a') ≡ acking wants (is_ok a)
          by true on = ap (λ k. acking wants k) (is on)
          by false off = ap (λ w. acking w (is_ok a')) off ∙ sym (ap (λ w. acking w (is_ok a)) off)

    -- or a request whose reply cannot refuse ends the session
    pub never-silent : (a : Result ⊤ Error) → has_reply r s (length body) ≡ true → ((o : Out) → refused_reply r body o ≡ ended o) → is_some (settled s (asking r need body) (record { answer = a; served = Silent; session = s' })).session.failed ≡ false → ⊥
    never-silent a own none alive = cc (sym alive ∙ ap (λ (o : Out). is_some o.session.failed) (quiet-as true (is_listening r) a own refl ∙ none (record { answer = a; served = Silent; session = s' })))

    -- so does one that is only acknowledged
    pub never-acked : {A : Type 0} (a : Result A Error) → has_reply r s (length body) ≡ true → ((o : Out) → refused_reply r body o ≡ ended o) → is_some (told a).session.failed ≡ false → ⊥
    never-acked a own none alive = cc (sym alive ∙ ap (λ (o : Out). is_some o.session.failed) (own-as ∙ by wants))
      where
        q : Out
        q = record { answer = done a; served = Silent; session = s' }

        own-as : told a ≡ shape true true (is_listening r) wants (is_ok a) r body (done a) s'
        own-as =
            ap (λ x. shape x (has_reply r s (length body)) (is_listening r) wants (is_ok a) r body (done a) s') standard
            ∙ ap (λ x. shape true x (is_listening r) wants (is_ok a) r body (done a) s') own

        by : (w : Bool) → shape true true (is_listening r) w (is_ok a) r body (done a) s' ≡ ended q
        by true = none q
        by false = none q

  -- a reply is told as it is
  pub replied-is : (r : HeardReq) (need : Bool) (body : List ℕ) (s' : Session) (p : Payload) (hs : List PlainHandle) → settled s (asking r need body) (replied s' p hs) ≡ replied s' p hs
  replied-is r need body s' p hs = ap (λ b. if b && false then spoken s (asking r need body) (silenced (replied s' p hs)) else replied s' p hs) standard

  -- ---- postcopy

  module _ (need : Bool) (body : List ℕ) where
    abbrev pub acks : Bool
    acks = ack_on s && need

    abbrev pub listens : Result ⊤ Error → Out
    listens a = settled s (asking POSTCOPY_LISTEN need body) (with_ack (if_agreed s Listen a) (asking POSTCOPY_LISTEN need body) a)

    abbrev listen_shape : Bool → Bool → Result ⊤ Error → Out
    listen_shape standard wants a = shape standard false true wants (is_ok a) POSTCOPY_LISTEN body (done a) (if_agreed s Listen a)

    listens-as : (a : Result ⊤ Error) → listens a ≡ listen_shape true acks a
    listens-as (Ok u) = ap (λ x. listen_shape x acks (Ok u)) standard
    listens-as (Err e) = ap (λ x. listen_shape x acks (Err e)) standard

    -- a refusal that nobody hears ends the session
    pub listens-same : (a a' : Result ⊤ Error) → is_some (listens a).session.failed ≡ false → (acks ≡ true → is_ok a' ≡ is_ok a) → (acks ≡ false → is_ok a' ≡ true) → Same (listens a) (listens a')
    listens-same a a' alive told silent = subst (λ o. Same o (listens a')) (sym (listens-as a)) (subst (λ o. Same (listen_shape true acks a) o) (sym (listens-as a')) (by acks refl a a' (ap (λ (o : Out). is_some o.session.failed) (sym (listens-as a)) ∙ alive) told silent))
      where
        by : (w : Bool) → acks ≡ w → (x y : Result ⊤ Error) → is_some (listen_shape true acks x).session.failed ≡ false → (acks ≡ true → is_ok y ≡ is_ok x) → (acks ≡ false → is_ok y ≡ true) → Same (listen_shape true acks x) (listen_shape true acks y)
        by true on (Ok u) (Ok v) alive told silent = record { served = refl; session = refl }
        by true on (Ok u) (Err e) alive told silent = absurd (cc (told on))
        by true on (Err d) (Ok v) alive told silent = absurd (cc (told on))
        by true on (Err d) (Err e) alive told silent = subst (λ w. Same (listen_shape true w (Err d)) (listen_shape true w (Err e))) (sym on) (record { served = refl; session = refl })
        by false off (Ok u) (Ok v) alive told silent = record { served = refl; session = refl }
        by false off (Ok u) (Err e) alive told silent = absurd (cc (silent off))
        by false off (Err d) y alive told silent = absurd (cc (subst (λ w. is_some (listen_shape true w (Err d)).session.failed ≡ false) off alive))

    -- it is acknowledged, or it was agreed to
    pub listened : (a : Result ⊤ Error) → is_some (listens a).session.failed ≡ false → (listens a).served ≡ acking acks (is_ok a)
    listened a alive = ap (λ (o : Out). o.served) (listens-as a) ∙ by acks a (ap (λ (o : Out). is_some o.session.failed) (sym (listens-as a)) ∙ alive)
      where
        by : (w : Bool) (x : Result ⊤ Error) → is_some (listen_shape true w x).session.failed ≡ false → (listen_shape true w x).served ≡ acking w (is_ok x)
        by true (Ok u) alive = refl
        by true (Err e) alive = refl
        by false (Ok u) alive = refl
        by false (Err e) alive = absurd (cc alive)

    abbrev pub turned : Session
    turned = record s { postcopy = End }

    abbrev pub ends : Result ⊤ Error → Out
    ends a = settled s (asking POSTCOPY_END need body) (with_ack turned (asking POSTCOPY_END need body) a)

    -- its reply says whether it succeeded
    pub ends-is : (a : Result ⊤ Error) → ((ends a).served ≡ Replied (U64 (if is_ok a then 0 else 1)) []) × ((ends a).session ≡ turned)
    ends-is a = subst (λ o. (o.served ≡ Replied (U64 (if is_ok a then 0 else 1)) []) × (o.session ≡ turned)) (sym (ap (λ x. shape x true false (ack_on turned && need) (is_ok a) POSTCOPY_END body (done a) turned) standard)) (by a (ack_on turned && need))
      where
        by : (x : Result ⊤ Error) (w : Bool) → ((shape true true false w (is_ok x) POSTCOPY_END body (done x) turned).served ≡ Replied (U64 (if is_ok x then 0 else 1)) []) × ((shape true true false w (is_ok x) POSTCOPY_END body (done x) turned).session ≡ turned)
        by (Ok u) true = (refl, refl)
        by (Ok u) false = (refl, refl)
        by (Err e) true = (refl, refl)
        by (Err e) false = (refl, refl)

    -- one that gives no buffer is refused by its record
    abbrev pub lacks : Error → Out
    lacks e = settled s (asking GET_INFLIGHT_FD need body) (record { answer = Err e; served = Silent; session = s })

    pub lacks-bare : (e : Error) → handles_in (lacks e).served ≡ []
    lacks-bare e = ap (λ (o : Out). handles_in o.served) (quiet-as GET_INFLIGHT_FD need body s true false (Err e) refl refl)

    pub lacks-same : (d e : Error) → Same (lacks d) (lacks e)
    lacks-same d e = subst (λ o. Same o (lacks e)) (sym (quiet-as GET_INFLIGHT_FD need body s true false (Err d) refl refl)) (subst (λ o. Same (quiet_shape GET_INFLIGHT_FD need body s true true false acks (Err d)) o) (sym (quiet-as GET_INFLIGHT_FD need body s true false (Err e) refl refl)) (record { served = refl; session = refl }))

-- ---- what a reply holds

pub ring-back : (r : HeardReq) (v : VhostUserVringState) → v.index < 2 ^ 32 → v.num < 2 ^ 32 → (told_word 12 (text_in r (Replied (RingState v) [])) ≡ v.index) × (told_word 16 (text_in r (Replied (RingState v) [])) ≡ v.num)
ring-back r v small few = (little_number-reads_back 4 v.index (digits 4 v.num) small, little_number-reads_back 4 v.num [] few)

pub acked-number : (r : HeardReq) (k : Bool) → told_number (text_in r (Acknowledged k)) ≡ (if k then 0 else 1)
acked-number r true = refl
acked-number r false = refl

pub number-back : (r : HeardReq) (n : ℕ) → n < 2 ^ 64 → told_number (text_in r (Replied (U64 n) [])) ≡ n
number-back r n small = little_number-reads_back 8 n [] small

pub area-back : (r : HeardReq) (area : VhostUserInflight) (hs : List PlainHandle) → InflightFits area → told_area (text_in r (Replied (InflightArea area) hs)) ≡ area
area-back r area hs fits = inflight-reads_back area fits

pub or-again : (n m : ℕ) → bit_or (bit_or n m) m ≡ bit_or n m
or-again n m = let e = or_add_and (bit_or n m) m in let f = and_or_self m n in omega (arith, e, f)
