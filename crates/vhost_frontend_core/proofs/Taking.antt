-- The half that takes, from what was received.
use Rattle.std.proofs.Common.{◌≡◌, ℕ, List, [], ◌∷◌, Bool, true, false, Option, Some, Result, Ok, Err, Vec, refl, sym, ap, subst, ◌∙◌}
use Rattle.std.specs.Prelude.{is_some, if◌then◌else◌, ◌&&◌, ◌==◌, length, ⊤}
use Rattle.std.specs.Global.{Global}
use Rattle.vhost_message.specs.declared.error.Error as declared
use Rattle.vhost_message.specs.declared.error.Error.TheVariants as code
use Rattle.vhost_message.specs.Bits.{has_bit}
use Rattle.vhost_message.specs.Header.{Header}
use Rattle.vhost_message.specs.Records.{u64_at}
use Rattle.vhost_message.specs.declared.records.inflight.VhostUserInflight.{VhostUserInflight}
use Rattle.vhost_protocol.specs.Stream.{Cell, has_some}
use Rattle.vhost_protocol.specs.Error.{Error, InvalidParam, InvalidMessage, seen, seen_result}
use Rattle.vhost_protocol.specs.FrontendCall.{FrontendCall, Frontend, Value, HandleOf, InflightOf}
use Rattle.vhost_protocol.specs.Profile.{is_standard}
use Rattle.vhost_protocol.specs.declared.asked.Shape.{Shape}
use Rattle.vhost_protocol.specs.declared.profile.Profile.{Profile}
use Rattle.vhost_protocol.specs.declared.asked.Awaited.{Awaited}
use Rattle.vhost_protocol.specs.declared.asked.Awaited.TheVariants.{Nobody, Ack, Reply}
use Rattle.vhost_protocol.specs.AnswerTable.{Answered, answered, answer, after_success, plain_value, one_or_none, inflight_reply}
use Rattle.vhost_protocol.specs.Served.{Acknowledged, Replied}
use Rattle.vhost_protocol.specs.ReplySplit.{Received}
use Rattle.vhost_protocol.specs.Take.{is_sized, understood, payload_of, take, take_reply}
use Rattle.vhost_link.specs.Law.{Event}
use Rattle.vhost_connection.specs.Talk.{State}
use Rattle.vhost_connection.specs.Calls.{HandsOver}
use Rattle.vhost_connection.specs.Hearing.{HearsReply}
use Rattle.vhost_frontend_core.specs.Taking.{reply_cut, valued, one_unless, Comes, Missing, Awaits, AwaitsAlone, Acks, IsAck, Reads, Takes}
use Rattle.vhost_connection.specs.Asking.Missing.{unfit, none, failed}
use Rattle.vhost_frontend_core.specs.Taking.Awaits.{is_reply, is_request}
use Rattle.vhost_frontend_core.specs.Taking.AwaitsAlone.{alone, crowded, absent}
use Rattle.vhost_frontend_core.specs.Taking.RecvsAck.{agreed, refused, crowded_ack, unacked}
use Rattle.vhost_frontend_core.specs.Taking.Acks.{unasked, asked_for}
use Rattle.vhost_frontend_core.specs.Taking.Reads.{unread, read}
use Rattle.vhost_frontend_core.specs.Taking.Takes.{taken, stopped}
use Rattle.vhost_connection.proofs.Replies.{replies-by}
use Rattle.vhost_connection.proofs.Handed.{hands-none, hands-some, nonzero}

-- an answer that was taken, in another form
module _ {L H A B : Type 0} {event : L → Event H → L → Type 0} {call : FrontendCall H} {value : A → Value H} {other : B → Value H} {asked : Awaited} {sent : Header} {old : State L H} {f : Frontend} where
  pub shown-as : {new : State L H} {f' : Frontend} {a : A} (b : B) → value a ≡ other b → Takes event call value asked sent old f (Ok a) new f' → Takes event call other asked sent old f (Ok b) new f'
  shown-as {new} {f'} b is (taken reads) = taken (subst (λ (v : Value H). Reads event call asked sent f old (Some (answered f' (Ok v))) new) is reads)

  pub missing-as : {new : State L H} {f' : Frontend} {e : declared.Error} → Takes event call value asked sent old f (Err e) new f' → Takes event call other asked sent old f (Err e) new f'
  missing-as (taken reads) = taken reads
  missing-as (stopped fails) = stopped fails

module _ {T L H : Type 0} {event : L → Event H → L → Type 0} {profile : Profile} {size : ℕ} {decode : List ℕ → T} {valid : T → Bool} where
  -- a reply that was received has no handle, or some
  pub alone-comes : {old new : State L H} {sent : Header} {t : T} (hs : Option (Vec H Global)) → Awaits event profile size decode valid old sent (Ok (t, hs)) new → is_some hs ≡ false → AwaitsAlone event profile size decode valid old sent (Ok t) new
  alone-comes hs (is_request plain x) e = alone x.0 plain x.1 x.2 x.3 (hands-none hs x.0.handles x.4 e)

  pub alone-crowded : {old new : State L H} {sent : Header} {t : T} (hs : Option (Vec H Global)) → Awaits event profile size decode valid old sent (Ok (t, hs)) new → is_some hs ≡ true
      → AwaitsAlone event profile size decode valid old sent (Err code.InvalidMessage) new
  alone-crowded hs (is_request plain x) e = crowded x.0 plain x.1 (hands-some hs x.0.handles x.4 e)

module _ {L H : Type 0} {event : L → Event H → L → Type 0} where
  -- ---- acknowledgements

  -- what is awaited, by another name
  pub acks-as : {profile : Profile} {old new : State L H} {sent : Header} {asked other : Awaited} {result : Result ⊤ declared.Error} → asked ≡ other → Acks event profile old sent asked result new → Acks event profile old sent other result new
  acks-as {profile} {old} {new} {sent} {result = result} e x = subst (λ (a : Awaited). Acks event profile old sent a result new) e x

  module _ (call : FrontendCall H) {sent : Header} {f : Frontend} {old : State L H} where
    reads-ack : {new : State L H} (o : Result (Received H) Error) {x : Answered H} → HearsReply event (reply_cut f.profile 8 (λ bs. true) 0) old o new → understood call Ack sent f o ≡ Some x → Reads event call Ack sent f old (Some x) new
    reads-ack {new} o h e = read (subst (λ y. HearsReply event (take call Ack sent f) old y new) e (replies-by (λ r. understood call Ack sent f r) o (λ cells. refl) h))

    -- the call succeeded
    acked-ok : {new : State L H} (asked : Awaited) → IsAck asked → Acks event f.profile old sent asked (Ok tt) new → Reads event call asked sent f old (Some (answered (after_success f call) (Ok (plain_value call)))) new
    acked-ok Nobody is (unasked e) = unread (λ cells. refl)
    acked-ok Nobody is (asked_for waits x) = absurd (waits refl)
    acked-ok Ack is (unasked e) = absurd cc
    acked-ok Ack is (asked_for waits (agreed r x zero none_came)) = reads-ack (Ok r) x.hears (rw (x.answers, none_came, zero) refl)
    acked-ok (Reply shape) is x = absurd is

    -- it failed
    pub acked-err : {new : State L H} {A : Type 0} {value : A → Value H} {e : declared.Error} (asked : Awaited) → IsAck asked → Acks event f.profile old sent asked (Err e) new → Takes event call value asked sent old f (Err e) new f
    acked-err Nobody is (asked_for waits x) = absurd (waits refl)
    acked-err Ack is (asked_for waits (refused r x some none_came)) = taken (reads-ack (Ok r) x.hears (rw (x.answers, none_came, some) refl))
    acked-err Ack is (asked_for waits (crowded_ack r x some)) = taken (reads-ack (Ok r) x.hears (rw x.answers (many r.handles some)))
      where
        many : (hs : List H) → has_some hs ≡ true → (if length hs == 0 then answer call Ack f (Acknowledged (u64_at 0 r.body == 0)) else Some (answered f (Err InvalidMessage))) ≡ Some (answered f (Err InvalidMessage))
        many [] e = absurd cc
        many (h ∷ hs) e = rw (nonzero (length (h ∷ hs)) (λ e. cc)) refl
    acked-err Ack is (asked_for waits (unacked (unfit r x bad))) = taken (reads-ack (Ok r) x (rw bad refl))
    acked-err {e = e} Ack is (asked_for waits (unacked (none x listed))) = taken (reads-ack (Err (seen e)) x refl)
    acked-err Ack is (asked_for waits (unacked (failed x))) = stopped x
    acked-err (Reply shape) is x = absurd is

    -- the call succeeded, with this answer
    pub succeeds : {new : State L H} {A : Type 0} {value : A → Value H} (a : A) (asked : Awaited) {f' : Frontend} → value a ≡ plain_value call → f' ≡ after_success f call → IsAck asked → Acks event f.profile old sent asked (Ok tt) new
        → Takes event call value asked sent old f (Ok a) new f'
    succeeds {new} {value = value} a asked {f'} e same is x =
        taken (subst (λ y. Reads event call asked sent f old (Some y) new) (ap (λ (g : Frontend). answered g (Ok (plain_value call))) (sym same) ∙ ap (λ (v : Value H). answered f' (Ok v)) (sym e)) (acked-ok asked is x))

    -- it failed, and the session is as before
    pub failed-as : {new : State L H} {A : Type 0} {value : A → Value H} {e : declared.Error} (asked : Awaited) {f' : Frontend} → f' ≡ f → IsAck asked → Acks event f.profile old sent asked (Err e) new → Takes event call value asked sent old f (Err e) new f'
    failed-as {new} {value = value} {e} asked same is x = subst (λ (g : Frontend). Takes event call value asked sent old f (Err e) new g) (sym same) (acked-err asked is x)

    -- a call that only answers whether it succeeded, and leaves the session as it is
    pub acked : {new : State L H} {asked : Awaited} {f' : Frontend} {value : ⊤ → Value H} {result : Result ⊤ declared.Error} → value tt ≡ plain_value call → after_success f call ≡ f → IsAck asked → f' ≡ f
        → Acks event f.profile old sent asked result new → Takes event call value asked sent old f result new f'
    acked {asked = asked} {result = Ok u} e after is same x = succeeds u asked e (same ∙ sym after) is x
    acked {asked = asked} {result = Err error} e after is same x = failed-as asked same is x

  -- ---- replies

  module _ (call : FrontendCall H) (shape : Shape) (size room : ℕ) (valid : List ℕ → Bool) {sent : Header} {f : Frontend} {old : State L H}
      (by : (cells : List (Cell H)) → take_reply call shape sent f cells ≡ (understood call (Reply shape) sent f (reply_cut f.profile size valid room cells).0, (reply_cut {H = H} f.profile size valid room cells).1)) where
    pub reads-reply : {new : State L H} (o : Result (Received H) Error) {x : Answered H} → has_bit sent.flags 2 ≡ false → HearsReply event (reply_cut f.profile size valid room) old o new → understood call (Reply shape) sent f o ≡ Some x
        → Reads event call (Reply shape) sent f old (Some x) new
    reads-reply {new} o plain h e =
        read (subst (λ y. HearsReply event (take call (Reply shape) sent f) old y new) e
        (replies-by (λ r. understood call (Reply shape) sent f r) o (λ cells. ap (λ b. if b then (Some (answered f (Err InvalidParam)), cells) else take_reply call shape sent f cells) plain ∙ by cells) h))

    -- the reply decides
    pub replied : {new : State L H} {x : Answered H} (r : Received H) → has_bit sent.flags 2 ≡ false → Comes event f.profile size valid room old sent r new → is_sized call r ≡ true
        → answer call (Reply shape) f (Replied (payload_of shape r.body r.payload) r.handles) ≡ Some x → Reads event call (Reply shape) sent f old (Some x) new
    replied r plain x sized e = reads-reply (Ok r) plain x.hears (rw (x.answers, sized) e)

    -- there is none
    pub reads-missing : {new : State L H} {A : Type 0} {value : A → Value H} {e : declared.Error} → has_bit sent.flags 2 ≡ false → Missing event f.profile size valid room old sent e new → Takes event call value (Reply shape) sent old f (Err e) new f
    reads-missing plain (unfit r x bad) = taken (reads-reply (Ok r) plain x (rw bad refl))
    reads-missing {e = e} plain (none x listed) = taken (reads-reply (Err (seen e)) plain x refl)
    reads-missing plain (failed x) = stopped x

    -- a request that was sent as a reply has none
    pub none-for-reply : {A : Type 0} {value : A → Value H} → has_bit sent.flags 2 ≡ true → Takes event call value (Reply shape) sent old f (Err code.InvalidParam) old f
    none-for-reply reply = taken (unread (λ cells. rw reply refl))

-- ---- replies that are one record

-- the call reads a record of this size, tested so
abbrev IsRead : {H : Type 0} → FrontendCall H → Shape → ℕ → (List ℕ → Bool) → Header → Frontend → Type 0
IsRead {H} call shape size valid sent f = (cells : List (Cell H)) → take_reply call shape sent f cells ≡ (understood call (Reply shape) sent f (reply_cut f.profile size valid 0 cells).0, (reply_cut {H = H} f.profile size valid 0 cells).1)

-- whatever size the header says
abbrev IsSized : {H : Type 0} → FrontendCall H → Type 0
IsSized {H} call = (r : Received H) → is_sized call r ≡ true

-- the answer to a reply, with these handles
abbrev answer_to : {H : Type 0} → FrontendCall H → Shape → Frontend → Received H → List H → Option (Answered H)
answer_to call shape f r hs = answer call (Reply shape) f (Replied (payload_of shape r.body r.payload) hs)

module _ {T L H : Type 0} {event : L → Event H → L → Type 0} {call : FrontendCall H} {shape : Shape} {size : ℕ} {decode : List ℕ → T} {valid : T → Bool} {sent : Header} {f : Frontend} {old : State L H} where
  -- there is none
  pub unreplied : {new : State L H} {f' : Frontend} {A : Type 0} {value : A → Value H} {e : declared.Error} → Awaits event f.profile size decode valid old sent (Err e) new → IsRead call shape size (λ bs. valid (decode bs)) sent f → f' ≡ f → Takes event call value (Reply shape) sent old f (Err e) new f'
  unreplied {new} {f'} {value = value} {e} x by same = subst (λ (g : Frontend). Takes event call value (Reply shape) sent old f (Err e) new g) (sym same) (go x)
    where
      go : {e : declared.Error} {new : State L H} → Awaits event f.profile size decode valid old sent (Err e) new → Takes event call value (Reply shape) sent old f (Err e) new f
      go (is_reply flag) = none-for-reply call shape size 0 (λ bs. valid (decode bs)) by flag
      go (is_request plain m) = reads-missing call shape size 0 (λ bs. valid (decode bs)) by plain m

  -- the answer from a reply, with whatever handles
  pub any-replied : {new : State L H} {f' : Frontend} {A : Type 0} {value : A → Value H} {result : Result A declared.Error} {t : T} {hs : Option (Vec H Global)} → Awaits event f.profile size decode valid old sent (Ok (t, hs)) new → IsRead call shape size (λ bs. valid (decode bs)) sent f → IsSized call
      → ((r : Received H) → t ≡ decode r.body → valid t ≡ true → HandsOver hs r.handles → answer_to call shape f r r.handles ≡ Some (answered f' (valued value result))) → Takes event call value (Reply shape) sent old f result new f'
  any-replied (is_request plain x) by sized e = taken (replied call shape size 0 (λ bs. valid (decode bs)) by x.0 plain x.1 (sized x.0) (e x.0 x.2 x.3 x.4))

  -- the answer from a reply that came alone
  pub alone-replied : {new : State L H} {f' : Frontend} {A : Type 0} {value : A → Value H} {result : Result A declared.Error} {t : T} → AwaitsAlone event f.profile size decode valid old sent (Ok t) new → IsRead call shape size (λ bs. valid (decode bs)) sent f → IsSized call
      → ((r : Received H) → t ≡ decode r.body → valid t ≡ true → answer_to call shape f r [] ≡ Some (answered f' (valued value result))) → Takes event call value (Reply shape) sent old f result new f'
  alone-replied (alone r plain x is ok none_came) by sized e = taken (replied call shape size 0 (λ bs. valid (decode bs)) by r plain x (sized r) (ap (λ hs. answer_to call shape f r hs) none_came ∙ e r is ok))

  -- no reply came alone
  pub alone-fails : {new : State L H} {f' : Frontend} {A : Type 0} {value : A → Value H} {e : declared.Error} → AwaitsAlone event f.profile size decode valid old sent (Err e) new → IsRead call shape size (λ bs. valid (decode bs)) sent f → IsSized call
      → ((r : Received H) (h : H) (hs : List H) → answer_to call shape f r (h ∷ hs) ≡ Some (answered f (Err InvalidMessage))) → f' ≡ f → Takes event call value (Reply shape) sent old f (Err e) new f'
  alone-fails {new} {f'} {value = value} (crowded r plain x some) by sized crowd same =
      subst (λ (g : Frontend). Takes event call value (Reply shape) sent old f (Err code.InvalidMessage) new g) (sym same) (taken (replied call shape size 0 (λ bs. valid (decode bs)) by r plain x (sized r) (many r.handles some)))
    where
      many : (hs : List H) → has_some hs ≡ true → answer_to call shape f r hs ≡ Some (answered f (Err InvalidMessage))
      many [] e = absurd cc
      many (h ∷ hs) e = crowd r h hs
  alone-fails (absent x) by sized crowd same = unreplied x by same

-- ---- one handle

-- it came, as a value of the definitions
pub one-valued : {H A : Type 0} (value : H → Value A) (says_none : Bool) (hs : List H) (r : Result H declared.Error) → one_unless says_none hs (λ h. h) ≡ seen_result r → one_unless says_none hs value ≡ valued value r
one-valued value says_none [] (Ok h) e = absurd cc
one-valued value says_none [] (Err x) e = cc
one-valued value says_none (h ∷ []) (Ok g) e = cc
one-valued value says_none (h ∷ []) (Err x) e = absurd cc
one-valued value says_none (h ∷ g ∷ hs) (Ok k) e = absurd cc
one-valued value says_none (h ∷ g ∷ hs) (Err x) e = cc

pub one-or-none : {H A : Type 0} (f : Frontend) (hs : List H) (value : H → A) → one_or_none f hs value ≡ one_unless (is_standard f.profile) hs value
one-or-none f [] value = refl
one-or-none f (h ∷ hs) value = refl

-- a reply that is one handle, where a frontend has that profile
pub one-handle : {H : Type 0} {f f' : Frontend} {standard : Bool} (hs : List H) (r : Result H declared.Error) → standard ≡ is_standard f'.profile → f' ≡ f → one_unless standard hs (λ h. h) ≡ seen_result r → one_or_none f hs HandleOf ≡ valued HandleOf r
one-handle {f = f} hs r by same told =
    one-or-none f hs HandleOf ∙ ap (λ b. one_unless b hs HandleOf) (sym (by ∙ ap (λ (g : Frontend). is_standard g.profile) same)) ∙ one-valued HandleOf _ hs r told

pub one-area : {H : Type 0} (f : Frontend) (i : VhostUserInflight) (hs : List H) → inflight_reply f i hs ≡ one_unless (is_standard f.profile && i.mmap_size == 0) hs (InflightOf i)
one-area f i [] = refl
one-area f i (h ∷ hs) = refl
