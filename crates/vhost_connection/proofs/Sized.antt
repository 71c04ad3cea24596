-- What is made of a reply that came in by its header.
use Rattle.std.proofs.Common.{◌≡◌, ℕ, ◌+◌, ◌-◌, ◌<◌, ◌≤◌, List, [], ◌++◌, length, take, drop, refl, sym, ap, ◌∙◌, arith, lit≤, Bool, true, false, ◌&&◌, cond, Option, Some, None, Result, Ok, Err, Vec, eqb-true, subst}
use Rattle.std.specs.Prelude.{not, is_some, ◌==◌, ◌||◌}
use Rattle.std.specs.Global.{Global}
use Rattle.std.proofs.lemmas.List.{append-nil, drop_all, drop-take, take-take, length-drop}
use Rattle.vhost_message.specs.declared.error.Error as declared
use Rattle.vhost_message.specs.declared.error.Error.TheVariants as code
use Rattle.vhost_message.specs.declared.header.VhostUserMsgHeader.{VhostUserMsgHeader}
use Rattle.vhost_message.specs.declared.records.config.VhostUserConfig.{VhostUserConfig}
use Rattle.vhost_message.specs.Header.{Header, header_of, is_valid_header, is_reply_for}
use Rattle.vhost_message.specs.MsgHeader.{fields_of, of_fields}
use Rattle.vhost_message.specs.Records.{config_of}
use Rattle.vhost_message.specs.Text.{number_at}
use Rattle.vhost_message.specs.Valid.{is_valid_config}
use Rattle.vhost_protocol.specs.declared.profile.Profile.TheVariants.{Standard}
use Rattle.vhost_protocol.specs.Error.{Error, PartialMessage, InvalidMessage}
use Rattle.vhost_protocol.specs.ReplySplit.{Received, whole_split, has_size, has_config_size, is_right, apart, parted, then_made, sized_split, is_empty_reply, parted_or_none}
use Rattle.vhost_protocol.specs.Stream.{Cell, bytes, first_handles, has_some, items}
use Rattle.vhost_link.specs.Law.{Event}
use Rattle.vhost_link.proofs.Cells.{length-bytes}
use Rattle.vhost_connection.specs.declared.list.Front.{Front}
use Rattle.vhost_connection.specs.Asking.{is_known_by, Comes, Missing, RecvsReply}
use Rattle.vhost_connection.specs.Asking.Missing.{unfit, none, failed}
use Rattle.vhost_connection.specs.Calls.{HandsOver}
use Rattle.vhost_connection.specs.Came.{Came, CutShort, Alone}
use Rattle.vhost_connection.specs.Front.{gives}
use Rattle.vhost_connection.specs.Hearing.{HearsReply, broken_on}
use Rattle.vhost_connection.specs.Pass.{receives}
use Rattle.vhost_connection.specs.Talk.{State, IfSound}
use Rattle.vhost_connection.specs.Whole.{IsWhole, ReadsNone, ReadsWhole, RecvsAny, bytes_cut, ReadsOrNone}
use Rattle.vhost_connection.specs.Whole.ReadsNone.{ended, refused, short}
use Rattle.vhost_connection.proofs.Bare.{none-is}
use Rattle.vhost_connection.proofs.Came.{came-all, came-listed, came-given}
use Rattle.vhost_connection.proofs.Failing.{trouble-breaks}
use Rattle.vhost_connection.proofs.Replies.{known-is, replies-by}
use Rattle.vhost_connection.proofs.Whole.{whole_in, body-whole}

second-true : (a b : Bool) → (a && b) ≡ true → b ≡ true
second-true true b e = e
second-true false b e = absurd (cc e)

-- ---- what is made of what was received

made : {A B : Type 0} → (A → Result B Error) → Result A Error → Result B Error
made make (Ok a) = make a
made make (Err e) = Err e

module _ {A H : Type 0} (is_known is_awaited : Header → Bool) (make : Received H → Result A Error) where
  made-is : (x : Result (Received H) Error × List (Cell H)) → then_made is_known make x ≡ (made make x.0, x.1)
  unfolding made
  made-is (Ok r, rest) = refl
  made-is (Err e, rest) = refl

  -- a reply that came is made into this
  pub hears-made : {L : Type 0} {event : L → Event H → L → Type 0} {old new : State L H} (r : Received H) (o : Result A Error) → make r ≡ o → HearsReply event (whole_split is_awaited) old (Ok r) new
      → HearsReply event (λ cells. then_made is_known make (whole_split is_awaited cells)) old o new
  unfolding made
  hears-made {event = event} {old} {new} r o e h =
      subst (λ y. HearsReply event (λ cells. then_made is_known make (whole_split is_awaited cells)) old y new) e (replies-by (made make) (Ok r) (λ cells. made-is (whole_split is_awaited cells)) h)

  -- and so is none
  pub none-made : {L : Type 0} {event : L → Event H → L → Type 0} {old : State L H} (e : declared.Error) (new : State L H) → ReadsNone event (whole_split is_awaited) old e new
      → ReadsNone event (λ cells. then_made is_known make (whole_split is_awaited cells)) old e new
  unfolding made
  none-made e new (ended h l) = ended (replies-by (made make) (Err PartialMessage) (λ cells. made-is (whole_split is_awaited cells)) h) l
  none-made e new (refused h l) = refused (replies-by (made make) (Err InvalidMessage) (λ cells. made-is (whole_split is_awaited cells)) h) l
  none-made e new (short len cs f) = short len cs f

-- where none came, errors of the link break the endpoint
pub none-missing : {R L H : Type 0} {event : L → Event H → L → Type 0} {request_of : ℕ → Option R} {cut : List (Cell H) → Result (Received H) Error × List (Cell H)} {old : State L H} {sent : Header} (e : declared.Error) (new : State L H)
    → ReadsNone event cut old e new → Missing event request_of cut old sent e (broken_on e new)
none-missing e new (ended h l) = none h l
none-missing e new (refused h l) = none h l
none-missing {event = event} {old = old} e new (short len cs f) = failed (trouble-breaks event old IfSound false (receives (items cs) f.retries) e new f.trouble refl (lit≤ tt))

-- ---- a whole reply

module _ {R L H : Type 0} (event : L → Event H → L → Type 0) (request_of : ℕ → Option R) (is_awaited : Header → Bool) (old mid : State L H) {cs : List (Cell H)} (h : VhostUserMsgHeader R) (hs : List H) (text : List ℕ)
    (m : Came event old Alone (12 + (fields_of h).size) cs false mid) (w : IsWhole is_awaited cs h hs text) where
  abbrev pub known : Header → Bool
  known = is_known_by request_of

  abbrev pub reply : Received H
  reply = whole_in known cs

  head : header_of (take 12 (bytes cs)) ≡ fields_of h
  head = ap (λ (x : VhostUserMsgHeader R). fields_of x) (sym w.header)

  size-is : (header_of (take 12 (bytes cs))).size ≡ (fields_of h).size
  size-is = ap (λ (x : Header). x.size) head

  hears : {list : Bool} {new : State L H} → Came event old Alone (12 + (fields_of h).size) cs list new → (has_some (first_handles cs) ≡ false → list ≡ true) → HearsReply event (whole_split is_awaited) old (Ok reply) new
  hears k kept = record {
    hears = record {
      cells = cs;
      ended = false;
      retries = k.retries;
      serves = came-all k (omega (arith, w.size));
      splits = body-whole is_awaited cs (ap is_awaited head ∙ w.known) (w.size ∙ ap (λ n. 12 + n) (sym size-is));
    };
    list = λ bare. k.listed ∙ kept bare;
  }

  -- its list of handles is taken back
  pub hears-kept : (new : State L H) → new ≡ record mid { list = true } → HearsReply event (whole_split is_awaited) old (Ok reply) new
  hears-kept new s = hears (came-listed m s) (λ _. refl)

  kept-list : (new : State L H) → new ≡ record mid { list = true } → new.list ≡ true
  kept-list new s = ap (λ (x : State L H). x.list) s

  -- or given away, where there are handles in it
  given : (new : State L H) (lent : List H) → lent ≡ hs → new ≡ gives mid lent → Came event old Alone (12 + (fields_of h).size) cs (not (has_some (first_handles cs))) new
  given new lent same s = came-given m lent refl s (same ∙ w.handles)

  pub hears-given : (new : State L H) (lent : List H) → lent ≡ hs → new ≡ gives mid lent → HearsReply event (whole_split is_awaited) old (Ok reply) new
  hears-given new lent same s = hears (given new lent same s) (λ e. ap not e)

  given-list : (new : State L H) (lent : List H) → lent ≡ hs → new ≡ gives mid lent → new.list ≡ not (has_some reply.handles)
  given-list new lent same s = (given new lent same s).listed

  -- the text holds its body
  long : length (drop 12 (bytes cs)) ≡ (fields_of h).size
  long = length-drop 12 (bytes cs) ∙ omega (arith, length-bytes cs, w.size)

  part-is : (n : ℕ) → n ≤ (fields_of h).size → take n text ≡ take n (drop 12 (bytes cs))
  part-is n le = sym (take-take n (fields_of h).size text le) ∙ ap (take n) w.body

  behind-is : (n more : ℕ) → (fields_of h).size ≡ n + more → drop n (drop 12 (bytes cs)) ≡ take ((fields_of h).size - n) (drop n text)
  behind-is n more e =
      ap (drop n) (sym w.body) ∙ ap (λ k. drop n (take k text)) e ∙ drop-take n more text ∙ ap (λ k. take k (drop n text)) (omega (arith, e))

  answers-is : (sent : Header) → is_reply_for request_of reply.header sent ≡ is_reply_for request_of (fields_of h) sent
  answers-is sent = ap (λ x. is_reply_for request_of x sent) head

  -- ---- of any size

  pub any-comes : (sent : Header) (new : State L H) (lent : List H) (given_on : Option (Vec H Global)) → is_awaited ≡ known → is_reply_for request_of (fields_of h) sent ≡ true → lent ≡ hs → new ≡ gives mid lent → HandsOver given_on lent
      → RecvsAny event request_of old sent (Ok given_on) new
  any-comes sent new lent given_on test ok same s over = (
    reply,
    record { hears = subst (λ t. HearsReply event (whole_split t) old (Ok reply) new) test (hears-given new lent same s); answers = answers-is sent ∙ ok; list = given-list new lent same s },
    subst (λ ks. HandsOver given_on ks) (same ∙ w.handles) over,
  )

  pub any-unfit : (sent : Header) (new : State L H) → is_awaited ≡ known → is_reply_for request_of (fields_of h) sent ≡ false → new ≡ record mid { list = true } → RecvsAny event request_of old sent (Err code.InvalidMessage) new
  any-unfit sent new test bad s = unfit reply (subst (λ t. HearsReply event (whole_split t) old (Ok reply) new) test (hears-kept new s)) (answers-is sent ∙ bad)

  -- ---- with a record, and what fills the room

  module _ {T : Type 0} (count : ℕ) (read : List ℕ → T) (valid : T → Bool) (sent : Header) (before after : List ℕ) (new : State L H) where
    room : ℕ
    room = length before

    test : List ℕ → Bool
    test bs = valid (read bs)

    parts : Received H → Result (Received H) Error
    parts = parted known count test (length before)

    -- the reply is made into this
    heard-as : (o : Result (Received H) Error) → parts reply ≡ o → is_awaited ≡ has_size known (count + length before) → HearsReply event (whole_split is_awaited) old (Ok reply) new → HearsReply event (sized_split known count (λ bs. valid (read bs)) (length before)) old o new
    unfolding parts test
    heard-as o is sizes k = subst (λ t. HearsReply event (λ cells. then_made known parts (whole_split t cells)) old o new) sizes (hears-made known is_awaited parts reply o is k)

    module _ (sizes : is_awaited ≡ has_size known (count + length before)) (t : T) (is_t : t ≡ read (take count text)) where
      sum : ((fields_of h).size == count + length before) ≡ true
      sum = second-true (known (fields_of h)) ((fields_of h).size == count + length before) (ap (λ a. a (fields_of h)) (sym sizes) ∙ w.known)

      full : (fields_of h).size ≡ count + length before
      full = eqb-true (fields_of h).size (count + length before) sum

      record-is : t ≡ read (take count (drop 12 (bytes cs)))
      record-is = is_t ∙ ap read (part-is count (omega (arith, full)))

      made-as : (b : Bool) → valid t ≡ b → parts reply ≡ cond b (Ok (apart known count reply)) (Err InvalidMessage)
      unfolding parts test
      made-as b e =
          ap (λ x. cond (x && valid (read (take count (drop 12 (bytes cs))))) (Ok (apart known count reply)) (Err InvalidMessage)) (ap (λ n. n == count + length before) size-is ∙ sum)
          ∙ ap (λ x. cond (valid x) (Ok (apart known count reply)) (Err InvalidMessage)) (sym record-is)
          ∙ ap (λ x. cond x (Ok (apart known count reply)) (Err InvalidMessage)) e

      pub bad-record : valid t ≡ false → new ≡ record mid { list = true } → RecvsReply event known request_of Standard count read valid old sent before (Err code.InvalidMessage) after new
      bad-record bad s = none (heard-as (Err InvalidMessage) (made-as false bad) sizes (hears-kept new s)) (kept-list new s)

      pub sized-unfit : valid t ≡ true → is_reply_for request_of (fields_of h) sent ≡ false → new ≡ record mid { list = true } → RecvsReply event known request_of Standard count read valid old sent before (Err code.InvalidMessage) after new
      sized-unfit ok bad s =
          unfit (apart known count reply) (heard-as (Ok (apart known count reply)) (made-as true ok) sizes (hears-kept new s)) (answers-is sent ∙ bad)

      pub sized-comes : (s : ℕ) (lent : List H) (given_on : Option (Vec H Global)) → valid t ≡ true → is_reply_for request_of (fields_of h) sent ≡ true → s ≡ (fields_of h).size → lent ≡ hs → new ≡ gives mid lent → HandsOver given_on lent
          → after ≡ take ((fields_of h).size - count) (drop count text) → RecvsReply event known request_of Standard count read valid old sent before (Ok (s, t, length before, given_on)) after new
      sized-comes s lent given_on ok answered said same is over filled =
          let payload : drop count (drop 12 (bytes cs)) ≡ after = behind-is count (length before) full ∙ sym filled in
          let fills : length before ≡ length (drop count (drop 12 (bytes cs))) = sym (length-drop count (drop 12 (bytes cs)) ∙ omega (arith, long, full)) in (
            apart known count reply,
            record {
              hears = heard-as (Ok (apart known count reply)) (made-as true ok) sizes (hears-given new lent same is);
              answers = answers-is sent ∙ answered;
              list = given-list new lent same is;
            },
            said ∙ sym size-is,
            record-is,
            ok,
            fills,
            sym payload ∙ sym (append-nil (drop count (drop 12 (bytes cs)))) ∙ ap (λ ys. drop count (drop 12 (bytes cs)) ++ ys) (sym (drop_all (length before) before (omega arith))),
            subst (λ ks. HandsOver given_on ks) (same ∙ w.handles) over,
          )

  -- ---- with configuration bytes

  module _ (sent : Header) (before after : List ℕ) (new : State L H) (sizes : is_awaited ≡ has_config_size known (length before)) (part : VhostUserConfig) (is_part : part ≡ config_of (take 12 text)) where
    abbrev make : Received H → Result (Option (Received H)) Error
    make r = parted_or_none known (λ x. is_reply_for request_of x sent) (λ bs. is_valid_config (config_of bs)) (length before) r

    -- the test of an empty reply, as the code makes it
    abbrev pub empty_test : List H → Bool
    empty_test lent = is_reply_for request_of (fields_of h) sent && length lent == 0 && ((fields_of h).size == 0 || (fields_of h).size == 12 && part.size == 0)

    -- where the body is the record alone, it lies in the text
    bare-is : ((fields_of h).size == 12 && number_at 4 4 (drop 12 (bytes cs)) == 0) ≡ ((fields_of h).size == 12 && part.size == 0)
    bare-is = go ((fields_of h).size == 12) refl
      where
        go : (b : Bool) → ((fields_of h).size == 12) ≡ b → (b && number_at 4 4 (drop 12 (bytes cs)) == 0) ≡ (b && part.size == 0)
        go false e = refl
        go true e =
            let n : (fields_of h).size ≡ 12 = eqb-true (fields_of h).size 12 e in
            let body : take 12 text ≡ drop 12 (bytes cs) = ap (λ k. take k text) (sym n) ∙ w.body in
            ap (λ bs. number_at 4 4 bs == 0) (sym body) ∙ ap (λ (c : VhostUserConfig). c.size == 0) (sym is_part)

    empty-is : (lent : List H) → lent ≡ hs → is_empty_reply known (λ x. is_reply_for request_of x sent) reply ≡ empty_test lent
    empty-is lent same =
        let bare : Bool = number_at 4 4 (drop 12 (bytes cs)) == 0 in
        ap (λ b. b && not (has_some (first_handles cs)) && (reply.header.size == 0 || reply.header.size == 12 && bare)) (answers-is sent)
        ∙ ap (λ ks. is_reply_for request_of (fields_of h) sent && not (has_some ks) && (reply.header.size == 0 || reply.header.size == 12 && bare)) (sym (same ∙ w.handles))
        ∙ ap (λ b. is_reply_for request_of (fields_of h) sent && b && (reply.header.size == 0 || reply.header.size == 12 && bare)) (sym (none-is lent))
        ∙ ap (λ n. is_reply_for request_of (fields_of h) sent && length lent == 0 && (n == 0 || n == 12 && bare)) size-is
        ∙ ap (λ b. is_reply_for request_of (fields_of h) sent && length lent == 0 && ((fields_of h).size == 0 || b)) bare-is

    right-is : (c : Bool) → ((fields_of h).size == 12 + length before && is_valid_config part) ≡ c → is_right known 12 (λ bs. is_valid_config (config_of bs)) (length before) reply ≡ c
    right-is c e = ap (λ n. n == 12 + length before && is_valid_config (config_of (take 12 (drop 12 (bytes cs))))) size-is ∙ go ((fields_of h).size == 12 + length before) refl ∙ e
      where
        go : (b : Bool) → ((fields_of h).size == 12 + length before) ≡ b → (b && is_valid_config (config_of (take 12 (drop 12 (bytes cs))))) ≡ (b && is_valid_config part)
        go false is = refl
        go true is =
            let n : (fields_of h).size ≡ 12 + length before = eqb-true (fields_of h).size (12 + length before) is in
            ap (λ bs. is_valid_config (config_of bs)) (sym (part-is 12 (omega (arith, n)))) ∙ ap is_valid_config (sym is_part)

    made-so : (lent : List H) (e c : Bool) → lent ≡ hs → empty_test lent ≡ e → ((fields_of h).size == 12 + length before && is_valid_config part) ≡ c
        → make reply ≡ cond e (Ok None) (cond c (Ok (Some (apart known 12 reply))) (Err InvalidMessage))
    made-so lent e c same empty right =
        ap (λ b. cond b (Ok None) (cond (is_right known 12 (λ bs. is_valid_config (config_of bs)) (length before) reply) (Ok (Some (apart known 12 reply))) (Err InvalidMessage))) (empty-is lent same ∙ empty)
        ∙ ap (λ b. cond e (Ok None) (cond b (Ok (Some (apart known 12 reply))) (Err InvalidMessage))) (right-is c right)

    -- the reply is made into this
    heard-so : (o : Result (Option (Received H)) Error) → make reply ≡ o → HearsReply event (whole_split is_awaited) old (Ok reply) new → HearsReply event (bytes_cut event request_of sent (length before)) old o new
    heard-so o is k = subst (λ t. HearsReply event (λ cells. then_made known make (whole_split t cells)) old o new) sizes (hears-made known is_awaited make reply o is k)

    -- there are no such bytes
    pub config-none : (lent : List H) → lent ≡ hs → empty_test lent ≡ true → new ≡ record mid { list = true } → ReadsOrNone event request_of sent old before (Ok None) after new
    config-none lent same empty s = heard-so (Ok None) (made-so lent true _ same empty refl) (hears-kept new s)

    -- it has another size, or no valid record
    pub config-refused : (lent : List H) → lent ≡ hs → empty_test lent ≡ false → ((fields_of h).size == 12 + length before && is_valid_config part) ≡ false → new ≡ record mid { list = true }
        → ReadsOrNone event request_of sent old before (Err code.InvalidMessage) after new
    config-refused lent same some wrong s = refused (heard-so (Err InvalidMessage) (made-so lent false false same some wrong) (hears-kept new s)) (kept-list new s)

    -- they came
    pub config-comes : (lent others : List H) (given_on : Option (Vec H Global)) → lent ≡ hs → others ≡ hs → empty_test lent ≡ false → ((fields_of h).size == 12 + length before && is_valid_config part) ≡ true → new ≡ gives mid others → HandsOver given_on others
        → after ≡ take ((fields_of h).size - 12) (drop 12 text) → ReadsOrNone event request_of sent old before (Ok (Some (h, part, length before, given_on))) after new
    config-comes lent others given_on same same_too some right is over filled =
        let n : (fields_of h).size ≡ 12 + length before = eqb-true (fields_of h).size (12 + length before) (first ((fields_of h).size == 12 + length before) (is_valid_config part) right) in
        let payload : drop 12 (drop 12 (bytes cs)) ≡ after = behind-is 12 (length before) n ∙ sym filled in (
          apart known 12 reply,
          heard-so (Ok (Some (apart known 12 reply))) (made-so lent false true same some right) (hears-given new others same_too is),
          head,
          is_part ∙ ap config_of (part-is 12 (omega (arith, n))),
          sym (length-drop 12 (drop 12 (bytes cs)) ∙ omega (arith, long, n)),
          sym payload ∙ sym (append-nil (drop 12 (drop 12 (bytes cs)))) ∙ ap (λ ys. drop 12 (drop 12 (bytes cs)) ++ ys) (sym (drop_all (length before) before (omega arith))),
          subst (λ ks. HandsOver given_on ks) (same_too ∙ w.handles) over,
        )
      where
        first : (a b : Bool) → (a && b) ≡ true → a ≡ true
        first true b e = refl
        first false b e = absurd cc

-- ---- none came

module _ {R L H : Type 0} {event : L → Event H → L → Type 0} {request_of : ℕ → Option R} {old : State L H} {sent : Header} where
  pub sized-missing : (count : ℕ) (valid : List ℕ → Bool) (room : ℕ) (e : declared.Error) (new : State L H) → ReadsNone event (whole_split (has_size (is_known_by request_of) (count + room))) old e new
      → Missing event request_of (sized_split (is_known_by request_of) count valid room) old sent e (broken_on e new)
  sized-missing count valid room e new x = none-missing e new (none-made (is_known_by request_of) (has_size (is_known_by request_of) (count + room)) (parted (is_known_by request_of) count valid room) e new x)

module _ {R L H : Type 0} (event : L → Event H → L → Type 0) (request_of : ℕ → Option R) (old : State L H) (sent : Header) (before after : List ℕ) where
  pub config-missing : (e : declared.Error) (new : State L H) → ReadsNone event (whole_split (has_config_size (is_known_by request_of) (length before))) old e new → ReadsOrNone event request_of sent old before (Err e) after new
  config-missing e new x =
      none-made (is_known_by request_of) (has_config_size (is_known_by request_of) (length before)) (λ r. parted_or_none (is_known_by request_of) (λ y. is_reply_for request_of y sent) (λ bs. is_valid_config (config_of bs)) (length before) r) e new x

pub both-true : (a b : Bool) → a ≡ true → b ≡ true → (a && b) ≡ true
both-true true b e f = f
both-true false b e f = absurd cc
