-- A request is read: its header, then its body.
use Rattle.std.proofs.Common.{◌≡◌, ℕ, ◌+◌, ◌<◌, ◌≤◌, Bool, true, false, ◌&&◌, ◌⊎◌, inl, inr, List, [], ◌∷◌, ◌++◌, length, Option, Some, None, Ok, Err, refl, sym, ◌∙◌, ap, subst, arith, nat_lt}
use Rattle.std.specs.Prelude.{is_some, ok_or, not, Vec}
use Rattle.std.specs.Global.{Global}
use Rattle.std.proofs.lemmas.List.{length-map, length-append}
use Rattle.std.proofs.lemmas.Bool.Decides.{nat_tests}
use Rattle.vhost_message.specs.declared.limits.TheConstants.{MAX_MSG_SIZE}
use Rattle.vhost_message.specs.declared.header.VhostUserMsgHeader.{VhostUserMsgHeader}
use Rattle.vhost_message.specs.declared.error.Error as declared
use Rattle.vhost_message.specs.declared.error.Error.TheVariants.{InvalidMessage, OutOfMemory}
use Rattle.vhost_message.specs.Header.{Header, header_of, is_valid_header}
use Rattle.vhost_message.specs.MsgHeader.{fields_of, of_fields}
use Rattle.vhost_protocol.specs.Error as protocol
use Rattle.vhost_protocol.specs.Error.{seen}
use Rattle.vhost_protocol.specs.Stream.{Cell, bytes, first_handles, brings_handles, has_some}
use Rattle.vhost_protocol.specs.Split.{split, Splits}
use Rattle.vhost_link.specs.Law.{Event, Move}
use Rattle.vhost_connection.specs.Talk.{State, Serves, IfSound, First, Trouble}
use Rattle.vhost_connection.specs.Talk.Trouble.{was_broken, no_memory, fault}
use Rattle.vhost_connection.specs.Came.{Came, CutShort, Begins, GoesOn, TakesIn}
use Rattle.vhost_connection.specs.Calls.{HandsOver, BroughtHandles, IsNoHeader}
use Rattle.vhost_connection.specs.Calls.IsNoHeader.{no_cell, no_header}
use Rattle.vhost_connection.specs.Calls.IsNoMessage.{too_few, not_valid}
use Rattle.vhost_connection.specs.Front.{ReadsHead, gives}
use Rattle.vhost_connection.specs.Requests.{ReadsMessage, ReadsNone, ReadsInPart, RequestHead, ReadsBehind}
use Rattle.vhost_connection.specs.declared.request.Request.{Request}
use Rattle.vhost_connection.specs.Hearing.{Hears}
use Rattle.vhost_connection.proofs.Asking.{begun, talks-begun}
use Rattle.vhost_connection.proofs.Came.{came-all, came-ended, came-listed, cut-few, Serves-gives, list-gives}
use Rattle.vhost_connection.proofs.More.{came-then, trouble-then}
use Rattle.vhost_protocol.proofs.Splitting.{head_in, message_in, Announces, no-byte, part-of-header, bad-header, unwanted-handles, cut-body, handles-in-body, whole-message}

module _ {L H A : Type 0} (event : L → Event H → L → Type 0) (cut : List (Cell H) → A × List (Cell H)) {old new : State L H} {len : ℕ} {cs : List (Cell H)} {list : Bool} {o : A} (m : Came event old Begins len cs list new) where
  -- what was received: all that was asked for
  hears-all : len ≤ length cs → Splits cut cs false o → Hears event cut old o new
  hears-all most s = record { cells = cs; ended = false; retries = m.retries; serves = came-all m most; splits = s }

  -- or up to the end
  hears-end : length cs < len → Splits cut cs true o → Hears event cut old o new
  hears-end short s = record { cells = cs; ended = true; retries = m.retries; serves = came-ended m short; splits = s }

ok-some : {R E : Type 0} (o : Option R) (e : E) (r : R) → ok_or o e ≡ Ok r → o ≡ Some r
ok-some None e r h = absurd (cc h)
ok-some (Some q) e r h = cc h

both-true : (a b : Bool) → (a && b) ≡ true → b ≡ true
both-true true b e = e
both-true false b e = absurd (cc e)

-- a valid header announces the request of its number
pub announces : {R H : Type 0} (request_of : ℕ → Option R) (cs : List (Cell H)) (x : VhostUserMsgHeader R) (r : R) (e : declared.Error)
    → length cs ≡ 12 → x ≡ of_fields (head_in cs) → (is_some (request_of (fields_of x).code) && is_valid_header (fields_of x)) ≡ true
    → ok_or (request_of (fields_of x).code) e ≡ Ok r → Announces request_of cs r
announces request_of cs x r e len is valid known =
    let same : fields_of x ≡ head_in cs = ap (λ (h : VhostUserMsgHeader _). fields_of h) is in
    record {
      long = len;
      valid = subst (λ h. is_valid_header h ≡ true) same (both-true (is_some (request_of (fields_of x).code)) (is_valid_header (fields_of x)) valid);
      code = subst (λ (h : Header). request_of h.code ≡ Some r) same (ok-some (request_of (fields_of x).code) e r known);
    }

-- The header of a request came: which it is, and that it may come with its handles.
pub record RequestCame {R L H : Type 0} (event : L → Event H → L → Type 0) (request_of : ℕ → Option R) (allowed : R → ℕ → Bool) (old : State L H) (cs : List (Cell H)) (r : R) (mid : State L H) : Type 0 where
  pub came : Came event old Begins 12 cs false mid
  pub announces : Announces request_of cs r
  pub allows : allowed r (length (first_handles cs)) ≡ true

-- whether the list of handles is given away makes no difference to what was heard
hears-gives : {L H A : Type 0} {event : L → Event H → L → Type 0} {cut : List (Cell H) → A × List (Cell H)} {old mid : State L H} {o : A} (hs : List H) → Hears event cut old o mid → Hears event cut old o (gives mid hs)
hears-gives hs h = record { cells = h.cells; ended = h.ended; retries = h.retries; serves = Serves-gives hs h.serves; splits = h.splits }

-- trouble of a call that has its list of handles is that of one which makes it first
trouble-first : {L H : Type 0} {event : L → Event H → L → Type 0} {old new : State L H} {limit : ℕ} {breaks : Bool} {m : Move H} (e : declared.Error) → old.list ≡ true → Trouble event old limit IfSound breaks m e new → Trouble event old limit First breaks m e new
trouble-first {old = old} e listed (was_broken b n s) = was_broken b n (s ∙ ap (λ (x : Bool). record old { list = x; faulted = false }) listed)
trouble-first e listed (no_memory w b l n s) = absurd (cc (sym listed ∙ l))
trouble-first e listed (fault c b t none most spent breaks faulted kept) = fault c b t none most spent breaks faulted kept

-- the size in the header
pub head-size : {R H : Type 0} {x : VhostUserMsgHeader R} (cs : List (Cell H)) → x ≡ of_fields (head_in cs) → (fields_of x).size ≡ (head_in cs).size
head-size cs e = ap (λ (x : VhostUserMsgHeader _). (fields_of x).size) e

module _ {R L H : Type 0} (event : L → Event H → L → Type 0) (request_of : ℕ → Option R) (allowed : R → ℕ → Bool) where
  -- why there is no message
  abbrev pub NoMessage : State L H → declared.Error → State L H → Type 0
  NoMessage old e new = ReadsNone event request_of allowed old (seen e) new ⊎ ReadsInPart event request_of allowed old e new

  in-part : (old new : State L H) (cs : List (Cell H)) (e : declared.Error) → old.list ≡ true → CutShort event old Begins 12 cs e new → ReadsInPart event request_of allowed old e new
  in-part old new [] e listed f = record { cells = []; retries = f.retries; none = protocol.Disconnected; short = no-byte request_of allowed; trouble = trouble-first e listed f.trouble }
  in-part old new (c ∷ cs) e listed f =
      record { cells = c ∷ cs; retries = f.retries; none = protocol.PartialMessage; short = part-of-header request_of allowed (c ∷ cs) (omega arith) (cut-few f (omega arith)); trouble = trouble-first e listed f.trouble }

  -- no header came
  pub head-failed : (old new : State L H) (e : declared.Error) → old.list ≡ true
      → ReadsHead event (λ bs. of_fields (header_of bs)) (λ (h : VhostUserMsgHeader R). is_some (request_of (fields_of h).code) && is_valid_header (fields_of h)) old (Err e) new → NoMessage old e new
  head-failed old new e listed (cs, inr f) = inr (in-part old new cs e listed f)
  head-failed old new e listed (cs, inl (m, bad)) = go e m bad
    where
      go : (y : declared.Error) → Came event old Begins 12 cs true new → IsNoHeader (λ bs. is_some (request_of (header_of bs).code) && is_valid_header (header_of bs)) cs y → NoMessage old y new
      go y m (no_cell none) =
          let short : length cs < 12 = omega (arith, ap length none) in
          inl (record { hears = hears-end event (split request_of allowed) m short (subst (λ xs. Splits (split request_of allowed) xs true (Err protocol.Disconnected)) (sym none) (no-byte request_of allowed)); list = m.listed })
      go y m (no_header some (too_few few)) = inl (record { hears = hears-end event (split request_of allowed) m few (part-of-header request_of allowed cs some few); list = m.listed })
      go y m (no_header some (not_valid most unfit)) = inl (record { hears = hears-all event (split request_of allowed) m most (bad-header request_of allowed cs (omega (arith, m.within)) unfit); list = m.listed })

  -- ---- behind a header

  allows-as : (r : R) (n : ℕ) (hs ks : List H) (tested b : Bool) → n ≡ length hs → hs ≡ ks → tested ≡ allowed r n → tested ≡ b → allowed r (length ks) ≡ b
  allows-as r n hs ks tested b count same is so = ap (λ k. allowed r k) (ap length (sym same) ∙ sym count) ∙ sym is ∙ so

  module _ {old mid : State L H} {x : VhostUserMsgHeader R} {hs : List H} (h : RequestHead event request_of old x hs mid) (r : R) (e : declared.Error) (n : ℕ) (tested : Bool)
      (known : Ok r ≡ ok_or (request_of (fields_of x).code) e) (count : n ≡ length hs) (is : tested ≡ allowed r n) where
    announced : Announces request_of h.0 r
    announced = announces request_of h.0 x r e h.1.1.0 h.1.1.1 h.1.1.2 (sym known)

    -- its request may come with its handles
    pub request-came : tested ≡ true → RequestCame event request_of allowed old h.0 r mid
    request-came so = record { came = h.1.0; announces = announced; allows = allows-as r n hs (first_handles h.0) tested true count h.1.1.3 is so }

    -- it brought handles that its request may not come with
    pub unwanted : tested ≡ false → NoMessage old InvalidMessage (record mid { list = true })
    unwanted so = inl (record {
      hears = hears-all event (split request_of allowed) (came-listed h.1.0 refl) (omega (arith, h.1.1.0)) (unwanted-handles request_of allowed h.0 r announced (allows-as r n hs (first_handles h.0) tested false count h.1.1.3 is so));
      list = refl;
    })

  module _ (old mid new : State L H) (cs ds : List (Cell H)) (r : R) (size : ℕ) (h : RequestCame event request_of allowed old cs r mid) (is : size ≡ (head_in cs).size) where
    long : 12 ≤ length cs
    long = omega (arith, h.announces.long)

    both : length (cs ++ ds) ≡ 12 + length ds
    both = omega (arith, h.announces.long, length-append cs ds)

    -- the body was cut
    pub body-cut : Came event mid GoesOn size ds mid.list new → length ds < size → NoMessage old InvalidMessage (record new { list = true })
    body-cut d few = inl (record {
      hears = hears-end event (split request_of allowed) (came-listed (came-then h.came long d) refl) (omega (arith, both)) (cut-body request_of allowed cs ds r h.announces h.allows (omega (arith, is)));
      list = refl;
    })

    -- the body did not come, or brought handles
    pub body-failed : (e : declared.Error) → TakesIn {T = ℕ} event mid GoesOn size ds mid.list (λ n. ⊥) (BroughtHandles ds) (Err e) new → NoMessage old e (record new { list = true })
    body-failed e (inr f) =
        inr (record {
          cells = cs ++ ds;
          retries = h.came.retries + f.retries;
          none = protocol.InvalidMessage;
          short = cut-body request_of allowed cs ds r h.announces h.allows (let few = f.short h.came.serves.after in omega (arith, is));
          trouble = trouble-then h.came long (omega (arith, long)) f refl;
        })
    body-failed e (inl (d, y)) = subst (λ z. NoMessage old z (record new { list = true })) (sym y.0) (go (nat_lt (length ds) size) refl)
      where
        go : (b : Bool) → nat_lt (length ds) size ≡ b → NoMessage old InvalidMessage (record new { list = true })
        go true short = body-cut d (grind (arith, nat_tests, short))
        go false full =
            let all : size ≤ length ds = grind (arith, nat_tests, full) in
            inl (record {
              hears = hears-all event (split request_of allowed) (came-listed (came-then h.came long d) refl) (omega (arith, both)) (handles-in-body request_of allowed cs ds r h.announces h.allows (omega (arith, is, d.within)) y.1);
              list = refl;
            })

    -- a whole message came
    pub message-came : Came event mid GoesOn size ds mid.list new → size ≤ length ds → brings_handles ds ≡ false → Hears event (split request_of allowed) old (Ok (message_in r cs ds)) new
    message-came d all none = hears-all event (split request_of allowed) (came-then h.came long d) (omega (arith, both)) (whole-message request_of allowed cs ds r h.announces h.allows (omega (arith, is, d.within)) none)

  -- ---- a whole request

  -- its handles are given away, where it has some
  pub message-given : (old mid new : State L H) (request : Request R) (handles : Option (Vec H Global)) (hs : List H) (bytes : List ℕ)
      → ReadsBehind event request_of allowed old hs (Ok request) bytes mid → HandsOver handles hs → new ≡ gives mid hs → ReadsMessage event request_of allowed old request handles bytes new
  message-given old mid new request handles hs bytes (m, reads, is, h, away) over s = record {
    message = m;
    reads = reads;
    hands = subst (λ ks. HandsOver handles ks) (sym is) over;
    hears = subst (λ (x : State L H). Hears event (split request_of allowed) old (Ok m) x) (sym s) (hears-gives hs h);
    list = ap (λ (x : State L H). x.list) s ∙ list-gives mid hs away ∙ ap (λ ks. not (has_some ks)) (sym is);
  }

  -- or the list is taken back
  pub taken-back : (old mid new : State L H) (hs : List H) (e : declared.Error) (bytes : List ℕ) → ReadsBehind event request_of allowed old hs (Err e) bytes mid → new ≡ record mid { list = true } → NoMessage old e new
  taken-back old mid new hs e bytes p s = subst (λ (x : State L H). NoMessage old e x) (sym s) p

module _ {R L H : Type 0} (event : L → Event H → L → Type 0) (request_of : ℕ → Option R) (allowed : R → ℕ → Bool) (old : State L H) where
  -- what is done once the list was made is done of the whole call
  serves-begun : {new : State L H} {limit : ℕ} {m : Move H} → Serves event (begun old) limit m new → Serves event old limit m new
  serves-begun {new} s = record { talks = talks-begun event old new s.talks; retries = s.retries; failures = s.failures; before = s.before; after = s.after; faulted = s.faulted }

  hears-begun : {A : Type 0} {cut : List (Cell H) → A × List (Cell H)} {new : State L H} {o : A} → Hears event cut (begun old) o new → Hears event cut old o new
  hears-begun h = record { cells = h.cells; ended = h.ended; retries = h.retries; serves = serves-begun h.serves; splits = h.splits }

  trouble-begun : {new : State L H} {limit : ℕ} {m : Move H} (e : declared.Error) → Trouble event (begun old) limit First false m e new → Trouble event old limit First false m e new
  trouble-begun e (was_broken b n s) = was_broken b n s
  trouble-begun e (no_memory w b l n s) = absurd (cc l)
  trouble-begun {new} e (fault c b t none most spent breaks faulted kept) =
      fault c b (record { before = t.before; talks = talks-begun event old (record new { link = t.before }) t.talks; last = t.last }) none most spent breaks faulted ((λ _. kept.0 refl), kept.1)

  pub message-begun : {mid new : State L H} {request : Request R} {handles : Option (Vec H Global)} {bytes : List ℕ} → mid ≡ begun old → ReadsMessage event request_of allowed mid request handles bytes new
      → ReadsMessage event request_of allowed old request handles bytes new
  message-begun {new = new} {request} {handles} {bytes} is p =
      let r = subst (λ (x : State L H). ReadsMessage event request_of allowed x request handles bytes new) is p in
      record { message = r.message; reads = r.reads; hands = r.hands; hears = hears-begun r.hears; list = r.list }

  pub none-begun : {mid new : State L H} (e : declared.Error) → mid ≡ begun old → NoMessage event request_of allowed mid e new → NoMessage event request_of allowed old e new
  none-begun {new = new} e is p = go (subst (λ (x : State L H). NoMessage event request_of allowed x e new) is p)
    where
      go : NoMessage event request_of allowed (begun old) e new → NoMessage event request_of allowed old e new
      go (inl n) = inl (record { hears = hears-begun n.hears; list = n.list })
      go (inr n) = inr (record { cells = n.cells; retries = n.retries; none = n.none; short = n.short; trouble = trouble-begun e n.trouble })

  -- there was no memory for the list
  pub none-wanted : {new : State L H} (e : declared.Error) → e ≡ OutOfMemory → old.list ≡ false → new ≡ record old { faulted = false } → NoMessage event request_of allowed old e new
  none-wanted {new} e is away same = subst (λ x. NoMessage event request_of allowed old x new) (sym is) (inr (record {
    cells = [];
    retries = 0;
    none = protocol.Disconnected;
    short = no-byte request_of allowed;
    trouble = no_memory refl (λ h. absurd (cc h)) away refl same;
  }))

valid-small : (h : Header) → is_valid_header h ≡ true → h.size ≤ MAX_MSG_SIZE
valid-small h e = grind (arith, nat_tests, e)

-- the body of a valid header is not too long
pub valid-size : {R : Type 0} (known : Bool) (h : VhostUserMsgHeader R) → (known && is_valid_header (fields_of h)) ≡ true → (fields_of h).size ≤ MAX_MSG_SIZE
valid-size known h e = valid-small (fields_of h) (both-true known (is_valid_header (fields_of h)) e)

-- as many bytes as cells
pub body-length : {H : Type 0} (n : ℕ) (cells : List (Cell H)) → n ≡ length cells → n ≡ length (bytes cells)
body-length n cells e = e ∙ sym (length-map cells (λ c. c.byte))
