-- A reply comes in: its header, a record, and what fits of the payload.
use Rattle.std.proofs.Common.{◌≡◌, ℕ, zero, suc, ◌+◌, ◌-◌, ◌<◌, ◌≤◌, List, [], ◌∷◌, ◌++◌, length, take, drop, refl, sym, ap, ◌∙◌, arith, lit≤, Bool, true, false, ◌⊎◌, inl, inr, Option, Some, None, Result, Ok, Err, Vec}
use Rattle.std.specs.Prelude.{if◌then◌else◌, ◌&&◌, is_some, nat_lt, not}
use Rattle.std.specs.Global.{Global}
use Rattle.std.proofs.lemmas.List.{take-append-le, drop-append-le, take_all, drop_all, take_at, drop_at, length-append, length-drop, append-nil, drop-drop}
use Rattle.std.proofs.lemmas.Bool.Decides.{nat_tests}
use Rattle.vhost_message.specs.declared.error.Error as declared
use Rattle.vhost_message.specs.declared.error.Error.TheVariants as code
use Rattle.vhost_message.specs.Header.{Header, header_of, is_valid_header, is_reply_for}
use Rattle.vhost_protocol.specs.Stream.{Cell, bytes, first_handles, has_some, items}
use Rattle.vhost_protocol.specs.Error.{Error, PartialMessage, InvalidMessage}
use Rattle.vhost_protocol.specs.declared.profile.Profile.TheVariants.{Vhost}
use Rattle.vhost_protocol.specs.ReplySplit.{Received, reply_split, received}
use Rattle.vhost_protocol.specs.Split.{Splits}
use Rattle.vhost_protocol.proofs.ReplyLaws.{reply-rest}
use Rattle.vhost_protocol.proofs.SplitLaws.{le-shorter, lt-shorter, one-more}
use Rattle.vhost_link.specs.Law.{Event}
use Rattle.vhost_link.proofs.Cells.{length-bytes}
use Rattle.vhost_connection.specs.Pass.{receives}
use Rattle.vhost_connection.specs.Talk.{State, IfSound}
use Rattle.vhost_connection.specs.Came.{Came, Alone}
use Rattle.vhost_connection.specs.Calls.{ReadsPayload, IsNoMessage, is_sound}
use Rattle.vhost_connection.specs.Calls.IsNoMessage.{too_few, not_valid}
use Rattle.vhost_connection.specs.Hearing.{Hears, HearsReply, broken_on}
use Rattle.vhost_connection.proofs.Failing.{trouble-breaks}
use Rattle.vhost_connection.proofs.Came.{came-ended}
use Rattle.vhost_connection.proofs.Receiving.{first-append}
use Rattle.vhost_connection.specs.Asking.{is_known_by, Missing, RecvsReply}
use Rattle.vhost_connection.specs.Asking.Missing.{unfit, none, failed}

-- a header is valid exactly where it announces a request
pub known-is : {R : Type 0} (code : ℕ → Option R) (h : Header) → is_known_by code h ≡ (is_some (code h.code) && is_valid_header h)
known-is {R = R} code h = go (code h.code) (is_valid_header h)
  where
    go : (r : Option R) (valid : Bool) → is_some (if valid then r else None) ≡ (is_some r && valid)
    go None true = refl
    go None false = refl
    go (Some r) true = refl
    go (Some r) false = refl

bytes-take : {H : Type 0} (n : ℕ) (cs : List (Cell H)) → bytes (take n cs) ≡ take n (bytes cs)
bytes-take zero cs = refl
bytes-take (suc n) [] = refl
bytes-take (suc n) (c ∷ cs) = ap (λ bs. c.byte ∷ bs) (bytes-take n cs)

bytes-drop : {H : Type 0} (n : ℕ) (cs : List (Cell H)) → bytes (drop n cs) ≡ drop n (bytes cs)
bytes-drop zero cs = refl
bytes-drop (suc n) [] = refl
bytes-drop (suc n) (c ∷ cs) = bytes-drop n cs

-- where a list fills the room, or nothing follows it
take-fit : {A : Type 0} (n : ℕ) (xs rest : List A) → length xs ≤ n → (length xs ≡ n) ⊎ (rest ≡ []) → take n (xs ++ rest) ≡ xs
take-fit n xs rest le (inl e) = take_at xs rest n e
take-fit n xs rest le (inr e) = ap (λ ys. take n (xs ++ ys)) e ∙ ap (take n) (append-nil xs) ∙ take_all n xs le

drop-fit : {A : Type 0} (n : ℕ) (xs rest : List A) → length xs ≤ n → (length xs ≡ n) ⊎ (rest ≡ []) → drop n (xs ++ rest) ≡ rest
drop-fit n xs rest le (inl e) = drop_at xs rest n e
drop-fit n xs rest le (inr e) = ap (λ ys. drop n (xs ++ ys)) e ∙ ap (drop n) (append-nil xs) ∙ drop_all n xs le ∙ sym e

module _ {H : Type 0} (is_known : Header → Bool) (size room : ℕ) (valid : List ℕ → Bool) where
  -- what the cells are received as
  unfoldable pub reply_in : List (Cell H) → Received H
  reply_in cs = record { header = header_of (take 12 (bytes cs)); body = take size (drop 12 (bytes cs)); payload = drop (12 + size) (bytes cs); handles = first_handles cs }

  unfoldable pub outcome : List (Cell H) → Result (Received H) Error
  outcome cs = if is_known (header_of (take 12 (bytes cs))) && valid (take size (drop 12 (bytes cs))) then Ok (reply_in cs) else Err InvalidMessage

  -- header, record and what fits of the payload decide, whatever follows
  reply-whole : (cs rest : List (Cell H)) → 12 + size ≤ length cs → length cs ≤ 12 + size + room → (length cs ≡ 12 + size + room) ⊎ (rest ≡ []) → reply_split is_known size valid room (cs ++ rest) ≡ (outcome cs, rest)
  unfolding reply_split received outcome reply_in
  reply-whole cs rest low high fits =
      let long = le-shorter (12 + size) (cs ++ rest) (omega (arith, length-append cs rest)) in
      let head : bytes (take 12 (cs ++ rest)) ≡ take 12 (bytes cs) = ap bytes (take-append-le 12 cs rest (omega arith)) ∙ bytes-take 12 cs in
      let tail : drop 12 (cs ++ rest) ≡ drop 12 cs ++ rest = drop-append-le 12 cs rest (omega arith) in
      let body : bytes (take size (drop 12 (cs ++ rest))) ≡ take size (drop 12 (bytes cs)) =
      ap (λ xs. bytes (take size xs)) tail ∙ ap bytes (take-append-le size (drop 12 cs) rest (omega (arith, length-drop 12 cs))) ∙ bytes-take size (drop 12 cs) ∙ ap (take size) (bytes-drop 12 cs) in
      let behind : drop size (drop 12 (cs ++ rest)) ≡ drop size (drop 12 cs) ++ rest =
      ap (drop size) tail ∙ drop-append-le size (drop 12 cs) rest (omega (arith, length-drop 12 cs)) in
      let len : length (drop size (drop 12 cs)) ≡ length cs - 12 - size = length-drop size (drop 12 cs) ∙ ap (λ n. n - size) (length-drop 12 cs) in
      let full : (length (drop size (drop 12 cs)) ≡ room) ⊎ (rest ≡ []) = side fits len in
      let payload : bytes (take room (drop size (drop 12 (cs ++ rest)))) ≡ drop (12 + size) (bytes cs) =
      ap (λ xs. bytes (take room xs)) behind ∙ ap bytes (take-fit room (drop size (drop 12 cs)) rest (omega (arith, len)) full) ∙ ap bytes (drop-drop size 12 cs) ∙ bytes-drop (12 + size) cs in
      let after : drop room (drop size (drop 12 (cs ++ rest))) ≡ rest = ap (drop room) behind ∙ drop-fit room (drop size (drop 12 cs)) rest (omega (arith, len)) full in
      rw (long, head, body, payload, after, first-append cs rest (omega arith)) (split (is_known (header_of (take 12 (bytes cs))) && valid (take size (drop 12 (bytes cs)))))
    where
      side : (length cs ≡ 12 + size + room) ⊎ (rest ≡ []) → length (drop size (drop 12 cs)) ≡ length cs - 12 - size → (length (drop size (drop 12 cs)) ≡ room) ⊎ (rest ≡ [])
      side (inl e) len = inl (omega arith)
      side (inr e) len = inr e

      split : (b : Bool) → ◌≡◌ {A = Result (Received H) Error × List (Cell H)} (if b then (Ok (reply_in cs), rest) else (Err InvalidMessage, rest)) (if b then Ok (reply_in cs) else Err InvalidMessage, rest)
      split true = refl
      split false = refl

  -- one cell more would have been read, too
  reads-more : (cs : List (Cell H)) (next : Cell H) → length cs < 12 + size + room → (reply_split is_known size valid room (cs ++ next ∷ [])).1 ≡ []
  reads-more cs next short = reply-rest is_known size valid room (cs ++ next ∷ []) (one-more (12 + size + room) cs next short)

  pub reply-short : (cs : List (Cell H)) → length cs < 12 + size → Splits (reply_split is_known size valid room) cs true (Err PartialMessage)
  unfolding reply_split
  reply-short cs short = (rw (lt-shorter (12 + size) cs short) refl, λ next. reads-more cs next (omega (arith, short)))

  pub splits : (cs : List (Cell H)) (o : Result (Received H) Error) → 12 + size ≤ length cs → length cs ≤ 12 + size + room → outcome cs ≡ o → Splits (reply_split is_known size valid room) cs (nat_lt (length cs) (12 + size + room)) o
  splits cs o low high e = go (nat_lt (length cs) (12 + size + room)) refl
    where
      full : nat_lt (length cs) (12 + size + room) ≡ false → length cs ≡ 12 + size + room
      full e = let f : 12 + size + room ≤ length cs = grind (arith, nat_tests) in omega arith

      short : nat_lt (length cs) (12 + size + room) ≡ true → length cs < 12 + size + room
      short e = grind (arith, nat_tests)

      go : (b : Bool) → nat_lt (length cs) (12 + size + room) ≡ b → Splits (reply_split is_known size valid room) cs b o
      go true is = (ap (reply_split is_known size valid room) (sym (append-nil cs)) ∙ reply-whole cs [] low high (inr refl) ∙ ap (λ x. (x, [])) e, λ next. reads-more cs next (short is))
      go false is = λ rest. reply-whole cs rest low high (inl (full is)) ∙ ap (λ x. (x, rest)) e

  pub is-whole : (cs : List (Cell H)) → is_known (header_of (take 12 (bytes cs))) ≡ true → valid (take size (drop 12 (bytes cs))) ≡ true → outcome cs ≡ Ok (reply_in cs)
  unfolding outcome
  is-whole cs e v = rw (e, v) refl

  pub is-invalid : (cs : List (Cell H)) → (is_known (header_of (take 12 (bytes cs))) && valid (take size (drop 12 (bytes cs)))) ≡ false → outcome cs ≡ Err InvalidMessage
  unfolding outcome
  is-invalid cs e = rw e refl

-- of_head makes a header of its fields, and valid_head is its test
module _ {M R T L H : Type 0} (event : L → Event H → L → Type 0) (is_known : Header → Bool) (request_of : ℕ → Option R) (fields : M → Header) (of_head : Header → M) (same : (h : Header) → fields (of_head h) ≡ h) (valid_head : M → Bool)
    (known : (h : M) → is_known (fields h) ≡ valid_head h) (size : ℕ) (read : List ℕ → T) (valid : T → Bool) where
  abbrev pub ReadsReply : State L H → List ℕ → Result (M × T × ℕ × Option (Vec H Global)) declared.Error → List ℕ → State L H → Type 0
  ReadsReply = ReadsPayload event (λ bs. of_head (header_of bs)) valid_head size read valid

  hears-came : {old new : State L H} (room : ℕ) {cs : List (Cell H)} {list : Bool} (o : Result (Received H) Error) → Came event old Alone (12 + size + room) cs list new → (has_some (first_handles cs) ≡ false → list ≡ true) → 12 + size ≤ length cs
      → outcome is_known size room (λ bs. valid (read bs)) cs ≡ o → HearsReply event (reply_split is_known size (λ bs. valid (read bs)) room) old o new
  hears-came room {cs} o m kept whole e = record {
    hears = record {
      cells = cs;
      ended = nat_lt (length cs) (12 + size + room);
      retries = m.retries;
      serves = m.serves;
      splits = splits is_known size room (λ bs. valid (read bs)) cs o whole m.within e;
    };
    list = λ none. m.listed ∙ kept none;
  }

  -- what the header in the code's form says
  pub head-is : (cs : List (Cell H)) (h : M) → h ≡ of_head (header_of (take 12 (bytes cs))) → fields h ≡ header_of (take 12 (bytes cs))
  head-is cs h e = ap fields e ∙ same (header_of (take 12 (bytes cs)))

  pub whole-when : (cs : List (Cell H)) (room : ℕ) (h : M) (t : T) → fields h ≡ header_of (take 12 (bytes cs)) → valid_head h ≡ true
      → t ≡ read (take size (drop 12 (bytes cs))) → valid t ≡ true → outcome is_known size room (λ bs. valid (read bs)) cs ≡ Ok (reply_in is_known size room (λ bs. valid (read bs)) cs)
  whole-when cs room h t head ok is_t ok_t =
      is-whole is_known size room (λ bs. valid (read bs)) cs (ap is_known (sym head) ∙ known h ∙ ok) (ap valid (sym is_t) ∙ ok_t)

  -- the reply for the request came
  pub reply-comes : (old new : State L H) (sent : Header) (before after : List ℕ) (h : M) (t : T) (n : ℕ) (hs : Option (Vec H Global)) (s : ℕ) → ReadsReply old before (Ok (h, t, n, hs)) after new
      → is_reply_for request_of (fields h) sent ≡ true → s ≡ (fields h).size → RecvsReply event is_known request_of Vhost size read valid old sent before (Ok (s, t, n, hs)) after new
  unfolding reply_in
  reply-comes old new sent before after h t n hs s (cs, room, (m, (count, (is_h, ok, is_t, ok_t, over)))) answered said =
      let head = head-is cs h is_h in
      let long : length (drop (12 + size) (bytes cs)) ≡ n = length-drop (12 + size) (bytes cs) ∙ omega (arith, length-bytes cs, count) in (
        reply_in is_known size (length before) (λ bs. valid (read bs)) cs,
        record {
          hears = hears-came (length before) (Ok (reply_in is_known size (length before) (λ bs. valid (read bs)) cs)) m (λ none. ap not none) (omega (arith, count)) (whole-when cs (length before) h t head ok is_t ok_t);
          answers = ap (λ x. is_reply_for request_of x sent) (sym head) ∙ answered;
          list = m.listed;
        },
        said ∙ ap (λ (x : Header). x.size) head,
        is_t,
        ok_t,
        sym long,
        room ∙ ap (λ k. drop (12 + size) (bytes cs) ++ drop k before) (omega (arith, count)),
        over,
      )

  -- what came is no reply for the request
  pub reply-unfit : (old new : State L H) (sent : Header) (before after : List ℕ) (h : M) (t : T) (n : ℕ) (hs : Option (Vec H Global)) → ReadsReply old before (Ok (h, t, n, hs)) after new
      → is_reply_for request_of (fields h) sent ≡ false → Missing event request_of (reply_split is_known size (λ bs. valid (read bs)) (length before)) old sent code.InvalidMessage new
  unfolding reply_in
  reply-unfit old new sent before after h t n hs (cs, room, (m, (count, (is_h, ok, is_t, ok_t, over)))) bad =
      let head = head-is cs h is_h in
      unfit (reply_in is_known size (length before) (λ bs. valid (read bs)) cs)
      (hears-came (length before) (Ok (reply_in is_known size (length before) (λ bs. valid (read bs)) cs)) m (λ none. ap not none) (omega (arith, count)) (whole-when cs (length before) h t head ok is_t ok_t))
      (ap (λ x. is_reply_for request_of x sent) (sym head) ∙ bad)

  -- there is none
  pub reply-fails : (old new : State L H) (sent : Header) (before after : List ℕ) (e : declared.Error) → ReadsReply old before (Err e) after new
      → Missing event request_of (reply_split is_known size (λ bs. valid (read bs)) (length before)) old sent e (broken_on e new)
  reply-fails old new sent before after e (cs, room, inr f) = failed (trouble-breaks event old IfSound false (receives (items cs) f.retries) e new f.trouble refl (lit≤ tt))
  reply-fails old new sent before after e (cs, room, inl (m, bad)) = go e bad
    where
      go : (y : declared.Error) → IsNoMessage (12 + size) (is_sound (λ bs. of_head (header_of bs)) valid_head size read valid) cs y → Missing event request_of (reply_split is_known size (λ bs. valid (read bs)) (length before)) old sent y (broken_on y new)
      go y (too_few short) =
          none (record {
            hears = record { cells = cs; ended = true; retries = m.retries; serves = came-ended m (omega (arith, short)); splits = reply-short is_known size (length before) (λ bs. valid (read bs)) cs short };
            list = λ _. m.listed;
          }) m.listed
      go y (not_valid whole wrong) =
          none (hears-came (length before) (Err InvalidMessage) m (λ _. refl) whole (is-invalid is_known size (length before) (λ bs. valid (read bs)) cs
          (ap (λ b. b && valid (read (take size (drop 12 (bytes cs))))) (ap is_known (sym (same (header_of (take 12 (bytes cs))))) ∙ known (of_head (header_of (take 12 (bytes cs))))) ∙ wrong))) m.listed

module _ {L H : Type 0} {event : L → Event H → L → Type 0} where
  -- the same cells, read as more
  pub hears-by : {A B : Type 0} {cut : List (Cell H) → A × List (Cell H)} {of : List (Cell H) → B × List (Cell H)} (read_as : A → B) {old new : State L H} (o : A)
      → ((cells : List (Cell H)) → of cells ≡ (read_as (cut cells).0, (cut cells).1)) → Hears event cut old o new → Hears event of old (read_as o) new
  hears-by {cut = cut} {of} read_as o by h = record { cells = h.cells; ended = h.ended; retries = h.retries; serves = h.serves; splits = go h.ended h.splits }
    where
      go : (ended : Bool) → Splits cut h.cells ended o → Splits of h.cells ended (read_as o)
      go true e = (by h.cells ∙ ap (λ x. (read_as x.0, x.1)) e.0, λ next. ap (λ x. x.1) (by (h.cells ++ next ∷ [])) ∙ e.1 next)
      go false e = λ rest. by (h.cells ++ rest) ∙ ap (λ x. (read_as x.0, x.1)) (e rest)

  pub replies-by : {A B : Type 0} {cut : List (Cell H) → A × List (Cell H)} {of : List (Cell H) → B × List (Cell H)} (read_as : A → B) {old new : State L H} (o : A)
      → ((cells : List (Cell H)) → of cells ≡ (read_as (cut cells).0, (cut cells).1)) → HearsReply event cut old o new → HearsReply event of old (read_as o) new
  unfolding hears-by
  replies-by read_as o by h = record { hears = hears-by read_as o by h.hears; list = h.list }
