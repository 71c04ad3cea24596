-- A request that waits whole is read: nothing is asked of the link.
use Rattle.std.proofs.Common.{◌≡◌, ℕ, ◌+◌, ◌-◌, ◌≤◌, Bool, true, false, List, [], ◌∷◌, ◌++◌, length, take, drop, min, append_assoc, Option, Some, None, refl, sym, ap, subst, ◌∙◌, arith}
use Rattle.std.specs.Prelude.{is_some, not}
use Rattle.std.proofs.lemmas.List.{append-nil, drop-append-le, drop-drop, drop-take, length-drop, length-take-le, take-append-drop, take_at}
use Rattle.std.proofs.Math.Seq.{take-add, take-append-add, take-append_seam}
use Rattle.vhost_message.specs.Bits.{has_bit}
use Rattle.vhost_message.specs.Header.{Header, header_of, is_valid_header}
use Rattle.vhost_protocol.specs.Stream.{Cell, Byte, plain, items, first_handles, has_some, bytes}
use Rattle.vhost_protocol.proofs.Splitting.{Announces, head_in, message_in, whole-message}
use Rattle.vhost_protocol.proofs.TextLaws.{bytes-plain, length-plain, plain-bare}
use Rattle.vhost_link.specs.Law.{Event, still}
use Rattle.vhost_link.proofs.Cells.{plain-append}
use Rattle.vhost_connection.specs.declared.request.Request.{Request}
use Rattle.vhost_connection.specs.Requests.{ReadsMessage, WaitsWhole}
use Rattle.vhost_connection.specs.Talk.{State}

items-append : {H : Type 0} (xs ys : List (Cell H)) → items (xs ++ ys) ≡ items xs ++ items ys
items-append [] ys = refl
items-append (x ∷ xs) ys = ap (λ is. Byte x ∷ is) (items-append xs ys)

no-first : {H : Type 0} (bs : List ℕ) → first_handles (plain {H = H} bs) ≡ []
no-first [] = refl
no-first (b ∷ bs) = refl

-- bytes put behind those between two places
pub put-behind : (buffer bytes rest : List ℕ) (start end : ℕ) → start ≤ end → end ≤ length buffer
    → take (end + length bytes - start) (drop start (take end buffer ++ (bytes ++ rest))) ≡ take (end - start) (drop start buffer) ++ bytes
put-behind buffer bytes rest start end order within =
    let n = length bytes in
    let m = end - start in
    let front = take m (drop start buffer) in
    let whole : start + m ≡ end = omega (arith, order) in
    let front-is : drop start (take end buffer) ≡ front = ap (λ k. drop start (take k buffer)) (sym whole) ∙ drop-take start m buffer in
    let all : length (take end buffer) ≡ end = length-take-le end buffer within in
    let cut : drop start (take end buffer ++ (bytes ++ rest)) ≡ front ++ (bytes ++ rest) = drop-append-le start (take end buffer) (bytes ++ rest) (omega (arith, all, order)) ∙ ap (λ xs. xs ++ (bytes ++ rest)) front-is in
    let long : length front ≡ m = length-take-le m (drop start buffer) (let le : m ≤ length (drop start buffer) = simp length-drop (omega (arith, order, within)) in le) in
    let count : end + n - start ≡ length front + n = omega (arith, long, order) in
    ap (λ xs. take (end + n - start) xs) cut ∙ ap (λ k. take k (front ++ (bytes ++ rest))) count ∙ take-append-add front (bytes ++ rest) n ∙ ap (λ xs. front ++ xs) (take-append_seam bytes rest)

-- the same of bytes that were copied into what was lent
pub put-as : (buffer lent bytes copied rest : List ℕ) (start end : ℕ) → lent ≡ buffer → copied ≡ bytes → start ≤ end → end ≤ length buffer
    → take (end + length bytes - start) (drop start (take end lent ++ (copied ++ rest))) ≡ take (end - start) (drop start buffer) ++ bytes
put-as buffer lent bytes copied rest start end same is order within =
    (λ i. take (end + length bytes - start) (drop start (take end (same i) ++ (is i ++ rest)))) ∙ put-behind buffer bytes rest start end order within

-- a body was handed on behind twelve bytes
pub taken-out : (text mid left place room : List ℕ) (n len : ℕ) → 12 + len ≤ length text → len ≤ length place → mid ≡ drop 12 text → n ≡ min (length mid) (length (take len place)) → room ≡ take n mid ++ drop n (take len place) → left ≡ drop n mid
    → (left ≡ drop (12 + len) text) × (take len (room ++ drop len place) ≡ take len (drop 12 text))
taken-out text mid left place room n len whole fits same count filled left-is =
    let behind : length (drop 12 text) ≡ length text - 12 = length-drop 12 text in
    let long : length mid ≡ length text - 12 = ap length same ∙ behind in
    let space : length (take len place) ≡ len = length-take-le len place fits in
    let all : n ≡ len = omega (arith, count, long, space, whole) in
    let body : length (take len (drop 12 text)) ≡ len = length-take-le len (drop 12 text) (omega (arith, behind, whole)) in (
      left-is ∙ (λ i. drop (all i) (same i)) ∙ drop-drop len 12 text,
      ap (λ xs. take len (xs ++ drop len place)) (filled ∙ (λ i. take (all i) (same i) ++ drop (all i) (take len place)))
          ∙ ap (λ xs. take len xs) (append_assoc (take len (drop 12 text)) (drop len (take len place)) (drop len place))
          ∙ take_at (take len (drop 12 text)) (drop len (take len place) ++ drop len place) len body,
    )

-- no fault broke it
pub none-of : {A : Type 0} (o : Option A) → is_some o ≡ false → o ≡ None
none-of None is = refl
none-of (Some a) is = absurd (cc is)

module _ {R L H : Type 0} (event : L → Event H → L → Type 0) (request_of : ℕ → Option R) (allowed : R → ℕ → Bool) (q : Request R) (text : List ℕ) (w : WaitsWhole request_of allowed text q) where
  abbrev head : List ℕ
  head = take 12 text

  abbrev body : List ℕ
  body = take q.len (drop 12 text)

  abbrev rest : List ℕ
  rest = drop (12 + q.len) text

  abbrev cs : List (Cell H)
  cs = plain head

  abbrev ds : List (Cell H)
  ds = plain body

  read : head_in cs ≡ header_of head
  read = ap header_of (bytes-plain H head)

  long : length body ≡ q.len
  long = length-take-le q.len (drop 12 text) (let le : q.len ≤ length (drop 12 text) = simp length-drop (omega (arith, w.whole)) in le)

  announces : Announces request_of cs q.code
  announces = record {
    long = length-plain H head ∙ length-take-le 12 text w.head;
    valid = ap is_valid_header read ∙ w.valid;
    code = ap (λ (h : Header). request_of h.code) read ∙ w.code;
  }

  joined : plain {H = H} text ≡ (cs ++ ds) ++ plain rest
  joined = ap (λ bs. plain {H = H} bs) (sym (take-append-drop (12 + q.len) text)) ∙ plain-append (take (12 + q.len) text) rest
      ∙ ap (λ xs. xs ++ plain rest) (ap (λ bs. plain {H = H} bs) (take-add 12 q.len text) ∙ plain-append head body)

  pub waited : (old new : State L H) (place : List ℕ) → old.ahead ≡ plain text → old.broken ≡ None → old.faulted ≡ false → old.list ≡ true → new ≡ record old { ahead = plain rest } → take q.len place ≡ body
      → ReadsMessage event request_of allowed old q None place new
  waited old new place ahead sound fine listed is copied = subst (λ (s : State L H). ReadsMessage event request_of allowed old q None place s) (sym is) (record {
    message = message_in q.code cs ds;
    reads = record {
      code = refl;
      reply = w.reply ∙ ap (λ (h : Header). has_bit h.flags 2) (sym read);
      need_reply = w.need_reply ∙ ap (λ (h : Header). has_bit h.flags 3) (sym read);
      len = sym (ap length (bytes-plain H body) ∙ long);
      body = copied ∙ sym (bytes-plain H body);
    };
    hands = no-first head;
    hears = record {
      cells = cs ++ ds;
      ended = false;
      retries = 0;
      serves = record {
        talks = record {
          below = _;
          moved = still;
          handed = append-nil (items old.ahead) ∙ ap items (ahead ∙ joined) ∙ items-append (cs ++ ds) (plain rest);
          taken = refl;
          retries = refl;
          failures = refl;
          budget = refl;
        };
        retries = omega arith;
        failures = refl;
        before = sound;
        after = sound;
        faulted = fine;
      };
      splits = whole-message request_of allowed cs ds q.code announces (ap (λ hs. allowed q.code (length hs)) (no-first head) ∙ w.allows)
          (length-plain H body ∙ long ∙ w.len ∙ ap (λ (h : Header). h.size) (sym read)) (plain-bare H body);
    };
    list = listed ∙ sym (ap (λ (hs : List H). not (has_some hs)) (no-first head));
  })
