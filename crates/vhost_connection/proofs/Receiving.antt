-- Cells come in piece by piece.
use Rattle.std.proofs.Common.{◌≡◌, ℕ, ◌+◌, ◌-◌, ◌<◌, ◌≤◌, List, [], ◌∷◌, ◌++◌, length, take, drop, add-zero, zero-add, length-drop, refl, sym, ap, ◌∙◌, arith, Bool, true, false, IsTrue, Ok, ◌||◌, append_assoc, subst, ◌==◌}
use Rattle.std.proofs.Math.Bool.{or-true, or-false}
use Rattle.std.proofs.lemmas.List.{nil_from_length, append-nil, take_rest, take_at, drop_at, drop-drop, take_all, drop_all, take-append-drop, length-take-le, map-append, length-append}
use Rattle.std.proofs.lemmas.Bool.Decides.{nat_tests}
use borrow.Rule.Slice.PartMut.{put_mid}
use Rattle.vhost_message.specs.declared.cause.IoCause.{IoCause}
use Rattle.vhost_message.specs.Cause.{is_retry}
use Rattle.vhost_protocol.specs.Stream.{Cell, carrying, Byte, End, items, heard, bytes, brings_handles, has_some, first_handles}
use Rattle.vhost_link.proofs.Cells.{length-carrying, bytes-carrying, bytes-append, length-bytes, brings-append, brings-carrying}
use Rattle.vhost_link.specs.Law.{Event, Handed, Refused, Moved, ◌then◌, done, Receives}
use Rattle.vhost_link.specs.Law.Moved.{still, more}
use Rattle.vhost_link.proofs.Moves.{Moved-as, Moved-then}
use Rattle.vhost_connection.specs.Pass.{receives, GetsWhole, GetsParts, FrontCame, Fills, Arrives, GetsRest, GotAs}
use Rattle.vhost_connection.specs.declared.pass.RecvPass.{RecvPass}
use Rattle.vhost_connection.specs.declared.pass.PassEnd.{PassEnd}
use Rattle.vhost_connection.specs.declared.pass.PassEnd.TheVariants.{Whole, AtEnd, Fault}

-- so far these cells came
pub record HasRead {S H : Type 0} (event : S → Event H → S → Type 0) (old : S) (before : List ℕ) (budget count : ℕ) (surplus : Bool) (left : ℕ) (after : List ℕ) (new : S) : Type 0 where
  pub cs : List (Cell H)
  pub fills : Fills cs before after
  pub counted : count ≡ length cs
  pub noticed : surplus ≡ brings_handles cs
  pub within : left ≤ budget
  pub moved : Moved event old (receives (items cs) (budget - left)) new

-- a write to the rest of the room, of which only a front counts
pub piece_room : (count n : ℕ) (before piece : List ℕ) → count ≤ length before → drop n piece ≡ drop n (take (length before - count) (drop count before))
    → put_mid count (length before - count) before piece ≡ take count before ++ (take n piece ++ drop (count + n) before)
piece_room count n before piece le e =
    let post : drop (length before - count) (drop count before) ≡ [] = drop_all (length before - count) (drop count before) (omega (arith, length-drop count before)) in
    let tail : drop n piece ≡ drop (count + n) before = rw take_rest at e ∙ drop-drop n count before in
    ap (λ xs. take count before ++ xs) (rw (post, append-nil piece) (sym (take-append-drop n piece) ∙ ap (λ xs. take n piece ++ xs) tail))

-- what comes to the rest of a room: some bytes, or a fault
pub gets-more : {S H : Type 0} (event : S → Event H → S → Type 0) (old new : S) (before piece : List ℕ) (count n : ℕ) (handles : List H)
    → count < length before → length piece ≡ length (take (length before - count) (drop count before))
    → Receives event old (take (length before - count) (drop count before)) (Ok n) piece handles new
    → Arrives event old before count n (put_mid count (length before - count) before piece) handles new
gets-more event old new before piece count n handles lt len (most, same, law) =
    let mid : length (take (length before - count) (drop count before)) ≡ length before - count = ap length (take_rest before count) ∙ length-drop count before in
    record {
      front = take n piece;
      long = length-take-le n piece (omega arith);
      within = omega arith;
      room = piece_room count n before piece (omega arith) same;
      some = law.some;
      ended = law.ended;
      none = law.none;
      few = law.few;
    }

pub room-stays : (before piece : List ℕ) (count : ℕ) → count < length before → piece ≡ take (length before - count) (drop count before)
    → put_mid count (length before - count) before piece ≡ before
room-stays before piece count lt same =
    let post : drop (length before - count) (drop count before) ≡ [] = drop_all (length before - count) (drop count before) (omega (arith, length-drop count before)) in
    ap (λ xs. take count before ++ xs) (rw (post, append-nil piece) (same ∙ take_rest before count)) ∙ take-append-drop count before

-- the front of a text, once what was lent of it was written
pub front-put : (n : ℕ) (text front : List ℕ) → length front ≡ n → take n (put_mid 0 n text front) ≡ front
front-put n text front long = take_at front (drop n text) n long

-- what comes to the start of a room
pub gets-first : {S H : Type 0} {event : S → Event H → S → Type 0} {old new : S} {before after : List ℕ} {n : ℕ} {handles : List H}
    → length after ≡ length before → Receives event old before (Ok n) after handles new → Arrives event old before 0 n after handles new
gets-first {before} {after} {n} long (most, same, law) = record {
  front = take n after;
  long = length-take-le n after (omega (arith, long));
  within = omega (arith, most);
  room = sym (take-append-drop n after) ∙ ap (λ xs. take n after ++ xs) (same ∙ rw (zero-add n) refl);
  some = law.some;
  ended = law.ended;
  none = law.none;
  few = law.few;
}

-- ---- the loop

more_items : {H : Type 0} (cs ds : List (Cell H)) (r : ℕ) → receives (items cs) r then done (Handed ds) ≡ receives (items (cs ++ ds)) r
more_items cs ds r = rw (map-append Byte cs ds, add-zero r) refl

fills-more : {H : Type 0} (cs ds : List (Cell H)) (before mid after : List ℕ) (count n : ℕ)
    → Fills cs before mid → count ≡ length cs → length ds ≡ n → count + n ≤ length mid
    → after ≡ take count mid ++ (bytes ds ++ drop (count + n) mid) → Fills (cs ++ ds) before after
fills-more cs ds before mid after count n f k long within e =
    let b = bytes cs in
    let len-b : length b ≡ count = length-bytes cs ∙ sym k in
    let head : take count mid ≡ b = ap (take count) f.bytes ∙ take_at b (drop (length cs) before) count len-b in
    let tail : drop count mid ≡ drop (length cs) before = ap (drop count) f.bytes ∙ drop_at b (drop (length cs) before) count len-b in
    let rest : drop (count + n) mid ≡ drop (length cs + n) before = sym (drop-drop n count mid) ∙ ap (drop n) tail ∙ drop-drop n (length cs) before in
    let len : length (cs ++ ds) ≡ length cs + n = length-append cs ds ∙ ap (λ x. length cs + x) long in
    let text : bytes (cs ++ ds) ≡ b ++ bytes ds = map-append (λ c. c.byte) cs ds in
    let total : length mid ≡ length before = ap length f.bytes ∙ length-append b (drop (length cs) before) ∙ omega (arith, length-bytes cs, length-drop (length cs) before, f.within) in
    record {
      within = omega arith;
      bytes = e ∙ rw (head, rest, text, len) (sym (append_assoc b (bytes ds) (drop (length cs + n) before)));
    }

filled : {H : Type 0} {cs : List (Cell H)} {before after : List ℕ} → Fills cs before after → length after ≡ length before
filled {cs = cs} {before} {after} f = ap length f.bytes ∙ length-append (bytes cs) (drop (length cs) before) ∙ omega (arith, length-bytes cs, length-drop (length cs) before, f.within)

same-room : (room after front : List ℕ) (count n : ℕ) → after ≡ take count room ++ (front ++ drop (count + n) room) → length front ≡ n → n ≡ 0 → after ≡ room
same-room room after front count n e long none =
    let nil : front ≡ [] = nil_from_length front (long ∙ none) in
    e ∙ rw (nil, none, add-zero count) (take-append-drop count room)

-- what `is_empty` says of a list
pub some-list : {A : Type 0} (xs : List A) (n : ℕ) (b : Bool) → n ≡ length xs → b ≡ (n == 0) → b ≡ false → has_some xs ≡ true
some-list [] n b len e f = absurd (let g : (n == 0) ≡ true = rw len refl in let h : false ≡ true = sym f ∙ e ∙ g in cc)
some-list (x ∷ xs) n b len e f = refl

is-zero : (n : ℕ) (b : Bool) → b ≡ (n == 0) → b ≡ true → n ≡ 0
is-zero n b e t = grind (arith, nat_tests)

pub no-list : {A : Type 0} (xs : List A) (n : ℕ) (b : Bool) → n ≡ length xs → b ≡ (n == 0) → b ≡ true → xs ≡ []
no-list [] n b len e t = refl
no-list (x ∷ xs) n b len e t = absurd (let z = is-zero n b e t in omega arith)

-- nothing has come yet
pub reads-start : {S H : Type 0} (event : S → Event H → S → Type 0) (old : S) (before : List ℕ) (budget : ℕ) → HasRead event old before budget 0 false budget before old
reads-start event old before budget = record {
  cs = [];
  fills = record { within = omega arith; bytes = refl };
  counted = refl;
  noticed = refl;
  within = omega arith;
  moved = Moved-as (let e : budget - budget ≡ 0 = omega arith in rw e refl) still;
}

-- more has come
pub reads-more : {S H : Type 0} {event : S → Event H → S → Type 0} {old mid new : S} {before room after : List ℕ} {budget count n left : ℕ} {surplus : Bool} {hs : List H}
    → HasRead event old before budget count surplus left room mid → Arrives event mid room count n after hs new → 0 < n
    → HasRead event old before budget (count + n) (surplus || has_some hs) left after new
reads-more {event} {old} {mid} {new} {before} {room} {after} {budget} {count} {n} {left} {surplus} {hs} h a pos = record {
  cs = h.cs ++ carrying hs a.front;
  fills = fills-more h.cs (carrying hs a.front) before room after count n h.fills h.counted (length-carrying hs a.front ∙ a.long) a.within (a.room ∙ rw (bytes-carrying hs a.front) refl);
  counted = omega (arith, h.counted, a.long, length-append h.cs (carrying hs a.front), length-carrying hs a.front);
  noticed = ap (λ b. b || has_some hs) h.noticed ∙ ap (λ b. brings_handles h.cs || b) (sym (brings-carrying hs a.front (omega (arith, a.long)))) ∙ sym (brings-append h.cs (carrying hs a.front));
  within = h.within;
  moved = Moved-as (more_items h.cs (carrying hs a.front) (budget - left)) (more h.moved (a.some pos));
}

-- more has come: with handles, and without
pub reads-more-some : {S H : Type 0} {event : S → Event H → S → Type 0} {old mid new : S} {before room after : List ℕ} {budget count n left : ℕ} {surplus : Bool} {hs : List H}
    → HasRead event old before budget count surplus left room mid → Arrives event mid room count n after hs new → 0 < n → has_some hs ≡ true
    → HasRead event old before budget (count + n) true left after new
reads-more-some {event} {old} {new = new} {before} {after = after} {budget} {count} {n} {left} {surplus} h a pos some =
    subst (λ b. HasRead event old before budget (count + n) b left after new) (ap (λ b. surplus || b) some ∙ or-true surplus) (reads-more h a pos)

pub reads-more-none : {S H : Type 0} {event : S → Event H → S → Type 0} {old mid new : S} {before room after : List ℕ} {budget count n left : ℕ} {surplus : Bool} {hs : List H}
    → HasRead event old before budget count surplus left room mid → Arrives event mid room count n after hs new → 0 < n → hs ≡ []
    → HasRead event old before budget (count + n) surplus left after new
reads-more-none {event} {old} {new = new} {before} {after = after} {budget} {count} {n} {left} {surplus} h a pos none =
    subst (λ b. HasRead event old before budget (count + n) b left after new) (ap (λ xs. surplus || has_some xs) none ∙ or-false surplus) (reads-more h a pos)

-- the link wants to be called again
pub reads-again : {S H : Type 0} {event : S → Event H → S → Type 0} {old mid new : S} {before room after : List ℕ} {budget count left less : ℕ} {surplus : Bool} (c : IoCause)
    → HasRead event old before budget count surplus left room mid → event mid (Refused c) new → is_retry c ≡ true → left ≡ less + 1 → after ≡ room
    → HasRead event old before budget count surplus less after new
reads-again {event} {old} {mid} {new} {before} {room} {after} {budget} {count} {left} {less} {surplus} c h e again l same = record {
  cs = h.cs;
  fills = subst (λ x. Fills h.cs before x) (sym same) h.fills;
  counted = h.counted;
  noticed = h.noticed;
  within = omega (arith, h.within);
  moved = Moved-as (let k : budget - less ≡ budget - left + 1 = omega (arith, h.within) in rw (again, append-nil (items h.cs), k) refl) (more h.moved e);
}

-- nothing came: the end was told
pub reads-end : {S H : Type 0} {event : S → Event H → S → Type 0} {old mid new : S} {before room after : List ℕ} {budget count n left : ℕ} {surplus : Bool} {hs : List H}
    → HasRead event old before budget count surplus left room mid → Arrives event mid room count n after hs new → n ≡ 0 → count < length room
    → GetsRest event old before budget (record { count = count; surplus = surplus; left = left; stop = AtEnd }) after new
reads-end {event} {old} {mid} {new} {before} {room} {after} {budget} {count} {n} {left} {surplus} {hs} h a none lt = record {
  cs = h.cs;
  fills = subst (λ x. Fills h.cs before x) (sym (same-room room after a.front count n a.room a.long none)) h.fills;
  count = h.counted;
  surplus = h.noticed;
  left = h.within;
  ended = (omega (arith, h.counted, filled h.fills), Moved-as (rw (add-zero (budget - left)) refl) (more h.moved (a.ended none)));
}

-- the link failed
pub reads-fault : {S H : Type 0} {event : S → Event H → S → Type 0} {old mid new : S} {before room after : List ℕ} {budget count left : ℕ} {surplus : Bool} (c : IoCause)
    → HasRead event old before budget count surplus left room mid → event mid (Refused c) new → after ≡ room → count < length room → (IsTrue (is_retry c) → left ≡ 0)
    → GetsRest event old before budget (record { count = count; surplus = surplus; left = left; stop = Fault c }) after new
reads-fault {event} {old} {mid} {new} {before} {room} {after} {budget} {count} {left} {surplus} c h e same lt spent = record {
  cs = h.cs;
  fills = subst (λ x. Fills h.cs before x) (sym same) h.fills;
  count = h.counted;
  surplus = h.noticed;
  left = h.within;
  ended = (omega (arith, h.counted, filled h.fills), spent, record { before = mid; moved = h.moved; last = e });
}

-- the room is full
pub reads-whole : {S H : Type 0} {event : S → Event H → S → Type 0} {old new : S} {before room : List ℕ} {budget count left : ℕ} {surplus : Bool}
    → HasRead event old before budget count surplus left room new → length room ≤ count
    → GetsRest event old before budget (record { count = count; surplus = surplus; left = left; stop = Whole }) room new
reads-whole {before} {room} h le = record {
  cs = h.cs;
  fills = h.fills;
  count = h.counted;
  surplus = h.noticed;
  left = h.within;
  ended = (omega (arith, h.counted, h.fills.within, filled h.fills), h.moved);
}

-- ---- the first bytes

pub front-came : {S H : Type 0} (event : S → Event H → S → Type 0) (old mid new : S) (before room after : List ℕ) (n r : ℕ) (hs : List H)
    → room ≡ before → Moved event old (receives [] r) mid → Arrives event mid room 0 n after hs new → FrontCame event old before r n after hs new
front-came event old mid new before room after n r hs same p a = record {
  front = a.front;
  long = a.long;
  within = omega (arith, a.within, ap length same);
  room = a.room ∙ rw (zero-add n, same) refl;
  some = λ pos. Moved-as (rw (add-zero r) refl) (more p (a.some pos));
  ended = λ z. Moved-as (rw (add-zero r) refl) (more p (a.ended z));
  none = a.none;
  few = a.few;
}

pub first-again : {S H : Type 0} {event : S → Event H → S → Type 0} {old mid new : S} (r s : ℕ) (c : IoCause)
    → Moved event old (receives {H = H} [] r) mid → event mid (Refused c) new → is_retry c ≡ true → s ≡ r + 1 → Moved event old (receives [] s) new
first-again r s c p e again k = Moved-as (rw (again, k) refl) (more p e)

-- ---- the first bytes, and then the rest

pub both : {H : Type 0} (cs ds : List (Cell H)) (r s t : ℕ) → t ≡ r + s → receives (items cs) r then receives (items ds) s ≡ receives (items (cs ++ ds)) t
both cs ds r s t k = rw (map-append Byte cs ds, k) refl

pub both-end : {H : Type 0} (cs ds : List (Cell H)) (r s t : ℕ) → t ≡ r + s → receives (items cs) r then receives (heard ds true) s ≡ receives (heard (cs ++ ds) true) t
both-end cs ds r s t k = rw (map-append Byte cs ds, append_assoc (items cs) (items ds) (End ∷ []), k) refl

-- the end of the second part is the end of both
rest-ends : {S H : Type 0} (event : S → Event H → S → Type 0) (old mid new : S) (cs ds : List (Cell H)) (before sub budget left less : ℕ) (stop : PassEnd)
    → less ≤ left → left ≤ budget → before ≡ length cs + sub → Moved event old (receives (items cs) (budget - left)) mid → GotAs event mid sub left less stop ds new
    → GotAs event old before budget less stop (cs ++ ds) new
rest-ends event old mid new cs ds before sub budget left less Whole a b k p (len, q) =
    (omega (arith, length-append cs ds), Moved-as (both cs ds (budget - left) (left - less) (budget - less) (omega arith)) (Moved-then p q))
rest-ends event old mid new cs ds before sub budget left less AtEnd a b k p (len, q) =
    (omega (arith, length-append cs ds), Moved-as (both-end cs ds (budget - left) (left - less) (budget - less) (omega arith)) (Moved-then p q))
rest-ends event old mid new cs ds before sub budget left less (Fault c) a b k p (len, spent, q) = (
  omega (arith, length-append cs ds),
  spent,
  record { before = q.before; moved = Moved-as (both cs ds (budget - left) (left - less) (budget - less) (omega arith)) (Moved-then p q.moved); last = q.last },
)

first-of : {H : Type 0} (bs : List ℕ) (hs : List H) (ds : List (Cell H)) → 0 < length bs → first_handles (carrying hs bs ++ ds) ≡ hs
first-of [] hs ds h = absurd (omega arith)
first-of (b ∷ bs) hs ds h = refl

pub first-append : {H : Type 0} (cs ds : List (Cell H)) → 0 < length cs → first_handles (cs ++ ds) ≡ first_handles cs
first-append [] ds h = absurd (omega arith)
first-append (c ∷ cs) ds h = refl

pub first-and-rest : {S H : Type 0} (event : S → Event H → S → Type 0) (old mid new : S) (before room sub : List ℕ) (budget left n : ℕ) (handles : List H) (got : RecvPass)
    → FrontCame event old before (budget - left) n room handles mid → 0 < n → left ≤ budget
    → GetsRest event mid (take (length room - n) (drop n room)) left got sub new
    → GetsWhole event old before budget (record { count = n + got.count; surplus = got.surplus; left = got.left; stop = got.stop }) (put_mid n (length room - n) room sub) handles new
first-and-rest event old mid new before room sub budget left n handles got f pos le g =
    let cs = carrying handles f.front in
    let k = length g.cs in
    let part = take (length room - n) (drop n room) in
    let len : length cs ≡ n = length-carrying handles f.front ∙ f.long in
    let fills : Fills cs before room = record { within = omega arith; bytes = f.room ∙ rw (bytes-carrying handles f.front, len) refl } in
    let full : length room ≡ length before = filled fills in
    let part-len : length part ≡ length room - n = ap length (take_rest room n) ∙ length-drop n room in
    let same : drop k sub ≡ drop k part = ap (drop k) g.fills.bytes ∙ drop_at (bytes g.cs) (drop k part) k (length-bytes g.cs) in
    let text : take k sub ≡ bytes g.cs = ap (take k) g.fills.bytes ∙ take_at (bytes g.cs) (drop k part) k (length-bytes g.cs) in
    let written : put_mid n (length room - n) room sub ≡ take n room ++ (bytes g.cs ++ drop (n + k) room) =
    piece_room n k room sub (omega arith) same ∙ ap (λ xs. take n room ++ (xs ++ drop (n + k) room)) text in
    record {
      cs = cs ++ g.cs;
      fills = fills-more cs g.cs before room (put_mid n (length room - n) room sub) n k fills (sym len) refl (omega arith) written;
      count = omega (arith, g.count, length-append cs g.cs);
      handles = sym (first-of f.front handles g.cs (omega arith));
      few = f.few;
      left = omega (arith, g.left);
      ended = rest-ends event old mid new cs g.cs (length before) (length part) budget left got.left got.stop g.left le (omega arith) (f.some pos) g.ended;
    }

-- ---- a front, and then what fits into the room

ends-early : {S H : Type 0} (event : S → Event H → S → Type 0) (old new : S) (room extra budget left : ℕ) (stop : PassEnd) (cs : List (Cell H))
    → length cs < room → GotAs event old room budget left stop cs new → GotAs event old (room + extra) budget left stop cs new
ends-early event old new room extra budget left Whole cs lt (len, p) = absurd (omega (arith, len))
ends-early event old new room extra budget left AtEnd cs lt (len, p) = (omega arith, p)
ends-early event old new room extra budget left (Fault c) cs lt (len, spent, p) = (omega arith, spent, p)

is-whole : {S H : Type 0} (event : S → Event H → S → Type 0) (old new : S) (room budget left : ℕ) (stop : PassEnd) (cs : List (Cell H))
    → room ≤ length cs → GotAs event old room budget left stop cs new → (length cs ≡ room) × Moved event old (receives (items cs) (budget - left)) new
is-whole event old new room budget left Whole cs le p = p
is-whole event old new room budget left AtEnd cs le (len, p) = absurd (omega arith)
is-whole event old new room budget left (Fault c) cs le (len, spent, p) = absurd (omega arith)

-- the front of a text that holds what came
pub front-of : {H : Type 0} (cs : List (Cell H)) (before after text : List ℕ) (len count : ℕ) → Fills cs before after → take len text ≡ after → count ≡ length cs → take count text ≡ bytes cs
front-of cs before after text len count f front counted =
    let rest = drop (length cs) before in
    let whole : text ≡ bytes cs ++ (rest ++ drop len text) =
    sym (take-append-drop len text) ∙ ap (λ xs. xs ++ drop len text) (front ∙ f.bytes) ∙ append_assoc (bytes cs) rest (drop len text) in
    ap (take count) whole ∙ take_at (bytes cs) (rest ++ drop len text) count (length-bytes cs ∙ sym counted)

pub parts-short : {S H : Type 0} (event : S → Event H → S → Type 0) (old new : S) (len : ℕ) (before after text room : List ℕ) (budget : ℕ) (got : RecvPass) (hs : List H)
    → length before ≡ len → take len text ≡ after → GetsWhole event old before budget got after hs new → got.count < len
    → GetsParts event old len room budget (record { count = got.count; more = 0; left = got.left; stop = got.stop }) text room hs new
parts-short event old new len before after text room budget got hs long front g lt =
    let k = length g.cs in
    let all : take len (bytes g.cs) ≡ bytes g.cs = take_all len (bytes g.cs) (omega (arith, length-bytes g.cs, g.count)) in
    let none : drop len (bytes g.cs) ≡ [] = drop_all len (bytes g.cs) (omega (arith, length-bytes g.cs, g.count)) in
    record {
      cs = g.cs;
      count = omega (arith, g.count);
      more = omega (arith, g.count);
      text = front-of g.cs before after text len got.count g.fills front g.count ∙ sym all;
      room = rw none refl;
      handles = g.handles;
      left = g.left;
      ended = ends-early event old new len (length room) budget got.left got.stop g.cs (omega (arith, g.count)) (rw long at g.ended);
    }

pub parts-whole : {S H : Type 0} (event : S → Event H → S → Type 0) (old mid new : S) (len : ℕ) (before after text room full : List ℕ) (budget : ℕ) (got rest : RecvPass) (hs : List H)
    → 0 < len → length before ≡ len → take len text ≡ after → GetsWhole event old before budget got after hs mid → len ≤ got.count → GetsRest event mid room got.left rest full new
    → GetsParts event old len room budget (record { count = got.count; more = rest.count; left = rest.left; stop = rest.stop }) text full hs new
parts-whole event old mid new len before after text room full budget got rest hs pos long front g le q =
    let w = is-whole event old mid len budget got.left got.stop g.cs (omega (arith, g.count)) (rw long at g.ended) in
    let len-b : length (bytes g.cs) ≡ len = length-bytes g.cs ∙ w.0 in
    let all = bytes-append g.cs q.cs in
    record {
      cs = g.cs ++ q.cs;
      count = omega (arith, g.count, w.0, length-append g.cs q.cs);
      more = omega (arith, q.count, w.0, length-append g.cs q.cs);
      text = front-of g.cs before after text len got.count g.fills front g.count ∙ sym (take_at (bytes g.cs) (bytes q.cs) len len-b) ∙ ap (take len) (sym all);
      room = q.fills.bytes ∙ rw (q.count, all) (ap (λ xs. xs ++ drop (length q.cs) room) (sym (drop_at (bytes g.cs) (bytes q.cs) len len-b)));
      handles = g.handles ∙ sym (first-append g.cs q.cs (omega (arith, w.0)));
      left = omega (arith, g.left, q.left);
      ended = rest-ends event old mid new g.cs q.cs (len + length room) (length room) budget got.left rest.left rest.stop q.left g.left (omega (arith, w.0)) w.1 q.ended;
    }
