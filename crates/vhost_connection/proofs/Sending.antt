-- A text goes out piece by piece.
use Rattle.std.proofs.Common.{◌≡◌, ℕ, suc, ◌+◌, ◌-◌, ◌<◌, ◌≤◌, List, [], ◌∷◌, ◌++◌, length, take, drop, get_or, add-zero, zero-add, length-drop, refl, sym, ap, subst, ◌∙◌, arith, Bool, true, ◌||◌, IsTrue, nat_lt, Option, Some, None, Ok, Err, Result, Bor}
use Rattle.std.proofs.lemmas.Bool.{lt-ltb}
use Rattle.std.specs.Prelude.{if◌then◌else◌}
use Rattle.std.proofs.Math.Seq.{take-add, take-append-add}
use Rattle.std.proofs.lemmas.List.{append-nil, take_all, take-append-le, length-append}
use Rattle.vhost_message.specs.declared.cause.IoCause.{IoCause}
use Rattle.vhost_message.specs.Cause.{is_retry}
use Rattle.vhost_protocol.specs.Stream.{Cell, cell, plain, carrying, has_some}
use Rattle.vhost_link.specs.Law.{Event, Taken, Refused, Moved, ◌then◌, refused, Sends}
use Rattle.vhost_link.specs.Law.Moved.{more}
use Rattle.vhost_link.proofs.Moves.{Moved-as, Moved-then}
use Rattle.vhost_link.proofs.Cells.{length-carrying, piece-first, piece-later, plain-is, plain-append}
use Rattle.vhost_connection.specs.declared.pass.SendPass.{SendPass}
use Rattle.vhost_connection.specs.Pass.{sends, joined, SendsPart, SentAs, SendsWhole}
use Rattle.vhost_connection.proofs.Joining.{joined-more, joined-rest}

pub first-piece : {S H : Type 0} (event : S → Event H → S → Type 0) (old new : S) (bytes : List ℕ) (hs : List H) (count : ℕ) (r : Result ℕ IoCause)
    → count ≡ 0 → Sends event old bytes hs r new → SendsPart event old (carrying hs bytes) count r new
first-piece event old new bytes hs count (Ok n) e (some, most, sent) =
    rw (e, length-carrying hs bytes) (some, omega (arith, zero-add n), rw (← piece-first n hs bytes) sent)
first-piece event old new bytes hs count (Err c) e fault = fault

pub later-piece : {S H : Type 0} (event : S → Event H → S → Type 0) (old new : S) (bytes rest : List ℕ) (hs : List H) (count : ℕ) (r : Result ℕ IoCause)
    → 0 < count → count < length bytes → rest ≡ drop count bytes → Sends event old rest [] r new → SendsPart event old (carrying hs bytes) count r new
later-piece event old new bytes rest hs count (Ok n) pos lt e (some, most, sent) =
    rw (length-carrying hs bytes) (some, omega (arith, length-drop count bytes, ap length e), rw (← piece-later count n hs bytes pos, ← e) sent)
later-piece event old new bytes rest hs count (Err c) pos lt e fault = fault

pub one-piece : {S H : Type 0} {event : S → Event H → S → Type 0} {old mid new : S} (text : List (Cell H)) (count n r : ℕ)
    → Moved event old (sends (take count text) r) mid → event mid (Taken (take n (drop count text))) new
    → Moved event old (sends (take (count + n) text) r) new
one-piece text count n r p e = Moved-as (rw (take-add count n text, add-zero r) refl) (more p e)

refused-is : {H : Type 0} (cs : List (Cell H)) (r : ℕ) (c : IoCause) → is_retry c ≡ true → sends cs r then refused c ≡ sends cs (r + 1)
refused-is cs r c h = rw (h, append-nil cs) refl

pub one-retry : {S H : Type 0} {event : S → Event H → S → Type 0} {old mid new : S} (cs : List (Cell H)) (r s : ℕ) (c : IoCause)
    → Moved event old (sends cs r) mid → event mid (Refused c) new → is_retry c ≡ true → s ≡ r + 1
    → Moved event old (sends cs s) new
one-retry cs r s c p e h k = Moved-as (refused-is cs r c h ∙ ap (sends cs) (sym k)) (more p e)

has-count : {A : Type 0} (xs : List A) (n : ℕ) (b : Bool) → n ≡ length xs → b ≡ nat_lt 0 n → b ≡ has_some xs
has-count [] n b e t = t ∙ ap (nat_lt 0) e
has-count (x ∷ xs) n b e t = t ∙ ap (nat_lt 0) e ∙ lt-ltb 0 (suc (length xs)) (omega arith)

-- all of the text
pub whole : {S H : Type 0} {event : S → Event H → S → Type 0} {old new : S} (text : List (Cell H)) (budget count : ℕ) (moved : Bool) (left : ℕ)
    → left ≤ budget → count ≡ length text → moved ≡ nat_lt 0 count → Moved event old (sends (take count text) (budget - left)) new
    → SendsWhole event old text budget (record { moved = moved; left = left; fault = None }) new
whole text budget count moved left most e told p =
    (most, (has-count text count moved e told, Moved-as (ap (λ cs. sends cs (budget - left)) (take_all count text (omega arith))) p))

-- a front of the text, and then a fault
pub front : {S H : Type 0} {event : S → Event H → S → Type 0} {old mid new : S} (text : List (Cell H)) (budget count : ℕ) (moved : Bool) (left : ℕ) (c : IoCause)
    → left ≤ budget → count < length text → moved ≡ nat_lt 0 count → (IsTrue (is_retry c) → left ≡ 0)
    → Moved event old (sends (take count text) (budget - left)) mid → event mid (Refused c) new
    → SendsWhole event old text budget (record { moved = moved; left = left; fault = Some c }) new
front {mid = mid} text budget count moved left c most short told spent p e = (most, record { count = count; short = short; told = told; spent = spent; link = record { before = mid; moved = p; last = e } })

-- ---- the pieces of a message

-- the handles go with the first byte of all
pub next-piece : {H : Type 0} (hs : List H) (front piece : List ℕ) → carrying hs (front ++ piece) ≡ carrying hs front ++ carrying (if has_some (carrying hs front) then [] else hs) piece
next-piece hs [] piece = refl
next-piece hs (b ∷ front) piece = ap (λ cs. cell b hs ∷ cs) (plain-append front piece ∙ ap (λ cs. plain front ++ cs) (sym (plain-is piece)))

has-either : {A : Type 0} (xs ys : List A) → has_some (xs ++ ys) ≡ has_some xs || has_some ys
has-either [] ys = refl
has-either (x ∷ xs) ys = refl

has-front : {A : Type 0} (xs : List A) (n m : ℕ) → m ≡ length xs + n → has_some xs || nat_lt 0 n ≡ nat_lt 0 m
has-front [] n m e = rw (e, zero-add n) refl
has-front (x ∷ xs) n m e = sym (lt-ltb 0 m (omega arith))

both : {H : Type 0} (cs ds : List (Cell H)) (r s t : ℕ) → t ≡ r + s → sends cs r then sends ds s ≡ sends (cs ++ ds) t
both cs ds r s t k = rw k refl

ends : {S H : Type 0} (event : S → Event H → S → Type 0) (old mid new : S) (cs ds : List (Cell H)) (budget left fewer : ℕ) (moved also : Bool) (fault : Option IoCause)
    → fewer ≤ left → left ≤ budget → moved ≡ has_some cs → Moved event old (sends cs (budget - left)) mid → SentAs event mid ds left also fewer fault new
    → SentAs event old (cs ++ ds) budget (moved || also) fewer fault new
ends event old mid new cs ds budget left fewer moved also None a b told p (also-told, q) =
    (rw (told, also-told) (sym (has-either cs ds)), Moved-as (both cs ds (budget - left) (left - fewer) (budget - fewer) (omega arith)) (Moved-then p q))
ends event old mid new cs ds budget left fewer moved also (Some c) a b told p f = record {
  count = length cs + f.count;
  short = omega (arith, f.short, length-append cs ds);
  told = rw (told, f.told) (has-front cs f.count (length cs + f.count) refl);
  spent = f.spent;
  link = record {
    before = f.link.before;
    moved = Moved-as (both cs (take f.count ds) (budget - left) (left - fewer) (budget - fewer) (omega arith) ∙ ap (λ xs. sends xs (budget - fewer)) (sym (take-append-add cs ds f.count))) (Moved-then p f.link.moved);
    last = f.link.last;
  };
}

-- what was sent before, and then a piece
pub then-piece : {S H : Type 0} (event : S → Event H → S → Type 0) (old mid new : S) (hs : List H) (pieces : List (Bor (List ℕ))) (i : ℕ) (budget left : ℕ) (moved : Bool) (sent : SendPass)
    → i < length pieces → left ≤ budget → moved ≡ has_some (carrying hs (joined (take i pieces))) → Moved event old (sends (carrying hs (joined (take i pieces))) (budget - left)) mid
    → SendsWhole event mid (carrying (if moved then [] else hs) (get_or pieces i (record { ref_ptr = (0, 0); now = [] })).now) left sent new
    → SendsWhole event old (carrying hs (joined (take (i + 1) pieces))) budget (record { moved = moved || sent.moved; left = sent.left; fault = sent.fault }) new
then-piece event old mid new hs pieces i budget left moved sent lt most told p (fewer, q) =
    let d : Bor (List ℕ) = record { ref_ptr = (0, 0); now = [] } in
    let front = joined (take i pieces) in
    let piece = (get_or pieces i d).now in
    let ds = carrying (if moved then [] else hs) piece in
    let is : carrying hs (joined (take (i + 1) pieces)) ≡ carrying hs front ++ ds = ap (carrying hs) (joined-more pieces i d lt) ∙ next-piece hs front piece ∙ ap (λ b. carrying hs front ++ carrying (if b then [] else hs) piece) (sym told) in
    (omega arith, subst (λ cs. SentAs event old cs budget (moved || sent.moved) sent.left sent.fault new) (sym is) (ends event old mid new (carrying hs front) ds budget left sent.left moved sent.moved sent.fault fewer most told p q))

-- the first pieces, of which the last one did not go out whole
pub some-pieces : {S H : Type 0} (event : S → Event H → S → Type 0) (old new : S) (hs : List H) (pieces : List (Bor (List ℕ))) (i : ℕ) (budget : ℕ) (moved : Bool) (left : ℕ) (c : IoCause)
    → SendsWhole event old (carrying hs (joined (take i pieces))) budget (record { moved = moved; left = left; fault = Some c }) new
    → SendsWhole event old (carrying hs (joined pieces)) budget (record { moved = moved; left = left; fault = Some c }) new
some-pieces event old new hs pieces i budget moved left c (most, f) =
    let front = joined (take i pieces) in
    let rest = carrying (if has_some (carrying hs front) then [] else hs) (joined (drop i pieces)) in
    let is : carrying hs (joined pieces) ≡ carrying hs front ++ rest = ap (carrying hs) (joined-rest pieces i) ∙ next-piece hs front (joined (drop i pieces)) in (
      most,
      record {
        count = f.count;
        short = omega (arith, f.short, ap length is, length-append (carrying hs front) rest);
        told = f.told;
        spent = f.spent;
        link = record {
          before = f.link.before;
          moved = Moved-as (ap (λ cs. sends cs (budget - left)) (sym (ap (take f.count) is ∙ take-append-le f.count (carrying hs front) rest (omega (arith, f.short))))) f.link.moved;
          last = f.link.last;
        };
      },
    )

-- all pieces
pub all-pieces : {S H : Type 0} (event : S → Event H → S → Type 0) (old new : S) (hs : List H) (pieces : List (Bor (List ℕ))) (i : ℕ) (budget left : ℕ) (moved : Bool)
    → length pieces ≤ i → left ≤ budget → moved ≡ has_some (carrying hs (joined (take i pieces))) → Moved event old (sends (carrying hs (joined (take i pieces))) (budget - left)) new
    → SendsWhole event old (carrying hs (joined pieces)) budget (record { moved = moved; left = left; fault = None }) new
all-pieces event old new hs pieces i budget left moved le most told p =
    let all = take_all i pieces le in
    (most, (told ∙ ap (λ xs. has_some (carrying hs (joined xs))) all, Moved-as (ap (λ xs. sends (carrying hs (joined xs)) (budget - left)) all) p))
