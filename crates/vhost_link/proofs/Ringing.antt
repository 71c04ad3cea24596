-- What the calls of a link between two threads did.
use Rattle.std.proofs.Common.{◌≡◌, ℕ, ◌+◌, ◌<◌, List, [], ◌∷◌, ◌++◌, length, map, append_assoc, refl, sym, ap, subst, ◌∙◌, arith}
use Rattle.std.proofs.lemmas.List.{append-nil, length-map}
use Rattle.std.specs.Global.{Global}
use Rattle.std.specs.Prelude.{Result, IsOk, is_ok, if◌then◌else◌}
use mathlib.Core.List.{IsPrefix, append_cancel_left}
use denote.Bor.{Bor}
use Rattle.rtrb.specs.Ends.{SameRing}
use Rattle.rtrb.specs.Ring.{sent, received, known_free, known_items, all_sent, SameProducer, SameConsumer, ProducerLooked, ConsumerLooked}
use Rattle.rtrb.specs.declared.end.End.{End}
use Rattle.rtrb.specs.declared.producer.Producer.{Producer}
use Rattle.rtrb.specs.declared.consumer.Consumer.{Consumer}
use Rattle.rtrb.specs.declared.finished.Finished.{Finished}
use Rattle.vhost_protocol.specs.Stream.{Cell, carrying}
use Rattle.vhost_protocol.specs.Pieces.{cells_behind}
use Rattle.vhost_link.specs.declared.piece.Piece.{Piece}
use Rattle.vhost_link.specs.declared.piece.Piece.TheVariants.{Byte, Handle}
use Rattle.vhost_link.specs.declared.plain.PlainHandle.{PlainHandle}
use Rattle.vhost_link.specs.Law.{Taken, Handed}
use Rattle.vhost_link.specs.Pieces.{stream_piece, cells_of, waiting_behind, waiting, handle_piece, byte_piece, HasHandleFirst}
use Rattle.vhost_link.specs.Rings.{Ring, ring, RingEnds, ends_of, AllSent, all_of, Compared, event, BeginsWithHandles}
use Rattle.vhost_link.proofs.Cells.{length-carrying}
use Rattle.vhost_link.proofs.Piecing.{waiting-append, cells_of-append, ready-known, ready-bytes, count-behind, cells-sent, cells-bytes, pieces-now, pieces-carrying}

-- the same ring has the same name
pub same-ring : {P : Type 0} (a b : End Piece Global P) → SameRing a b → ring b ≡ ring a
same-ring a b s =
    ap (λ x. record { words = x; slots = b.slots; names = b.names; heap = b.heap }) s.0
    ∙ ap (λ x. record { words = a.words; slots = x; names = b.names; heap = b.heap }) s.1
    ∙ ap (λ x. record { words = a.words; slots = a.slots; names = x; heap = b.heap }) s.2
    ∙ ap (λ x. record { words = a.words; slots = a.slots; names = a.names; heap = x }) s.3

abbrev ends : Ring → Ring → List (Cell PlainHandle) → List (Cell PlainHandle) → ℕ → List (Cell PlainHandle) → RingEnds
ends o i s r f d = record { output = o; input = i; sent = s; received = r; room = f; ready = d }

-- one more handle or byte is known
prefix-grows : {A : Type 0} (front a b more : List A) → front ++ a ≡ (front ++ b) ++ more → a ≡ b ++ more
prefix-grows front a b more e = append_cancel_left front a (b ++ more) (e ∙ append_assoc front b more)

prefix-none : {A : Type 0} (a b : List A) → b ≡ [] → IsPrefix a b → a ≡ []
prefix-none [] b none p = refl
prefix-none (x ∷ a) b none p = let e = p.1 ∙ none in cc

-- What is known of the way in after a look, and after the handles that came first were kept.
pub record Looked {P : Type 0} (i j : Consumer Piece Global P) (before after : List PlainHandle) : Type 0 where
  pub ring : ring j.end ≡ ring i.end
  pub cells : cells_of (received j) ≡ cells_of (received i)
  pub kept : after ≡ waiting (received j)
  pub ready : IsPrefix (cells_behind before (map stream_piece (known_items i))) (cells_behind after (map stream_piece (known_items j)))

pub looked : {P : Type 0} (i l j : Consumer Piece Global P) (before after : List PlainHandle) → before ≡ waiting (received i) → ConsumerLooked i l → SameConsumer l j
    → received j ++ known_items j ≡ received l ++ known_items l → cells_of (received j) ≡ cells_of (received l) → after ≡ waiting (received j) → Looked i j before after
looked i l j before after e look same all cells kept =
    let front : cells_of (received j) ≡ cells_of (received i) = cells ∙ ap cells_of look.1 in
    let more = cells_behind (waiting (received i ++ known_items i)) (map stream_piece look.2.0) in
    let whole : received j ++ known_items j ≡ (received i ++ known_items i) ++ look.2.0 =
    all ∙ ap (λ ps. ps ++ known_items l) look.1 ∙ ap (λ ps. received i ++ ps) (sym look.2.1) ∙ sym (append_assoc (received i) (known_items i) look.2.0) in record {
      ring = same-ring l.end j.end same.0 ∙ same-ring i.end l.end look.0.0;
      cells = front;
      kept = kept;
      ready = (more, sym (prefix-grows (cells_of (received i)) _ _ more (ap (λ cs. cs ++ cells_behind after (map stream_piece (known_items j))) (sym front) ∙ sym (ready-known (received j) (known_items j) after kept) ∙ ap cells_of whole ∙ cells_of-append (received i ++ known_items i) look.2.0 ∙ ap (λ cs. cs ++ more) (ready-known (received i) (known_items i) before e))));
    }

-- two looks, one after the other
pub look-again : {P : Type 0} (i j k : Consumer Piece Global P) → ConsumerLooked i j → ConsumerLooked j k → ConsumerLooked i k
look-again i j k a b = (
  (
    (b.0.0.0 ∙ a.0.0.0, b.0.0.1 ∙ a.0.0.1, b.0.0.2 ∙ a.0.0.2, b.0.0.3 ∙ a.0.0.3),
    b.0.1 ∙ a.0.1,
  ),
  b.1 ∙ a.1,
  (a.2.0 ++ b.2.0, sym (append_assoc (known_items i) a.2.0 b.2.0) ∙ ap (λ ps. ps ++ b.2.0) a.2.1 ∙ b.2.1),
)

-- what an append that succeeds did
pub appended : {A B E : Type 0} (r : Result B E) (now xs ys : List A) → IsOk r → xs ≡ [] → now ≡ (if is_ok r then xs ++ ys else xs) → now ≡ ys
appended r now xs ys ok none e = e ∙ ap (λ b. if b then xs ++ ys else xs) ok ∙ ap (λ zs. zs ++ ys) none

pub emptied : {A B E : Type 0} (r : Result B E) (now ys : List A) → IsOk r → now ≡ (if is_ok r then [] else ys) → now ≡ []
emptied r now ys ok e = e ∙ ap (λ b. if b then [] else ys) ok

-- nothing came
pub nothing-came : {P : Type 0} (o : Producer Piece Global P) (i j : Consumer Piece Global P) (before after : List PlainHandle) (old : RingEnds) → ends_of o i before ≡ old → Looked i j before after
    → known_items j ≡ [] → (old.ready ≡ []) × (ends_of o j after ≡ old)
nothing-came o i j before after old is l none =
    let now : cells_behind after (map stream_piece (known_items j)) ≡ [] = ap (λ ps. cells_behind after (map stream_piece ps)) none in
    let was = prefix-none _ _ now l.ready in (
      ap (λ e. e.ready) (sym is) ∙ was,
      ap (λ x. ends (ring o.end) x (cells_of (sent o)) (cells_of (received j)) (known_free o) (cells_behind after (map stream_piece (known_items j)))) l.ring
          ∙ ap (λ x. ends (ring o.end) (ring i.end) (cells_of (sent o)) x (known_free o) (cells_behind after (map stream_piece (known_items j)))) l.cells
          ∙ ap (ends (ring o.end) (ring i.end) (cells_of (sent o)) (cells_of (received i)) (known_free o)) (now ∙ sym was)
          ∙ is,
    )

-- bytes were handed out
pub handed : {P : Type 0} (o : Producer Piece Global P) (i j k : Consumer Piece Global P) (before after : List PlainHandle) (old : RingEnds) (bs : List ℕ) → ends_of o i before ≡ old → Looked i j before after
    → 0 < length bs → SameConsumer j k → received k ≡ received j ++ map byte_piece bs → known_items j ≡ map byte_piece bs ++ known_items k → event old (Handed (carrying after bs)) (ends_of o k [])
handed o i j k before after old bs is l pos same got known =
    let cells : cells_of (received k) ≡ cells_of (received i) ++ carrying after bs =
    ap cells_of got ∙ cells-bytes (received j) bs ∙ ap (λ cs. cs ++ carrying (waiting (received j)) bs) l.cells ∙ ap (λ hs. cells_of (received i) ++ carrying hs bs) (sym l.kept) in (
      omega (arith, length-carrying after bs),
      subst (λ cs. IsPrefix old.ready cs) (ready-bytes after bs (known_items j) (known_items k) pos known) (subst (λ e. IsPrefix e.ready (cells_behind after (map stream_piece (known_items j)))) is l.ready),
      ap (λ x. ends (ring o.end) x (cells_of (sent o)) (cells_of (received k)) (known_free o) (cells_behind [] (map stream_piece (known_items k)))) (same-ring j.end k.end same.0 ∙ l.ring)
          ∙ ap (λ x. ends (ring o.end) (ring i.end) (cells_of (sent o)) x (known_free o) (cells_behind [] (map stream_piece (known_items k)))) cells
          ∙ ap {A = RingEnds} (λ e. record e { received = e.received ++ carrying after bs; ready = cells_behind [] (map stream_piece (known_items k)) }) is,
    )

-- handles and bytes were taken in
pub taken : {P : Type 0} (o p q r : Producer Piece Global P) (i : Consumer Piece Global P) (kept : List PlainHandle) (old : RingEnds) (hs : List (Bor PlainHandle)) (bs : List ℕ) → ends_of o i kept ≡ old
    → waiting (sent o) ≡ [] → 0 < length bs → ProducerLooked o p → SameProducer p q → sent q ≡ sent p ++ map (λ h. handle_piece h.now) hs → known_free p ≡ known_free q + length hs
    → SameProducer q r → sent r ≡ sent q ++ map byte_piece bs → known_free q ≡ known_free r + length bs
    → event old (Taken (carrying (map (λ h. h.now) hs) bs)) (ends_of r i kept)
taken o p q r i kept old hs bs is none pos look pq handles places qr bytes room =
    let given = map (λ h. h.now) hs in
    let all : sent r ≡ (sent o ++ map handle_piece given) ++ map byte_piece bs = bytes ∙ ap (λ ps. ps ++ map byte_piece bs) (handles ∙ ap (λ ps. sent p ++ ps) (pieces-now hs) ∙ ap (λ ps. ps ++ map handle_piece given) look.1) in
    let cells : cells_of (sent r) ≡ cells_of (sent o) ++ carrying given bs = ap cells_of all ∙ cells-sent (sent o) given bs none in
    let free : old.room ≡ known_free o = sym (ap (λ e. e.room) is) in (
      omega (arith, length-carrying given bs),
      omega (arith, free, look.2, places, room, pieces-carrying given bs pos, length-map hs (λ h. h.now)),
      ap (λ x. ends x (ring i.end) (cells_of (sent r)) (cells_of (received i)) (known_free r) (cells_behind kept (map stream_piece (known_items i)))) (same-ring q.end r.end qr.0 ∙ same-ring p.end q.end pq.0 ∙ same-ring o.end p.end look.0.0)
          ∙ ap (λ x. ends (ring o.end) (ring i.end) x (cells_of (received i)) (known_free r) (cells_behind kept (map stream_piece (known_items i)))) cells
          ∙ ap {A = RingEnds} (λ e. record e { sent = e.sent ++ carrying given bs; room = known_free r }) is,
    )

-- all that is left is known
pub compared : {P : Type 0} (o : Producer Piece Global P) (i j : Consumer Piece Global P) (kept : List PlainHandle) (old : RingEnds) (f : Finished Piece Global P) (token : AllSent) (n m : ℕ) → ends_of o i kept ≡ old
    → token ≡ all_of f → waiting (all_sent f) ≡ [] → kept ≡ waiting (received i) → ConsumerLooked i j → received j ++ known_items j ≡ all_sent f → n ≡ length kept → m ≡ length (known_items j)
    → Compared token old (n + m) (ends_of o j kept)
compared o i j kept old f token n m is shows whole waits look fifo count_kept count =
    let now : kept ≡ waiting (received j) = waits ∙ ap waiting (sym look.1) in
    let l = looked i j j kept kept waits look ((refl, refl, refl, refl), refl) refl refl now in
    let ends_whole : waiting_behind kept (map stream_piece (known_items j)) ≡ [] = ap (λ hs. waiting_behind hs (map stream_piece (known_items j))) now ∙ sym (waiting-append (received j) (known_items j)) ∙ ap waiting fifo ∙ whole in record {
      all = sym (ready-known (received j) (known_items j) kept now) ∙ ap cells_of fifo ∙ sym (ap (λ t. t.cells) shows);
      count = omega (arith, count_kept, count, count-behind kept (map stream_piece (known_items j)) ends_whole, length-map (known_items j) stream_piece);
      known = subst (λ e. IsPrefix e.ready (cells_behind kept (map stream_piece (known_items j)))) is l.ready;
      same =
          ap (λ x. ends (ring o.end) x (cells_of (sent o)) (cells_of (received j)) (known_free o) (cells_behind kept (map stream_piece (known_items j)))) l.ring
          ∙ ap (λ x. ends (ring o.end) (ring i.end) (cells_of (sent o)) x (known_free o) (cells_behind kept (map stream_piece (known_items j)))) l.cells
          ∙ ap {A = RingEnds} (λ e. record e { ready = cells_behind kept (map stream_piece (known_items j)) }) is;
    }

-- one more handle is kept
pub keeps-one : {P : Type 0} (i j k : Consumer Piece Global P) (before after : List PlainHandle) (h : PlainHandle) → received k ≡ received j ++ handle_piece h ∷ [] → known_items j ≡ handle_piece h ∷ known_items k
    → received j ++ known_items j ≡ received i ++ known_items i → cells_of (received j) ≡ cells_of (received i) → before ≡ waiting (received j) → after ≡ before ++ h ∷ []
    → (received k ++ known_items k ≡ received i ++ known_items i) × (cells_of (received k) ≡ cells_of (received i)) × (after ≡ waiting (received k))
keeps-one i j k before after h got known all cells kept is = (
  ap (λ ps. ps ++ known_items k) got ∙ append_assoc (received j) (handle_piece h ∷ []) (known_items k) ∙ ap (λ ps. received j ++ ps) (sym known) ∙ all,
  ap cells_of got ∙ cells_of-append (received j) (handle_piece h ∷ []) ∙ append-nil (cells_of (received j)) ∙ cells,
  is ∙ ap (λ hs. hs ++ h ∷ []) kept ∙ sym (waiting-append (received j) (handle_piece h ∷ [])) ∙ ap waiting (sym got),
)

-- where no byte comes next, what is ready begins with handles
handles-first : (h : PlainHandle) (hs : List PlainHandle) (ps : List Piece) → BeginsWithHandles (cells_behind (h ∷ hs) (map stream_piece ps))
handles-first h hs [] = tt
handles-first h hs (Byte b ∷ ps) = omega arith
handles-first h hs (Handle id kind ∷ ps) = handles-first h (hs ++ record { id = id; kind = kind } ∷ []) ps

pub stops-at-handles : (kept : List PlainHandle) (ps : List Piece) → kept ≡ [] → HasHandleFirst ps → BeginsWithHandles (cells_behind kept (map stream_piece ps))
stops-at-handles kept [] none first = tt
stops-at-handles kept (Byte b ∷ ps) none first = absurd first
stops-at-handles kept (Handle id kind ∷ ps) none first = rw none (handles-first (record { id = id; kind = kind }) [] ps)
