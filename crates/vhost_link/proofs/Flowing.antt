-- What the fields of a flow say of its cells.
use Rattle.std.proofs.Common.{◌≡◌, ℕ, ◌+◌, ◌-◌, ◌<◌, ◌≤◌, List, [], ◌∷◌, ◌++◌, length, take, drop, map, min, refl, sym, ap, subst, ◌∙◌, arith, Bool, true, false, ◌⊎◌, inl, inr, append_assoc}
use Rattle.std.specs.Prelude.{◌==◌, if◌then◌else◌, Vec}
use Rattle.std.specs.Global.{Global}
use Rattle.std.proofs.lemmas.Bool.{eq-eqb, ne_eqb, eqb-false}
use Rattle.std.proofs.lemmas.List.{length-drop, length-append, drop-append-le, take-append-le, drop-drop}
use Rattle.std.proofs.Math.Seq.{take-length}
use Rattle.vhost_message.specs.declared.limits.TheConstants.{MAX_ATTACHED_FD_ENTRIES}
use Rattle.vhost_protocol.specs.Stream.{Cell, bytes, carrying, has_some}
use Rattle.vhost_link.specs.declared.mark.Mark.{Mark}
use Rattle.vhost_link.specs.declared.plain.PlainHandle.{PlainHandle}
use Rattle.vhost_link.specs.Marks.{brought, later, first_place, marked, mark_of, moved, Within}
use Rattle.vhost_link.specs.Mem.{piece}
use Rattle.vhost_link.proofs.Cells.{plain-is}
use Rattle.vhost_link.proofs.Marking.{length-marked, bytes-marked, marked-none, marked-one, marked-join, marked-got, piece-marked, place-marked, Within-append}
use Rattle.vhost_link.proofs.Moving.{marked-moved, Within-moved}

pub flow-length : (from : ℕ) (all : List ℕ) (ms : List Mark) (cells : List (Cell PlainHandle)) → marked from (drop from all) ms ≡ cells → length cells ≡ length all - from
flow-length from all ms cells is = ap length (sym is) ∙ length-marked from (drop from all) ms ∙ length-drop from all

pub flow-bytes : (from : ℕ) (all : List ℕ) (ms : List Mark) (cells : List (Cell PlainHandle)) → marked from (drop from all) ms ≡ cells → bytes cells ≡ drop from all
flow-bytes from all ms cells is = ap bytes (sym is) ∙ bytes-marked from (drop from all) ms

-- all bytes have gone where none is left
pub gone : (from all left : ℕ) → from ≤ all → left ≡ all - from → (from ≡ all) ⊎ (from ≡ all → ⊥) → (from == all) ≡ (left == 0)
gone from all left le is (inl same) = eq-eqb from all same ∙ sym (eq-eqb left 0 (omega arith))
gone from all left le is (inr apart) = ne_eqb from all apart ∙ sym (ne_eqb left 0 (λ e. apart (omega arith)))

-- handles with the first of some bytes
none-is : (hs : List PlainHandle) → has_some hs ≡ false → hs ≡ []
none-is [] e = refl
none-is (h ∷ hs) e = cc

some-long : (hs : List PlainHandle) → has_some hs ≡ true → 0 < length hs
some-long [] e = cc
some-long (h ∷ hs) e = omega arith

marked-mark : (at : ℕ) (bs : List ℕ) (handles : Vec PlainHandle Global) (b : Bool) → has_some handles.items ≡ b
    → marked at bs (if b then record { at = at; handles = handles } ∷ [] else []) ≡ carrying handles.items bs
marked-mark at bs handles true e = marked-one at bs (record { at = at; handles = handles }) refl
marked-mark at bs handles false e = marked-none at bs ∙ sym (plain-is bs) ∙ ap (λ xs. carrying xs bs) (sym (none-is handles.items e))

within-mark : (at far : ℕ) (handles : Vec PlainHandle Global) (b : Bool) → has_some handles.items ≡ b → length handles.items ≤ MAX_ATTACHED_FD_ENTRIES → at < far
    → Within at far (if b then record { at = at; handles = handles } ∷ [] else [])
within-mark at far handles true e few lt = (omega arith, lt, (some-long handles.items e, few), tt)
within-mark at far handles false e few lt = tt

-- bytes where the list is not empty
pub some-bytes : (n : ℕ) (b : Bool) → b ≡ (n == 0) → b ≡ false → 0 < n
some-bytes n b e f = let apart = eqb-false n 0 (sym e ∙ f) in omega (arith, apart)

-- bytes that were put behind others
pub put-marked : (from at : ℕ) (all new after : List ℕ) (ms marks : List Mark) (handles : Vec PlainHandle Global) (cells : List (Cell PlainHandle))
    → after ≡ all ++ new → marks ≡ ms ++ mark_of at handles
    → at ≡ length all → from ≤ length all → Within from (length all) ms → 0 < length new → length handles.items ≤ MAX_ATTACHED_FD_ENTRIES → marked from (drop from all) ms ≡ cells
    → marked from (drop from after) marks ≡ cells ++ carrying handles.items new
put-marked from at all new after ms marks handles cells e f same le w pos few is =
    let far = at + length new in
    ap (λ xs. marked from (drop from xs) marks) e
    ∙ ap (λ xs. marked from (drop from (all ++ new)) xs) f
    ∙ ap (λ xs. marked from xs (ms ++ mark_of at handles)) (drop-append-le from all new le)
    ∙ marked-join from at far (drop from all) new ms (mark_of at handles) (omega (arith, length-drop from all)) (subst (λ x. Within from x ms) (sym same) w) (within-mark at far handles (has_some handles.items) refl few (omega arith))
    ∙ ap (λ xs. xs ++ marked at new (mark_of at handles)) is
    ∙ ap (λ xs. cells ++ xs) (marked-mark at new handles (has_some handles.items) refl)

pub put-within : (from at : ℕ) (all new after : List ℕ) (ms marks : List Mark) (handles : Vec PlainHandle Global)
    → after ≡ all ++ new → marks ≡ ms ++ mark_of at handles
    → at ≡ length all → from ≤ length all → Within from (length all) ms → 0 < length new → length handles.items ≤ MAX_ATTACHED_FD_ENTRIES
    → (from ≤ length after) × Within from (length after) marks
put-within from at all new after ms marks handles e f same le w pos few =
    let far = length after in
    let more : far ≡ length all + length new = ap length e ∙ length-append all new in (
      omega arith,
      subst (Within from far) (sym f) (Within-append from at far ms (mark_of at handles) (omega arith) (omega arith) (subst (λ x. Within from x ms) (sym same) w) (within-mark at far handles (has_some handles.items) refl few (omega arith))),
    )

-- a flow behind another
pub append-marked : (from to start : ℕ) (all other after : List ℕ) (ms ns marks : List Mark) (cells others : List (Cell PlainHandle))
    → after ≡ all ++ drop start other → marks ≡ ms ++ map (moved start to) ns
    → to ≡ length all → from ≤ length all → start ≤ length other → Within from (length all) ms → Within start (length other) ns
    → marked from (drop from all) ms ≡ cells → marked start (drop start other) ns ≡ others
    → marked from (drop from after) marks ≡ cells ++ others
append-marked from to start all other after ms ns marks cells others e f same le lo w v is other-is =
    let far = length other - start + to in
    ap (λ xs. marked from (drop from xs) marks) e
    ∙ ap (λ xs. marked from (drop from (all ++ drop start other)) xs) f
    ∙ ap (λ xs. marked from xs (ms ++ map (moved start to) ns)) (drop-append-le from all (drop start other) le)
    ∙ marked-join from to far (drop from all) (drop start other) ms (map (moved start to) ns) (omega (arith, length-drop from all)) (subst (λ x. Within from x ms) (sym same) w)
    (Within-moved start start to to (length other) far ns (omega arith) (omega arith) refl v)
    ∙ ap (λ xs. xs ++ marked to (drop start other) (map (moved start to) ns)) is
    ∙ ap (λ xs. cells ++ xs) (marked-moved start start to to (length other) (drop start other) ns (omega arith) (omega arith) v ∙ other-is)

pub append-within : (from to start : ℕ) (all other after : List ℕ) (ms ns marks : List Mark)
    → after ≡ all ++ drop start other → marks ≡ ms ++ map (moved start to) ns
    → to ≡ length all → from ≤ length all → start ≤ length other → Within from (length all) ms → Within start (length other) ns
    → (from ≤ length after) × Within from (length after) marks
append-within from to start all other after ms ns marks e f same le lo w v =
    let far = length after in
    let more : far ≡ length all + length (drop start other) = ap length e ∙ length-append all (drop start other) in
    let rest = length-drop start other in (
      omega arith,
      subst (Within from far) (sym f) (Within-append from to far ms (map (moved start to) ns) (omega arith) (omega arith) (subst (λ x. Within from x ms) (sym same) w)
          (Within-moved start start to to (length other) far ns (omega arith) (omega arith) (omega arith) v)),
    )

-- one mark more was moved
pub move-one : (f : Mark → Mark) (out after start : List Mark) (m : Mark) (ms left : List Mark) → ms ≡ m ∷ left → after ≡ out ++ f m ∷ [] → out ++ map f ms ≡ start → after ++ map f left ≡ start
move-one f out after start m ms left e put is = ap (λ xs. xs ++ map f left) put ∙ append_assoc out (f m ∷ []) (map f left) ∙ ap (λ xs. out ++ map f xs) (sym e) ∙ is

-- a slice up to the end
pub slice-whole : (from : ℕ) (all : List ℕ) → take (length all - from) (drop from all) ≡ drop from all
slice-whole from all = ap (λ k. take k (drop from all)) (sym (length-drop from all)) ∙ take-length (drop from all)

-- what was written to the front of a room
pub written : (n from : ℕ) (sub rest from-all all : List ℕ) → length sub ≡ n → sub ≡ take (from + n - from) (drop from from-all) → from-all ≡ all → take n (sub ++ rest) ≡ take n (drop from all)
written n from sub rest from-all all long is same =
    take-append-le n sub rest (omega arith) ∙ ap (λ k. take k sub) (sym long) ∙ take-length sub ∙ is ∙ ap (λ k. take k (drop from from-all)) (omega arith) ∙ ap (λ xs. take n (drop from xs)) same

-- what one receive hands out
pub got-count : (from end most n room : ℕ) (all : List ℕ) (ms left : List Mark) (cells : List (Cell PlainHandle))
    → left ≡ later from ms → end ≡ first_place left most → most ≡ length all → from ≤ length all → Within from (length all) ms → n ≡ min room (end - from) → marked from (drop from all) ms ≡ cells
    → n ≡ min room (length (piece cells))
got-count from end most n room all ms left cells e f same le w is view =
    let long = piece-marked from (length all) (drop from all) ms (omega (arith, length-drop from all)) w in
    is ∙ ap (min room) (ap (λ x. x - from) (f ∙ ap (λ x. first_place x most) e ∙ ap (first_place (later from ms)) same) ∙ sym long ∙ ap (λ x. length (piece x)) view)

pub got-marked : (from end most n room : ℕ) (all front : List ℕ) (ms left : List Mark) (handles : List PlainHandle) (cells : List (Cell PlainHandle))
    → left ≡ later from ms → end ≡ first_place left most → most ≡ length all → from ≤ length all → Within from (length all) ms → n ≡ min room (end - from) → 0 < room → front ≡ take n (drop from all) → handles ≡ brought from ms
    → marked from (drop from all) ms ≡ cells → cells ≡ carrying handles front ++ marked (from + n) (drop (from + n) all) left
got-marked from end most n room all front ms left handles cells e f same le w is pos got given view =
    let place : end ≡ first_place (later from ms) (length all) = f ∙ ap (λ x. first_place x most) e ∙ ap (first_place (later from ms)) same in
    let bound = place-marked from (length all) (drop from all) ms (omega (arith, length-drop from all)) w in
    sym view
    ∙ marked-got from (from + n) (length all) n (drop from all) ms (omega (arith, length-drop from all)) refl w (omega arith) (λ h. omega (arith, bound h))
    ∙ ap (λ xs. carrying (brought from ms) (take n (drop from all)) ++ marked (from + n) xs (later from ms)) (drop-drop n from all ∙ ap (λ k. drop k all) (omega arith))
    ∙ ap (λ xs. carrying (brought from ms) (take n (drop from all)) ++ marked (from + n) (drop (from + n) all) xs) (sym e)
    ∙ ap (λ xs. carrying xs (take n (drop from all)) ++ marked (from + n) (drop (from + n) all) left) (sym given)
    ∙ ap (λ xs. carrying handles xs ++ marked (from + n) (drop (from + n) all) left) (sym got)

-- a buffer without its front
pub without-front : (from left : ℕ) (all turned after : List ℕ) → from ≤ length all → left ≡ length all - from → turned ≡ drop from all ++ take from all → after ≡ take left turned → after ≡ drop from all
without-front from left all turned after le rest e f =
    let long = length-drop from all in
    f ∙ ap (take left) e ∙ take-append-le left (drop from all) (take from all) (omega arith) ∙ ap (λ k. take k (drop from all)) (omega arith) ∙ take-length (drop from all)

pub restart-marked : (from : ℕ) (all after : List ℕ) (ms marks : List Mark) (cells : List (Cell PlainHandle)) → after ≡ drop from all → marks ≡ map (moved from 0) ms → Within from (length all) ms → marked from (drop from all) ms ≡ cells
    → marked 0 after marks ≡ cells
restart-marked from all after ms marks cells e f w is =
    ap (λ xs. marked 0 xs marks) e ∙ ap (λ xs. marked 0 (drop from all) xs) f ∙ marked-moved from from 0 0 (length all) (drop from all) ms (omega arith) (omega arith) w ∙ is

pub restart-within : (from : ℕ) (all after : List ℕ) (ms marks : List Mark) → from ≤ length all → after ≡ drop from all → marks ≡ map (moved from 0) ms → Within from (length all) ms → Within 0 (length after) marks
restart-within from all after ms marks le e f w =
    let long = length-drop from all in
    let far : length after ≡ length all - from + 0 = omega (arith, ap length e, long) in
    subst (Within 0 (length after)) (sym f) (Within-moved from from 0 0 (length all) (length after) ms (omega arith) (omega arith) far w)
