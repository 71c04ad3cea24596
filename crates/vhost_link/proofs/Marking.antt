-- Bytes with marks, joined and parted.
use Rattle.std.proofs.Common.{◌≡◌, ℕ, zero, suc, ◌+◌, ◌-◌, ◌<◌, ◌≤◌, List, [], ◌∷◌, ◌++◌, length, take, drop, refl, sym, ap, ◌∙◌, arith, ◌⊎◌, inl, inr, Bool, true, false}
use Rattle.std.specs.Prelude.{if◌then◌else◌, ◌==◌}
use Rattle.std.proofs.lemmas.Bool.{eq-eqb, ne_eqb, eqb-false, cases_eq}
use Rattle.std.proofs.lemmas.List.{take-append-drop, length-take}
use Rattle.vhost_protocol.specs.Stream.{cell, plain, carrying, bytes, has_some}
use Rattle.vhost_link.specs.declared.mark.Mark.{Mark}
use Rattle.vhost_link.specs.declared.plain.PlainHandle.{PlainHandle}
use Rattle.vhost_link.specs.Marks.{brought, later, marked, Fits, Within, first_place}
use Rattle.vhost_link.specs.Mem.{bare, piece}

-- how many cells there are, and their bytes
pub length-marked : (at : ℕ) (bs : List ℕ) (ms : List Mark) → length (marked at bs ms) ≡ length bs
length-marked at [] ms = refl
length-marked at (b ∷ bs) ms = ap suc (length-marked (suc at) bs (later at ms))

pub bytes-marked : (at : ℕ) (bs : List ℕ) (ms : List Mark) → bytes (marked at bs ms) ≡ bs
bytes-marked at [] ms = refl
bytes-marked at (b ∷ bs) ms = ap (λ xs. b ∷ xs) (bytes-marked (suc at) bs (later at ms))

-- a place before all marks
brought-before : (at end : ℕ) (ms : List Mark) → Within (suc at) end ms → brought at ms ≡ []
brought-before at end [] w = refl
brought-before at end (m ∷ ms) w = rw (ne_eqb m.at at (λ e. omega (arith, w.0))) refl

later-before : (at end : ℕ) (ms : List Mark) → Within (suc at) end ms → later at ms ≡ ms
later-before at end [] w = refl
later-before at end (m ∷ ms) w = rw (ne_eqb m.at at (λ e. omega (arith, w.0))) refl

-- bounds that are wider
pub Within-wider : (at below end above : ℕ) (ms : List Mark) → below ≤ at → end ≤ above → Within at end ms → Within below above ms
Within-wider at below end above [] lo hi w = w
Within-wider at below end above (m ∷ ms) lo hi w = (omega (arith, w.0), omega (arith, w.1), w.2, Within-wider (suc m.at) (suc m.at) end above ms (omega arith) hi w.3)

-- behind a place, the marks are behind it
within-head : (at end : ℕ) (m : Mark) (ms : List Mark) (b : Bool) → (m.at == at) ≡ b → Within at end (m ∷ ms) → Within (suc at) end (if b then ms else m ∷ ms)
within-head at end m ms true e w = Within-wider (suc m.at) (suc at) end end ms (omega (arith, w.0)) (omega arith) w.3
within-head at end m ms false e w = let apart = eqb-false m.at at e in (omega (arith, w.0, apart), w.1, w.2, w.3)

pub Within-later : (at end : ℕ) (ms : List Mark) → Within at end ms → Within (suc at) end (later at ms)
Within-later at end [] w = w
Within-later at end (m ∷ ms) w = within-head at end m ms (m.at == at) refl w

-- where the first mark stands
place-within : (at end : ℕ) (ms : List Mark) → at ≤ end → Within at end ms → (at ≤ first_place ms end) × (first_place ms end ≤ end)
place-within at end [] le w = (le, omega arith)
place-within at end (m ∷ ms) le w = (w.0, omega (arith, w.1))

Within-place : (at below end : ℕ) (ms : List Mark) → below ≤ first_place ms end → Within at end ms → Within below end ms
Within-place at below end [] le w = w
Within-place at below end (m ∷ ms) le w = (le, w.1, w.2, w.3)

-- no marks from an end on
pub Within-none : (at end below far : ℕ) (ms : List Mark) → end ≤ at → Within at end ms → Within below far ms
Within-none at end below far [] le w = tt
Within-none at end below far (m ∷ ms) le w = absurd (omega (arith, w.0, w.1))

-- bytes without marks
pub marked-none : (at : ℕ) (bs : List ℕ) → marked at bs [] ≡ plain bs
marked-none at [] = refl
marked-none at (b ∷ bs) = ap (λ xs. cell b [] ∷ xs) (marked-none (suc at) bs)

-- bytes with a mark on the first
pub marked-one : (at : ℕ) (bs : List ℕ) (m : Mark) → m.at ≡ at → marked at bs (m ∷ []) ≡ carrying m.handles.items bs
marked-one at [] m e = refl
marked-one at (b ∷ bs) m e = rw (eq-eqb m.at at e) (ap (λ xs. cell b m.handles.items ∷ xs) (marked-none (suc at) bs))

-- marks behind others
brought-append : (at end far : ℕ) (ms ns : List Mark) → at < end → Within end far ns → brought at (ms ++ ns) ≡ brought at ms
brought-append at end far [] ns lt w = brought-before at far ns (Within-wider end (suc at) far far ns (omega arith) (omega arith) w)
brought-append at end far (m ∷ ms) ns lt w = refl

later-head : (b : Bool) (m : Mark) (ms ns : List Mark) → (if b then ms ++ ns else m ∷ (ms ++ ns)) ≡ (if b then ms else m ∷ ms) ++ ns
later-head true m ms ns = refl
later-head false m ms ns = refl

later-append : (at end far : ℕ) (ms ns : List Mark) → at < end → Within end far ns → later at (ms ++ ns) ≡ later at ms ++ ns
later-append at end far [] ns lt w = later-before at far ns (Within-wider end (suc at) far far ns (omega arith) (omega arith) w)
later-append at end far (m ∷ ms) ns lt w = later-head (m.at == at) m ms ns

pub Within-append : (at end far : ℕ) (ms ns : List Mark) → at ≤ end → end ≤ far → Within at end ms → Within end far ns → Within at far (ms ++ ns)
Within-append at end far [] ns lo hi w v = Within-wider end at far far ns lo (omega arith) v
Within-append at end far (m ∷ ms) ns lo hi w v = (w.0, omega (arith, w.1), w.2, Within-append (suc m.at) end far ms ns (omega (arith, w.1)) hi w.3 v)

-- bytes with marks, and others behind them
pub marked-join : (at end far : ℕ) (bs cs : List ℕ) (ms ns : List Mark) → end ≡ at + length bs → Within at end ms → Within end far ns
    → marked at (bs ++ cs) (ms ++ ns) ≡ marked at bs ms ++ marked end cs ns
marked-join at end far [] cs [] ns e w v = ap (λ x. marked x cs ns) (omega arith)
marked-join at end far [] cs (m ∷ ms) ns e w v = absurd (omega (arith, w.0, w.1))
marked-join at end far (b ∷ bs) cs ms ns e w v =
    let lt : at < end = omega arith in
    ap (λ x. cell b x ∷ marked (suc at) (bs ++ cs) (later at (ms ++ ns))) (brought-append at end far ms ns lt v)
    ∙ ap (λ x. cell b (brought at ms) ∷ marked (suc at) (bs ++ cs) x) (later-append at end far ms ns lt v)
    ∙ ap (λ xs. cell b (brought at ms) ∷ xs) (marked-join (suc at) end far bs cs (later at ms) ns (omega arith) (Within-later at end ms w) v)

-- bytes before the first mark
marked-plain : (at to n end : ℕ) (bs : List ℕ) (ms : List Mark) → to ≡ at + n → n ≤ length bs → Within to end ms → marked at bs ms ≡ plain (take n bs) ++ marked to (drop n bs) ms
marked-plain at to n end bs ms e le w =
    ap (λ xs. marked at xs ms) (sym (take-append-drop n bs))
    ∙ marked-join at to end (take n bs) (drop n bs) [] ms (omega (arith, length-take n bs)) tt w
    ∙ ap (λ xs. xs ++ marked to (drop n bs) ms) (marked-none at (take n bs))

-- how many bytes stand before the first mark
some-is : (handles : List PlainHandle) → 0 < length handles → has_some handles ≡ true
some-is [] h = absurd (omega arith)
some-is (h ∷ hs) pos = refl

bare-here : (at b : ℕ) (bs : List ℕ) (m : Mark) (ms : List Mark) → at ≤ m.at → Fits m.handles.items → (m.at ≡ at) ⊎ (m.at ≡ at → ⊥) → ((m.at ≡ at → ⊥) → length (bare (marked (suc at) bs (m ∷ ms))) ≡ m.at - suc at)
    → length (bare (marked at (b ∷ bs) (m ∷ ms))) ≡ m.at - at
bare-here at b bs m ms le f (inl is) rest = rw (eq-eqb m.at at is, some-is m.handles.items f.0) (omega arith)
bare-here at b bs m ms le f (inr apart) rest = rw (ne_eqb m.at at apart) (omega (arith, apart, rest apart))

bare-marked : (at end : ℕ) (bs : List ℕ) (ms : List Mark) → end ≡ at + length bs → Within at end ms → length (bare (marked at bs ms)) ≡ first_place ms end - at
bare-marked at end [] [] e w = omega arith
bare-marked at end [] (m ∷ ms) e w = absurd (omega (arith, w.0, w.1))
bare-marked at end (b ∷ bs) [] e w = omega (arith, bare-marked (suc at) end bs [] (omega arith) tt)
bare-marked at end (b ∷ bs) (m ∷ ms) e w =
    bare-here at b bs m ms w.0 w.2 (cases_eq m.at at) (λ apart. bare-marked (suc at) end bs (m ∷ ms) (omega arith) (omega (arith, apart, w.0), w.1, w.2, w.3))

-- how many bytes one receive hands out at most
pub piece-marked : (at end : ℕ) (bs : List ℕ) (ms : List Mark) → end ≡ at + length bs → Within at end ms → length (piece (marked at bs ms)) ≡ first_place (later at ms) end - at
piece-marked at end [] [] e w = omega arith
piece-marked at end [] (m ∷ ms) e w = absurd (omega (arith, w.0, w.1))
piece-marked at end (b ∷ bs) ms e w =
    let v = Within-later at end ms w in
    let p = place-within (suc at) end (later at ms) (omega arith) v in omega (arith, p.0, bare-marked (suc at) end bs (later at ms) (omega arith) v)

-- bytes that are handed out, and the others
pub marked-got : (at to end n : ℕ) (bs : List ℕ) (ms : List Mark) → end ≡ at + length bs → to ≡ at + n → Within at end ms → n ≤ first_place (later at ms) end - at → (0 < length bs → 0 < n)
    → marked at bs ms ≡ carrying (brought at ms) (take n bs) ++ marked to (drop n bs) (later at ms)
marked-got at to end zero [] ms e f w le some = refl
marked-got at to end (suc n) [] [] e f w le some = absurd (omega arith)
marked-got at to end (suc n) [] (m ∷ ms) e f w le some = absurd (omega (arith, w.0, w.1))
marked-got at to end zero (b ∷ bs) ms e f w le some = absurd (let h : 0 < 0 = some (omega arith) in omega arith)
marked-got at to end (suc n) (b ∷ bs) ms e f w le some =
    let v = Within-later at end ms w in
    let p = place-within (suc at) end (later at ms) (omega arith) v in
    ap (λ xs. cell b (brought at ms) ∷ xs) (marked-plain (suc at) to n end bs (later at ms) (omega arith) (omega (arith, p.1)) (Within-place (suc at) to end (later at ms) (omega (arith, p.0)) v))

-- the first mark behind the first byte
pub place-marked : (at end : ℕ) (bs : List ℕ) (ms : List Mark) → end ≡ at + length bs → Within at end ms → 0 < length bs → at < first_place (later at ms) end
place-marked at end bs ms e w pos = (place-within (suc at) end (later at ms) (omega arith) (Within-later at end ms w)).0
