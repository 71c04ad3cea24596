-- What endpoints over links in memory receive and send.
use Rattle.std.proofs.Common.{◌≡◌, ℕ, zero, suc, List, [], ◌∷◌, ◌++◌, Bool, true, false, refl, sym, ap, ◌∙◌, append_assoc, arith}
use Rattle.std.specs.Prelude.{replicate}
use Rattle.std.proofs.lemmas.List.{append-nil}
use Rattle.vhost_protocol.specs.Stream.{Cell, Item, Byte, End, items, heard}
use Rattle.vhost_protocol.specs.Split.{Splits}
use Rattle.vhost_link.specs.declared.plain.PlainHandle.{PlainHandle}
use Rattle.vhost_link.specs.Ends.{Ends}
use Rattle.vhost_link.specs.Law.{Move}
use Rattle.vhost_link.specs.Mem.{event, Runs}
use Rattle.vhost_link.proofs.MemStream.{mem-stream}
use Rattle.vhost_connection.specs.Talk.{State, Talks}
use Rattle.vhost_joined.specs.OnWay.{incoming, outgoing}

-- the cells among some items
abbrev pub cells_in : {H : Type 0} → List (Item H) → List (Cell H)
cells_in [] = []
cells_in (Byte c ∷ is) = c ∷ cells_in is
cells_in (End ∷ is) = cells_in is

-- the cells behind the first end
abbrev pub cells_behind : {H : Type 0} → List (Item H) → List (Cell H)
cells_behind [] = []
cells_behind (Byte c ∷ is) = cells_behind is
cells_behind (End ∷ is) = cells_in is

-- how many ends there are
abbrev pub ends_in : {H : Type 0} → List (Item H) → ℕ
ends_in [] = 0
ends_in (Byte c ∷ is) = ends_in is
ends_in (End ∷ is) = suc (ends_in is)

in-append : {H : Type 0} (xs ys : List (Item H)) → cells_in (xs ++ ys) ≡ cells_in xs ++ cells_in ys
in-append [] ys = refl
in-append (Byte c ∷ xs) ys = ap (λ cs. c ∷ cs) (in-append xs ys)
in-append (End ∷ xs) ys = in-append xs ys

in-items : {H : Type 0} (cs : List (Cell H)) → cells_in (items cs) ≡ cs
in-items [] = refl
in-items (c ∷ cs) = ap (λ ds. c ∷ ds) (in-items cs)

in-ends : {H : Type 0} (n : ℕ) → cells_in {H = H} (replicate n End) ≡ []
in-ends zero = refl
in-ends (suc n) = in-ends n

behind-items : {H : Type 0} (cs : List (Cell H)) (is : List (Item H)) → cells_behind (items cs ++ is) ≡ cells_behind is
behind-items [] is = refl
behind-items (c ∷ cs) is = behind-items cs is

behind-ends : {H : Type 0} (n : ℕ) → cells_behind {H = H} (replicate n End) ≡ []
behind-ends zero = refl
behind-ends (suc n) = in-ends n

ends-items : {H : Type 0} (cs : List (Cell H)) (is : List (Item H)) → ends_in (items cs ++ is) ≡ ends_in is
ends-items [] is = refl
ends-items (c ∷ cs) is = ends-items cs is

ends-ends : (H : Type 0) (n : ℕ) → ends_in {H = H} (replicate n End) ≡ n
ends-ends H zero = refl
ends-ends H (suc n) = ap suc (ends-ends H n)

heard-cells : {H : Type 0} (cs : List (Cell H)) (ended : Bool) → cells_in (heard cs ended) ≡ cs
heard-cells cs true = in-append (items cs) (End ∷ []) ∙ append-nil (cells_in (items cs)) ∙ in-items cs
heard-cells cs false = in-items cs

module _ (old new : State Ends PlainHandle) (m : Move PlainHandle) (p : Talks event old m new) where
  law : Runs old.link p.below new.link
  law = mem-stream old.link new.link p.below p.moved

  -- what was handed on stood at the front of what was coming
  pub incoming-handed : incoming old ≡ cells_in m.handed ++ incoming new
  unfolding law
  incoming-handed =
      let s = law.stream in
      let below : cells_in p.below.handed ≡ s.cells =
      ap cells_in s.order ∙ in-append (items s.cells) (replicate s.ends End) ∙ ap (λ xs. cells_in (items s.cells) ++ xs) (in-ends s.ends) ∙ append-nil (cells_in (items s.cells)) ∙ in-items s.cells in
      let both : old.ahead ++ s.cells ≡ cells_in m.handed ++ new.ahead =
      ap (λ xs. xs ++ s.cells) (sym (in-items old.ahead)) ∙ ap (λ xs. cells_in (items old.ahead) ++ xs) (sym below)
      ∙ sym (in-append (items old.ahead) p.below.handed) ∙ ap cells_in p.handed ∙ in-append m.handed (items new.ahead)
      ∙ ap (λ xs. cells_in m.handed ++ xs) (in-items new.ahead) in
      ap (λ xs. old.ahead ++ xs) s.front ∙ sym (append_assoc old.ahead s.cells new.link.pending) ∙ ap (λ xs. xs ++ new.link.pending) both
      ∙ append_assoc (cells_in m.handed) new.ahead new.link.pending

  -- where the end was told last, nothing is left
  pub incoming-ended : (cs : List (Cell PlainHandle)) → m.handed ≡ heard cs true → incoming new ≡ []
  unfolding law
  incoming-ended cs e =
      let s = law.stream in
      let whole : items old.ahead ++ (items s.cells ++ replicate s.ends End) ≡ items cs ++ (End ∷ items new.ahead) =
      ap (λ xs. items old.ahead ++ xs) (sym s.order) ∙ p.handed ∙ ap (λ xs. xs ++ items new.ahead) e ∙ append_assoc (items cs) (End ∷ []) (items new.ahead) in
      let count : s.ends ≡ suc (ends_in (items new.ahead)) =
      sym (ends-items old.ahead (items s.cells ++ replicate s.ends End) ∙ ends-items s.cells (replicate s.ends End) ∙ ends-ends PlainHandle s.ends)
      ∙ ap ends_in whole ∙ ends-items cs (End ∷ items new.ahead) in
      let ahead : new.ahead ≡ [] =
      sym (in-items new.ahead) ∙ sym (behind-items cs (End ∷ items new.ahead)) ∙ sym (ap cells_behind whole)
      ∙ behind-items old.ahead (items s.cells ++ replicate s.ends End) ∙ behind-items s.cells (replicate s.ends End) ∙ behind-ends s.ends in
      ap (λ xs. xs ++ new.link.pending) ahead ∙ s.last (omega arith)

  -- what was received, and what is still coming
  pub incoming-heard : (cs : List (Cell PlainHandle)) (ended : Bool) → m.handed ≡ heard cs ended → incoming old ≡ cs ++ incoming new
  incoming-heard cs ended e = incoming-handed ∙ ap (λ is. cells_in is ++ incoming new) e ∙ ap (λ xs. xs ++ incoming new) (heard-cells cs ended)

  -- what was received has the outcome that all that was coming has, and the rest of it is what is still coming
  pub incoming-cut : {A : Type 0} (cut : List (Cell PlainHandle) → A × List (Cell PlainHandle)) (cs : List (Cell PlainHandle)) (ended : Bool) (outcome : A)
      → m.handed ≡ heard cs ended → Splits cut cs ended outcome → cut (incoming old) ≡ (outcome, incoming new)
  incoming-cut cut cs true outcome e splits =
      let none = incoming-ended cs e in
      let front : incoming old ≡ cs = incoming-heard cs true e ∙ ap (λ xs. cs ++ xs) none ∙ append-nil cs in
      ap cut front ∙ splits.0 ∙ ap (λ xs. (outcome, xs)) (sym none)
  incoming-cut cut cs false outcome e splits =
      ap cut (incoming-heard cs false e) ∙ splits (incoming new)

  -- what was taken in is behind what had gone
  pub outgoing-taken : outgoing new ≡ outgoing old ++ m.taken
  unfolding law
  outgoing-taken = law.taken ∙ ap (λ xs. outgoing old ++ xs) p.taken
