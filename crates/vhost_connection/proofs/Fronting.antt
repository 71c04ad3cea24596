-- What an endpoint over a link in memory hands on, and what is left.
use Rattle.std.proofs.Common.{◌≡◌, ℕ, zero, suc, ◌<◌, List, [], ◌∷◌, ◌++◌, replicate, append_assoc, refl, sym, ap, subst, ◌∙◌, arith}
use Rattle.std.proofs.lemmas.List.{map-append}
use Rattle.vhost_protocol.specs.Stream.{Cell, Item, Byte, End, items}
use Rattle.vhost_link.specs.Ends.{Ends}
use Rattle.vhost_link.specs.Law.{Move}
use Rattle.vhost_link.specs.Mem.{event, HandsFront, StreamLaw}
use Rattle.vhost_link.specs.declared.plain.PlainHandle.{PlainHandle}
use Rattle.vhost_connection.specs.Memory.{stream}
use Rattle.vhost_connection.specs.Talk.{State, Talks}

-- only ends were told, so nothing waits
only-ends : {H : Type 0} (told : List (Item H)) (ahead : List (Cell H)) (n : ℕ) → told ++ items ahead ≡ replicate n End → (k : ℕ) × (told ≡ replicate k End) × (ahead ≡ [])
only-ends [] [] n is = (0, refl, refl)
only-ends [] (a ∷ ahead) zero is = cc
only-ends [] (a ∷ ahead) (suc n) is = cc
only-ends (t ∷ told) ahead zero is = cc
only-ends (t ∷ told) ahead (suc n) is =
    let (k, same, none) = only-ends told ahead n (let e : told ++ items ahead ≡ replicate n End = cc in e) in
    let first : t ≡ End = cc in (suc k, ap (λ x. x ∷ told) first ∙ ap (λ xs. End ∷ xs) same, none)

-- some cells of these, and then ends
record Fronts {H : Type 0} (told : List (Item H)) (ahead cells left : List (Cell H)) : Type 0 where
  some : List (Cell H)
  ends : ℕ
  order : told ≡ items some ++ replicate ends End
  front : cells ++ left ≡ some ++ (ahead ++ left)
  last : 0 < ends → ahead ++ left ≡ []

fronts : {H : Type 0} (told : List (Item H)) (ahead cells left : List (Cell H)) (n : ℕ) → told ++ items ahead ≡ items cells ++ replicate n End → (0 < n → left ≡ []) → Fronts told ahead cells left
fronts [] [] [] left n is last = record { some = []; ends = 0; order = refl; front = refl; last = λ h. absurd (omega arith) }
fronts [] [] (c ∷ cells) left n is last = absurd cc
fronts [] (a ∷ ahead) [] left zero is last = absurd cc
fronts [] (a ∷ ahead) [] left (suc n) is last = absurd cc
fronts [] (a ∷ ahead) (c ∷ cells) left n is last =
    let f = fronts [] ahead cells left n (let e : items ahead ≡ items cells ++ replicate n End = cc in e) last in
    let same : c ≡ a = cc in
    let none : f.some ≡ [] = no-cells f.some f.ends f.order in
    record { some = []; ends = 0; order = refl; front = ap (λ x. x ∷ cells ++ left) same ∙ ap (λ xs. a ∷ xs) (f.front ∙ ap (λ xs. xs ++ (ahead ++ left)) none); last = λ h. absurd (omega arith) }
  where
    no-cells : {H : Type 0} (some : List (Cell H)) (ends : ℕ) → [] ≡ items some ++ replicate ends End → some ≡ []
    no-cells [] ends e = refl
    no-cells (x ∷ xs) ends e = absurd cc
fronts (t ∷ told) ahead (c ∷ cells) left n is last =
    let f = fronts told ahead cells left n (let e : told ++ items ahead ≡ items cells ++ replicate n End = cc in e) last in
    let first : t ≡ Byte c = cc in
    record { some = c ∷ f.some; ends = f.ends; order = ap (λ x. x ∷ told) first ∙ ap (λ xs. Byte c ∷ xs) f.order; front = ap (λ xs. c ∷ xs) f.front; last = f.last }
fronts (t ∷ told) ahead [] left zero is last = absurd cc
fronts (t ∷ told) ahead [] left (suc n) is last =
    let (k, same, none) = only-ends (t ∷ told) ahead (suc n) is in
    let over : ahead ++ left ≡ [] = ap (λ xs. xs ++ left) none ∙ last (omega arith) in
    record { some = []; ends = k; order = same; front = last (omega arith) ∙ sym over; last = λ h. over }

-- what waits belongs to what is left
behind : {H : Type 0} (before : List (Cell H)) (told : List (Item H)) (ahead left : List (Cell H)) → HandsFront before (told ++ items ahead) left → HandsFront before told (ahead ++ left)
behind before told ahead left h =
    let f = fronts told ahead h.cells left h.ends h.order h.last in
    record { cells = f.some; ends = f.ends; order = f.order; front = h.front ∙ f.front; last = f.last }

-- what waited comes first
before-it : {H : Type 0} (ahead before : List (Cell H)) (told : List (Item H)) (left : List (Cell H)) → HandsFront before told left → HandsFront (ahead ++ before) (items ahead ++ told) left
before-it ahead before told left h = record {
  cells = ahead ++ h.cells;
  ends = h.ends;
  order = ap (λ xs. items ahead ++ xs) h.order ∙ sym (append_assoc (items ahead) (items h.cells) (replicate h.ends End)) ∙ ap (λ xs. xs ++ replicate h.ends End) (sym (map-append Byte ahead h.cells));
  front = ap (λ xs. ahead ++ xs) h.front ∙ sym (append_assoc ahead h.cells left);
  last = h.last;
}

-- an endpoint over a link in memory hands out its stream, in order, and appends what it takes
pub talked : StreamLaw → (old new : State Ends PlainHandle) (m : Move PlainHandle) → Talks event old m new → HandsFront (stream old) m.handed (stream new) × (new.link.sent ≡ old.link.sent ++ m.taken)
talked law old new m t =
    let r = law old.link new.link t.below t.moved in (
      behind (stream old) m.handed new.ahead new.link.pending (subst (λ is. HandsFront (stream old) is new.link.pending) t.handed (before-it old.ahead old.link.pending t.below.handed new.link.pending r.stream)),
      r.taken ∙ ap (λ xs. old.link.sent ++ xs) t.taken,
    )
