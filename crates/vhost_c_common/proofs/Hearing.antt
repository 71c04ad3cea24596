-- What an endpoint over a link in memory hears and writes.
use Rattle.std.proofs.Common.{◌≡◌, ℕ, zero, suc, ◌<◌, Bool, true, false, List, [], ◌∷◌, ◌++◌, replicate, append_assoc, refl, sym, ap, subst, ◌∙◌, arith}
use Rattle.std.proofs.lemmas.List.{append-nil}
use Rattle.vhost_protocol.specs.Split.{Splits}
use Rattle.vhost_protocol.specs.Stream.{Cell, Item, End, items, heard}
use Rattle.vhost_link.specs.Ends.{Ends}
use Rattle.vhost_link.specs.Mem.{event, HandsFront}
use Rattle.vhost_link.specs.declared.plain.PlainHandle.{PlainHandle}
use Rattle.vhost_connection.specs.Hearing.{Hears}
use Rattle.vhost_connection.specs.Memory.{stream, TalksLaw}
use Rattle.vhost_connection.specs.Requests.{Replies}
use Rattle.vhost_connection.specs.Talk.{State}

-- where nothing was handed out, all is left
pub none-handed : {H : Type 0} (before left : List (Cell H)) → HandsFront before [] left → left ≡ before
none-handed {H} before left h = none h.cells h.order h.front
  where
    none : (cells : List (Cell H)) → [] ≡ items cells ++ replicate h.ends End → before ≡ cells ++ left → left ≡ before
    none [] order front = sym front
    none (c ∷ cells) order front = absurd cc

-- ---- the next message of a stream

-- cells that were handed out first, and what came behind them
record Peels {H : Type 0} (cells : List (Cell H)) (later : List (Item H)) (before left : List (Cell H)) : Type 0 where
  rest : List (Cell H)
  front : before ≡ cells ++ rest
  hands : HandsFront rest later left

peel : {H : Type 0} (cells : List (Cell H)) (later : List (Item H)) (some left : List (Cell H)) (n : ℕ) → items cells ++ later ≡ items some ++ replicate n End → (0 < n → left ≡ []) → Peels cells later (some ++ left) left
peel [] later some left n is last = record { rest = some ++ left; front = refl; hands = record { cells = some; ends = n; order = is; front = refl; last = last } }
peel (c ∷ cells) later [] left zero is last = absurd cc
peel (c ∷ cells) later [] left (suc n) is last = absurd cc
peel (c ∷ cells) later (x ∷ some) left n is last =
    let p = peel cells later some left n (let e : items cells ++ later ≡ items some ++ replicate n End = cc in e) last in
    let same : x ≡ c = cc in
    record { rest = p.rest; front = ap (λ y. y ∷ some ++ left) same ∙ ap (λ xs. c ∷ xs) p.front; hands = p.hands }

peeled : {H : Type 0} (cells : List (Cell H)) (later : List (Item H)) (before left : List (Cell H)) → HandsFront before (items cells ++ later) left → Peels cells later before left
peeled cells later before left h = subst (λ xs. Peels cells later xs left) (sym h.front) (peel cells later h.cells left h.ends h.order h.last)

-- an end that was told is at the end
ended : {H : Type 0} (before : List (Cell H)) (later : List (Item H)) (left : List (Cell H)) → HandsFront before (End ∷ later) left → (before ≡ []) × HandsFront [] later left
ended {H} before later left h = by h.cells h.ends h.order h.front h.last
  where
    by : (cells : List (Cell H)) (n : ℕ) → End ∷ later ≡ items cells ++ replicate n End → before ≡ cells ++ left → (0 < n → left ≡ []) → (before ≡ []) × HandsFront [] later left
    by (c ∷ cells) n order front last = absurd cc
    by [] zero order front last = absurd cc
    by [] (suc n) order front last =
        let none : left ≡ [] = last (omega arith) in (
          front ∙ none,
          record { cells = []; ends = n; order = (let e : later ≡ replicate n End = cc in e); front = sym none; last = λ h. none },
        )

-- What was heard of a stream has the outcome of the whole stream, and what comes later is of the rest.
pub record Cuts {A H : Type 0} (cut : List (Cell H) → A × List (Cell H)) (before : List (Cell H)) (outcome : A) (later : List (Item H)) (left : List (Cell H)) : Type 0 where
  pub rest : List (Cell H)
  pub is : cut before ≡ (outcome, rest)
  pub hands : HandsFront rest later left

pub cuts : {A H : Type 0} (cut : List (Cell H) → A × List (Cell H)) (cells : List (Cell H)) (ends : Bool) (outcome : A) (before left : List (Cell H)) (later : List (Item H))
    → Splits cut cells ends outcome → HandsFront before (heard cells ends ++ later) left → Cuts cut before outcome later left
cuts cut cells false outcome before left later s h =
    let p = peeled cells later before left h in record { rest = p.rest; is = ap cut p.front ∙ s p.rest; hands = p.hands }
cuts cut cells true outcome before left later s h =
    let p = peeled cells (End ∷ later) before left (subst (λ is. HandsFront before is left) (append_assoc (items cells) (End ∷ []) later) h) in
    let (none, hands) = ended p.rest later left p.hands in
    record { rest = []; is = ap cut (p.front ∙ ap (λ xs. cells ++ xs) none ∙ append-nil cells) ∙ s.0; hands = hands }

-- what an endpoint heard is what the definitions make of its stream, and the rest is left
pub hears-cut : {A : Type 0} → TalksLaw → (cut : List (Cell PlainHandle) → A × List (Cell PlainHandle)) (old new : State Ends PlainHandle) (outcome : A) → Hears event cut old outcome new
    → (cut (stream old) ≡ (outcome, stream new)) × (new.link.sent ≡ old.link.sent)
hears-cut law cut old new outcome h =
    let t = law old new _ h.serves.talks in
    let c = cuts cut h.cells h.ended outcome (stream old) (stream new) [] h.splits (subst (λ is. HandsFront (stream old) is (stream new)) (sym (append-nil (heard h.cells h.ended))) t.0) in
    (c.is ∙ ap (λ xs. (outcome, xs)) (sym (none-handed c.rest (stream new) c.hands)), t.1 ∙ append-nil old.link.sent)

-- what it wrote stands behind what it had written, and its stream is as it was
pub replies-told : TalksLaw → (old new : State Ends PlainHandle) (written : List (Cell PlainHandle)) → Replies event old written new → (stream new ≡ stream old) × (new.link.sent ≡ old.link.sent ++ written)
replies-told law old new written r =
    let t = law old new _ r.serves.talks in (none-handed (stream old) (stream new) t.0, t.1)
