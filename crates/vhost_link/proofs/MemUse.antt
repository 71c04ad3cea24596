-- What follows from the stream of a link in memory.
use Rattle.std.proofs.Common.{◌≡◌, ℕ, zero, suc, ◌<◌, List, [], ◌∷◌, ◌++◌, take, drop, replicate, sum_by, ◌⊎◌, inl, inr, ◌+◌, ◌-◌, ◌^◌, min, refl, sym, ap, subst, ◌∙◌, arith}
use Rattle.vhost_protocol.specs.Stream.{Cell, End, items}
use Rattle.vhost_link.specs.declared.cut.Cut.{Cut}
use Rattle.vhost_link.specs.declared.cut.Cut.TheVariants.{Give, Retry, Fault}
use Rattle.vhost_link.specs.declared.plain.PlainHandle.{PlainHandle}
use Rattle.vhost_link.specs.Law.{Move}
use Rattle.vhost_link.specs.Cuts.{counted, retry, failure}
use Rattle.vhost_link.specs.Ends.{Ends}
use Rattle.vhost_link.specs.Mem.{HandsFront, Runs, AreGives}

-- which cells and how many ends were handed out
cells-alone : {H : Type 0} (cs ds : List (Cell H)) (n : ℕ) → items cs ≡ items ds ++ replicate n End → (ds ≡ cs) × (n ≡ 0)
cells-alone [] [] zero e = (refl, refl)
cells-alone [] [] (suc n) e = cc
cells-alone [] (d ∷ ds) n e = cc
cells-alone (c ∷ cs) [] zero e = cc
cells-alone (c ∷ cs) [] (suc n) e = cc
cells-alone (c ∷ cs) (d ∷ ds) n e =
    let same : d ≡ c = cc in
    let rest = cells-alone cs ds n (let t : items cs ≡ items ds ++ replicate n End = cc in t) in (ap (λ x. x ∷ ds) same ∙ ap (λ xs. c ∷ xs) rest.0, rest.1)

cells-end : {H : Type 0} (cs ds : List (Cell H)) (n : ℕ) → items cs ++ End ∷ [] ≡ items ds ++ replicate n End → (ds ≡ cs) × (0 < n)
cells-end [] [] zero e = cc
cells-end [] [] (suc n) e = (refl, omega arith)
cells-end [] (d ∷ ds) n e = cc
cells-end (c ∷ cs) [] zero e = cc
cells-end (c ∷ cs) [] (suc n) e = cc
cells-end (c ∷ cs) (d ∷ ds) n e =
    let same : d ≡ c = cc in
    let rest = cells-end cs ds n (let t : items cs ++ End ∷ [] ≡ items ds ++ replicate n End = cc in t) in (ap (λ x. x ∷ ds) same ∙ ap (λ xs. c ∷ xs) rest.0, rest.1)

-- cells that were handed out are the front
pub front-cells : {H : Type 0} (before left : List (Cell H)) (cs : List (Cell H)) → HandsFront before (items cs) left → before ≡ cs ++ left
front-cells before left cs h = h.front ∙ ap (λ xs. xs ++ left) (cells-alone cs h.cells h.ends h.order).0

-- where the end was told behind them, they are all
pub front-end : {H : Type 0} (before left : List (Cell H)) (cs : List (Cell H)) → HandsFront before (items cs ++ End ∷ []) left → (before ≡ cs ++ left) × (left ≡ [])
front-end before left cs h =
    let e = cells-end cs h.cells h.ends h.order in (h.front ∙ ap (λ xs. xs ++ left) e.0, h.last e.1)

-- where every cut gives
pub give-retry : (cuts : List Cut) (n : ℕ) → AreGives cuts → sum_by retry (take n cuts) ≡ 0
give-retry cuts zero g = refl
give-retry [] (suc n) g = refl
give-retry (Give k ∷ cuts) (suc n) g = give-retry cuts n g
give-retry (Retry ∷ cuts) (suc n) g = absurd g
give-retry (Fault e ∷ cuts) (suc n) g = absurd g

pub give-failure : (cuts : List Cut) (n : ℕ) → AreGives cuts → sum_by failure (take n cuts) ≡ 0
give-failure cuts zero g = refl
give-failure [] (suc n) g = refl
give-failure (Give k ∷ cuts) (suc n) g = give-failure cuts n g
give-failure (Retry ∷ cuts) (suc n) g = absurd g
give-failure (Fault e ∷ cuts) (suc n) g = absurd g

pub give-later : (cuts : List Cut) (n : ℕ) → AreGives cuts → AreGives (drop n cuts)
give-later cuts zero g = g
give-later [] (suc n) g = g
give-later (Give k ∷ cuts) (suc n) g = give-later cuts n g
give-later (Retry ∷ cuts) (suc n) g = absurd g
give-later (Fault e ∷ cuts) (suc n) g = absurd g

-- a count that went up is not 0
counts : (before n : ℕ) → 0 < counted before (suc n)
counts before n = some (counted before n)
  where
    some : (m : ℕ) → 0 < min (m + 1) (2 ^ 64 - 1)
    some m = omega arith

want-or-none : (before after n : ℕ) → after ≡ counted before n → (n ≡ 0) ⊎ (0 < after)
want-or-none before after zero e = inl refl
want-or-none before after (suc n) e = inr (rw e (counts before n))

pub gives-alone : (old new : Ends) (m : Move PlainHandle) → Runs old m new → AreGives old.script → (m.failures ≡ 0) × ((m.retries ≡ 0) ⊎ (0 < new.wants)) × AreGives new.script
gives-alone old new m r g = (
  r.failures ∙ give-failure old.script r.calls g,
  want-or-none old.wants new.wants m.retries (r.count ∙ ap (counted old.wants) (omega (arith, r.retries, give-retry old.script r.calls g))),
  subst AreGives (sym r.script) (give-later old.script r.calls g),
)
