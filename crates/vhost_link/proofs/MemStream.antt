-- What the calls of a link in memory add up to.
use Rattle.std.proofs.Common.{◌≡◌, ℕ, zero, suc, ◌+◌, ◌-◌, ◌^◌, ◌<◌, min, List, [], ◌∷◌, ◌++◌, length, take, drop, replicate, sum_by, append_assoc, refl, sym, ap, subst, ◌∙◌, arith, Bool, true, false}
use Rattle.std.specs.Prelude.{if◌then◌else◌}
use Rattle.std.proofs.lemmas.List.{append-nil, map-append, replicate-append-replicate}
use Rattle.std.proofs.lemmas.List.Sums.{sum_by-append}
use Rattle.vhost_message.specs.declared.cause.IoCause.{IoCause}
use Rattle.vhost_message.specs.declared.cause.IoCause.TheVariants.{Raw}
use Rattle.vhost_message.specs.Cause.{is_retry}
use Rattle.vhost_protocol.specs.Stream.{Cell, Item, Byte, End, items}
use Rattle.vhost_link.specs.declared.cut.Cut.{Cut}
use Rattle.vhost_link.specs.declared.cut.Cut.TheVariants.{Give, Retry, Fault}
use Rattle.vhost_link.specs.declared.plain.PlainHandle.{PlainHandle}
use Rattle.vhost_link.specs.Law.{Event, Handed, Ended, Taken, Refused, Move, Moved, done, move, refused}
use Rattle.vhost_link.specs.Law.Moved.{still, more}
use Rattle.vhost_link.specs.Cuts.{Gives, Fails, counted, retry, failure}
use Rattle.vhost_link.specs.Ends.{Ends}
use Rattle.vhost_link.specs.Mem.{event, HandsFront, Runs}

-- a refusal moves no cell
refused-handed : {H : Type 0} (b : Bool) → (if b then move {H = H} [] [] 1 0 else move [] [] 0 1).handed ≡ []
refused-handed true = refl
refused-handed false = refl

refused-taken : {H : Type 0} (b : Bool) → (if b then move {H = H} [] [] 1 0 else move [] [] 0 1).taken ≡ []
refused-taken true = refl
refused-taken false = refl

refused-retries : (H : Type 0) (b : Bool) → (if b then move {H = H} [] [] 1 0 else move [] [] 0 1).retries ≡ (if b then 1 else 0)
refused-retries H true = refl
refused-retries H false = refl

refused-failures : (H : Type 0) (b : Bool) → (if b then move {H = H} [] [] 1 0 else move [] [] 0 1).failures ≡ (if b then 0 else 1)
refused-failures H true = refl
refused-failures H false = refl

-- a call that moves bytes has no failing cut
gives-retry : (cuts : List Cut) (n : ℕ) → Gives cuts n → sum_by retry (take 1 cuts) ≡ 0
gives-retry [] n g = refl
gives-retry (Give k ∷ cuts) n g = refl
gives-retry (Retry ∷ cuts) n g = absurd g
gives-retry (Fault e ∷ cuts) n g = absurd g

gives-failure : (cuts : List Cut) (n : ℕ) → Gives cuts n → sum_by failure (take 1 cuts) ≡ 0
gives-failure [] n g = refl
gives-failure (Give k ∷ cuts) n g = refl
gives-failure (Retry ∷ cuts) n g = absurd g
gives-failure (Fault e ∷ cuts) n g = absurd g

-- one more cut
take-one : {A : Type 0} (n : ℕ) (xs : List A) → take (suc n) xs ≡ take n xs ++ take 1 (drop n xs)
take-one zero xs = refl
take-one (suc n) [] = refl
take-one (suc n) (x ∷ xs) = ap (λ ys. x ∷ ys) (take-one n xs)

drop-one : {A : Type 0} (n : ℕ) (xs : List A) → drop (suc n) xs ≡ drop 1 (drop n xs)
drop-one zero xs = refl
drop-one (suc n) [] = refl
drop-one (suc n) (x ∷ xs) = drop-one n xs

-- what stands beside the stream after one call
record Step (old : Ends) (m : Move PlainHandle) (new : Ends) : Type 0 where
  wants : ℕ
  taken : new.sent ≡ old.sent ++ m.taken
  script : new.script ≡ drop 1 old.script
  retries : m.retries ≡ sum_by retry (take 1 old.script) + wants
  failures : m.failures ≡ sum_by failure (take 1 old.script)
  count : new.wants ≡ counted old.wants wants

-- a failure by the cut, or by want of memory
failed : (cuts : List Cut) (c : IoCause) (before after : ℕ) → Fails cuts c before after
    → (wants : ℕ) × ((refused {H = PlainHandle} c).retries ≡ sum_by retry (take 1 cuts) + wants) × ((refused {H = PlainHandle} c).failures ≡ sum_by failure (take 1 cuts))
    × (after ≡ counted before wants)
failed [] c before after f = rw f.0 (1, refl, refl, f.1)
failed (Give n ∷ cuts) c before after f = rw f.0 (1, refl, refl, f.1)
failed (Retry ∷ cuts) c before after f = rw f.0 (0, refl, refl, f.1)
failed (Fault e ∷ cuts) c before after f = rw f.0 (
  0,
  refused-retries PlainHandle (is_retry (Raw e)) ∙ omega arith,
  refused-failures PlainHandle (is_retry (Raw e)) ∙ omega arith,
  f.1,
)

step : (old new : Ends) (e : Event PlainHandle) → event old e new → Step old (done e) new
step old new (Handed cs) h = record {
  wants = 0;
  taken = ap (λ l. l.sent) h.3 ∙ sym (append-nil old.sent);
  script = ap (λ l. l.script) h.3;
  retries = omega (arith, gives-retry old.script (length cs) h.1);
  failures = sym (gives-failure old.script (length cs) h.1);
  count = ap (λ l. l.wants) h.3;
}
step old new Ended h = record {
  wants = 0;
  taken = ap (λ l. l.sent) h.2 ∙ sym (append-nil old.sent);
  script = ap (λ l. l.script) h.2;
  retries = omega (arith, gives-retry old.script 0 h.1);
  failures = sym (gives-failure old.script 0 h.1);
  count = ap (λ l. l.wants) h.2;
}
step old new (Taken cs) h = record {
  wants = 0;
  taken = ap (λ l. l.sent) h.2;
  script = ap (λ l. l.script) h.2;
  retries = omega (arith, gives-retry old.script (length cs) h.1);
  failures = sym (gives-failure old.script (length cs) h.1);
  count = ap (λ l. l.wants) h.2;
}
step old new (Refused c) h =
    let f = failed old.script c old.wants new.wants h.0 in record {
      wants = f.0;
      taken = ap (λ l. l.sent) h.1 ∙ sym (append-nil old.sent) ∙ ap (λ xs. old.sent ++ xs) (sym (refused-taken (is_retry c)));
      script = ap (λ l. l.script) h.1;
      retries = f.1;
      failures = f.2;
      count = f.3;
    }

-- a stream that is handed out in two parts
no-end : {H : Type 0} (n : ℕ) (cs left : List (Cell H)) → 0 < length cs → (0 < n → cs ++ left ≡ []) → n ≡ 0
no-end zero cs left pos last = refl
no-end (suc n) [] left pos last = absurd (omega arith)
no-end (suc n) (c ∷ cs) left pos last = let e = last (omega arith) in cc

hand-more : {H : Type 0} (before mid left cs : List (Cell H)) (told : List (Item H)) → HandsFront before told mid → 0 < length cs → mid ≡ cs ++ left → HandsFront before (told ++ items cs) left
hand-more before mid left cs told p pos is =
    let none : p.ends ≡ 0 = no-end p.ends cs left pos (λ h. sym is ∙ p.last h) in record {
      cells = p.cells ++ cs;
      ends = 0;
      order = ap (λ xs. xs ++ items cs) (p.order ∙ ap (λ n. items p.cells ++ replicate n End) none ∙ append-nil (items p.cells)) ∙ sym (map-append Byte p.cells cs) ∙ sym (append-nil (items (p.cells ++ cs)));
      front = p.front ∙ ap (λ xs. p.cells ++ xs) is ∙ sym (append_assoc p.cells cs left);
      last = λ h. absurd (omega arith);
    }

hand-end : {H : Type 0} (before mid : List (Cell H)) (told : List (Item H)) → HandsFront before told mid → mid ≡ [] → HandsFront before (told ++ End ∷ []) mid
hand-end before mid told p none = record {
  cells = p.cells;
  ends = p.ends + 1;
  order = ap (λ xs. xs ++ End ∷ []) p.order ∙ append_assoc (items p.cells) (replicate p.ends End) (End ∷ []) ∙ ap (λ xs. items p.cells ++ xs) (replicate-append-replicate p.ends 1 End);
  front = p.front;
  last = λ h. none;
}

hand-none : {H : Type 0} (before mid : List (Cell H)) (told last : List (Item H)) → HandsFront before told mid → last ≡ [] → HandsFront before (told ++ last) mid
hand-none before mid told last p none = subst (λ is. HandsFront before is mid) (sym (append-nil told) ∙ ap (λ xs. told ++ xs) (sym none)) p

hand : (before : List (Cell PlainHandle)) (old new : Ends) (told : List (Item PlainHandle)) (e : Event PlainHandle) → HandsFront before told old.pending → event old e new → HandsFront before (told ++ (done e).handed) new.pending
hand before old new told (Handed cs) p h = hand-more before old.pending new.pending cs told p h.0 h.2
hand before old new told Ended p h = subst (λ cs. HandsFront before (told ++ End ∷ []) cs) (sym (ap (λ l. l.pending) h.2)) (hand-end before old.pending told p h.0)
hand before old new told (Taken cs) p h = subst (λ cs. HandsFront before (told ++ []) cs) (sym (ap (λ l. l.pending) h.2)) (hand-none before old.pending told [] p refl)
hand before old new told (Refused c) p h =
    subst (λ cs. HandsFront before (told ++ (refused c).handed) cs) (sym (ap (λ l. l.pending) h.1)) (hand-none before old.pending told _ p (refused-handed (is_retry c)))

-- counts one after another
counted-more : (before a b : ℕ) → counted (counted before a) b ≡ counted before (a + b)
counted-more before a zero = ap (counted before) (omega arith)
counted-more before a (suc b) = ap (λ n. min (n + 1) (2 ^ 64 - 1)) (counted-more before a b) ∙ ap (counted before) (let e : suc (a + b) ≡ a + suc b = omega arith in e)

pub mem-stream : (old new : Ends) (m : Move PlainHandle) → Moved event old m new → Runs old m new
mem-stream old new m still = record {
  calls = 0;
  wants = 0;
  stream = record { cells = []; ends = 0; order = refl; front = refl; last = λ h. absurd (omega arith) };
  taken = sym (append-nil old.sent);
  script = refl;
  retries = refl;
  failures = refl;
  count = refl;
  moves = λ h. absurd (cc h);
}
mem-stream old new m (more {mid = mid} {m = n} {e = e} p h) =
    let a = mem-stream old mid n p in
    let b = step mid new e h in
    let cuts : take (suc a.calls) old.script ≡ take a.calls old.script ++ take 1 mid.script = take-one a.calls old.script ∙ ap (λ xs. take a.calls old.script ++ take 1 xs) (sym a.script) in record {
      calls = suc a.calls;
      wants = a.wants + b.wants;
      stream = hand old.pending mid new n.handed e a.stream h;
      taken = b.taken ∙ ap (λ xs. xs ++ (done e).taken) a.taken ∙ append_assoc old.sent n.taken (done e).taken;
      script = b.script ∙ ap (drop 1) a.script ∙ sym (drop-one a.calls old.script);
      retries = rw cuts (omega (arith, a.retries, b.retries, sum_by-append retry (take a.calls old.script) (take 1 mid.script)));
      failures = rw cuts (omega (arith, a.failures, b.failures, sum_by-append failure (take a.calls old.script) (take 1 mid.script)));
      count = b.count ∙ ap (λ n. counted n b.wants) a.count ∙ counted-more old.wants a.wants b.wants;
      moves = λ h. omega arith;
    }
