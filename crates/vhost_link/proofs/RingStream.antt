-- What the calls of a link between two threads add up to.
use Rattle.std.proofs.Common.{◌≡◌, List, [], ◌∷◌, ◌++◌, append_assoc, refl, sym, ap, ◌∙◌, arith}
use Rattle.std.proofs.lemmas.List.{append-nil}
use Rattle.vhost_protocol.specs.Stream.{Cell, Item, Byte, End, items}
use Rattle.vhost_link.specs.declared.plain.PlainHandle.{PlainHandle}
use Rattle.vhost_link.specs.Law.{Event, Handed, Ended, Taken, Refused, Move, Moved, done}
use Rattle.vhost_link.specs.Law.Moved.{still, more}
use Rattle.vhost_link.specs.Rings.{RingEnds, event, cells_in, RingRuns}

cells-in-append : {H : Type 0} (a b : List (Item H)) → cells_in (a ++ b) ≡ cells_in a ++ cells_in b
cells-in-append [] b = refl
cells-in-append (Byte c ∷ a) b = ap (λ cs. c ∷ cs) (cells-in-append a b)
cells-in-append (End ∷ a) b = cells-in-append a b

cells-in-items : {H : Type 0} (cs : List (Cell H)) → cells_in (items cs) ≡ cs
cells-in-items [] = refl
cells-in-items (c ∷ cs) = ap (λ xs. c ∷ xs) (cells-in-items cs)

-- one call
step : (old new : RingEnds) (e : Event PlainHandle) → event old e new → RingRuns old (done e) new
step old new (Handed cs) h = record {
  output = ap (λ l. l.output) h.2;
  input = ap (λ l. l.input) h.2;
  taken = ap (λ l. l.sent) h.2 ∙ sym (append-nil old.sent);
  handed = ap (λ l. l.received) h.2 ∙ ap (λ xs. old.received ++ xs) (sym (cells-in-items cs));
  failures = refl;
}
step old new Ended h = record {
  output = ap (λ l. l.output) h.1;
  input = ap (λ l. l.input) h.1;
  taken = ap (λ l. l.sent) h.1 ∙ sym (append-nil old.sent);
  handed = ap (λ l. l.received) h.1 ∙ sym (append-nil old.received);
  failures = refl;
}
step old new (Taken cs) h = record {
  output = ap (λ l. l.output) h.2;
  input = ap (λ l. l.input) h.2;
  taken = ap (λ l. l.sent) h.2;
  handed = ap (λ l. l.received) h.2 ∙ sym (append-nil old.received);
  failures = refl;
}
step old new (Refused c) h = rw h.0 (record {
  output = ap (λ l. l.output) h.2;
  input = ap (λ l. l.input) h.2;
  taken = ap (λ l. l.sent) h.2 ∙ sym (append-nil old.sent);
  handed = ap (λ l. l.received) h.2 ∙ sym (append-nil old.received);
  failures = refl;
})

pub ring-stream : (old new : RingEnds) (m : Move PlainHandle) → Moved event old m new → RingRuns old m new
ring-stream old new m still = record {
  output = refl;
  input = refl;
  taken = sym (append-nil old.sent);
  handed = sym (append-nil old.received);
  failures = refl;
}
ring-stream old new m (more {mid = mid} {m = n} {e = e} p h) =
    let a = ring-stream old mid n p in
    let b = step mid new e h in record {
      output = b.output ∙ a.output;
      input = b.input ∙ a.input;
      taken = b.taken ∙ ap (λ xs. xs ++ (done e).taken) a.taken ∙ append_assoc old.sent n.taken (done e).taken;
      handed = b.handed ∙ ap (λ xs. xs ++ cells_in (done e).handed) a.handed ∙ append_assoc old.received (cells_in n.handed) (cells_in (done e).handed) ∙ ap (λ xs. old.received ++ xs) (sym (cells-in-append n.handed (done e).handed));
      failures = omega (arith, a.failures, b.failures);
    }
