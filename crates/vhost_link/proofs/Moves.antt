-- Moves add up.
use Rattle.std.proofs.Common.{◌≡◌, refl, sym, subst, append_assoc, add_assoc, add-zero, zero-add}
use Rattle.std.proofs.lemmas.List.{append-nil}
use Rattle.vhost_link.specs.Law.{Event, Move, Moved, nothing, ◌then◌, done}
use Rattle.vhost_link.specs.Law.Moved.{still, more}

pub then-nothing : {H : Type 0} (m : Move H) → m then nothing ≡ m
then-nothing m = rw (append-nil m.handed, append-nil m.taken, add-zero m.retries, add-zero m.failures) refl

pub nothing-then : {H : Type 0} (m : Move H) → nothing then m ≡ m
nothing-then m = rw (zero-add m.retries, zero-add m.failures) refl

pub then_assoc : {H : Type 0} (a b c : Move H) → (a then b) then c ≡ a then (b then c)
then_assoc a b c = simp (append_assoc, add_assoc)

pub Moved-then : {S H : Type 0} {event : S → Event H → S → Type 0} {old mid new : S} {m n : Move H} → Moved event old m mid → Moved event mid n new → Moved event old (m then n) new
Moved-then {event} {old} {mid} {m} p still = subst (λ k. Moved event old k mid) (sym (then-nothing m)) p
Moved-then {event} {old} {new} {m} p (more {m = n} {e = e} q h) = subst (λ k. Moved event old k new) (then_assoc m n (done e)) (more (Moved-then p q) h)

-- one event
pub Moved-once : {S H : Type 0} {event : S → Event H → S → Type 0} {old new : S} (e : Event H) → event old e new → Moved event old (done e) new
Moved-once {event} {old} {new} e h = subst (λ k. Moved event old k new) (nothing-then (done e)) (more still h)

-- the same move by another name
pub Moved-as : {S H : Type 0} {event : S → Event H → S → Type 0} {old new : S} {m n : Move H} → m ≡ n → Moved event old m new → Moved event old n new
Moved-as {event} {old} {new} e p = subst (λ k. Moved event old k new) e p
