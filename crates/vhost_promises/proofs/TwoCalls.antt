-- What an endpoint does in two calls, and what its link's causes become.
use Rattle.std.proofs.Common.{◌≡◌, ◌++◌, Bool, true, false, sym, ap, subst, ◌∙◌, refl, append_assoc, add_assoc, add-zero}
use Rattle.std.proofs.lemmas.List.{append-nil}
use Rattle.vhost_message.specs.Cause.{is_retry, is_break, is_denial, error_of}
use Rattle.vhost_message.specs.declared.cause.IoCause.{IoCause}
use Rattle.vhost_message.specs.declared.error.Error.TheVariants.{SocketError, SocketConnect, SocketBroken, SocketRetry, OutOfMemory}
use Rattle.std.specs.Prelude.{if◌then◌else◌}
use Rattle.vhost_protocol.specs.Stream.{items}
use Rattle.vhost_link.specs.Law.{Event, Move, Moved, nothing, ◌then◌, done}
use Rattle.vhost_link.specs.Law.Moved.{still, more}
use Rattle.vhost_connection.specs.Talk.{State, Talks}

-- ---- two moves are one

all-of : {H : Type 0} (m : Move H) → m then nothing ≡ m
all-of m = rw (append-nil m.handed, append-nil m.taken, add-zero m.retries, add-zero m.failures) refl

in-any-order : {H : Type 0} (a b c : Move H) → (a then b) then c ≡ a then (b then c)
in-any-order a b c = simp (append_assoc, add_assoc)

links-both : {S H : Type 0} (event : S → Event H → S → Type 0) (old mid new : S) (m n : Move H) → Moved event old m mid → Moved event mid n new → Moved event old (m then n) new
links-both event old mid _ m _ p still = subst (λ k. Moved event old k mid) (sym (all-of m)) p
links-both event old mid new m _ p (more {mid = later} {m = n} {e = e} q h) = subst (λ k. Moved event old k new) (in-any-order m n (done e)) (more (links-both event old mid later m n p q) h)

pub talks-both : {L H : Type 0} (event : L → Event H → L → Type 0) (old mid new : State L H) (m n : Move H) → Talks event old m mid → Talks event mid n new → Talks event old (m then n) new
talks-both event old mid new m n p q = record {
  below = p.below then q.below;
  moved = links-both event old.link mid.link new.link p.below q.below p.moved q.moved;
  handed = sym (append_assoc (items old.ahead) p.below.handed q.below.handed) ∙ ap (λ xs. xs ++ q.below.handed) p.handed ∙ append_assoc m.handed (items mid.ahead) q.below.handed
      ∙ ap (λ xs. m.handed ++ xs) q.handed ∙ sym (append_assoc m.handed n.handed (items new.ahead));
  taken = rw (p.taken, q.taken) refl;
  retries = rw (p.retries, q.retries) refl;
  failures = rw (p.failures, q.failures) refl;
  budget = q.budget ∙ p.budget;
}

-- ---- what a cause becomes

other-error : (again gone denied : Bool) (c : IoCause) → (if again then SocketRetry c else if gone then SocketBroken c else if denied then SocketConnect c else SocketError c) ≡ OutOfMemory → ⊥
other-error true gone denied c is = absurd cc
other-error false true denied c is = absurd cc
other-error false false true c is = absurd cc
other-error false false false c is = absurd cc

-- it is no want of memory
pub no-want : (c : IoCause) → error_of c ≡ OutOfMemory → ⊥
no-want c is = other-error (is_retry c) (is_break c) (is_denial c) c is
