-- More comes behind the front of a message.
use Rattle.std.proofs.Common.{◌≡◌, ℕ, ◌+◌, ◌-◌, ◌<◌, ◌≤◌, List, [], ◌∷◌, ◌++◌, length, take, refl, sym, ap, subst, ◌∙◌, arith, Bool, true, false, Some, None, nat_lt, Ok, Err, inr, drop}
use Rattle.std.proofs.lemmas.List.{length-append, take_all, take_at, drop_at}
use Rattle.std.proofs.lemmas.Bool.Decides.{nat_tests}
use Rattle.vhost_message.specs.declared.cause.IoCause.{IoCause}
use Rattle.vhost_message.specs.declared.error.Error.{Error}
use Rattle.vhost_message.specs.Cause.{error_of}
use Rattle.vhost_protocol.specs.Stream.{Cell, bytes, items, heard, plain}
use Rattle.vhost_link.specs.Law.{Event, Move, ◌then◌}
use Rattle.vhost_link.proofs.Cells.{length-bytes, bytes-append}
use Rattle.vhost_connection.specs.declared.pass.RecvPass.{RecvPass}
use Rattle.vhost_connection.specs.declared.pass.PassEnd.TheVariants.{Fault}
use Rattle.vhost_connection.specs.Pass.{receives, GetsRest}
use Rattle.vhost_connection.specs.Talk.{State, Talks, Fell, Serves, Growth, Never, Trouble}
use Rattle.vhost_connection.specs.Talk.Trouble.{was_broken, no_memory, fault}
use Rattle.vhost_connection.specs.Came.{Came, CutShort, Begins, GoesOn, Alone, behind}
use Rattle.vhost_connection.specs.Front.{IsFront, ReadsMore}
use Rattle.vhost_connection.specs.Ahead.{Way, reads_ahead}
use Rattle.vhost_connection.proofs.Talking.{Talks-then, Talks-as, Serves-on, At, served, failed}
use Rattle.vhost_connection.proofs.Came.{came-all}
use Rattle.vhost_connection.proofs.Data.{data-came, data-cut}
use Rattle.vhost_connection.proofs.Receiving.{both, both-end, first-append}

-- as much as fits, or the end
pub more-came : {L H : Type 0} (event : L → Event H → L → Type 0) (old new : State L H) (left : ℕ) (from to : Way L) (before after : List ℕ) (got : RecvPass)
    → At old from → new ≡ served old to.link (plain to.ahead) old.list old.left → old.broken ≡ None → GetsRest (reads_ahead event) from before left got after to
    → ((c : IoCause) → got.stop ≡ Fault c → ⊥) → ReadsMore event old left before (Ok got.count) after new
more-came event old new left from to before after got a s broken g miss = (
  g.cs,
  g.fills.bytes,
  g.count,
  ap (λ (x : State _ _). x.left) s,
  got.left,
  data-came event (record old { left = left }) (record new { left = got.left }) from to before after got (length before) a (ap (λ (x : State _ _). record x { left = got.left }) s) broken g miss refl,
)

-- less, and then a fault
pub more-fault : {L H : Type 0} (event : L → Event H → L → Type 0) (old new : State L H) (left : ℕ) (from to : Way L) (before after : List ℕ) (got : RecvPass) (c : IoCause) (e : Error)
    → At old from → new ≡ failed old to.link (plain to.ahead) old.list old.left (Some c) → old.broken ≡ None → e ≡ error_of c
    → GetsRest (reads_ahead event) from before left got after to → got.stop ≡ Fault c → ReadsMore event old left before (Err e) after new
more-fault event old new left from to before after got c e a s broken is g stop = (g.cs, g.fills.bytes, data-cut event (record old { left = left }) new from to before after got old.left (length before) c e a s broken is g stop refl)

pub both-heard : {H : Type 0} (cs ds : List (Cell H)) (b : Bool) (r s : ℕ) → receives (items cs) r then receives (heard ds b) s ≡ receives (heard (cs ++ ds) b) (r + s)
both-heard cs ds true r s = both-end cs ds r s (r + s) refl
both-heard cs ds false r s = both cs ds r s (r + s) refl

pub nat_lt-add : (k a b : ℕ) → nat_lt (k + a) (k + b) ≡ nat_lt a b
nat_lt-add k a b = grind (arith, nat_tests)

-- trouble behind some cells is trouble of the whole message
pub trouble-on : {L H : Type 0} {event : L → Event H → L → Type 0} {old mid new end : State L H} {grows : Growth} {e : Error} (cs ds : List (Cell H)) (r s : ℕ) → 0 < length cs
    → Serves event old old.budget (receives (items cs) r) mid → mid.left + r ≡ old.budget → Trouble event mid mid.left Never true (receives (items ds) s) e new → end ≡ record new { list = true }
    → Trouble event old old.budget grows false (receives (items (cs ++ ds)) (r + s)) e end
trouble-on cs ds r s some p left (was_broken b n k) is = absurd (cc (p.after, b))
trouble-on cs ds r s some p left (no_memory w b l n k) is = absurd (cc w)
trouble-on [] ds r s some p left (fault c b t none most spent broken faulted kept) is = absurd (omega arith)
trouble-on {event = event} {old} {mid} {new} {end} {grows} (x ∷ cs) ds r s some p left (fault c b t none most spent broken faulted kept) is =
    let m : Move _ = receives (items (x ∷ cs)) r in
    let n : Move _ = receives (items ds) s in
    let k : Move _ = receives (items ((x ∷ cs) ++ ds)) (r + s) in
    let u : Talks event old k (record new { link = t.before }) = Talks-as (both (x ∷ cs) ds r s (r + s) refl) (Talks-then p.talks t.talks) in
    let v : Fell event old k c (record new { list = true }) = record {
      before = t.before;
      talks = record { below = u.below; moved = u.moved; handed = u.handed; taken = u.taken; retries = u.retries; failures = u.failures; budget = u.budget };
      last = t.last;
    } in
    subst (λ z. Trouble event old old.budget grows false k (error_of c) z) (sym is)
    (fault c p.before v refl (omega (arith, most)) (λ h. let z = spent h in omega arith) broken faulted ((λ h. refl), λ h. absurd (cc h)))

-- some cells came whole, and then more, or trouble
module _ {L H : Type 0} {event : L → Event H → L → Type 0} {old mid : State L H} {len more : ℕ} {cs ds : List (Cell H)} {list : Bool} (m : Came event old Begins len cs list mid) (most : len ≤ length cs) where
  pub came-then : {new : State L H} {kept : Bool} → Came event mid GoesOn more ds kept new → Came event old Begins (len + more) (cs ++ ds) kept new
  came-then {new} d =
      let all : length cs ≡ len = omega (arith, m.within) in
      let k = length ds in
      let b = nat_lt k more in
      let sum = length-append cs ds in
      let same : nat_lt (length (cs ++ ds)) (len + more) ≡ b = ap (λ n. nat_lt n (len + more)) (sum ∙ ap (λ n. n + k) all) ∙ nat_lt-add len k more in
      record {
        retries = m.retries + d.retries;
        serves = subst (λ c. Serves event old old.budget (receives (heard (cs ++ ds) c) (m.retries + d.retries)) new) (sym same)
            (subst (λ (z : Move _). Serves event old old.budget z new) (both-heard cs ds b m.retries d.retries) (Serves-on (came-all m most) m.left d.serves));
        within = omega (arith, m.within, d.within);
        left = omega (arith, m.left, d.left);
        listed = d.listed;
      }

  -- whenever the call makes its list of handles
  pub trouble-then : {new end : State L H} {grows : Growth} {e : Error} → 0 < length cs → (d : CutShort event mid GoesOn more ds e new) → end ≡ record new { list = true }
      → Trouble event old old.budget grows false (receives (items (cs ++ ds)) (m.retries + d.retries)) e end
  trouble-then some d is = trouble-on cs ds m.retries d.retries some (came-all m most) m.left d.trouble is

  pub cut-then : {new end : State L H} {e : Error} → 0 < length cs → CutShort event mid GoesOn more ds e new → end ≡ record new { list = true } → CutShort event old Alone (len + more) (cs ++ ds) e end
  cut-then some d is = record {
    retries = m.retries + d.retries;
    short = λ _. let few = d.short m.serves.after in omega (arith, length-append cs ds, m.within);
    trouble = trouble-then some d is;
  }

module _ {H : Type 0} {len : ℕ} (cs ds : List (Cell H)) (all : length cs ≡ len) where
  len-b : length (bytes cs) ≡ len
  len-b = length-bytes cs ∙ all

  -- the room holds what is behind the front
  pub room-then : (before after : List ℕ) → after ≡ bytes ds ++ drop (length ds) before → after ≡ behind len (cs ++ ds) before
  room-then before after e =
      let rest : length (cs ++ ds) - len ≡ length ds = omega (arith, length-append cs ds) in
      e ∙ rw (bytes-append cs ds, drop_at (bytes cs) (bytes ds) len len-b, rest) refl

  -- the front is the same
  pub front-then : {count extra : ℕ} {hs : List H} {text : List ℕ} → 0 < len → IsFront len cs count extra hs text → (more : ℕ) → more ≡ length ds → IsFront len (cs ++ ds) count more hs text
  front-then pos f more counted = record {
    counted = omega (arith, f.counted, length-append cs ds);
    rest = omega (arith, counted, length-append cs ds);
    first = f.first ∙ sym (first-append cs ds (omega arith));
    bytes = f.bytes ∙ take_all len (bytes cs) (omega (arith, len-b)) ∙ sym (take_at (bytes cs) (bytes ds) len len-b) ∙ ap (take len) (sym (bytes-append cs ds));
  }
