-- What the calls of an endpoint add up to.
use Rattle.std.proofs.Common.{◌≡◌, ℕ, zero, suc, ◌+◌, ◌-◌, ◌<◌, ◌≤◌, List, [], ◌∷◌, ◌++◌, length, take, drop, min, append_assoc, refl, sym, ap, subst, ◌∙◌, arith, Bool, true, false, ◌||◌, IsTrue, Option, Some, None, nat_lt, Err, Ok, Result}
use Rattle.std.proofs.lemmas.Bool.{lt-ltb}
use Rattle.std.specs.Prelude.{if◌then◌else◌}
use Rattle.std.proofs.lemmas.List.{nil_from_length, take_all, take-append-le, take-append-drop, length-take-le}
use Rattle.vhost_message.specs.declared.cause.IoCause.{IoCause}
use Rattle.vhost_message.specs.declared.error.Error.{Error}
use Rattle.vhost_message.specs.Cause.{is_retry, error_of}
use Rattle.vhost_protocol.specs.Stream.{Cell, carrying, has_some, items, plain}
use Rattle.vhost_link.specs.Law.{Event, Taken, Refused, Move, Moved, nothing, ◌then◌}
use Rattle.vhost_link.specs.Law.Moved.{still}
use Rattle.vhost_link.proofs.Moves.{Moved-then, Moved-once, Moved-as}
use Rattle.vhost_connection.specs.declared.pass.SendPass.{SendPass}
use Rattle.vhost_connection.specs.Pass.{sends, Failed, SendsSome, SendsWhole}
use Rattle.vhost_connection.specs.Talk.{State, Talks, Serves, Growth, Never, is_first, Trouble, has_moved, IsBroken}
use Rattle.vhost_connection.specs.Talk.Trouble.{was_broken, fault}
use Rattle.vhost_connection.specs.Calls.{Sends, SendsOnce}
use Rattle.vhost_connection.specs.Ahead.{Way, reads_ahead}
use Rattle.vhost_connection.proofs.Adding.{Went, went, went-silent, WentDown, went-down, down-silent}

-- Calls compose, whatever is heard ahead.
pub Talks-then : {L H : Type 0} {event : L → Event H → L → Type 0} {old mid new : State L H} {m n : Move H} → Talks event old m mid → Talks event mid n new → Talks event old (m then n) new
Talks-then {old = old} {mid} {new} {m} {n} p q = record {
  below = p.below then q.below;
  moved = Moved-then p.moved q.moved;
  handed = sym (append_assoc (items old.ahead) p.below.handed q.below.handed) ∙ ap (λ xs. xs ++ q.below.handed) p.handed ∙ append_assoc m.handed (items mid.ahead) q.below.handed
      ∙ ap (λ xs. m.handed ++ xs) q.handed ∙ sym (append_assoc m.handed n.handed (items new.ahead));
  taken = rw (p.taken, q.taken) refl;
  retries = rw (p.retries, q.retries) refl;
  failures = rw (p.failures, q.failures) refl;
  budget = q.budget ∙ p.budget;
}

-- the same move by another name
pub Talks-as : {L H : Type 0} {event : L → Event H → L → Type 0} {old new : State L H} {m n : Move H} → m ≡ n → Talks event old m new → Talks event old n new
Talks-as {event} {old} {new} e p = subst (λ k. Talks event old k new) e p

-- Calls that are served compose, and their limits add up.
pub Serves-then : {L H : Type 0} {event : L → Event H → L → Type 0} {old mid new : State L H} {m n : Move H} {limit more : ℕ}
    → Serves event old limit m mid → Serves event mid more n new → Serves event old (limit + more) (m then n) new
Serves-then p q = record {
  talks = Talks-then p.talks q.talks;
  retries = omega (arith, p.retries, q.retries);
  failures = rw (p.failures, q.failures) refl;
  before = p.before;
  after = q.after;
  faulted = q.faulted;
}

-- A call that takes the retries that the one before has left takes them from its limit.
pub Serves-on : {L H : Type 0} {event : L → Event H → L → Type 0} {old mid new : State L H} {m n : Move H} {limit rest : ℕ}
    → Serves event old limit m mid → rest + m.retries ≡ limit → Serves event mid rest n new → Serves event old limit (m then n) new
Serves-on p e q = record {
  talks = Talks-then p.talks q.talks;
  retries = omega (arith, p.retries, q.retries);
  failures = rw (p.failures, q.failures) refl;
  before = p.before;
  after = q.after;
  faulted = q.faulted;
}

-- an endpoint does what its link does behind what was heard ahead
pub talks : {L H : Type 0} {event : L → Event H → L → Type 0} (old new : State L H) (m : Move H) → new.budget ≡ old.budget → Went event old.link old.ahead m new.link new.ahead → Talks event old m new
talks old new m k w = record {
  below = w.below;
  moved = w.moved;
  handed = w.handed;
  taken = w.taken;
  retries = w.retries;
  failures = w.failures;
  budget = k;
}

-- this is what the endpoint receives from
abbrev pub At : {L H : Type 0} → State L H → Way L → Type 0
At s w = (s.link ≡ w.link) × (s.ahead ≡ plain w.ahead)

pub went-from : {L H : Type 0} {event : L → Event H → L → Type 0} (old : State L H) (from to : Way L) (m : Move H) → At old from → Moved (reads_ahead event) from m to → Went event old.link old.ahead m to.link (plain to.ahead)
went-from {event = event} old from to m (l, a) p = rw (l, a) (went from m to p)

pub down-from : {L H : Type 0} {event : L → Event H → L → Type 0} (old : State L H) (from to : Way L) (m : Move H) (c : IoCause) → At old from → Failed (reads_ahead event) from m c to
    → WentDown event old.link old.ahead m c to.link (plain to.ahead)
down-from {event = event} old from to m c (l, a) p = rw (l, a) (went-down from m c to p)

some-take : {A : Type 0} (n : ℕ) (xs : List A) → n < length xs → has_some (take n xs) ≡ nat_lt 0 n
some-take zero xs h = refl
some-take (suc n) [] h = absurd (omega arith)
some-take (suc n) (x ∷ xs) h = sym (lt-ltb 0 (suc n) (omega arith))

-- what a call that was served leaves
abbrev pub served : {L H : Type 0} → State L H → L → List (Cell H) → Bool → ℕ → State L H
served old link ahead list left = record old { link = link; ahead = ahead; list = list; left = left; faulted = false }

pub serves : {L H : Type 0} {event : L → Event H → L → Type 0} (old new : State L H) (link : L) (ahead : List (Cell H)) (list : Bool) (left limit : ℕ) (m : Move H)
    → new ≡ served old link ahead list left → old.broken ≡ None → m.failures ≡ 0 → m.retries ≤ limit → Went event old.link old.ahead m link ahead → Serves event old limit m new
serves {event} old new link ahead list left limit m s before none most w = subst (λ x. Serves event old limit m x) (sym s) (record {
  talks = talks old (served old link ahead list left) m refl w;
  retries = most;
  failures = none;
  before = before;
  after = before;
  faulted = refl;
})

-- what a fault leaves
abbrev pub failed : {L H : Type 0} → State L H → L → List (Cell H) → Bool → ℕ → Option IoCause → State L H
failed old link ahead list left broken = record old { link = link; ahead = ahead; list = list; left = left; broken = broken; faulted = true }

-- the link failed
pub gave-up : {L H : Type 0} (event : L → Event H → L → Type 0) (old new : State L H) (link : L) (ahead : List (Cell H)) (list : Bool) (left : ℕ) (broken : Option IoCause) (limit : ℕ) (grows : Growth) (breaks : Bool) (m : Move H) (c : IoCause) (e : Error)
    → new ≡ failed old link ahead list left broken → old.broken ≡ None → e ≡ error_of c
    → broken ≡ (if breaks || has_moved m then Some c else None) → (old.list ≡ true → list ≡ true) → ((breaks || has_moved m) ≡ false → left ≡ old.left)
    → m.failures ≡ 0 → m.retries ≤ limit → (IsTrue (is_retry c) → m.retries ≡ limit)
    → WentDown event old.link old.ahead m c link ahead → Trouble event old limit grows breaks m e new
gave-up event old new link ahead list left broken limit grows breaks m c e s before is b kept same none most spent w =
    let t : Trouble event old limit grows breaks m (error_of c) (failed old link ahead list left broken) =
    fault c before (record { before = w.link; talks = talks old (record (failed old link ahead list left broken) { link = w.link }) m refl w.went; last = w.last }) none most spent b refl (kept, same) in
    subst (λ x. Trouble event old limit grows breaks m x new) (sym is) (subst (λ x. Trouble event old limit grows breaks m (error_of c) x) (sym s) t)

-- a text that went out
pub sent-all : {L H : Type 0} (event : L → Event H → L → Type 0) (old new : State L H) (link : L) (text : List (Cell H)) (sent : SendPass)
    → new ≡ served old link old.ahead old.list old.left → old.broken ≡ None
    → sent.fault ≡ None → SendsWhole event old.link text old.budget sent link → Sends event old text (Ok tt) new
sent-all event old new link text sent s before none p =
    let q = rw none at p.1 in
    let r = old.budget - sent.left in (
      r,
      serves old new link old.ahead old.list old.left old.budget (sends text r) s before refl (omega arith) (went-silent old.ahead refl q.1),
      ap (λ (x : State _ _). x.list) s,
      ap (λ (x : State _ _). x.left) s,
    )

-- a text that went out in part
pub sent-some : {L H : Type 0} (event : L → Event H → L → Type 0) (old new : State L H) (link : L) (text : List (Cell H)) (sent : SendPass) (c : IoCause) (e : Error)
    → new ≡ failed old link old.ahead old.list old.left (if sent.moved then Some c else old.broken) → old.broken ≡ None → e ≡ error_of c
    → sent.fault ≡ Some c → SendsWhole event old.link text old.budget sent link → Sends event old text (Err e) new
sent-some event old new link text sent c e s before is some p =
    let f = rw some at p.1 in
    let r = old.budget - sent.left in (
      f.count,
      r,
      gave-up event old new link old.ahead old.list old.left (if sent.moved then Some c else old.broken) old.budget Never false (sends (take f.count text) r) c e s before is
          (rw (before, f.told, some-take f.count text f.short) refl) (λ h. h) (λ h. refl) refl (omega arith) (λ h. let z = f.spent h in omega arith) (down-silent (sends (take f.count text) r) c old.ahead refl f.link),
      λ _. f.short,
    )

-- it was broken before
pub broken : {L H : Type 0} (event : L → Event H → L → Type 0) (old : State L H) (limit : ℕ) (grows : Growth) (breaks : Bool) (e : Error)
    → IsBroken old e → Trouble event old limit grows breaks nothing e (record old { list = is_first grows || old.list; faulted = false })
broken event old limit grows breaks e (c, b, is) = subst (λ y. Trouble event old limit grows breaks nothing y (record old { list = is_first grows || old.list; faulted = false })) (sym is) (was_broken b refl refl)

pub sends-broken : {L H : Type 0} (event : L → Event H → L → Type 0) (old : State L H) (text : List (Cell H)) (e : Error)
    → IsBroken old e → Sends event old text (Err e) (record old { faulted = false })
sends-broken event old text e b = (0, 0, broken event old old.budget Never false e b, λ h. absurd (cc (b.1, h)))

-- ---- one call of the link

pub once-broken : {L H : Type 0} (event : L → Event H → L → Type 0) (old : State L H) (handles : List H) (bytes : List ℕ) (e : Error)
    → IsBroken old e → SendsOnce event old handles bytes (Err e) (record old { faulted = false })
once-broken event old handles bytes e b = (broken event old 0 Never false e b, (λ h. absurd (cc (b.1, h))), λ h. absurd (cc (b.1, h)))

moved-once : {L H : Type 0} (event : L → Event H → L → Type 0) (old new : L) (handles : List H) (bytes : List ℕ) (n : ℕ) → SendsSome event old bytes handles (Ok n) new → Moved event old (sends (carrying handles (take n bytes)) 0) new
moved-once event old new handles [] n (most, some, none) =
    let nil : take n [] ≡ [] = take_all n [] (omega arith) in
    subst (λ x. Moved event old (sends (carrying handles (take n [])) 0) x) (sym (none refl)) (Moved-as (ap (λ bs. sends (carrying handles bs) 0) (sym nil)) still)
moved-once event old new handles (b ∷ bytes) n (most, some, none) = Moved-once (Taken (carrying handles (take n (b ∷ bytes)))) (some (omega arith)).1

pub sent-once : {L H : Type 0} (event : L → Event H → L → Type 0) (old : State L H) (link : L) (handles : List H) (bytes : List ℕ) (n : ℕ)
    → old.broken ≡ None → SendsSome event old.link bytes handles (Ok n) link → SendsOnce event old handles bytes (Ok n) (record old { link = link; faulted = false })
sent-once event old link handles bytes n before p = (
  serves old (served old link old.ahead old.list old.left) link old.ahead old.list old.left 0 (sends (carrying handles (take n bytes)) 0) refl before refl (omega arith) (went-silent old.ahead refl (moved-once event old.link link handles bytes n p)),
  p.0,
  refl,
  p.1,
  p.2,
)

pub refused-once : {L H : Type 0} (event : L → Event H → L → Type 0) (old new : State L H) (link : L) (handles : List H) (bytes : List ℕ) (c : IoCause) (e : Error)
    → new ≡ record old { link = link; broken = old.broken; faulted = true } → old.broken ≡ None → e ≡ error_of c → SendsSome event old.link bytes handles (Err c) link
    → SendsOnce event old handles bytes (Err e) new
refused-once event old new link handles bytes c e s before is p = (
  gave-up event old new link old.ahead old.list old.left old.broken 0 Never false nothing c e s before is before (λ h. h) (λ h. refl) refl (omega arith) (λ h. refl) (down-silent nothing c old.ahead refl (record { before = old.link; moved = still; last = p.1 })),
  (λ h. rw s refl),
  λ h. (p.0, c, is, subst (λ x. event old.link (Refused c) x) (sym (ap (λ (x : State _ _). x.link) s)) p.1),
)

-- what was sent of a front of the bytes was sent of them
pub front-once : {S H : Type 0} (event : S → Event H → S → Type 0) (old new : S) (bytes part : List ℕ) (handles : List H) (k room : ℕ) (r : Result ℕ IoCause)
    → k ≡ min room (length bytes) → 0 < room → part ≡ take k bytes → SendsSome event old part handles r new → SendsSome event old bytes handles r new
front-once event old new bytes part handles k room (Ok n) count pos is (most, some, none) =
    let len : length part ≡ k = ap length is ∙ length-take-le k bytes (omega (arith, count)) in
    let same : take n part ≡ take n bytes = ap (take n) is ∙ sym (take-append-le n (take k bytes) (drop k bytes) (omega (arith, ap length is))) ∙ ap (take n) (take-append-drop k bytes) in (
      omega (arith, count, len),
      (λ h. subst (λ bs. (0 < n) × event old (Taken (carrying handles bs)) new) same (some (omega (arith, count, len)))),
      λ h. none (nil_from_length part (omega (arith, count, len, ap length h))),
    )
front-once event old new bytes part handles k room (Err c) count pos is (some, p) =
    let len : length part ≡ k = ap length is ∙ length-take-le k bytes (omega (arith, count)) in
    (omega (arith, count, len), p)
