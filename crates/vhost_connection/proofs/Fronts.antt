-- The first bytes of a message come in.
use Rattle.std.proofs.Common.{◌≡◌, ℕ, ◌+◌, ◌-◌, ◌<◌, ◌≤◌, List, [], ◌∷◌, ◌++◌, length, take, drop, min, add-zero, refl, subst, sym, ap, ◌∙◌, arith, true, false, ◌||◌, Some, None, nat_lt, Result, Ok, Err, inr}
use Rattle.std.proofs.lemmas.Bool.{lt-ltb, le-ltb}
use Rattle.std.specs.Prelude.{if◌then◌else◌}
use Rattle.std.proofs.lemmas.List.{drop_all}
use Rattle.vhost_message.specs.declared.cause.IoCause.{IoCause}
use Rattle.vhost_message.specs.declared.error.Error.{Error}
use Rattle.vhost_message.specs.Cause.{error_of}
use Rattle.vhost_protocol.specs.Stream.{Cell, bytes, has_some, items, heard, plain}
use Rattle.vhost_link.specs.Law.{Event, Moved, nothing}
use Rattle.vhost_link.proofs.Moves.{Moved-as}
use Rattle.vhost_connection.specs.declared.pass.Parts.{Parts}
use Rattle.vhost_connection.specs.declared.pass.PassEnd.{PassEnd}
use Rattle.vhost_connection.specs.declared.pass.PassEnd.TheVariants.{Whole, AtEnd, Fault}
use Rattle.vhost_connection.specs.Pass.{receives, GotAs, GetsParts}
use Rattle.vhost_connection.specs.Talk.{State, Trouble, IfSound}
use Rattle.vhost_connection.specs.Came.{Came, TakesIn, Begins, Alone, behind}
use Rattle.vhost_connection.specs.Front.{IsFront, ComesFront, ReadsParts, ReadsFront}
use Rattle.vhost_connection.specs.declared.list.Front.{Front}
use Rattle.vhost_connection.specs.Ahead.{Way, reads_ahead}
use Rattle.vhost_connection.proofs.Came.{came-as, cut-as, cut-only}
use Rattle.vhost_connection.proofs.Talking.{At, went-from, down-from, served, serves, failed, gave-up}

-- what came, where it was no fault that stopped it
pub heard-as : {S H : Type 0} (event : S → Event H → S → Type 0) (old new : S) (room budget left : ℕ) (stop : PassEnd) (cs : List (Cell H))
    → ((c : IoCause) → stop ≡ Fault c → ⊥) → GotAs event old room budget left stop cs new
    → (length cs ≤ room) × Moved event old (receives (heard cs (nat_lt (length cs) room)) (budget - left)) new
heard-as event old new room budget left Whole cs miss (len, p) =
    (omega arith, Moved-as (ap (λ b. receives (heard cs b) (budget - left)) (sym (le-ltb (length cs) room (omega arith)))) p)
heard-as event old new room budget left AtEnd cs miss (len, p) =
    (omega arith, Moved-as (ap (λ b. receives (heard cs b) (budget - left)) (sym (lt-ltb (length cs) room len))) p)
heard-as event old new room budget left (Fault c) cs miss p = absurd (miss c refl)

pub parts-came : {L H : Type 0} (event : L → Event H → L → Type 0) (old new : State L H) (from to : Way L) (before after text : List ℕ) (got : Parts) (front : Front H) (len : ℕ)
    → At old from → new ≡ served old to.link (plain to.ahead) false old.left → old.broken ≡ None → GetsParts (reads_ahead event) from len before old.budget got text after front.list.items to
    → ((c : IoCause) → got.stop ≡ Fault c → ⊥) → front.count ≡ got.count → front.more ≡ got.more → front.left ≡ got.left
    → (cs : List (Cell H)) × (after ≡ behind len cs before) × (Came event old Alone (len + length before) cs false new × ComesFront event old len (length before) cs front text new)
parts-came event old new from to before after text got front len a s broken g miss count more left =
    let q = heard-as (reads_ahead event) from to (len + length before) old.budget got.left got.stop g.cs miss g.ended in
    let r = old.budget - got.left in
    let m = receives (heard g.cs (nat_lt (length g.cs) (len + length before))) r in
    let w = went-from old from to m a q.1 in (
      g.cs,
      g.room ∙ ap (λ n. drop len (bytes g.cs) ++ drop n before) g.more,
      (
        record {
          retries = r;
          serves = serves old new to.link (plain to.ahead) false old.left old.budget m s broken refl (omega arith) w;
          within = q.0;
          left = ap (λ (x : State _ _). x.left) s;
          listed = ap (λ (x : State _ _). x.list) s;
        },
        record {
          front = record { counted = count ∙ g.count; rest = more ∙ g.more; first = g.handles; bytes = ap (λ n. take n text) count ∙ g.text };
          begins = record {
            retries = r;
            serves = serves old (record new { left = front.left }) to.link (plain to.ahead) false front.left old.budget m (ap (λ (x : State _ _). record x { left = front.left }) s) broken refl (omega arith) w;
            within = q.0;
            left = omega (arith, left, g.left);
            listed = ap (λ (x : State _ _). x.list) s;
          };
        },
      ),
    )

pub moved-some : {H : Type 0} (cs : List (Cell H)) (n len : ℕ) → 0 < len → n ≡ min len (length cs) → nat_lt 0 n ≡ (has_some (items cs) || false)
moved-some [] n len pos e = le-ltb 0 n (omega (arith, e))
moved-some (c ∷ cs) n len pos e = lt-ltb 0 n (omega (arith, e))

pub parts-fail : {L H : Type 0} (event : L → Event H → L → Type 0) (old new : State L H) (from to : Way L) (before after text : List ℕ) (got : Parts) (hs : List H) (len : ℕ) (c : IoCause) (e : Error)
    → 0 < len → At old from → new ≡ failed old to.link (plain to.ahead) true old.left (if nat_lt 0 got.count then Some c else old.broken) → old.broken ≡ None → e ≡ error_of c
    → GetsParts (reads_ahead event) from len before old.budget got text after hs to → got.stop ≡ Fault c → ReadsParts event old len before (Err e) text after new
parts-fail event old new from to before after text got hs len c e pos a s broken is g fault =
    let q = rw fault at g.ended in
    let r = old.budget - got.left in (
      g.cs,
      g.room ∙ ap (λ n. drop len (bytes g.cs) ++ drop n before) g.more,
      inr (record {
        retries = r;
        short = λ _. q.0;
        trouble = gave-up event old new to.link (plain to.ahead) true old.left (if nat_lt 0 got.count then Some c else old.broken) old.budget IfSound false (receives (items g.cs) r) c e s broken is
            (rw (broken, moved-some g.cs got.count len pos g.count) refl) (λ h. refl) (λ h. refl) refl (omega arith) (λ h. let z = q.1 h in omega arith) (down-from old from to (receives (items g.cs) r) c a q.2);
      }),
    )

-- nothing moved, and nothing came
pub nothing-comes : {L H : Type 0} {event : L → Event H → L → Type 0} {old new : State L H} {e : Error} (len : ℕ) (before text : List ℕ) → 0 < len → Trouble event old old.budget IfSound false nothing e new
    → ReadsParts event old len before (Err e) text before new
nothing-comes len before text pos t =
    let none : drop {A = ℕ} len [] ≡ [] = drop_all len [] (omega arith) in
    let zero : 0 - len ≡ 0 = omega arith in
    ([], rw (none, zero) refl, inr (record { retries = 0; short = λ _. omega arith; trouble = t }))

-- ---- without a room

pub front-reads : {L H : Type 0} (event : L → Event H → L → Type 0) (old new : State L H) (len : ℕ) (r : Result (Front H) Error) (text after : List ℕ) → ReadsParts event old len [] r text after new → ReadsFront event old len r text new
front-reads event old new len (Ok x) text after (cs, room, (m, f)) = (cs, (came-as (add-zero len) m, f))
front-reads event old new len (Err e) text after (cs, room, p) = (cs, inr (cut-as (add-zero len) (cut-only p)))
