-- One call of the link hands out bytes.
use Rattle.std.proofs.Common.{◌≡◌, ℕ, zero, suc, ◌+◌, ◌<◌, List, [], ◌∷◌, length, take, drop, min, refl, sym, ap, subst, ◌∙◌, arith, true, false, Option, None, Ok, Vec, nat_lt}
use Rattle.std.proofs.lemmas.Bool.{lt-ltb, le-ltb}
use Rattle.std.specs.Prelude.{not}
use Rattle.std.specs.Global.{Global}
use Rattle.std.proofs.lemmas.List.{nil_from_length, take_at, take-take}
use Rattle.vhost_message.specs.declared.cause.IoCause.{IoCause}
use Rattle.vhost_message.specs.declared.error.Error.{Error}
use Rattle.vhost_message.specs.Cause.{error_of}
use Rattle.vhost_protocol.specs.Stream.{carrying, brings_handles, first_handles, has_some, heard, plain}
use Rattle.vhost_link.specs.Law.{Event, Handed, Ended, Refused, Moved, nothing}
use Rattle.vhost_link.specs.Law.Moved.{still}
use Rattle.vhost_link.proofs.Cells.{length-carrying, bytes-carrying, brings-plain}
use Rattle.vhost_link.proofs.Moves.{Moved-as, Moved-once}
use Rattle.vhost_connection.specs.Pass.{receives, Arrives}
use Rattle.vhost_connection.specs.Talk.{State, Serves, Trouble, IfSound}
use Rattle.vhost_connection.specs.Calls.{HandsOver}
use Rattle.vhost_connection.specs.Front.{ReadsCountOnce, gives}
use Rattle.vhost_connection.specs.Ahead.{Way, reads_ahead}
use Rattle.vhost_connection.proofs.Adding.{went-silent}
use Rattle.vhost_connection.proofs.Talking.{At, went-from, down-from, served, serves, failed, gave-up}
use Rattle.vhost_connection.proofs.Came.{Serves-gives, list-gives, left-gives}

alone-first : {H : Type 0} (hs : List H) (bs : List ℕ) → brings_handles (drop 1 (carrying hs bs)) ≡ false
alone-first hs [] = refl
alone-first {H} hs (b ∷ bs) = brings-plain H bs

first-carried : {H : Type 0} (hs : List H) (bs : List ℕ) → (length bs ≡ 0 → hs ≡ []) → first_handles (carrying hs bs) ≡ hs
first-carried hs [] none = sym (none refl)
first-carried hs (b ∷ bs) none = refl

moved-once : {S H : Type 0} (event : S → Event H → S → Type 0) (old new : S) (before after : List ℕ) (n len : ℕ) (handles : List H) → 0 < len → (a : Arrives event old before 0 n after handles new)
    → Moved event old (receives (heard (carrying handles a.front) (nat_lt (length (carrying handles a.front)) (min 1 len))) 0) new
moved-once event old new before after zero len handles pos a =
    let nil : a.front ≡ [] = nil_from_length a.front a.long in
    Moved-as (rw (nil, lt-ltb 0 (min 1 len) (omega (arith, pos))) refl) (Moved-once Ended (a.ended refl))
moved-once event old new before after (suc n) len handles pos a =
    let long = length-carrying handles a.front ∙ a.long in
    Moved-as (rw (le-ltb (length (carrying handles a.front)) (min 1 len) (omega (arith, long))) refl) (Moved-once (Handed (carrying handles a.front)) (a.some (omega arith)))

pub once-came : {L H : Type 0} (event : L → Event H → L → Type 0) (old mid new : State L H) (from to : Way L) (before after text : List ℕ) (len n : ℕ) (handles : List H) (given : Option (Vec H Global))
    → 0 < len → length before ≡ len → At old from → mid ≡ served old to.link (plain to.ahead) false old.left → old.broken ≡ None → Arrives (reads_ahead event) from before 0 n after handles to → take len text ≡ after
    → HandsOver given handles → new ≡ gives mid handles → ReadsCountOnce event old len (Ok (n, given)) text new
once-came event old mid new from to before after text len n handles given pos long a s broken g front over is =
    let cs = carrying handles g.front in
    let count : length cs ≡ n = length-carrying handles g.front ∙ g.long in
    let first : first_handles cs ≡ handles = first-carried handles g.front (λ z. g.none (sym g.long ∙ z)) in
    let m = receives (heard cs (nat_lt (length cs) (min 1 len))) 0 in
    let p : Serves event old 0 m mid = serves old mid to.link (plain to.ahead) false old.left 0 m s broken refl (omega arith) (went-from old from to m a (moved-once (reads_ahead event) from to before after n len handles pos g)) in
    let text-is : take n text ≡ g.front =
    sym (take-take n len text (omega (arith, g.within, long))) ∙ ap (take n) (front ∙ g.room) ∙ take_at g.front (drop (0 + n) before) n g.long in (
      cs,
      record {
        serves = subst (λ x. Serves event old 0 m x) (sym is) (Serves-gives handles p);
        within = omega (arith, count, g.within, long);
        alone = alone-first handles g.front;
        left = ap (λ (x : State _ _). x.left) is ∙ left-gives mid handles ∙ ap (λ (x : State _ _). x.left) s;
        list = λ h. ap (λ (x : State _ _). x.list) is ∙ list-gives mid handles (ap (λ (x : State _ _). x.list) s) ∙ ap (λ hs. not (has_some hs)) (sym first);
        unasked = λ z. absurd (omega (arith, z));
      },
      sym count,
      text-is ∙ sym (bytes-carrying handles g.front),
      subst (λ hs. HandsOver given hs) (sym first) over,
    )

pub once-refused : {L H : Type 0} (event : L → Event H → L → Type 0) (old new : State L H) (from to : Way L) (c : IoCause) (e : Error)
    → At old from → new ≡ failed old to.link (plain to.ahead) true old.left old.broken → old.broken ≡ None → e ≡ error_of c → reads_ahead event from (Refused c) to → Trouble event old 0 IfSound false nothing e new
once-refused event old new from to c e a s broken is p =
    gave-up event old new to.link (plain to.ahead) true old.left old.broken 0 IfSound false nothing c e s broken is broken (λ h. refl) (λ h. refl) refl (omega arith) (λ h. refl) (down-from old from to nothing c a (record { before = from; moved = still; last = p }))

pub unasked : {L H : Type 0} (event : L → Event H → L → Type 0) (old : State L H) (len : ℕ) (text : List ℕ)
    → len ≡ 0 → old.broken ≡ None → ReadsCountOnce event old len (Ok (0, None)) text (record old { faulted = false })
unasked {H = H} event old len text z broken = (
  [],
  record {
    serves = let none : nat_lt 0 (min 1 len) ≡ false = le-ltb 0 (min 1 len) (omega (arith, z)) in
        serves old (record old { faulted = false }) old.link old.ahead old.list old.left 0 (receives (heard {H = H} [] (nat_lt 0 (min 1 len))) 0) refl broken refl (omega arith) (went-silent old.ahead (rw none refl) (Moved-as (rw none refl) still));
    within = omega arith;
    alone = refl;
    left = refl;
    list = λ h. absurd (omega (arith, z));
    unasked = λ h. refl;
  },
  refl,
  refl,
  refl,
)
