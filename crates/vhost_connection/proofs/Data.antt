-- Bytes of a message come in, whatever handles they bring.
use Rattle.std.proofs.Common.{◌≡◌, ℕ, ◌+◌, ◌-◌, List, length, take, refl, sym, ap, ◌∙◌, arith, true, false, Some, None, nat_lt, Err, Ok, inl, inr, []}
use Rattle.vhost_message.specs.declared.cause.IoCause.{IoCause}
use Rattle.vhost_message.specs.declared.error.Error.{Error}
use Rattle.vhost_message.specs.declared.error.Error.TheVariants.{InvalidMessage, SocketBroken}
use Rattle.vhost_message.specs.Cause.{error_of}
use Rattle.vhost_protocol.specs.Stream.{items, heard, plain}
use Rattle.vhost_link.specs.Law.{Event, Moved}
use Rattle.vhost_link.proofs.Moves.{Moved-as}
use Rattle.vhost_connection.specs.declared.pass.RecvPass.{RecvPass}
use Rattle.vhost_connection.specs.declared.pass.PassEnd.TheVariants.{Fault}
use Rattle.vhost_connection.specs.Pass.{receives, GetsRest}
use Rattle.vhost_connection.specs.Talk.{State, Never}
use Rattle.vhost_connection.specs.Talk.Trouble.{was_broken}
use Rattle.vhost_connection.specs.Came.{Came, CutShort, GoesOn}
use Rattle.vhost_connection.specs.Front.{ReadsCount}
use Rattle.vhost_connection.specs.Ahead.{Way, reads_ahead}
use Rattle.vhost_connection.proofs.Talking.{At, went-from, down-from, served, serves, failed, gave-up}
use Rattle.vhost_connection.proofs.Fronts.{heard-as}
use Rattle.vhost_connection.proofs.Receiving.{front-of}

-- up to so many bytes, or the end
pub data-came : {L H : Type 0} (event : L → Event H → L → Type 0) (old new : State L H) (from to : Way L) (before after : List ℕ) (got : RecvPass) (len : ℕ)
    → At old from → new ≡ served old to.link (plain to.ahead) old.list got.left → old.broken ≡ None → (g : GetsRest (reads_ahead event) from before old.left got after to)
    → ((c : IoCause) → got.stop ≡ Fault c → ⊥) → length before ≡ len → Came event old GoesOn len g.cs old.list new
data-came event old new from to before after got len a s broken g miss long =
    let q = heard-as (reads_ahead event) from to (length before) old.left got.left got.stop g.cs miss g.ended in
    let r = old.left - got.left in
    let m = receives (heard g.cs (nat_lt (length g.cs) len)) r in
    let moved : Moved (reads_ahead event) from m to = Moved-as (ap (λ n. receives (heard g.cs (nat_lt (length g.cs) n)) r) long) q.1 in
    record {
      retries = r;
      serves = serves old new to.link (plain to.ahead) old.list got.left old.left m s broken refl (omega arith) (went-from old from to m a moved);
      within = omega (arith, q.0);
      left = ap (λ (x : State _ _). x.left + r) s ∙ omega (arith, g.left);
      listed = ap (λ (x : State _ _). x.list) s;
    }

pub data-plain : {L H : Type 0} (event : L → Event H → L → Type 0) (old new : State L H) (from to : Way L) (before after text : List ℕ) (got : RecvPass) (len : ℕ)
    → At old from → new ≡ served old to.link (plain to.ahead) old.list got.left → old.broken ≡ None → GetsRest (reads_ahead event) from before old.left got after to
    → ((c : IoCause) → got.stop ≡ Fault c → ⊥) → length before ≡ len → take len text ≡ after → got.surplus ≡ false → ReadsCount event old len (Ok got.count) text new
data-plain event old new from to before after text got len a s broken g miss long front none =
    (g.cs, (data-came event old new from to before after got len a s broken g miss long, (sym g.surplus ∙ none, g.count, front-of g.cs before after text len got.count g.fills front g.count)))

pub data-surplus : {L H : Type 0} (event : L → Event H → L → Type 0) (old new : State L H) (from to : Way L) (before after : List ℕ) (got : RecvPass) (len : ℕ)
    → At old from → new ≡ served old to.link (plain to.ahead) old.list got.left → old.broken ≡ None → GetsRest (reads_ahead event) from before old.left got after to
    → ((c : IoCause) → got.stop ≡ Fault c → ⊥) → length before ≡ len → got.surplus ≡ true → ReadsCount event old len (Err InvalidMessage) [] new
data-surplus event old new from to before after got len a s broken g miss long some =
    (g.cs, inl (data-came event old new from to before after got len a s broken g miss long, (refl, sym g.surplus ∙ some)))

-- fewer, and then a fault
pub data-cut : {L H : Type 0} (event : L → Event H → L → Type 0) (old new : State L H) (from to : Way L) (before after : List ℕ) (got : RecvPass) (left len : ℕ) (c : IoCause) (e : Error)
    → At old from → new ≡ failed old to.link (plain to.ahead) old.list left (Some c) → old.broken ≡ None → e ≡ error_of c
    → (g : GetsRest (reads_ahead event) from before old.left got after to) → got.stop ≡ Fault c → length before ≡ len → CutShort event old GoesOn len g.cs e new
data-cut event old new from to before after got left len c e a s broken is g fault long =
    let q = rw fault at g.ended in
    let r = old.left - got.left in
    let m = receives (items g.cs) r in
    record {
      retries = r;
      short = λ h. omega (arith, q.0);
      trouble = gave-up event old new to.link (plain to.ahead) old.list left (Some c) old.left Never true m c e s broken is refl (λ h. h) (λ h. absurd (cc h)) refl (omega arith) (λ h. let z = q.1 h in omega arith) (down-from old from to m c a q.2);
    }

-- it was broken before
pub data-broken : {L H : Type 0} (event : L → Event H → L → Type 0) (old : State L H) (len : ℕ) (c : IoCause) → old.broken ≡ Some c → ReadsCount event old len (Err (SocketBroken c)) [] (record old { faulted = false })
data-broken event old len c b = ([], inr (record { retries = 0; short = λ h. absurd (cc (b, h)); trouble = was_broken b refl refl }))
