-- Why an ask may want memory.
use Rattle.std.proofs.Common.{◌≡◌, ◌⊎◌, Bool, true, false, cond, inl, inr, IfErr, List, Option, Some, None, Result, Ok, Err, refl, subst}
use Rattle.vhost_message.specs.declared.error.Error as declared
use Rattle.vhost_message.specs.declared.error.Error.TheVariants as error
use Rattle.vhost_message.specs.declared.heard_req.HeardReq.{HeardReq}
use Rattle.vhost_protocol.specs.Ask.{Asked, Refuses, Sends, ask, given, ◌>>◌, ◌>>=◌}
use Rattle.vhost_protocol.specs.Error.{Error, OutOfMemory, seen}
use Rattle.vhost_protocol.specs.FrontendCall.{FrontendCall, Frontend, Info, SetLogBase, SetMemTable}
use Rattle.vhost_protocol.specs.Session.{is_listen}
use Rattle.vhost_protocol.specs.Written.{Written}
use Rattle.vhost_protocol.specs.declared.asked.Awaited.{Awaited}
use Rattle.vhost_protocol.specs.declared.asked.Awaited.TheVariants.{Ack, Nobody, Reply}
use Rattle.vhost_protocol.specs.declared.asked.Shape.{Shape}
use Rattle.vhost_link.specs.Law.{Event}
use Rattle.vhost_connection.specs.Hearing.{Fails, was_broken, no_memory, fault}
use Rattle.vhost_connection.specs.Talk.{State}
use Rattle.vhost_connection.proofs.Errors.{no_memory_error}
use Rattle.vhost_frontend_core.specs.Asking as asking
use Rattle.vhost_frontend_core.specs.Asking.{Asks, AsksWithRoom}
use Rattle.vhost_frontend_core.specs.declared.asked.Sent.{Sent}

-- ---- no test of a call refuses it for want of memory

abbrev IsFed : {H : Type 0} → Asked H → Type 0
IsFed (Refuses OutOfMemory) = ⊥
IsFed _ = Unit {0}

module _ (H : Type 0) where
  fed-test : (b : Bool) (e : Error) (next : Asked H) → IsFed {H = H} (Refuses e) → IsFed next → IsFed (cond b (Ok tt) (Err e) >> next)
  fed-test true e next other h = h
  fed-test false e next other h = other

  fed-given : (A : Type 0) (x : Option A) (next : A → Asked H) → ((a : A) → IsFed (next a)) → IsFed (given x >>= next)
  fed-given A (Some a) next h = h a
  fed-given A None next h = tt

  fed-cond : (b : Bool) (x y : Asked H) → IsFed x → IsFed y → IsFed (cond b x y)
  fed-cond true x y h k = h
  fed-cond false x y h k = k

ruleset feeding = (fed-test, fed-given, fed-cond)

fed : {H : Type 0} (f : Frontend) (call : FrontendCall H) → IsFed (ask f call)
fed f (SetLogBase base None) = search feeding
fed f (SetLogBase base (Some r)) = search feeding
fed f _ = search feeding

never-refused : {H : Type 0} (f : Frontend) (call : FrontendCall H) → ask f call ≡ Refuses OutOfMemory → ⊥
never-refused f call is = subst (λ (x : Asked _). IsFed x) is (fed f call)

-- ---- a table awaits a reply only while postcopy listens

abbrev AwaitsOnly : {H : Type 0} → Bool → Asked H → Type 0
AwaitsOnly b (Sends w (Reply s) g) = b ≡ true
AwaitsOnly b _ = Unit {0}

acked-only : (H : Type 0) (b on : Bool) (w : Written HeardReq H) (g : Frontend) → AwaitsOnly b (Sends w (cond on Ack Nobody) g)
acked-only H b true w g = tt
acked-only H b false w g = tt

tested-only : (H : Type 0) (b holds : Bool) (e : Error) (next : Asked H) → AwaitsOnly b next → AwaitsOnly b (cond holds (Ok tt) (Err e) >> next)
tested-only H b true e next h = h
tested-only H b false e next h = tt

listening-only : (H : Type 0) (b : Bool) (reply other : Asked H) → AwaitsOnly false other → AwaitsOnly b (cond b reply other)
listening-only H true reply other h = any reply
  where
    any : (x : Asked H) → AwaitsOnly true x
    any (Sends w (Reply s) g) = refl
    any _ = tt
listening-only H false reply other h = h

listens : {H : Type 0} (f : Frontend) (infos : List (Info H)) → AwaitsOnly (is_listen f.postcopy) (ask f (SetMemTable infos))
listens f infos = search (tested-only, listening-only, acked-only)

pub table-listens : {H : Type 0} (f : Frontend) (infos : List (Info H)) (w : Written HeardReq H) (s : Shape) (g : Frontend) → ask f (SetMemTable infos) ≡ Sends w (Reply s) g → is_listen f.postcopy ≡ true
table-listens f infos w s g is =
    subst (λ (x : Asked _). AwaitsOnly (is_listen f.postcopy) x) is (listens f infos)

-- ---- what an ask may want memory for

-- the list of handles had been given away, and nothing changed
abbrev pub IsAway : {L H : Type 0} → State L H → State L H → Type 0
IsAway old new = (old.list ≡ false) × (new ≡ record old { faulted = false })

module _ {L H : Type 0} {event : L → Event H → L → Type 0} where
  failed-away : (old new : State L H) (e : declared.Error) → Fails event old false e new → e ≡ error.OutOfMemory → IsAway old new
  failed-away old new _ (was_broken b same) is = absurd (cc is)
  failed-away old new _ (no_memory b away same) is = (away, same)
  failed-away old new _ (fault c m b talks none most spent few broken faulted kept) is = absurd (no_memory_error _ c refl is)

  -- of a call that makes no room
  asked-away : (call : FrontendCall H) {old new : State L H} {f f' : Frontend} {before after : Awaited} {e : declared.Error} → Asks event (ask f call) old f before (Err e) new f' after → e ≡ error.OutOfMemory → IsAway old new
  asked-away call {f = f} (asking.refuses r) is = absurd (never-refused f call (subst (λ (x : declared.Error). ask f call ≡ Refuses (seen x)) is r))
  asked-away call {old = old} {new} (asking.fails s k) is = failed-away old new _ k is

  pub wants-plainly : (P : Type 0) (call : FrontendCall H) {old new : State L H} {f f' : Frontend} {before after : Awaited} (r : Result Sent declared.Error) → Asks event (ask f call) old f before r new f' after
      → IfErr r (λ e. e ≡ error.OutOfMemory → P ⊎ IsAway old new)
  wants-plainly P call (Ok sent) asks = tt
  wants-plainly P call (Err e) asks = λ is. inr (asked-away call asks is)

-- and of one that makes room
pub wants-with-room : (P Q : Type 0) {A : Type 0} (r : Result A declared.Error) → P → IfErr r (λ e. e ≡ error.OutOfMemory → P ⊎ Q)
wants-with-room P Q (Ok a) room = tt
wants-with-room P Q (Err e) room = λ is. inl room
