-- A link that is not cut fails for want of memory alone, and no call that was served breaks an end.
use Rattle.std.proofs.Common.{◌≡◌, ℕ, zero, suc, Bool, true, false, cond, ◌||◌, List, [], drop, Option, Some, None, ◌⊎◌, inl, inr, refl, sym, ap, subst, ◌∙◌}
use Rattle.std.specs.Option.{ForSome}
use Rattle.vhost_message.specs.Cause.{error_of}
use Rattle.vhost_message.specs.declared.cause.IoCause.{IoCause}
use Rattle.vhost_message.specs.declared.cause.IoCause.TheVariants.{Raw}
use Rattle.vhost_message.specs.declared.errno.TheConstants.{ENOMEM}
use Rattle.vhost_message.specs.declared.error.Error as declared
use Rattle.vhost_message.specs.declared.error.Error.TheVariants.{OutOfMemory, SocketRetry, SocketBroken}
use Rattle.vhost_link.proofs.MemStream.{mem-stream}
use Rattle.vhost_link.specs.Cuts as cuts
use Rattle.vhost_link.specs.Ends.{Ends}
use Rattle.vhost_link.specs.Law.{Refused, Move, Moved}
use Rattle.vhost_link.specs.Mem.{event}
use Rattle.vhost_link.specs.declared.cut.Cut.{Cut}
use Rattle.vhost_link.specs.declared.plain.PlainHandle.{PlainHandle}
use Rattle.vhost_connection.specs.Talk as talk
use Rattle.vhost_connection.specs.Talk.{Growth, Serves, Trouble, has_moved}
use Rattle.vhost_connection.specs.Hearing.{Fails, was_broken, no_memory, fault}
use Rattle.vhost_connection.specs.Requests.{Stops}
use Rattle.vhost_protocol.specs.Stream.{Cell}
use Rattle.vhost_c_common.specs.View.{End, IsUncut, Lasts, StaysSound}

none-left : (n : ℕ) → drop {A = Cut} n [] ≡ []
none-left zero = refl
none-left (suc n) = refl

never : (o : Option IoCause) → o ≡ None → ForSome o (λ c. c ≡ Raw ENOMEM)
never o none c is = cc

chosen : (b : Bool) (c : IoCause) (o : Option IoCause) → o ≡ cond b (Some c) None → c ≡ Raw ENOMEM → ForSome o (λ x. x ≡ Raw ENOMEM)
chosen true c o is want x at = cc
chosen false c o is want x at = cc

-- Memory was refused to an endpoint: for its list of handles, on its link, or before on its link.
pub data IsWant (old : End) : declared.Error → Type 0 where
  list_away : old.list ≡ false → IsWant old OutOfMemory
  by_link : IsWant old (SocketRetry (Raw ENOMEM))
  broke_before : old.broken ≡ Some (Raw ENOMEM) → IsWant old (SocketBroken (Raw ENOMEM))

error-want : (old : End) (c : IoCause) → c ≡ Raw ENOMEM → IsWant old (error_of c)
error-want old c is = subst (λ x. IsWant old (error_of x)) (sym is) by_link

broken-want : (old : End) (c : IoCause) → old.broken ≡ Some c → c ≡ Raw ENOMEM → IsWant old (SocketBroken c)
broken-want old c was is = subst (λ x. IsWant old (SocketBroken x)) (sym is) (broke_before (was ∙ ap (λ x. Some x) is))

-- where link and breaking are as before
pub alike : (old new : End) → new.link.script ≡ old.link.script → new.broken ≡ old.broken → IsUncut old → IsUncut new
alike old new script broken u = record { uncut = script ∙ u.uncut; broken = λ c is. u.broken c (sym broken ∙ is) }

last : (before after : Ends) (c : IoCause) → event before (Refused c) after → before.script ≡ [] → (c ≡ Raw ENOMEM) × (after.script ≡ [])
last before after c e uncut =
    let f : cuts.Fails [] c before.wants after.wants = subst (λ s. cuts.Fails s c before.wants after.wants) uncut e.0 in
    (f.0, ap {A = Ends} (λ k. k.script) e.1 ∙ ap (λ (s : List Cut). drop 1 s) uncut)

still : (l l' : Ends) (m : Move PlainHandle) → Moved event l m l' → l.script ≡ [] → l'.script ≡ []
still l l' m moved uncut = let runs = mem-stream l l' m moved in runs.script ∙ ap (λ (s : List Cut). drop runs.calls s) uncut ∙ none-left runs.calls

-- a call that was served
pub sound : (old new : End) {limit : ℕ} {m : Move PlainHandle} → Serves event old limit m new → StaysSound old new
sound old new s = record { before = s.before; after = s.after; uncut = still old.link new.link s.talks.below s.talks.moved }

pub served : (old new : End) {limit : ℕ} {m : Move PlainHandle} → Serves event old limit m new → IsUncut old → IsUncut new
served old new s u = record { uncut = still old.link new.link s.talks.below s.talks.moved u.uncut; broken = never new.broken s.after }

-- one that failed
pub failed : (old new : End) (between : Bool) (e : declared.Error) → Fails event old between e new → IsUncut old → IsUncut new × IsWant old e
failed old new between e (was_broken {c = c} is at) u = (alike old new (ap {A = End} (λ s. s.link.script) at) (ap {A = End} (λ s. s.broken) at) u, broken-want old c is (u.broken c is))
failed old new between e (no_memory sound is at) u = (alike old new (ap {A = End} (λ s. s.link.script) at) (ap {A = End} (λ s. s.broken) at) u, list_away is)
failed old new between e (fault c m unbroken fell failures retries retry short broken faulted rest) u =
    let l = last fell.before new.link c fell.last (still old.link fell.before fell.talks.below fell.talks.moved u.uncut) in
    (record { uncut = l.1; broken = chosen (between || has_moved m) c new.broken broken l.0 }, error-want old c l.0)

-- one that met trouble before it was served
pub troubled : (old new : End) {limit : ℕ} {grows : Growth} {breaks : Bool} {m : Move PlainHandle} (e : declared.Error) → Trouble event old limit grows breaks m e new → IsUncut old → IsWant old e
troubled old new _ (talk.was_broken {c = c} is none same) u = broken-want old c is (u.broken c is)
troubled old new _ (talk.no_memory grows sound is none same) u = list_away is
troubled old new _ (talk.fault c unbroken fell failures retries retry broken faulted rest) u =
    error-want old c (last fell.before new.link c fell.last (still old.link fell.before fell.talks.below fell.talks.moved u.uncut)).0

-- a reply that was stopped
pub halted : (old new : End) (cells : List (Cell PlainHandle)) (e : declared.Error) → Stops event old cells e new → IsUncut old → IsWant old e
halted old new cells e stops u =
    subst {A = declared.Error} (λ x. IsWant old x) (sym stops.error)
    (error-want old stops.cause (last stops.fell.before new.link stops.cause stops.fell.last (still old.link stops.fell.before stops.fell.talks.below stops.fell.talks.moved u.uncut)).0)

-- what that leaves of its soundness
retries : (c : IoCause) (old new : End) → c ≡ Raw ENOMEM → (new.broken ≡ old.broken) ⊎ ((old.broken ≡ None) × (new.broken ≡ Some c)) → Lasts (error_of c) old new
retries c old new is lasts = subst (λ x. Lasts (error_of x) old new) (sym is) (subst (λ x. (new.broken ≡ old.broken) ⊎ ((old.broken ≡ None) × (new.broken ≡ Some x))) is lasts)

moved : (b : Bool) (c : IoCause) (old new : End) → old.broken ≡ None → new.broken ≡ cond b (Some c) None → (new.broken ≡ old.broken) ⊎ ((old.broken ≡ None) × (new.broken ≡ Some c))
moved true c old new sound is = inr (sound, is)
moved false c old new sound is = inl (is ∙ sym sound)

pub lasts : (old new : End) (between : Bool) (e : declared.Error) → Fails event old between e new → IsUncut old → Lasts e old new
lasts old new between e (was_broken is at) u = ap {A = End} (λ s. s.broken) at
lasts old new between e (no_memory sound is at) u = ap {A = End} (λ s. s.broken) at
lasts old new between e (fault c m unbroken fell failures retry limit short broken faulted rest) u =
    retries c old new (last fell.before new.link c fell.last (still old.link fell.before fell.talks.below fell.talks.moved u.uncut)).0 (moved (between || has_moved m) c old new unbroken broken)

-- the same where an end before or after it is as sound
pub lasts-since : (old mid new : End) (e : declared.Error) → mid.broken ≡ old.broken → Lasts e mid new → Lasts e old new
lasts-since old mid new (SocketRetry c) same l = subst (λ (o : Option IoCause). (new.broken ≡ o) ⊎ ((o ≡ None) × (new.broken ≡ Some c))) same l
lasts-since old mid new _ same l = l ∙ same

pub lasts-then : (old mid new : End) (e : declared.Error) → new.broken ≡ mid.broken → Lasts e old mid → Lasts e old new
lasts-then old mid new (SocketRetry c) same l = subst (λ (o : Option IoCause). (o ≡ old.broken) ⊎ ((old.broken ≡ None) × (o ≡ Some c))) (sym same) l
lasts-then old mid new _ same l = same ∙ l

pub no-memory-lasts : (old new : End) (e : declared.Error) → e ≡ OutOfMemory → new.broken ≡ old.broken → Lasts e old new
no-memory-lasts old new e is same = subst {A = declared.Error} (λ x. Lasts x old new) (sym is) same

-- nothing happened
pub stays : (e : declared.Error) (old : End) → Lasts e old old
stays (SocketRetry c) old = inl refl
stays _ old = refl
