-- What calls of all sessions are refused with, by number; and what the faults of their links leave.
use Rattle.std.proofs.Common.{◌≡◌, ◌≤◌, ◌+◌, ℕ, zero, suc, ℤ, Bool, true, false, cond, ◌||◌, List, [], ◌∷◌, ◌++◌, length, length-append, min, drop, Option, Some, None, refl, sym, ap, subst, ◌∙◌, arith}
use Rattle.std.specs.List.{list_any}
use Rattle.std.specs.Option.{ForSome}
use Rattle.std.specs.Prelude.{◌==◌}
use Rattle.vhost_message.specs.Cause.{error_of}
use Rattle.vhost_message.specs.declared.cause.IoCause.{IoCause}
use Rattle.vhost_message.specs.declared.cause.IoCause.TheVariants.{Raw}
use Rattle.vhost_message.specs.declared.errno.TheConstants.{ENOMEM}
use Rattle.vhost_message.specs.declared.error.Error as declared
use Rattle.vhost_message.specs.declared.error.Error.TheVariants as code
use Rattle.vhost_protocol.specs.Stream.{Cell, carrying}
use Rattle.vhost_link.proofs.Cells.{length-carrying}
use Rattle.vhost_link.proofs.MemStream.{mem-stream}
use Rattle.vhost_link.specs.Cuts as cuts
use Rattle.vhost_link.specs.Ends.{Ends}
use Rattle.vhost_link.specs.Law.{Refused, Move, Moved}
use Rattle.vhost_link.specs.Mem.{event}
use Rattle.vhost_link.specs.declared.cut.Cut.{Cut}
use Rattle.vhost_link.specs.declared.plain.PlainHandle.{PlainHandle}
use Rattle.vhost_connection.specs.Hearing as failing
use Rattle.vhost_connection.specs.Hearing.{Fails}
use Rattle.vhost_connection.specs.Requests.{Stops}
use Rattle.vhost_connection.specs.Talk.{Fell, Trouble, was_broken, no_memory, fault, has_moved}
use Rattle.vhost_c_common.specs.Incoming.{Adds}
use Rattle.vhost_c_common.specs.Moving.{TakesIn}
use Rattle.vhost_c_common.specs.Number.{number, error_number}
use Rattle.vhost_c_common.specs.View.{End, IsUncut, HandsNone, GivesNone, TakesNone}
use Rattle.vhost_c_common.specs.declared.incoming.Incoming.{Incoming}
use Rattle.vhost_c_common.specs.declared.refusal.Refusal.{Refusal}
use Rattle.vhost_c_common.specs.declared.refusal.Refusal.TheVariants as refusal
use Rattle.vhost_c_common.proofs.Wants.{IsWant, alike, list_away, by_link, broke_before}
use Rattle.vhost_c.specs.Calls.{is_named}

-- ---- tables

-- a table of one more has the same
pub more-named : (n m : ℕ) (ns : List ℕ) → is_named ns n ≡ true → is_named (m ∷ ns) n ≡ true
more-named n m ns p = go (n == 0) (n == m) (list_any (λ k. n == k) ns) p
  where
    go : (a b c : Bool) → a || c ≡ true → a || (b || c) ≡ true
    go true b c q = refl
    go false true c q = refl
    go false false c q = q

-- ---- bytes in and out

pub none-handed : (P : ℕ → Type 0) (bs : List ℕ) (fs : List ℤ) (r : Refusal) → P 107 → HandsNone bs fs r → P (number r)
none-handed P bs fs refusal.NoRoom p h = p
none-handed P bs fs (refusal.Protocol e) p h = absurd h
none-handed P bs fs _ p h = absurd h

none-given : (P : ℕ → Type 0) (bs : List ℕ) (fs : List ℤ) (e : declared.Error) → P 1 → P 24 → GivesNone bs fs e → P (error_number e)
none-given P bs fs code.InvalidParam p q h = p
none-given P bs fs code.OutOfMemory p q h = q
none-given P bs fs _ p q h = absurd h

pub none-taken : (P : ℕ → Type 0) (missing : ℕ) (bs : List ℕ) (fs : List ℤ) (r : Refusal) → P 106 → P 1 → P 24 → TakesNone missing bs fs r → P (number r)
none-taken P missing bs fs refusal.TooManyBytes p q m h = p
none-taken P missing bs fs (refusal.Protocol e) p q m h = none-given P bs fs e q m h
none-taken P missing bs fs _ p q m h = absurd h

-- so much more came as was counted
pub more-came : (before after : List (Cell PlainHandle)) (bs : List ℕ) (fs : List ℤ) (i j : Incoming) → TakesIn bs fs before after → Adds bs i j → i.count ≤ length before → j.count ≤ length after
more-came before after bs fs i j got adds enough =
    let long : length after ≡ length before + length (carrying got.handles bs) = ap (λ (cs : List (Cell PlainHandle)). length cs) got.got ∙ length-append before (carrying got.handles bs) in
    let same : length (carrying got.handles bs) ≡ length bs = length-carrying got.handles bs in
    let count : j.count ≡ min (i.count + length bs) 18446744073709551615 = adds.count in
    omega (arith, long, same, count, enough)

-- ---- memory was refused

pub of-want : (P : ℕ → Type 0) (old : End) (e : declared.Error) → P 24 → P 16 → P 15 → IsWant old e → P (error_number e)
of-want P old _ memory retry broken (list_away is) = memory
of-want P old _ memory retry broken by_link = retry
of-want P old _ memory retry broken (broke_before is) = broken

none-left : (n : ℕ) → drop {A = Cut} n [] ≡ []
none-left zero = refl
none-left (suc n) = refl

-- a link that is not cut fails for want of memory alone, and is not cut then
fell-so : (old new : End) (m : Move PlainHandle) (c : IoCause) → Fell event old m c new → old.link.script ≡ [] → (c ≡ Raw ENOMEM) × (new.link.script ≡ [])
fell-so old new m c fell uncut =
    let runs = mem-stream old.link fell.before fell.talks.below fell.talks.moved in
    let before : fell.before.script ≡ [] = runs.script ∙ ap (λ (s : List Cut). drop runs.calls s) uncut ∙ none-left runs.calls in
    let f : cuts.Fails [] c fell.before.wants new.link.wants = subst (λ s. cuts.Fails s c fell.before.wants new.link.wants) before fell.last.0 in
    (f.0, ap {A = Ends} (λ k. k.script) fell.last.1 ∙ ap (λ (s : List Cut). drop 1 s) before)

pub fell-cause : (old new : End) (m : Move PlainHandle) (c : IoCause) → Fell event old m c new → old.link.script ≡ [] → c ≡ Raw ENOMEM
fell-cause old new m c fell uncut = (fell-so old new m c fell uncut).0

pub fell-script : (old new : End) (m : Move PlainHandle) (c : IoCause) → Fell event old m c new → old.link.script ≡ [] → new.link.script ≡ []
fell-script old new m c fell uncut = (fell-so old new m c fell uncut).1

module _ (old new : End) (cells : List (Cell PlainHandle)) (e : declared.Error) (stops : Stops event old cells e new) (uncut : old.link.script ≡ []) where
  cause-is : stops.cause ≡ Raw ENOMEM
  cause-is = fell-cause old new _ stops.cause stops.fell uncut

  -- a message that was stopped
  pub stop-error : e ≡ error_of (Raw ENOMEM)
  stop-error = stops.error ∙ ap (λ c. error_of c) cause-is

  pub stop-number : error_number e ≡ 16
  stop-number = ap {A = declared.Error} error_number stop-error

  pub stop-uncut : IsUncut new
  stop-uncut = record {
    uncut = fell-script old new _ stops.cause stops.fell uncut;
    broken = λ c is. let same : Some stops.cause ≡ Some c = sym stops.broken ∙ is in (let one : stops.cause ≡ c = cc same in sym one ∙ cause-is);
  }

kept-want : (b : Bool) (c : IoCause) (o : Option IoCause) → o ≡ cond b (Some c) None → c ≡ Raw ENOMEM → ForSome o (λ x. x ≡ Raw ENOMEM)
kept-want true c o is want x at = cc
kept-want false c o is want x at = cc

module _ (old new : End) where
  -- trouble before a message was read
  pub trouble-uncut : {limit : ℕ} {grows : _} {breaks : Bool} {m : _} (e : declared.Error) → Trouble event old limit grows breaks m e new → IsUncut old → IsUncut new
  trouble-uncut _ (was_broken is none same) u = alike old new (ap {A = End} (λ s. s.link.script) same) (ap {A = End} (λ s. s.broken) same) u
  trouble-uncut _ (no_memory grows sound is none same) u = alike old new (ap {A = End} (λ s. s.link.script) same) (ap {A = End} (λ s. s.broken) same) u
  trouble-uncut {breaks = breaks} {m = m} _ (fault c unbroken fell failures retries retry broken faulted rest) u = record {
    uncut = fell-script old new m c fell u.uncut;
    broken = kept-want (breaks || has_moved m) c new.broken broken (fell-cause old new m c fell u.uncut);
  }

  -- it breaks nothing but where memory was refused to the link
  pub trouble-sound : {limit : ℕ} {grows : _} {breaks : Bool} {m : _} (e : declared.Error) → Trouble event old limit grows breaks m e new → IsUncut old → (error_number e ≡ 16 → ⊥) → old.broken ≡ None → new.broken ≡ None
  trouble-sound _ (was_broken is none same) u free sound = ap {A = End} (λ s. s.broken) same ∙ sound
  trouble-sound _ (no_memory grows away is none same) u free sound = ap {A = End} (λ s. s.broken) same ∙ sound
  trouble-sound {m = m} _ (fault c unbroken fell failures retries retry broken faulted rest) u free sound = absurd (free (ap (λ x. error_number (error_of x)) (fell-cause old new m c fell u.uncut)))

  -- so do calls that failed
  pub fails-sound : (between : Bool) (e : declared.Error) → Fails event old between e new → IsUncut old → (error_number e ≡ 16 → ⊥) → old.broken ≡ None → new.broken ≡ None
  fails-sound between _ (failing.was_broken is same) u free sound = ap {A = End} (λ s. s.broken) same ∙ sound
  fails-sound between _ (failing.no_memory away is same) u free sound = ap {A = End} (λ s. s.broken) same ∙ sound
  fails-sound between _ (failing.fault c m unbroken fell failures retries retry short broken faulted rest) u free sound = absurd (free (ap (λ x. error_number (error_of x)) (fell-cause old new m c fell u.uncut)))

-- ---- an error of the protocol says that something was read

pub none-unread : (e : declared.Error) → (error_number e == 101 || (error_number e == 109 || error_number e == 105)) ≡ false
none-unread code.InvalidParam = refl
none-unread (code.InvalidOperation name) = refl
none-unread (code.InactiveFeature f) = refl
none-unread (code.InactiveOperation f) = refl
none-unread code.InvalidMessage = refl
none-unread (code.InvalidSocketFd c) = refl
none-unread code.NotUnixSocket = refl
none-unread code.NotStreamSocket = refl
none-unread code.PartialMessage = refl
none-unread code.Disconnected = refl
none-unread code.OversizedMsg = refl
none-unread code.IncorrectFds = refl
none-unread (code.SocketError c) = refl
none-unread (code.SocketConnect c) = refl
none-unread (code.SocketBroken c) = refl
none-unread (code.SocketRetry c) = refl
none-unread code.BackendInternalError = refl
none-unread code.FrontendInternalError = refl
none-unread code.FeatureMismatch = refl
none-unread (code.ReqHandlerError c) = refl
none-unread code.MemFdCreateError = refl
none-unread code.FileTruncateError = refl
none-unread code.MemFdSealError = refl
none-unread code.OutOfMemory = refl
