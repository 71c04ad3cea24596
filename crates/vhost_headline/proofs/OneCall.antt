-- One call of a backend, in the words of the theorem.
use Rattle.std.proofs.Common.{◌≡◌, ◌⊎◌, ◌∙◌, ℕ, false, List, Option, Some, None, Result, Ok, Err, inl, inr, refl, sym, ap, subst, ℤ}
use Rattle.std.specs.Prelude.{⊤}
use Rattle.vhost_message.specs.declared.cause.IoCause.{IoCause}
use Rattle.vhost_message.specs.declared.cause.IoCause.TheVariants.{Raw}
use Rattle.vhost_message.specs.declared.error.Error as declared
use Rattle.vhost_message.specs.declared.error.Error.TheVariants.{SocketBroken}
use Rattle.vhost_message.specs.declared.heard_req.HeardReq.{HeardReq}
use Rattle.vhost_protocol.specs.Codes.{allows_handles}
use Rattle.vhost_protocol.specs.DeviceCall.{Call, Answer}
use Rattle.vhost_protocol.specs.Error.{Error, seen_result}
use Rattle.vhost_protocol.specs.Handler.{MeetsRow, HandlesRequest}
use Rattle.vhost_protocol.specs.Run as run
use Rattle.vhost_protocol.specs.Session.{Session, heard_in}
use Rattle.vhost_protocol.specs.Split.{Message}
use Rattle.vhost_protocol.specs.Stream.{Cell, Item}
use Rattle.vhost_link.specs.Law.{Event, Move, move}
use Rattle.vhost_connection.specs.Talk.{State, Talks, First, Trouble}
use Rattle.vhost_connection.specs.Talk.Trouble.{was_broken, no_memory, fault}
use Rattle.vhost_connection.specs.Serving.{Breaks, Handled, HandlesOne}
use Rattle.vhost_connection.specs.Serving.Breaks.{unread, unanswered}
use Rattle.vhost_connection.proofs.Serving.{as-entry}
use Rattle.vhost_backend_req_handler.specs.Serving.{fitting, kept_unsent}
use Rattle.vhost_link.specs.declared.handle.Kind.{Kind}
use Rattle.vhost_backend_req.specs.declared.backend.Backend.{Backend}
use Rattle.vhost_gpu_backend_req.specs.declared.backend.GpuBackend.{GpuBackend}
use Rattle.vhost_backend_req_handler.specs.declared.session_core.SessionCore.{SessionCore}
use Rattle.vhost_backend_req_handler.specs.Core.{endpoint_of, session_in}
use Rattle.vhost_backend_req_handler.specs.Opening.{OpensAsBackend, OpensAsGpu}
use Rattle.vhost_promises.proofs.Faulting.{met-fault}
use Rattle.vhost_promises.proofs.Unserved.{unserved}
use Rattle.vhost_connection.specs.Hearing.{Hears}
use Rattle.vhost_protocol.specs.Split.{split}
use Rattle.vhost_headline.specs.Headline.{CallsAtMostOnce, Carries, MeetsItsRowOrFails, NotServed, SafeAndTotal}
use Rattle.vhost_headline.specs.Headline.NotServed.{over as had_ended, poisoned, no_memory as without_memory, fault as faults}
use Rattle.vhost_headline.proofs.CalledOnce.{Once, met-once, stopped-once}

-- where an endpoint met no fault, it is broken only if it was
troubled-sound : {L H : Type 0} (event : L → Event H → L → Type 0) (old : State L H) (limit : ℕ) (m : Move H) (e : declared.Error) (new : State L H) → Trouble event old limit First false m e new → new.faulted ≡ false → new.broken ≡ old.broken
troubled-sound event old limit m e new (was_broken b n same) none = ap (λ x. x.broken) same
troubled-sound event old limit m e new (no_memory g b l n same) none = ap (λ x. x.broken) same
troubled-sound event old limit m e new (fault c b f k few spent broken faulted kept) none = absurd (cc (sym faulted ∙ none))

-- trouble before a whole request came is why it was not served
troubled-not : {L H Dev : Type 0} (event : L → Event H → L → Type 0) (old : State L H) (limit : ℕ) (m : Move H) (s : Session) (d : Dev) (e : declared.Error) (new : State L H) (s' : Session) (d' : Dev)
    → Trouble event old limit First false m e new → s' ≡ s → d' ≡ d → NotServed old s d (Err e) new s' d'
troubled-not event old limit m s d e new s' d' (was_broken {c = c} b n same) kept still = poisoned c b
troubled-not event old limit m s d e new s' d' (no_memory g b l n same) kept still = without_memory l refl same kept still
troubled-not event old limit m s d e new s' d' (fault c b f k few spent broken faulted left) kept still = faults faulted

module _ {L H B G Dev : Type 0} (event : L → Event H → L → Type 0) (gives : Dev → (c : Call H B G) → Answer c → Dev → Type 0) (opens_backend : H → Result B Error → Type 0) (opens_gpu : H → Result G Error → Type 0) where
  abbrev Meets : Session → Dev → Message HeardReq H → Result ⊤ Error → List (Cell H) → Session → Dev → Type 0
  Meets = MeetsRow (fitting gives) opens_backend opens_gpu

  abbrev Whole : State L H → Session → Dev → Result ⊤ Error → State L H → Session → Dev → Type 0
  Whole = Handled event heard_in allows_handles (λ (t : Session). t.failed) kept_unsent Meets

  abbrev pub Broken : State L H → Session → Dev → declared.Error → State L H → Session → Dev → Type 0
  Broken = Breaks event heard_in allows_handles (λ (t : Session). t.failed) kept_unsent Meets

  abbrev One : State L H → Session → Dev → Result ⊤ declared.Error → State L H → Session → Dev → Type 0
  One = HandlesOne event heard_in allows_handles (λ (t : Session). t.failed) kept_unsent Meets

  -- ---- nothing else poisons

  pub stays-sound : (old : State L H) (s : Session) (d : Dev) (result : Result ⊤ declared.Error) (new : State L H) (s' : Session) (d' : Dev) → One old s d result new s' d' → new.faulted ≡ false → new.broken ≡ old.broken
  stays-sound old s d (Ok a) new s' d' h none = h.replies.serves.after ∙ sym h.hears.serves.before
  stays-sound old s d (Err e) new s' d' (inl h) none = h.replies.serves.after ∙ sym h.hears.serves.before
  stays-sound old s d (Err e) new s' d' (inr (unread part same still)) none = troubled-sound event old old.budget _ e new part.trouble none
  stays-sound old s d (Err e) new s' d' (inr (unanswered m mid hears i)) none = absurd (cc (sym i.stops.faulted ∙ none))

  -- ---- the device

  -- the request came whole, where the device was called
  abbrev pub AtMostOnce : State L H → Session → Dev → Session → Dev → Type 0
  AtMostOnce = CallsAtMostOnce event gives

  with-request : (old : State L H) (s : Session) (d : Dev) (m : Message HeardReq H) (mid : State L H) (s' : Session) (d' : Dev) → Hears event (split (heard_in s) allows_handles) old (Ok m) mid
      → Once gives opens_backend opens_gpu s d s' d' → AtMostOnce old s d s' d'
  with-request old s d m mid s' d' hears (inl (c, a, gave)) = inl (m, mid, hears, c, a, gave)
  with-request old s d m mid s' d' hears (inr still) = inr still

  heard-once : (old : State L H) (heard : Result (Message HeardReq H) Error) (mid : State L H) (s : Session) (d : Dev) (answer : Result ⊤ Error) (written : List (Cell H)) (s' : Session) (d' : Dev)
      → Hears event (split (heard_in s) allows_handles) old heard mid
      → run.Handles heard_in allows_handles (λ (t : Session). t.failed) Meets s d heard answer written s' d' → AtMostOnce old s d s' d'
  heard-once old (Err e) mid s d answer written s' d' hears (is, silent, same, still) = inr (still, inl same)
  heard-once old (Ok m) mid s d answer written s' d' hears met = with-request old s d m mid s' d' hears (met-once gives opens_backend opens_gpu s d m answer written s' d' met)

  -- where the call was not served
  pub broken-once : (old : State L H) (s : Session) (d : Dev) (e : declared.Error) (new : State L H) (s' : Session) (d' : Dev) → Broken old s d e new s' d' → AtMostOnce old s d s' d'
  broken-once old s d e new s' d' (unread part same still) = inr (still, inl same)
  broken-once old s d e new s' d' (unanswered m mid hears i) = with-request old s d m mid s' d' hears
      (stopped-once gives opens_backend opens_gpu m.request s d i.after s' d' i.session (met-once gives opens_backend opens_gpu s d m i.answer i.written i.after d' i.meets))

  pub called-once : (old : State L H) (s : Session) (d : Dev) (result : Result ⊤ declared.Error) (new : State L H) (s' : Session) (d' : Dev) → One old s d result new s' d' → AtMostOnce old s d s' d'
  called-once old s d (Ok a) new s' d' h = heard-once old h.heard h.mid s d (Ok a) h.written s' d' h.hears h.handles
  called-once old s d (Err e) new s' d' (inl h) = heard-once old h.heard h.mid s d _ h.written s' d' h.hears h.handles
  called-once old s d (Err e) new s' d' (inr b) = broken-once old s d e new s' d' b

  -- and it was not served for its link, or for want of memory
  pub not-served : (old : State L H) (s : Session) (d : Dev) (e : declared.Error) (new : State L H) (s' : Session) (d' : Dev) → Broken old s d e new s' d' → NotServed old s d (Err e) new s' d'
  not-served old s d e new s' d' (unread part same still) = troubled-not event old old.budget _ s d e new s' d' part.trouble same still
  not-served old s d e new s' d' (unanswered m mid hears i) = faults i.stops.faulted

  -- ---- a row that was met

  -- what came and what was written, and the row
  abbrev pub MetRow : State L H → Session → Dev → Result ⊤ Error → State L H → Session → Dev → Type 0
  MetRow old s d answer new s' d' = (came : List (Item H)) × (written : List (Cell H)) × Carries event old came written new × HandlesRequest (fitting gives) opens_backend opens_gpu s d came answer written s' d'

  entered : (old : State L H) (s : Session) (d : Dev) (answer : Result ⊤ Error) (new : State L H) (s' : Session) (d' : Dev) → s.failed ≡ None → Whole old s d answer new s' d' → MetRow old s d answer new s' d'
  entered old s d answer new s' d' alive h =
      let e = as-entry event heard_in allows_handles (λ (t : Session). t.failed) kept_unsent Meets old new s s' d d' answer alive h in
      (e.move.handed, e.move.taken, (e.move.retries, subst (λ n. Talks event old (move e.move.handed e.move.taken e.move.retries n) new) e.failures e.talks), e.handles)

  -- a row that was met, or a call that was not served
  abbrev pub MetOrNot : State L H → Session → Dev → Result ⊤ declared.Error → State L H → Session → Dev → Type 0
  MetOrNot old s d result new s' d' = MetRow old s d (seen_result result) new s' d' ⊎ NotServed old s d result new s' d'

  pub meets-alive : (old : State L H) (s : Session) (d : Dev) (result : Result ⊤ declared.Error) (new : State L H) (s' : Session) (d' : Dev) → s.failed ≡ None → One old s d result new s' d' → MetOrNot old s d result new s' d'
  meets-alive old s d (Ok a) new s' d' alive h = inl (entered old s d (Ok a) new s' d' alive h)
  meets-alive old s d (Err e) new s' d' alive (inl h) = inl (entered old s d _ new s' d' alive h)
  meets-alive old s d (Err e) new s' d' alive (inr b) = inr (not-served old s d e new s' d' b)

-- a session has ended, or not
either : (P : Type 0) (s : Session) → ((n : ℤ) → s.failed ≡ Some n → P) → (s.failed ≡ None → P) → P
either P s over goes = go s.failed refl
  where
    go : (mark : Option ℤ) → s.failed ≡ mark → P
    go None alive = goes alive
    go (Some n) marked = over n marked

-- one call, from what its contract says
module _ {L H Dev : Type 0} (event : L → Event H → L → Type 0) (opens : L → H → Result L IoCause → Type 0) (kinds : H → Result Kind IoCause → Type 0)
    (gives : Dev → (c : Call H (Backend L H) (GpuBackend L H)) → Answer c → Dev → Type 0) (old : SessionCore L H) (d : Dev) (new : SessionCore L H) (d' : Dev) (result : Result ⊤ declared.Error) where
  abbrev to_backend : H → Result (Backend L H) Error → Type 0
  to_backend h o = OpensAsBackend opens kinds (endpoint_of old).budget h o

  abbrev to_gpu : H → Result (GpuBackend L H) Error → Type 0
  to_gpu h o = OpensAsGpu opens kinds (endpoint_of old).budget h o

  -- what it is of a session that has ended, and of another
  abbrev pub Ends : Type 0
  Ends = (n : ℤ) → (session_in old).failed ≡ Some n → (result ≡ Err (SocketBroken (Raw n))) × (endpoint_of new ≡ endpoint_of old) × (session_in new ≡ session_in old) × (d' ≡ d)

  abbrev pub Goes : Type 0
  Goes = (session_in old).failed ≡ None → One event gives to_backend to_gpu (endpoint_of old) (session_in old) d result (endpoint_of new) (session_in new) d'

  pub safe-and-total : Ends → Goes → SafeAndTotal event opens kinds gives old d new d' result
  safe-and-total ends goes = record {
    ended = ends;
    poisoned = λ alive c broken. unserved event heard_in allows_handles (λ (t : Session). t.failed) kept_unsent (MeetsRow (fitting gives) to_backend to_gpu) (endpoint_of old) (session_in old) d result (endpoint_of new) (session_in new) d' c broken (goes alive);
    failed = λ alive met. met-fault event heard_in allows_handles (λ (t : Session). t.failed) kept_unsent (MeetsRow (fitting gives) to_backend to_gpu) (endpoint_of old) (session_in old) d result (endpoint_of new) (session_in new) d' (goes alive) met;
    sound = λ none. either ((endpoint_of new).broken ≡ (endpoint_of old).broken) (session_in old) (λ n marked. ap (λ x. x.broken) (ends n marked).1)
        (λ alive. stays-sound event gives to_backend to_gpu (endpoint_of old) (session_in old) d result (endpoint_of new) (session_in new) d' (goes alive) none);
    device = either (CallsAtMostOnce event gives (endpoint_of old) (session_in old) d (session_in new) d') (session_in old) (λ n marked. inr ((ends n marked).3, inl (ends n marked).2))
        (λ alive. called-once event gives to_backend to_gpu (endpoint_of old) (session_in old) d result (endpoint_of new) (session_in new) d' (goes alive));
  }

  pub each-call : Goes → MeetsItsRowOrFails event opens kinds gives old d new d' result
  each-call goes = either (MeetsItsRowOrFails event opens kinds gives old d new d' result) (session_in old) (λ n marked. inr (had_ended n marked))
      (λ alive. meets-alive event gives to_backend to_gpu (endpoint_of old) (session_in old) d result (endpoint_of new) (session_in new) d' alive (goes alive))
