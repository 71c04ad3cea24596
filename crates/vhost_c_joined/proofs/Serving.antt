-- A session that judges: which answer it takes, and how far it is in a run.
use Rattle.std.proofs.Common.{◌≡◌, ℕ, ℤ, ◌<◌, ◌≤◌, ◌+◌, suc, Bool, true, false, List, [], ◌∷◌, length, drop, get_or, drop-cons, Option, Ok, Err, refl, sym, ap, subst, ◌∙◌, arith}
use Rattle.std.specs.Prelude.{◌==◌, is_some}
use Rattle.std.proofs.lemmas.Bool.Decides.{nat_tests}
use Rattle.std.proofs.lemmas.List.{drop_all}
use Rattle.vhost_protocol.specs.FrontendCall.{FrontendCall}
use Rattle.vhost_protocol.specs.Session.{Session as Memory}
use Rattle.vhost_link.specs.declared.plain.PlainHandle.{PlainHandle}
use Rattle.vhost_backend_req_handler_core.specs.Session.{session_of}
use Rattle.vhost_backend_req_handler.specs.declared.halves.Pending.{Pending}
use Rattle.vhost_backend_req_handler.specs.declared.service.Service.{Service}
use Rattle.vhost_c_common.specs.View.{End}
use Rattle.vhost_c_common.specs.declared.incoming.Incoming.{Incoming}
use Rattle.vhost_c_backend.specs.Calls.{asked_number}
use Rattle.vhost_c_backend.specs.Served as served
use Rattle.vhost_c_backend.specs.Serving.{Begins, Nexts, Request, row}
use Rattle.vhost_c_backend.specs.declared.replies.Reply.{Reply}
use Rattle.vhost_c_backend.specs.declared.replies.Reply.TheVariants as reply
use Rattle.vhost_c_backend.specs.declared.replies.Form.{Form}
use Rattle.vhost_c_backend.specs.declared.served.Served.{Served}
use Rattle.vhost_protocol.specs.Handler.{Meets}
use Rattle.vhost_frontend_core.specs.ValueHalves.{IsProper}
use Rattle.vhost_c_joined.specs.Device.{IsDue, IsMet, IsSized, opens, replies}
use Rattle.vhost_c_joined.specs.Joined.{AreAllowed, AreInStep, HasFds}
use Rattle.vhost_c_joined.specs.Judged.{AreOfRun, AreSeen, FindsRight, Holds, HoldsBases, HoldsConfig, HoldsInflight, IsJudged, IsMessage, IsReady, IsSeen, JudgesBy, ServesAs, Writes, kind_in, told_area, told_bases}
use Rattle.vhost_c_joined.specs.declared.judged.Exchange.{Exchange}
use Rattle.vhost_c_joined.specs.declared.judged.Kind.{Kind}
use Rattle.vhost_c_joined.specs.declared.judged.Kind.TheVariants as kind
use Rattle.vhost_c_frontend.specs.declared.session.Session.{Session}
use Rattle.vhost_c_joined.specs.declared.wire.Halt.{Halt}
use Rattle.vhost_c_joined.specs.declared.wire.Halt.TheVariants as halt

abbrev Kept : Type 0
Kept = Option (Pending PlainHandle) × List ℕ × Service × ℕ × Form

-- ---- the answer

pub number-is : (m : Request) (number : ℕ) (old new : Served) → IsDue m old → Nexts old (Ok number) new → number ≡ asked_number (row (served.remembers old) m)
number-is m number old new due next =
    let b : Begins number old new = next.0 due.goes_on in
    let both : (Ok b.message, served.arrived new) ≡ (Ok m, []) = sym b.came ∙ due.came in
    let same : b.message ≡ m = cc (ap (λ x. x.0) both) in
    b.is_number ∙ ap {A = Request} (λ k. asked_number (row (served.remembers old) k)) same

pub held-as : (number n : ℕ) (k : Kind) (text : List ℕ) (fds : List ℤ) (r : Reply) → number ≡ n → k ≡ kind_in number → Holds k text fds r → Holds (kind_in n) text fds r
held-as number n k text fds r is kind holds = subst (λ x. Holds x text fds r) (kind ∙ ap kind_in is) holds

-- each reply holds one
config-held : (bytes : List ℕ) → (r : Reply) × HoldsConfig bytes r
config-held [] = (reply.Refused, refl)
config-held (b ∷ bytes) = (reply.Config (record { ref_ptr = (0, 0); now = b ∷ bytes }), (refl, omega arith))

bases-held : (bases text : List ℕ) → (r : Reply) × HoldsBases bases text r
bases-held [] text = (_, refl)
bases-held (b ∷ bases) text = (reply.Bases (record { ref_ptr = (0, 0); now = b ∷ bases }), refl)

inflight-held : (text : List ℕ) (fds : List ℤ) → (r : Reply) × HoldsInflight text fds r
inflight-held text [] = (reply.Refused, tt)
inflight-held text (fd ∷ fds) =
    let area = told_area text in
    (reply.Inflight (record { mmap_size = area.mmap_size; mmap_offset = area.mmap_offset; num_queues = area.num_queues; queue_size = area.queue_size }) fd, (refl, refl))

some-held : (k : Kind) (text : List ℕ) (fds : List ℤ) → (r : Reply) × Holds k text fds r
some-held kind.Done text fds = (_, refl)
some-held kind.Number text fds = (_, refl)
some-held kind.Ring text fds = (_, refl)
some-held kind.Bases text fds = bases-held (told_bases text) text
some-held kind.Config text fds = config-held (drop 24 text)
some-held kind.Same text fds = (_, refl)
some-held kind.Fd text fds = (_, refl)
some-held kind.StateFd text fds = (_, refl)
some-held kind.Inflight text fds = inflight-held text fds
some-held kind.Refused text fds = (_, refl)

pub any-held : (m : Request) (old : Served) (text : List ℕ) (fds : List ℤ) → (r : Reply) × Holds (kind_in (asked_number (row (served.remembers old) m))) text fds r
any-held m old text fds = some-held (kind_in (asked_number (row (served.remembers old) m))) text fds

-- ---- the verdict

pub judged-so : (m : Request) (text : List ℕ) (fds : List ℤ) (old mid served' new : Served) (same : Bool) → served.remembers mid ≡ served.remembers old → ServesAs m text fds mid (Ok tt) served' → Writes text fds served' same new → IsJudged m text fds old same new
judged-so m text fds old mid done new same memory s w =
    let met : IsMet m s.reply (served.remembers mid) done = s.serves in
    record {
      reply = s.reply;
      holds = subst {A = Memory} (λ k. Holds (kind_in (asked_number (row k m))) text fds s.reply) memory s.holds;
      outcome = met.outcome;
      meets = subst {A = Memory} (λ k. Meets (replies s.reply) (opens s.reply) (opens s.reply) k tt m met.outcome tt) memory met.meets;
      memory = ap {A = Kept} (λ k. session_of k.2.session) w.hands.rest ∙ met.memory;
      right = λ is. subst (λ cells. IsMessage text fds cells) met.queue (w.right is).0;
      differs = λ is m. w.differs is (subst (λ cells. IsMessage text fds cells) (sym met.queue) m);
      ready = λ is alive. record {
        idle = ap {A = Kept} (λ k. is_some k.0) w.hands.rest ∙ met.idle;
        came = w.hands.came ∙ met.came;
        count = ap {A = Incoming} (λ i. i.count) w.hands.incoming ∙ met.count;
        queue = (w.right is).1;
        goes_on = ap {A = Memory} (λ k. k.failed) (ap {A = Kept} (λ k. session_of k.2.session) w.hands.rest ∙ met.memory) ∙ alive;
        sound = (ap {A = End} (λ e. e.broken) w.hands.end ∙ met.sound.0, ap {A = End} (λ e. e.link.script) w.hands.end ∙ met.sound.1);
      };
    }

pub unserved-so : (m : Request) (text : List ℕ) (fds : List ℤ) (old mid served' new : Served) (h : Halt) → ServesAs m text fds mid (Err h) served' → JudgesBy m text fds old (Err h) new
unserved-so m text fds old mid done new (halt.WantsMemory why) s = s.serves
unserved-so m text fds old mid done new _ s = s.serves

-- ---- how far it is

-- The sessions are in step, the rest of their run is to be judged, and the judge remembers what the backend remembers.
pub record IsAt (bit : Bool) (es : List Exchange) (f' : Session) (b' judge : Served) : Type 0 where
  pub steps : List (FrontendCall PlainHandle × Reply)
  pub front : Session
  pub back : Served
  pub in_step : AreInStep bit front back
  pub allowed : AreAllowed bit steps
  pub seen : AreSeen bit steps es front back f' b'
  pub ready : IsReady judge
  pub memory : served.remembers judge ≡ served.remembers back

pub starts : (bit : Bool) (steps : List (FrontendCall PlainHandle × Reply)) (es : List Exchange) (f f' : Session) (b b' judge : Served) → AreOfRun bit steps es f b f' b' → IsReady judge → served.remembers judge ≡ served.remembers b → IsAt bit es f' b' judge
starts bit steps es f f' b b' judge run ready memory = record { steps = steps; front = f; back = b; in_step = run.in_step; allowed = run.allowed; seen = run.seen; ready = ready; memory = memory }

-- one that is judged
pub record IsNext (bit : Bool) (e : Exchange) (es : List Exchange) (f' : Session) (b' judge : Served) : Type 0 where
  pub call : FrontendCall PlainHandle
  pub reply : Reply
  pub front : Session
  pub back : Served
  pub mid : Session
  pub next : Served
  pub in_step : AreInStep bit front back
  pub proper : IsProper call
  pub given : HasFds call
  pub sized : IsSized reply
  pub seen : IsSeen bit call reply e front back mid next
  pub ready : IsReady judge
  pub memory : served.remembers judge ≡ served.remembers back
  pub later : (new : Served) → IsReady new → served.remembers new ≡ served.remembers next → IsAt bit es f' b' new

pub next-is : (bit : Bool) (e : Exchange) (es : List Exchange) (f' : Session) (b' judge : Served) → IsAt bit (e ∷ es) f' b' judge → IsNext bit e es f' b' judge
next-is bit e es f' b' judge at = by at.steps at.allowed at.seen
  where
    by : (steps : List (FrontendCall PlainHandle × Reply)) → AreAllowed bit steps → AreSeen bit steps (e ∷ es) at.front at.back f' b' → IsNext bit e es f' b' judge
    by [] allowed seen = absurd seen
    by (step ∷ steps) allowed (g, t, one, more) = record {
      call = step.0;
      reply = step.1;
      front = at.front;
      back = at.back;
      mid = g;
      next = t;
      in_step = at.in_step;
      proper = one.proper;
      given = allowed.1;
      sized = allowed.2;
      seen = one;
      ready = at.ready;
      memory = at.memory;
      later = λ new ready memory. record { steps = steps; front = g; back = t; in_step = one.joins.4; allowed = allowed.4; seen = more; ready = ready; memory = memory };
    }

pub ends-right : (bit : Bool) (f' : Session) (b' judge : Served) → IsAt bit [] f' b' judge → FindsRight b' (Ok true) judge
ends-right bit f' b' judge at = by at.steps at.seen
  where
    by : (steps : List (FrontendCall PlainHandle × Reply)) → AreSeen bit steps [] at.front at.back f' b' → FindsRight b' (Ok true) judge
    by [] seen = (refl, at.memory ∙ ap {A = Served} served.remembers (sym seen.1), at.ready)
    by (step ∷ steps) seen = absurd seen

-- no exchange
abbrev pub nothing : Exchange
nothing = record { request = record { ref_ptr = (0, 0); now = [] }; request_fds = record { ref_ptr = (0, 0); now = [] }; reply = record { ref_ptr = (0, 0); now = [] }; reply_fds = record { ref_ptr = (0, 0); now = [] } }

dropped : (es : List Exchange) (i : ℕ) → i < length es → drop i es ≡ get_or es i nothing ∷ drop (i + 1) es
dropped es i within = let next : suc i ≡ i + 1 = omega arith in drop-cons es i nothing within ∙ ap (λ n. get_or es i nothing ∷ drop n es) next

pub next-of : (bit : Bool) (es : List Exchange) (i : ℕ) → i < length es → (f' : Session) (b' judge : Served) → IsAt bit (drop i es) f' b' judge → IsNext bit (get_or es i nothing) (drop (i + 1) es) f' b' judge
next-of bit es i within f' b' judge at = next-is bit (get_or es i nothing) (drop (i + 1) es) f' b' judge (subst (λ xs. IsAt bit xs f' b' judge) (dropped es i within) at)

pub over-right : (bit : Bool) (es : List Exchange) (i : ℕ) → length es ≤ i → (f' : Session) (b' judge : Served) → IsAt bit (drop i es) f' b' judge → FindsRight b' (Ok true) judge
over-right bit es i all f' b' judge at = ends-right bit f' b' judge (subst (λ xs. IsAt bit xs f' b' judge) (drop_all i es all) at)

-- memory was refused
pub any-halt : (b old new : Served) (h : Halt) → FindsRight b (Err h) old → FindsRight b (Err h) new
any-halt b old new (halt.WantsMemory why) x = x
any-halt b old new h x = x

pub same-halt : (b b' new : Served) (h : Halt) → FindsRight b (Err h) new → FindsRight b' (Err h) new
same-halt b b' new (halt.WantsMemory why) wants = wants
same-halt b b' new _ none = none

-- a new session is ready
pub new-ready : (s : Served) → served.IsNew s → IsReady s
new-ready s fresh = record {
  idle = fresh.idle;
  came = fresh.empty.came;
  count = fresh.empty.count;
  queue = fresh.empty.queue;
  goes_on = ap {A = Memory} (λ k. k.failed) fresh.memory;
  sound = (ap {A = End} (λ e. e.broken) fresh.empty.end, ap {A = End} (λ e. e.link.script) fresh.empty.end);
}

-- no bytes
pub empty-of : (xs : List ℕ) → true ≡ (length xs == 0) → xs ≡ []
empty-of [] is = refl
empty-of (x ∷ xs) is = absurd (grind (arith, nat_tests, is))

pub some-of : (xs : List ℕ) → false ≡ (length xs == 0) → ¬ (xs ≡ [])
some-of xs is none = cc (is ∙ ap (λ (ys : List ℕ). length ys == 0) none)
