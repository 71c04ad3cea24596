-- What a session tells of a call, and what becomes of it.
use Rattle.std.proofs.Common.{◌≡◌, ◌<◌, ◌≤◌, ℕ, Bool, true, false, List, [], ◌∷◌, ◌++◌, append_assoc, Option, Some, None, Result, Ok, Err, refl, sym, ap, subst, ◌∙◌, arith}
use Rattle.std.specs.Prelude.{⊤, Vec, IfErr, IfSome, is_some, ok_or, if◌then◌else◌}
use Rattle.std.specs.Global.{Global}
use Rattle.vhost_message.specs.declared.error.Error as declared
use Rattle.vhost_message.specs.declared.records.shmem.VhostUserShMemConfig.{VhostUserShMemConfig}
use Rattle.vhost_protocol.specs.Codes.{allows_handles}
use Rattle.vhost_protocol.specs.Session.{Session, heard_in}
use Rattle.vhost_protocol.specs.Settled.{settled}
use Rattle.vhost_protocol.specs.Split.{split}
use Rattle.vhost_protocol.specs.Step.{Outcome, Step}
use Rattle.vhost_protocol.specs.Stream.{Cell}
use Rattle.vhost_link.specs.Ends.{Ends}
use Rattle.vhost_link.specs.Mem.{event}
use Rattle.vhost_link.specs.declared.plain.PlainHandle.{PlainHandle}
use Rattle.vhost_connection.specs.Calls.{HandsOver}
use Rattle.vhost_connection.specs.Memory.{TalksLaw}
use Rattle.vhost_connection.specs.Requests.{Reads, Stops}
use Rattle.vhost_backend_req_handler_core.specs.Beginning.{handles_in, step_of, with_one, with_wanted}
use Rattle.vhost_backend_req_handler_core.specs.Concluding.{ConcludesRow, FollowsFrom, concluded, regions_for, then_of}
use Rattle.vhost_backend_req_handler_core.specs.Fits.{Makes}
use Rattle.vhost_backend_req_handler_core.specs.Settling.{Settles, settled_by}
use Rattle.vhost_backend_req_handler_core.specs.declared.answer.DeviceAnswer.{DeviceAnswer}
use Rattle.vhost_backend_req_handler_core.specs.declared.call.DeviceCall.{DeviceCall}
use Rattle.vhost_backend_req_handler_core.specs.declared.call.DeviceCall.TheVariants as call
use Rattle.vhost_backend_req_handler.specs.Core.{endpoint_of, session_in}
use Rattle.vhost_backend_req_handler.specs.Halves as halves
use Rattle.vhost_backend_req_handler.specs.Halves.{Prepares, beside_then}
use Rattle.vhost_backend_req_handler.specs.Serving.{Finishes, finished, stopped, reply_cells, kept_unsent}
use Rattle.vhost_backend_req_handler.specs.declared.halves.Pending.{Pending}
use Rattle.vhost_backend_req_handler.specs.declared.session_core.SessionCore.{SessionCore}
use Rattle.vhost_c_common.proofs.Hearing.{hears-cut, replies-told}
use Rattle.vhost_c_common.proofs.Wants.{sound}
use Rattle.vhost_c_common.specs.Held.{LetsGo, Released}
use Rattle.vhost_c_common.specs.declared.held.Held.{Held}
use Rattle.vhost_c_common.specs.declared.outgoing.Outgoing.{Outgoing}
use Rattle.vhost_c_common.specs.declared.refusal.Refusal.{Refusal}
use Rattle.vhost_c_common.specs.declared.refusal.Refusal.TheVariants.{Protocol, NothingAsked, OtherCall}
use Rattle.vhost_c_backend.specs.Arguments.{PutsList, PutsNamed}
use Rattle.vhost_c_backend.specs.Calls.{asked_number, call_number}
use Rattle.vhost_c_backend.specs.Replies.{form_in}
use Rattle.vhost_c_backend.specs.Served.{remembers, has_call, missing_of, missing_of_request}
use Rattle.vhost_c_backend.specs.Serving as serving
use Rattle.vhost_c_backend.specs.Serving.{Request, Channel, Display, row, IsCall, IsRead, IsServed, Tells, Puts, Concludes, told, Answers, Replies, done, failed, rejected, IsDue}
use Rattle.vhost_c_backend.specs.declared.replies.Form.{Form}
use Rattle.vhost_c_backend.specs.declared.served.Served.{Served}
use Rattle.vhost_c_backend.proofs.Owning.{owns}

-- ---- options

of-some : {A : Type 0} {P : A → Type 0} (o : Option A) → is_some o ≡ true → IfSome o P → (a : A) × (o ≡ Some a) × P a
of-some None is p = absurd (cc is)
of-some (Some a) is p = (a, refl, p)

some-is : {A : Type 0} (o : Option A) (a : A) → o ≡ Some a → is_some o ≡ true
some-is o a is = ap is_some is

pub not-both : {b : Bool} → b ≡ true → b ≡ false → ⊥
not-both is isnt = cc (sym is ∙ isnt)

-- ---- the call that is to be replied to

-- the file descriptors that are given are those of the message
pub handed : {H : Type 0} (given : Option (Vec H Global)) (hs : List H) → HandsOver given hs → handles_in given ≡ hs
handed None hs is = sym is
handed (Some v) hs (is, some) = is

-- where a message is served there is a call
pub is-there : (s : Served) (m : Request) → IsServed m s → has_call s ≡ true
is-there s m x = some-is s.core.pending x.read.pending x.read.is

-- it is lent
pub lent : (k : SessionCore Ends PlainHandle) (o : Option DeviceCall)
    → ((p : Pending PlainHandle) (m : Request) → k.pending ≡ Some p → Reads k.body.value p.request m → HandsOver p.handles m.handles → IfSome o (λ c. row (session_in k) m ≡ step_of (session_in k) m c))
    → ((p : Pending PlainHandle) (m : Request) → k.pending ≡ Some p → Reads k.body.value p.request m → HandsOver p.handles m.handles → Makes (row (session_in k) m) → is_some o ≡ true)
    → (m : Request) → IsRead m k → (c : DeviceCall) × (o ≡ Some c) × IsCall (session_in k) m c
lent k o is some m x = of-some o (some x.pending m x.is x.reads x.hands (subst (λ (t : Step PlainHandle Channel Display). Makes t) (sym x.prepares.row) x.prepares.makes)) (is x.pending m x.is x.reads x.hands)

-- what is told of it
module _ {A : Type 0} (of : List PlainHandle → DeviceCall → Option A) (s : Served) (hs : List PlainHandle) (outcome : Result A Refusal) where
  pub tells-some : (c : DeviceCall) → ((m : Request) → IsServed m s → (d : DeviceCall) × (Some c ≡ Some d) × IsCall (remembers s) m d) → (has_call s ≡ false → Some c ≡ None) → ((m : Request) → IsServed m s → hs ≡ m.handles)
      → outcome ≡ ok_or (of hs c) OtherCall → Tells of s outcome
  tells-some c one none handles is = record {
    one = λ m x. let d = one m x in let same : c ≡ d.0 = cc d.1 in (d.0, d.2, is ∙ ap (λ xs. ok_or (of xs c) OtherCall) (handles m x) ∙ ap (λ e. ok_or (of m.handles e) OtherCall) same);
    none = λ idle. absurd (cc (none idle));
  }

  pub tells-none : ((m : Request) → IsServed m s → (d : DeviceCall) × (None ≡ Some d) × IsCall (remembers s) m d) → outcome ≡ Err OtherCall → Tells of s outcome
  tells-none one is = record { one = λ m x. absurd (cc (one m x).1); none = λ idle. is }

-- the same of what needs no descriptor
pub tells-plain : {A : Type 0} (of : DeviceCall → Option A) (s : Served) (outcome : Result A Refusal) (c : DeviceCall) → ((m : Request) → IsServed m s → (d : DeviceCall) × (Some c ≡ Some d) × IsCall (remembers s) m d)
    → (has_call s ≡ false → Some c ≡ None) → outcome ≡ ok_or (of c) OtherCall → Tells (λ hs e. of e) s outcome
tells-plain of s outcome c one none is = record {
  one = λ m x. let d = one m x in let same : c ≡ d.0 = cc d.1 in (d.0, d.2, is ∙ ap (λ e. ok_or (of e) OtherCall) same);
  none = λ idle. absurd (cc (none idle));
}

-- where nothing is put, the place is as it was
pub list-kept : {A B : Type 0} (x : Option (List A × B)) (before after : List A) (o : Result (ℕ × B) Refusal) → PutsList x before after o → IfErr o (λ r. after ≡ before)
list-kept x before after (Ok y) puts = tt
list-kept (Some x) before after (Err r) puts = puts.2
list-kept None before after (Err r) puts = puts.1

pub name-kept : (x : Option (List ℕ)) (before after : List ℕ) (o : Result ⊤ Refusal) → PutsNamed x before after o → IfErr o (λ r. after ≡ before)
name-kept x before after (Ok t) puts = tt
name-kept (Some x) before after (Err r) puts = puts.2
name-kept None before after (Err r) puts = puts.1

-- what is put into the room of a place
module _ {A B : Type 0} (puts : List PlainHandle → DeviceCall → List A → List A → Result B Refusal → Type 0) (s : Served) (hs : List PlainHandle) (before after : List A) (outcome : Result B Refusal) where
  pub puts-some : (c : DeviceCall) → ((m : Request) → IsServed m s → (d : DeviceCall) × (Some c ≡ Some d) × IsCall (remembers s) m d) → (has_call s ≡ false → Some c ≡ None) → ((m : Request) → IsServed m s → hs ≡ m.handles)
      → puts hs c before after outcome → IfErr outcome (λ r. after ≡ before) → Puts puts s before after outcome
  puts-some c one none handles is kept = record {
    one = λ m x. let d = one m x in let same : c ≡ d.0 = cc d.1 in (d.0, d.2, subst (λ e. puts m.handles e before after outcome) same (subst (λ xs. puts xs c before after outcome) (handles m x) is));
    none = λ idle. absurd (cc (none idle));
    refused = kept;
  }

  pub puts-none : ((m : Request) → IsServed m s → (d : DeviceCall) × (None ≡ Some d) × IsCall (remembers s) m d) → outcome ≡ Err OtherCall → after ≡ before → Puts puts s before after outcome
  puts-none one is same = record { one = λ m x. absurd (cc (one m x).1); none = λ idle. (is, same); refused = left outcome }
    where
      left : (o : Result B Refusal) → IfErr o (λ r. after ≡ before)
      left (Ok b) = tt
      left (Err r) = same

pub puts-plain : {A B : Type 0} (puts : DeviceCall → List A → List A → Result B Refusal → Type 0) (s : Served) (before after : List A) (outcome : Result B Refusal) (c : DeviceCall)
    → ((m : Request) → IsServed m s → (d : DeviceCall) × (Some c ≡ Some d) × IsCall (remembers s) m d) → (has_call s ≡ false → Some c ≡ None) → puts c before after outcome → IfErr outcome (λ r. after ≡ before) → Puts (λ hs e. puts e) s before after outcome
puts-plain puts s before after outcome c one none is kept = record {
  one = λ m x. let d = one m x in let same : c ≡ d.0 = cc d.1 in (d.0, d.2, subst (λ e. puts e before after outcome) same is);
  none = λ idle. absurd (cc (none idle));
  refused = kept;
}

-- ---- the next request

-- what was begun was read
pub read : (old new : SessionCore Ends PlainHandle) (b : halves.Begins Channel Display event old new) → IsRead b.reads.message new
read old new b = record {
  pending = b.pending;
  is = b.is;
  reads = b.reads.reads;
  hands = b.reads.hands;
  settles = subst {A = Session} (λ t. Settles t b.reads.message b.pending.unanswered) (sym b.session) b.settles;
  prepares = subst {A = Session} (λ t. Prepares Channel Display t b.reads.message b.pending.then new.service.regions) (sym b.session) b.prepares;
  ready = record { broken = b.reads.hears.serves.after; faulted = b.reads.hears.serves.faulted };
}

-- bytes are missing of a request where no call is to be replied to
pub some-missing : (s : Served) → has_call s ≡ false → 0 < missing_of_request s → 0 < missing_of s
some-missing s idle some = subst (λ n. 0 < n) (sym (ap (λ b. if b then 0 else missing_of_request s) idle)) some

-- what a step asks is what its call asks, where it does not refuse
one : (hs : List PlainHandle) (next : PlainHandle → Step PlainHandle Channel Display) (n : ℕ) → ((h : PlainHandle) → asked_number (next h) ≡ n) → Makes (with_one hs next) → asked_number (with_one hs next) ≡ n
one [] next n is makes = absurd makes
one (h ∷ []) next n is makes = is h
one (h ∷ g ∷ hs) next n is makes = absurd makes

wanted : (given : Bool) (hs : List PlainHandle) (next : Option PlainHandle → Step PlainHandle Channel Display) (n : ℕ) → ((h : Option PlainHandle) → asked_number (next h) ≡ n) → Makes (with_wanted given hs next) → asked_number (with_wanted given hs next) ≡ n
wanted true hs next n is makes = one hs (λ h. next (Some h)) n (λ h. is (Some h)) makes
wanted false hs next n is makes = is None

asks : (s : Session) (m : Request) (c : DeviceCall) → Makes (step_of {B = Channel} {G = Display} s m c) → asked_number (step_of {B = Channel} {G = Display} s m c) ≡ call_number c
asks s m (call.SetLogBase l) makes = one m.handles _ 6 (λ h. refl) makes
asks s m (call.SetVringKick i given) makes = wanted given m.handles _ 12 (λ h. refl) makes
asks s m (call.SetVringCall i given) makes = wanted given m.handles _ 13 (λ h. refl) makes
asks s m (call.SetVringErr i given) makes = wanted given m.handles _ 14 (λ h. refl) makes
asks s m call.SetBackendReqFd makes = one m.handles _ 21 (λ h. refl) makes
asks s m call.SetGpuSocket makes = one m.handles _ 33 (λ h. refl) makes
asks s m (call.SetInflightFd area) makes = one m.handles _ 32 (λ h. refl) makes
asks s m (call.AddMemRegion r listens) makes = one m.handles _ 37 (λ h. refl) makes
asks s m (call.SetDeviceStateFd direction phase) makes = one m.handles _ 42 (λ h. refl) makes
asks s m _ makes = refl

-- none are missing where none are of the request
pub is-due : (s : Served) (n : ℕ) → has_call s ≡ false → n ≡ missing_of_request s → n ≤ 0 → IsDue s
is-due s n idle is none =
    let zero : missing_of_request s ≡ 0 = omega arith in
    record { idle = idle; whole = ap (λ b. if b then 0 else missing_of_request s) idle ∙ zero }

pub begins : TalksLaw → (old new : Served) (number : ℕ) (b : halves.Begins Channel Display event old.core new.core) → new.outgoing ≡ old.outgoing → new.incoming.count ≡ 0 → new.inactive ≡ 0 → new.held ≡ old.held
    → ((m : Request) → IsRead m new.core → (d : DeviceCall) × ◌≡◌ {A = Option (ℕ × Form)} (Some (number, new.form)) (Some (call_number d, form_in d)) × IsCall (remembers new) m d) → IsDue old → serving.Begins number old new
begins law old new number b outgoing count inactive held asked due =
    let cut = hears-cut law (split (heard_in (remembers old)) allows_handles) (endpoint_of old.core) (endpoint_of new.core) (Ok b.reads.message) b.reads.hears in
    let x = read old.core new.core b in let d = asked b.reads.message x in
    let both : ◌≡◌ {A = ℕ × Form} (number, new.form) (call_number d.0, form_in d.0) = cc d.1 in
    let makes : Makes (step_of {B = Channel} {G = Display} (remembers new) b.reads.message d.0) =
    subst {A = Step PlainHandle Channel Display} (λ t. Makes t) (sym x.prepares.row ∙ d.2) x.prepares.makes in
    record {
      due = due;
      message = b.reads.message;
      came = cut.0;
      served = record { read = x; call = d.0; makes = d.2; form = ap {A = ℕ × Form} (λ p. p.1) both };
      is_number = ap {A = ℕ × Form} (λ p. p.0) both ∙ sym (asks (remembers new) b.reads.message d.0 makes) ∙ ap {A = Step PlainHandle Channel Display} asked_number (sym d.2) ∙ ap {A = Session} (λ t. asked_number (row t b.reads.message)) b.session;
      memory = b.session;
      queue = ap {A = Outgoing} (λ q. q.link.pending ++ (endpoint_of new.core).link.sent) outgoing ∙ ap (λ xs. old.outgoing.link.pending ++ xs) cut.1;
      nothing_came = count;
      inactive = inactive;
      held = held;
      sound = sound (endpoint_of old.core) (endpoint_of new.core) b.reads.hears.serves;
    }

-- ---- what follows

-- what follows from an answer goes out
pub concludes : TalksLaw → ConcludesRow PlainHandle Channel Display → (m : Request) (a : DeviceAnswer PlainHandle) (old new : Served) (result : Result ⊤ declared.Error)
    → ((p : Pending PlainHandle) → old.core.pending ≡ Some p → Finishes event p.request.code (settled_by p.unanswered (concluded (remembers old) p.request.need_reply (beside_then p.then old.core.service) p.then a)) (endpoint_of old.core) (remembers old) result (endpoint_of new.core) (remembers new))
    → new.outgoing ≡ old.outgoing → IsServed m old → Concludes m old.core.service.shmem a old new result
concludes talks law m a old new result finishes outgoing x =
    by result (subst (λ (q : Outcome PlainHandle). Finishes event x.read.pending.request.code q (endpoint_of old.core) s result (endpoint_of new.core) (remembers new)) (x.read.settles o) (finishes x.read.pending x.read.is))
  where
    s : Session
    s = remembers old

    o : Outcome PlainHandle
    o = concluded s x.read.pending.request.need_reply (beside_then x.read.pending.then old.core.service) x.read.pending.then a

    same : concluded s m.need_reply (beside_then x.read.pending.then old.core.service) (then_of x.read.prepares.call) a ≡ o
    same = sym (ap (λ need. concluded s need (beside_then x.read.pending.then old.core.service) x.read.pending.then a) x.read.reads.need_reply ∙ ap (λ t. concluded s m.need_reply (beside_then x.read.pending.then old.core.service) t a) x.read.prepares.next)

    follows : FollowsFrom {B = Channel} {G = Display} s (beside_then x.read.pending.then old.core.service) a (row s m) o
    follows =
        subst (λ (r : Step PlainHandle Channel Display). FollowsFrom {B = Channel} {G = Display} s (beside_then x.read.pending.then old.core.service) a r o) (sym x.read.prepares.row)
        (subst (λ (q : Outcome PlainHandle). FollowsFrom {B = Channel} {G = Display} s (beside_then x.read.pending.then old.core.service) a (step_of s m x.read.prepares.call) q) same
        (law s m x.read.prepares.call (beside_then x.read.pending.then old.core.service) a x.read.prepares.regions))

    cells : List (Cell PlainHandle)
    cells = reply_cells x.read.pending.request.code (settled s m o).served

    coded : cells ≡ reply_cells m.request (settled s m o).served
    coded = ap (λ r. reply_cells r (settled s m o).served) x.read.reads.code

    by : (r : Result ⊤ declared.Error) → Finishes event x.read.pending.request.code (settled s m o) (endpoint_of old.core) s r (endpoint_of new.core) (remembers new) → Concludes m old.core.service.shmem a old new r
    by r (finished is replies session) = told (regions_for x.read.pending.then old.core.service.regions) o follows is
        (ap {A = Outgoing} (λ q. q.link.pending ++ (endpoint_of new.core).link.sent) outgoing ∙ ap (λ xs. old.outgoing.link.pending ++ xs) ((replies-told talks (endpoint_of old.core) (endpoint_of new.core) cells replies).1 ∙ ap (λ xs. (endpoint_of old.core).link.sent ++ xs) coded)
        ∙ sym (append_assoc old.outgoing.link.pending (endpoint_of old.core).link.sent (reply_cells m.request (settled s m o).served)))
        (replies-told talks (endpoint_of old.core) (endpoint_of new.core) cells replies).0
        session (sound (endpoint_of old.core) (endpoint_of new.core) replies.serves)
        (owns s x.read.pending.request.need_reply (beside_then x.read.pending.then old.core.service) x.read.pending.then a)
    by (Err e) (stopped stops session) = serving.stopped (regions_for x.read.pending.then old.core.service.regions) o follows (subst (λ cs. Stops event (endpoint_of old.core) cs e (endpoint_of new.core)) coded stops) (session ∙ ap (λ r. kept_unsent r s (settled s m o).session) x.read.reads.code)

-- ---- replies

-- nothing became of those that are held
same-ends : (b : Bool) (h : Held) → LetsGo b b h h
same-ends true h = refl
same-ends false h = refl

some-open : (b : Bool) → ¬ (b ≡ false) → b ≡ true
some-open true isnt = refl
some-open false isnt = absurd (isnt refl)

module _ (gives : Form → DeviceAnswer PlainHandle → Type 0) (rejects : Form → Refusal → Type 0) (place : VhostUserShMemConfig) (old : Served) where
  pub by-nothing : ((m : Request) → IsServed m old → (c : DeviceCall) × (None ≡ Some (form_in c)) × IsCall (remembers old) m c) → Answers gives rejects place old (Err NothingAsked) old
  by-nothing one = record { one = λ m x. absurd (cc (one m x).1); none = λ idle. (refl, refl); held = same-ends (has_call old) old.held }

  module _ (f : Form) (one : (m : Request) → IsServed m old → (c : DeviceCall) × (Some f ≡ Some (form_in c)) × IsCall (remembers old) m c) (none : has_call old ≡ false → Some f ≡ None) where
    open-before : has_call old ≡ true
    open-before = some-open (has_call old) (λ idle. cc (none idle))

    pub by-rejection : (r : Refusal) → rejects f r → Answers gives rejects place old (Err r) old
    by-rejection r is = record {
      one = λ m x. let c = one m x in let same : f ≡ form_in c.0 = cc c.1 in rejected (record { call = c.0; makes = c.2; is_rejected = subst (λ g. rejects g r) same is; same = refl });
      none = λ idle. absurd (cc (none idle));
      held = same-ends (has_call old) old.held;
    }

    module _ (new : Served) (a : DeviceAnswer PlainHandle) (given : gives f a) (rest : serving.Rests old new) (released : Released old.held new.held) where
      replies : (result : Result ⊤ declared.Error) → ((m : Request) → IsServed m old → Concludes m place a old new result) → (m : Request) → IsServed m old → Replies m gives place old result new
      replies result concluded m x =
          let c = one m x in let same : f ≡ form_in c.0 = cc c.1 in
          record { call = c.0; makes = c.2; answer = a; is_given = subst (λ g. gives g a) same given; concludes = concluded m x; rest = rest }

      ends : LetsGo (has_call old) (has_call new) old.held new.held
      ends = subst (λ b. LetsGo b (has_call new) old.held new.held) (sym open-before) (subst (λ b. LetsGo true b old.held new.held) (sym rest.idle) released)

      pub by-success : ((m : Request) → IsServed m old → Concludes m place a old new (Ok tt)) → Answers gives rejects place old (Ok tt) new
      by-success concluded = record { one = λ m x. done (replies (Ok tt) concluded m x); none = λ idle. absurd (cc (none idle)); held = ends }

      pub by-failure : (e : declared.Error) → ((m : Request) → IsServed m old → Concludes m place a old new (Err e)) → Answers gives rejects place old (Err (Protocol e)) new
      by-failure e concluded = record { one = λ m x. failed (replies (Err e) concluded m x); none = λ idle. absurd (cc (none idle)); held = ends }

-- a session with other regions of shared memory in their place
abbrev pub placed : Served → VhostUserShMemConfig → Served
placed s config = record s { core = record (s.core) { service = record (s.core.service) { shmem = config } } }

-- they make no difference to what is served
pub concludes-placed : (old new : Served) (config : VhostUserShMemConfig) (core : SessionCore Ends PlainHandle) (a : DeviceAnswer PlainHandle) (result : Result ⊤ declared.Error) → core ≡ (placed old config).core
    → ((m : Request) → IsServed m (record old { core = core }) → Concludes m core.service.shmem a (record old { core = core }) new result) → (m : Request) → IsServed m old → Concludes m config a old new result
concludes-placed old new config core a result is concluded m x =
    again (subst {A = SessionCore Ends PlainHandle} (λ k. (n : Request) → IsServed n (record old { core = k }) → Concludes n k.service.shmem a (record old { core = k }) new result) is concluded m
    (record {
      read = record { pending = x.read.pending; is = x.read.is; reads = x.read.reads; hands = x.read.hands; prepares = x.read.prepares; settles = x.read.settles; ready = x.read.ready };
      call = x.call;
      makes = x.makes;
      form = x.form;
    }))
  where
    again : {r : Result ⊤ declared.Error} → Concludes m config a (placed old config) new r → Concludes m config a old new r
    again (told rs o follows is queue came memory sound own) = told rs o follows is queue came memory sound own
    again (serving.stopped rs o follows stops memory) = serving.stopped rs o follows stops memory
