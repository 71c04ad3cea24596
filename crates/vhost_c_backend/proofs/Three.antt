-- Three requests are served, one after another.
use Rattle.std.proofs.Common.{◌≡◌, ℕ, Bool, true, false, cond, ◌&&◌, List, [], ◌++◌, Option, Some, None, Result, Ok, Err, ◌⊎◌, inl, inr, refl, sym, ap, subst, ◌∙◌, arith}
use Rattle.std.specs.Prelude.{⊤, ◌||◌, not, if◌then◌else◌}
use Rattle.std.specs.Option.{IsSomeAnd}
use Rattle.std.proofs.lemmas.List.{append-nil}
use Rattle.vhost_message.specs.declared.heard_req.HeardReq.{HeardReq}
use Rattle.vhost_message.specs.declared.heard_req.HeardReq.TheVariants.{GET_FEATURES, SET_OWNER, RESET_OWNER}
use Rattle.vhost_message.specs.declared.records.memory.VhostUserMemoryRegion.{VhostUserMemoryRegion}
use Rattle.vhost_message.specs.declared.records.shmem.VhostUserShMemConfig.{VhostUserShMemConfig}
use Rattle.vhost_protocol.specs.Codes.{allows_handles}
use Rattle.vhost_protocol.specs.Error.{Error, BackendInternalError}
use Rattle.vhost_protocol.specs.Served.{Silent, Acknowledged, Replied}
use Rattle.vhost_protocol.specs.Profile.{is_standard}
use Rattle.vhost_protocol.proofs.SettleLaws.{settled-answer}
use Rattle.vhost_protocol.specs.Settled.{awaits_reply, ended, refused_reply, saying, settled}
use Rattle.vhost_protocol.specs.Session.{Session, ack_on, heard_in}
use Rattle.vhost_protocol.specs.Split.{split, split_after, split_body, body_outcome}
use Rattle.vhost_protocol.specs.Step.{Outcome, with_ack}
use Rattle.vhost_protocol.specs.Stream.{Cell, plain}
use Rattle.vhost_protocol.specs.Written.{U64}
use Rattle.vhost_link.specs.declared.plain.PlainHandle.{PlainHandle}
use Rattle.vhost_backend_req_handler_core.specs.Concluding.{Beside, FollowsFrom, done_in, number_in}
use Rattle.vhost_backend_req_handler_core.specs.Session.{session_of}
use Rattle.vhost_backend_req_handler_core.specs.declared.answer.DeviceAnswer.{DeviceAnswer}
use Rattle.vhost_backend_req_handler_core.specs.declared.answer.DeviceAnswer.TheVariants as answer
use Rattle.vhost_protocol.specs.Answered.{with_features}
use Rattle.vhost_backend_req_handler.specs.Calling.{beside}
use Rattle.vhost_backend_req_handler.specs.Serving.{reply_cells}
use Rattle.vhost_backend_req_handler.specs.declared.service.Service.{Service}
use Rattle.vhost_c_common.proofs.Wanting.{comes}
use Rattle.vhost_c_common.specs.ByNumber.{By, none, some}
use Rattle.vhost_c_common.specs.Number.{outcome_number}
use Rattle.vhost_c_common.specs.declared.refusal.Refusal.{Refusal}
use Rattle.vhost_c_backend.specs.Calls.{asked_number}
use Rattle.vhost_c_backend.specs.Replies.{form_in, Gives, Rejects}
use Rattle.vhost_backend_req_handler.specs.declared.halves.Pending.{Pending}
use Rattle.vhost_c_backend.specs.Served.{arrived, new_session, queued, remembers, Receiving}
use Rattle.vhost_c_backend.specs.Serving.{Request, Channel, Display, row, IsServed, Begins, Beginning, Answering, Replying, done, Concludes, told}
use Rattle.vhost_c_backend.specs.Waiting.{IsWaiting, HasRead, bare_request, features_reply}
use Rattle.vhost_c_backend.specs.declared.replies.Form.{Form}
use Rattle.vhost_c_backend.specs.declared.replies.Form.TheVariants as form
use Rattle.vhost_c_backend.specs.declared.replies.Reply.{Reply}
use Rattle.vhost_c_backend.specs.declared.replies.Reply.TheVariants as reply
use Rattle.vhost_c_backend.specs.declared.served.Served.{Served}

never : (r : Refusal) → outcome_number (Err r) ≡ 0 → ⊥
never r zero = grind arith

-- ---- a request comes

-- what a session keeps between two calls
abbrev pub Kept : Type 0
Kept = Option (Pending PlainHandle) × List ℕ × Service × ℕ × Form

module _ (text : List ℕ) (m : Request) (memory : Session) (queue : List (Cell PlainHandle)) (number : ℕ) (is : split (heard_in memory) allows_handles (plain text) ≡ (Ok m, [])) (unmarked : memory.failed ≡ None) where
  read : (s : Served) {n : ℕ} {new : Option Served} → arrived s ≡ plain text → remembers s ≡ memory → queued s ≡ queue → By (Beginning number) (Some s) n new → n ≡ 0 → IsSomeAnd new (HasRead m memory queue number)
  read s came memory-is queue-is (some {s' = t} {outcome = Ok u} begins) zero =
      let b : Begins number s t = begins.0 (ap {A = Session} (λ k. k.failed) memory-is ∙ unmarked) in
      let both : (Ok b.message, arrived t) ≡ (Ok m, []) = sym b.came ∙ ap (λ cells. split (heard_in (remembers s)) allows_handles cells) came ∙ ap {A = Session} (λ k. split (heard_in k) allows_handles (plain text)) memory-is ∙ is in
      let same : b.message ≡ m = cc (ap (λ x. x.0) both) in
      record {
        served = subst {A = Request} (λ k. IsServed k t) same b.served;
        is_number = b.is_number ∙ ap {A = Session} (λ k. asked_number (row k b.message)) memory-is ∙ ap {A = Request} (λ k. asked_number (row memory k)) same;
        waits = record { came = ap (λ x. x.1) both; memory = b.memory ∙ memory-is; queue = b.queue ∙ queue-is };
      }
  read s came memory-is queue-is (some {outcome = Err r} begins) zero = absurd (never r zero)

  pub coming : {old mid new : Option Served} {r n : ℕ} → IsSomeAnd old (IsWaiting memory queue) → By (Receiving text []) old r mid → By (Beginning number) mid n new → r ≡ 0 → n ≡ 0 → IsSomeAnd new (HasRead m memory queue number)
  coming waits none next zero = absurd (cc zero)
  coming waits (some {s = s} {s' = t} {outcome = Ok u} got) next zero =
      read t (comes text (arrived s) (arrived t) waits.came got.0.1)
      (ap {A = Kept} (λ k. session_of k.2.session) got.0.3.rest ∙ waits.memory) (got.0.3.queue ∙ waits.queue) next
  coming waits (some {outcome = Err r} got) next zero = absurd (never r zero)

-- ---- it is replied to

-- This follows from the answer of a reply to a message, and was replied.
record Went (m : Request) (r : Reply) (memory : Session) (queue : List (Cell PlainHandle)) (s : Served) : Type 0 where
  form : Form
  answer : DeviceAnswer PlainHandle
  gives : Gives form r answer
  regions : List VhostUserMemoryRegion
  place : VhostUserShMemConfig
  outcome : Outcome PlainHandle
  follows : FollowsFrom {B = Channel} {G = Display} memory (beside regions place) answer (row memory m) outcome
  fine : (settled memory m outcome).answer ≡ Ok tt
  waits : IsWaiting (settled memory m outcome).session (queue ++ reply_cells m.request (settled memory m outcome).served) s

module _ (m : Request) (r : Reply) (memory : Session) (queue : List (Cell PlainHandle)) where
  concluded : (place : VhostUserShMemConfig) (a : DeviceAnswer PlainHandle) (f : Form) (s t : Served) → IsWaiting memory queue s → Gives f r a → Concludes m place a s t (Ok tt) → Went m r memory queue t
  concluded place a f s t waits gives (told rs o follows is queued-is came-is memory-is sound own) =
      let same : settled (remembers s) m o ≡ settled memory m o = ap {A = Session} (λ k. settled k m o) waits.memory in
      record {
        form = f;
        answer = a;
        gives = gives;
        regions = rs;
        place = place;
        outcome = o;
        follows = subst {A = Session} (λ k. FollowsFrom {B = Channel} {G = Display} k (beside rs place) a (row k m) o) waits.memory follows;
        fine = sym (ap {A = Outcome PlainHandle} (λ q. q.answer) same) ∙ is;
        waits = record {
          came = came-is ∙ waits.came;
          memory = memory-is ∙ ap {A = Outcome PlainHandle} (λ q. q.session) same;
          queue = queued-is ∙ ap (λ cs. cs ++ reply_cells m.request (settled (remembers s) m o).served) waits.queue ∙ ap {A = Outcome PlainHandle} (λ q. queue ++ reply_cells m.request q.served) same;
        };
      }

  replied : (number : ℕ) {n : ℕ} {old new : Option Served} → IsSomeAnd old (HasRead m memory queue number) → By (Answering r) old n new → n ≡ 0 → IsSomeAnd new (Went m r memory queue)
  replied number has none zero = absurd (cc zero)
  replied number has (some {s = s} {s' = t} {outcome = Err e} answers) zero = absurd (never e zero)
  replied number has (some {s = s} {s' = t} {outcome = Ok u} answers) zero = by (answers.one m has.served)
    where
      by : Replying m (λ f a. Gives f r a) (λ f e. Rejects f r e) s.core.service.shmem s (Ok tt) t → Went m r memory queue t
      by (done d) = concluded s.core.service.shmem d.answer (form_in d.call) s t has.waits d.is_given d.concludes

-- ---- these three

-- a message without a body
abbrev pub asks : HeardReq → Request
asks r = record { request = r; reply = false; need_reply = false; body = []; handles = [] }

number-given : (f : Form) (n : ℕ) (a : DeviceAnswer PlainHandle) → Gives f (reply.Number n) a → a ≡ answer.Number (Ok n)
number-given form.Number n a is = is
number-given form.Done n a is = absurd is
number-given form.Ring n a is = absurd is
number-given (form.Table b) n a is = absurd is
number-given (form.Region b) n a is = absurd is
number-given form.Config n a is = absurd is
number-given form.Fd n a is = absurd is
number-given form.StateFd n a is = absurd is
number-given form.Inflight n a is = absurd is
number-given form.Shmem n a is = absurd is

done-given : (f : Form) (a : DeviceAnswer PlainHandle) → Gives f reply.Done a → (done_in a ≡ Ok tt) ⊎ (done_in a ≡ Err BackendInternalError)
done-given form.Done a is = inl (ap {A = DeviceAnswer PlainHandle} done_in is)
done-given (form.Table false) a is = inr (ap {A = DeviceAnswer PlainHandle} done_in is)
done-given (form.Region false) a is = inr (ap {A = DeviceAnswer PlainHandle} done_in is)
done-given (form.Table true) a is = absurd is
done-given (form.Region true) a is = absurd is
done-given form.Number a is = absurd is
done-given form.Ring a is = absurd is
done-given form.Config a is = absurd is
done-given form.Fd a is = absurd is
done-given form.StateFd a is = absurd is
done-given form.Inflight a is = absurd is
done-given form.Shmem a is = absurd is

-- what is remembered once features were offered
abbrev pub offering : ℕ → Session
offering n = record new_session { offered = n }

-- the reply to the request for the features
abbrev pub features_cells : ℕ → List (Cell PlainHandle)
features_cells n = reply_cells GET_FEATURES (Replied (U64 n) [])

pub features-bytes : (n : ℕ) → features_cells n ≡ plain (features_reply n)
features-bytes n = refl

-- what the request becomes where others were offered before
pub features-given : (before n : ℕ) (f : Form) (a : DeviceAnswer PlainHandle) (b : Beside) (o : Outcome PlainHandle) → Gives f (reply.Number n) a → FollowsFrom {B = Channel} {G = Display} (offering before) b a (row (offering before) (asks GET_FEATURES)) o
    → o ≡ with_features (offering before) (Ok n)
features-given before n f a b o gives follows = follows ∙ ap {A = DeviceAnswer PlainHandle} (λ d. with_features (offering before) (number_in d)) (number-given f n a gives)

features-went : (n : ℕ) (s : Served) → Went (asks GET_FEATURES) (reply.Number n) new_session [] s → IsWaiting (offering n) (features_cells n) s
features-went n s w =
    let is : w.outcome ≡ with_features new_session (Ok n) = features-given 0 n w.form w.answer (beside w.regions w.place) w.outcome w.gives w.follows in
    subst {A = Outcome PlainHandle} (λ o. IsWaiting (settled new_session (asks GET_FEATURES) o).session (reply_cells GET_FEATURES (settled new_session (asks GET_FEATURES) o).served) s) is w.waits

both-false : {A : Type 0} (b : Bool) (x y : A) → (if b && false then x else y) ≡ y
both-false true x y = refl
both-false false x y = refl

abbrev agreed : Result ⊤ Error
agreed = Ok tt

-- what a request becomes that the device did, and that no acknowledgement was asked for
done_quietly : Session → Outcome PlainHandle
done_quietly memory = record { answer = agreed; served = Silent; session = memory }

-- it stays so, where it has no reply of its own
settled-quietly : (m : Request) (memory : Session) → m.need_reply ≡ false → awaits_reply memory m ≡ false → settled memory m (done_quietly memory) ≡ done_quietly memory
unfolding done_quietly
settled-quietly m memory unasked plain =
    ap (λ b. cond (is_standard memory.profile && true) (cond (b && not m.reply) (refused_reply m.request m.body o) (cond (false || b) (ended o) (cond (ack_on memory && m.need_reply) (saying o (Acknowledged true)) o))) o) plain
    ∙ ap (λ b. cond (is_standard memory.profile && true) (cond (ack_on memory && b) (saying o (Acknowledged true)) o) o) unasked
    ∙ ap (λ q. cond (is_standard memory.profile && true) q o) (both-false (ack_on memory) (saying o (Acknowledged true)) o)
    ∙ same (is_standard memory.profile && true)
  where
    o : Outcome PlainHandle
    o = record { answer = agreed; served = Silent; session = memory }

    same : (b : Bool) → cond b o o ≡ o
    same true = refl
    same false = refl

quiet : (m : Request) (memory : Session) (queue : List (Cell PlainHandle)) (s : Served) (o : Outcome PlainHandle) (d : Result ⊤ Error) → m.need_reply ≡ false → awaits_reply memory m ≡ false → o ≡ with_ack memory m d → (settled memory m o).answer ≡ Ok tt
    → (d ≡ Ok tt) ⊎ (d ≡ Err BackendInternalError) → IsWaiting (settled memory m o).session (queue ++ reply_cells m.request (settled memory m o).served) s → IsWaiting memory queue s
unfolding done_quietly
quiet m memory queue s o d unasked plain is fine (inl went) waits =
    let silent : (with_ack memory m agreed).served ≡ Silent = ap (λ b. if ack_on memory && b then Acknowledged true else Silent) unasked ∙ both-false (ack_on memory) (Acknowledged true) Silent in
    let same : settled memory m o ≡ done_quietly memory = ap (settled memory m) (is ∙ ap (with_ack memory m) went ∙ ap (λ v. record { answer = agreed; served = v; session = memory }) silent) ∙ settled-quietly m memory unasked plain in
    let at : IsWaiting memory (queue ++ []) s = subst {A = Outcome PlainHandle} (λ q. IsWaiting q.session (queue ++ reply_cells m.request q.served) s) same waits in
    record { came = at.came; memory = at.memory; queue = at.queue ∙ append-nil queue }
quiet m memory queue s o d unasked plain is fine (inr went) waits =
    let wrong : (settled memory m o).answer ≡ Err BackendInternalError = settled-answer PlainHandle memory m o ∙ ap {A = Outcome PlainHandle} (λ q. q.answer) (is ∙ ap (with_ack memory m) went) in absurd (cc (sym fine ∙ wrong))

owner-went : (n : ℕ) (s : Served) → Went (asks SET_OWNER) reply.Done (offering n) (features_cells n) s → IsWaiting (offering n) (features_cells n) s
owner-went n s w = quiet (asks SET_OWNER) (offering n) (features_cells n) s w.outcome (done_in w.answer) refl refl w.follows w.fine (done-given w.form w.answer w.gives) w.waits

reset-went : (n : ℕ) (s : Served) → Went (asks RESET_OWNER) reply.Done (offering n) (features_cells n) s → IsWaiting (offering n) (features_cells n) s
reset-went n s w = quiet (asks RESET_OWNER) (offering n) (features_cells n) s w.outcome (done_in w.answer) refl refl w.follows w.fine (done-given w.form w.answer w.gives) w.waits

pub some-and : {A : Type 0} {P Q : A → Type 0} (o : Option A) → ((a : A) → P a → Q a) → IsSomeAnd o P → IsSomeAnd o Q
some-and (Some a) so p = so a p
some-and None so p = p

pub features-replied : (features number : ℕ) {n : ℕ} {old new : Option Served} → IsSomeAnd old (HasRead (asks GET_FEATURES) new_session [] number) → By (Answering (reply.Number features)) old n new → n ≡ 0 → IsSomeAnd new (IsWaiting (offering features) (features_cells features))
features-replied features number {new = new} has answers zero = some-and new (features-went features) (replied (asks GET_FEATURES) (reply.Number features) new_session [] number has answers zero)

pub owner-replied : (features number : ℕ) {n : ℕ} {old new : Option Served} → IsSomeAnd old (HasRead (asks SET_OWNER) (offering features) (features_cells features) number) → By (Answering reply.Done) old n new → n ≡ 0
    → IsSomeAnd new (IsWaiting (offering features) (features_cells features))
owner-replied features number {new = new} has answers zero = some-and new (owner-went features) (replied (asks SET_OWNER) reply.Done (offering features) (features_cells features) number has answers zero)

pub reset-replied : (features number : ℕ) {n : ℕ} {old new : Option Served} → IsSomeAnd old (HasRead (asks RESET_OWNER) (offering features) (features_cells features) number) → By (Answering reply.Done) old n new → n ≡ 0
    → IsSomeAnd new (IsWaiting (offering features) (features_cells features))
reset-replied features number {new = new} has answers zero = some-and new (reset-went features) (replied (asks RESET_OWNER) reply.Done (offering features) (features_cells features) number has answers zero)

-- the number of what was read
pub numbered : (m : Request) (memory : Session) (queue : List (Cell PlainHandle)) (number : ℕ) (o : Option Served) → IsSomeAnd o (HasRead m memory queue number) → number ≡ asked_number (row memory m)
numbered m memory queue number (Some s) has = has.is_number
numbered m memory queue number None has = absurd has

-- the bytes of each are that message
pub features-splits : split (heard_in new_session) allows_handles (plain (bare_request 1)) ≡ (Ok (asks GET_FEATURES), [])
unfolding split split_after split_body body_outcome
features-splits = refl

pub owner-splits : split (heard_in new_session) allows_handles (plain (bare_request 3)) ≡ (Ok (asks SET_OWNER), [])
unfolding split split_after split_body body_outcome
owner-splits = refl

pub reset-splits : split (heard_in new_session) allows_handles (plain (bare_request 4)) ≡ (Ok (asks RESET_OWNER), [])
unfolding split split_after split_body body_outcome
reset-splits = refl
