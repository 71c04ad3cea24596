-- Features are offered as often as they are asked for, where memory is found.
use Rattle.std.proofs.Common.{◌≡◌, ◌+◌, ℕ, suc, true, false, List, [], ◌++◌, None, Result, Ok, Err, refl, sym, ap, subst, ◌∙◌, append_assoc, arith}
use Rattle.std.specs.Prelude.{⊤, is_some, if◌then◌else◌}
use Rattle.std.proofs.lemmas.List.{append-nil}
use Rattle.vhost_message.specs.declared.error.Error as declared
use Rattle.vhost_message.specs.declared.error.Error.TheVariants.{InvalidParam, OutOfMemory}
use Rattle.vhost_message.specs.declared.heard_req.HeardReq.TheVariants.{GET_FEATURES}
use Rattle.vhost_message.specs.declared.records.memory.VhostUserMemoryRegion.{VhostUserMemoryRegion}
use Rattle.vhost_message.specs.declared.records.shmem.VhostUserShMemConfig.{VhostUserShMemConfig}
use Rattle.vhost_protocol.specs.Answered.{with_features}
use Rattle.vhost_protocol.specs.Codes.{allows_handles}
use Rattle.vhost_protocol.specs.Error.{Error}
use Rattle.vhost_protocol.specs.Handler.{MeetsRow}
use Rattle.vhost_protocol.specs.Session.{Session, heard_in}
use Rattle.vhost_protocol.specs.Settled.{settled}
use Rattle.vhost_protocol.specs.Split.{split}
use Rattle.vhost_protocol.specs.Step.{Outcome, Step}
use Rattle.vhost_protocol.specs.Stream.{Cell, plain}
use Rattle.vhost_link.specs.declared.plain.PlainHandle.{PlainHandle}
use Rattle.vhost_connection.specs.Memory.{TalksLaw}
use Rattle.vhost_backend_req_handler_core.specs.Beginning.{step_of}
use Rattle.vhost_backend_req_handler_core.specs.Concluding.{FollowsFrom}
use Rattle.vhost_backend_req_handler_core.specs.Session.{session_of}
use Rattle.vhost_backend_req_handler_core.specs.declared.answer.DeviceAnswer.{DeviceAnswer}
use Rattle.vhost_backend_req_handler_core.specs.declared.call.DeviceCall.{DeviceCall}
use Rattle.vhost_backend_req_handler_core.specs.declared.call.DeviceCall.TheVariants as call
use Rattle.vhost_backend_req_handler.specs.Calling.{beside}
use Rattle.vhost_backend_req_handler.specs.Core.{endpoint_of}
use Rattle.vhost_backend_req_handler.specs.Halves.{uncalled, unopened}
use Rattle.vhost_backend_req_handler.specs.Serving.{fitting, kept_unsent, reply_cells}
use Rattle.vhost_c_common.proofs.Wanting.{comes, is-uncut, none-missing, refused-wants, untaken, wants}
use Rattle.vhost_c_common.proofs.Wants.{halted}
use Rattle.vhost_c_common.specs.Incoming.{missing_by}
use Rattle.vhost_c_common.specs.Memory.{WantsMemory}
use Rattle.vhost_c_common.specs.View.{End, Receives, TakesNone}
use Rattle.vhost_c_common.specs.declared.incoming.Incoming.{Incoming}
use Rattle.vhost_c_common.specs.declared.refusal.Refusal.{Refusal}
use Rattle.vhost_c_common.specs.declared.refusal.Refusal.TheVariants.{NotReplied, NotYet, OtherCall, Protocol}
use Rattle.vhost_c_backend.proofs.Three.{Kept, asks, features-given, features-splits, offering}
use Rattle.vhost_c_backend.specs.Calls.{asked_number}
use Rattle.vhost_c_backend.specs.Clients.{IsOffering, Offers, offer, offers}
use Rattle.vhost_c_backend.specs.Replies.{Gives, Rejects, fits, form_in}
use Rattle.vhost_c_backend.specs.Served.{IsNew, arrived, has_call, missing_of, queued, remembers, view}
use Rattle.vhost_c_backend.specs.Serving as serving
use Rattle.vhost_c_backend.specs.Serving.{Answering, Begins, Channel, Concludes, Denies, Display, IsServed, Nexts, Replies, Replying, Request, Stays, row, done, failed, rejected, told}
use Rattle.vhost_c_backend.specs.Waiting.{bare_request}
use Rattle.vhost_c_backend.specs.declared.replies.Form.{Form}
use Rattle.vhost_c_backend.specs.declared.replies.Form.TheVariants as form
use Rattle.vhost_c_backend.specs.declared.replies.Reply.TheVariants as reply
use Rattle.vhost_c_backend.specs.declared.served.Served.{Served}

-- the request, and its bytes
abbrev asked : Request
asked = asks GET_FEATURES

abbrev request : List ℕ
request = bare_request 1

-- ---- a request comes

-- It came whole, and is still to be read; these were offered before.
pub record HasCome (before : ℕ) (cells : List (Cell PlainHandle)) (s : Served) : Type 0 where
  pub queue : queued s ≡ cells
  pub came : arrived s ≡ plain request
  pub idle : has_call s ≡ false
  pub whole : missing_of s ≡ 0
  pub memory : remembers s ≡ offering before
  pub sound : (endpoint_of s.core).broken ≡ None
  pub uncut : (endpoint_of s.core).link.script ≡ []

module _ (cells : List (Cell PlainHandle)) (s : Served) (is : IsOffering cells s) where
  -- all of it was missing
  missing : missing_of s ≡ 12
  missing = rw (is.idle, is.count) refl

  pub untold : (r : Refusal) → TakesNone (missing_of s) request [] r → WantsMemory r
  untold r none = untaken (missing_of s) request r (omega (arith, missing)) (omega arith) none

  pub taken : (t : Served) → Receives (missing_of s) request [] (view s) (Ok tt) (view t) → HasCome is.offered cells t
  taken t got =
      let quiet : has_call t ≡ false = ap {A = Kept} (λ k. is_some k.0) got.3.rest ∙ is.idle in
      record {
        queue = got.3.queue ∙ is.queue;
        came = comes request (arrived s) (arrived t) is.came got.1;
        idle = quiet;
        whole = ap (λ b. if b then 0 else missing_by (heard_in (remembers t)) t.incoming) quiet ∙ none-missing (heard_in (remembers t)) request s.incoming t.incoming is.count got.2 refl refl (λ rest. refl);
        memory = ap {A = Kept} (λ k. session_of k.2.session) got.3.rest ∙ is.memory;
        sound = ap {A = End} (λ e. e.broken) got.3.end ∙ is.sound;
        uncut = ap {A = End} (λ e. e.link.script) got.3.end ∙ is.uncut;
      }

-- ---- it is read

-- its bytes are the message, whatever was offered before
whole : (before : ℕ) (s : Session) (cells : List (Cell PlainHandle)) → s ≡ offering before → cells ≡ plain request → split (heard_in s) allows_handles cells ≡ (Ok asked, [])
whole before s cells kept is = ap (λ xs. split (heard_in s) allows_handles xs) is ∙ ap {A = Session} (λ k. split (heard_in k) allows_handles (plain request)) kept ∙ features-splits

-- It was read, and its call is to be replied to.
pub record HasRead (before : ℕ) (cells : List (Cell PlainHandle)) (s : Served) : Type 0 where
  pub served : IsServed asked s
  pub queue : queued s ≡ cells
  pub came : arrived s ≡ []
  pub count : s.incoming.count ≡ 0
  pub memory : remembers s ≡ offering before
  pub sound : (endpoint_of s.core).broken ≡ None
  pub uncut : (endpoint_of s.core).link.script ≡ []

pub read : (before : ℕ) (cells : List (Cell PlainHandle)) (number : ℕ) (s t : Served) → HasCome before cells s → Nexts s (Ok number) t → HasRead before cells t × (number ≡ 1)
read before cells number s t has begins =
    let b : Begins number s t = begins.0 (ap {A = Session} (λ k. k.failed) has.memory) in
    let both : (Ok b.message, arrived t) ≡ (Ok asked, []) = sym b.came ∙ whole before (remembers s) (arrived s) has.memory has.came in
    let same : b.message ≡ asked = cc (ap (λ x. x.0) both) in (
      record {
        served = subst {A = Request} (λ k. IsServed k t) same b.served;
        queue = b.queue ∙ has.queue;
        came = ap (λ x. x.1) both;
        count = b.nothing_came;
        memory = b.memory ∙ has.memory;
        sound = b.sound.after;
        uncut = b.sound.uncut has.uncut;
      },
      b.is_number ∙ ap {A = Session} (λ k. asked_number (row k b.message)) has.memory ∙ ap {A = Request} (λ k. asked_number (row (offering before) k)) same,
    )

-- ---- it was not

-- its row, of a device that is never called
abbrev Meets : Session → ⊤ → Request → Result ⊤ Error → List (Cell PlainHandle) → Session → ⊤ → Type 0
Meets = MeetsRow (fitting (uncalled Channel Display)) (unopened Channel Display) (unopened Channel Display)

pub unread-wants : TalksLaw → (before : ℕ) (cells : List (Cell PlainHandle)) (s t : Served) (r : Refusal) → HasCome before cells s → Nexts s (Err r) t → WantsMemory r
unread-wants law before cells s t (Protocol e) has denies =
    let d : Denies e s t = denies.0 (ap {A = Session} (λ k. k.failed) has.memory) in
    refused-wants heard_in allows_handles (λ (k : Session). k.failed) kept_unsent Meets asked (remembers s) tt
    (λ answer written s' d' met. (subst {A = Session} (λ k. Meets k tt asked answer written s' d') has.memory met).1.1.1.0)
    law (endpoint_of s.core) (whole before (remembers s) (arrived s) has.memory has.came) has.sound has.uncut (endpoint_of d.mid) _ tt e d.refuses
unread-wants law before cells s t NotReplied has (busy, same) = absurd (cc (sym busy ∙ has.idle))
unread-wants law before cells s t NotYet has (more, same) = absurd (omega (arith, more, has.whole))
unread-wants law before cells s t _ has denies = absurd denies

-- ---- it is replied to

-- its call is replied to by a number
numbered : (before : ℕ) (c : DeviceCall) → 1 ≡ asked_number (step_of {B = Channel} {G = Display} (offering before) asked c) → form_in c ≡ form.Number
numbered before call.GetFeatures is = refl
numbered before call.GetProtocolFeatures is = refl
numbered before call.GetQueueNum is = refl
numbered before call.GetMaxMemSlots is = refl
numbered before (call.SetVringKick i true) is = absurd (omega (arith, is))
numbered before (call.SetVringKick i false) is = absurd (omega (arith, is))
numbered before (call.SetVringCall i true) is = absurd (omega (arith, is))
numbered before (call.SetVringCall i false) is = absurd (omega (arith, is))
numbered before (call.SetVringErr i true) is = absurd (omega (arith, is))
numbered before (call.SetVringErr i false) is = absurd (omega (arith, is))
numbered before _ is = absurd (omega (arith, is))

unfit : (f : Form) (n : ℕ) → f ≡ form.Number → fits f (reply.Number n) ≡ false → ⊥
unfit f n is none = cc (sym (ap (λ g. fits g (reply.Number n)) is) ∙ none)

rejects : (f : Form) (n : ℕ) (r : Refusal) → f ≡ form.Number → Rejects f (reply.Number n) r → WantsMemory r
rejects f n OtherCall is why = absurd (unfit f n is why)
rejects f n (Protocol OutOfMemory) is why = tt
rejects f n (Protocol InvalidParam) is why = absurd why.1
rejects f n _ is why = absurd why

module _ (before n : ℕ) (cells : List (Cell PlainHandle)) (s t : Served) (x : HasRead before cells s) where
  module _ (place : VhostUserShMemConfig) (a : DeviceAnswer PlainHandle) (f : Form) (gives : Gives f (reply.Number n) a) (idle : has_call t ≡ false) (incoming : t.incoming ≡ s.incoming) where
    -- what follows is the table's
    becomes : (rs : List VhostUserMemoryRegion) (o : Outcome PlainHandle) → FollowsFrom {B = Channel} {G = Display} (remembers s) (beside rs place) a (row (remembers s) asked) o → settled (remembers s) asked o ≡ with_features (offering before) (Ok n)
    becomes rs o follows =
        let is : o ≡ with_features (offering before) (Ok n) =
        features-given before n f a (beside rs place) o gives (subst {A = Session} (λ k. FollowsFrom {B = Channel} {G = Display} k (beside rs place) a (row k asked) o) x.memory follows) in
        (λ i. settled (x.memory i) asked (is i))

    replied : (result : Result ⊤ declared.Error) → Concludes asked place a s t result → Offers (cells ++ offer n) (elim result as (λ r. Result ⊤ Refusal) [ Ok u ↦ Ok tt | Err e ↦ Err (Protocol e) ]) t
    replied (Ok u) (told rs o follows is queue came memory sound own) = record {
      queue = queue ∙ (λ i. x.queue i ++ reply_cells GET_FEATURES (becomes rs o follows i).served);
      came = came ∙ x.came;
      count = ap (λ (i : Incoming). i.count) incoming ∙ x.count;
      idle = idle;
      offered = n;
      memory = memory ∙ ap {A = Outcome PlainHandle} (λ q. q.session) (becomes rs o follows);
      sound = sound.after;
      uncut = sound.uncut x.uncut;
    }
    replied (Err e) (told rs o follows is queue came memory sound own) = absurd (cc (sym (ap {A = Outcome PlainHandle} (λ q. q.answer) (becomes rs o follows)) ∙ is))
    replied (Err e) (serving.stopped rs o follows stops memory) = wants (endpoint_of s.core) e x.sound (halted (endpoint_of s.core) (endpoint_of t.core) _ e stops (is-uncut (endpoint_of s.core) x.sound x.uncut))

  offered-by : (outcome : Result ⊤ Refusal) → Replying asked (λ f a. Gives f (reply.Number n) a) (λ f r. Rejects f (reply.Number n) r) s.core.service.shmem s outcome t → Offers (cells ++ offer n) outcome t
  offered-by _ (done r) = replied s.core.service.shmem r.answer (form_in r.call) r.is_given r.rest.idle r.rest.incoming (Ok tt) r.concludes
  offered-by _ (failed {e = e} r) = replied s.core.service.shmem r.answer (form_in r.call) r.is_given r.rest.idle r.rest.incoming (Err e) r.concludes
  offered-by _ (rejected {r = r} stays) =
      let made : row (offering before) asked ≡ step_of (offering before) asked stays.call = subst {A = Session} (λ k. row k asked ≡ step_of k asked stays.call) x.memory stays.makes in
      rejects (form_in stays.call) n r (numbered before stays.call (ap {A = Step PlainHandle Channel Display} asked_number made)) stays.is_rejected

  pub offered : (outcome : Result ⊤ Refusal) → Answering (reply.Number n) s outcome t → Offers (cells ++ offer n) outcome t
  offered outcome answers = offered-by outcome (answers.one asked x.served)

-- ---- so often

pub first : (n : ℕ) (cells : List (Cell PlainHandle)) (s : Served) → IsOffering cells s → IsOffering (cells ++ offers n 0) s
first n cells s is = subst (λ xs. IsOffering xs s) (sym (append-nil cells)) is

pub more : (n : ℕ) (cells : List (Cell PlainHandle)) (k : ℕ) (s : Served) → IsOffering ((cells ++ offers n k) ++ offer n) s → IsOffering (cells ++ offers n (k + 1)) s
more n cells k s is =
    let next : suc k ≡ k + 1 = omega arith in
    subst (λ xs. IsOffering xs s) (append_assoc cells (offers n k) (offer n) ∙ ap (λ j. cells ++ offers n j) next) is

-- a new session
pub begins : (s : Served) → IsNew s → IsOffering [] s
begins s fresh = record {
  queue = fresh.empty.queue;
  came = fresh.empty.came;
  count = fresh.empty.count;
  idle = fresh.idle;
  offered = 0;
  memory = fresh.memory;
  sound = ap {A = End} (λ e. e.broken) fresh.empty.end;
  uncut = ap {A = End} (λ e. e.link.script) fresh.empty.end;
}
