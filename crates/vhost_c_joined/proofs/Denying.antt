-- A request that came is read, or refused by its row.
use Rattle.std.proofs.Common.{◌≡◌, ◌⊎◌, ◌<◌, inl, inr, ℕ, Bool, true, false, List, [], ◌++◌, append_assoc, None, Result, Ok, Err, refl, sym, ap, subst, ◌∙◌, arith}
use Rattle.std.specs.Prelude.{⊤}
use Rattle.vhost_message.specs.declared.error.Error as declared
use Rattle.vhost_message.specs.declared.heard_req.HeardReq.{HeardReq}
use Rattle.vhost_protocol.specs.Codes.{allows_handles}
use Rattle.vhost_protocol.specs.Error.{Error, seen}
use Rattle.vhost_protocol.specs.Handler.{Follows, MeetsRow}
use Rattle.vhost_protocol.specs.Run as run
use Rattle.vhost_protocol.specs.Session.{Session, heard_in}
use Rattle.vhost_protocol.specs.Split.{Message, split}
use Rattle.vhost_protocol.specs.Step.{Outcome, Step, Refused, Calls, OpensBackend, OpensGpu}
use Rattle.vhost_protocol.specs.Stream.{Cell}
use Rattle.vhost_link.specs.Mem.{event}
use Rattle.vhost_link.specs.declared.plain.PlainHandle.{PlainHandle}
use Rattle.vhost_connection.specs.Memory.{stream, TalksLaw}
use Rattle.vhost_connection.specs.Serving.{Handled, Breaks, unread, unanswered}
use Rattle.vhost_connection.specs.Talk.{Trouble, First, was_broken, no_memory, fault}
use Rattle.vhost_backend_req_handler.specs.Core.{endpoint_of, session_in}
use Rattle.vhost_backend_req_handler.specs.Halves.{uncalled, unopened}
use Rattle.vhost_backend_req_handler.specs.Serving.{fitting, kept_unsent}
use Rattle.vhost_c_common.proofs.Hearing.{hears-cut, replies-told}
use Rattle.vhost_c_common.proofs.Wants.{sound}
use Rattle.vhost_c_common.specs.View.{End}
use Rattle.vhost_c_common.specs.declared.refusal.Refusal.{Refusal}
use Rattle.vhost_c_common.specs.declared.refusal.Refusal.TheVariants.{Protocol, NotReplied, NotYet}
use Rattle.vhost_c_backend.specs.Served as served
use Rattle.vhost_c_backend.specs.Serving.{Request, Channel, Display, row, Begins, Denies, Nexts, IsServed}
use Rattle.vhost_c_backend.specs.declared.replies.Reply.{Reply}
use Rattle.vhost_c_backend.specs.declared.served.Served.{Served}
use Rattle.vhost_c_joined.specs.Device.{replies, opens, is_want, halted, IsDue, IsOpen, IsMet, Serves}
use Rattle.vhost_c_joined.proofs.Answering.{unless}
use Rattle.vhost_c_joined.proofs.Lasting.{fell-cause, cause-want, stop-want}

-- ---- it was read

pub opened : (m : Request) (number : ℕ) (old new : Served) → IsDue m old → Nexts old (Ok number) new → IsOpen m new × (served.remembers new ≡ served.remembers old)
opened m number old new due next =
    let b : Begins number old new = next.0 due.goes_on in
    let both : (Ok b.message, served.arrived new) ≡ (Ok m, []) = sym b.came ∙ due.came in
    let same : b.message ≡ m = cc (ap (λ x. x.0) both) in (
      record {
        read = subst {A = Request} (λ k. IsServed k new) same b.served;
        came = ap (λ x. x.1) both;
        count = b.nothing_came;
        queue = b.queue ∙ due.queue;
        sound = (b.sound.after, b.sound.uncut due.sound.1);
      },
      b.memory,
    )

-- ---- it was refused

abbrev Met : Session → ⊤ → Message HeardReq PlainHandle → Result ⊤ Error → List (Cell PlainHandle) → Session → ⊤ → Type 0
Met = MeetsRow (fitting (uncalled Channel Display)) (unopened Channel Display) (unopened Channel Display)

-- a device that is never called may answer by any reply
refused-by : (r : Reply) (s : Session) (x : Step PlainHandle Channel Display) (o : Outcome PlainHandle) → Follows (fitting (uncalled Channel Display)) (unopened Channel Display) (unopened Channel Display) s tt x o tt → Follows (replies r) (opens r) (opens r) s tt x o tt
refused-by r s (Refused refusal) o f = f
refused-by r s (Calls c next) o f = absurd f.1.0
refused-by r s (OpensBackend h next) o f = absurd f.1
refused-by r s (OpensGpu h next) o f = absurd f.1

trouble-want : (old new : End) {limit : ℕ} {breaks : Bool} {move : _} (e : declared.Error) → Trouble event old limit First breaks move e new → old.broken ≡ None → old.link.script ≡ [] → is_want (Protocol e) ≡ true
trouble-want old new _ (was_broken is none same) sound uncut = absurd (cc (sym sound ∙ is))
trouble-want old new _ (no_memory grows first away none same) sound uncut = refl
trouble-want old new _ (fault c unbroken fell failures retries limit broken faulted rest) sound uncut = cause-want c (fell-cause old new _ c fell uncut)

module _ (law : TalksLaw) (m : Request) (r : Reply) (old new : Served) (due : IsDue m old) (e : declared.Error) (d : Denies e old new) where
  abbrev begun : End
  begun = endpoint_of old.core

  abbrev ended : End
  ended = endpoint_of d.mid

  abbrev Handled1 : Type 0
  Handled1 = Handled event heard_in allows_handles (λ (t : Session). t.failed) kept_unsent Met begun (session_in old.core) tt (Err (seen e)) ended (session_in d.mid) tt

  abbrev Breaks1 : Type 0
  Breaks1 = Breaks event heard_in allows_handles (λ (t : Session). t.failed) kept_unsent Met begun (session_in old.core) tt e ended (session_in d.mid) tt

  broke-want : Breaks1 → is_want (Protocol e) ≡ true
  broke-want (unread p same device) = trouble-want begun ended e p.trouble due.sound.0 due.sound.1
  broke-want (unanswered k mid hears i) = stop-want mid ended i.written e i.stops ((sound begun mid hears.serves).uncut due.sound.1)

  handled-met : Handled1 → IsMet m r (served.remembers old) new
  handled-met h =
      let cut = hears-cut law (split (heard_in (served.remembers old)) allows_handles) begun h.mid h.heard h.hears in
      let both : (h.heard, stream h.mid) ≡ (Ok m, []) = sym cut.0 ∙ due.came in
      let same : h.heard ≡ Ok m = ap (λ x. x.0) both in
      let met : Met (served.remembers old) tt m (Err (seen e)) h.written (session_in d.mid) tt =
      subst {A = Result Request Error} (λ x. run.Handles heard_in allows_handles (λ (t : Session). t.failed) Met (served.remembers old) tt x (Err (seen e)) h.written (session_in d.mid) tt) same h.handles in
      let told = replies-told law h.mid ended h.written h.replies in
      let sent : ended.link.sent ≡ begun.link.sent ++ h.written = told.1 ∙ ap (λ cells. cells ++ h.written) cut.1 in
      let last = sound h.mid ended h.replies.serves in
      let first = sound begun h.mid h.hears.serves in
      record {
        outcome = met.0;
        meets = (met.1.0, refused-by r (served.remembers old) (row (served.remembers old) m) met.1.0 met.1.1, met.1.2);
        memory = d.memory ∙ met.4;
        queue = (λ i. (d.outgoing i).link.pending ++ (d.end i).link.sent) ∙ ap (λ cells. old.outgoing.link.pending ++ cells) sent ∙ sym (append_assoc old.outgoing.link.pending begun.link.sent h.written) ∙ ap (λ cells. cells ++ h.written) due.queue ∙ met.3;
        came = ap {A = End} stream d.end;
        idle = d.idle;
        count = d.nothing_came;
        sound = (ap {A = End} (λ x. x.broken) d.end ∙ last.after, ap {A = End} (λ x. x.link.script) d.end ∙ last.uncut (first.uncut due.sound.1));
      }

  denied-met : is_want (Protocol e) ≡ false → IsMet m r (served.remembers old) new
  denied-met free = by d.refuses
    where
      by : Handled1 ⊎ Breaks1 → IsMet m r (served.remembers old) new
      by (inl h) = handled-met h
      by (inr b) = absurd (cc (sym (broke-want b) ∙ free))

pub denied : TalksLaw → (m : Request) (r : Reply) (old new : Served) (why : Refusal) → IsDue m old → Nexts old (Err why) new → Serves m r (served.remembers old) (halted (λ w. tt) why) new
denied law m r old new (Protocol e) due next = unless m r (served.remembers old) new (Protocol e) (denied-met law m r old new due e (next.0 due.goes_on))
denied law m r old new NotReplied due next = absurd (cc (sym due.idle ∙ next.0))
denied law m r old new NotYet due next = absurd (none (subst (λ n. 0 < n) due.whole next.0))
  where
    none : 0 < 0 → ⊥
    none wrong = omega (arith, wrong)
denied law m r old new _ due next = absurd next
