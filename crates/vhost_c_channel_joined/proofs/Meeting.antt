-- The request that came is read, and its call is answered; or its row refuses it.
use Rattle.std.proofs.Common.{◌≡◌, ◌<◌, ◌⊎◌, inl, inr, ℕ, Bool, true, false, List, [], ◌++◌, append_assoc, None, Result, Ok, Err, refl, sym, ap, subst, ◌∙◌, arith}
use Rattle.std.specs.Prelude.{⊤, ◌&&◌, is_err, if◌then◌else◌}
use Rattle.vhost_message.specs.BackendReq.{backend_request_of}
use Rattle.vhost_message.specs.declared.backend_req.BackendReq.{BackendReq}
use Rattle.vhost_message.specs.declared.error.Error as declared
use Rattle.vhost_message.specs.declared.error.Error.TheVariants as code
use Rattle.vhost_message.specs.declared.io_error.IoError as io
use Rattle.vhost_protocol.specs.Error.{Error, Cause, InvalidMessage, ReqHandlerError, seen, seen_result}
use Rattle.vhost_protocol.specs.IoError.{IoError, cause, seen_io_result}
use Rattle.vhost_protocol.specs.Reverse.{Calls, ReverseFollows, ReverseMeets, ReverseStep, Server, backend_allows_handles, handed_on, number_back, result_number, reverse_row, with_number}
use Rattle.vhost_protocol.specs.Run as run
use Rattle.vhost_protocol.specs.Served.{Silent, Replied}
use Rattle.vhost_protocol.specs.Split.{Message, split}
use Rattle.vhost_protocol.specs.Stream.{Cell}
use Rattle.vhost_protocol.specs.Written.{U64}
use Rattle.vhost_link.specs.Mem.{event}
use Rattle.vhost_link.specs.declared.plain.PlainHandle.{PlainHandle}
use Rattle.vhost_connection.specs.Memory.{stream, TalksLaw}
use Rattle.vhost_connection.specs.Requests.{Stops}
use Rattle.vhost_connection.specs.Serving.{Handled, Breaks, unread, unanswered}
use Rattle.vhost_frontend_req_handler.specs.Calling.{call_in}
use Rattle.vhost_frontend_req_handler.specs.Core.{endpoint_of, number_cells, server_in}
use Rattle.vhost_frontend_req_handler.specs.Halves.{uncalled}
use Rattle.vhost_frontend_req_handler.specs.Handling.{fitting, kept}
use Rattle.vhost_frontend_req_handler.specs.declared.call.FrontendSideCall.{FrontendSideCall}
use Rattle.vhost_c_common.proofs.Hearing.{hears-cut, replies-told}
use Rattle.vhost_c_common.proofs.Wanting.{is-uncut, wants}
use Rattle.vhost_c_common.proofs.Wants.{halted, sound, troubled}
use Rattle.vhost_c_common.specs.Memory.{WantsMemory}
use Rattle.vhost_c_common.specs.View.{End}
use Rattle.vhost_c_common.specs.declared.incoming.Incoming.{Incoming}
use Rattle.vhost_c_common.specs.declared.refusal.Refusal.{Refusal}
use Rattle.vhost_c_common.specs.declared.refusal.Refusal.TheVariants.{NotReplied, NotYet, Protocol}
use Rattle.vhost_c_channel_joined.specs.Crossing.{IsDue, IsMet, is_want, replies, reply_to}
use Rattle.vhost_c_channel.specs.Serving as serving
use Rattle.vhost_c_channel.specs.Serving.{Answering, Begins, Concludes, Denies, IsServed, Nexts, Replies, Request, concluded, is_handed, stopped, told}
use Rattle.vhost_c_channel.specs.declared.serving.ChannelServer.{ChannelServer}
use Rattle.vhost_c_channel.proofs.Change.{unhanded}
use Rattle.vhost_c_channel_joined.proofs.Messages.{number-from, refused}
use Rattle.vhost_c_channel_joined.proofs.Sending.{want-true}

-- ---- it is read

-- It was read, and its call is to be replied to.
pub record IsOpen (m : Request) (before : Server) (t : ChannelServer) : Type 0 where
  pub call : FrontendSideCall PlainHandle
  pub served : IsServed m call t
  pub memory : serving.remembers t ≡ before
  pub queue : serving.queued t ≡ []
  pub came : serving.arrived t ≡ []
  pub count : t.incoming.count ≡ 0
  pub sound : (endpoint_of t.core).broken ≡ None
  pub uncut : (endpoint_of t.core).link.script ≡ []

pub opened : (m : Request) (number : ℕ) (t t1 : ChannelServer) → IsDue m t → Nexts t (Ok number) t1 → IsOpen m (serving.remembers t) t1
opened m number t t1 due next =
    let b : Begins number t t1 = next due.alive in
    let both : (Ok b.message, serving.arrived t1) ≡ (Ok m, []) = sym b.came ∙ due.came in
    let same : b.message ≡ m = cc (ap (λ x. x.0) both) in
    record {
      call = b.call;
      served = subst {A = Request} (λ k. IsServed k b.call t1) same b.served;
      memory = b.memory;
      queue = b.queue ∙ due.queue;
      came = ap (λ x. x.1) both;
      count = b.nothing_came;
      sound = b.sound.after;
      uncut = b.sound.uncut due.uncut;
    }

-- ---- it is replied to

-- an error that is handed on is the caller's own
handed-error : (e : declared.Error) (c : Cause) → seen e ≡ ReqHandlerError c → is_handed e ≡ true
handed-error (code.ReqHandlerError k) c is = refl
handed-error _ c is = absurd (cc is)

told-fine : (a : Result ℕ IoError) (result : Result ℕ declared.Error) → seen_result result ≡ handed_on a → told result ≡ Ok tt
told-fine a (Ok n) is = refl
told-fine (Ok n) (Err e) is = absurd (cc is)
told-fine (Err x) (Err e) is = ap (λ b. if b then Ok tt else Err (Protocol e)) (handed-error e (cause x) (let same : seen e ≡ ReqHandlerError (cause x) = cc is in same))

pub as-seen : (a : Result ℕ io.IoError) → is_err a ≡ is_err (seen_io_result a)
as-seen (Ok n) = refl
as-seen (Err e) = refl

same-err : (a : Result ℕ IoError) → is_err (handed_on a) ≡ is_err a
same-err (Ok n) = refl
same-err (Err e) = refl

module _ (m : Request) (before : Server) (t t1 : ChannelServer) (open_ : IsOpen m before t) (a : Result ℕ IoError) where
  row : reverse_row before m ≡ Calls (call_in open_.call) (with_number before m)
  row = subst {A = Server} (λ s. reverse_row s m ≡ Calls (call_in open_.call) (with_number s m)) open_.memory open_.served.row

  -- what goes back is the number of the answer, where it is wanted
  cells-are : number_cells (serving.remembers t) open_.served.request a ≡ reply_to m.request (number_back before m a)
  cells-are i = reply_to (open_.served.code i) (if (open_.memory i).reply_ack && open_.served.need_reply i then Replied (U64 (result_number a)) [] else Silent)

  met : (result : Result ℕ declared.Error) → serving.queued t1 ≡ serving.queued t ++ number_cells (serving.remembers t) open_.served.request a → serving.arrived t1 ≡ serving.arrived t
      → ((endpoint_of t1.core).broken ≡ None) × ((endpoint_of t1.core).link.script ≡ []) → Replies open_.served.request a t (Ok tt) t1 → (failed : Bool) → failed ≡ is_err a → IsMet m a before failed t1
  met result queue came stays r failed is = record {
    outcome = with_number before m a;
    follows = subst {A = ReverseStep PlainHandle} (λ x. ReverseFollows (replies a) tt x (with_number before m a) tt) (sym row) (a, refl, refl);
    is_failed = is ∙ sym (same-err a);
    number = number-from before m a r.fits;
    memory = r.memory ∙ open_.memory;
    holds = record {
      queue = queue ∙ ap (λ xs. xs ++ number_cells (serving.remembers t) open_.served.request a) open_.queue ∙ cells-are;
      came = came ∙ open_.came;
      idle = r.idle;
      count = ap (λ (i : Incoming). i.count) r.incoming ∙ open_.count;
      sound = stays.0;
      uncut = stays.1;
    };
  }

  -- a fault is no answer
  stop-told : (e : declared.Error) → Stops event (endpoint_of t.core) (number_cells (serving.remembers t) open_.served.request a) e (endpoint_of t1.core) → told (Err e) ≡ Err (Protocol e)
  stop-told e stops = ap (λ b. if b then Ok tt else Err (Protocol e)) (ap is_handed stops.error ∙ unhanded stops.cause)

  pub replied : (failed : Bool) → failed ≡ is_err a → Answering a t (Ok tt) t1 → IsMet m a before failed t1
  replied failed is answering = by (answering.one m open_.call open_.served)
    where
      by : Replies open_.served.request a t (Ok tt) t1 → IsMet m a before failed t1
      by r = go r.result r.is_told r.concludes
        where
          go : (result : Result ℕ declared.Error) → Ok tt ≡ told result → Concludes open_.served.request a t t1 result → IsMet m a before failed t1
          go result said (concluded fine queue came stays) = met result queue came (stays.after, stays.uncut open_.uncut) r failed is
          go (Err e) said (stopped stops) = absurd (cc (said ∙ stop-told e stops))

  pub unreplied : (why : Refusal) → Answering a t (Err why) t1 → WantsMemory why
  unreplied why answering = by (answering.one m open_.call open_.served)
    where
      by : Replies open_.served.request a t (Err why) t1 → WantsMemory why
      by r = go r.result r.is_told r.concludes
        where
          go : (result : Result ℕ declared.Error) → Err why ≡ told result → Concludes open_.served.request a t t1 result → WantsMemory why
          go result said (concluded fine queue came stays) = absurd (cc (said ∙ told-fine a result fine))
          go (Err e) said (stopped stops) =
              let same : Protocol e ≡ why = cc (sym (said ∙ stop-told e stops)) in
              subst WantsMemory same (wants (endpoint_of t.core) e open_.sound (halted (endpoint_of t.core) (endpoint_of t1.core) _ e stops (is-uncut (endpoint_of t.core) open_.sound open_.uncut)))

-- ---- it was refused

abbrev Met : Server → ⊤ → Message BackendReq PlainHandle → Result ℕ Error → List (Cell PlainHandle) → Server → ⊤ → Type 0
Met = ReverseMeets (fitting uncalled)

invalid : (e : declared.Error) → seen e ≡ InvalidMessage → is_want (Protocol e) ≡ false
invalid code.InvalidMessage is = refl
invalid _ is = absurd (cc is)

module _ (law : TalksLaw) (m : Request) (a : Result ℕ IoError) (t t1 : ChannelServer) (due : IsDue m t) (e : declared.Error) (d : Denies e t t1) where
  abbrev begun : End
  begun = endpoint_of t.core

  abbrev ended : End
  ended = endpoint_of d.mid

  abbrev Handled1 : Type 0
  Handled1 = Handled event (λ (_ : Server). backend_request_of) backend_allows_handles (λ (s : Server). s.failed) kept Met begun (server_in t.core) tt (Err (seen e)) ended (server_in d.mid) tt

  abbrev Breaks1 : Type 0
  Breaks1 = Breaks event (λ (_ : Server). backend_request_of) backend_allows_handles (λ (s : Server). s.failed) kept Met begun (server_in t.core) tt e ended (server_in d.mid) tt

  broke-want : Breaks1 → WantsMemory (Protocol e)
  broke-want (unread part same still) = wants begun e due.sound (troubled begun ended e part.trouble (is-uncut begun due.sound due.uncut))
  broke-want (unanswered n mid hears x) =
      let after = sound begun mid hears.serves in
      wants mid e after.after (halted mid ended x.written e x.stops (is-uncut mid after.after (after.uncut due.uncut)))

  -- it met its row
  record IsRefused : Type 0 where
    met : IsMet m a (serving.remembers t) true t1
    free : is_want (Protocol e) ≡ false

  handled-met : Handled1 → IsRefused
  handled-met h =
      let cut = hears-cut law (split backend_request_of backend_allows_handles) begun h.mid h.heard h.hears in
      let both : (h.heard, stream h.mid) ≡ (Ok m, []) = sym cut.0 ∙ due.came in
      let same : h.heard ≡ Ok m = ap (λ x. x.0) both in
      let met : Met (serving.remembers t) tt m (Err (seen e)) h.written (server_in d.mid) tt =
      subst {A = Result Request Error} (λ x. run.Handles (λ (_ : Server). backend_request_of) backend_allows_handles (λ (s : Server). s.failed) Met (serving.remembers t) tt x (Err (seen e)) h.written (server_in d.mid) tt) same h.handles in
      let by-row = refused a (serving.remembers t) m met.0 met.1 in
      let said : Err (seen e) ≡ Err InvalidMessage = met.2 ∙ by-row.1 in
      let wrote = replies-told law h.mid ended h.written h.replies in
      let out : ended.link.sent ≡ begun.link.sent ++ h.written = wrote.1 ∙ ap (λ cells. cells ++ h.written) cut.1 in
      let last = sound h.mid ended h.replies.serves in
      let first = sound begun h.mid h.hears.serves in
      record {
        met = record {
          outcome = met.0;
          follows = by-row.0;
          is_failed = sym (ap (λ x. is_err x) by-row.1);
          number = by-row.2;
          memory = d.memory ∙ met.4;
          holds = record {
            queue = (λ i. (d.outgoing i).link.pending ++ (d.end i).link.sent) ∙ ap (λ cells. t.outgoing.link.pending ++ cells) out ∙ sym (append_assoc t.outgoing.link.pending begun.link.sent h.written) ∙ ap (λ cells. cells ++ h.written) due.queue ∙ met.3;
            came = ap {A = End} stream d.end;
            idle = d.idle;
            count = d.nothing_came;
            sound = ap {A = End} (λ x. x.broken) d.end ∙ last.after;
            uncut = ap {A = End} (λ x. x.link.script) d.end ∙ last.uncut (first.uncut due.uncut);
          };
        };
        free = invalid e (cc said);
      }

  pub denied-met : is_want (Protocol e) ≡ false → IsMet m a (serving.remembers t) true t1
  denied-met free = by d.refuses
    where
      by : Handled1 ⊎ Breaks1 → IsMet m a (serving.remembers t) true t1
      by (inl h) = (handled-met h).met
      by (inr b) = absurd (cc (sym (want-true (Protocol e) (broke-want b)) ∙ free))

  pub denied-want : is_want (Protocol e) ≡ true → WantsMemory (Protocol e)
  denied-want want = by d.refuses
    where
      by : Handled1 ⊎ Breaks1 → WantsMemory (Protocol e)
      by (inl h) = absurd (cc (sym (handled-met h).free ∙ want))
      by (inr b) = broke-want b

-- there was a whole request
unlikely : (t t1 : ChannelServer) (m : Request) (A : Type 0) → IsDue m t → 0 < serving.missing_of t → A
unlikely t t1 m A due some = absurd (none (subst (λ n. 0 < n) due.whole some))
  where
    none : 0 < 0 → ⊥
    none wrong = omega (arith, wrong)

pub unread-met : TalksLaw → (m : Request) (a : Result ℕ IoError) (t t1 : ChannelServer) (why : Refusal) → IsDue m t → Nexts t (Err why) t1 → is_want why ≡ false → IsMet m a (serving.remembers t) true t1
unread-met law m a t t1 (Protocol e) due next free = denied-met law m a t t1 due e (next due.alive) free
unread-met law m a t t1 NotReplied due next free = absurd (cc (sym due.idle ∙ next.0))
unread-met law m a t t1 NotYet due next free = unlikely t t1 m _ due next.0
unread-met law m a t t1 _ due next free = absurd next

pub unread-want : TalksLaw → (m : Request) (a : Result ℕ IoError) (t t1 : ChannelServer) (why : Refusal) → IsDue m t → Nexts t (Err why) t1 → is_want why ≡ true → WantsMemory why
unread-want law m a t t1 (Protocol e) due next want = denied-want law m a t t1 due e (next due.alive) want
unread-want law m a t t1 NotReplied due next want = absurd (cc (sym due.idle ∙ next.0))
unread-want law m a t t1 NotYet due next want = unlikely t t1 m _ due next.0
unread-want law m a t t1 _ due next want = absurd next
