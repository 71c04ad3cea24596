-- Changes of the configuration space are heard of, where memory is found.
use Rattle.std.proofs.Common.{◌≡◌, ◌+◌, ℕ, suc, Bool, true, false, List, [], ◌++◌, Option, None, Result, Ok, Err, refl, sym, ap, subst, ◌∙◌, append_assoc, arith}
use Rattle.std.specs.Prelude.{⊤, is_some, if◌then◌else◌}
use Rattle.std.proofs.lemmas.List.{append-nil}
use Rattle.vhost_message.specs.BackendReq.{backend_request_of}
use Rattle.vhost_message.specs.declared.backend_req.BackendReq.{BackendReq}
use Rattle.vhost_message.specs.declared.error.Error as declared
use Rattle.vhost_protocol.specs.Reverse.{ReverseMeets, Server, backend_allows_handles}
use Rattle.vhost_protocol.specs.Split.{split}
use Rattle.vhost_protocol.specs.Stream.{Cell, plain}
use Rattle.vhost_link.specs.Ends.{Ends}
use Rattle.vhost_link.specs.declared.plain.PlainHandle.{PlainHandle}
use Rattle.vhost_connection.specs.Memory.{TalksLaw, stream}
use Rattle.vhost_connection.specs.Talk.{State}
use Rattle.vhost_connection.specs.declared.request.Request as code
use Rattle.vhost_frontend_req_handler.specs.Core.{endpoint_of, number_cells}
use Rattle.vhost_frontend_req_handler.specs.Halves.{uncalled}
use Rattle.vhost_frontend_req_handler.specs.Handling.{fitting, kept}
use Rattle.vhost_frontend_req_handler.specs.declared.call.FrontendSideCall.{FrontendSideCall}
use Rattle.vhost_c_common.proofs.Wanting.{comes, is-uncut, none-missing, refused-wants, untaken, wants}
use Rattle.vhost_c_common.proofs.Wants.{halted}
use Rattle.vhost_c_common.specs.Incoming.{missing_by}
use Rattle.vhost_c_common.specs.Memory.{WantsMemory}
use Rattle.vhost_c_common.specs.View.{End, Receives, TakesNone}
use Rattle.vhost_c_common.specs.declared.incoming.Incoming.{Incoming}
use Rattle.vhost_c_common.specs.declared.refusal.Refusal.{Refusal}
use Rattle.vhost_c_common.specs.declared.refusal.Refusal.TheVariants.{NotReplied, NotYet, Protocol}
use Rattle.vhost_c_channel.proofs.Change.{Kept, acknowledged, called, change, replying, report, splits, unhanded}
use Rattle.vhost_c_channel_joined.specs.Clients as clients
use Rattle.vhost_c_channel_joined.specs.Clients.{IsHearing, acknowledgement, acknowledgements}
use Rattle.vhost_c_channel.specs.Serving.{Acknowledges, Answering, Begins, Concludes, Denies, IsNew, IsServed, Nexts, Replies, Request, arrived, concluded, has_call, is_handed, missing_of, queued, remembers, stopped, told, view}
use Rattle.vhost_c_channel.specs.declared.serving.ChannelServer.{ChannelServer}

-- ---- a report comes

-- It came whole, and is still to be read.
pub record HasCome (cells : List (Cell PlainHandle)) (s : ChannelServer) : Type 0 where
  pub queue : queued s ≡ cells
  pub came : arrived s ≡ plain report
  pub idle : has_call s ≡ false
  pub whole : missing_of s ≡ 0
  pub memory : remembers s ≡ replying
  pub sound : (endpoint_of s.core).broken ≡ None
  pub uncut : (endpoint_of s.core).link.script ≡ []

module _ (cells : List (Cell PlainHandle)) (s : ChannelServer) (is : IsHearing cells s) where
  -- all of it was missing
  missing : missing_of s ≡ 12
  missing = rw (is.idle, is.count) refl

  pub untold : (r : Refusal) → TakesNone (missing_of s) report [] r → WantsMemory r
  untold r none = untaken (missing_of s) report r (omega (arith, missing)) (omega arith) none

  pub taken : (t : ChannelServer) → Receives (missing_of s) report [] (view s) (Ok tt) (view t) → HasCome cells t
  taken t got =
      let quiet : has_call t ≡ false = ap (λ (r : Kept). is_some r.1) got.3.rest ∙ is.idle in
      record {
        queue = got.3.queue ∙ is.queue;
        came = comes report (arrived s) (arrived t) is.came got.1;
        idle = quiet;
        whole = ap (λ b. if b then 0 else missing_by backend_request_of t.incoming) quiet ∙ none-missing backend_request_of report s.incoming t.incoming is.count got.2 refl refl (λ rest. refl);
        memory = ap (λ (r : Kept). r.0) got.3.rest ∙ is.memory;
        sound = ap {A = End} (λ e. e.broken) got.3.end ∙ is.sound;
        uncut = ap {A = End} (λ e. e.link.script) got.3.end ∙ is.uncut;
      }

-- ---- it is read

-- It was read, and its call is to be replied to.
pub record HasRead (cells : List (Cell PlainHandle)) (s : ChannelServer) : Type 0 where
  pub call : FrontendSideCall PlainHandle
  pub served : IsServed change call s
  pub queue : queued s ≡ cells
  pub came : arrived s ≡ []
  pub count : s.incoming.count ≡ 0
  pub memory : remembers s ≡ replying
  pub sound : (endpoint_of s.core).broken ≡ None
  pub uncut : (endpoint_of s.core).link.script ≡ []

pub read : (cells : List (Cell PlainHandle)) (number : ℕ) (s t : ChannelServer) → HasCome cells s → Nexts s (Ok number) t → HasRead cells t × (number ≡ 2)
read cells number s t has begins =
    let b : Begins number s t = begins (ap {A = Server} (λ k. k.failed) has.memory) in
    let both : (Ok b.message, arrived t) ≡ (Ok change, []) = sym b.came ∙ ap (split backend_request_of backend_allows_handles) has.came ∙ splits in
    let same : b.message ≡ change = cc (ap (λ x. x.0) both) in
    let served : IsServed change b.call t = subst {A = Request} (λ k. IsServed k b.call t) same b.served in (
      record {
        call = b.call;
        served = served;
        queue = b.queue ∙ has.queue;
        came = ap (λ x. x.1) both;
        count = b.nothing_came;
        memory = b.memory ∙ has.memory;
        sound = b.sound.after;
        uncut = b.sound.uncut has.uncut;
      },
      b.is_number ∙ called b.call (remembers t) served.row,
    )

-- ---- it was not

pub unread-wants : TalksLaw → (cells : List (Cell PlainHandle)) (s t : ChannelServer) (r : Refusal) → HasCome cells s → Nexts s (Err r) t → WantsMemory r
unread-wants law cells s t (Protocol e) has denies =
    let d : Denies e s t = denies (ap {A = Server} (λ k. k.failed) has.memory) in
    refused-wants (λ (k : Server). backend_request_of) backend_allows_handles (λ (k : Server). k.failed) kept (ReverseMeets (fitting uncalled)) change (remembers s) tt (λ answer written s' d' met. met.1.1.0)
    law (endpoint_of s.core) (ap (split backend_request_of backend_allows_handles) has.came ∙ splits) has.sound has.uncut (endpoint_of d.mid) _ tt e d.refuses
unread-wants law cells s t NotReplied has (busy, same) = absurd (cc (sym busy ∙ has.idle))
unread-wants law cells s t NotYet has (more, same) = absurd (omega (arith, more, has.whole))
unread-wants law cells s t _ has denies = absurd denies

-- ---- it is replied to

module _ (cells : List (Cell PlainHandle)) (s t : ChannelServer) (x : HasRead cells s) where
  replied : (outcome : Result ⊤ Refusal) → Replies x.served.request (Ok 0) s outcome t → clients.Hears (cells ++ acknowledgement) outcome t
  replied outcome r = subst {A = Result ⊤ Refusal} (λ o. clients.Hears (cells ++ acknowledgement) o t) (sym r.is_told) (by r.result r.concludes)
    where
      by : (o : Result ℕ declared.Error) → Concludes x.served.request (Ok 0) s t o → clients.Hears (cells ++ acknowledgement) (told o) t
      by (Ok n) (concluded is queue came sound) = record {
        queue = queue ∙ (λ i. x.queue i ++ number_cells (x.memory i) x.served.request (Ok 0)) ∙ (λ i. cells ++ acknowledged (x.served.code i) (x.served.need_reply i));
        came = came ∙ x.came;
        count = ap (λ (i : Incoming). i.count) r.incoming ∙ x.count;
        idle = r.idle;
        memory = r.memory ∙ x.memory;
        sound = sound.after;
        uncut = sound.uncut x.uncut;
      }
      by (Err e) (concluded is queue came sound) = absurd (cc is)
      by (Err e) (stopped stops) =
          subst {A = Bool} (λ b. clients.Hears (cells ++ acknowledgement) (if b then Ok tt else Err (Protocol e)) t) (sym (ap is_handed stops.error ∙ unhanded stops.cause))
          (wants (endpoint_of s.core) e x.sound (halted (endpoint_of s.core) (endpoint_of t.core) _ e stops (is-uncut (endpoint_of s.core) x.sound x.uncut)))

  pub heard : (outcome : Result ⊤ Refusal) → Answering (Ok 0) s outcome t → clients.Hears (cells ++ acknowledgement) outcome t
  heard outcome answers = replied outcome (answers.one change x.call x.served)

-- ---- so many were

pub first : (cells : List (Cell PlainHandle)) (s : ChannelServer) → IsHearing cells s → IsHearing (cells ++ acknowledgements 0) s
first cells s is = subst (λ xs. IsHearing xs s) (sym (append-nil cells)) is

pub more : (cells : List (Cell PlainHandle)) (n : ℕ) (s : ChannelServer) → IsHearing ((cells ++ acknowledgements n) ++ acknowledgement) s → IsHearing (cells ++ acknowledgements (n + 1)) s
more cells n s is =
    let next : suc n ≡ n + 1 = omega arith in
    subst (λ xs. IsHearing xs s) (append_assoc cells (acknowledgements n) acknowledgement ∙ ap (λ k. cells ++ acknowledgements k) next) is

-- a new session that acknowledges requests
pub begins : (s t : ChannelServer) → IsNew s → Acknowledges true s t → IsHearing [] t
begins s t fresh says = record {
  queue = (λ i. (says.outgoing i).link.pending ++ (says.end i).link.sent) ∙ fresh.empty.queue;
  came = ap {A = State Ends PlainHandle} stream says.end ∙ fresh.empty.came;
  count = ap (λ (i : Incoming). i.count) says.incoming ∙ fresh.empty.count;
  idle = ap {A = Option (code.Request BackendReq)} is_some says.pending ∙ fresh.idle;
  memory = says.memory ∙ ap {A = Server} (λ m. record m { reply_ack = true }) fresh.memory;
  sound = ap {A = End} (λ e. e.broken) says.end ∙ ap {A = End} (λ e. e.broken) fresh.empty.end;
  uncut = ap {A = End} (λ e. e.link.script) says.end ∙ ap {A = End} (λ e. e.link.script) fresh.empty.end;
}
