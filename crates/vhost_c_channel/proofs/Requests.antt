-- What a frontend's session reads, and what it replies.
use Rattle.std.proofs.Common.{◌≡◌, ◌<◌, ◌≤◌, ◌^◌, ℕ, true, false, List, ◌++◌, append_assoc, Option, Some, None, Result, Ok, Err, refl, sym, ap, subst, ◌∙◌, arith}
use Rattle.std.specs.Prelude.{⊤, IfErr, ok_or, if◌then◌else◌}
use Rattle.vhost_message.specs.BackendReq.{backend_request_of}
use Rattle.vhost_message.specs.declared.backend_req.BackendReq.{BackendReq}
use Rattle.vhost_message.specs.declared.error.Error as declared
use Rattle.vhost_protocol.specs.IoError.{IoError}
use Rattle.vhost_protocol.specs.Reverse.{Server, Calls, backend_allows_handles, result_number, reverse_row_of, with_number}
use Rattle.vhost_protocol.specs.Split.{split}
use Rattle.vhost_link.specs.Mem.{event}
use Rattle.vhost_link.specs.declared.plain.PlainHandle.{PlainHandle}
use Rattle.vhost_connection.specs.Memory.{TalksLaw}
use Rattle.vhost_connection.specs.Requests.{IsReady}
use Rattle.vhost_connection.specs.declared.request.Request as code
use Rattle.vhost_frontend_req_handler.specs.Calling.{call_in}
use Rattle.vhost_frontend_req_handler.specs.Core.{endpoint_of, server_in, number_cells}
use Rattle.vhost_frontend_req_handler.specs.Halves as halves
use Rattle.vhost_frontend_req_handler.specs.declared.call.FrontendSideCall.{FrontendSideCall}
use Rattle.vhost_c_common.proofs.Hearing.{hears-cut, replies-told}
use Rattle.vhost_c_common.proofs.Wants.{sound}
use Rattle.vhost_c_common.specs.Held.{LetsGo, Released}
use Rattle.vhost_c_common.specs.Incoming.{missing_by}
use Rattle.vhost_c_common.specs.declared.outgoing.Outgoing.{Outgoing}
use Rattle.vhost_c_common.specs.declared.refusal.Refusal.{Refusal}
use Rattle.vhost_c_common.specs.declared.refusal.Refusal.TheVariants.{OtherCall}
use Rattle.vhost_c_channel.specs.Arguments.{Puts, PutsName, call_number, name_arg}
use Rattle.vhost_c_channel.specs.Serving as serving
use Rattle.vhost_c_channel.specs.Serving.{Request, IsServed, Tells, PutsInto, Concludes, concluded, Answering, told, has_call, remembers, queued}
use Rattle.vhost_c_channel.specs.declared.serving.ChannelServer.{ChannelServer}

-- ---- the call that is to be replied to

-- where no name is put, the place is as it was
name-kept : (x : Option (List ℕ)) (before after : List ℕ) (o : Result ⊤ Refusal) → Puts x before after o → IfErr o (λ r. after ≡ before)
name-kept x before after (Ok done) puts = tt
name-kept (Some x) before after (Err r) puts = puts.2
name-kept None before after (Err r) puts = puts.1

module _ (s : ChannelServer) (d : FrontendSideCall PlainHandle) (is : (m : Request) (c : FrontendSideCall PlainHandle) → IsServed m c s → d ≡ c) (some : has_call s ≡ false → ⊥) where
  -- what is told of it
  pub tells-some : {A : Type 0} (of : FrontendSideCall PlainHandle → Option A) (outcome : Result A Refusal) → outcome ≡ ok_or (of d) OtherCall → Tells of s outcome
  tells-some of outcome said = record { one = λ m c x. said ∙ ap (λ e. ok_or (of e) OtherCall) (is m c x); none = λ none. absurd (some none) }

  -- what is put
  pub puts-some : (before after : List ℕ) (outcome : Result ⊤ Refusal) → PutsName d before after outcome → PutsInto s before after outcome
  puts-some before after outcome put = record { one = λ m c x. subst (λ e. PutsName e before after outcome) (is m c x) put; none = λ none. absurd (some none); refused = name-kept (name_arg d) before after outcome put }

module _ (s : ChannelServer) (nobody : (m : Request) (c : FrontendSideCall PlainHandle) → IsServed m c s → ⊥) where
  pub tells-none : {A : Type 0} (of : FrontendSideCall PlainHandle → Option A) → Tells of s (Err OtherCall)
  tells-none of = record { one = λ m c x. absurd (nobody m c x); none = λ none. refl }

  pub puts-none : (before : List ℕ) → PutsInto s before before (Err OtherCall)
  puts-none before = record { one = λ m c x. absurd (nobody m c x); none = λ none. (refl, refl); refused = refl }

-- ---- the next request

-- none are missing where none are of the request
pub is-due : (s : ChannelServer) (n : ℕ) → has_call s ≡ false → n ≡ missing_by backend_request_of s.incoming → n ≤ 0 → serving.IsDue s
is-due s n idle is none =
    let zero : missing_by backend_request_of s.incoming ≡ 0 = omega arith in
    record { idle = idle; whole = ap (λ b. if b then 0 else missing_by backend_request_of s.incoming) idle ∙ zero }

pub begins : TalksLaw → (old new : ChannelServer) (number : ℕ) (c : FrontendSideCall PlainHandle) (b : halves.BeginsCall event old.core c new.core) → new.outgoing ≡ old.outgoing → new.incoming.count ≡ 0 → number ≡ call_number c
    → new.call ≡ Some c → new.held ≡ old.held → serving.Begins number old new
begins law old new number c b outgoing count is call held =
    let m = b.reads.message in let cut = hears-cut law (split backend_request_of backend_allows_handles) (endpoint_of old.core) (endpoint_of new.core) (Ok m) b.reads.hears in
    record {
      message = m;
      call = c;
      came = cut.0;
      served = record {
        request = b.request;
        is = b.is;
        code = b.reads.reads.code;
        need_reply = b.reads.reads.need_reply;
        call = call;
        row = subst {A = Server} (λ t. reverse_row_of m.request t m ≡ Calls (call_in c) (with_number t m)) (sym b.server) b.row;
        ready = record { broken = b.reads.hears.serves.after; faulted = b.reads.hears.serves.faulted };
      };
      is_number = is;
      memory = b.server;
      queue = ap {A = Outgoing} (λ q. q.link.pending ++ (endpoint_of new.core).link.sent) outgoing ∙ ap (λ xs. old.outgoing.link.pending ++ xs) cut.1;
      nothing_came = count;
      held = held;
      sound = sound (endpoint_of old.core) (endpoint_of new.core) b.reads.hears.serves;
    }

-- ---- replies

-- what follows from an answer goes out
pub concludes : TalksLaw → (request : code.Request BackendReq) (a : Result ℕ IoError) (old new : ChannelServer) (result : Result ℕ declared.Error)
    → halves.Concludes event request a (endpoint_of old.core) (server_in old.core) result (endpoint_of new.core) (server_in new.core) → new.outgoing ≡ old.outgoing → Concludes request a old new result
concludes law request a old new result (halves.concluded is replies same) outgoing =
    let cells = number_cells (remembers old) request a in
    let went = replies-told law (endpoint_of old.core) (endpoint_of new.core) cells replies in
    concluded is (
    ap {A = Outgoing} (λ q. q.link.pending ++ (endpoint_of new.core).link.sent) outgoing
    ∙ ap (λ xs. old.outgoing.link.pending ++ xs) went.1
    ∙ sym (append_assoc old.outgoing.link.pending (endpoint_of old.core).link.sent cells)
    ) went.0 (sound (endpoint_of old.core) (endpoint_of new.core) replies.serves)
concludes law request a old new result (halves.stopped stops same) outgoing = serving.stopped stops

pub keeps : (request : code.Request BackendReq) (a : Result ℕ IoError) (old new : ChannelServer) (result : Result ℕ declared.Error)
    → halves.Concludes event request a (endpoint_of old.core) (server_in old.core) result (endpoint_of new.core) (server_in new.core) → remembers new ≡ remembers old
keeps request a old new result (halves.concluded is replies same) = same
keeps request a old new result (halves.stopped stops same) = same

-- what is answered to a reply where a call is to be replied to
pub answers : TalksLaw → (a : Result ℕ IoError) (old new : ChannelServer) (result : Result ℕ declared.Error) (outcome : Result ⊤ Refusal)
    → ((request : code.Request BackendReq) → old.core.pending ≡ Some request → IsReady (endpoint_of old.core) → halves.Concludes event request a (endpoint_of old.core) (server_in old.core) result (endpoint_of new.core) (server_in new.core))
    → new.outgoing ≡ old.outgoing → new.incoming ≡ old.incoming → outcome ≡ told result → has_call new ≡ false → has_call old ≡ true → Released old.held new.held → result_number a < 2 ^ 64 → Answering a old outcome new
answers law a old new result outcome goes outgoing incoming is idle some released fits = record {
  one = λ m c x. let d = goes x.request x.is x.ready in record {
    result = result;
    concludes = concludes law x.request a old new result d outgoing;
    is_told = is;
    fits = fits;
    memory = keeps x.request a old new result d;
    idle = idle;
    incoming = incoming;
  };
  none = λ none. cc (sym some ∙ none);
  held = subst (λ b. LetsGo b (has_call new) old.held new.held) (sym some) (subst (λ b. LetsGo true b old.held new.held) (sym idle) released);
}
