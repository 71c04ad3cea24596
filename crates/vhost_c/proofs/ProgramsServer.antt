-- What a call of a program promises of a frontend's session of the backend channel that calls made.
use Rattle.std.proofs.Common.{◌≡◌, ◌≤◌, ◌⊎◌, inl, inr, ℕ, ℤ, Bool, true, false, List, [], ◌∷◌, length, Option, Some, None, Result, Ok, Err, refl, sym, ap, subst, ◌∙◌, arith}
use Rattle.std.specs.Global.{Global}
use Rattle.std.specs.Prelude.{Vec, ⊤, is_some, ok_or, ◌==◌, ◌||◌, nat_lt, if◌then◌else◌}
use Rattle.vhost_message.specs.BackendReq.{backend_request_of}
use Rattle.vhost_message.specs.Cause.{error_of}
use Rattle.vhost_message.specs.declared.backend_req.BackendReq.{BackendReq}
use Rattle.vhost_message.specs.declared.cause.IoCause.TheVariants.{Raw as Number}
use Rattle.vhost_message.specs.declared.errno.TheConstants.{ENOMEM}
use Rattle.vhost_message.specs.declared.error.Error as declared
use Rattle.vhost_message.specs.declared.error.Error.TheVariants as code
use Rattle.vhost_message.specs.declared.limits.TheConstants.{MSG_HEADER_SIZE}
use Rattle.vhost_protocol.specs.Error.{Cause, Error, InvalidMessage, ReqHandlerError, seen, seen_result}
use Rattle.vhost_protocol.specs.IoError.{IoError, cause}
use Rattle.vhost_protocol.specs.Reverse.{ReverseMeets, Server, backend_allows_handles, handed_on}
use Rattle.vhost_protocol.specs.Run as run
use Rattle.vhost_protocol.specs.Split.{Message, split}
use Rattle.vhost_protocol.specs.Stream.{Cell}
use Rattle.vhost_link.specs.Mem.{event}
use Rattle.vhost_link.specs.declared.plain.PlainHandle.{PlainHandle}
use Rattle.vhost_connection.specs.Memory.{TalksLaw, stream}
use Rattle.vhost_connection.specs.Serving.{Handled, Breaks, unread, unanswered}
use Rattle.vhost_connection.specs.declared.request.Request as request
use Rattle.vhost_frontend_req_handler.specs.Core.{endpoint_of, server_in}
use Rattle.vhost_frontend_req_handler.specs.Calling.{call_in}
use Rattle.vhost_frontend_req_handler.specs.Halves.{uncalled}
use Rattle.vhost_frontend_req_handler.specs.Handling as handling
use Rattle.vhost_frontend_req_handler.specs.Handling.{fitting}
use Rattle.vhost_frontend_req_handler.specs.declared.call.FrontendSideCall.{FrontendSideCall}
use Rattle.vhost_c_common.proofs.Hearing.{hears-cut}
use Rattle.vhost_c_common.proofs.Wanting.{is-uncut}
use Rattle.vhost_c_common.proofs.Wants.{alike, served, troubled}
use Rattle.vhost_c_common.specs.ByNumber.{By}
use Rattle.vhost_c_common.specs.ByNumber as by
use Rattle.vhost_c_common.specs.Incoming.{missing_by}
use Rattle.vhost_c_common.specs.Number.{number, error_number, outcome_number}
use Rattle.vhost_c_common.specs.View.{End, IsUncut}
use Rattle.vhost_c_common.specs.declared.incoming.Incoming.{Incoming}
use Rattle.vhost_c_common.specs.declared.refusal.Refusal.{Refusal}
use Rattle.vhost_c_common.specs.declared.refusal.Refusal.TheVariants as refusal
use Rattle.vhost_c_channel.specs.Arguments.{PutsName, Puts, name_arg, mmap_arg, fd_arg}
use Rattle.vhost_c_channel.specs.Serving.{Abandoning, Acknowledges, Answering, Begins, Beginning, Claiming, Concludes, Denies, Ending, IsServed, LettingGo, Nexts, Putting, PutsInto, Receiving, Replies, Request, Sending, Telling, Tells, arrived, concluded, has_call, is_handed, missing_of, remembers, stopped, told, view}
use Rattle.vhost_c_channel.specs.declared.serving.ChannelServer.{ChannelServer}
use Rattle.vhost_c.specs.Calls.{AtBoth, none, some, is_named, socket_retry}
use Rattle.vhost_c.specs.Channel.{Acknowledging, OpensServer, opened, was_open, no_room}
use Rattle.vhost_c.specs.ProgramServer.{Does, IsAlike, IsCalled, IsConcluded, IsDenied, IsSound, Leaves, LeavesNext, LeavesReply, ReadsTo, is_early, is_harmless, read_refusals, refusals, reply_refusals, request_refusals}
use Rattle.vhost_c.specs.declared.places.Places.{Places}
use Rattle.vhost_c.specs.declared.places.ProgramAnswer.{ProgramAnswer}
use Rattle.vhost_c.specs.declared.program_server.ServerCall.{ServerCall}
use Rattle.vhost_c.specs.declared.program_server.ServerCall.TheVariants.{Open, SetReplyAck, Receive, End as Ends, ToSend, Next, Read, ReplyNumber, ReplyErrno, Claim, Unclaimed, Abandon, Close}
use Rattle.vhost_c.specs.declared.program_server.ServerRead.{ServerRead}
use Rattle.vhost_c.specs.declared.program_server.ServerRead.TheVariants as read
use Rattle.vhost_c.proofs.Calling as calling
use Rattle.vhost_c.proofs.Calling.{kept, on-held, promised}
use Rattle.vhost_c.proofs.AskRefusals.{seen_number, is-seen}
use Rattle.vhost_c.proofs.Refusing.{more-came, none-handed, none-taken, none-unread, of-want, stop-error, stop-number, stop-uncut, trouble-sound, trouble-uncut}
use Rattle.vhost_c.proofs.ReverseRows.{row-again, row-invalid}
use Rattle.vhost_c.proofs.SplitRefusals.{split-refused, whole-head}

-- what a session keeps between two calls
abbrev Kept : Type 0
Kept = Server × Option (request.Request BackendReq) × List ℕ × Option (FrontendSideCall PlainHandle)

-- ---- what is so of each session that calls made

-- a call is to be replied to, which was read
abbrev HasRead : ChannelServer → Type 0
HasRead s = (m : Request) × (c : FrontendSideCall PlainHandle) × IsServed m c s

-- No call of its link is cut; it is not marked as failed; what it counted came, while nothing broke it; and a call that is to be replied to was read.
pub record IsGood (s : ChannelServer) : Type 0 where
  pub uncut : IsUncut (endpoint_of s.core)
  pub unmarked : (remembers s).failed ≡ None
  pub came : (endpoint_of s.core).broken ≡ None → s.incoming.count ≤ length (arrived s)
  pub call : (has_call s ≡ false) ⊎ HasRead s

abbrev pub Good : Option ChannelServer → Type 0
Good None = ⊤
Good (Some s) = IsGood s

abbrev Promises : ServerCall → ℕ → Option ChannelServer → Option ChannelServer → Type 0
Promises = calling.Promises refusals Leaves is_harmless IsSound Good

-- where there is no session
absent : (call : ServerCall) → is_named (refusals call) 101 ≡ true → Leaves call 101 None None → Promises call 101 None None
absent call named leaves = record { named = named; leaves = λ refused. leaves; sound = λ harmless was. tt; good = tt }

-- what came is as before
still-came : (s t : ChannelServer) → arrived t ≡ arrived s → t.incoming ≡ s.incoming → s.incoming.count ≤ length (arrived s) → t.incoming.count ≤ length (arrived t)
still-came s t came incoming enough = subst (λ (i : Incoming). i.count ≤ length (arrived t)) (sym incoming) (subst (λ (cs : List (Cell PlainHandle)). s.incoming.count ≤ length cs) (sym came) enough)

-- a call that is to be replied to is as long as the contracts see it so
module _ (old new : ChannelServer) (rest : (view new).rest ≡ (view old).rest) (end : (view new).end ≡ (view old).end) where
  lasts : (m : Request) (c : FrontendSideCall PlainHandle) → IsServed m c old → IsServed m c new
  lasts m c x = record {
    request = x.request;
    is = ap {A = Kept} (λ k. k.1) rest ∙ x.is;
    code = x.code;
    need_reply = x.need_reply;
    call = ap {A = Kept} (λ k. k.3) rest ∙ x.call;
    row = row-again (remembers old) (remembers new) m (call_in c) m.request x.row;
    ready = record { broken = ap {A = End} (λ e. e.broken) end ∙ x.ready.broken; faulted = ap {A = End} (λ e. e.faulted) end ∙ x.ready.faulted };
  }

  call-lasts : (has_call old ≡ false) ⊎ HasRead old → (has_call new ≡ false) ⊎ HasRead new
  call-lasts (inl idle) = inl (ap {A = Kept} (λ k. is_some k.1) rest ∙ idle)
  call-lasts (inr (m, c, x)) = inr (m, c, lasts m c x)

  good-since : ((endpoint_of new.core).broken ≡ None → new.incoming.count ≤ length (arrived new)) → IsGood old → IsGood new
  good-since came good = record {
    uncut = alike (endpoint_of old.core) (endpoint_of new.core) (ap {A = End} (λ e. e.link.script) end) (ap {A = End} (λ e. e.broken) end) good.uncut;
    unmarked = ap {A = Kept} (λ k. k.0.failed) rest ∙ good.unmarked;
    came = came;
    call = call-lasts good.call;
  }

  -- what came is as before
  good-still : arrived new ≡ arrived old → new.incoming ≡ old.incoming → IsGood old → IsGood new
  good-still came incoming good = good-since (λ sound. still-came old new came incoming (good.came (sym (ap {A = End} (λ e. e.broken) end) ∙ sound))) good

-- ---- open, acknowledge, end

opens : {n : ℕ} {old new : Option ChannelServer} → OpensServer old n new → Good old → Promises Open n old new
opens (opened {s = s} new) good = record {
  named = refl;
  leaves = λ refused. absurd (refused refl);
  sound = λ harmless was. ap {A = End} (λ e. e.broken) new.empty.end;
  good = record {
    uncut = is-uncut (endpoint_of s.core) (ap {A = End} (λ e. e.broken) new.empty.end) (ap {A = End} (λ e. e.link.script) new.empty.end);
    unmarked = ap {A = Server} (λ k. k.failed) new.memory;
    came = λ sound. omega (arith, new.empty.count);
    call = inl new.idle;
  };
}
opens was_open good = kept Open 102 refl (λ same. same) refl good
opens no_room good = kept Open 24 refl (λ same. same) refl good

module _ (on : Bool) (s t : ChannelServer) (x : Acknowledges on s t) where
  acknowledged : (has_call s ≡ false) ⊎ HasRead s → (has_call t ≡ false) ⊎ HasRead t
  acknowledged (inl idle) = inl (ap is_some x.pending ∙ idle)
  acknowledged (inr (m, c, y)) = inr (
    m,
    c,
    record {
      request = y.request;
      is = x.pending ∙ y.is;
      code = y.code;
      need_reply = y.need_reply;
      call = x.call ∙ y.call;
      row = row-again (remembers s) (remembers t) m (call_in c) m.request y.row;
      ready = record { broken = ap {A = End} (λ e. e.broken) x.end ∙ y.ready.broken; faulted = ap {A = End} (λ e. e.faulted) x.end ∙ y.ready.faulted };
    },
  )

acknowledges : (on : Bool) {n : ℕ} {old new : Option ChannelServer} → By (Acknowledging on) old n new → Good old → Promises (SetReplyAck on) n old new
acknowledges on by.none good = absent (SetReplyAck on) refl refl
acknowledges on (by.some {s = s} {s' = t} {outcome = Ok u} (is, x)) good = record {
  named = refl;
  leaves = λ refused. absurd (refused refl);
  sound = λ harmless was. ap {A = End} (λ e. e.broken) x.end ∙ was;
  good = record {
    uncut = alike (endpoint_of s.core) (endpoint_of t.core) (ap {A = End} (λ e. e.link.script) x.end) (ap {A = End} (λ e. e.broken) x.end) good.uncut;
    unmarked = ap {A = Server} (λ k. k.failed) x.memory ∙ good.unmarked;
    came = λ sound. still-came s t (ap {A = End} stream x.end) x.incoming (good.came (sym (ap {A = End} (λ e. e.broken) x.end) ∙ sound));
    call = acknowledged on s t x good.call;
  };
}
acknowledges on (by.some {outcome = Err r} (is, x)) good = absurd (cc is)

end-named : (a b : Bool) → is_named (refusals Ends) (if a then 10 else if b then 9 else 5) ≡ true
end-named true b = refl
end-named false true = refl
end-named false false = refl

ending : (s t : ChannelServer) (o : Result ⊤ Refusal) → Ending s o t → IsGood s → Promises Ends (outcome_number o) (Some s) (Some t)
ending s t (Err (refusal.Protocol e)) (is, same) good =
    kept Ends (error_number e) (subst (λ n. is_named (refusals Ends) n ≡ true) (sym is) (end-named (s.incoming.count == 0 || missing_of s == 0) (nat_lt s.incoming.count MSG_HEADER_SIZE))) (λ same. same) (ap Some same) good
ending s t _ never good = absurd never

ended : {n : ℕ} {old new : Option ChannelServer} → By Ending old n new → Good old → Promises Ends n old new
ended by.none good = absent Ends refl refl
ended (by.some {s = s} {s' = t} {outcome = o} c) good = ending s t o c good

-- ---- move bytes

sends : (p : Places) (bs : List ℕ) (fs : List ℤ) (count : ℕ × ℕ) {n : ℕ} {old new : Option ChannelServer} → By (Sending bs fs count) old n new → Good old → Promises (ToSend p) n old new
sends p bs fs count by.none good = absent (ToSend p) refl none
sends p bs fs count (by.some {s = s} {s' = t} {outcome = Ok u} (hands, rest)) good = record {
  named = refl;
  leaves = λ refused. absurd (refused refl);
  sound = λ harmless was. ap {A = End} (λ e. e.broken) rest.end ∙ was;
  good = good-still s t rest.rest rest.end rest.came rest.incoming good;
}
sends p bs fs count (by.some {s = s} {s' = t} {outcome = Err r} (why-not, queue, rest)) good = record {
  named = none-handed (λ n. is_named (refusals (ToSend p)) n ≡ true) bs fs r refl why-not;
  leaves = λ refused. some (λ i. record { queue = queue i; came = rest.came i; incoming = rest.incoming i; end = rest.end i; rest = rest.rest i });
  sound = λ harmless was. ap {A = End} (λ e. e.broken) rest.end ∙ was;
  good = good-still s t rest.rest rest.end rest.came rest.incoming good;
}

receives : (bytes : Vec ℕ Global) (fds : Vec ℤ Global) (bs : List ℕ) (fs : List ℤ) {n : ℕ} {old new : Option ChannelServer} → By (Receiving bs fs) old n new → Good old → Promises (Receive bytes fds) n old new
receives bytes fds bs fs by.none good = absent (Receive bytes fds) refl none
receives bytes fds bs fs (by.some {s = s} {s' = t} {outcome = Ok u} ((within, takes, adds, waits), none-refused)) good = record {
  named = refl;
  leaves = λ refused. absurd (refused refl);
  sound = λ harmless was. ap {A = End} (λ e. e.broken) waits.end ∙ was;
  good = good-since s t waits.rest waits.end (λ sound. more-came (arrived s) (arrived t) bs fs s.incoming t.incoming takes adds (good.came (sym (ap {A = End} (λ e. e.broken) waits.end) ∙ sound))) good;
}
receives bytes fds bs fs (by.some {s = s} {s' = t} {outcome = Err r} ((came, incoming, waits), why-not)) good = record {
  named = none-taken (λ n. is_named (refusals (Receive bytes fds)) n ≡ true) (missing_of s) bs fs r refl refl refl why-not;
  leaves = λ refused. some (λ i. record { queue = waits.queue i; came = came i; incoming = incoming i; end = waits.end i; rest = waits.rest i });
  sound = λ harmless was. ap {A = End} (λ e. e.broken) waits.end ∙ was;
  good = good-still s t waits.rest waits.end came incoming good;
}

-- ---- the next request

-- a number that to read a request is refused with
abbrev IsOfRequest : ℕ → Type 0
IsOfRequest n = is_named (number refusal.NoSession ∷ number refusal.NotReplied ∷ number refusal.NotYet ∷ request_refusals) n ≡ true

none-early : (e : declared.Error) → is_early (error_number e) ≡ false
none-early e = none-unread e

-- a harmless answer is another
other : (n : ℕ) → is_harmless n ≡ true → n ≡ 16 → ⊥
other n harmless is = cc (sym (ap is_harmless is) ∙ harmless)

abbrev Met : Server → ⊤ → Request → Result ℕ Error → List (Cell PlainHandle) → Server → ⊤ → Type 0
Met = ReverseMeets (fitting uncalled)

abbrev Heard : Server → Result Request Error → Result ℕ Error → List (Cell PlainHandle) → Server → Type 0
Heard s x answer written s' = run.Handles (λ (_ : Server). backend_request_of) backend_allows_handles (λ (t : Server). t.failed) Met s tt x answer written s' tt

heard-invalid : (s s' : Server) (e : Error) (x : Result Request Error) (cells rest written : List (Cell PlainHandle)) → 12 ≤ length cells → split backend_request_of backend_allows_handles cells ≡ (x, rest) → Heard s x (Err e) written s' → e ≡ InvalidMessage
heard-invalid s s' e (Ok m) cells rest written many cut met = let same = row-invalid s m (Err e) written s' met in cc same
heard-invalid s s' e (Err x) cells rest written many cut handles =
    let same : e ≡ x = cc handles.0 in same ∙ split-refused backend_request_of backend_allows_handles cells rest x many cut

heard-same : (s s' : Server) (answer : Result ℕ Error) (x : Result Request Error) (written : List (Cell PlainHandle)) → Heard s x answer written s' → s' ≡ s
heard-same s s' answer (Ok m) written met = met.4
heard-same s s' answer (Err x) written handles = handles.2

module _ (law : TalksLaw) (p : Places) (s t : ChannelServer) (good : IsGood s) (e : declared.Error) (d : Denies e s t) where
  abbrev begun : End
  begun = endpoint_of s.core

  abbrev last : End
  last = endpoint_of d.mid

  abbrev Handled1 : Type 0
  Handled1 = Handled event (λ (_ : Server). backend_request_of) backend_allows_handles (λ (k : Server). k.failed) handling.kept Met begun (server_in s.core) tt (Err (seen e)) last (server_in d.mid) tt

  abbrev Breaks1 : Type 0
  Breaks1 = Breaks event (λ (_ : Server). backend_request_of) backend_allows_handles (λ (k : Server). k.failed) handling.kept Met begun (server_in s.core) tt e last (server_in d.mid) tt

  header-came : begun.broken ≡ None → 12 ≤ length (arrived s)
  header-came sound =
      let whole : missing_by backend_request_of s.incoming ≡ 0 = sym (ap (λ b. if b then 0 else missing_by backend_request_of s.incoming) d.due.idle) ∙ d.due.whole in
      let head : 12 ≤ s.incoming.count = whole-head backend_request_of s.incoming whole in
      let came : s.incoming.count ≤ length (arrived s) = good.came sound in
      omega (arith, head, came)

  denied-number : Handled1 ⊎ Breaks1 → IsOfRequest (error_number e)
  denied-number (inl h) =
      let cut = hears-cut law (split backend_request_of backend_allows_handles) begun h.mid h.heard h.hears in
      let invalid : seen e ≡ InvalidMessage = heard-invalid (remembers s) (server_in d.mid) (seen e) h.heard (arrived s) (stream h.mid) h.written (header-came h.hears.serves.before) cut.0 h.handles in
      subst IsOfRequest (is-seen e) (subst (λ y. IsOfRequest (seen_number y)) (sym invalid) refl)
  denied-number (inr (unread part same device)) = of-want IsOfRequest begun e refl refl refl (troubled begun last e part.trouble good.uncut)
  denied-number (inr (unanswered m mid hears x)) = subst IsOfRequest (sym (stop-number mid last x.written e x.stops (served begun mid hears.serves good.uncut).uncut)) refl

  denied-uncut : Handled1 ⊎ Breaks1 → IsUncut last
  denied-uncut (inl h) = served h.mid last h.replies.serves (served begun h.mid h.hears.serves good.uncut)
  denied-uncut (inr (unread part same device)) = trouble-uncut begun last e part.trouble good.uncut
  denied-uncut (inr (unanswered m mid hears x)) = stop-uncut mid last x.written e x.stops (served begun mid hears.serves good.uncut).uncut

  denied-sound : Handled1 ⊎ Breaks1 → is_harmless (error_number e) ≡ true → begun.broken ≡ None → last.broken ≡ None
  denied-sound (inl h) harmless was = h.replies.serves.after
  denied-sound (inr (unread part same device)) harmless was = trouble-sound begun last e part.trouble good.uncut (other (error_number e) harmless) was
  denied-sound (inr (unanswered m mid hears x)) harmless was = absurd (other (error_number e) harmless (stop-number mid last x.written e x.stops (served begun mid hears.serves good.uncut).uncut))

  denied-same : Handled1 ⊎ Breaks1 → server_in d.mid ≡ remembers s
  denied-same (inl h) = heard-same (remembers s) (server_in d.mid) (Err (seen e)) h.heard h.written h.handles
  denied-same (inr (unread part same device)) = same
  denied-same (inr (unanswered m mid hears x)) = x.session ∙ x.meets.4

  denied : Promises (Next p) (error_number e) (Some s) (Some t)
  denied = record {
    named = denied-number d.refuses;
    leaves = λ refused. subst (λ b. LeavesNext b (Some s) (Some t)) (sym (none-early e)) (some (record { idle = d.idle; nothing_came = d.nothing_came; outgoing = d.outgoing }));
    sound = λ harmless was. ap {A = End} (λ x. x.broken) d.end ∙ denied-sound d.refuses harmless was;
    good = record {
      uncut = alike last (endpoint_of t.core) (ap {A = End} (λ x. x.link.script) d.end) (ap {A = End} (λ x. x.broken) d.end) (denied-uncut d.refuses);
      unmarked = ap {A = Server} (λ k. k.failed) (d.memory ∙ denied-same d.refuses) ∙ good.unmarked;
      came = λ sound. omega (arith, d.nothing_came);
      call = inl d.idle;
    };
  }

nexts : TalksLaw → (p : Places) (k : ℕ) (s t : ChannelServer) (o : Result ⊤ Refusal) → Beginning k s o t → IsGood s → Promises (Next p) (outcome_number o) (Some s) (Some t)
nexts law p k s t (Ok u) begins good = record {
  named = refl;
  leaves = λ refused. absurd (refused refl);
  sound = λ harmless was. b.sound.after;
  good = record {
    uncut = is-uncut (endpoint_of t.core) b.sound.after (b.sound.uncut good.uncut.uncut);
    unmarked = ap {A = Server} (λ m. m.failed) b.memory ∙ good.unmarked;
    came = λ sound. omega (arith, b.nothing_came);
    call = inr (b.message, b.call, b.served);
  };
}
  where
    b : Begins k s t
    b = begins good.unmarked
nexts law p k s t (Err (refusal.Protocol e)) denies good = denied law p s t good e (denies good.unmarked)
nexts law p k s t (Err refusal.NotReplied) b good = kept (Next p) 109 refl (λ same. same) (ap Some b.1) good
nexts law p k s t (Err refusal.NotYet) b good = kept (Next p) 105 refl (λ same. same) (ap Some b.1) good
nexts law p k s t _ b good = absurd b

next : TalksLaw → (p : Places) (k : ℕ) {n : ℕ} {old new : Option ChannelServer} → By (Beginning k) old n new → Good old → Promises (Next p) n old new
next law p k by.none good = absent (Next p) refl refl
next law p k (by.some {s = s} {s' = t} {outcome = o} b) good = nexts law p k s t o b good

-- ---- read

-- what is told at once
tells-now : (what : ServerRead) (p : Places) (n : ℕ) (old new : Option ChannelServer) → n ≡ 0 → new ≡ old → Good old → Promises (Read what p) n old new
tells-now what p n old new is same good = promised (Read what p) n 0 old new is (kept (Read what p) 0 refl (λ same. same) same good)

or-other : {A : Type 0} (o : Option A) (r : Refusal) → Err r ≡ ok_or o refusal.OtherCall → r ≡ refusal.OtherCall
or-other None r is = cc is
or-other (Some a) r is = absurd (cc is)

-- an argument that is not told is none of the call
untold : {A : Type 0} (of : FrontendSideCall PlainHandle → Option A) (s : ChannelServer) (r : Refusal) → IsGood s → Tells of s (Err r) → r ≡ refusal.OtherCall
untold of s r good tells = go good.call
  where
    go : (has_call s ≡ false) ⊎ HasRead s → r ≡ refusal.OtherCall
    go (inl idle) = cc (tells.none idle)
    go (inr (m, c, x)) = or-other (of c) r (tells.one m c x)

telling : {A : Type 0} (what : ServerRead) (p : Places) (of : FrontendSideCall PlainHandle → Option A) (a : A) → is_named (read_refusals what) 101 ≡ true → is_named (read_refusals what) 110 ≡ true
    → {n : ℕ} {old new : Option ChannelServer} → By (Telling of a) old n new → Good old → Promises (Read what p) n old new
telling what p of a gone other-call by.none good = absent (Read what p) gone refl
telling what p of a gone other-call (by.some {s = s} {s' = t} {outcome = Ok u} (tells, same)) good = kept (Read what p) 0 refl (λ same. same) (ap Some same) good
telling what p of a gone other-call (by.some {s = s} {s' = t} {outcome = Err r} (tells, same)) good =
    kept (Read what p) (number r) (subst (λ q. is_named (read_refusals what) (number q) ≡ true) (sym (untold of s r good tells)) other-call) (λ same. same) (ap Some same) good

-- a name that is not put has no room, or is none of the call
unput : (o : Option (List ℕ)) (before after : List ℕ) (r : Refusal) → Puts o before after (Err r) → is_named (read_refusals read.Name) (number r) ≡ true
unput (Some x) before after r puts = subst (λ q. is_named (read_refusals read.Name) (number q) ≡ true) (sym puts.0) refl
unput None before after r puts = subst (λ q. is_named (read_refusals read.Name) (number q) ≡ true) (sym puts.0) refl

unput-so : (s : ChannelServer) (before after : List ℕ) (r : Refusal) → IsGood s → PutsInto s before after (Err r) → is_named (read_refusals read.Name) (number r) ≡ true
unput-so s before after r good x = go good.call
  where
    go : (has_call s ≡ false) ⊎ HasRead s → is_named (read_refusals read.Name) (number r) ≡ true
    go (inl idle) = let same : r ≡ refusal.OtherCall = cc (x.none idle).0 in subst (λ q. is_named (read_refusals read.Name) (number q) ≡ true) (sym same) refl
    go (inr (m, c, y)) = unput (name_arg c) before after r (x.one m c y)

putting : (p : Places) (before after : List ℕ) {n : ℕ} {old new : Option ChannelServer} → By (Putting before after) old n new → Good old → Promises (Read read.Name p) n old new
putting p before after by.none good = absent (Read read.Name p) refl refl
putting p before after (by.some {s = s} {s' = t} {outcome = Ok u} (x, same)) good = kept (Read read.Name p) 0 refl (λ same. same) (ap Some same) good
putting p before after (by.some {s = s} {s' = t} {outcome = Err r} (x, same)) good = kept (Read read.Name p) (number r) (unput-so s before after r good x) (λ same. same) (ap Some same) good

reads-to : (what : ServerRead) (p q : Places) (n : ℕ) (old new : Option ChannelServer) → ReadsTo what p q old n new → Good old → Promises (Read what p) n old new
reads-to read.Missing p q n old new (is, missing, same) good = tells-now read.Missing p n old new is same good
reads-to read.Name p q n old new does good = putting p _ _ does good
reads-to read.Mmap p q n old new does good = telling read.Mmap p _ _ refl refl does good
reads-to read.Fd p q n old new does good = telling read.Fd p _ _ refl refl does good

-- ---- reply

-- an error that is handed on is that of the answer
handed : (e : declared.Error) (c : Cause) → seen e ≡ ReqHandlerError c → is_handed e ≡ true
handed (code.ReqHandlerError c) x is = refl
handed _ x is = absurd (cc is)

-- the answer's own error is none of the session's
fine : (a : Result ℕ IoError) (result : Result ℕ declared.Error) → seen_result result ≡ handed_on a → told result ≡ Ok tt
fine a (Ok n) is = refl
fine (Ok n) (Err e) is = absurd (cc is)
fine (Err x) (Err e) is = ap (λ b. if b then Ok tt else Err (refusal.Protocol e)) (handed e (cause x) (cc is))

-- what a reply leaves
record Left (s t : ChannelServer) (n : ℕ) : Type 0 where
  is : ((n ≡ 0) × ((endpoint_of t.core).broken ≡ None)) ⊎ (n ≡ 16)
  uncut : IsUncut (endpoint_of t.core)
  came : (endpoint_of t.core).broken ≡ None → s.incoming.count ≤ length (arrived t)

left : (q : request.Request BackendReq) (a : Result ℕ IoError) (s t : ChannelServer) (result : Result ℕ declared.Error) → IsGood s → Concludes q a s t result → Left s t (outcome_number (told result))
left q a s t result good (concluded is queue came sound) = record {
  is = inl (ap outcome_number (fine a result is), sound.after);
  uncut = is-uncut (endpoint_of t.core) sound.after (sound.uncut good.uncut.uncut);
  came = λ still. subst (λ (cs : List (Cell PlainHandle)). s.incoming.count ≤ length cs) (sym came) (good.came sound.before);
}
left q a s t _ good (stopped {e = e} stops) = record {
  is = inr (ap {A = declared.Error} (λ x. outcome_number (told (Err x))) (stop-error (endpoint_of s.core) (endpoint_of t.core) _ e stops good.uncut.uncut));
  uncut = stop-uncut (endpoint_of s.core) (endpoint_of t.core) _ e stops good.uncut.uncut;
  came = λ still. absurd (cc (sym still ∙ stops.broken));
}

module _ (call : ServerCall) (gone : is_named (refusals call) 101 ≡ true) (nothing : is_named (refusals call) 104 ≡ true) (short : is_named (refusals call) 16 ≡ true) (done : is_named (refusals call) 0 ≡ true)
    (early : (old new : Option ChannelServer) → new ≡ old → Leaves call 104 old new) (none-left : Leaves call 101 None None) (late : (old new : Option ChannelServer) → AtBoth IsConcluded old new → Leaves call 16 old new) where
  replied : (s t : ChannelServer) (n : ℕ) → has_call t ≡ false → t.incoming ≡ s.incoming → (remembers t).failed ≡ None → Left s t n → Promises call n (Some s) (Some t)
  replied s t n idle incoming unmarked l = go l.is
    where
      good : IsGood t
      good = record { uncut = l.uncut; unmarked = unmarked; came = λ still. subst (λ (i : Incoming). i.count ≤ length (arrived t)) (sym incoming) (l.came still); call = inl idle }

      go : ((n ≡ 0) × ((endpoint_of t.core).broken ≡ None)) ⊎ (n ≡ 16) → Promises call n (Some s) (Some t)
      go (inl (is, sound)) = promised call n 0 (Some s) (Some t) is (record { named = done; leaves = λ refused. absurd (refused refl); sound = λ harmless was. sound; good = good })
      go (inr is) = promised call n 16 (Some s) (Some t) is (record { named = short; leaves = λ refused. late (Some s) (Some t) (some (record { idle = idle; incoming = incoming })); sound = λ harmless was. absurd (cc harmless); good = good })

  answers : (a : Result ℕ IoError) {n : ℕ} {old new : Option ChannelServer} → By (Answering a) old n new → Good old → Promises call n old new
  answers a by.none good = absent call gone none-left
  answers a (by.some {s = s} {s' = t} {outcome = out} x) good = go good.call
    where
      go : (has_call s ≡ false) ⊎ HasRead s → Promises call (outcome_number out) (Some s) (Some t)
      go (inl idle) = let is = x.none idle in promised call (outcome_number out) 104 (Some s) (Some t) (ap outcome_number is.0) (kept call 104 nothing (early (Some s) (Some t)) (ap Some is.1) good)
      go (inr (m, c, y)) =
          let r = x.one m c y in
          promised call (outcome_number out) (outcome_number (told r.result)) (Some s) (Some t) (ap outcome_number r.is_told)
          (replied s t (outcome_number (told r.result)) r.idle r.incoming (ap {A = Server} (λ k. k.failed) r.memory ∙ good.unmarked) (left y.request a s t r.result good r.concludes))

-- ---- descriptors

-- nothing changed but which are held
holds : (call : ServerCall) (s t : ChannelServer) → t ≡ record s { held = t.held } → IsGood s → Promises call 0 (Some s) (Some t)
holds call s t same good = record {
  named = refl;
  leaves = λ refused. absurd (refused refl);
  sound = λ harmless was. ap {A = ChannelServer} (λ x. (endpoint_of x.core).broken) same ∙ was;
  good = good-still s t (ap {A = ChannelServer} (λ x. (view x).rest) same) (ap {A = ChannelServer} (λ x. (view x).end) same) (ap {A = ChannelServer} (λ x. arrived x) same) (ap {A = ChannelServer} (λ x. x.incoming) same) good;
}

not-claimed : (fd : ℤ) (s t : ChannelServer) (r : Refusal) → Claiming fd s (Err r) t → IsGood s → Promises (Claim fd) (number r) (Some s) (Some t)
not-claimed fd s t refusal.OtherCall x good = kept (Claim fd) 110 refl (λ same. same) (ap Some x.1) good
not-claimed fd s t _ x good = absurd x

-- ---- all calls

promises : TalksLaw → (call : ServerCall) (a : ProgramAnswer) (old new : Option ChannelServer) → Does call a old new → Good old → Promises call a.number old new
promises law Open a old new does good = opens does good
promises law (SetReplyAck on) a old new does good = acknowledges on does good
promises law (Receive bytes fds) a old new does good = receives bytes fds bytes.items fds.items does.0 good
promises law Ends a old new does good = ended does good
promises law (ToSend p) a old new does good = sends p a.places.bytes.items a.places.fds.items (a.places.byte_count, a.places.fd_count) does.0 good
promises law (Next p) a old new does good = next law p a.places.code does good
promises law (Read what p) a old new does good = reads-to what p a.places a.number old new does good
promises law (ReplyNumber n) a old new does good = answers (ReplyNumber n) refl refl refl refl (λ o o' same. same) refl (λ o o' both. both) _ does good
promises law (ReplyErrno n) a old new does good = answers (ReplyErrno n) refl refl refl refl (λ o o' same. same) refl (λ o o' both. both) _ does good
promises law (Claim fd) a old new does good = on-held Good (Promises (Claim fd)) (Claiming fd) (absent (Claim fd) refl refl) (λ s t u x. holds (Claim fd) s t x.2) (not-claimed fd) does good
promises law (Unclaimed p) a old new does good = on-held Good (Promises (Unclaimed p)) (LettingGo p.fds.items a.places.count a.places.fds.items) (absent (Unclaimed p) refl refl) (λ s t u x. holds (Unclaimed p) s t x.1) (λ s t r x. absurd x) does good
promises law Abandon a old new does good = on-held Good (Promises Abandon) Abandoning (absent Abandon refl refl) (λ s t u x. holds Abandon s t x.1) (λ s t r x. absurd x) does good
promises law Close a old new (is, gone) good = promised Close a.number 0 old new is (record { named = refl; leaves = λ refused. absurd (refused refl); sound = λ harmless was. subst IsSound (sym gone) tt; good = subst Good (sym gone) tt })

-- each call of a session that calls made is one that promises this, and leaves such a session
pub step : TalksLaw → (call : ServerCall) (a : ProgramAnswer) (old new : Option ChannelServer) → Does call a old new → Good old → IsCalled call a old new × Good new
step law call a old new does good = let p = promises law call a old new does good in (record { does = does; named = p.named; leaves = p.leaves; sound = p.sound }, p.good)

-- a session that was sound is after a call whose answer is harmless
pub keeps-sound : (call : ServerCall) (a : ProgramAnswer) (old new : Option ChannelServer) → IsCalled call a old new → is_harmless a.number ≡ true → IsSound old → IsSound new
keeps-sound call a old new c harmless was = c.sound harmless was
