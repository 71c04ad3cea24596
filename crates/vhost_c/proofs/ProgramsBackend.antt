-- What a call of a program promises of a backend's session that calls made.
use Rattle.std.proofs.Common.{◌≡◌, ◌≤◌, ◌⊎◌, inl, inr, ℕ, ℤ, Bool, true, false, List, [], ◌∷◌, length, Option, Some, None, Result, Ok, Err, refl, sym, ap, subst, ◌∙◌, arith}
use Rattle.std.specs.Global.{Global}
use Rattle.std.specs.Prelude.{Vec, ⊤, All, is_some, ok_or, ◌==◌, ◌||◌, nat_lt, if◌then◌else◌}
use Rattle.vhost_message.specs.declared.error.Error as declared
use Rattle.vhost_message.specs.declared.error.Error.TheVariants as code
use Rattle.vhost_message.specs.declared.limits.TheConstants.{MSG_HEADER_SIZE}
use Rattle.vhost_message.specs.declared.heard_req.HeardReq.{HeardReq}
use Rattle.vhost_message.specs.declared.records.shmem.VhostUserShMemConfig.{VhostUserShMemConfig}
use Rattle.vhost_protocol.specs.Codes.{allows_handles}
use Rattle.vhost_protocol.specs.Error.{Error, BackendInternalError, InvalidMessage, seen}
use Rattle.vhost_protocol.specs.Handler.{MeetsRow}
use Rattle.vhost_protocol.specs.Run as run
use Rattle.vhost_protocol.specs.Session.{Session, heard_in}
use Rattle.vhost_protocol.specs.Split.{Message, split}
use Rattle.vhost_protocol.specs.Step.{Outcome, Step}
use Rattle.vhost_protocol.specs.Stream.{Cell}
use Rattle.vhost_protocol.specs.declared.profile.Profile.{Profile}
use Rattle.vhost_protocol.proofs.SettleLaws.{settled-answer}
use Rattle.vhost_link.specs.Mem.{event}
use Rattle.vhost_link.specs.declared.plain.PlainHandle.{PlainHandle}
use Rattle.vhost_connection.specs.Memory.{TalksLaw, stream}
use Rattle.vhost_connection.specs.Requests.{Reads}
use Rattle.vhost_connection.specs.Serving.{Handled, Breaks, unread, unanswered}
use Rattle.vhost_backend_req_handler_core.specs.Beginning.{step_of}
use Rattle.vhost_backend_req_handler_core.specs.Concluding.{Beside, FollowsFrom, bases_in, bytes_in, device_in}
use Rattle.vhost_backend_req_handler_core.specs.Fits.{Makes}
use Rattle.vhost_backend_req_handler_core.specs.Session.{session_of}
use Rattle.vhost_backend_req_handler_core.specs.Settling.{Settles}
use Rattle.vhost_backend_req_handler_core.specs.declared.answer.DeviceAnswer.{DeviceAnswer}
use Rattle.vhost_backend_req_handler_core.specs.declared.answer.DeviceAnswer.TheVariants as device
use Rattle.vhost_backend_req_handler_core.specs.declared.call.DeviceCall.{DeviceCall}
use Rattle.vhost_backend_req_handler.specs.Calling.{beside}
use Rattle.vhost_backend_req_handler.specs.Core.{endpoint_of, session_in}
use Rattle.vhost_backend_req_handler.specs.Halves.{Prepares, uncalled, unopened}
use Rattle.vhost_backend_req_handler.specs.Serving.{fitting, kept_unsent}
use Rattle.vhost_backend_req_handler.specs.declared.service.Service.{Service}
use Rattle.vhost_c_common.proofs.Hearing.{hears-cut}
use Rattle.vhost_c_common.proofs.Wanting.{is-uncut}
use Rattle.vhost_c_common.proofs.Wants.{alike, served, troubled}
use Rattle.vhost_c_common.specs.ByNumber.{By}
use Rattle.vhost_c_common.specs.ByNumber as by
use Rattle.vhost_c_common.specs.Number.{number, error_number, outcome_number}
use Rattle.vhost_c_common.specs.Profile.{profile_at}
use Rattle.vhost_c_common.specs.View.{End, IsUncut, StaysSound}
use Rattle.vhost_c_common.specs.declared.incoming.Incoming.{Incoming}
use Rattle.vhost_c_common.specs.declared.refusal.Refusal.{Refusal}
use Rattle.vhost_c_common.specs.declared.refusal.Refusal.TheVariants as refusal
use Rattle.vhost_c_backend.proofs.Three.{Kept}
use Rattle.vhost_c_backend.specs.Arguments.{PutsList, PutsNamed, regions_arg, config_arg, name_arg, other_arg, fds_arg}
use Rattle.vhost_c_backend.specs.Replies.{Gives, Rejects, GivesShmem, RejectsShmem, IsBad, IsCopied, fits, form_in}
use Rattle.vhost_c_backend.specs.Served.{Abandoning, Choosing, Claiming, Ending, LettingGo, Receiving, Sending, arrived, end_number, has_call, missing_of, missing_of_request, remembers, view}
use Rattle.vhost_c_backend.specs.Serving.{Answering, AnsweringShmem, Answers, Begins, Beginning, Channel, Concludes, Denies, Display, Ended, IsCall, IsOwn, IsServed, Nexts, Putting, Puts, Replies, Replying, Request, Telling, Tells, done, failed, rejected, stopped, told}
use Rattle.vhost_c_backend.specs.declared.replies.Form.{Form}
use Rattle.vhost_c_backend.specs.declared.replies.Form.TheVariants as form
use Rattle.vhost_c_backend.specs.declared.replies.Reply.{Reply as Lent}
use Rattle.vhost_c_backend.specs.declared.replies.Reply.TheVariants as reply
use Rattle.vhost_c_backend.specs.declared.served.Served.{Served}
use Rattle.vhost_c.specs.Backend.{OpensBackend, opened, was_open, no_room}
use Rattle.vhost_c.specs.Calls.{AtBoth, none, some, is_named}
use Rattle.vhost_c.specs.ProgramBackend.{Does, IsAlike, IsCalled, IsConcluded, IsDenied, IsSound, Leaves, LeavesNext, LeavesReply, ReadsTo, RepliesBy, is_early, is_harmless, is_late, read_refusals, refusals, reply_refusals}
use Rattle.vhost_c.specs.declared.places.Places.{Places}
use Rattle.vhost_c.specs.declared.places.ProgramAnswer.{ProgramAnswer}
use Rattle.vhost_c.specs.declared.program_backend.BackendCall.{BackendCall}
use Rattle.vhost_c.specs.declared.program_backend.BackendCall.TheVariants.{Open, SetProfile, Receive, End as Ends, ToSend, Next, Read, Reply, Claim, Unclaimed, Abandon, Close}
use Rattle.vhost_c.specs.declared.program_backend.BackendRead.{BackendRead}
use Rattle.vhost_c.specs.declared.program_backend.BackendRead.TheVariants as read
use Rattle.vhost_c.specs.declared.program_backend.BackendReply.{BackendReply}
use Rattle.vhost_c.specs.declared.program_backend.BackendReply.TheVariants as answer
use Rattle.vhost_c.proofs.Calling as calling
use Rattle.vhost_c.proofs.Calling.{kept, on-held, promised}
use Rattle.vhost_c.proofs.AskRefusals.{seen_number, is-seen}
use Rattle.vhost_c.proofs.Refusing.{more-came, none-handed, none-taken, none-unread, of-want, stop-number, stop-uncut, trouble-sound, trouble-uncut}
use Rattle.vhost_c.proofs.ReplyErrors.{config-given, fd-fine, inflight-fine, number-fine, ring-fine, shmem-fine}
use Rattle.vhost_c.proofs.RowRefusals.{IsOfRequest, row-refused}
use Rattle.vhost_c.proofs.SplitRefusals.{split-refused, whole-head}

-- ---- what is so of each session that calls made

-- No call of its link is cut; what it counted came, while nothing broke it; and a call that is to be replied to was read.
pub record IsGood (s : Served) : Type 0 where
  pub uncut : IsUncut (endpoint_of s.core)
  pub came : (endpoint_of s.core).broken ≡ None → s.incoming.count ≤ length (arrived s)
  pub call : (has_call s ≡ false) ⊎ ((m : Request) × IsServed m s)

abbrev pub Good : Option Served → Type 0
Good None = ⊤
Good (Some s) = IsGood s

abbrev Promises : BackendCall → ℕ → Option Served → Option Served → Type 0
Promises = calling.Promises refusals Leaves is_harmless IsSound Good

-- where there is no session
absent : (call : BackendCall) → is_named (refusals call) 101 ≡ true → Leaves call 101 None None → Promises call 101 None None
absent call named leaves = record { named = named; leaves = λ refused. leaves; sound = λ harmless was. tt; good = tt }

-- a call that is to be replied to is as long as the contracts see it so
module _ (old new : Served) (rest : (view new).rest ≡ (view old).rest) (end : (view new).end ≡ (view old).end) where
  service-is : old.core.service ≡ new.core.service
  service-is = sym (ap {A = Kept} (λ k. k.2) rest)

  lasts : (m : Request) → IsServed m old → IsServed m new
  lasts m x = record {
    read = record {
      pending = x.read.pending;
      is = ap {A = Kept} (λ k. k.0) rest ∙ x.read.is;
      reads = subst (λ bs. Reads bs x.read.pending.request m) (sym (ap {A = Kept} (λ k. k.1) rest)) x.read.reads;
      hands = x.read.hands;
      prepares = subst {A = Service} (λ v. Prepares Channel Display (session_of v.session) m x.read.pending.then v.regions) service-is x.read.prepares;
      settles = subst {A = Service} (λ v. Settles (session_of v.session) m x.read.pending.unanswered) service-is x.read.settles;
      ready = record { broken = ap {A = End} (λ e. e.broken) end ∙ x.read.ready.broken; faulted = ap {A = End} (λ e. e.faulted) end ∙ x.read.ready.faulted };
    };
    call = x.call;
    makes = subst {A = Service} (λ v. IsCall (session_of v.session) m x.call) service-is x.makes;
    form = ap {A = Kept} (λ k. k.4) rest ∙ x.form;
  }

  call-lasts : (has_call old ≡ false) ⊎ ((m : Request) × IsServed m old) → (has_call new ≡ false) ⊎ ((m : Request) × IsServed m new)
  call-lasts (inl idle) = inl (ap {A = Kept} (λ k. is_some k.0) rest ∙ idle)
  call-lasts (inr (m, x)) = inr (m, lasts m x)

  good-since : ((endpoint_of new.core).broken ≡ None → new.incoming.count ≤ length (arrived new)) → IsGood old → IsGood new
  good-since came good = record {
    uncut = alike (endpoint_of old.core) (endpoint_of new.core) (ap {A = End} (λ e. e.link.script) end) (ap {A = End} (λ e. e.broken) end) good.uncut;
    came = came;
    call = call-lasts good.call;
  }

  -- what came is as before
  good-still : arrived new ≡ arrived old → new.incoming ≡ old.incoming → IsGood old → IsGood new
  good-still came incoming good =
      good-since (λ sound. subst (λ (i : Incoming). i.count ≤ length (arrived new)) (sym incoming) (subst (λ (cs : List (Cell PlainHandle)). old.incoming.count ≤ length cs) (sym came) (good.came (sym (ap {A = End} (λ e. e.broken) end) ∙ sound)))) good

-- ---- open, choose, end

opens : {n : ℕ} {old new : Option Served} → OpensBackend old n new → Good old → Promises Open n old new
opens (opened {s = s} new) good = record {
  named = refl;
  leaves = λ refused. absurd (refused refl);
  sound = λ harmless was. ap {A = End} (λ e. e.broken) new.empty.end;
  good = record {
    uncut = is-uncut (endpoint_of s.core) (ap {A = End} (λ e. e.broken) new.empty.end) (ap {A = End} (λ e. e.link.script) new.empty.end);
    came = λ sound. omega (arith, new.empty.count);
    call = inl new.idle;
  };
}
opens was_open good = kept Open 102 refl (λ same. same) refl good
opens no_room good = kept Open 24 refl (λ same. same) refl good

choosing : (p : ℕ) (profile : Option Profile) (s t : Served) (o : Result ⊤ Refusal) → Choosing profile s o t → IsGood s → Promises (SetProfile p) (outcome_number o) (Some s) (Some t)
choosing p (Some profile) s t (Ok u) c good = record {
  named = refl;
  leaves = λ refused. absurd (refused refl);
  sound = λ harmless was. ap {A = End} (λ e. e.broken) c.end ∙ was;
  good = record {
    uncut = alike (endpoint_of s.core) (endpoint_of t.core) (ap {A = End} (λ e. e.link.script) c.end) (ap {A = End} (λ e. e.broken) c.end) good.uncut;
    came = λ sound. subst (λ (i : Incoming). i.count ≤ length (arrived t)) (sym c.incoming) (subst (λ (cs : List (Cell PlainHandle)). s.incoming.count ≤ length cs) (sym c.came) (good.came (sym (ap {A = End} (λ e. e.broken) c.end) ∙ sound)));
    call = inl c.idle;
  };
}
choosing p (Some profile) s t (Err refusal.NotReplied) c good = kept (SetProfile p) 109 refl (λ same. same) (ap Some c.1) good
choosing p None s t (Err (refusal.Protocol code.InvalidParam)) c good = kept (SetProfile p) 1 refl (λ same. same) (ap Some c) good
choosing p profile s t _ c good = absurd c

chosen : (p : ℕ) {n : ℕ} {old new : Option Served} → By (Choosing (profile_at p)) old n new → Good old → Promises (SetProfile p) n old new
chosen p by.none good = absent (SetProfile p) refl refl
chosen p (by.some {s = s} {s' = t} {outcome = o} c) good = choosing p (profile_at p) s t o c good

end-named : (a b : Bool) → is_named (refusals Ends) (if a then 10 else if b then 9 else 5) ≡ true
end-named true b = refl
end-named false true = refl
end-named false false = refl

ending : (s t : Served) (o : Result ⊤ Refusal) → Ending s o t → IsGood s → Promises Ends (outcome_number o) (Some s) (Some t)
ending s t (Err (refusal.Protocol e)) (is, same) good =
    kept Ends (error_number e) (subst (λ n. is_named (refusals Ends) n ≡ true) (sym is) (end-named (s.incoming.count == 0 || missing_of s == 0) (nat_lt s.incoming.count MSG_HEADER_SIZE))) (λ same. same) (ap Some same) good
ending s t _ never good = absurd never

ended : {n : ℕ} {old new : Option Served} → By Ending old n new → Good old → Promises Ends n old new
ended by.none good = absent Ends refl refl
ended (by.some {s = s} {s' = t} {outcome = o} c) good = ending s t o c good

-- ---- move bytes

sends : (p : Places) (bs : List ℕ) (fs : List ℤ) (count : ℕ × ℕ) {n : ℕ} {old new : Option Served} → By (Sending bs fs count) old n new → Good old → Promises (ToSend p) n old new
sends p bs fs count by.none good = absent (ToSend p) refl none
sends p bs fs count (by.some {s = s} {s' = t} {outcome = Ok u} (hands, rest)) good = record {
  named = refl;
  leaves = λ refused. absurd (refused refl);
  sound = λ harmless was. ap {A = End} (λ e. e.broken) rest.end ∙ was;
  good = good-still s t rest.rest rest.end rest.came rest.incoming good;
}
sends p bs fs count (by.some {s = s} {s' = t} {outcome = Err r} (why-not, queue, rest)) good = record {
  named = none-handed (λ n. is_named (refusals (ToSend p)) n ≡ true) bs fs r refl why-not;
  leaves = λ refused. some (λ i. record { queue = queue i; came = rest.came i; incoming = rest.incoming i; end = rest.end i; rest = rest.rest i });
  sound = λ harmless was. ap {A = End} (λ e. e.broken) rest.end ∙ was;
  good = good-still s t rest.rest rest.end rest.came rest.incoming good;
}

receives : (bytes : Vec ℕ Global) (fds : Vec ℤ Global) (bs : List ℕ) (fs : List ℤ) {n : ℕ} {old new : Option Served} → By (Receiving bs fs) old n new → Good old → Promises (Receive bytes fds) n old new
receives bytes fds bs fs by.none good = absent (Receive bytes fds) refl none
receives bytes fds bs fs (by.some {s = s} {s' = t} {outcome = Ok u} ((within, takes, adds, waits), none-refused)) good = record {
  named = refl;
  leaves = λ refused. absurd (refused refl);
  sound = λ harmless was. ap {A = End} (λ e. e.broken) waits.end ∙ was;
  good = good-since s t waits.rest waits.end (λ sound. more-came (arrived s) (arrived t) bs fs s.incoming t.incoming takes adds (good.came (sym (ap {A = End} (λ e. e.broken) waits.end) ∙ sound))) good;
}
receives bytes fds bs fs (by.some {s = s} {s' = t} {outcome = Err r} ((came, incoming, waits), why-not)) good = record {
  named = none-taken (λ n. is_named (refusals (Receive bytes fds)) n ≡ true) (missing_of s) bs fs r refl refl refl why-not;
  leaves = λ refused. some (λ i. record { queue = waits.queue i; came = came i; incoming = incoming i; end = waits.end i; rest = waits.rest i });
  sound = λ harmless was. ap {A = End} (λ e. e.broken) waits.end ∙ was;
  good = good-still s t waits.rest waits.end came incoming good;
}

-- ---- the next request

none-early : (e : declared.Error) → is_early (error_number e) ≡ false
none-early e = none-unread e

-- a harmless answer is another
other : (n : ℕ) → is_harmless n ≡ true → n ≡ 16 → ⊥
other n harmless is = cc (sym (ap is_harmless is) ∙ harmless)

abbrev Met : Session → ⊤ → Message HeardReq PlainHandle → Result ⊤ Error → List (Cell PlainHandle) → Session → ⊤ → Type 0
Met = MeetsRow (fitting (uncalled Channel Display)) (unopened Channel Display) (unopened Channel Display)

heard-number : (s s' : Session) (e : Error) (x : Result Request Error) (cells rest written : List (Cell PlainHandle)) → 12 ≤ length cells → split (heard_in s) allows_handles cells ≡ (x, rest)
    → run.Handles heard_in allows_handles (λ (t : Session). t.failed) Met s tt x (Err e) written s' tt → IsOfRequest (seen_number e)
heard-number s s' e (Ok m) cells rest written many cut met =
    row-refused s m met.1.0 e met.1.1 (sym (settled-answer PlainHandle s m met.1.0) ∙ sym (ap {A = Outcome PlainHandle} (λ o. o.answer) met.1.2) ∙ sym met.2)
heard-number s s' e (Err x) cells rest written many cut handles =
    let same : e ≡ x = cc handles.0 in
    subst (λ y. IsOfRequest (seen_number y)) (sym (same ∙ split-refused (heard_in s) allows_handles cells rest x many cut)) refl

module _ (law : TalksLaw) (p : Places) (s t : Served) (good : IsGood s) (e : declared.Error) (d : Denies e s t) where
  abbrev begun : End
  begun = endpoint_of s.core

  abbrev last : End
  last = endpoint_of d.mid

  abbrev Handled1 : Type 0
  Handled1 = Handled event heard_in allows_handles (λ (k : Session). k.failed) kept_unsent Met begun (session_in s.core) tt (Err (seen e)) last (session_in d.mid) tt

  abbrev Breaks1 : Type 0
  Breaks1 = Breaks event heard_in allows_handles (λ (k : Session). k.failed) kept_unsent Met begun (session_in s.core) tt e last (session_in d.mid) tt

  header-came : begun.broken ≡ None → 12 ≤ length (arrived s)
  header-came sound =
      let whole : missing_of_request s ≡ 0 = sym (ap (λ b. if b then 0 else missing_of_request s) d.due.idle) ∙ d.due.whole in
      let head : 12 ≤ s.incoming.count = whole-head (heard_in (remembers s)) s.incoming whole in
      let came : s.incoming.count ≤ length (arrived s) = good.came sound in
      omega (arith, head, came)

  denied-number : Handled1 ⊎ Breaks1 → IsOfRequest (error_number e)
  denied-number (inl h) =
      let cut = hears-cut law (split (heard_in (remembers s)) allows_handles) begun h.mid h.heard h.hears in
      subst IsOfRequest (is-seen e) (heard-number (remembers s) (session_in d.mid) (seen e) h.heard (arrived s) (stream h.mid) h.written (header-came h.hears.serves.before) cut.0 h.handles)
  denied-number (inr (unread part same device)) = of-want IsOfRequest begun e refl refl refl (troubled begun last e part.trouble good.uncut)
  denied-number (inr (unanswered m mid hears x)) = subst IsOfRequest (sym (stop-number mid last x.written e x.stops (served begun mid hears.serves good.uncut).uncut)) refl

  denied-uncut : Handled1 ⊎ Breaks1 → IsUncut last
  denied-uncut (inl h) = served h.mid last h.replies.serves (served begun h.mid h.hears.serves good.uncut)
  denied-uncut (inr (unread part same device)) = trouble-uncut begun last e part.trouble good.uncut
  denied-uncut (inr (unanswered m mid hears x)) = stop-uncut mid last x.written e x.stops (served begun mid hears.serves good.uncut).uncut

  denied-sound : Handled1 ⊎ Breaks1 → is_harmless (error_number e) ≡ true → begun.broken ≡ None → last.broken ≡ None
  denied-sound (inl h) harmless was = h.replies.serves.after
  denied-sound (inr (unread part same device)) harmless was = trouble-sound begun last e part.trouble good.uncut (other (error_number e) harmless) was
  denied-sound (inr (unanswered m mid hears x)) harmless was = absurd (other (error_number e) harmless (stop-number mid last x.written e x.stops (served begun mid hears.serves good.uncut).uncut))

  denied : Promises (Next p) (error_number e) (Some s) (Some t)
  denied = record {
    named = denied-number d.refuses;
    leaves = λ refused. subst (λ b. LeavesNext b (Some s) (Some t)) (sym (none-early e)) (some (record { idle = d.idle; nothing_came = d.nothing_came; outgoing = d.outgoing }));
    sound = λ harmless was. ap {A = End} (λ x. x.broken) d.end ∙ denied-sound d.refuses harmless was;
    good = record {
      uncut = alike last (endpoint_of t.core) (ap {A = End} (λ x. x.link.script) d.end) (ap {A = End} (λ x. x.broken) d.end) (denied-uncut d.refuses);
      came = λ sound. omega (arith, d.nothing_came);
      call = inl d.idle;
    };
  }

over : (p : Places) (s t : Served) (n : ℤ) (e : declared.Error) → IsGood s → Ended n e s t → Promises (Next p) (error_number e) (Some s) (Some t)
over p s t n e good x = record {
  named = ap {A = declared.Error} (λ (y : declared.Error). is_named (refusals (Next p)) (error_number y)) x.is;
  leaves = λ refused. subst (λ b. LeavesNext b (Some s) (Some t)) (sym (none-early e)) (some (record { idle = x.idle; nothing_came = x.nothing_came; outgoing = x.outgoing }));
  sound = λ harmless was. ap {A = End} (λ y. y.broken) x.end ∙ was;
  good = record {
    uncut = alike (endpoint_of s.core) (endpoint_of t.core) (ap {A = End} (λ y. y.link.script) x.end) (ap {A = End} (λ y. y.broken) x.end) good.uncut;
    came = λ sound. omega (arith, x.nothing_came);
    call = inl x.idle;
  };
}

begins : (p : Places) (k : ℕ) (s t : Served) → IsGood s → Begins k s t → Promises (Next p) 0 (Some s) (Some t)
begins p k s t good b = record {
  named = refl;
  leaves = λ refused. absurd (refused refl);
  sound = λ harmless was. b.sound.after;
  good = record {
    uncut = is-uncut (endpoint_of t.core) b.sound.after (b.sound.uncut good.uncut.uncut);
    came = λ sound. omega (arith, b.nothing_came);
    call = inr (b.message, b.served);
  };
}

nexts : TalksLaw → (p : Places) (k : ℕ) (s t : Served) (o : Result ⊤ Refusal) → Beginning k s o t → IsGood s → Promises (Next p) (outcome_number o) (Some s) (Some t)
nexts law p k s t (Ok u) b good = go (remembers s).failed refl
  where
    go : (mark : Option ℤ) → (remembers s).failed ≡ mark → Promises (Next p) 0 (Some s) (Some t)
    go None is = begins p k s t good (b.0 is)
    go (Some n) is = absurd (b.1 n is)
nexts law p k s t (Err (refusal.Protocol e)) b good = go (remembers s).failed refl
  where
    go : (mark : Option ℤ) → (remembers s).failed ≡ mark → Promises (Next p) (error_number e) (Some s) (Some t)
    go None is = denied law p s t good e (b.0 is)
    go (Some n) is = over p s t n e good (b.1 n is)
nexts law p k s t (Err refusal.NotReplied) b good = kept (Next p) 109 refl (λ same. same) (ap Some b.1) good
nexts law p k s t (Err refusal.NotYet) b good = kept (Next p) 105 refl (λ same. same) (ap Some b.1) good
nexts law p k s t _ b good = absurd b

next : TalksLaw → (p : Places) (k : ℕ) {n : ℕ} {old new : Option Served} → By (Beginning k) old n new → Good old → Promises (Next p) n old new
next law p k by.none good = absent (Next p) refl refl
next law p k (by.some {s = s} {s' = t} {outcome = o} b) good = nexts law p k s t o b good

-- ---- read

-- what is told at once
tells-now : (what : BackendRead) (p : Places) (n : ℕ) (old new : Option Served) → n ≡ 0 → new ≡ old → Good old → Promises (Read what p) n old new
tells-now what p n old new is same good = promised (Read what p) n 0 old new is (kept (Read what p) 0 refl (λ same. same) same good)

or-other : {A : Type 0} (o : Option A) (r : Refusal) → Err r ≡ ok_or o refusal.OtherCall → r ≡ refusal.OtherCall
or-other None r is = cc is
or-other (Some a) r is = absurd (cc is)

-- an argument that is not told is none of the call
untold : {A : Type 0} (of : List PlainHandle → DeviceCall → Option A) (s : Served) (r : Refusal) → IsGood s → Tells of s (Err r) → r ≡ refusal.OtherCall
untold of s r good tells = go good.call
  where
    go : (has_call s ≡ false) ⊎ ((m : Request) × IsServed m s) → r ≡ refusal.OtherCall
    go (inl idle) = cc (tells.none idle)
    go (inr (m, x)) = let one = tells.one m x in or-other (of m.handles one.0) r one.2

telling : {A : Type 0} (what : BackendRead) (p : Places) (of : List PlainHandle → DeviceCall → Option A) (a : A) → is_named (read_refusals what) 101 ≡ true → is_named (read_refusals what) 110 ≡ true
    → {n : ℕ} {old new : Option Served} → By (Telling of a) old n new → Good old → Promises (Read what p) n old new
telling what p of a gone other-call by.none good = absent (Read what p) gone refl
telling what p of a gone other-call (by.some {s = s} {s' = t} {outcome = Ok u} (tells, same)) good = kept (Read what p) 0 refl (λ same. same) (ap Some same) good
telling what p of a gone other-call (by.some {s = s} {s' = t} {outcome = Err r} (tells, same)) good =
    kept (Read what p) (number r) (subst (λ q. is_named (read_refusals what) (number q) ≡ true) (sym (untold of s r good tells)) other-call) (λ same. same) (ap Some same) good

-- a list that is not put has no room, or is none of the call
unput-list : {A B : Type 0} (o : Option (List A × B)) (before after : List A) (r : Refusal) → PutsList o before after (Err r) → (r ≡ refusal.NoRoom) ⊎ (r ≡ refusal.OtherCall)
unput-list (Some x) before after r puts = inl puts.0
unput-list None before after r puts = inr puts.0

unput-name : (o : Option (List ℕ)) (before after : List ℕ) (r : Refusal) → PutsNamed o before after (Err r) → (r ≡ refusal.NoRoom) ⊎ (r ≡ refusal.OtherCall)
unput-name (Some x) before after r puts = inl puts.0
unput-name None before after r puts = inr puts.0

module _ {A B : Type 0} (what : BackendRead) (p : Places) (puts : List PlainHandle → DeviceCall → List A → List A → Result B Refusal → Type 0)
    (unput : (hs : List PlainHandle) (c : DeviceCall) (before after : List A) (r : Refusal) → puts hs c before after (Err r) → (r ≡ refusal.NoRoom) ⊎ (r ≡ refusal.OtherCall))
    (gone : is_named (read_refusals what) 101 ≡ true) (other-call : is_named (read_refusals what) 110 ≡ true) (full : is_named (read_refusals what) 107 ≡ true) where
  named-so : (r : Refusal) → (r ≡ refusal.NoRoom) ⊎ (r ≡ refusal.OtherCall) → is_named (read_refusals what) (number r) ≡ true
  named-so r (inl is) = subst (λ q. is_named (read_refusals what) (number q) ≡ true) (sym is) full
  named-so r (inr is) = subst (λ q. is_named (read_refusals what) (number q) ≡ true) (sym is) other-call

  unread-so : (s : Served) (before after : List A) (r : Refusal) → IsGood s → Puts puts s before after (Err r) → (r ≡ refusal.NoRoom) ⊎ (r ≡ refusal.OtherCall)
  unread-so s before after r good x = go good.call
    where
      go : (has_call s ≡ false) ⊎ ((m : Request) × IsServed m s) → (r ≡ refusal.NoRoom) ⊎ (r ≡ refusal.OtherCall)
      go (inl idle) = let is = (x.none idle).0 in inr (cc is)
      go (inr (m, served)) = let one = x.one m served in unput m.handles one.0 before after r one.2

  putting : (before after : List A) (b : B) {n : ℕ} {old new : Option Served} → By (Putting puts before after b) old n new → Good old → Promises (Read what p) n old new
  putting before after b by.none good = absent (Read what p) gone refl
  putting before after b (by.some {s = s} {s' = t} {outcome = Ok u} (x, same)) good = kept (Read what p) 0 refl (λ same. same) (ap Some same) good
  putting before after b (by.some {s = s} {s' = t} {outcome = Err r} (x, same)) good = kept (Read what p) (number r) (named-so r (unread-so s before after r good x)) (λ same. same) (ap Some same) good

reads-to : (what : BackendRead) (p q : Places) (n : ℕ) (old new : Option Served) → ReadsTo what p q old n new → Good old → Promises (Read what p) n old new
reads-to read.Missing p q n old new (is, missing, same) good = tells-now read.Missing p n old new is same good
reads-to read.Inactive p q n old new (is, inactive, same) good = tells-now read.Inactive p n old new is same good
reads-to read.Ended p q n old new (is, over, same) good = tells-now read.Ended p n old new is same good
reads-to read.Number p q n old new does good = telling read.Number p _ _ refl refl does good
reads-to read.Ring p q n old new does good = telling read.Ring p _ _ refl refl does good
reads-to read.Vring p q n old new does good = telling read.Vring p _ _ refl refl does good
reads-to read.RingFd p q n old new does good = telling read.RingFd p _ _ refl refl does good
reads-to read.Regions p q n old new does good = putting read.Regions p _ (λ hs c before after r. unput-list (regions_arg hs c) before after r) refl refl refl _ _ _ does good
reads-to read.Config p q n old new does good = putting read.Config p _ (λ hs c before after r. unput-list (config_arg c) before after r) refl refl refl _ _ _ does good
reads-to read.Fd p q n old new does good = telling read.Fd p _ _ refl refl does good
reads-to read.Name p q n old new does good = putting read.Name p _ (λ hs c before after r. unput-name (name_arg c) before after r) refl refl refl _ _ _ does good
reads-to read.Inflight p q n old new does good = telling read.Inflight p _ _ refl refl does good
reads-to read.Transfer p q n old new does good = telling read.Transfer p _ _ refl refl does good
reads-to read.Log p q n old new does good = telling read.Log p _ _ refl refl does good
reads-to read.Other p q n old new does good = putting read.Other p _ (λ hs c before after r. unput-list (other_arg c) before after r) refl refl refl _ _ _ does good
reads-to read.Fds p q n old new does good = putting read.Fds p _ (λ hs c before after r. unput-list (fds_arg hs c) before after r) refl refl refl _ _ _ does good

-- ---- reply

abbrev Row : Type 0
Row = Step PlainHandle Channel Display

-- a number with which a reply is refused, before it was one
abbrev Refuses : BackendReply → ℕ → Type 0
Refuses r n = (is_named (reply_refusals r) n ≡ true) × (is_late n ≡ false)

module _ (r : BackendReply) (gives : Form → DeviceAnswer PlainHandle → Type 0) (rejects : Form → Refusal → Type 0)
    (err : (s : Session) (m : Request) (a : DeviceAnswer PlainHandle) (b : Beside) (o : Outcome PlainHandle) (c : DeviceCall) → gives (form_in c) a → Makes (step_of {B = Channel} {G = Display} s m c) → FollowsFrom {B = Channel} {G = Display} s b a (step_of s m c) o
    → (e : Error) → o.answer ≡ Err e → IsOwn a e → (e ≡ BackendInternalError) × (is_named (reply_refusals r) 17 ≡ true))
    (refuses : (f : Form) (why : Refusal) → rejects f why → Refuses r (number why))
    (gone : is_named (reply_refusals r) 101 ≡ true) (nothing : is_named (reply_refusals r) 104 ≡ true) (short : is_named (reply_refusals r) 16 ≡ true) where
  unasked : (s t : Served) (out : Result ⊤ Refusal) → IsGood s → out ≡ Err refusal.NothingAsked → t ≡ s → Promises (Reply r) (outcome_number out) (Some s) (Some t)
  unasked s t out good is same = promised (Reply r) (outcome_number out) 104 (Some s) (Some t) (ap outcome_number is) (kept (Reply r) 104 nothing (λ same. same) (ap Some same) good)

  module _ (place : VhostUserShMemConfig) (s t : Served) (good : IsGood s) (m : Request) where
    uncut-after : {a : DeviceAnswer PlainHandle} {out : Result ⊤ declared.Error} → Concludes m place a s t out → IsUncut (endpoint_of t.core)
    uncut-after (told rs o follows is queue came memory sound own-error) = is-uncut (endpoint_of t.core) sound.after (sound.uncut good.uncut.uncut)
    uncut-after (stopped {e = e} rs o follows stops memory) = stop-uncut (endpoint_of s.core) (endpoint_of t.core) _ e stops good.uncut.uncut

    came-after : {a : DeviceAnswer PlainHandle} {out : Result ⊤ declared.Error} → Concludes m place a s t out → (endpoint_of t.core).broken ≡ None → s.incoming.count ≤ length (arrived t)
    came-after (told rs o follows is queue came memory sound own-error) still = subst (λ (cs : List (Cell PlainHandle)). s.incoming.count ≤ length cs) (sym came) (good.came sound.before)
    came-after (stopped rs o follows stops memory) still = absurd (cc (sym still ∙ stops.broken))

    good-replied : {out : Result ⊤ declared.Error} → Replies m gives place s out t → IsGood t
    good-replied d = record {
      uncut = uncut-after d.concludes;
      came = λ still. subst (λ (i : Incoming). i.count ≤ length (arrived t)) (sym d.rest.incoming) (came-after d.concludes still);
      call = inl d.rest.idle;
    }

    fine-sound : {a : DeviceAnswer PlainHandle} → Concludes m place a s t (Ok tt) → (endpoint_of t.core).broken ≡ None
    fine-sound (told rs o follows is queue came memory sound own-error) = sound.after

    -- why a reply failed, and what that leaves
    abbrev Why : ℕ → Type 0
    Why n = ((n ≡ 17) × (is_named (reply_refusals r) 17 ≡ true) × ((endpoint_of t.core).broken ≡ None)) ⊎ (n ≡ 16)

    own-number : (e : declared.Error) → seen e ≡ BackendInternalError → error_number e ≡ 17
    own-number e is = sym (is-seen e) ∙ ap seen_number is

    why : (e : declared.Error) (c : DeviceCall) (a : DeviceAnswer PlainHandle) → IsServed m s → IsCall (remembers s) m c → gives (form_in c) a → Concludes m place a s t (Err e) → Why (error_number e)
    why e c a x makes given (told rs o follows is queue came memory sound own-error) =
        let at : o.answer ≡ Err (seen e) = sym (settled-answer PlainHandle (remembers s) m o) ∙ is in
        let made : Makes (step_of {B = Channel} {G = Display} (remembers s) m c) = subst {A = Row} (λ y. Makes y) (sym x.read.prepares.row ∙ makes) x.read.prepares.makes in
        let goes : FollowsFrom {B = Channel} {G = Display} (remembers s) (beside rs place) a (step_of (remembers s) m c) o = subst {A = Row} (λ y. FollowsFrom (remembers s) (beside rs place) a y o) makes follows in
        let both = err (remembers s) m a (beside rs place) o c given made goes (seen e) at (own-error (seen e) at) in
        inl (own-number e both.0, both.1, sound.after)
    why e c a x makes given (stopped rs o follows stops memory) = inr (stop-number (endpoint_of s.core) (endpoint_of t.core) _ e stops good.uncut.uncut)

    by-why : (n : ℕ) → Why n → IsConcluded s t → IsGood t → Promises (Reply r) n (Some s) (Some t)
    by-why n (inl (is, internal, sound)) concluded new = promised (Reply r) n 17 (Some s) (Some t) is (record { named = internal; leaves = λ refused. some concluded; sound = λ harmless was. sound; good = new })
    by-why n (inr is) concluded new = promised (Reply r) n 16 (Some s) (Some t) is (record { named = short; leaves = λ refused. some concluded; sound = λ harmless was. absurd (cc harmless); good = new })

    replies : (out : Result ⊤ Refusal) → IsServed m s → Replying m gives rejects place s out t → Promises (Reply r) (outcome_number out) (Some s) (Some t)
    replies _ x (done d) = record { named = refl; leaves = λ refused. absurd (refused refl); sound = λ harmless was. fine-sound d.concludes; good = good-replied d }
    replies _ x (failed {e = e} d) = by-why (error_number e) (why e d.call d.answer x d.makes d.is_given d.concludes) (record { idle = d.rest.idle; incoming = d.rest.incoming }) (good-replied d)
    replies _ x (rejected {r = because} d) =
        let at = refuses _ because d.is_rejected in
        kept (Reply r) (number because) at.0 (λ same. subst (λ b. LeavesReply b (Some s) (Some t)) (sym at.1) same) (ap Some d.same) good

  answers : (place : VhostUserShMemConfig) (s t : Served) (out : Result ⊤ Refusal) → Answers gives rejects place s out t → IsGood s → Promises (Reply r) (outcome_number out) (Some s) (Some t)
  answers place s t out x good = go good.call
    where
      go : (has_call s ≡ false) ⊎ ((m : Request) × IsServed m s) → Promises (Reply r) (outcome_number out) (Some s) (Some t)
      go (inl idle) = let is = x.none idle in unasked s t out good is.0 is.1
      go (inr (m, served)) = replies place s t good m out served (x.one m served)

-- what a reply gives is an error for a refusal alone
at-fine : (a : DeviceAnswer PlainHandle) (e : Error) → device_in a ≡ Ok tt → device_in a ≡ Err e → e ≡ BackendInternalError
at-fine a e fine is = absurd (cc (sym fine ∙ is))

bases-fine : (a : DeviceAnswer PlainHandle) (bs : List ℕ) → bases_in a ≡ Ok (Some bs) → device_in a ≡ Ok tt
bases-fine (device.Bases (Ok (Some v))) bs is = refl
bases-fine (device.Bases (Ok None)) bs is = refl
bases-fine (device.Bases (Err e)) bs is = absurd (cc is)
bases-fine _ bs is = absurd (cc is)

bytes-fine : (a : DeviceAnswer PlainHandle) (bs : List ℕ) → bytes_in a ≡ Ok bs → device_in a ≡ Ok tt
bytes-fine (device.Bytes (Ok v)) bs is = refl
bytes-fine (device.Bytes (Err e)) bs is = absurd (cc is)
bytes-fine _ bs is = absurd (cc is)

abbrev in-device : DeviceAnswer PlainHandle → Result ⊤ Error
in-device a = device_in a

gives-own : (f : Form) (r : Lent) (a : DeviceAnswer PlainHandle) → Gives f r a → (e : Error) → device_in a ≡ Err e → e ≡ BackendInternalError
gives-own f reply.Refused a is e at = let both : Err BackendInternalError ≡ Err e = sym (ap {A = DeviceAnswer PlainHandle} in-device is) ∙ at in sym (cc both)
gives-own form.Done reply.Done a is e at = at-fine a e (ap {A = DeviceAnswer PlainHandle} in-device is) at
gives-own (form.Table false) reply.Done a is e at = at-fine a e (ap {A = DeviceAnswer PlainHandle} in-device is) at
gives-own (form.Region false) reply.Done a is e at = at-fine a e (ap {A = DeviceAnswer PlainHandle} in-device is) at
gives-own form.Number (reply.Number n) a is e at = at-fine a e (ap {A = DeviceAnswer PlainHandle} in-device is) at
gives-own form.Ring (reply.Ring i n) a is e at = at-fine a e (ap {A = DeviceAnswer PlainHandle} in-device is) at
gives-own (form.Table true) (reply.Bases bs) a is e at = at-fine a e (bases-fine a bs.now is) at
gives-own (form.Region true) (reply.Bases bs) a is e at = at-fine a e (ap {A = DeviceAnswer PlainHandle} in-device is) at
gives-own form.Config (reply.Config bs) a is e at = at-fine a e (bytes-fine a bs.now is) at
gives-own form.Fd (reply.Fd fd) a (h, given, is) e at = at-fine a e (ap {A = DeviceAnswer PlainHandle} in-device is) at
gives-own form.StateFd (reply.Fd fd) a is e at = at-fine a e (ap {A = DeviceAnswer PlainHandle} in-device is) at
gives-own form.Inflight (reply.Inflight i fd) a (h, given, is) e at = at-fine a e (ap {A = DeviceAnswer PlainHandle} in-device is) at
gives-own f r a is e at = absurd is

-- why a reply gives no answer, by number
rejects-so : (P : ℕ → Type 0) (r : Lent) → ((f : Form) → fits f r ≡ false → P 110) → (IsCopied r → P 24) → (IsBad r → P 1) → (f : Form) (why : Refusal) → Rejects f r why → P (number why)
rejects-so P r unfit copied bad f refusal.OtherCall x = unfit f x
rejects-so P r unfit copied bad f (refusal.Protocol code.OutOfMemory) x = copied x.1
rejects-so P r unfit copied bad f (refusal.Protocol code.InvalidParam) x = bad x.1
rejects-so P r unfit copied bad f _ x = absurd x

shmem-rejects : (P : ℕ → Type 0) (sizes : List ℕ) → P 110 → P 1 → (f : Form) (why : Refusal) → RejectsShmem sizes f why → P (number why)
shmem-rejects P sizes unfit bad f refusal.OtherCall x = unfit
shmem-rejects P sizes unfit bad f (refusal.Protocol code.InvalidParam) x = bad
shmem-rejects P sizes unfit bad f _ x = absurd x

-- an error of a reply that may be one: the device's refusal, or bases that don't do
may-fail : (r : BackendReply) (gives : Form → DeviceAnswer PlainHandle → Type 0) → ((f : Form) (a : DeviceAnswer PlainHandle) → gives f a → (e : Error) → device_in a ≡ Err e → e ≡ BackendInternalError) → is_named (reply_refusals r) 17 ≡ true
    → (s : Session) (m : Request) (a : DeviceAnswer PlainHandle) (b : Beside) (o : Outcome PlainHandle) (c : DeviceCall) → gives (form_in c) a → Makes (step_of {B = Channel} {G = Display} s m c) → FollowsFrom {B = Channel} {G = Display} s b a (step_of s m c) o
    → (e : Error) → o.answer ≡ Err e → IsOwn a e → (e ≡ BackendInternalError) × (is_named (reply_refusals r) 17 ≡ true)
may-fail r gives own internal s m a b o c given makes follows e is (inl at) = (own (form_in c) a given e at, internal)
may-fail r gives own internal s m a b o c given makes follows e is (inr at) = (at, internal)

-- there is none of another
never : {P : Type 0} (x : Result ⊤ Error) (e : Error) → x ≡ Ok tt → x ≡ Err e → P
never x e fine is = absurd (cc (sym fine ∙ is))

-- a reply of a lent value
lent : (r : BackendReply) (l : Lent)
    → ((s : Session) (m : Request) (a : DeviceAnswer PlainHandle) (b : Beside) (o : Outcome PlainHandle) (c : DeviceCall) → Gives (form_in c) l a → Makes (step_of {B = Channel} {G = Display} s m c) → FollowsFrom {B = Channel} {G = Display} s b a (step_of s m c) o
    → (e : Error) → o.answer ≡ Err e → IsOwn a e → (e ≡ BackendInternalError) × (is_named (reply_refusals r) 17 ≡ true))
    → ((f : Form) (why : Refusal) → Rejects f l why → Refuses r (number why)) → is_named (reply_refusals r) 101 ≡ true → is_named (reply_refusals r) 104 ≡ true → is_named (reply_refusals r) 16 ≡ true
    → {n : ℕ} {old new : Option Served} → By (Answering l) old n new → Good old → Promises (Reply r) n old new
lent r l err refuses gone nothing short by.none good = absent (Reply r) gone refl
lent r l err refuses gone nothing short (by.some {s = s} {s' = t} {outcome = o} x) good =
    answers r (λ f a. Gives f l a) (λ f e. Rejects f l e) err refuses gone nothing short s.core.service.shmem s t o x good

replies-to : (r : BackendReply) (n : ℕ) (old new : Option Served) → RepliesBy r old n new → Good old → Promises (Reply r) n old new
replies-to answer.Done n old new does good =
    lent answer.Done reply.Done (may-fail answer.Done (λ f a. Gives f reply.Done a) (λ f a. gives-own f reply.Done a) refl)
    (rejects-so (Refuses answer.Done) reply.Done (λ f unfit. (refl, refl)) (λ bad. absurd bad) (λ bad. absurd bad)) refl refl refl does good
replies-to answer.Refused n old new does good =
    lent answer.Refused reply.Refused (may-fail answer.Refused (λ f a. Gives f reply.Refused a) (λ f a. gives-own f reply.Refused a) refl)
    (rejects-so (Refuses answer.Refused) reply.Refused (λ f unfit. absurd (cc unfit)) (λ bad. absurd bad) (λ bad. absurd bad)) refl refl refl does good
replies-to (answer.Number k) n old new does good =
    lent (answer.Number k) (reply.Number k) (λ s m a b o c given makes follows e is own. never o.answer e (number-fine s m a b o c k given follows) is)
    (rejects-so (Refuses (answer.Number k)) (reply.Number k) (λ f unfit. (refl, refl)) (λ bad. absurd bad) (λ bad. absurd bad)) refl refl refl does good
replies-to (answer.Ring i k) n old new does good =
    lent (answer.Ring i k) (reply.Ring i k) (λ s m a b o c given makes follows e is own. never o.answer e (ring-fine s m a b o c i k given follows) is)
    (rejects-so (Refuses (answer.Ring i k)) (reply.Ring i k) (λ f unfit. (refl, refl)) (λ bad. absurd bad) (λ bad. absurd bad)) refl refl refl does good
replies-to (answer.Bases bases) n old new (l, is, does) good =
    lent (answer.Bases bases) (reply.Bases l) (may-fail (answer.Bases bases) (λ f a. Gives f (reply.Bases l) a) (λ f a. gives-own f (reply.Bases l) a) refl)
    (rejects-so (Refuses (answer.Bases bases)) (reply.Bases l) (λ f unfit. (refl, refl)) (λ copied. (refl, refl)) (λ bad. absurd bad)) refl refl refl does good
replies-to (answer.Config bytes) n old new (l, is, does) good =
    lent (answer.Config bytes) (reply.Config l) (λ s m a b o c given makes follows e at own. never o.answer e (config-given s m a b o c l given follows) at)
    (rejects-so (Refuses (answer.Config bytes)) (reply.Config l) (λ f unfit. (refl, refl)) (λ copied. (refl, refl)) (λ bad. (refl, refl))) refl refl refl does good
replies-to (answer.Fd fd) n old new does good =
    lent (answer.Fd fd) (reply.Fd fd) (λ s m a b o c given makes follows e is own. never o.answer e (fd-fine s m a b o c fd given makes follows) is)
    (rejects-so (Refuses (answer.Fd fd)) (reply.Fd fd) (λ f unfit. (refl, refl)) (λ bad. absurd bad) (λ bad. (refl, refl))) refl refl refl does good
replies-to (answer.Inflight area fd) n old new does good =
    lent (answer.Inflight area fd) (reply.Inflight area fd) (λ s m a b o c given makes follows e is own. never o.answer e (inflight-fine s m a b o c area fd given follows) is)
    (rejects-so (Refuses (answer.Inflight area fd)) (reply.Inflight area fd) (λ f unfit. (refl, refl)) (λ bad. absurd bad) (λ bad. (refl, refl))) refl refl refl does good
replies-to (answer.Shmem sizes count) n old new by.none good = absent (Reply (answer.Shmem sizes count)) refl refl
replies-to (answer.Shmem sizes count) n old new (by.some {s = s} {s' = t} {outcome = o} x) good =
    answers (answer.Shmem sizes count) GivesShmem (RejectsShmem sizes.items) (λ s m a b o c given makes follows e is own. never o.answer e (shmem-fine s m a b o c given follows) is)
    (shmem-rejects (Refuses (answer.Shmem sizes count)) sizes.items (refl, refl) (refl, refl)) refl refl refl _ s t o x good

-- ---- descriptors

-- nothing changed but which are held
holds : (call : BackendCall) (s t : Served) → t ≡ record s { held = t.held } → IsGood s → Promises call 0 (Some s) (Some t)
holds call s t same good = record {
  named = refl;
  leaves = λ refused. absurd (refused refl);
  sound = λ harmless was. ap {A = Served} (λ x. (endpoint_of x.core).broken) same ∙ was;
  good = good-still s t (ap {A = Served} (λ x. (view x).rest) same) (ap {A = Served} (λ x. (view x).end) same) (ap {A = Served} (λ x. arrived x) same) (ap {A = Served} (λ x. x.incoming) same) good;
}

not-claimed : (fd : ℤ) (s t : Served) (r : Refusal) → Claiming fd s (Err r) t → IsGood s → Promises (Claim fd) (number r) (Some s) (Some t)
not-claimed fd s t refusal.OtherCall x good = kept (Claim fd) 110 refl (λ same. same) (ap Some x.1) good
not-claimed fd s t _ x good = absurd x

-- ---- all calls

promises : TalksLaw → (call : BackendCall) (a : ProgramAnswer) (old new : Option Served) → Does call a old new → Good old → Promises call a.number old new
promises law Open a old new does good = opens does good
promises law (SetProfile p) a old new does good = chosen p does good
promises law (Receive bytes fds) a old new does good = receives bytes fds bytes.items fds.items does.0 good
promises law Ends a old new does good = ended does good
promises law (ToSend p) a old new does good = sends p a.places.bytes.items a.places.fds.items (a.places.byte_count, a.places.fd_count) does.0 good
promises law (Next p) a old new does good = next law p a.places.code does good
promises law (Read what p) a old new does good = reads-to what p a.places a.number old new does good
promises law (Reply r) a old new does good = replies-to r a.number old new does good
promises law (Claim fd) a old new does good = on-held Good (Promises (Claim fd)) (Claiming fd) (absent (Claim fd) refl refl) (λ s t u x. holds (Claim fd) s t x.2) (not-claimed fd) does good
promises law (Unclaimed p) a old new does good = on-held Good (Promises (Unclaimed p)) (LettingGo p.fds.items a.places.count a.places.fds.items) (absent (Unclaimed p) refl refl) (λ s t u x. holds (Unclaimed p) s t x.1) (λ s t r x. absurd x) does good
promises law Abandon a old new does good = on-held Good (Promises Abandon) Abandoning (absent Abandon refl refl) (λ s t u x. holds Abandon s t x.1) (λ s t r x. absurd x) does good
promises law Close a old new (is, gone) good = promised Close a.number 0 old new is (record { named = refl; leaves = λ refused. absurd (refused refl); sound = λ harmless was. subst IsSound (sym gone) tt; good = subst Good (sym gone) tt })

-- each call of a session that calls made is one that promises this, and leaves such a session
pub step : TalksLaw → (call : BackendCall) (a : ProgramAnswer) (old new : Option Served) → Does call a old new → Good old → IsCalled call a old new × Good new
step law call a old new does good = let p = promises law call a old new does good in (record { does = does; named = p.named; leaves = p.leaves; sound = p.sound }, p.good)

-- a session that was sound is after a call whose answer is harmless
pub keeps-sound : (call : BackendCall) (a : ProgramAnswer) (old new : Option Served) → IsCalled call a old new → is_harmless a.number ≡ true → IsSound old → IsSound new
keeps-sound call a old new c harmless was = c.sound harmless was
