-- What a call of a program promises beside what it does, and what that makes of all its calls.
use Rattle.std.proofs.Common.{◌≡◌, ℕ, ℤ, suc, true, false, List, [], ◌∷◌, ◌++◌, length, append_assoc, Option, Some, None, Result, Ok, Err, inl, inr, refl, sym, ap, subst, ◌∙◌}
use Rattle.std.specs.Global.{Global}
use Rattle.std.specs.Prelude.{Vec, ◌≢◌, ⊤, All}
use Rattle.std.proofs.lemmas.List.{append-nil}
use Rattle.std.proofs.lemmas.List.Elements.{All-head, All-tail}
use Rattle.vhost_message.specs.Header.{Header}
use Rattle.vhost_message.specs.MsgHeader.{fields_of}
use Rattle.vhost_message.specs.declared.error.Error as declared
use Rattle.vhost_message.specs.declared.error.Error.TheVariants as code
use Rattle.vhost_protocol.specs.Error.{Error, seen}
use Rattle.vhost_protocol.specs.FrontendCall.{FrontendCall, Frontend, Value}
use Rattle.vhost_protocol.specs.declared.asked.Awaited.{Awaited}
use Rattle.vhost_protocol.specs.declared.profile.Profile.{Profile}
use Rattle.vhost_link.specs.Ends.{Ends}
use Rattle.vhost_link.specs.declared.plain.PlainHandle.{PlainHandle}
use Rattle.vhost_frontend_core.specs.Frontend.{endpoint_of, session_of}
use Rattle.vhost_frontend_core.specs.Taking.{unread, read}
use Rattle.vhost_frontend_core.specs.Values.{call_of, answer_of}
use Rattle.vhost_frontend_core.specs.ValueHalves.{TakesResult}
use Rattle.vhost_frontend_core.specs.declared.internal.FrontendInternal.{FrontendInternal}
use Rattle.vhost_frontend_core.specs.declared.values.call.FrontendCall as code-call
use Rattle.vhost_frontend_core.specs.declared.values.answer.FrontendAnswer.{FrontendAnswer}
use Rattle.vhost_frontend_core.specs.declared.values.answer.FrontendAnswer.TheVariants as answer
use Rattle.vhost_c_common.specs.ByNumber.{By}
use Rattle.vhost_c_common.specs.ByNumber as by
use Rattle.vhost_c_common.specs.Number.{number, error_number, outcome_number}
use Rattle.vhost_c_common.specs.Profile.{profile_at}
use Rattle.vhost_c_common.specs.View.{End, IsUncut, Lasts, HandsNone, GivesNone, TakesNone}
use Rattle.vhost_c_common.specs.declared.outgoing.Outgoing.{Outgoing}
use Rattle.vhost_c_common.specs.declared.refusal.Refusal.{Refusal}
use Rattle.vhost_c_common.specs.declared.refusal.Refusal.TheVariants as refusal
use Rattle.vhost_c_common.proofs.Wants.{lasts}
use Rattle.vhost_c.specs.Answers.{Reads, number_of, bases_of, config_of, fd_of, inflight_of, shmem_of}
use Rattle.vhost_c_frontend.specs.Session.{Abandoning, Claiming, LettingGo, Reading, Opens, opened, was_open, no_room, ChoosesBy, Choosing, Asking, Asks, sent, at_once, Fails, refused, no_queue, no_list, no_answer, no_request, was_broken, Refused, busy, fails, KeepsAll, Stays, Rejecting, Sending, Receiving, Takes, kept, failed, other_size, nothing_asked, not_yet, remembers, missing_of}
use Rattle.vhost_c_frontend.specs.declared.session.Session.{Session}
use Rattle.vhost_c.specs.Calls.{Runs, over, goes_on, AtBoth, none, some, is_named}
use Rattle.vhost_c.specs.Program.{ReadsTo, Does, IsCalled, IsAlike, is_early, LeavesTaken, Leaves, IsSound, is_harmless, ends_none, refusals}
use Rattle.vhost_c.specs.declared.places.Places.{Places}
use Rattle.vhost_c.specs.declared.places.ProgramAnswer.{ProgramAnswer}
use Rattle.vhost_c.specs.declared.program.ProgramCall.{ProgramCall}
use Rattle.vhost_c.specs.declared.program.ProgramCall.TheVariants.{Open, SetProfile, Ask, AskInvalid, AskWithoutMemory, ToSend, Receive, Take, Read, Claim, Unclaimed, Abandon, Close}
use Rattle.vhost_c.specs.declared.program.ProgramRead.{ProgramRead}
use Rattle.vhost_c.specs.declared.program.ProgramRead.TheVariants.{Missing, Inactive, Number, Bases, Config, Fd, Inflight, Shmem}
use Rattle.vhost_c.proofs.Calling.{on-held}
use Rattle.vhost_c.proofs.AskRefusals.{seen_number, is-seen, ask-refused}
use Rattle.vhost_c.proofs.TakeRefusals.{take-refused}

-- What a call promises beside what it does, by its number.
pub record Promises (call : ProgramCall) (n : ℕ) (old new : Option Session) : Type 0 where
  pub named : is_named (refusals call) n ≡ true
  pub leaves : n ≢ 0 → Leaves call n old new
  pub sound : is_harmless n ≡ true → IsSound old → IsSound new

promised : (call : ProgramCall) (n m : ℕ) (old new : Option Session) → n ≡ m → Promises call m old new → Promises call n old new
promised call n m old new is p = subst (λ k. Promises call k old new) (sym is) p

-- where there is no session
absent : (call : ProgramCall) → is_named (refusals call) 101 ≡ true → Leaves call 101 None None → Promises call 101 None None
absent call named leaves = record { named = named; leaves = λ refused. leaves; sound = λ harmless was. tt }

-- ---- open and choose

opens : {m n : ℕ} {old new : Option Session} → Opens m old n new → Promises (Open m) n old new
opens (opened {s = s} new) = record { named = refl; leaves = λ refused. absurd (refused refl); sound = λ harmless was. ap {A = End} (λ e. e.broken) new.empty.end }
opens was_open = record { named = refl; leaves = λ refused. refl; sound = λ harmless was. was }
opens no_room = record { named = refl; leaves = λ refused. refl; sound = λ harmless was. tt }

chosen : (p : ℕ) (profile : Profile) {n : ℕ} {old new : Option Session} → By (Choosing profile) old n new → Promises (SetProfile p) n old new
chosen p profile by.none = absent (SetProfile p) refl refl
chosen p profile (by.some {s = s} {s' = t} {outcome = Ok done} changes) = record { named = refl; leaves = λ refused. absurd (refused refl); sound = λ harmless was. ap {A = End} (λ e. e.broken) changes.end ∙ was }
chosen p profile (by.some {outcome = Err r} never) = absurd never

chooses : (p : ℕ) (profile : Option Profile) (n : ℕ) (old new : Option Session) → ChoosesBy profile old n new → Promises (SetProfile p) n old new
chooses p (Some profile) n old new by = chosen p profile by
chooses p None n old new (is, same) = promised (SetProfile p) n 1 old new is (record { named = refl; leaves = λ refused. same; sound = λ harmless was. subst IsSound (sym same) was })

-- ---- ask

-- an error that is harmless leaves an end as sound as it was
still : (e : declared.Error) (old new : End) → is_harmless (error_number e) ≡ true → Lasts e old new → new.broken ≡ old.broken
still (code.SocketRetry c) old new harmless l = absurd cc
still _ old new harmless l = l

why : (call : code-call.FrontendCall) (s : Session) (e : declared.Error) → Fails (call_of call) s e → is_named (refusals (Ask call)) (error_number e) ≡ true
why call s e (refused is) = ask-refused (remembers s) (call_of call) e is call
why call s _ (no_queue more) = refl
why call s _ (no_list away) = refl
why call s _ (no_answer makes) = refl
why call s _ (no_request sends) = refl
why call s _ (was_broken before) = refl

asks-sound : (call : FrontendCall PlainHandle) (s s' : Session) → Asks call s s' → (endpoint_of s'.frontend).broken ≡ (endpoint_of s.frontend).broken
asks-sound call s s' (sent w is queue keeps same sound) = sound.after ∙ sym sound.before
asks-sound call s s' (at_once flags is memory queue asked incoming answer end) = ap {A = End} (λ e. e.broken) end

refuses : (call : code-call.FrontendCall) (s s' : Session) (r : Refusal) → Refused (call_of call) s s' r → Stays s s' → Promises (Ask call) (number r) (Some s) (Some s')
refuses call s s' _ (busy waits keeps) stays = record { named = refl; leaves = λ refused. some stays; sound = λ harmless was. ap (λ f. (endpoint_of f).broken) keeps.frontend ∙ was }
refuses call s s' _ (fails {e = e} why-not lasting) stays = record { named = why call s e why-not; leaves = λ refused. some stays; sound = λ harmless was. still e (endpoint_of s.frontend) (endpoint_of s'.frontend) harmless lasting ∙ was }

asks : (call : code-call.FrontendCall) {n : ℕ} {old new : Option Session} → By (Asking (call_of call)) old n new → Promises (Ask call) n old new
asks call by.none = absent (Ask call) refl none
asks call (by.some {s = s} {s' = t} {outcome = Ok done} (becomes, notes, drops)) = record { named = refl; leaves = λ refused. absurd (refused refl); sound = λ harmless was. asks-sound (call_of call) s t becomes ∙ was }
asks call (by.some {s = s} {s' = t} {outcome = Err r} ((why-not, stays), notes, drops)) = refuses call s t r why-not stays

-- where nothing changed but which feature was not active
stays : (old new : Session) → KeepsAll old new → Stays old new
stays old new keeps = record {
  queue = ap (λ (o : Outgoing). o.link.pending ++ (endpoint_of new.frontend).link.sent) keeps.outgoing ∙ ap (λ (f : FrontendInternal Ends PlainHandle). old.outgoing.link.pending ++ (endpoint_of f).link.sent) keeps.frontend;
  rest = record { memory = ap (λ f. session_of f) keeps.frontend; asked = keeps.asked; incoming = keeps.incoming; answer = keeps.answer };
}

rejects : (call : ProgramCall) (e : declared.Error) → is_named (refusals call) 101 ≡ true → is_named (refusals call) (error_number e) ≡ true → ((n : ℕ) (old new : Option Session) → AtBoth Stays old new → Leaves call n old new) → {n : ℕ} {old new : Option Session} → By (Rejecting e) old n new → Promises call n old new
rejects call e no-session named leaves by.none = absent call no-session (leaves 101 None None none)
rejects call e no-session named leaves (by.some {s = s} {s' = t} {outcome = o} (is, keeps, notes)) =
    promised call (outcome_number o) (error_number e) (Some s) (Some t) (ap outcome_number is) (record { named = named; leaves = λ refused. leaves (error_number e) (Some s) (Some t) (some (stays s t keeps)); sound = λ harmless was. ap (λ f. (endpoint_of f).broken) keeps.frontend ∙ was })

-- ---- move bytes

none-handed : (p : Places) (bs : List ℕ) (fs : List ℤ) (r : Refusal) → HandsNone bs fs r → is_named (refusals (ToSend p)) (number r) ≡ true
none-handed p bs fs refusal.NoRoom h = refl
none-handed p bs fs (refusal.Protocol e) h = absurd h
none-handed p bs fs refusal.NoSession h = absurd h
none-handed p bs fs refusal.SessionOpen h = absurd h
none-handed p bs fs refusal.NotTaken h = absurd h
none-handed p bs fs refusal.NothingAsked h = absurd h
none-handed p bs fs refusal.NotYet h = absurd h
none-handed p bs fs refusal.TooManyBytes h = absurd h
none-handed p bs fs refusal.OtherAnswer h = absurd h
none-handed p bs fs refusal.NotReplied h = absurd h
none-handed p bs fs refusal.OtherCall h = absurd h

sends : (p : Places) (bs : List ℕ) (fs : List ℤ) (count : ℕ × ℕ) {n : ℕ} {old new : Option Session} → By (Sending bs fs count) old n new → Promises (ToSend p) n old new
sends p bs fs count by.none = absent (ToSend p) refl none
sends p bs fs count (by.some {s = s} {s' = t} {outcome = Ok done} (hands, rest)) = record { named = refl; leaves = λ refused. absurd (refused refl); sound = λ harmless was. ap {A = End} (λ e. e.broken) rest.end ∙ was }
sends p bs fs count (by.some {s = s} {s' = t} {outcome = Err r} (why-not, queue, rest)) = record {
  named = none-handed p bs fs r why-not;
  leaves = λ refused. some (λ i. record { queue = queue i; came = rest.came i; incoming = rest.incoming i; end = rest.end i; rest = rest.rest i });
  sound = λ harmless was. ap {A = End} (λ e. e.broken) rest.end ∙ was;
}

none-given : (bytes : Vec ℕ Global) (fds : Vec ℤ Global) (bs : List ℕ) (fs : List ℤ) (e : declared.Error) → GivesNone bs fs e → is_named (refusals (Receive bytes fds)) (error_number e) ≡ true
none-given bytes fds bs fs code.InvalidParam h = refl
none-given bytes fds bs fs code.OutOfMemory h = refl
none-given bytes fds bs fs (code.InvalidOperation name) h = absurd h
none-given bytes fds bs fs (code.InactiveFeature f) h = absurd h
none-given bytes fds bs fs (code.InactiveOperation f) h = absurd h
none-given bytes fds bs fs code.InvalidMessage h = absurd h
none-given bytes fds bs fs (code.InvalidSocketFd c) h = absurd h
none-given bytes fds bs fs code.NotUnixSocket h = absurd h
none-given bytes fds bs fs code.NotStreamSocket h = absurd h
none-given bytes fds bs fs code.PartialMessage h = absurd h
none-given bytes fds bs fs code.Disconnected h = absurd h
none-given bytes fds bs fs code.OversizedMsg h = absurd h
none-given bytes fds bs fs code.IncorrectFds h = absurd h
none-given bytes fds bs fs (code.SocketError c) h = absurd h
none-given bytes fds bs fs (code.SocketConnect c) h = absurd h
none-given bytes fds bs fs (code.SocketBroken c) h = absurd h
none-given bytes fds bs fs (code.SocketRetry c) h = absurd h
none-given bytes fds bs fs code.BackendInternalError h = absurd h
none-given bytes fds bs fs code.FrontendInternalError h = absurd h
none-given bytes fds bs fs code.FeatureMismatch h = absurd h
none-given bytes fds bs fs (code.ReqHandlerError c) h = absurd h
none-given bytes fds bs fs code.MemFdCreateError h = absurd h
none-given bytes fds bs fs code.FileTruncateError h = absurd h
none-given bytes fds bs fs code.MemFdSealError h = absurd h

none-taken : (bytes : Vec ℕ Global) (fds : Vec ℤ Global) (missing : ℕ) (bs : List ℕ) (fs : List ℤ) (r : Refusal) → TakesNone missing bs fs r → is_named (refusals (Receive bytes fds)) (number r) ≡ true
none-taken bytes fds missing bs fs refusal.TooManyBytes h = refl
none-taken bytes fds missing bs fs (refusal.Protocol e) h = none-given bytes fds bs fs e h
none-taken bytes fds missing bs fs refusal.NoSession h = absurd h
none-taken bytes fds missing bs fs refusal.SessionOpen h = absurd h
none-taken bytes fds missing bs fs refusal.NotTaken h = absurd h
none-taken bytes fds missing bs fs refusal.NothingAsked h = absurd h
none-taken bytes fds missing bs fs refusal.NotYet h = absurd h
none-taken bytes fds missing bs fs refusal.NoRoom h = absurd h
none-taken bytes fds missing bs fs refusal.OtherAnswer h = absurd h
none-taken bytes fds missing bs fs refusal.NotReplied h = absurd h
none-taken bytes fds missing bs fs refusal.OtherCall h = absurd h

receives : (bytes : Vec ℕ Global) (fds : Vec ℤ Global) (bs : List ℕ) (fs : List ℤ) {n : ℕ} {old new : Option Session} → By (Receiving bs fs) old n new → Promises (Receive bytes fds) n old new
receives bytes fds bs fs by.none = absent (Receive bytes fds) refl none
receives bytes fds bs fs (by.some {s = s} {s' = t} {outcome = Ok done} ((within, takes, adds, waits), none-refused)) = record { named = refl; leaves = λ refused. absurd (refused refl); sound = λ harmless was. ap {A = End} (λ e. e.broken) waits.end ∙ was }
receives bytes fds bs fs (by.some {s = s} {s' = t} {outcome = Err r} ((came, incoming, waits), why-not)) = record {
  named = none-taken bytes fds (missing_of s) bs fs r why-not;
  leaves = λ refused. some (λ i. record { queue = waits.queue i; came = came i; incoming = incoming i; end = waits.end i; rest = waits.rest i });
  sound = λ harmless was. ap {A = End} (λ e. e.broken) waits.end ∙ was;
}

-- ---- take

-- an answer that is no error
no-error : (a : FrontendAnswer) (x : Error) → answer_of a ≡ Err x → ((e : declared.Error) → ¬ (a ≡ answer.Failed e)) → ⊥
no-error (answer.Failed e) x is fine = fine e refl
no-error answer.Done x is fine = cc
no-error (answer.Number n) x is fine = cc
no-error (answer.Bases bases) x is fine = cc
no-error (answer.Base base) x is fine = cc
no-error (answer.Config part bytes) x is fine = cc
no-error (answer.Handle h) x is fine = cc
no-error (answer.Inflight area h) x is fine = cc
no-error (answer.StateHandle h) x is fine = cc
no-error (answer.ShmemConfig c) x is fine = cc

-- an end that was read is sound, unless this is why none was
end-sound : (call : FrontendCall PlainHandle) (awaited : Awaited) (header : Header) (old : End) (f : Frontend) (result : Result (Value PlainHandle) Error) (new : End) (f' : Frontend) → TakesResult call awaited header old f result new f' → IsUncut old
    → ((e : declared.Error) → result ≡ Err (seen e) → is_harmless (error_number e) ≡ true) → old.broken ≡ None → new.broken ≡ None
end-sound call awaited header old f result new f' (inl (unread is)) u harmless was = was
end-sound call awaited header old f result new f' (inl (read h)) u harmless was = h.hears.serves.after
end-sound call awaited header old f result new f' (inr x) u harmless was = still x.1 old new (harmless x.1 x.2) (lasts old new true x.1 x.3 u) ∙ was

same-number : (d e : declared.Error) → seen d ≡ seen e → error_number d ≡ error_number e
same-number d e is = sym (is-seen d) ∙ ap seen_number is ∙ is-seen e

uncut : (s : Session) → IsUncut (endpoint_of s.frontend)
uncut s = record { uncut = s.uncut; broken = s.broken }

-- an error of the protocol is none of them
pub none-early : (e : declared.Error) → is_early (error_number e) ≡ false
none-early code.InvalidParam = refl
none-early (code.InvalidOperation name) = refl
none-early (code.InactiveFeature f) = refl
none-early (code.InactiveOperation f) = refl
none-early code.InvalidMessage = refl
none-early (code.InvalidSocketFd c) = refl
none-early code.NotUnixSocket = refl
none-early code.NotStreamSocket = refl
none-early code.PartialMessage = refl
none-early code.Disconnected = refl
none-early code.OversizedMsg = refl
none-early code.IncorrectFds = refl
none-early (code.SocketError c) = refl
none-early (code.SocketConnect c) = refl
none-early (code.SocketBroken c) = refl
none-early (code.SocketRetry c) = refl
none-early code.BackendInternalError = refl
none-early code.FrontendInternalError = refl
none-early code.FeatureMismatch = refl
none-early (code.ReqHandlerError c) = refl
none-early code.MemFdCreateError = refl
none-early code.FileTruncateError = refl
none-early code.MemFdSealError = refl
none-early code.OutOfMemory = refl

takes : (s s' : Session) (o : Result ⊤ Refusal) → Takes s s' o → Promises Take (outcome_number o) (Some s) (Some s')
takes s s' _ (kept asked zero sized one names fine) = record {
  named = refl;
  leaves = λ refused. absurd (refused refl);
  sound = λ harmless was. end-sound (call_of asked.call) asked.sent.awaited (fields_of asked.sent.request) (endpoint_of s.frontend) (remembers s) (answer_of s'.answer) (endpoint_of s'.frontend) (remembers s') one.taken (uncut s)
      (λ e is. absurd (no-error s'.answer (seen e) is fine)) was;
}
takes s s' _ (failed asked {e = e} zero sized one done) = record {
  named = take-refused (call_of asked.call) asked.sent.awaited (fields_of asked.sent.request) (endpoint_of s.frontend) (remembers s) e (endpoint_of s'.frontend) (remembers s') one.taken (uncut s);
  leaves = λ refused. subst (λ b. LeavesTaken b (Some s) (Some s')) (sym (none-early e)) (some (record { over = one.now; outgoing = one.outgoing; inactive = one.inactive }));
  sound = λ harmless was. end-sound (call_of asked.call) asked.sent.awaited (fields_of asked.sent.request) (endpoint_of s.frontend) (remembers s) (Err (seen e)) (endpoint_of s'.frontend) (remembers s') one.taken (uncut s)
      (λ d is. subst (λ n. is_harmless n ≡ true) (same-number e d (let same : seen e ≡ seen d = cc in same)) harmless) was;
}
takes s s' _ (other_size asked nothing zero other one done) = record { named = refl; leaves = λ refused. some (record { over = one.now; outgoing = one.outgoing; inactive = one.inactive }); sound = λ harmless was. absurd cc }
takes s s' _ (nothing_asked bare same) = record { named = refl; leaves = λ refused. ap Some same; sound = λ harmless was. ap (λ t. (endpoint_of t.frontend).broken) same ∙ was }
takes s s' _ (not_yet more same) = record { named = refl; leaves = λ refused. ap Some same; sound = λ harmless was. ap (λ t. (endpoint_of t.frontend).broken) same ∙ was }

taken : {n : ℕ} {old new : Option Session} → By (λ s o s'. Takes s s' o) old n new → Promises Take n old new
taken by.none = absent Take refl refl
taken (by.some {s = s} {s' = t} {outcome = o} does) = takes s t o does

-- ---- read

-- an answer that is not read has another form, or there is no room for it
not-read : {A : Type 0} (call : ProgramCall) (holds lacks : A → Type 0) (o : Option A) → is_named (refusals call) 108 ≡ true → ((a : A) → lacks a → is_named (refusals call) 107 ≡ true) → (r : Refusal) → Reads holds lacks o (Err r) → is_named (refusals call) (number r) ≡ true
not-read call holds lacks (Some a) other room r h = subst (λ x. is_named (refusals call) (number x) ≡ true) (sym h.0) (room a h.1)
not-read call holds lacks None other room r h = subst (λ x. is_named (refusals call) (number x) ≡ true) (sym h) other

reads : (call : ProgramCall) (so : FrontendAnswer → Result ⊤ Refusal → Type 0) → is_named (refusals call) 0 ≡ true → is_named (refusals call) 101 ≡ true → ((a : FrontendAnswer) (r : Refusal) → so a (Err r) → is_named (refusals call) (number r) ≡ true) → ((n : ℕ) (old new : Option Session) → new ≡ old → Leaves call n old new)
    → {n : ℕ} {old new : Option Session} → By (Reading so) old n new → Promises call n old new
reads call so done absent' named leaves by.none = absent call absent' (leaves 101 None None refl)
reads call so done absent' named leaves (by.some {s = s} {s' = t} {outcome = Ok u} (told-so, same)) = record { named = done; leaves = λ refused. absurd (refused refl); sound = λ harmless was. subst (λ x. IsSound (Some x)) (sym same) was }
reads call so done absent' named leaves (by.some {s = s} {s' = t} {outcome = Err r} (told-so, same)) = record { named = named s.answer r told-so; leaves = λ refused. leaves (number r) (Some s) (Some t) (ap Some same); sound = λ harmless was. subst (λ x. IsSound (Some x)) (sym same) was }

-- what is told at once
told : (call : ProgramCall) → is_named (refusals call) 0 ≡ true → (n : ℕ) (old new : Option Session) → n ≡ 0 → new ≡ old → Promises call n old new
told call named n old new is same = promised call n 0 old new is (record { named = named; leaves = λ refused. absurd (refused refl); sound = λ harmless was. subst IsSound (sym same) was })

reads-to : (what : ProgramRead) (p q : Places) (n : ℕ) (old new : Option Session) → ReadsTo what p q old n new → Promises (Read what p) n old new
reads-to Missing p q n old new (is, missing, same) = told (Read Missing p) refl n old new is same
reads-to Inactive p q n old new (is, inactive, same) = told (Read Inactive p) refl n old new is same
reads-to Number p q n old new does = reads (Read Number p) _ refl refl (λ x r. not-read (Read Number p) _ (λ n. ⊥) (number_of x) refl (λ n never. absurd never) r) (λ n o o' same. same) does
reads-to Bases p q n old new does = reads (Read Bases p) _ refl refl (λ x r. not-read (Read Bases p) _ _ (bases_of x) refl (λ b lacks. refl) r) (λ n o o' same. same) does
reads-to Config p q n old new does = reads (Read Config p) _ refl refl (λ x r. not-read (Read Config p) _ _ (config_of x) refl (λ c lacks. refl) r) (λ n o o' same. same) does
reads-to Fd p q n old new does = reads (Read Fd p) _ refl refl (λ x r. not-read (Read Fd p) _ (λ f. ⊥) (fd_of x) refl (λ f never. absurd never) r) (λ n o o' same. same) does
reads-to Inflight p q n old new does = reads (Read Inflight p) _ refl refl (λ x r. not-read (Read Inflight p) _ (λ b. ⊥) (inflight_of x) refl (λ b never. absurd never) r) (λ n o o' same. same) does
reads-to Shmem p q n old new does = reads (Read Shmem p) _ refl refl (λ x r. not-read (Read Shmem p) _ _ (shmem_of x) refl (λ c lacks. refl) r) (λ n o o' same. same) does

-- ---- descriptors

-- nothing changed but which are held
holds : (call : ProgramCall) (s t : Session) → t ≡ record s { held = t.held } → Promises call 0 (Some s) (Some t)
holds call s t same = record { named = refl; leaves = λ refused. absurd (refused refl); sound = λ harmless was. ap {A = Session} (λ x. (endpoint_of x.frontend).broken) same ∙ was }

not-claimed : (fd : ℤ) (s t : Session) (r : Refusal) → Claiming fd s (Err r) t → Promises (Claim fd) (number r) (Some s) (Some t)
not-claimed fd s t refusal.OtherAnswer x = record { named = refl; leaves = λ refused. ap Some x.1; sound = λ harmless was. ap {A = Session} (λ y. (endpoint_of y.frontend).broken) x.1 ∙ was }
not-claimed fd s t _ x = absurd x

-- ---- all calls

promises : (call : ProgramCall) (a : ProgramAnswer) (old new : Option Session) → Does call a old new → Promises call a.number old new
promises (Open m) a old new does = opens does
promises (SetProfile p) a old new does = chooses p (profile_at p) a.number old new does
promises (Ask call) a old new does = asks call does
promises AskInvalid a old new does = rejects AskInvalid code.InvalidParam refl refl (λ n o o' both. both) does
promises AskWithoutMemory a old new does = rejects AskWithoutMemory code.OutOfMemory refl refl (λ n o o' both. both) does
promises (ToSend p) a old new does = sends p a.places.bytes.items a.places.fds.items (a.places.byte_count, a.places.fd_count) does.0
promises (Receive bytes fds) a old new does = receives bytes fds bytes.items fds.items does.0
promises Take a old new does = taken does.0
promises (Read what p) a old new does = reads-to what p a.places a.number old new does
promises (Claim fd) a old new does = on-held (λ _. ⊤) (Promises (Claim fd)) (Claiming fd) (absent (Claim fd) refl refl) (λ s t u x any. holds (Claim fd) s t x.2) (λ s t r x any. not-claimed fd s t r x) does tt
promises (Unclaimed p) a old new does = on-held (λ _. ⊤) (Promises (Unclaimed p)) (LettingGo p.fds.items a.places.count a.places.fds.items) (absent (Unclaimed p) refl refl) (λ s t u x any. holds (Unclaimed p) s t x.1) (λ s t r x any. absurd x) does tt
promises Abandon a old new does = on-held (λ _. ⊤) (Promises Abandon) Abandoning (absent Abandon refl refl) (λ s t u x any. holds Abandon s t x.1) (λ s t r x any. absurd x) does tt
promises Close a old new (is, gone) = promised Close a.number 0 old new is (record { named = refl; leaves = λ refused. absurd (refused refl); sound = λ harmless was. subst IsSound (sym gone) tt })

pub calls : {call : ProgramCall} {a : ProgramAnswer} {old new : Option Session} → Does call a old new → IsCalled call a old new
calls {call = call} {a = a} {old = old} {new = new} does = let p = promises call a old new does in record { does = does; named = p.named; leaves = p.leaves; sound = p.sound }

-- a session that was sound is after a call whose answer is harmless
pub keeps-sound : (call : ProgramCall) (a : ProgramAnswer) (old new : Option Session) → IsCalled call a old new → is_harmless a.number ≡ true → IsSound old → IsSound new
keeps-sound call a old new c harmless was = c.sound harmless was

-- a session that was opened where there was none, or that was not, is sound
pub fresh : {m n : ℕ} {old new : Option Session} → Opens m old n new → old ≡ None → IsSound new
fresh (opened new) shut = ap {A = End} (λ e. e.broken) new.empty.end
fresh was_open shut = absurd (cc shut)
fresh no_room shut = tt

-- ---- calls that are refused

unmoved : (s : Session) → Stays s s
unmoved s = record { queue = refl; rest = record { memory = refl; asked = refl; incoming = refl; answer = refl } }

at-none : (s : Option Session) → AtBoth Stays s s
at-none None = none
at-none (Some s) = some (unmoved s)

moved-on : {old mid new : Option Session} → AtBoth Stays old mid → AtBoth Stays mid new → AtBoth Stays old new
moved-on none none = none
moved-on (some a) (some b) = some (record { queue = b.queue ∙ a.queue; rest = record { memory = b.rest.memory ∙ a.rest.memory; asked = b.rest.asked ∙ a.rest.asked; incoming = b.rest.incoming ∙ a.rest.incoming; answer = b.rest.answer ∙ a.rest.answer } })

seen-alike : {old new : Option Session} → AtBoth IsAlike old new → AtBoth Stays old new
seen-alike none = none
seen-alike (some is) = some (record { queue = ap (λ v. v.queue) is; rest = record { memory = ap (λ v. v.rest.0) is; asked = ap (λ v. v.rest.1) is; incoming = ap (λ v. v.incoming) is; answer = ap (λ v. v.rest.2) is } })

as-was : {old new : Option Session} → new ≡ old → AtBoth Stays old new
as-was {old = old} {new = new} same = subst (λ x. AtBoth Stays old x) (sym same) (at-none old)

left : (call : ProgramCall) (n : ℕ) {old new : Option Session} → ends_none call ≡ true → Leaves call n old new → AtBoth Stays old new
left (Ask call) n ends l = l
left AskInvalid n ends l = l
left AskWithoutMemory n ends l = l
left (ToSend p) n ends l = seen-alike l
left (Receive bytes fds) n ends l = seen-alike l
left Take n ends l = absurd cc
left Close n ends l = absurd cc
left _ n ends l = as-was l

-- calls that are refused, none of which takes or closes, leave a session
pub in-vain : {cs : List ProgramCall} {as' : List ProgramAnswer} {old new : Option Session} → Runs IsCalled cs as' old new → All (λ (c : ProgramCall). ends_none c ≡ true) cs → All (λ (a : ProgramAnswer). a.number ≢ 0) as' → AtBoth Stays old new
in-vain (over {session = s}) ends vain = at-none s
in-vain (goes_on {call = c} {answer = a} {calls = cs} {answers = as'} first rest) ends vain =
    let now = All-head (λ (c : ProgramCall). ends_none c ≡ true) c cs ends in
    let no = All-head (λ (a : ProgramAnswer). a.number ≢ 0) a as' vain in
    moved-on (left c a.number now (first.leaves no)) (in-vain rest (All-tail (λ (c : ProgramCall). ends_none c ≡ true) c cs ends) (All-tail (λ (a : ProgramAnswer). a.number ≢ 0) a as' vain))
