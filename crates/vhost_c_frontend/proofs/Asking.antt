-- What became of a call that was asked.
use Rattle.std.proofs.Common.{◌≡◌, inl, inr, ℕ, true, false, List, [], ◌∷◌, ◌++◌, replicate, append_assoc, Some, None, Ok, Err, refl, sym, ap, subst, ◌∙◌}
use Rattle.std.proofs.lemmas.List.{append-nil}
use Rattle.vhost_message.specs.declared.error.Error as declared
use Rattle.vhost_message.specs.declared.error.Error.TheVariants.{OutOfMemory}
use Rattle.vhost_message.specs.declared.heard_req.HeardReq.{HeardReq}
use Rattle.vhost_message.specs.HeardReq.{request_number}
use Rattle.vhost_message.specs.MsgHeader.{fields_of}
use Rattle.vhost_protocol.specs.Ask.{ask, Sends}
use Rattle.vhost_protocol.specs.declared.asked.Awaited.{Awaited}
use Rattle.vhost_protocol.specs.FrontendCall.{FrontendCall, SetHdrFlags, Frontend}
use Rattle.vhost_protocol.specs.Stream.{Cell, End, items, has_some}
use Rattle.vhost_protocol.specs.Written.{Written, written_cells, head_of}
use Rattle.vhost_link.specs.Ends.{Ends}
use Rattle.vhost_link.specs.Mem.{event, HandsFront, StreamLaw}
use Rattle.vhost_link.specs.declared.plain.PlainHandle.{PlainHandle}
use Rattle.vhost_connection.specs.Memory.{stream, TalksLaw}
use Rattle.vhost_connection.specs.Talk.{State}
use Rattle.vhost_frontend_core.specs.Asking as core
use Rattle.vhost_frontend_core.specs.Asking.{AsksWithRoom, roomy, no_room, goes, fails}
use Rattle.vhost_frontend_core.specs.Frontend.{endpoint_of, session_of, awaits}
use Rattle.vhost_frontend_core.specs.Halves.{AsksHalfWithRoom, makes_room}
use Rattle.vhost_frontend_core.specs.declared.asked.Sent.{Sent}
use Rattle.vhost_frontend_core.specs.declared.internal.FrontendInternal.{FrontendInternal}
use Rattle.vhost_frontend_core.specs.ValueHalves.{AsksCall, MayWant, half, refused, at_once}
use Rattle.vhost_c_frontend.specs.Session.{Asks, sent, Stays, Rests, Fails, queued, remembers}
use Rattle.vhost_c_frontend.specs.declared.session.Session.{Session}
use Rattle.vhost_c_frontend.specs.Session as session
use Rattle.vhost_c_common.specs.View.{IsUncut, Lasts, StaysSound, bare}
use Rattle.vhost_c_common.proofs.OnWay.{sound-since}
use Rattle.vhost_c_common.proofs.Wants.{IsWant, list_away, by_link, broke_before, failed, lasts, sound, stays}

abbrev pub Front : Type 0
Front = FrontendInternal Ends PlainHandle

abbrev pub cells : Written HeardReq PlainHandle → List (Cell PlainHandle)
cells w = written_cells request_number w

-- A request that went out is behind what was sent before, and this was kept of it.
pub record Went (call : FrontendCall PlainHandle) (f : Frontend) (s : Sent) (old new : State Ends PlainHandle) (after : Awaited) (f' : Frontend) : Type 0 where
  pub w : Written HeardReq PlainHandle
  pub is : ask f call ≡ Sends w after f'
  pub text : new.link.sent ≡ old.link.sent ++ cells w
  pub header : fields_of s.request ≡ head_of request_number w
  pub awaited : s.awaited ≡ after
  pub sound : StaysSound old new

-- where nothing was handed on, all is left
none-handed : (before left : List (Cell PlainHandle)) → HandsFront before [] left → left ≡ before
none-handed before left h = none h.cells h.order h.front
  where
    none : (cells : List (Cell PlainHandle)) → [] ≡ items cells ++ replicate h.ends End → before ≡ cells ++ left → left ≡ before
    none [] order front = sym front
    none (c ∷ cells) order front = absurd cc

-- what came is as before, once a request went out
pub came-before : TalksLaw → (call : FrontendCall PlainHandle) (old new : State Ends PlainHandle) (f f' : Frontend) (before after : Awaited) (s : Sent) → AsksWithRoom event (ask f call) old f before (Ok s) new f' after → stream new ≡ stream old
came-before law call old new f f' before after s (roomy (goes is g)) = none-handed (stream old) (stream new) (law old new _ g.serves.talks).0

pub went : StreamLaw → (call : FrontendCall PlainHandle) (old new : State Ends PlainHandle) (f f' : Frontend) (before after : Awaited) (s : Sent) → AsksWithRoom event (ask f call) old f before (Ok s) new f' after → Went call f s old new after f'
went law call old new f f' before after s (roomy (goes {w = w} is g)) = let t = g.serves.talks in record {
  w = w;
  is = is;
  text = (law old.link new.link t.below t.moved).taken ∙ ap (λ xs. old.link.sent ++ xs) t.taken;
  header = g.header;
  awaited = g.awaits;
  sound = sound old new g.serves;
}

module _ (law : StreamLaw) (call : FrontendCall PlainHandle) (old new : Front) (s : Sent) (half : AsksHalfWithRoom event call old (Ok s) new) where
  pub asked-so : Went call (session_of old) s (endpoint_of old) (endpoint_of new) (awaits new) (session_of new)
  asked-so = went law call (endpoint_of old) (endpoint_of new) (session_of old) (session_of new) (awaits old) (awaits new) s half

-- A call that was not asked leaves what is remembered.
pub stayed : (call : FrontendCall PlainHandle) (old new : State Ends PlainHandle) (f f' : Frontend) (before after : Awaited) (e : declared.Error) → AsksWithRoom event (ask f call) old f before (Err e) new f' after → f' ≡ f
stayed call old new f f' before after e (roomy (core.refuses is)) = refl
stayed call old new f f' before after e (roomy (fails is why)) = refl
stayed call old new f f' before after e (no_room is) = refl

module _ (call : FrontendCall PlainHandle) (s : Session) where
  wanted : {w : Written HeardReq PlainHandle} {awaited : Awaited} {f : Frontend} (e : declared.Error) → ask (remembers s) call ≡ Sends w awaited f → IsWant (endpoint_of s.frontend) e → Fails call s e
  wanted _ is (list_away list) = session.no_list list
  wanted _ is by_link = session.no_request is
  wanted _ is (broke_before broken) = session.was_broken broken

  may-want : (new : Front) → MayWant call s.frontend new → Fails call s OutOfMemory
  may-want new (inl room) = session.no_answer room
  may-want new (inr (list, same)) = session.no_list list

  by-cause : StreamLaw → (old new : State Ends PlainHandle) (f' : Frontend) (before after : Awaited) (e : declared.Error) → IsUncut old → (e ≡ OutOfMemory → Fails call s OutOfMemory)
      → ((w : Written HeardReq PlainHandle) (awaited : Awaited) (f : Frontend) → ask (remembers s) call ≡ Sends w awaited f → IsWant old e → Fails call s e)
      → AsksWithRoom event (ask (remembers s) call) old (remembers s) before (Err e) new f' after → Fails call s e
  by-cause law old new f' before after e uncut wants by (roomy (core.refuses is)) = session.refused is
  by-cause law old new f' before after e uncut wants by (roomy (fails is why)) = by _ _ _ is (failed old new false e why uncut).1
  by-cause law old new f' before after e uncut wants by (no_room is) = wants refl

  -- and this is why
  pub reason : StreamLaw → (new : Front) (f' : Frontend) (before after : Awaited) (e : declared.Error) → IsUncut (endpoint_of s.frontend) → (e ≡ OutOfMemory → MayWant call s.frontend new)
      → AsksWithRoom event (ask (remembers s) call) (endpoint_of s.frontend) (remembers s) before (Err e) (endpoint_of new) f' after → Fails call s e
  reason law new f' before after e uncut wants asks = by-cause law (endpoint_of s.frontend) (endpoint_of new) f' before after e uncut (λ is. may-want new (wants is)) (λ w awaited f is want. wanted e is want) asks

-- what it leaves of the end's soundness
pub left-sound : (call : FrontendCall PlainHandle) (old new : State Ends PlainHandle) (f f' : Frontend) (before after : Awaited) (e : declared.Error) → IsUncut old → AsksWithRoom event (ask f call) old f before (Err e) new f' after → Lasts e old new
left-sound call old new f f' before after e uncut (roomy (core.refuses is)) = stays e old
left-sound call old new f f' before after e uncut (roomy (fails is why)) = lasts old new false e why uncut
left-sound call old new f f' before after e uncut (no_room is) = refl

-- there is something where there is something in front
pub some-first : {A : Type 0} (xs ys : List A) → (xs ≡ [] → ⊥) → has_some (xs ++ ys) ≡ true
some-first [] ys some = absurd (some refl)
some-first (x ∷ xs) ys some = refl

-- what failed a session in between failed the one before, where nothing but its places changed
pub fails-since : (call : FrontendCall PlainHandle) (old mid : Session) (e : declared.Error) → queued mid ≡ queued old → remembers mid ≡ remembers old → (endpoint_of mid.frontend).list ≡ (endpoint_of old.frontend).list
    → (endpoint_of mid.frontend).broken ≡ (endpoint_of old.frontend).broken → Fails call mid e → Fails call old e
fails-since call old mid _ queue memory list broken (session.refused is) = session.refused (ap (λ f. ask f call) (sym memory) ∙ is)
fails-since call old mid _ queue memory list broken (session.no_queue some) = session.no_queue (ap (λ xs. has_some xs) (sym queue) ∙ some)
fails-since call old mid _ queue memory list broken (session.no_list away) = session.no_list (sym list ∙ away)
fails-since call old mid _ queue memory list broken (session.no_answer room) = session.no_answer (ap (λ f. makes_room f call) (sym memory) ∙ room)
fails-since call old mid _ queue memory list broken (session.no_request is) = session.no_request (ap (λ f. ask f call) (sym memory) ∙ is)
fails-since call old mid _ queue memory list broken (session.was_broken was) = session.was_broken (sym broken ∙ was)

pub by-half : (call : FrontendCall PlainHandle) (old new : Front) (s : Sent) → AsksCall call old (Ok (Some s)) new → AsksHalfWithRoom event call old (Ok s) new
by-half call old new s (half h) = h

pub by-refusal : (call : FrontendCall PlainHandle) (old new : Front) (e : declared.Error) → AsksCall call old (Err e) new → AsksHalfWithRoom event call old (Err e) new
by-refusal call old new e (refused h) = h

-- Nothing was sent, and the flags of requests changed.
pub record Flagged (call : FrontendCall PlainHandle) (old new : Front) : Type 0 where
  pub flags : ℕ
  pub is : call ≡ SetHdrFlags flags
  pub same : endpoint_of new ≡ endpoint_of old
  pub session : session_of new ≡ record (session_of old) { header_flags = flags }

pub by-flags : (call : FrontendCall PlainHandle) (old new : Front) → AsksCall call old (Ok None) new → Flagged call old new
by-flags call old new (at_once flags is same session awaited) = record { flags = flags; is = is; same = same; session = session }

-- cells behind others, which are behind what was to be sent
pub behind : (before taken text after : List (Cell PlainHandle)) → after ≡ taken ++ text → before ++ after ≡ (before ++ taken) ++ text
behind before taken text after is = ap (λ xs. before ++ xs) is ∙ sym (append_assoc before taken text)

-- what is to be sent is the same once it was collected
pub collected : (before taken pending now : List (Cell PlainHandle)) → pending ≡ before ++ taken → now ≡ [] → pending ++ now ≡ before ++ taken
collected before taken pending now is gone = ap (λ xs. pending ++ xs) gone ∙ append-nil pending ∙ is

-- what was asked of a session in between was asked of the one before, where nothing but its places changed
pub asks-since : (call : FrontendCall PlainHandle) (old mid new : Session) → queued mid ≡ queued old → Rests old mid → endpoint_of mid.frontend ≡ bare (endpoint_of old.frontend) → Asks call mid new → Asks call old new
asks-since call old mid new queue rest end (sent w is text keeps answer sound) = sent w (subst (λ f. ask f call ≡ Sends w (awaits new.frontend) (remembers new)) rest.memory is) (text ∙ ap (λ xs. xs ++ cells w) queue) keeps (answer ∙ rest.answer)
    (sound-since (ap {A = State Ends PlainHandle} (λ e. e.broken) end) (ap {A = State Ends PlainHandle} (λ e. e.link.script) end) sound)
asks-since call old mid new queue rest end (session.at_once flags is f q at came answer same) =
    session.at_once flags is (f ∙ ap {A = Frontend} (λ g. record g { header_flags = flags }) rest.memory) (q ∙ queue) (at ∙ rest.asked) (came ∙ rest.incoming) (answer ∙ rest.answer) (same ∙ ap bare end)

pub rests-since : (old mid new : Session) → Rests old mid → Rests mid new → Rests old new
rests-since old mid new r s = record { memory = s.memory ∙ r.memory; asked = s.asked ∙ r.asked; incoming = s.incoming ∙ r.incoming; answer = s.answer ∙ r.answer }

pub stays-since : (old mid new : Session) → queued mid ≡ queued old → Rests old mid → Stays mid new → Stays old new
stays-since old mid new queue rest s = record { queue = s.queue ∙ queue; rest = rests-since old mid new rest s.rest }
