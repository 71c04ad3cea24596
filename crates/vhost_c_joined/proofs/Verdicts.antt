-- What a judge says of an exchange of joined sessions.
use Rattle.std.proofs.Common.{◌≡◌, ℕ, ℤ, ◌+◌, ◌<◌, ◌≤◌, Bool, true, false, List, [], length, map, Option, None, Some, Result, Ok, Err, refl, sym, ap, subst, ◌∙◌, length-append, arith}
use Rattle.std.specs.Prelude.{All, is_some, if◌then◌else◌}
use Rattle.vhost_message.specs.Bits.{has_bit}
use Rattle.vhost_message.specs.Header.{header_text}
use Rattle.vhost_message.specs.declared.heard_req.HeardReq.{HeardReq}
use Rattle.vhost_message.specs.declared.heard_req.HeardReq.TheVariants.{SET_DEVICE_STATE_FD}
use Rattle.vhost_message.specs.declared.limits.TheConstants.{MAX_MSG_SIZE}
use Rattle.vhost_message.specs.HeardReq.{request_number}
use Rattle.vhost_protocol.specs.Ask.{Asked, Refuses, Answers, Sends, ask}
use Rattle.vhost_protocol.specs.FrontendCall.{FrontendCall}
use Rattle.vhost_protocol.specs.Handler.{Follows, Meets}
use Rattle.vhost_protocol.specs.Heard.{AsksPlainly, AsksSendable, IsAwaitedBy, IsSendable}
use Rattle.vhost_protocol.specs.Joined as protocol
use Rattle.vhost_protocol.specs.Joined.{Shown, read_as, stops}
use Rattle.vhost_protocol.specs.Profile.{is_standard}
use Rattle.vhost_protocol.specs.Served.{Silent, Acknowledged, Replied}
use Rattle.vhost_protocol.specs.Served.{Served as Wrote}
use Rattle.vhost_protocol.specs.Session.{Session as Memory}
use Rattle.vhost_protocol.specs.Settled.{settled}
use Rattle.vhost_protocol.specs.Split.{Message}
use Rattle.vhost_protocol.specs.Step.{Outcome, Refused, Calls, OpensBackend, OpensGpu}
use Rattle.vhost_protocol.specs.Stream.{Cell, bytes, first_handles}
use Rattle.vhost_protocol.specs.Written.{Written, head_of, payload_text, written_cells, written_text}
use Rattle.vhost_protocol.proofs.HeardLaws.{awaits-shape}
use Rattle.vhost_protocol.proofs.SendLaws.{sends-whole}
use Rattle.vhost_link.proofs.Cells.{bytes-carrying}
use Rattle.vhost_link.specs.declared.plain.PlainHandle.{PlainHandle}
use Rattle.vhost_backend_req_handler.specs.Serving.{reply_cells}
use Rattle.vhost_frontend_core.specs.ValueHalves.{IsProper}
use Rattle.vhost_backend_req_handler_core.specs.Concluding.{answer_in}
use Rattle.vhost_c_backend.specs.Calls.{asked_number, device_number}
use Rattle.vhost_c_backend.specs.Served as served
use Rattle.vhost_c_backend.specs.Serving.{row}
use Rattle.vhost_c_backend.specs.declared.replies.Reply.{Reply}
use Rattle.vhost_c_backend.specs.declared.served.Served.{Served}
use Rattle.vhost_c_joined.specs.Device.{IsSized, opens, replies}
use Rattle.vhost_c_common.specs.Records.{fd_in, handle_in}
use Rattle.vhost_c_joined.specs.Joined.{AreInStep, HasFds}
use Rattle.vhost_c_joined.specs.Judged.{FindsRight, Holds, IsJudged, IsMessage, IsReady, IsRequest, IsSeen, JudgesBy, kind_in, told_number}
use Rattle.vhost_c_joined.specs.Wire.{IsFd}
use Rattle.vhost_c_frontend.specs.Session as session
use Rattle.vhost_c_joined.specs.declared.judged.Exchange.{Exchange}
use Rattle.vhost_c_frontend.specs.declared.session.Session.{Session}
use Rattle.vhost_c_joined.specs.declared.wire.Halt.{Halt}
use Rattle.vhost_c_joined.specs.declared.wire.Halt.TheVariants as halt
use Rattle.vhost_c_joined.proofs.Brought.{met-brings, sent-brings}
use Rattle.vhost_c_joined.proofs.Becoming.{Row, Well, bringing}
use Rattle.vhost_c_joined.proofs.Judging.{rows}
use Rattle.vhost_c_joined.proofs.Pieces.{named-again}
use Rattle.vhost_c_joined.proofs.Replying.{as-cells, handles_in, text_in}
use Rattle.vhost_c_joined.proofs.Settling.{Out, Same}
use Rattle.vhost_c_joined.proofs.Stated.{state-asked}
use Rattle.vhost_c_joined.proofs.Written.{text-is}

abbrev Call : Type 0
Call = FrontendCall PlainHandle

-- ---- both outcomes are the same

module _ (s : Memory) (standard : is_standard s.profile ≡ true) (r : HeardReq) (need : Bool) (body : List ℕ) (hs : List PlainHandle) (d d' : Reply) (sized : IsSized d) where
  abbrev m : Message HeardReq PlainHandle
  m = bringing r need body hs

  -- what a reply tells of an outcome
  abbrev Tells : ℕ → Out → Type 0
  Tells n o = Holds (kind_in n) (text_in r o.served) (map fd_in (handles_in o.served)) d'

  -- nor does it say that the descriptor of a state is used
  abbrev IsOwn : Out → Type 0
  IsOwn o = r ≡ SET_DEVICE_STATE_FD → ¬ (told_number (text_in r o.served) ≡ 0x100)

  follow-same : (step : Row) → Well s standard r need body step → (told told' : Out) → Follows (replies d) (opens d) (opens d) s tt step told tt → Follows (replies d') (opens d') (opens d') s tt step told' tt
      → is_some (settled s m told).session.failed ≡ false → All IsFd (handles_in (settled s m told).served) → IsOwn (settled s m told) → Tells (asked_number step) (settled s m told) → Same (settled s m told) (settled s m told')
  follow-same (Refused x) well told told' f g alive fds own holds =
      let is = f.0 ∙ sym g.0 in record { served = ap (λ (o : Out). (settled s m o).served) (sym is); session = ap (λ (o : Out). (settled s m o).session) (sym is) }
  follow-same (Calls c next) well told told' (a, (x, says, b, is), to) (a', (x', says', b', is'), to') alive fds own holds =
      let e = to ∙ ap next is in let e' = to' ∙ ap next is' in
      subst (λ o. Same (settled s m o) (settled s m told')) (sym e)
      (subst (λ o. Same (settled s m (next (answer_in b c x))) (settled s m o)) (sym e')
      (well d x b sized says (subst (λ (o : Out). is_some (settled s m o).session.failed ≡ false) e alive) (subst (λ (o : Out). All IsFd (handles_in (settled s m o).served)) e fds) (subst (λ (o : Out). IsOwn (settled s m o)) e own)
      d' x' b' (subst (λ (o : Out). Tells (device_number c) (settled s m o)) e holds) says'))
  follow-same (OpensBackend h next) well told told' (opened, op, f) (opened', op', g) alive fds own holds = well d d' opened opened' told told' op op' f g holds
  follow-same (OpensGpu h next) well told told' (opened, op, f) (opened', op', g) alive fds own holds = well d d' opened opened' told told' op op' f g holds

  pub same-outcome : length body ≤ MAX_MSG_SIZE → (o o' : Out) → Meets (replies d) (opens d) (opens d) s tt m o tt → Meets (replies d') (opens d') (opens d') s tt m o' tt → is_some o.session.failed ≡ false → All IsFd (handles_in o.served) → IsOwn o → Tells (asked_number (row s m)) o → Same o o'
  same-outcome small o o' (told, f, is) (told', g, is') alive fds own holds =
      subst (λ x. Same x o') (sym is) (subst (λ x. Same (settled s m told) x) (sym is')
      (follow-same (row s m) (rows s standard need body hs small r) told told' f g (subst (λ (x : Out). is_some x.session.failed ≡ false) is alive) (subst (λ (x : Out). All IsFd (handles_in x.served)) is fds) (subst IsOwn is own) (subst (λ (x : Out). Tells (asked_number (row s m)) x) is holds)))

-- ---- messages

header-some : (w : Written HeardReq PlainHandle) → 0 < length (written_text request_number w)
header-some w = by (length (payload_text w.payload)) (length-append (header_text (head_of request_number w)) (payload_text w.payload))
  where
    by : (n : ℕ) → length (written_text request_number w) ≡ 12 + n → 0 < length (written_text request_number w)
    by n is = omega (arith, is)

first-sent : (w : Written HeardReq PlainHandle) → first_handles (written_cells request_number w) ≡ w.handles
first-sent w = refl

first-replied : (q : HeardReq) (x : Wrote PlainHandle) → first_handles (reply_cells q x) ≡ handles_in x
first-replied q Silent = refl
first-replied q (Acknowledged agreed) = refl
first-replied q (Replied payload hs) = refl

no-failure : (x : Option ℤ) → is_some x ≡ false → x ≡ None
no-failure None is = refl
no-failure (Some n) is = absurd (cc is)

-- ---- an exchange

module _ (bit : Bool) (call : Call) (r : Reply) (e : Exchange) (f f' : Session) (b b' judge : Served) (steps : AreInStep bit f b) (proper : IsProper call) (given : HasFds call) (sized : IsSized r) (seen : IsSeen bit call r e f b f' b') (ready : IsReady judge) (memory : served.remembers judge ≡ served.remembers b) where
  abbrev shown : Shown PlainHandle
  shown = seen.joins.0

  abbrev Exchanged : Asked PlainHandle → Type 0
  Exchanged x = protocol.Exchanges (replies r) (opens r) (opens r) (session.remembers f) (served.remembers b) tt call x shown (session.remembers f') (served.remembers b') tt

  -- the bytes of a request that went out
  sent-text : (w : Written HeardReq PlainHandle) → shown.request ≡ written_cells request_number w → written_text request_number w ≡ e.request.now
  sent-text w is = sym (bytes-carrying w.handles (written_text request_number w)) ∙ ap (λ (cs : List (Cell PlainHandle)). bytes cs) (sym is) ∙ text-is e.request.now e.request_fds.now shown.request seen.request

  -- its descriptors
  sent-fds : (w : Written HeardReq PlainHandle) → All IsFd w.handles → shown.request ≡ written_cells request_number w → map handle_in e.request_fds.now ≡ map Some w.handles
  sent-fds w fds is = ap (map handle_in) (sym (ap (map fd_in) (sym (ap first_handles is ∙ first-sent w)) ∙ seen.request.numbers)) ∙ named-again w.handles fds

  -- no message went out
  pub unsent-right : e.request.now ≡ [] → (e.reply.now ≡ []) × (served.remembers judge ≡ served.remembers b')
  unsent-right none = by (ask (session.remembers f) call) seen.joins.1
    where
      nothing : shown.reply ≡ [] → e.reply.now ≡ []
      nothing is = sym (text-is e.reply.now e.reply_fds.now shown.reply seen.reply) ∙ ap (λ (cs : List (Cell PlainHandle)). bytes cs) is

      by : (x : Asked PlainHandle) → Exchanged x → (e.reply.now ≡ []) × (served.remembers judge ≡ served.remembers b')
      by (Refuses x) ex = (nothing (ap (λ (k : Shown PlainHandle). k.reply) ex.0), memory ∙ sym ex.2)
      by (Answers v g) ex = (nothing (ap (λ (k : Shown PlainHandle). k.reply) ex.0), memory ∙ sym ex.2)
      by (Sends w awaited g) ex = absurd (let long : 0 < length (written_text request_number w) = header-some w in let same : length (written_text request_number w) ≡ length e.request.now = ap (λ (xs : List ℕ). length xs) (sent-text w ex.4) in let zero : length e.request.now ≡ 0 = ap (λ (xs : List ℕ). length xs) none in omega (arith, long, same, zero))

  -- one did
  pub record Went : Type 0 where
    pub w : Written HeardReq PlainHandle
    pub request : IsRequest w e.request.now e.request_fds.now judge
    pub reply : w.reply ≡ false
    pub own : w.request ≡ SET_DEVICE_STATE_FD → ¬ (told_number e.reply.now ≡ 0x100)
    pub outcome : Outcome PlainHandle
    pub meets : Meets (replies r) (opens r) (opens r) (served.remembers b) tt (read_as w) outcome tt
    pub session : served.remembers b' ≡ outcome.session
    pub cells : IsMessage e.reply.now e.reply_fds.now (reply_cells w.request outcome.served)
    pub alive : is_some outcome.session.failed ≡ false

  standard : is_standard (served.remembers b).profile ≡ true
  standard = ap is_standard (sym steps.agree.profile ∙ steps.standard)

  pub went-so : ¬ (e.request.now ≡ []) → Went
  went-so some = by (ask (session.remembers f) call) refl seen.joins.1
    where
      empty : shown.request ≡ [] → e.request.now ≡ []
      empty is = sym (text-is e.request.now e.request_fds.now shown.request seen.request) ∙ ap (λ (cs : List (Cell PlainHandle)). bytes cs) is

      by : (x : Asked PlainHandle) → ask (session.remembers f) call ≡ x → Exchanged x → Went
      by (Refuses x) is ex = absurd (some (empty (ap (λ (k : Shown PlainHandle). k.request) ex.0)))
      by (Answers v g) is ex = absurd (some (empty (ap (λ (k : Shown PlainHandle). k.request) ex.0)))
      by (Sends w awaited g) is ex =
          let whole : IsSendable w = subst (λ (x : Asked PlainHandle). AsksSendable x) is (sends-whole PlainHandle (session.remembers f) call proper.named) in
          let plainly : IsAwaitedBy call awaited × (w.reply ≡ has_bit (session.remembers f).header_flags 2) = subst (λ (x : Asked PlainHandle). AsksPlainly (session.remembers f) call x) is (awaits-shape PlainHandle (session.remembers f) call) in
          let fds : All IsFd w.handles = sent-brings (session.remembers f) call (Sends w awaited g) given is in
          record {
            w = w;
            request = record { ready = ready; sendable = whole; text = sym (sent-text w ex.4); handles = sent-fds w fds ex.4 };
            reply = plainly.1 ∙ steps.plain;
            own = state-asked (session.remembers f) call e.reply.now (Sends w awaited g) seen.state is;
            outcome = ex.0;
            meets = ex.1;
            session = ex.2;
            cells = subst (λ cs. IsMessage e.reply.now e.reply_fds.now cs) ex.6 seen.reply;
            alive = sym (ap (λ x. if x then is_some ex.0.session.failed else protocol.is_last w.request ex.0) standard) ∙ sym ex.7 ∙ seen.joins.3;
          }

  -- so the judge finds the reply right
  module _ (x : Went) where
    abbrev w : Written HeardReq PlainHandle
    w = x.w

    abbrev request : Message HeardReq PlainHandle
    request = bringing w.request w.need_reply (payload_text w.payload) w.handles

    as-bringing : read_as w ≡ request
    as-bringing i = record { request = w.request; reply = x.reply i; need_reply = w.need_reply; body = payload_text w.payload; handles = w.handles }

    reply-text : text_in w.request x.outcome.served ≡ e.reply.now
    reply-text = sym (bytes-carrying (handles_in x.outcome.served) (text_in w.request x.outcome.served)) ∙ ap (λ (cs : List (Cell PlainHandle)). bytes cs) (sym (as-cells w.request x.outcome.served)) ∙ text-is e.reply.now e.reply_fds.now (reply_cells w.request x.outcome.served) x.cells

    reply-fds : map fd_in (handles_in x.outcome.served) ≡ e.reply_fds.now
    reply-fds = ap (map fd_in) (sym (first-replied w.request x.outcome.served)) ∙ x.cells.numbers

    module _ (same : Bool) (new : Served) (j : IsJudged (read_as w) e.reply.now e.reply_fds.now judge same new) where
      held : Holds (kind_in (asked_number (row (served.remembers b) request))) (text_in w.request x.outcome.served) (map fd_in (handles_in x.outcome.served)) j.reply
      held =
          subst (λ (text : List ℕ). Holds (kind_in (asked_number (row (served.remembers b) request))) text (map fd_in (handles_in x.outcome.served)) j.reply) (sym reply-text)
          (subst (λ (fds : List ℤ). Holds (kind_in (asked_number (row (served.remembers b) request))) e.reply.now fds j.reply) (sym reply-fds)
          (subst (λ k. Holds (kind_in (asked_number (row (served.remembers b) k))) e.reply.now e.reply_fds.now j.reply) as-bringing
          (subst {A = Memory} (λ k. Holds (kind_in (asked_number (row k (read_as w)))) e.reply.now e.reply_fds.now j.reply) memory j.holds)))

      outcomes : Same x.outcome j.outcome
      outcomes = same-outcome (served.remembers b) standard w.request w.need_reply (payload_text w.payload) w.handles r j.reply sized x.request.sendable.size x.outcome j.outcome
          (subst (λ k. Meets (replies r) (opens r) (opens r) (served.remembers b) tt k x.outcome tt) as-bringing x.meets)
          (subst (λ k. Meets (replies j.reply) (opens j.reply) (opens j.reply) (served.remembers b) tt k j.outcome tt) as-bringing (subst {A = Memory} (λ k. Meets (replies j.reply) (opens j.reply) (opens j.reply) k tt (read_as w) j.outcome tt) memory j.meets))
          x.alive (met-brings r sized (served.remembers b) (read_as w) x.outcome x.meets) (λ is. subst (λ (text : List ℕ). ¬ (told_number text ≡ 0x100)) (sym reply-text) (x.own is)) held

      cells : IsMessage e.reply.now e.reply_fds.now (reply_cells w.request j.outcome.served)
      cells = subst (λ y. IsMessage e.reply.now e.reply_fds.now (reply_cells w.request y)) (sym outcomes.served) x.cells

      right : same ≡ true
      right = by same refl
        where
          by : (k : Bool) → same ≡ k → same ≡ true
          by true is = is
          by false is = absurd (j.differs is cells)

      pub finds : FindsRight b' (Ok same) new
      finds = (
        right,
        j.memory ∙ outcomes.session ∙ sym x.session,
        j.ready right (ap (λ (k : Memory). k.failed) outcomes.session ∙ no-failure x.outcome.session.failed x.alive),
      )

    pub finds-by : (result : Result Bool Halt) (new : Served) → JudgesBy (read_as w) e.reply.now e.reply_fds.now judge result new → FindsRight b' result new
    finds-by (Ok same) new j = finds same new j
    finds-by (Err (halt.WantsMemory why)) new j = j
    finds-by (Err _) new j = j
