-- A call of joined sessions, from its request to its answer.
use Rattle.std.proofs.Common.{◌≡◌, ◌<◌, ◌≤◌, ◌^◌, ℕ, Bool, true, false, List, [], ◌++◌, length, Option, None, Ok, refl, sym, ap, subst, ◌∙◌, length-append, arith}
use Rattle.std.specs.Prelude.{All, is_some, if◌then◌else◌}
use Rattle.std.proofs.lemmas.List.{append-nil}
use Rattle.vhost_message.specs.Header.{header_text}
use Rattle.vhost_message.specs.declared.heard_req.HeardReq.{HeardReq}
use Rattle.vhost_message.specs.declared.limits.TheConstants.{MAX_MSG_SIZE, MAX_MSG_TEXT}
use Rattle.vhost_message.specs.HeardReq.{request_number}
use Rattle.vhost_protocol.specs.Ask.{Asked, Sends, ask}
use Rattle.vhost_protocol.specs.Codes.{allows_handles}
use Rattle.vhost_protocol.specs.FrontendCall.{FrontendCall}
use Rattle.vhost_protocol.specs.Heard.{AsksSendable, IsSendable}
use Rattle.vhost_protocol.specs.Joined.{read_as}
use Rattle.vhost_protocol.specs.Session.{Session as Memory, heard_in}
use Rattle.vhost_protocol.specs.Split.{announced, split}
use Rattle.vhost_protocol.specs.Stream.{Cell, bytes}
use Rattle.vhost_protocol.specs.Written.{Written, head_of, payload_text, written_cells, written_text}
use Rattle.vhost_protocol.proofs.HeardLaws.{heard-named}
use Rattle.vhost_protocol.proofs.SendLaws.{sends-whole}
use Rattle.vhost_protocol.proofs.TextLaws as text
use Rattle.vhost_protocol.proofs.TextLaws.{request-small, written-split}
use Rattle.vhost_link.specs.declared.plain.PlainHandle.{PlainHandle}
use Rattle.vhost_backend_req_handler_core.specs.Session.{session_of}
use Rattle.vhost_backend_req_handler.specs.declared.halves.Pending.{Pending}
use Rattle.vhost_backend_req_handler.specs.declared.service.Service.{Service}
use Rattle.vhost_frontend_core.specs.Frontend.{awaits, endpoint_of}
use Rattle.vhost_frontend_core.specs.ValueHalves.{IsSent}
use Rattle.vhost_c_common.specs.Incoming.{missing_by}
use Rattle.vhost_c_common.specs.View.{End}
use Rattle.vhost_c_backend.specs.Served as served
use Rattle.vhost_c_backend.specs.declared.replies.Form.{Form}
use Rattle.vhost_c_backend.specs.declared.served.Served.{Served}
use Rattle.vhost_c_joined.specs.Device.{IsDue}
use Rattle.vhost_c_joined.specs.Joined.{AreInStep, HasFds}
use Rattle.vhost_c_frontend.specs.Session as session
use Rattle.vhost_c_frontend.specs.Session.{Asks, sent, at_once, Keeps}
use Rattle.vhost_c_joined.specs.Wire.{HasCome, IsFd, IsTold, IsOnWay, IsOver}
use Rattle.vhost_c_frontend.specs.declared.session.Session.{Session}
use Rattle.vhost_c_joined.proofs.Brought.{sent-brings}
use Rattle.vhost_c_joined.proofs.Told.{request-told, valid-head}

abbrev Call : Type 0
Call = FrontendCall PlainHandle

abbrev Message : Type 0
Message = Written HeardReq PlainHandle

-- what a backend's session keeps while a message comes
abbrev Kept : Type 0
Kept = Option (Pending PlainHandle) × List ℕ × Service × ℕ × Form

-- ---- it was asked

-- a call whose request goes out
pub record Sent (call : Call) (old new : Session) : Type 0 where
  pub w : Message
  pub is : ask (session.remembers old) call ≡ Sends w (awaits new.frontend) (session.remembers new)
  pub queue : session.queued new ≡ session.queued old ++ written_cells request_number w
  pub keeps : Keeps call w new
  pub sound : (endpoint_of new.frontend).broken ≡ None

pub sent-so : (call : Call) (old new : Session) → IsSent call → Asks call old new → Sent call old new
sent-so call old new goes (sent w is queue keeps answer sound) = record { w = w; is = is; queue = queue; keeps = keeps; sound = sound.after }
sent-so call old new goes (at_once flags is memory queue asked incoming answer end) = absurd (subst IsSent is goes)

-- ---- its request comes over

module _ (bit : Bool) (call : Call) (given : HasFds call) (f0 f1 : Session) (b0 : Served) (steps : AreInStep bit f0 b0) (s : Sent call f0 f1) where
  pub whole : IsSendable s.w
  whole = subst (λ (x : Asked PlainHandle). AsksSendable x) s.is (sends-whole PlainHandle (session.remembers f0) call s.keeps.proper.named)

  small : length (payload_text s.w.payload) ≤ MAX_MSG_SIZE
  small = whole.size

  known : request_number s.w.request < 2 ^ 32
  known = request-small s.w.request whole.named

  abbrev heard : ℕ → Option HeardReq
  heard = heard_in (served.remembers b0)

  sendable : text.IsSendable heard allows_handles request_number s.w
  sendable = record { known = heard-named (served.remembers b0) s.w.request whole.named; code = known; allowed = whole.allowed; size = small }

  is-announced : is_some (announced heard (head_of request_number s.w)) ≡ true
  is-announced = ap (λ b. is_some (if b then heard (request_number s.w.request) else None)) (valid-head s.w known small) ∙ ap (λ o. is_some o) (heard-named (served.remembers b0) s.w.request whole.named)

  abbrev pub request : List ℕ
  request = written_text request_number s.w

  pub told : IsTold request (missing_by heard)
  told = request-told s.w known small heard is-announced

  few : length request ≤ MAX_MSG_TEXT
  few = let long = length-append (header_text (head_of request_number s.w)) (payload_text s.w.payload) in omega (arith, long, small)

  fds : All IsFd s.w.handles
  fds = sent-brings (session.remembers f0) call (Sends s.w (awaits f1.frontend) (session.remembers f1)) given s.is

  pub on-way : IsOnWay s.w.handles request (session.view f1) (served.view b0)
  on-way = record {
    whole = ap (λ cells. cells ++ session.queued f1) steps.no_request.1 ∙ s.queue ∙ ap (λ cells. cells ++ written_cells request_number s.w) steps.no_request.0;
    few = few;
    fds = fds;
    has = subst {A = List (Cell PlainHandle)} (λ cells. HasCome (bytes cells) b0.incoming) (sym steps.no_request.1) (record { count = steps.no_request.2; head = refl });
  }

  module _ (f2 : Session) (b1 : Served) (over : IsOver (missing_by heard) s.w.handles request (session.view f1) (served.view b0) (session.view f2) (served.view b1)) where
    pub memory : served.remembers b1 ≡ served.remembers b0
    memory = ap {A = Kept} (λ k. session_of k.2.session) over.moves.waits.rest

    idle : served.has_call b1 ≡ false
    idle = ap {A = Kept} (λ k. is_some k.0) over.moves.waits.rest ∙ steps.idle

    came : split (heard_in (served.remembers b1)) allows_handles (served.arrived b1) ≡ (Ok (read_as s.w), [])
    came =
        ap {A = Memory} (λ k. split (heard_in k) allows_handles (served.arrived b1)) memory
        ∙ ap (split heard allows_handles) (over.arrived ∙ sym (append-nil (written_cells request_number s.w)))
        ∙ written-split heard allows_handles request_number s.w [] sendable

    pub is-due : IsDue (read_as s.w) b1
    is-due = record {
      came = came;
      whole = ap (λ b. if b then 0 else served.missing_of_request b1) idle ∙ ap {A = Memory} (λ k. missing_by (heard_in k) b1.incoming) memory ∙ over.whole;
      idle = idle;
      goes_on = ap {A = Memory} (λ k. k.failed) memory ∙ steps.goes_on;
      queue = over.moves.waits.queue ∙ steps.no_reply;
      sound = (ap {A = End} (λ e. e.broken) over.moves.waits.end ∙ steps.sound.1, ap {A = End} (λ e. e.link.script) over.moves.waits.end ∙ steps.sound.2);
    }
