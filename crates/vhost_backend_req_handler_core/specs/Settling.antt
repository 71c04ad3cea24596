-- What becomes of a request that the table leaves unanswered, by what was kept of it.
use Rattle.std.specs.Prelude.{◌≡◌, true, false, not, ◌&&◌, ◌||◌, [], is_err, is_ok, if◌then◌else◌}
use Rattle.vhost_message.specs.declared.heard_req.HeardReq.{HeardReq}
use Rattle.vhost_protocol.specs.Served.{Acknowledged, Replied}
use Rattle.vhost_protocol.specs.Session.{Session, ack_on}
use Rattle.vhost_protocol.specs.Settled.{ended, is_unanswered, saying, settled, silenced}
use Rattle.vhost_protocol.specs.Split.{Message}
use Rattle.vhost_protocol.specs.Step.{Outcome}
use Rattle.vhost_protocol.specs.Written as payload
use Rattle.vhost_backend_req_handler_core.specs.declared.settle.Acks.{Acks}
use Rattle.vhost_backend_req_handler_core.specs.declared.settle.Form.{Form}
use Rattle.vhost_backend_req_handler_core.specs.declared.settle.Form.TheVariants as form
use Rattle.vhost_backend_req_handler_core.specs.declared.settle.Unanswered.{Unanswered}
use Rattle.vhost_backend_req_handler_core.specs.declared.settle.Unanswered.TheVariants as unanswered

-- a reply of its own refuses, or the session ends
abbrev pub formed : {H : Type 0} → Form → Outcome H → Outcome H
formed form.Ends o = ended o
formed form.Empty o = saying o (Replied payload.Empty [])
formed (form.Number n) o = saying o (Replied (payload.U64 n) [])
formed form.Outcome o = saying o (Replied (payload.U64 (if is_ok o.answer then 0 else 1)) [])
formed (form.Config c) o = saying o (Replied (payload.ConfigBytes c []) [])
formed (form.Inflight i) o = saying o (Replied (payload.InflightArea i) [])

-- it is acknowledged where it asks for that, or the session ends where a refusal would be missed
abbrev pub acked : {H : Type 0} → Acks → Outcome H → Outcome H
acked a o =
    if is_err o.answer && (a.reply || a.turns && not (ack_on o.session && a.need_reply)) then ended o
    else if ack_on o.session && a.need_reply then saying o (Acknowledged (is_ok o.answer))
    else o

-- what a request became, settled
abbrev pub settled_by : {H : Type 0} → Unanswered → Outcome H → Outcome H
settled_by unanswered.Stays o = o
settled_by (unanswered.Own f) o = if is_unanswered true o.served then formed f (silenced o) else o
settled_by (unanswered.Acks a) o = if is_unanswered false o.served then acked a (silenced o) else o

-- what was kept of a request settles whatever it becomes
abbrev pub Settles : {H : Type 0} → Session → Message HeardReq H → Unanswered → Type 0
Settles {H = H} s m u = (o : Outcome H) → settled_by u o ≡ settled s m o
