-- The call is that of the message that was read.
use Rattle.std.proofs.Common.{◌≡◌, ◌∙◌, Ok, ap, subst, sym}
use Rattle.vhost_message.specs.declared.heard_req.HeardReq.{HeardReq}
use Rattle.vhost_protocol.specs.Row.{row_of}
use Rattle.vhost_protocol.specs.Split.{Message}
use Rattle.vhost_backend_req.specs.declared.backend.Backend.{Backend}
use Rattle.vhost_gpu_backend_req.specs.declared.backend.GpuBackend.{GpuBackend}
use Rattle.vhost_backend_req_handler_core.specs.Beginning.{handles_in, message_in, step_of}
use Rattle.vhost_backend_req_handler.specs.Core.{session_in}
use Rattle.vhost_backend_req_handler.proofs.Finishing.{begun_as, unmakes}
use Rattle.vhost_backend_req_handler.proofs.Reading.{message_is}
use Rattle.vhost_backend_req_handler.proofs.session_core.SessionCore.call_of.Goals as goal

pub returns-in-Ok-Calls-clause-row : goal.returns-in-Ok-Calls-clause-row
returns-in-Ok-Calls-clause-row g c m reads over =
    let i = c.new-message.result in
    let hs = handles_in c.args.pending.now.handles in
    let same = message_is _ _ c.args.pending.now.request c.args.pending.now.handles m i reads over c.new-message.ensures (cc c.deref.ensures) in
    let row = begun_as (session_in c.args.self.now) (message_in i hs) c.begin.ensures (c.in-Ok-Calls.is ∙ ap (λ x. Ok x) c.in-Ok-Calls.field-0-is) in
    subst (λ (x : Message HeardReq g.row.L-Handle.Denot). row_of {B = Backend g.row.L.Denot g.row.L-Handle.Denot} {G = GpuBackend g.row.L.Denot g.row.L-Handle.Denot} x.request (session_in c.args.self.now) x ≡ step_of (session_in c.args.self.now) x c.in-Ok-Calls.call) same (sym row)

pub returns-in-Ok-Refuses-clause-some : goal.returns-in-Ok-Refuses-clause-some
returns-in-Ok-Refuses-clause-some g c m reads over makes =
    let s = session_in c.args.self.now in
    let i = c.new-message.result in
    let read = message_in i (handles_in c.args.pending.now.handles) in
    let same = message_is _ _ c.args.pending.now.request c.args.pending.now.handles m i reads over c.new-message.ensures (cc c.deref.ensures) in
    absurd (unmakes s read m _ (begun_as s read c.begin.ensures (c.in-Ok-Refuses.is ∙ ap (λ x. Ok x) c.in-Ok-Refuses.field-0-is)) same makes)

pub returns-in-Err-clause-some : goal.returns-in-Err-clause-some
returns-in-Err-clause-some g c m reads over makes =
    let s = session_in c.args.self.now in
    let i = c.new-message.result in
    let read = message_in i (handles_in c.args.pending.now.handles) in
    let same = message_is _ _ c.args.pending.now.request c.args.pending.now.handles m i reads over c.new-message.ensures (cc c.deref.ensures) in
    absurd (unmakes s read m _ (begun_as s read c.begin.ensures c.in-Err.is) same makes)
