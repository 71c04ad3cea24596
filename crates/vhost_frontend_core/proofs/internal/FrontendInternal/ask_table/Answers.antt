-- SET_MEM_TABLE: what is asked.
use Rattle.std.proofs.Common.{sym, ◌∙◌, ap, take, map, Bor}
use Rattle.vhost_message.specs.declared.heard_req.HeardReq.TheVariants.{SET_MEM_TABLE}
use Rattle.vhost_protocol.specs.Written.{Regions}
use Rattle.vhost_connection.specs.Asking.{request_with}
use Rattle.vhost_frontend_core.specs.Asking.AsksWithRoom.{roomy}
use Rattle.vhost_frontend_core.specs.Frontend.{session_of}
use Rattle.vhost_frontend_core.proofs.Asking.{stops, passes, else_as, message_is, tried-as, tries_as}
use Rattle.vhost_frontend_core.proofs.internal.FrontendInternal.ask_table.Goals as goal

pub returns-in_err-first-clause-asked : goal.returns-in_err-first-clause-asked
returns-in_err-first-clause-asked g c = roomy (stops _ _ c.from_residual.ensures.1 c.in_err-first.ensures.test)

pub returns-clause-asked : goal.returns-clause-asked
returns-clause-asked g c =
    let table = ap (λ n. take n c.table_of-table.result) c.len-count.ensures ∙ c.table_of-table.ensures in
    let handles = ap (λ n. map (λ (h : Bor _). h.now) (take n c.handles_of-handles.result)) c.len-count.ensures ∙ c.handles_of-handles.ensures in
    roomy (passes c.in_ok-first.ensures.test (else_as _ (sym c.is_listening.ensures ∙ c.if-is_listening.false)
    (tried-as ((λ j. request_with c.flags-flags.result SET_MEM_TABLE (Regions (table j)) (handles j))
    ∙ message_is _ (session_of c.args.self.now) _ _ _ c.flags-flags.ensures.reply c.flags-flags.ensures.need_reply) c.send_table.ensures.session
    (tries_as c.acknowledgement-awaited.ensures c.send_table.ensures.sent))))
