-- A request is answered by its row.
use Rattle.std.proofs.Common.{Err}
use Rattle.std.proofs.lemmas.Result.{err_from_is_err_and}
use Rattle.vhost_protocol.specs.Error.{InvalidMessage}
use Rattle.vhost_protocol.specs.IoError.{Of, seen_io_result}
use Rattle.std.proofs.Common.{refl}
use Rattle.vhost_frontend_req_handler.specs.Core.{server_in}
use Rattle.vhost_frontend_req_handler.proofs.Answering.{bad-refused, call-stopped, call-told, told_as, unserved-stopped, unserved-told}
use Rattle.vhost_frontend_req_handler.proofs.req_core.FrontendReqCore.answer.Goals as goal

pub returns-in_err-acknowledge-in-Answered-clause-meets : goal.returns-in_err-acknowledge-in-Answered-clause-meets
returns-in_err-acknowledge-in-Answered-clause-meets g c m reads over ready =
    let p = err_from_is_err_and c.from_residual.result c.from_residual.ensures.1 in
    rw (p.1, p.2) (call-stopped g.L.Link.event _ c.args.request.code _ _ m _ _ _ _ _ c.in-Answered.answer reads.code (c.in-Answered.ensures m reads over) c.number_of.ensures.fits
    (told_as (server_in c.args.self.now) c.args.request m (seen_io_result c.in-Answered.answer) _ reads (c.in_err-acknowledge-in-Answered.ensures.acknowledges (seen_io_result c.in-Answered.answer) ready c.number_of.ensures.number)) c.acknowledge.ensures.server)

pub returns-in_err-acknowledge-in-Unserved-clause-meets : goal.returns-in_err-acknowledge-in-Unserved-clause-meets
returns-in_err-acknowledge-in-Unserved-clause-meets g c m reads over ready =
    let p = err_from_is_err_and c.from_residual-in_err-acknowledge-in-Unserved.result c.from_residual-in_err-acknowledge-in-Unserved.ensures.1 in
    rw (p.1, p.2) (unserved-stopped g.L.Link.event _ c.args.request.code _ _ m _ _ _ _ _ reads.code (c.in-Unserved.ensures m reads over)
    (told_as (server_in c.args.self.now) c.args.request m (Err (Of InvalidMessage)) _ reads (c.in_err-acknowledge-in-Unserved.ensures.acknowledges (Err (Of InvalidMessage)) ready refl)) c.acknowledge-in-Unserved.ensures.server)

pub returns-in_ok-acknowledge-in-Answered-clause-meets : goal.returns-in_ok-acknowledge-in-Answered-clause-meets
returns-in_ok-acknowledge-in-Answered-clause-meets g c m reads over ready =
    call-told g.L.Link.event _ c.args.request.code _ _ m _ _ _ _ _ c.in-Answered.answer reads.code (c.in-Answered.ensures m reads over) c.number_of.ensures.fits
    (told_as (server_in c.args.self.now) c.args.request m (seen_io_result c.in-Answered.answer) _ reads (c.in_ok-acknowledge-in-Answered.ensures.acknowledges (seen_io_result c.in-Answered.answer) ready c.number_of.ensures.number)) c.hand_on.ensures c.acknowledge.ensures.server

pub returns-in_ok-acknowledge-in-Unserved-clause-meets : goal.returns-in_ok-acknowledge-in-Unserved-clause-meets
returns-in_ok-acknowledge-in-Unserved-clause-meets g c m reads over ready =
    unserved-told g.L.Link.event _ c.args.request.code _ _ m _ _ _ _ reads.code (c.in-Unserved.ensures m reads over)
    (told_as (server_in c.args.self.now) c.args.request m (Err (Of InvalidMessage)) _ reads (c.in_ok-acknowledge-in-Unserved.ensures.acknowledges (Err (Of InvalidMessage)) ready refl)) c.acknowledge-in-Unserved.ensures.server

pub returns-in-BadBody-clause-meets : goal.returns-in-BadBody-clause-meets
returns-in-BadBody-clause-meets g c m reads over ready = bad-refused g.L.Link.event _ c.args.request.code _ m _ _ _ reads.code (c.in-BadBody.ensures m reads over) ready
