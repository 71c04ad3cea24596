-- The arms whose answers have no value.
use Rattle.std.proofs.Common.{◌∙◌, ap, sym}
use Rattle.vhost_backend_req_handler_core.specs.Concluding.{reported}
use Rattle.vhost_backend_req_handler_core.specs.Session.{session_of}
use Rattle.vhost_backend_req_handler_core.proofs.conclude.Conclusions.report.Goals as goal

pub returns-in-Log : goal.returns-in-Log
returns-in-Log g c b =
    c.log.ensures (session_of c.args.session.now) b ∙ sym (ap (λ t. reported (session_of c.args.session.now) c.args.need_reply b t c.args.answer.now) c.in-Log.is)

pub returns-in-Unwritten : goal.returns-in-Unwritten
returns-in-Unwritten g c b =
    c.unwritten.ensures (session_of c.args.session.now) b ∙ sym (ap (λ t. reported (session_of c.args.session.now) c.args.need_reply b t c.args.answer.now) c.in-Unwritten.is)
