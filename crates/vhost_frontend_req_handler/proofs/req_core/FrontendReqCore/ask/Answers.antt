-- What a request became was carried out.
use Rattle.vhost_frontend_req_handler.proofs.Rows.{answered, bad_body_answered, unserved_answered}
use Rattle.vhost_frontend_req_handler.proofs.req_core.FrontendReqCore.ask.Goals as goal

pub returns-in-Calls : goal.returns-in-Calls
returns-in-Calls g c m reads over = answered (c.in-Calls.ensures m reads over) c.call_device.ensures

pub returns-in-BadBody : goal.returns-in-BadBody
returns-in-BadBody g c m reads over = bad_body_answered (c.in-BadBody.ensures m reads over)

pub returns-in-Unserved : goal.returns-in-Unserved
returns-in-Unserved g c m reads over = unserved_answered (c.in-Unserved.ensures m reads over)
