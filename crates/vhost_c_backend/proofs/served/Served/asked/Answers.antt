use Rattle.std.proofs.Common.{◌≡◌, Some, None, ap, ◌∙◌}
use Rattle.vhost_backend_req_handler_core.specs.declared.call.DeviceCall.{DeviceCall}
use Rattle.vhost_c_backend.specs.Calls.{call_number}
use Rattle.vhost_c_backend.specs.Replies.{form_in}
use Rattle.vhost_c_backend.proofs.Serving.{lent}
use Rattle.vhost_c_backend.proofs.served.Served.asked.Goals as goal

pub returns-in-Some : goal.returns-in-Some
returns-in-Some c = λ m x.
    let d = lent c.args.core.now (Some c.in-Some.call) c.in-Some.ensures.row c.in-Some.ensures.some m x in
    let same : c.in-Some.call ≡ d.0 = cc d.1 in
    (d.0, (λ i. Some ((c.number_of_call.ensures ∙ ap {A = DeviceCall} call_number same) i, (c.form_of.ensures ∙ ap {A = DeviceCall} form_in same) i)), d.2)

pub returns-in-None : goal.returns-in-None
returns-in-None c = λ m x. absurd (cc (lent c.args.core.now None c.in-None.ensures.row c.in-None.ensures.some m x).1)
