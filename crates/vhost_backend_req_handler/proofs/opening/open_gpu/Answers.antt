-- A handle is opened as the channel to a display.
use Rattle.std.proofs.Common.{Ok, Err, refl, ap, ◌∙◌}
use Rattle.vhost_protocol.specs.Error.{seen}
use Rattle.vhost_connection.specs.State.{state}
use Rattle.vhost_connection.specs.declared.endpoint.Endpoint.{Endpoint}
use Rattle.vhost_gpu_backend_req.specs.Opened.{IsOver}
use Rattle.vhost_backend_req_handler.proofs.Channels.{becomes}
use Rattle.vhost_backend_req_handler.proofs.opening.open_gpu.Goals as goal

pub returns-in-Ok-clause-opened : goal.returns-in-Ok-clause-opened
returns-in-Ok-clause-opened g c =
    let limit = c.budget.ensures ∙ ap (λ (e : Endpoint _ _ _). (state e).budget) c.in-Ok.ensures.same in
    (Ok c.in-Ok.link, c.in-Ok.ensures.opened, becomes (λ c link n. IsOver c link n) c.in-Ok.link c.from_stream.result limit c.from_stream.ensures.opened c.from_stream.ensures.memory)

pub returns-in-Err-clause-opened : goal.returns-in-Err-clause-opened
returns-in-Err-clause-opened g c = (Err (seen c.in-Err.error), c.in-Err.ensures.opened, refl)
