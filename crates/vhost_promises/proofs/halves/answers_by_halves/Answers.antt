-- By the contracts of the halves, and their law.
use Rattle.std.proofs.Common.{refl}
use Rattle.vhost_connection.specs.Requests.{IsReady}
use Rattle.vhost_frontend_req_handler.specs.Core.{endpoint_of}
use Rattle.vhost_promises.proofs.halves.answers_by_halves.Goals as goal

pub returns-in-Ok : goal.returns-in-Ok
returns-in-Ok g c alive =
    let begun = c.in-Ok.ensures.begun alive in
    let ready : IsReady (endpoint_of c.begin.new.self) = record { broken = begun.reads.hears.serves.after; faulted = begun.reads.hears.serves.faulted } in
    c.halves_law.ensures.served c.args.core.now c.begin.new.self c.begin.new.self c.conclude.new.self c.args.device.now c.call_device-answer.new.device c.in-Ok.call c.call_device-answer.result c.conclude.result begun refl refl
    c.call_device-answer.ensures c.conclude.ensures.fits (c.conclude.ensures.concluded begun.request begun.is ready)

pub returns-in-Err : goal.returns-in-Err
returns-in-Err g c alive = c.halves_law.ensures.refused c.args.core.now c.begin.new.self c.args.device.now c.in-Err.error alive (c.in-Err.ensures.refused alive)
