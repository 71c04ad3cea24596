-- By the contracts of both halves, and what a call without a reply awaits.
use Rattle.std.proofs.Common.{refl}
use Rattle.vhost_protocol.specs.FrontendCall.{SetOwner}
use Rattle.vhost_frontend.proofs.Whole.{unasked}
use Rattle.vhost_frontend.specs.Whole.Calls.{answered}
use Rattle.vhost_frontend_core.proofs.Awaiting.{may-await}
use Rattle.vhost_promises.proofs.halves.claims_by_halves.Goals as goal

pub returns-in-Ok : goal.returns-in-Ok
returns-in-Ok g c =
    let asks = c.in-Ok.ensures.asked.without refl in
    answered asks (c.take_set_owner.ensures.taken (may-await SetOwner asks))

pub returns-in-Err : goal.returns-in-Err
returns-in-Err g c = unasked (c.in-Err.ensures.asked.without refl)
