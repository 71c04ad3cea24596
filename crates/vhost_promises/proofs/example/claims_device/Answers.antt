-- The answers of the example device.
use Rattle.std.proofs.Common.{true}
use Rattle.vhost_promises.proofs.Claiming.{claimed}
use Rattle.vhost_promises.proofs.example.claims_device.Goals as goal

pub returns : goal.returns
returns c goes_on = (
  c.run.ensures.answers,
  c.run.ensures.appended,
  claimed c.args.alloc c.args.spare.items _ c.run.new.self c.run.ensures.answers _ _ _ _ c.new-device.ensures c.new.ensures.items c.new-2.ensures.items c.in_ok-joined.ensures.fresh c.run.ensures.steps c.in_ok-run.was c.run.ensures.lockstep (c.in_ok-joined.ensures.ready true) goes_on,
)
