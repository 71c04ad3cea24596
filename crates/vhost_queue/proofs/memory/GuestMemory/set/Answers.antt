use Rattle.vhost_queue.proofs.Refused.{refused-among}
use Rattle.vhost_queue.proofs.memory.GuestMemory.set.Goals as goal

pub returns-in-Err-clause-reason : goal.returns-in-Err-clause-reason
returns-in-Err-clause-reason c =
    refused-among c.args.regions.now c.loop-region.region-index _ c.in-Err.error c.loop-region-test.true c.loop-region.memory.regions.items c.loop-region.invariant c.in-Err.ensures.reason
