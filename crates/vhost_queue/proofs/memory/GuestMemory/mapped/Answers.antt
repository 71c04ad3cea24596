use Rattle.vhost_queue.proofs.Translating.{whole-found}
use Rattle.vhost_queue.proofs.memory.GuestMemory.mapped.Goals as goal

pub returns-clause-exact : goal.returns-clause-exact
returns-clause-exact c =
    let r = c.index-region.result.now in
    whole-found c.args.self.now.regions.items c.args.at r c.args.addr c.args.len c.args.self.now.apart c.requires.within c.index-region.ensures (c.requires.holds r) c.requires.some
