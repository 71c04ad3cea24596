use Rattle.std.proofs.Common.{sym}
use Rattle.vhost_queue.proofs.Translating.{no_part, part-found}
use Rattle.vhost_queue.proofs.memory.GuestMemory.translate_part.Goals as goal

pub returns-in_default-clause-exact : goal.returns-in_default-clause-exact
returns-in_default-clause-exact c = sym (no_part c.args.self.now.regions.items c.args.addr c.args.len c.in_default.ensures.none)

pub returns-clause-exact : goal.returns-clause-exact
returns-clause-exact c =
    let r = c.index-region.result.now in
    part-found _ c.in-Some.at r _ _ _ c.args.self.now.apart c.in-Some.ensures.some.0 c.index-region.ensures (c.in-Some.ensures.some.1 r) c.min.ensures
