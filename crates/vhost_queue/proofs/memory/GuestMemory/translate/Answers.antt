use Rattle.vhost_queue.proofs.Translating.{translated-found}
use Rattle.vhost_queue.proofs.memory.GuestMemory.translate.Goals as goal

pub returns-clause-exact : goal.returns-clause-exact
returns-clause-exact c =
    let r = c.index.result.now in
    translated-found _ _ c.in-Some.at r _ _ c.args.self.now.apart c.in-Some.ensures.some.0 c.index.ensures (c.in-Some.ensures.some.1 r) _ c.base.ensures
