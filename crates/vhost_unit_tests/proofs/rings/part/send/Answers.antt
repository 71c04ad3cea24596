use Rattle.std.proofs.Common.{rules, ap}
use Rattle.vhost_link.specs.Rings.{RingEnds}
use Rattle.vhost_unit_tests.proofs.rings.part.send.Goals as goal

pub returns-in-Ok : goal.returns-in-Ok
returns-in-Ok g c = ap (λ (r : RingEnds). r.output) c.in-Ok.ensures.law.2.2

pub returns-in-Err-Raw : goal.returns-in-Err-Raw
returns-in-Err-Raw g c = ap (λ (r : RingEnds). r.output) c.in-Err-Raw.ensures.law.2

pub returns-in-Err-Named : goal.returns-in-Err-Named
returns-in-Err-Named g c = ap (λ (r : RingEnds). r.output) c.in-Err-Named.ensures.law.2
