use Rattle.std.proofs.Common.{rules}
use Rattle.vhost_frontend_core.specs.Regions.{info_of}
use Rattle.vhost_comparing.proofs.Tables.{same_here}
use Rattle.vhost_comparing.proofs.records.are_same_infos.Goals as goal

pub returns-then-not-is_same_info : goal.returns-then-not-is_same_info
returns-then-not-is_same_info c = (
  (λ f. absurd (cc f)),
  (λ all. let here = c.is_same_info.ensures.1 (same_here info_of c.args.a.now c.args.b.now c.loop-i.i _ _ c.loop-i-test.true (search rules) all) in search (rules, here)),
)
