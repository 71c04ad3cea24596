use Rattle.std.proofs.Common.{sym, arith}
use Rattle.vhost_lines.proofs.OtherCounts.{only_region-other}
use Rattle.vhost_lines.proofs.call_words.region.only_region.Goals as goal

pub returns-in_default : goal.returns-in_default
returns-in_default c = sym (only_region-other c.args.args.now (λ is. omega arith))

pub returns-in_default-2 : goal.returns-in_default-2
returns-in_default-2 c = sym (only_region-other c.args.args.now (λ is. omega arith))
