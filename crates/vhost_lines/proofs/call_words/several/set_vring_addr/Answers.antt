use Rattle.std.proofs.Common.{sym, arith}
use Rattle.vhost_lines.proofs.OtherCounts.{set_vring_addr-other}
use Rattle.vhost_lines.proofs.call_words.several.set_vring_addr.Goals as goal

pub returns-in_default : goal.returns-in_default
returns-in_default c = sym (set_vring_addr-other c.args.args.now (omega arith))
