use Rattle.std.proofs.Common.{rules, tests}
use Rattle.vhost_protocol.specs.FrontendCall.{SetVringBase}
use Rattle.vhost_lines.specs.Number.{u64, u16}
use Rattle.vhost_lines.proofs.OtherCounts.{not_two}
use Rattle.vhost_lines.proofs.call_words.ring.set_vring_base.Goals as goal
use Rattle.vhost_lines.proofs.call_words.ring.set_vring_base.Goals.{in_default-via-then-args-lt2, in_default-via-else-args-lt2+else-args-lt3}

pub returns-in_default : goal.returns-in_default
returns-in_default c = not_two u64 u16 SetVringBase c.args.args.now (λ is. elim c.in_default.branch [ in_default-via-then-args-lt2 w ↦ search (rules, tests) | in_default-via-else-args-lt2+else-args-lt3 w ↦ search (rules, tests) ])
