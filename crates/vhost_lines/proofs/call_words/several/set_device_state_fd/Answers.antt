use Rattle.std.proofs.Common.{sym, rules, tests}
use Rattle.vhost_lines.proofs.OtherCounts.{set_device_state_fd-other}
use Rattle.vhost_lines.proofs.call_words.several.set_device_state_fd.Goals as goal
use Rattle.vhost_lines.proofs.call_words.several.set_device_state_fd.Goals.{in_default-via-then-args-lt3, in_default-via-else-args-lt3+else-args-lt4}

pub returns-in_default : goal.returns-in_default
returns-in_default c = sym (set_device_state_fd-other c.args.args.now (λ is. elim c.in_default.branch [ in_default-via-then-args-lt3 w ↦ search (rules, tests) | in_default-via-else-args-lt3+else-args-lt4 w ↦ search (rules, tests) ]))
