use Rattle.std.proofs.Common.{sym, rules, tests}
use Rattle.vhost_lines.proofs.OtherCounts.{get_inflight_fd-other}
use Rattle.vhost_lines.proofs.call_words.several.get_inflight_fd.Goals as goal
use Rattle.vhost_lines.proofs.call_words.several.get_inflight_fd.Goals.{in_default-via-then-args-lt4, in_default-via-else-args-lt4+else-args-lt5}

pub returns-in_default : goal.returns-in_default
returns-in_default c = sym (get_inflight_fd-other c.args.args.now (λ is. elim c.in_default.branch [ in_default-via-then-args-lt4 w ↦ search (rules, tests) | in_default-via-else-args-lt4+else-args-lt5 w ↦ search (rules, tests) ]))
