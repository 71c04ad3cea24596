use Rattle.std.proofs.Common.{sym, rules, tests}
use Rattle.vhost_lines.proofs.OtherCounts.{set_log_base-other}
use Rattle.vhost_lines.proofs.call_words.several.set_log_base.Goals as goal
use Rattle.vhost_lines.proofs.call_words.several.set_log_base.Goals.{in_default-via-then-args-lt1, in_default-via-else-args-lt1+else-args-lt2+then-args-lt4, in_default-via-else-args-lt1+else-args-lt2+else-args-lt4+else-args-lt5}

pub returns-in_default : goal.returns-in_default
returns-in_default c = sym (set_log_base-other c.args.args.now (λ is. elim c.in_default.branch [ in_default-via-then-args-lt1 w ↦ search (rules, tests) | in_default-via-else-args-lt1+else-args-lt2+then-args-lt4 w ↦ search (rules, tests) | in_default-via-else-args-lt1+else-args-lt2+else-args-lt4+else-args-lt5 w ↦ search (rules, tests) ]) (λ is. elim c.in_default.branch [ in_default-via-then-args-lt1 w ↦ search (rules, tests) | in_default-via-else-args-lt1+else-args-lt2+then-args-lt4 w ↦ search (rules, tests) | in_default-via-else-args-lt1+else-args-lt2+else-args-lt4+else-args-lt5 w ↦ search (rules, tests) ]))
