use Rattle.std.proofs.Common.{rules, tests}
use Rattle.vhost_protocol.specs.FrontendCall.{SetHdrFlags}
use Rattle.vhost_lines.specs.Arguments.{header_flags}
use Rattle.vhost_lines.proofs.OtherCounts.{not_one}
use Rattle.vhost_lines.proofs.call_words.single.set_hdr_flags.Goals as goal
use Rattle.vhost_lines.proofs.call_words.single.set_hdr_flags.Goals.{in_default-via-then-args-lt1, in_default-via-else-args-lt1+else-args-lt2}

pub returns-in_default : goal.returns-in_default
returns-in_default c = not_one header_flags SetHdrFlags c.args.args.now (λ is. elim c.in_default.branch [ in_default-via-then-args-lt1 w ↦ search (rules, tests) | in_default-via-else-args-lt1+else-args-lt2 w ↦ search (rules, tests) ])
