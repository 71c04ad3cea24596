use Rattle.std.proofs.Common.{Some, rules, tests}
use Rattle.vhost_protocol.specs.FrontendCall.{SetVringCall}
use Rattle.vhost_lines.specs.Arguments.{handle}
use Rattle.vhost_lines.specs.Number.{u64}
use Rattle.vhost_lines.proofs.OtherCounts.{not_two}
use Rattle.vhost_lines.proofs.call_words.ring.set_vring_call.Goals as goal
use Rattle.vhost_lines.proofs.call_words.ring.set_vring_call.Goals.{in_default-via-then-args-lt2, in_default-via-else-args-lt2+else-args-lt3}

pub returns-in_default : goal.returns-in_default
returns-in_default c = not_two u64 handle (λ i h. SetVringCall i (Some h)) c.args.args.now (λ is. elim c.in_default.branch [ in_default-via-then-args-lt2 w ↦ search (rules, tests) | in_default-via-else-args-lt2+else-args-lt3 w ↦ search (rules, tests) ])
