-- Two lines, with their output.
use Rattle.std.proofs.Common.{false, Some, subst, arith, ◌∙◌}
use Rattle.vhost_protocol.specs.declared.profile.Profile.TheVariants.{Vhost}
use Rattle.vhost_lines.specs.Run.{ShowsLines}
use Rattle.vhost_session_tests.specs.TwoLines.{two_lines}
use Rattle.vhost_session_tests.proofs.Showing.{no-bad, only-two, shown-lines}
use Rattle.vhost_session_tests.proofs.lines.runs_two_lines.Goals as goal

pub returns-then-status-eq0-clause-output : goal.returns-then-status-eq0-clause-output
returns-then-status-eq0-clause-output c =
    shown-lines c.run_lines-status.new.output.items
    (subst (λ held. ShowsLines false Vhost two_lines (Some held) (Some c.run_lines-status.new.output.items)) c.new-output.ensures.items (c.run_lines-status.ensures.shown (λ two. absurd (omega (arith, two, c.if-status-eq0.true)))))

pub returns-clause-status : goal.returns-clause-status
returns-clause-status c = only-two c.run_lines-status.result c.run_lines-status.ensures.range (λ other. c.run_lines-status.ensures.status other ∙ no-bad) (λ none. absurd (omega (arith, none, c.if-status-eq0.false)))
