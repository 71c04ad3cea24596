-- An error in silence, by its two parts.
use Rattle.std.proofs.Common.{ap, ◌∙◌, ◌&&◌, ◌||◌}
use Rattle.vhost_protocol.specs.Joined.{is_end, is_silent}
use Rattle.vhost_protocol.proofs.laws.rows.silent_is_last.Goals as goal

pub returns : goal.returns
returns g c r o errs silent = ap (λ b. b && (is_silent o.served || is_end r)) errs ∙ ap (λ b. b || is_end r) silent
