use Rattle.std.proofs.Common.{◌≡◌, true}
use Rattle.vhost_c.specs.Program.{IsCalled, IsSound, is_harmless}
use Rattle.vhost_c.proofs.Calling.{from-none, as-many, lives}
use Rattle.vhost_c.proofs.Programs.{fresh, keeps-sound}
use Rattle.vhost_c.proofs.program.opens_and_runs.Goals as goal

pub returns-clause-as_many : goal.returns-clause-as_many
returns-clause-as_many c = as-many IsCalled (from-none IsCalled c.new-answers.result.items c.run.new.answers.items c.new-answers.ensures.items c.in_ok-run.ensures.runs)

pub returns-clause-sound : goal.returns-clause-sound
returns-clause-sound c = λ shut harmless.
    lives IsCalled (λ a. is_harmless a.number ≡ true) IsSound keeps-sound (from-none IsCalled c.new-answers.result.items c.run.new.answers.items c.new-answers.ensures.items c.in_ok-run.ensures.runs) harmless (fresh c.covretin_open-opened.ensures shut)
