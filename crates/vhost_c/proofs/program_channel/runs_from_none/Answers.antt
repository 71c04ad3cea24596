use Rattle.std.proofs.Common.{◌≡◌, true, None, subst, sym}
use Rattle.vhost_c.specs.Calls.{IsMade}
use Rattle.vhost_c.specs.ProgramChannel.{Does, IsCalled, IsSound, is_harmless}
use Rattle.vhost_c.proofs.Calling.{from-none, as-many, lives, made-none}
use Rattle.vhost_c.proofs.ProgramsChannel.{keeps-sound}
use Rattle.vhost_c.proofs.program_channel.runs_from_none.Goals as goal

pub returns-clause-as_many : goal.returns-clause-as_many
returns-clause-as_many c = as-many Does (from-none Does c.new-answers.result.items c.run.new.answers.items c.new-answers.ensures.items c.in_ok-run.ensures.runs)

pub returns-clause-called : goal.returns-clause-called
returns-clause-called c = λ shut. from-none IsCalled c.new-answers.result.items c.run.new.answers.items c.new-answers.ensures.items (c.in_ok-run.ensures.called (subst (λ s. IsMade Does s) (sym shut) (made-none Does)))

pub returns-clause-sound : goal.returns-clause-sound
returns-clause-sound c = λ shut harmless.
    lives IsCalled (λ a. is_harmless a.number ≡ true) IsSound keeps-sound
    (from-none IsCalled c.new-answers.result.items c.run.new.answers.items c.new-answers.ensures.items (c.in_ok-run.ensures.called (subst (λ s. IsMade Does s) (sym shut) (made-none Does)))) harmless (subst IsSound (sym shut) tt)
