use Rattle.vhost_unit_tests.proofs.recorder.drive.four_callers.Given as goal

abbrev pub ghosts-four_ask : goal.ghosts-four_ask
ghosts-four_ask g a = record { name = a.blank.name; parts = a.blank.parts }
