use Rattle.vhost_headline.proofs.runs.two_callers.Given as goal

abbrev pub ghosts-calls_of_two : goal.ghosts-calls_of_two
ghosts-calls_of_two g a = record { name = a.blank.name; parts = a.blank.parts }
