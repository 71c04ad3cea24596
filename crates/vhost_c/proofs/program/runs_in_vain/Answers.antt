use Rattle.vhost_c.specs.Program.{IsCalled}
use Rattle.vhost_c.proofs.Calling.{from-none}
use Rattle.vhost_c.proofs.Programs.{in-vain}
use Rattle.vhost_c.proofs.program.runs_in_vain.Goals as goal

pub returns : goal.returns
returns c = in-vain (from-none IsCalled c.new-answers.result.items c.run.new.answers.items c.new-answers.ensures.items c.in_ok-run.ensures.runs)
