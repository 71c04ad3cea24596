use Rattle.std.proofs.Common.{◌≡◌, length, map}
use Rattle.vhost_frontend_core.specs.Regions.{info_of}
use Rattle.vhost_lines.specs.Calls.{regions}
use Rattle.vhost_lines.specs.Read.{words_of}
use Rattle.vhost_lines.proofs.RegionLaws.{behind}
use Rattle.vhost_lines.proofs.call_words.buffered.regions.Given as goal

abbrev pub invariant-loop-rest : goal.invariant-loop-rest
invariant-loop-rest l = behind (map info_of l.found.items) (regions (words_of l.rest)) ≡ regions (words_of l.fn.text)

abbrev pub decreases-loop-rest : goal.decreases-loop-rest
decreases-loop-rest l = length (words_of l.rest)
