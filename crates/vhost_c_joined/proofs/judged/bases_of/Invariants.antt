-- So many were read.
use Rattle.std.proofs.Common.{◌≡◌, length, take}
use Rattle.vhost_message.specs.Records.{regions_of}
use Rattle.vhost_message.specs.declared.limits.TheConstants.{MAX_MEM_REGIONS}
use Rattle.vhost_protocol.specs.AnswerTable.{bases_in}
use Rattle.vhost_c_joined.proofs.judged.bases_of.Given as goal

abbrev pub invariant-regions : goal.invariant-regions
invariant-regions l = (length l.places ≡ MAX_MEM_REGIONS) × (take l.i l.places ≡ bases_in (regions_of l.i l.regions))
