use Rattle.std.proofs.Common.{rules}
use Rattle.vhost_message.proofs.records.shmem.VhostUserShMemConfigByteValued.encode_into.Goals as goal

pub returns-clause-fits : goal.returns-clause-fits
returns-clause-fits c = record { nregions = search rules; padding = search rules; count = search rules; sizes = c.write_sizes.ensures.fits }
