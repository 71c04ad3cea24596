use Rattle.std.proofs.Common.{rules}
use Rattle.vhost_message.proofs.LongRecords.{first_sizes}
use Rattle.vhost_message.proofs.records.shmem.VhostUserShMemConfig.new.Goals as goal

pub returns : goal.returns
returns c =
    let sizes = first_sizes 256 c.min-count.result c.args.memory.now c.copy_from_slice.new.self (search rules) c.min-count.ensures in
    λ i. record { nregions = c.args.nregions; padding = 0; memory_sizes = sizes i }
