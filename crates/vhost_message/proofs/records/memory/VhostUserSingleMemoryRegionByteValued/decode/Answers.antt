use Rattle.std.proofs.Common.{◌∙◌}
use Rattle.vhost_message.proofs.Numbers.{region_of_rest}
use Rattle.vhost_message.proofs.records.memory.VhostUserSingleMemoryRegionByteValued.decode.Goals as goal

pub returns-clause-read : goal.returns-clause-read
returns-clause-read c =
    let region = c.decode.ensures.read ∙ region_of_rest c.args.b.now in
    λ i. record { padding = c.read_u64.ensures i; region = region i }
