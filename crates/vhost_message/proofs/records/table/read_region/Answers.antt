use Rattle.std.proofs.Common.{◌+◌, ◌-◌, ◌*◌, drop, ◌∙◌, arith}
use Rattle.vhost_message.specs.declared.limits.TheConstants.{MEMORY_REGION_SIZE}
use Rattle.vhost_message.proofs.Regions.{region_behind, region_within_text}
use Rattle.vhost_message.proofs.records.table.read_region.Goals as goal

pub returns-clause-read : goal.returns-clause-read
returns-clause-read c =
    let begin = MEMORY_REGION_SIZE * c.args.place in
    c.decode.ensures.read ∙ region_within_text (begin + MEMORY_REGION_SIZE - begin) (drop begin c.args.bytes.now) (omega arith) ∙ region_behind begin c.args.bytes.now
