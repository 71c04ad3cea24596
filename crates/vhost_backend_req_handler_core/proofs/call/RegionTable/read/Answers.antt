-- A place for each region.
use Rattle.std.proofs.Common.{ap, ◌∙◌, rules}
use Rattle.vhost_message.specs.Records.{regions_of}
use Rattle.vhost_backend_req_handler_core.proofs.Tables.{length_regions}
use Rattle.vhost_backend_req_handler_core.proofs.call.RegionTable.read.Goals as goal

pub read_regions-requires : goal.read_regions-requires
read_regions-requires c = rw (c.requires, length_regions c.args.self.now.count c.args.self.now.bytes.now) (search rules)

pub returns : goal.returns
returns c =
    let count = c.requires ∙ length_regions c.args.self.now.count c.args.self.now.bytes.now in
    c.read_regions.ensures.read ∙ ap (λ n. regions_of n c.args.self.now.bytes.now) count
