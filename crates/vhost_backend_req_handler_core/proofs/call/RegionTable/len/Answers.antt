-- A table has as many regions as it says.
use Rattle.std.proofs.Common.{sym}
use Rattle.vhost_backend_req_handler_core.proofs.Tables.{length_regions}
use Rattle.vhost_backend_req_handler_core.proofs.call.RegionTable.len.Goals as goal

pub returns-clause-len : goal.returns-clause-len
returns-clause-len c = sym (length_regions c.args.self.now.count c.args.self.now.bytes.now)
