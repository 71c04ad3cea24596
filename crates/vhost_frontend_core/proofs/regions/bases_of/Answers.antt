-- The addresses of a table's regions.
use Rattle.std.proofs.Common.{ap, ◌∙◌, arith}
use Rattle.vhost_message.specs.declared.records.memory.VhostUserMemoryRegion.{VhostUserMemoryRegion}
use Rattle.vhost_protocol.specs.AnswerTable.{is_same_range}
use Rattle.vhost_frontend_core.proofs.Tables.{ranges-more, bases-more}
use Rattle.vhost_frontend_core.proofs.regions.bases_of.Goals as goal

pub regions-preserved : goal.regions-preserved
regions-preserved c =
    let i = c.regions.i in
    let read = c.read_region-region.ensures.read in
    let so_far = c.regions.invariant in
    record {
      same = ranges-more i c.args.table.regions.items c.args.text.now c.read_region-region.result (omega arith) read _ c.regions.same c.is_same-same.result so_far.same (c.is_same-same.ensures ∙ ap (λ (x : VhostUserMemoryRegion). is_same_range x c.read_region-region.result) c.index.ensures);
      bases = c.push_reserved.ensures.items ∙ bases-more i c.args.table.regions.items c.args.text.now c.read_region-region.result (omega arith) read c.regions.bases.items so_far.bases;
      len = omega (arith, c.push_reserved.ensures.len, so_far.len);
      room = omega (arith, c.push_reserved.ensures.capacity, so_far.room);
    }
