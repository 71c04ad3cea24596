-- The regions with their bases are the reply.
use Rattle.std.proofs.Common.{◌∙◌, List, Ok, ap, map, subst}
use Rattle.vhost_message.specs.declared.records.memory.VhostUserMemoryRegion.{VhostUserMemoryRegion}
use Rattle.vhost_connection.specs.Requests.{Tells}
use Rattle.vhost_connection.specs.State.{state}
use Rattle.vhost_protocol.specs.Answered.{rebased}
use Rattle.vhost_protocol.specs.Served.{Replied}
use Rattle.vhost_protocol.specs.Written.{Regions}
use Rattle.vhost_backend_req_handler.specs.Serving.{reply_cells}
use Rattle.vhost_backend_req_handler.proofs.telling.send_based.Goals as goal

pub returns : goal.returns
returns g c ready =
    let placed = c.rebase-count.ensures.rebased ∙ ap (λ (rs : List VhostUserMemoryRegion). rebased rs c.args.bases.now) c.copy_from_slice.ensures.after in
    subst (λ (rs : List VhostUserMemoryRegion). Tells g.L.Link.event (state c.args.endpoint.now) (reply_cells c.args.code (Replied (Regions rs) (map (λ h. h.now) c.args.handles.now))) (Ok tt) c.send_table.result (state c.send_table.new.endpoint)) placed (c.send_table.ensures ready)
