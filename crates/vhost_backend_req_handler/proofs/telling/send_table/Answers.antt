-- A table of regions is the reply.
use Rattle.std.proofs.Common.{◌≡◌, ◌++◌, length, ap, ◌∙◌}
use Rattle.vhost_message.specs.Records.{memory_text}
use Rattle.vhost_message.specs.declared.records.memory.VhostUserMemory.{VhostUserMemory}
use Rattle.vhost_protocol.specs.Written.{Regions, payload_text, table_head}
use Rattle.vhost_backend_req_handler.proofs.telling.send_table.Goals as goal

pub returns : goal.returns
returns g c ready =
    let text : memory_text c.new-head.result ++ c.put_regions.new.out ≡ payload_text (Regions c.args.regions.now) =
    ap (λ (h : VhostUserMemory). memory_text h ++ c.put_regions.new.out) c.new-head.ensures ∙ ap (λ bs. memory_text (table_head (length c.args.regions.now)) ++ bs) c.put_regions.ensures.text in
    c.reply.ensures (Regions c.args.regions.now) text ready
