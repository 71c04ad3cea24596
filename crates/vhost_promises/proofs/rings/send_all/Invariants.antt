use Rattle.std.proofs.Common.{◌≡◌, ◌≤◌, length, map, drop}
use Rattle.vhost_promises.specs.Rings.{sent_cells, bytes_behind}
use Rattle.vhost_promises.proofs.rings.send_all.Given as goal

abbrev pub invariant-loop-i : goal.invariant-loop-i
invariant-loop-i l = record {
  done : l.done ≤ length l.bytes;
  ring : l.link.output ≡ l.initial.link.output;
  sent : l.link.sent ≡ sent_cells (map (λ h. h.now) l.handles) l.bytes l.counts.items;
  rest : drop l.done l.bytes ≡ bytes_behind l.bytes l.counts.items;
}
