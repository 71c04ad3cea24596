use Rattle.std.proofs.Common.{◌≡◌, take, map, vec_len}
use Rattle.vhost_link.proofs.plain.copied.Given as goal

abbrev pub invariant-loop-handle : goal.invariant-loop-handle
invariant-loop-handle l = (l.list.items ≡ map (λ h. h.now) (take l.handle-index l.handles)) × (vec_len l.list ≡ l.handle-index)
