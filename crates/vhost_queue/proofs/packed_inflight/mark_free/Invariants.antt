use Rattle.std.proofs.Common.{◌≡◌, ◌-◌, length, false}
use Rattle.std.specs.Prelude.{replicate}
use Rattle.vhost_queue.specs.PackedInflight.{freed}
use Rattle.vhost_queue.proofs.packed_inflight.mark_free.Given as goal

-- what is left to mark
abbrev pub invariant-loop-step : goal.invariant-loop-step
invariant-loop-step l = (freed l.entries (length l.entries - l._step) l.index l.marks.items ≡ freed l.entries (length l.entries) l.first (replicate (length l.entries) false)) × (length l.marks.items ≡ length l.entries)
