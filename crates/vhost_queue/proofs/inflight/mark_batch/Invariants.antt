use Rattle.std.proofs.Common.{◌≡◌, ◌-◌, length, false}
use Rattle.std.specs.Prelude.{replicate}
use Rattle.vhost_queue.specs.Inflight.{marked}
use Rattle.vhost_queue.proofs.inflight.mark_batch.Given as goal

-- what is left to mark
abbrev pub invariant-loop-step : goal.invariant-loop-step
invariant-loop-step l = (marked l.entries (l.count - l._step) l.head l.marks.items ≡ marked l.entries l.count l.first (replicate (length l.entries) false)) × (length l.marks.items ≡ length l.entries)
