-- The number that the specification's three subtractions compare is how far the asked entry lies behind the new index.
use Rattle.std.proofs.Common.{◌≡◌, ℕ, ◌+◌, ◌-◌, ◌%◌, ◌<◌, ltb-true, lt-ltb, arith}
use Rattle.vhost_queue.specs.Notification.{Passes}
use Rattle.vhost_queue.proofs.notification.vring_need_event.Goals as goal

passes : (o n e : ℕ) → o < 65536 → n < 65536 → e < 65536
    → ((n + (65536 - e)) % 65536 + 65535) % 65536 < (n + (65536 - o)) % 65536 → Passes o n e
passes o n e ho hn he h = ((e + (65536 - o)) % 65536, omega arith, omega arith)

passed : (o n e : ℕ) → o < 65536 → n < 65536 → e < 65536 → (k : ℕ) → k < (n + (65536 - o)) % 65536 → (o + k) % 65536 ≡ e
    → ((n + (65536 - e)) % 65536 + 65535) % 65536 < (n + (65536 - o)) % 65536
passed o n e ho hn he k hk same = omega arith

pub returns : goal.returns
returns c =
    let o = c.args.old in let n = c.args.new in let e = c.args.event in (
      λ h. passes o n e c.ranges.old.fits c.ranges.new.fits c.ranges.event.fits (ltb-true _ _ h),
      λ p. lt-ltb _ _ (passed o n e c.ranges.old.fits c.ranges.new.fits c.ranges.event.fits p.0 p.1 p.2),
    )
