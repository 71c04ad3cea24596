use Rattle.std.proofs.Common.{◌≡◌, length}
use Rattle.vhost_recorder.specs.Share.{parts_of, count_of}
use Rattle.vhost_unit_tests.proofs.recorder.drive.call_all.Given as goal

abbrev pub invariant-loop-call : goal.invariant-loop-call
invariant-loop-call g l = (parts_of l.share ≡ 1) × (count_of l.share ≡ length l.receipts.items)
