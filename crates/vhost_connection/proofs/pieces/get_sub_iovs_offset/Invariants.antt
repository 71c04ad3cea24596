use Rattle.std.proofs.Common.{◌≡◌, ◌+◌, ◌-◌, ◌≤◌, length, sum, take}
use Rattle.vhost_connection.proofs.pieces.get_sub_iovs_offset.Given as goal

abbrev pub invariant-loop-count : goal.invariant-loop-count
invariant-loop-count l = (l.count ≤ length l.iov_lens) × (sum (take l.count l.iov_lens) + l.size ≡ l.skip_size)

abbrev pub decreases-loop-count : goal.decreases-loop-count
decreases-loop-count l = length l.iov_lens - l.count
