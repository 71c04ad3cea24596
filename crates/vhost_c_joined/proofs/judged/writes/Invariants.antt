-- So much of it was to be sent, with its descriptors.
use Rattle.std.proofs.Common.{◌≡◌, ◌<◌, ◌≤◌, ◌++◌, length, map, take}
use Rattle.vhost_protocol.specs.Stream.{carrying, first_handles}
use Rattle.vhost_c_common.specs.Records.{fd_in}
use Rattle.vhost_c_common.specs.View.{Hands}
use Rattle.vhost_c_backend.specs.Served.{queued, view}
use Rattle.vhost_c_joined.proofs.judged.writes.Given as goal

abbrev pub invariant-pieces : goal.invariant-pieces
invariant-pieces l = record {
  within : l.at ≤ length l.text;
  left : queued l.fn.judge ≡ carrying (first_handles (queued l.fn.judge)) (take l.at l.text) ++ queued l.judge;
  named : 0 < l.at → map fd_in (first_handles (queued l.fn.judge)) ≡ l.fds;
  hands : Hands (view l.fn.judge) (view l.judge);
}

abbrev pub decreases-pieces : goal.decreases-pieces
decreases-pieces l = length (queued l.judge)
