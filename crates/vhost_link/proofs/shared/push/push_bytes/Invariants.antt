use Rattle.std.proofs.Common.{◌≡◌, ◌+◌, ◌≤◌, ◌++◌, length, map, take}
use Rattle.rtrb.specs.Ring.{sent, known_free, SameProducer}
use Rattle.vhost_link.specs.Pieces.{byte_piece}
use Rattle.vhost_link.proofs.shared.push.push_bytes.Given as goal

abbrev pub invariant-loop-byte : goal.invariant-loop-byte
invariant-loop-byte l =
    SameProducer l.initial.output l.output
    × (sent l.output ≡ sent l.initial.output ++ map byte_piece (take l.byte-index l.bytes))
    × (known_free l.initial.output ≡ known_free l.output + l.byte-index)
    × (length l.bytes ≤ known_free l.initial.output)
