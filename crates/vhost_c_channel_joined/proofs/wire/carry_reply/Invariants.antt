-- So many pieces came over.
use Rattle.std.proofs.Common.{◌≡◌, ◌⊎◌, List, []}
use Rattle.vhost_protocol.specs.Stream.{Cell}
use Rattle.vhost_link.specs.declared.plain.PlainHandle.{PlainHandle}
use Rattle.vhost_c_channel.specs.Asking as asking
use Rattle.vhost_c_channel.specs.Serving as serving
use Rattle.vhost_c_channel_joined.specs.Wire.{IsTold, IsOnWay}
use Rattle.vhost_c_channel_joined.proofs.Pieces.{Came}
use Rattle.vhost_c_channel_joined.proofs.wire.carry_reply.Given as goal

abbrev pub invariant-pieces : goal.invariant-pieces
invariant-pieces l = record {
  coming : (cells : List (Cell PlainHandle)) → (cells ≡ []) ⊎ IsTold cells (asking.missing_for l.fn.to.asked) → IsOnWay cells (serving.view l.fn.from) (asking.view l.fn.to) → Came cells (serving.view l.fn.from) (asking.view l.fn.to) l.i (serving.view l.from) (asking.view l.to);
}
