-- So many pieces came over.
use Rattle.std.proofs.Common.{◌≡◌, ◌⊎◌, List, [], false}
use Rattle.vhost_message.specs.BackendReq.{backend_request_of}
use Rattle.vhost_protocol.specs.Stream.{Cell}
use Rattle.vhost_link.specs.declared.plain.PlainHandle.{PlainHandle}
use Rattle.vhost_c_common.specs.Incoming.{missing_by}
use Rattle.vhost_c_channel.specs.Asking as asking
use Rattle.vhost_c_channel.specs.Serving as serving
use Rattle.vhost_c_channel_joined.specs.Wire.{IsTold, IsOnWay}
use Rattle.vhost_c_channel_joined.proofs.Pieces.{Came}
use Rattle.vhost_c_channel_joined.proofs.wire.carry_request.Given as goal

abbrev pub invariant-pieces : goal.invariant-pieces
invariant-pieces l = record {
  coming : (cells : List (Cell PlainHandle)) → (cells ≡ []) ⊎ IsTold cells (missing_by backend_request_of) → serving.has_call l.fn.to ≡ false → IsOnWay cells (asking.view l.fn.from) (serving.view l.fn.to) → Came cells (asking.view l.fn.from) (serving.view l.fn.to) l.i (asking.view l.from) (serving.view l.to);
}
