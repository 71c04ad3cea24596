-- So many pieces came over.
use Rattle.std.proofs.Common.{◌≡◌, ◌⊎◌, ℕ, List, [], false}
use Rattle.vhost_protocol.specs.Session.{heard_in}
use Rattle.vhost_link.specs.declared.plain.PlainHandle.{PlainHandle}
use Rattle.vhost_c_common.specs.Incoming.{missing_by}
use Rattle.vhost_c_backend.specs.Served as served
use Rattle.vhost_c_frontend.specs.Session as session
use Rattle.vhost_c_joined.specs.Wire.{IsTold, IsOnWay}
use Rattle.vhost_c_joined.proofs.Pieces.{Came}
use Rattle.vhost_c_joined.proofs.wire.carry_request.Given as goal

abbrev pub invariant-pieces : goal.invariant-pieces
invariant-pieces l = record {
  coming : (hs : List PlainHandle) (text : List ℕ) → (text ≡ []) ⊎ IsTold text (missing_by (heard_in (served.remembers l.fn.to))) → served.has_call l.fn.to ≡ false → IsOnWay hs text (session.view l.fn.from) (served.view l.fn.to) → Came hs text (session.view l.fn.from) (served.view l.fn.to) l.i (session.view l.from) (served.view l.to);
}
