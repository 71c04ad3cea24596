-- So many pieces came over.
use Rattle.std.proofs.Common.{◌≡◌, ◌⊎◌, ℕ, List, []}
use Rattle.vhost_link.specs.declared.plain.PlainHandle.{PlainHandle}
use Rattle.vhost_c_backend.specs.Served as served
use Rattle.vhost_c_frontend.specs.Session as session
use Rattle.vhost_c_joined.specs.Wire.{IsTold, IsOnWay}
use Rattle.vhost_c_joined.proofs.Pieces.{Came}
use Rattle.vhost_c_joined.proofs.wire.carry_reply.Given as goal

abbrev pub invariant-pieces : goal.invariant-pieces
invariant-pieces l = record {
  coming : (hs : List PlainHandle) (text : List ℕ) → (text ≡ []) ⊎ IsTold text (session.missing_for (session.remembers l.fn.to).profile l.fn.to.asked) → IsOnWay hs text (served.view l.fn.from) (session.view l.fn.to) → Came hs text (served.view l.fn.from) (session.view l.fn.to) l.i (served.view l.from) (session.view l.to);
}
