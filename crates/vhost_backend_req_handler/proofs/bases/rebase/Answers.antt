-- As far as there are both.
use Rattle.std.proofs.Common.{inl, inr, arith}
use Rattle.vhost_backend_req_handler.proofs.Rebasing.{Shorter, rebased-more, rebased-both}
use Rattle.vhost_backend_req_handler.proofs.bases.rebase.Goals as goal
use Rattle.vhost_backend_req_handler.proofs.bases.rebase.Goals.{then-regions-bases, else-regions-bases}

pub regions-preserved : goal.regions-preserved
regions-preserved c =
    rebased-more c.regions.i c.args.regions.now c.args.bases.now c.regions.regions _ (omega arith) (omega arith) c.regions.invariant

pub returns-clause-rebased : goal.returns-clause-rebased
returns-clause-rebased c =
    let short : Shorter c.if-regions-bases.count c.args.regions.now c.args.bases.now = elim c.if-regions-bases.branch [
      | then-regions-bases w ↦ inl (w.if-regions-bases.true, w.count-is)
      | else-regions-bases w ↦ inr (w.if-regions-bases.false, w.count-is)
    ] in
    rebased-both c.if-regions-bases.count c.regions.i c.args.regions.now c.args.bases.now c.regions.regions short c.regions-test.false c.regions.auto.i-end c.regions.invariant
