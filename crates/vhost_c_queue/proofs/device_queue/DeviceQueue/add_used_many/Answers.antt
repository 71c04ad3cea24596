use Rattle.std.proofs.Common.{◌∙◌, inl, inr, refl, arith}
use Rattle.std.proofs.lemmas.List.{length-set, take_more_set}
use Rattle.vhost_c_queue.proofs.Given.{used-on}
use Rattle.vhost_c_queue.specs.Using.{none}
use Rattle.vhost_c_queue.proofs.device_queue.DeviceQueue.add_used_many.Goals as goal
use Rattle.vhost_c_queue.proofs.device_queue.DeviceQueue.add_used_many.Goals.{then-lens-ids-via-then-lens-ids, then-lens-ids-via-else-lens-ids+then-used-ids}

pub returns-then-lens-ids-clause-uses : goal.returns-then-lens-ids-clause-uses
returns-then-lens-ids-clause-uses c = (
  none,
  inl (
    refl,
    refl,
    elim (c.then-lens-ids.branch) [
      | then-lens-ids-via-then-lens-ids w ↦ inl (let lt = w.if-lens-ids.true in omega arith)
      | then-lens-ids-via-else-lens-ids+then-used-ids w ↦ inr (let lt = w.if-used-ids.true in omega arith)
    ],
  ),
)

pub loop-done-init : goal.loop-done-init
loop-done-init c =
    record { used = none; memory = refl; most = omega arith; fits = ((let le = c.if-lens-ids.false in omega arith), (let le = c.if-used-ids.false in omega arith)); len = refl }

pub loop-done-preserved : goal.loop-done-preserved
loop-done-preserved c =
    let was = c.loop-done.invariant in let is = c.in-Ok.ensures in let n = length-set c.loop-done.used c.loop-done.done c.in-Ok.elem in let lt = c.loop-done-test.true in record {
      used = used-on was.used lt c.in-Ok.elem c.add_used.new.self.ring is.uses _ (take_more_set c.loop-done.used c.loop-done.done c.in-Ok.elem (let fits = was.fits.1 in omega arith));
      memory = is.memory ∙ was.memory;
      most = omega arith;
      fits = (was.fits.0, (let fits = was.fits.1 in omega arith));
      len = n ∙ was.len;
    }
