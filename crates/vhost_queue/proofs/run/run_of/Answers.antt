use Rattle.std.proofs.Common.{◌∙◌, Some, None, refl, sym, arith}
use Rattle.std.proofs.lemmas.List.{append-nil, length-set, take_more_set}
use Rattle.vhost_queue.proofs.Running.{runs-on}
use Rattle.vhost_queue.specs.Queue.{stays}
use Rattle.vhost_queue.proofs.run.run_of.Goals as goal

pub loop-at-init : goal.loop-at-init
loop-at-init c = record { runs = stays; most = omega arith; few = omega arith; len = refl; memory = refl; same = (refl, refl, refl) }

pub returns-then-nest-clause-runs : goal.returns-then-nest-clause-runs
returns-then-nest-clause-runs c =
    let was = c.loop-at.invariant in let pass = c.in_default.ensures in let is = c.if-nest.ensures in
    runs-on was.runs c.loop-at-test.true _ (pass.memory ∙ was.memory) _ pass.kept None c.nest.new.self _ is.some _ (sym (append-nil _))

pub loop-at-preserved : goal.loop-at-preserved
loop-at-preserved c =
    let was = c.loop-at.invariant in let is = c.in-Some.ensures in let n = length-set c.loop-at.segments c.loop-at.at c.in-Some.segment in record {
      runs = runs-on was.runs c.loop-at-test.true _ was.memory _ refl (Some c.in-Some.segment) c.pass.new.self _ is.some _ (take_more_set c.loop-at.segments c.loop-at.at c.in-Some.segment c.if-at-segments.true);
      most = (let lt = c.loop-at-test.true in omega arith);
      few = (let lt = c.if-at-segments.true in omega arith);
      len = n ∙ was.len;
      memory = is.memory ∙ was.memory;
      same = (is.rings.0 ∙ was.same.0, is.rings.1 ∙ was.same.1, is.rings.2 ∙ was.same.2);
    }
