use Rattle.std.proofs.Common.{◌∙◌, true, false, sym, arith}
use Rattle.vhost_c_queue.proofs.Kept.{kept-on}
use Rattle.vhost_c_queue.proofs.Gone.{walks-on}
use Rattle.vhost_c_queue.proofs.Running.{ran-by}
use Rattle.vhost_c_queue.specs.Walking.{chain_of}
use Rattle.vhost_c_queue.proofs.device_queue.DeviceQueue.walk.Goals as goal

pub loop-taken-init : goal.loop-taken-init
loop-taken-init c =
    let is = c.run-taken.ensures in let by = ran-by _ c.args.copies.now _ _ c.args.self.now.ring c.run-taken.new.self.ring is.runs in
    record { walks = by.walks; kept = by.kept; memory = is.memory; most = is.most.0; few = is.most.1; len = is.len }

pub loop-taken-preserved-then-not-has_rest : goal.loop-taken-preserved-then-not-has_rest
loop-taken-preserved-then-not-has_rest c =
    let was = c.loop-taken.invariant in let step = c.in_ok-segment.ensures in let put = c.put-count.ensures in record {
      walks = walks-on was.walks c.loop-taken-test.true _ was.memory c.in_ok-segment.segment c.step.new.self.ring _ step.steps false (sym c.has_rest.ensures ∙ c.if-not-has_rest.true) _ put.segments;
      kept = kept-on was.kept _ was.memory c.in_ok-segment.segment (chain_of c.step.new.self.ring) step.goes_on _ put.segments;
      memory = step.memory ∙ was.memory;
      most = (let lt = c.loop-taken-test.true in omega arith);
      few = (let few = put.few in let len = put.len in omega arith);
      len = put.len ∙ was.len;
    }

pub loop-taken-preserved : goal.loop-taken-preserved
loop-taken-preserved c =
    let was = c.loop-taken.invariant in let step = c.in_ok-segment.ensures in let put = c.put-count.ensures in record {
      walks = walks-on was.walks c.loop-taken-test.true _ was.memory c.in_ok-segment.segment c.step.new.self.ring _ step.steps true (sym c.has_rest.ensures ∙ c.if-not-has_rest.false) _ put.segments;
      kept = kept-on was.kept _ was.memory c.in_ok-segment.segment (chain_of c.step.new.self.ring) step.goes_on _ put.segments;
      memory = step.memory ∙ was.memory;
      most = was.most;
      few = (let few = put.few in let len = put.len in omega arith);
      len = put.len ∙ was.len;
    }
