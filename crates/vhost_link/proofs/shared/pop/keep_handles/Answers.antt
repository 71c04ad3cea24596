use Rattle.std.proofs.Common.{[], ◌∷◌, arith, ap, length}
use Rattle.std.proofs.lemmas.List.{length-append}
use Rattle.vhost_link.proofs.Ringing.{keeps-one}
use Rattle.vhost_link.proofs.shared.pop.keep_handles.Goals as goal

pub loop-i-preserved : goal.loop-i-preserved
loop-i-preserved c =
    let h = c.in-Some.handle in
    let now = c.loop-i.invariant in
    let got = c.in-Some.ensures.some in
    let one = keeps-one c.args.input.now c.loop-i.input c.next_handle.new.input c.loop-i.kept.items c.push_reserved.new.self.items h got.0 got.1 now.all now.cells now.kept c.push_reserved.ensures.items in record {
      ring = search;
      all = one.0;
      cells = one.1;
      kept = one.2;
      few = omega (arith, ap length c.push_reserved.ensures.items, length-append c.loop-i.kept.items (h ∷ []), ap length now.kept, got.2);
      places = search;
      left = omega (arith, ap length got.1, now.left);
    }
