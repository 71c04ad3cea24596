use Rattle.vhost_gpu_message.proofs.ScreensAt.{screen-written, screens-fit_next}
use Rattle.vhost_gpu_message.proofs.records.replies.write_screens.Goals as goal

pub loop-i-preserved : goal.loop-i-preserved
loop-i-preserved c =
    let i = c.loop-i.i in
    let screens = c.args.screens.now in
    record {
      text = screen-written screens i _ c.args.out.now c.loop-i.out c.encode_into.new.out c.loop-i-test.true c.requires c.loop-i.invariant.text c.encode_into.ensures.text;
      fits = screens-fit_next screens i _ c.loop-i-test.true c.loop-i.invariant.fits c.encode_into.ensures.fits;
    }
