use Rattle.std.proofs.Common.{◌≡◌, ◌*◌, ◌++◌, take, drop}
use Rattle.std.specs.List.{flat_map}
use Rattle.vhost_gpu_message.specs.WordRecords.{display_one_text}
use Rattle.vhost_gpu_message.specs.Replies.{ScreensFit}
use Rattle.vhost_gpu_message.proofs.records.replies.write_screens.Given as goal

abbrev pub invariant-loop-i : goal.invariant-loop-i
invariant-loop-i l = record {
  text : l.out ≡ flat_map display_one_text (take l.i l.screens) ++ drop (24 * l.i) l.initial.out;
  fits : ScreensFit (take l.i l.screens);
}
