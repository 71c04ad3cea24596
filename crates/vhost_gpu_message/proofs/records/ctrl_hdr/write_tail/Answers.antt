use Rattle.std.proofs.Common.{rules, ap, ◌-◌, ◌∙◌, length, set}
use borrow.Rule.Slice.PartMut.{put_mid}
use Rattle.vhost_message.proofs.LongRecords.{head_written}
use Rattle.vhost_gpu_message.proofs.records.ctrl_hdr.write_tail.Goals as goal

pub returns-clause-text : goal.returns-clause-text
returns-clause-text c =
    let out = set c.args.out.now 0 c.args.ring_idx in
    ap (λ p. put_mid 1 (length out - 1) out p) c.copy_from_slice.ensures.after ∙ head_written c.args.out.now c.args.ring_idx c.args.padding.now (search rules) (search rules)
