use Rattle.std.proofs.Common.{rules, ap, ◌-◌, ◌∙◌, length, set}
use borrow.Rule.Slice.PartMut.{put_mid}
use Rattle.vhost_message.proofs.LongRecords.{head_written}
use Rattle.vhost_message.proofs.records.shmem.write_head.Goals as goal

pub returns-clause-text : goal.returns-clause-text
returns-clause-text c = ap (λ p. put_mid 1 (length (set c.args.out.now 0 c.args.shmid) - 1) (set c.args.out.now 0 c.args.shmid) p) c.copy_from_slice.ensures.after ∙ head_written c.args.out.now c.args.shmid c.args.padding.now (search rules) (search rules)
