use Rattle.std.proofs.Common.{◌≡◌, ◌∙◌, sym, ap, rules}
use Rattle.vhost_message.specs.LongRecords.{shmem_config-reads_back}
use Rattle.vhost_message.specs.Records.{shmem_config_of, shmem_config_text}
use Rattle.vhost_comparing.proofs.answers.is_same_shmem_config.Goals as goal

pub returns : goal.returns
returns c = (
  (λ same. let texts : shmem_config_text c.args.a.now ≡ shmem_config_text c.args.b.now = search rules in sym (shmem_config-reads_back c.args.a.now c.encode_into.ensures.fits) ∙ ap shmem_config_of texts ∙ shmem_config-reads_back c.args.b.now c.encode_into-2.ensures.fits),
  (λ same. let texts = ap shmem_config_text same in search (rules, texts)),
)
