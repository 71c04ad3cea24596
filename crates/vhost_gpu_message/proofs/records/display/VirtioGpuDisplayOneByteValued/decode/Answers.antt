use Rattle.vhost_gpu_message.proofs.WordsAt.{first_six}
use Rattle.vhost_gpu_message.proofs.records.display.VirtioGpuDisplayOneByteValued.decode.Goals as goal

pub returns-clause-fits : goal.returns-clause-fits
returns-clause-fits c = first_six c.read_words.result c.read_words.ensures.fits
