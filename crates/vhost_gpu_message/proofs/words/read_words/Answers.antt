use Rattle.std.proofs.Common.{rules, ◌≡◌, length, ap, ◌∙◌}
use Rattle.vhost_gpu_message.specs.Words.{words_of}
use Rattle.vhost_gpu_message.proofs.WordsAt.{words-at}
use Rattle.vhost_gpu_message.proofs.words.read_words.Goals as goal

pub returns-clause-read : goal.returns-clause-read
returns-clause-read g c =
    let count : length c.read_u32_into.new.dst ≡ g.row.N = search rules in
    words-at c.read_u32_into.new.dst c.args.b.now c.read_u32_into.ensures ∙ ap (λ n. words_of n c.args.b.now) count
