use Rattle.std.proofs.Common.{ap, ◌∙◌, arith, rules}
use Rattle.vhost_lines.specs.Read.{words_of}
use Rattle.vhost_lines.proofs.WordLaws.{words-next, words-all, words-front}
use Rattle.vhost_lines.proofs.call_words.words.first_words.Goals as goal

pub returns-in_default-clause-words : goal.returns-in_default-clause-words
returns-in_default-clause-words c =
    words-all c.loop-count.found c.loop-count.count (words_of c.loop-count.rest) (words_of c.args.text) (omega arith) (ap words_of c.in_default.is) c.loop-count.invariant.words

pub loop-count-preserved : goal.loop-count-preserved
loop-count-preserved c = record {
  places = search rules;
  words =
      words-next c.loop-count.found c.loop-count.count c.first_word.result.0 (words_of c.first_word.result.1) (words_of c.loop-count.rest) (words_of c.args.text)
      (omega arith) (ap words_of c.in-Some.is ∙ c.first_word.ensures) c.loop-count.invariant.words;
}

pub returns-clause-words : goal.returns-clause-words
returns-clause-words c = words-front c.loop-count.found c.loop-count.count (words_of c.loop-count.rest) (words_of c.args.text) (omega arith) c.loop-count.invariant.places c.loop-count.invariant.words
