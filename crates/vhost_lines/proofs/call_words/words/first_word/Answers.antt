use Rattle.vhost_lines.proofs.WordLaws.{words-cut, words-whole}
use Rattle.vhost_lines.proofs.call_words.words.first_word.Goals as goal

pub returns-in-Some : goal.returns-in-Some
returns-in-Some c = words-cut c.args.text.now (c.in-Some.word, c.in-Some.rest) (c.in-Some.ensures {u = tt}).cases

pub returns-in-None : goal.returns-in-None
returns-in-None c = words-whole c.args.text.now (c.in-None.ensures {u = tt}).cases
