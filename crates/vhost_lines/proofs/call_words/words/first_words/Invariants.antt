use Rattle.std.proofs.Common.{◌≡◌, ◌++◌, length, take}
use Rattle.vhost_lines.specs.Read.{texts, words_of}
use Rattle.vhost_lines.proofs.call_words.words.first_words.Given as goal

abbrev pub invariant-loop-count : goal.invariant-loop-count
invariant-loop-count l = record {
  places : length l.found ≡ 7;
  words : texts (take l.count l.found) ++ words_of l.rest ≡ words_of l.fn.text;
}
