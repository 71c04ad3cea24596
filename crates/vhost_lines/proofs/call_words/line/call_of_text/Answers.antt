use Rattle.std.proofs.Common.{◌≡◌, ◌∷◌, take, ap, sym, ◌∙◌}
use Rattle.vhost_lines.specs.Calls.{call_named}
use Rattle.vhost_lines.specs.Read.{texts, words_of, read_for}
use Rattle.vhost_lines.specs.Words.{words}
use Rattle.vhost_lines.proofs.FirstWords.{call_named-read}
use Rattle.vhost_lines.proofs.call_words.line.call_of_text.Goals as goal

pub returns : goal.returns
returns c =
    let name = c.first_word.result.0.now in
    let all = words_of c.first_word.result.1 in
    let args = texts (take c.first_words-count.result.1 c.first_words-count.result.0) in
    let read : call_named (words c.args.text.now) ≡ call_named (name ∷ read_for name args all) =
    ap call_named c.first_word.ensures
    ∙ sym (call_named-read name all)
    ∙ ap (λ first. call_named (name ∷ read_for name first all)) (sym c.first_words-count.ensures.words) in
    rw read c.call_named.ensures
