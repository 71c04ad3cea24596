use Rattle.std.proofs.Common.{lit<, ◌∙◌, sym}
use Rattle.std.proofs.lemmas.Bool.{false≢true}
use Rattle.std.proofs.lemmas.Str.Pattern.{starts_char}
use Rattle.vhost_lines.proofs.NumberLaws.{numeral-unsigned}
use Rattle.vhost_lines.proofs.call_words.number.numeral.Goals as goal

pub returns : goal.returns
returns c =
    let plus = starts_char 43 c.args.digits.now c.starts_with.result c.starts_with.ensures.cases (lit< tt) (lit< tt) in
    c.ok.ensures.value ∙ numeral-unsigned c.args.radix c.args.digits.now _ c.from_str_radix.ensures.value (λ is. false≢true (sym c.if-starts_with.false ∙ plus.1 is))
