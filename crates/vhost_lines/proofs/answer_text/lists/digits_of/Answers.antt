use Rattle.std.proofs.Common.{arith, ◌∙◌}
use Rattle.std.proofs.lemmas.Str.{IsUtf8-from_ascii}
use Rattle.hex.specs.Hex.{IsBytes}
use Rattle.vhost_lines.proofs.Digits.{IsAscii-encode_lower, encode_lower-bytes}
use Rattle.vhost_lines.proofs.answer_text.lists.digits_of.Goals as goal

pub unreachable-requires-in_default-from_utf8 : goal.unreachable-requires-in_default-from_utf8
unreachable-requires-in_default-from_utf8 c =
    let written = c.in-Ok.ensures.written in
    c.in_default-from_utf8.ensures.cases.0 (rw written (IsUtf8-from_ascii _ (IsAscii-encode_lower c.args.chunk.now)))

pub returns : goal.returns
returns c =
    let fits : IsBytes c.args.chunk.now = λ i. let fits = c.type_inv.chunk i in omega arith in
    c.in-Ok-from_utf8.ensures.cases.0 ∙ (c.in-Ok.ensures.written ∙ encode_lower-bytes c.args.chunk.now fits)
