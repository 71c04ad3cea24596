use Rattle.std.proofs.Common.{◌++◌, take, codes}
use Rattle.std.specs.Fmt.{HasWritten, IsPlainFormatter}
use Rattle.std.specs.List.{flat_map}
use Rattle.vhost_lines.specs.Numbers.{hex_text}
use Rattle.vhost_lines.proofs.answer_text.lists.show_numbers.Given as goal

abbrev pub invariant-loop-number : goal.invariant-loop-number
invariant-loop-number g l =
    IsPlainFormatter l.fn.f
    → HasWritten g.W.Write.write_str_gives l.fn.f (hex_text l.initial.first ++ flat_map (λ n. codes "," ++ hex_text n) (take l.number-index l.rest)) l.f
