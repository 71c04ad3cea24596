use Rattle.std.proofs.Common.{◌++◌, take, codes, decimal}
use Rattle.std.specs.Fmt.{HasWritten, IsPlainFormatter}
use Rattle.std.specs.List.{flat_map}
use Rattle.vhost_lines.proofs.answer_text.lists.show_handles.Given as goal

abbrev pub invariant-loop-handle : goal.invariant-loop-handle
invariant-loop-handle g l =
    IsPlainFormatter l.fn.f
    → HasWritten g.W.Write.write_str_gives l.fn.f ((codes "[" ++ decimal l.initial.id) ++ flat_map (λ h. codes "," ++ decimal h.id) (take l.handle-index l.rest)) l.f
