use Rattle.vhost_lines.specs.Session.{Steps, request_of, reply_of, stopped_of}
use Rattle.vhost_lines.proofs.Progress.{GoesOn}
use Rattle.vhost_lines.proofs.lines.answer_lines.Given as goal

abbrev pub invariant-loop-number : goal.invariant-loop-number
invariant-loop-number g l =
    GoesOn l.fn.comments Steps request_of reply_of stopped_of (g.I.Read.remaining l.fn.input) l.initial.session.value l.session.value (g.W.Write.contents l.fn.output) (g.W.Write.contents l.output) (g.I.Read.remaining l.input) l.number
