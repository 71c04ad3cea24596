-- The first piece brings all.
use Rattle.std.proofs.Common.{sym, ap, ◌∙◌}
use Rattle.std.proofs.lemmas.Bool.Decides.{Decides-int_eq, not_from_Decides}
use Rattle.std.proofs.lemmas.Slice.Eq.{slice_eq-Decides}
use Rattle.vhost_c_joined.specs.Judged.{due_at}
use Rattle.vhost_c_joined.proofs.judged.are_due.Goals as goal

pub returns-then-at-eq0-clause-due : goal.returns-then-at-eq0-clause-due
returns-then-at-eq0-clause-due c is = (slice_eq-Decides Decides-int_eq c.args.handed.now c.args.fds.now c.eq.result c.eq.ensures).0 is ∙ ap (λ n. due_at n c.args.fds.now) (sym c.if-at-eq0.true)

pub returns-then-at-eq0-clause-other : goal.returns-then-at-eq0-clause-other
returns-then-at-eq0-clause-other c is due = not_from_Decides c.eq.result (slice_eq-Decides Decides-int_eq c.args.handed.now c.args.fds.now c.eq.result c.eq.ensures) is (due ∙ ap (λ n. due_at n c.args.fds.now) c.if-at-eq0.true)
