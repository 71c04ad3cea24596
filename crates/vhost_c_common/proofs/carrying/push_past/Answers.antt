use Rattle.std.proofs.Common.{refl, sym, ap, ◌∙◌}
use Rattle.vhost_link.specs.Ends.{Ends}
use Rattle.vhost_connection.specs.State.{ahead_of, state}
use Rattle.vhost_c_common.proofs.OnWay.{gives-ahead, no-cell}
use Rattle.vhost_c_common.proofs.carrying.push_past.Goals as goal

pub returns-clause-given : goal.returns-clause-given
unfolding ahead_of
returns-clause-given g c = λ on.
    let none = no-cell c.link.result.now.pending (sym c.if-not-is_drained.false ∙ c.is_drained.ensures) in
    gives-ahead (state c.args.end.now) _ _ _ c.args.bytes.now (ap {A = Ends} (λ l. record (state c.args.end.now) { link = l }) c.link.ensures.value) refl
    (sym (ap {A = Ends} (λ l. l.pending) c.link.ensures.value) ∙ none) (c.push_ahead.ensures.pushed on)
