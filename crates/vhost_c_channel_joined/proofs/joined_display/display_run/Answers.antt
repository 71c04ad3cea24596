-- A new session is idle.
use Rattle.std.proofs.Common.{◌++◌, [], List, Result, ap, sym, subst, ◌∙◌}
use Rattle.vhost_protocol.specs.Stream.{Cell}
use Rattle.vhost_link.specs.Ends.{Ends}
use Rattle.vhost_link.specs.declared.plain.PlainHandle.{PlainHandle}
use Rattle.vhost_c_common.specs.declared.refusal.Refusal.{Refusal}
use Rattle.vhost_c_channel_joined.specs.JoinedDisplay.{AreDone}
use Rattle.vhost_c_channel_joined.specs.declared.joined_display.DisplayAnswer.{DisplayAnswer}
use Rattle.vhost_c_channel_joined.proofs.JoiningDisplay.{new-idle}
use Rattle.vhost_c_channel_joined.proofs.joined_display.display_run.Goals as goal

pub returns-in-Ok-display_calls-clause-done : goal.returns-in-Ok-display_calls-clause-done
returns-in-Ok-display_calls-clause-done c allowed =
    let d = c.in-Ok-display_calls.ensures (new-idle c.in-Ok.session c.in-Ok.ensures.new) allowed in
    let items = d.1 ∙ ap {A = List (Result DisplayAnswer Refusal)} (λ xs. xs ++ d.0) c.new-answers.ensures.items in
    let none = ap {A = Ends} (λ l. l.pending) c.new-display.ensures in
    subst {A = List (Result DisplayAnswer Refusal)} (λ os. AreDone c.args.turns.now [] c.display_calls.new.session c.display_calls.new.display.pending os) (sym items)
    (subst {A = List (Cell PlainHandle)} (λ cells. AreDone c.args.turns.now cells c.display_calls.new.session c.display_calls.new.display.pending d.0) none d.2)
