-- An object is shared once more.
use Rattle.std.proofs.Common.{◌++◌, [], ◌∷◌, sym, ap, ◌∙◌}
use Rattle.std.proofs.lemmas.Option.{none-some}
use Rattle.vhost_promises.proofs.Sharing.{shared-again}
use Rattle.vhost_promises.proofs.example_back.shares_twice.Goals as goal

pub returns-in-Ok : goal.returns-in-Ok
returns-in-Ok c goes_on =
    let (done, appended, shares) = c.in_ok-joined.ensures (λ broke. none-some _ (sym c.in_ok-answer.ensures.0 ∙ broke)) in (
      done,
      c.in_ok-answer.answer,
      c.in-Ok.ensures.items ∙ ap (λ xs. xs ++ c.in_ok-answer.answer ∷ []) appended,
      shared-again done _ c.step.new.self c.some_name.result c.in_ok-answer.answer c.some_name.ensures shares c.in_ok-answer.ensures goes_on,
    )
