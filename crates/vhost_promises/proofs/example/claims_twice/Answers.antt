-- The answers of the example device, once more.
use Rattle.std.proofs.Common.{◌++◌, [], ◌∷◌, sym, ap, ◌∙◌}
use Rattle.std.proofs.lemmas.Option.{none-some}
use Rattle.vhost_promises.proofs.Claiming.{claimed-again}
use Rattle.vhost_promises.proofs.example.claims_twice.Goals as goal

pub returns-in-Ok : goal.returns-in-Ok
returns-in-Ok c goes_on =
    let (done, appended, claim) = c.in_ok-joined.ensures (λ broke. none-some _ (sym c.in_ok-answer.ensures.step.0 ∙ broke)) in (
      done,
      c.in_ok-answer.answer,
      c.in-Ok.ensures.items ∙ ap (λ xs. xs ++ c.in_ok-answer.answer ∷ []) appended,
      claimed-again _ done _ c.step.new.self c.in_ok-answer.answer claim c.in_ok-answer.ensures.step goes_on,
    )
