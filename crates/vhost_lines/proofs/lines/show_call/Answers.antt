use Rattle.std.proofs.Common.{Result, Ok, Err, OnOk}
use Rattle.vhost_lines.proofs.lines.show_call.Goals as goal

-- what follows from two facts of a success
both : {A E P Q R : Type 0} (result : Result A E) → (P → Q → R) → OnOk result P → OnOk result Q → OnOk result R
both (Ok a) follows p q = follows p q
both (Err e) follows p q = tt

pub returns-in-Ok : goal.returns-in-Ok
returns-in-Ok c = both c.show_answer.result (λ going shown. (Ok c.in-Ok.answer, c.in-Ok.ensures.step, (going, shown))) c.show_answer.ensures.premises c.show_answer.ensures.line
