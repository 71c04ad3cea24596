use Rattle.std.proofs.Common.{sym, ◌∙◌}
use Rattle.vhost_c_backend.proofs.Serving.{lent, is-there, not-both}
use Rattle.vhost_c_backend.proofs.served.Served.call.Goals as goal

pub returns-then-has_call-clause-one : goal.returns-then-has_call-clause-one
returns-then-has_call-clause-one c = λ m x. lent c.args.self.now.core c.call.result c.call.ensures.row c.call.ensures.some m x.read

pub returns-then-has_call-clause-none : goal.returns-then-has_call-clause-none
returns-then-has_call-clause-none c = λ idle. absurd (not-both (sym c.has_call.ensures ∙ c.if-has_call.true) idle)

pub returns-clause-one : goal.returns-clause-one
returns-clause-one c = λ m x. absurd (not-both (is-there c.args.self.now m x) (sym c.has_call.ensures ∙ c.if-has_call.false))
