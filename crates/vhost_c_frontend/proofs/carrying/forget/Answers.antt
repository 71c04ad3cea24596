use Rattle.std.proofs.Common.{[], ap, ◌∙◌}
use Rattle.vhost_link.specs.Ends.{Ends}
use Rattle.vhost_link.specs.declared.plain.PlainHandle.{PlainHandle}
use Rattle.vhost_connection.specs.Talk.{State}
use Rattle.vhost_c_frontend.proofs.carrying.forget.Goals as goal

pub returns-clause-forgotten : goal.returns-clause-forgotten
returns-clause-forgotten c = c.forget_sent.ensures ∙ ap {A = State Ends PlainHandle} (λ k. record k { link = record k.link { sent = [] } }) c.endpoint_mut.ensures.value
