use Rattle.std.proofs.Common.{ap, ◌∙◌}
use Rattle.vhost_c.specs.Answers.{ReadsInflight}
use Rattle.vhost_c_frontend.specs.declared.session.Session.{Session}
use Rattle.vhost_c_common.proofs.ByNumber.{by-none, by-some}
use Rattle.vhost_c.proofs.Reading.{reading}
use Rattle.vhost_c.proofs.answers.covretin_answer_inflight.Goals as goal

pub returns-in-None-clause-does : goal.returns-in-None-clause-does
returns-in-None-clause-does c = by-none _ _ _ _ c.in-None.ensures.taken c.in-None.ensures.left c.number_of.ensures

pub returns-in-Some-clause-does : goal.returns-in-Some-clause-does
returns-in-Some-clause-does c = by-some _ _ _ _ c.in-Some.held.value c.in-Some.held.value c.read_inflight-outcome.result c.in-Some.ensures.taken c.put.ensures c.number_of-in-Some.ensures
    (reading (ReadsInflight c.read_inflight-outcome.new.place c.read_inflight-outcome.new.fd) _ c.in-Some.held.value c.read_inflight-outcome.result (c.answer.ensures ∙ ap (λ (s : Session). s.answer) c.deref.ensures) c.read_inflight-outcome.ensures.reads)
