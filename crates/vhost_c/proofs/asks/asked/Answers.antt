use Rattle.std.proofs.Common.{Some, sym, ap, ◌∙◌}
use Rattle.vhost_frontend_core.specs.Values.{call_of}
use Rattle.vhost_c_frontend.specs.Session.{Asking}
use Rattle.vhost_c_frontend.specs.declared.session.Session.{Session}
use Rattle.vhost_c_common.proofs.ByNumber.{by-none, by-some}
use Rattle.vhost_c.proofs.asks.asked.Goals as goal

pub returns-in-None : goal.returns-in-None
returns-in-None c = by-none (Asking (call_of c.args.call)) _ _ _ c.in-None.ensures.taken c.in-None.ensures.left c.number_of.ensures

pub returns-in-Some : goal.returns-in-Some
returns-in-Some c = by-some (Asking (call_of c.args.call)) _ _ _ c.deref_mut.result.now c.ask-outcome.new.self c.ask-outcome.result
    (c.in-Some.ensures.taken ∙ ap {A = Session} Some (sym c.deref_mut.ensures.value)) c.put.ensures c.number_of-in-Some.ensures c.ask-outcome.ensures
