use Rattle.std.proofs.Common.{[], Some, sym, ap, ◌∙◌}
use Rattle.vhost_gpu_backend_req.specs.Halves.{call_in}
use Rattle.vhost_c_common.proofs.ByNumber.{by-none, by-some}
use Rattle.vhost_c_channel.specs.Display.{Asking}
use Rattle.vhost_c_channel.specs.declared.display.Display.{Display}
use Rattle.vhost_c.proofs.display_asks.asked.Goals as goal

pub returns-in-None-clause-pixels : goal.returns-in-None-clause-pixels
returns-in-None-clause-pixels c = λ pixels long. by-none (Asking (call_in c.args.call pixels)) _ _ _ c.in-None.ensures.taken c.in-None.ensures.left c.number_of.ensures

pub returns-in-None-clause-bare : goal.returns-in-None-clause-bare
returns-in-None-clause-bare c = λ none. by-none (Asking (call_in c.args.call [])) _ _ _ c.in-None.ensures.taken c.in-None.ensures.left c.number_of.ensures

pub returns-in-Some-clause-pixels : goal.returns-in-Some-clause-pixels
returns-in-Some-clause-pixels c = λ pixels long. by-some (Asking (call_in c.args.call pixels)) _ _ _ c.deref_mut.result.now c.ask-outcome.new.self c.ask-outcome.result
    (c.in-Some.ensures.taken ∙ ap {A = Display} Some (sym c.deref_mut.ensures.value)) c.put.ensures c.number_of-in-Some.ensures (c.ask-outcome.ensures pixels long)

pub returns-in-Some-clause-bare : goal.returns-in-Some-clause-bare
returns-in-Some-clause-bare c = λ none. by-some (Asking (call_in c.args.call [])) _ _ _ c.deref_mut.result.now c.ask-outcome.new.self c.ask-outcome.result
    (c.in-Some.ensures.taken ∙ ap {A = Display} Some (sym c.deref_mut.ensures.value)) c.put.ensures c.number_of-in-Some.ensures (c.ask-outcome.ensures [] (sym none))
