use Rattle.std.proofs.Common.{refl, sym, ap, ◌∙◌}
use Rattle.vhost_link.specs.Ends.{Ends}
use Rattle.vhost_link.specs.declared.plain.PlainHandle.{PlainHandle}
use Rattle.vhost_connection.specs.Talk.{State}
use Rattle.vhost_c_common.specs.Carrying.{emptied}
use Rattle.vhost_c_channel.proofs.Requests.{begins, is-due}
use Rattle.vhost_c_channel.proofs.serving.ChannelServer.next.Goals as goal

pub returns-in-Ok : goal.returns-in-Ok
returns-in-Ok c = λ unmarked. begins c.talks_law.ensures.talks c.args.self.now _ _ c.in-Ok.call (c.in-Ok.ensures.begun unmarked) refl c.new-self.ensures c.number_of_call-number.ensures refl refl

pub returns-in-Err : goal.returns-in-Err
returns-in-Err c = λ unmarked. record {
  due = is-due c.args.self.now _ (sym c.has_call.ensures ∙ c.if-has_call.false) c.missing_by.ensures.missing c.if-missing_by-gt0.false;
  mid = c.begin.new.self;
  refuses = c.in-Err.ensures.refused unmarked;
  end = c.empty.ensures ∙ ap {A = State Ends PlainHandle} emptied c.endpoint_mut.ensures.value;
  memory = refl;
  outgoing = refl;
  idle = c.in-Err.ensures.none;
  nothing_came = c.new-self.ensures;
  held = c.release.ensures;
}
