use Rattle.std.proofs.Common.{List, ◌++◌, refl, sym, ap, ◌∙◌}
use Rattle.std.specs.Prelude.{is_some}
use Rattle.vhost_protocol.specs.Stream.{Cell}
use Rattle.vhost_link.specs.Ends.{Ends}
use Rattle.vhost_link.specs.declared.plain.PlainHandle.{PlainHandle}
use Rattle.vhost_connection.specs.Talk.{State}
use Rattle.vhost_gpu_backend_req.specs.Channel.{channel}
use Rattle.vhost_gpu_backend_req.specs.Halves.{call_in}
use Rattle.vhost_c_common.specs.View.{unsent}
use Rattle.vhost_c_channel.proofs.Calls.{is-bare}
use Rattle.vhost_c_channel.proofs.Displays.{asks, not-asked, mark-kept}
use Rattle.vhost_c_channel.proofs.display.Display.ask_now.Goals as goal

pub returns-in-Ok : goal.returns-in-Ok
returns-in-Ok c = λ pixels long. asks c.talks_law.ensures.talks (call_in c.args.call.now pixels) c.args.self.now _ c.in-Ok.awaited (c.in-Ok.ensures pixels long) refl refl c.new-self.ensures c.requires.empty refl

pub returns-in-Err : goal.returns-in-Err
returns-in-Err c = λ pixels long. (
  not-asked (call_in c.args.call.now pixels) c.args.self.now _ c.in-Err.error (channel c.ask_half.new.self) _ c.protocol_error.ensures (is-bare _ c.requires.unsent c.requires.empty) (c.forget_sent.ensures ∙ ap unsent c.endpoint_mut.ensures.value)
      (c.in-Err.ensures pixels long),
  record {
    queue = ap {A = List (Cell PlainHandle)} (λ xs. c.args.self.now.outgoing.link.pending ++ xs) (ap {A = State Ends PlainHandle} (λ e. e.link.sent) c.forget_sent.ensures ∙ sym c.requires.unsent);
    mark = mark-kept (call_in c.args.call.now pixels) c.args.self.now c.in-Err.error (channel c.ask_half.new.self) (c.in-Err.ensures pixels long);
    asked = refl;
    incoming = refl;
    held = refl;
    came = λ waits. absurd (cc (sym waits ∙ ap is_some c.requires.free));
  },
)
