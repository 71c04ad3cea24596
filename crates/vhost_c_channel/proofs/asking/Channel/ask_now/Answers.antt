use Rattle.std.proofs.Common.{List, ◌++◌, Ok, refl, sym, ap, subst, ◌∙◌}
use Rattle.std.specs.Prelude.{is_some}
use Rattle.vhost_message.specs.declared.error.Error.TheVariants.{InactiveOperation}
use Rattle.vhost_message.specs.declared.flags.features.VhostUserProtocolFeatures.{VhostUserProtocolFeatures}
use Rattle.vhost_protocol.specs.Stream.{Cell}
use Rattle.vhost_link.specs.Ends.{Ends}
use Rattle.vhost_link.specs.Mem.{event}
use Rattle.vhost_link.specs.declared.plain.PlainHandle.{PlainHandle}
use Rattle.vhost_connection.specs.Talk.{State}
use Rattle.vhost_backend_req.specs.Channel.{channel}
use Rattle.vhost_backend_req.specs.Halves.{AsksValue, input_of}
use Rattle.vhost_backend_req.specs.declared.call.Asked.{Asked}
use Rattle.vhost_c_common.specs.View.{unsent}
use Rattle.vhost_c_channel.specs.Asking.{error_in}
use Rattle.vhost_c_channel.proofs.Calls.{asks, refused, forgot-nothing, is-bare}
use Rattle.vhost_c_channel.proofs.asking.Channel.ask_now.Goals as goal

pub returns-in-Ok-Sent : goal.returns-in-Ok-Sent
returns-in-Ok-Sent c = λ k is. asks c.talks_law.ensures.talks (input_of c.args.call.now) k is c.args.self.now _ c.in-Ok-Sent.head
    (subst {A = Asked} (λ x. AsksValue event (input_of c.args.call.now) (channel c.args.self.now.channel) (Ok x) (channel c.ask_half.new.self)) c.in-Ok-Sent.field-0-is c.in-Ok-Sent.ensures.asked)
    refl refl c.new-self.ensures c.requires.empty refl

pub returns-in-Err : goal.returns-in-Err
returns-in-Err c = λ k is. (
  refused (input_of c.args.call.now) k is c.args.self.now c.in-Err.error (channel c.ask_half.new.self) c.in-Err.ensures.asked _ _
      (c.protocol_error.ensures ∙ ap {A = VhostUserProtocolFeatures} (λ f. error_in c.in-Err.error (InactiveOperation f)) c.feature_of.ensures)
      (is-bare _ c.requires.unsent c.requires.empty) (c.forget_sent.ensures ∙ ap unsent c.endpoint_mut.ensures.value),
  record {
    queue = ap {A = List (Cell PlainHandle)} (λ xs. c.args.self.now.outgoing.link.pending ++ xs) (ap {A = State Ends PlainHandle} (λ e. e.link.sent) c.forget_sent.ensures ∙ sym c.requires.unsent);
    memory = forgot-nothing (input_of c.args.call.now) k is c.args.self.now c.in-Err.error (channel c.ask_half.new.self) c.in-Err.ensures.asked;
    asked = refl;
    incoming = refl;
    held = refl;
    came = λ waits. absurd (cc (sym waits ∙ ap is_some c.requires.free));
  },
)
