use Rattle.std.proofs.Common.{subst}
use Rattle.std.specs.Prelude.{Ok}
use Rattle.vhost_link.specs.Mem.{event}
use Rattle.vhost_backend_req.specs.Channel.{channel}
use Rattle.vhost_backend_req.specs.Halves.{AsksValue, input_of}
use Rattle.vhost_backend_req.specs.declared.call.Asked.{Asked}
use Rattle.vhost_backend_req.specs.declared.call.Asked.TheVariants.{Sent}
use Rattle.vhost_joined_reverse.proofs.sides.Sides.exchange.Goals as goal

pub returns-in-Ok-Sent : goal.returns-in-Ok-Sent
returns-in-Ok-Sent g c = record {
  proper = c.in-Ok-Sent.ensures.proper;
  asked = Ok (Sent c.in-Ok-Sent.sent);
  channel = channel c.ask_half.new.self;
  asks = subst (λ (a : Asked). AsksValue event (input_of c.args.call.now) (channel c.args.self.now.backend) (Ok a) (channel c.ask_half.new.self)) c.in-Ok-Sent.field-0-is c.in-Ok-Sent.ensures.asked;
  ends = c.serve.ensures;
}
