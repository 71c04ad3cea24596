use Rattle.vhost_c_channel.proofs.Requests.{puts-some, puts-none}
use Rattle.vhost_c_channel.proofs.serving.ChannelServer.name_to.Goals as goal

pub returns-in-Some : goal.returns-in-Some
returns-in-Some c = puts-some c.args.self.now c.in-Some.call.now c.in-Some.ensures.one (λ no. cc (c.in-Some.ensures.none no)) _ _ _ c.put_name.ensures

pub returns-in-None : goal.returns-in-None
returns-in-None c = puts-none c.args.self.now c.in-None.ensures.one _
