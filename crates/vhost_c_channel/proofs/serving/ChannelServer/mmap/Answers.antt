use Rattle.std.proofs.Common.{ap, ◌∙◌}
use Rattle.std.specs.Prelude.{ok_or}
use Rattle.vhost_c_common.specs.declared.refusal.Refusal.TheVariants.{OtherCall}
use Rattle.vhost_c_channel.specs.Arguments.{mmap_arg}
use Rattle.vhost_c_channel.proofs.Requests.{tells-some, tells-none}
use Rattle.vhost_c_channel.proofs.serving.ChannelServer.mmap.Goals as goal

pub returns-in-Some : goal.returns-in-Some
returns-in-Some c = tells-some c.args.self.now c.in-Some.call.now c.in-Some.ensures.one (λ no. cc (c.in-Some.ensures.none no)) mmap_arg _ (c.ok_or.ensures.value ∙ ap (λ o. ok_or o OtherCall) c.mmap_of.ensures)

pub returns-in-None : goal.returns-in-None
returns-in-None c = tells-none c.args.self.now c.in-None.ensures.one mmap_arg
