-- A new judge remembers what a new backend remembers.
use Rattle.std.proofs.Common.{sym, ap, ◌∙◌}
use Rattle.vhost_message.specs.declared.error.Error.{Error}
use Rattle.vhost_c_common.specs.declared.refusal.Refusal.TheVariants.{Protocol}
use Rattle.vhost_c_joined.specs.Device.{is_want}
use Rattle.vhost_c_joined.proofs.Serving.{any-halt, new-ready}
use Rattle.vhost_c_joined.proofs.Starting.{new-in-step}
use Rattle.vhost_c_joined.proofs.judged.judged_run.Goals as goal

pub returns-in-Ok-judged_all : goal.returns-in-Ok-judged_all
returns-in-Ok-judged_all c bit max steps f f' b b' front back allowed seen =
    c.in-Ok-judged_all.ensures bit steps f f' b b' (record { in_step = new-in-step bit max f b front back; allowed = allowed; seen = seen }) (new-ready c.in-Ok.session c.in-Ok.ensures.new) (c.in-Ok.ensures.new.memory ∙ sym back.memory)

pub returns-in-Err-judged_all : goal.returns-in-Err-judged_all
returns-in-Err-judged_all c bit max steps f f' b b' front back allowed seen = any-halt b' c.judged_all.new.judge b' c.in-Err-judged_all.halt
    (c.in-Err-judged_all.ensures bit steps f f' b b' (record { in_step = new-in-step bit max f b front back; allowed = allowed; seen = seen }) (new-ready c.in-Ok.session c.in-Ok.ensures.new) (c.in-Ok.ensures.new.memory ∙ sym back.memory))

pub returns-in-Err : goal.returns-in-Err
returns-in-Err c bit max steps f f' b b' front back allowed seen = ap {A = Error} (λ e. is_want (Protocol e)) c.in-Err.ensures.memory
