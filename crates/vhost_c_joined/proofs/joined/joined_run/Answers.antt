-- Two new sessions are in step.
use Rattle.std.proofs.Common.{inl, inr, ap}
use Rattle.vhost_message.specs.declared.error.Error.{Error}
use Rattle.vhost_c_common.specs.declared.refusal.Refusal.TheVariants.{Protocol}
use Rattle.vhost_c_joined.specs.Device.{is_want}
use Rattle.vhost_c_joined.proofs.Starting.{new-in-step}
use Rattle.vhost_c_joined.proofs.joined.joined_run.Goals as goal

pub returns-in-Ok-joined_calls : goal.returns-in-Ok-joined_calls
returns-in-Ok-joined_calls c bit allowed = record {
  front = c.in-Ok.session;
  back = c.in-Ok-new.session;
  fresh = (c.in-Ok.ensures.new, c.in-Ok-new.ensures.new);
  lockstep = c.in-Ok-joined_calls.ensures bit (new-in-step bit c.args.max_queue_num c.in-Ok.session c.in-Ok-new.session c.in-Ok.ensures.new c.in-Ok-new.ensures.new) allowed;
}

pub returns-in-Err-joined_calls : goal.returns-in-Err-joined_calls
returns-in-Err-joined_calls c bit allowed = inr (record {
  front = c.in-Ok.session;
  back = c.in-Ok-new.session;
  fresh = (c.in-Ok.ensures.new, c.in-Ok-new.ensures.new);
  last_front = c.joined_calls.new.front;
  last_back = c.joined_calls.new.back;
  halts = c.in-Err-joined_calls.ensures bit (new-in-step bit c.args.max_queue_num c.in-Ok.session c.in-Ok-new.session c.in-Ok.ensures.new c.in-Ok-new.ensures.new) allowed;
})

pub returns-in-Err-new : goal.returns-in-Err-new
returns-in-Err-new c bit allowed = inl (ap {A = Error} (λ e. is_want (Protocol e)) c.in-Err-new.ensures.memory)

pub returns-in-Err : goal.returns-in-Err
returns-in-Err c bit allowed = inl (ap {A = Error} (λ e. is_want (Protocol e)) c.in-Err.ensures.memory)
