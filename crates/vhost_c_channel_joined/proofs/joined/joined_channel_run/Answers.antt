-- Two new sessions are in step.
use Rattle.vhost_c_channel_joined.proofs.Running.{new-in-step, both-halt, no-memory}
use Rattle.vhost_c_channel_joined.proofs.joined.joined_channel_run.Goals as goal

pub returns-in-Err : goal.returns-in-Err
returns-in-Err c made = no-memory c.in-Err.error c.in-Err.ensures.memory

pub returns-in-Err-new : goal.returns-in-Err-new
returns-in-Err-new c made = no-memory c.in-Err-new.error c.in-Err-new.ensures.memory

pub returns-in-Ok-joined_channel_calls : goal.returns-in-Ok-joined_channel_calls
returns-in-Ok-joined_channel_calls c made = record {
  asker = c.in-Ok.session;
  server = c.in-Ok-new.session;
  fresh = (c.in-Ok.ensures.new, c.in-Ok-new.ensures.new);
  stops = c.in-Ok-joined_channel_calls.field-0;
  runs = c.in-Ok-joined_channel_calls.ensures (new-in-step c.in-Ok.session c.in-Ok-new.session c.in-Ok.ensures.new c.in-Ok-new.ensures.new) made;
}

pub returns-in-Err-joined_channel_calls : goal.returns-in-Err-joined_channel_calls
returns-in-Err-joined_channel_calls c made =
    both-halt _ _ c.in-Ok.session c.in-Ok-new.session c.joined_channel_calls.new.asker c.joined_channel_calls.new.server c.in-Err-joined_channel_calls.halt c.in-Ok.ensures.new c.in-Ok-new.ensures.new
    (c.in-Err-joined_channel_calls.ensures (new-in-step c.in-Ok.session c.in-Ok-new.session c.in-Ok.ensures.new c.in-Ok-new.ensures.new) made)
