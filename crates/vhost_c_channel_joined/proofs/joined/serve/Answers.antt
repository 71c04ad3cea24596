-- The request is read and its call answered, or its row refuses it.
use Rattle.std.proofs.Common.{sym, ◌∙◌}
use Rattle.vhost_protocol.specs.IoError.{seen_io_result}
use Rattle.vhost_c_channel.specs.Serving.{remembers}
use Rattle.vhost_c_channel_joined.proofs.Meeting.{as-seen, opened, replied, unreplied, unread-met, unread-want}
use Rattle.vhost_c_channel_joined.proofs.joined.serve.Goals as goal

pub returns-in-Ok-reply : goal.returns-in-Ok-reply
returns-in-Ok-reply c m due =
    replied m (remembers c.args.server.now) c.next.new.self c.reply.new.self (opened m _ c.args.server.now c.next.new.self due c.in-Ok.ensures) (seen_io_result c.args.answer) c.is_err-failed.result (c.is_err-failed.ensures.value ∙ as-seen c.args.answer) c.in-Ok-reply.ensures

pub returns-in-Err-reply : goal.returns-in-Err-reply
returns-in-Err-reply c m due =
    unreplied m (remembers c.args.server.now) c.next.new.self c.reply.new.self (opened m _ c.args.server.now c.next.new.self due c.in-Ok.ensures) (seen_io_result c.args.answer) c.in-Err-reply.refusal c.in-Err-reply.ensures

pub returns-then-wants_memory : goal.returns-then-wants_memory
returns-then-wants_memory c m due = unread-want c.talks_law.ensures.talks m (seen_io_result c.args.answer) c.args.server.now c.next.new.self c.in-Err.refusal due c.in-Err.ensures (sym c.wants_memory.ensures ∙ c.if-wants_memory.true)

pub returns-else-wants_memory : goal.returns-else-wants_memory
returns-else-wants_memory c m due = unread-met c.talks_law.ensures.talks m (seen_io_result c.args.answer) c.args.server.now c.next.new.self c.in-Err.refusal due c.in-Err.ensures (sym c.wants_memory.ensures ∙ c.if-wants_memory.false)
