-- The reply was an answer, or the call is refused.
use Rattle.std.proofs.Common.{Result, sym, subst}
use Rattle.std.specs.Prelude.{⊤}
use Rattle.vhost_c_backend.specs.Served.{remembers}
use Rattle.vhost_c_joined.specs.Device.{Serves}
use Rattle.vhost_c_joined.specs.declared.wire.Halt.{Halt}
use Rattle.vhost_c_joined.proofs.Answering.{first-ok, then-refused, goes-on}
use Rattle.vhost_c_joined.proofs.joined.answer.Goals as goal

pub returns-in-Ok : goal.returns-in-Ok
returns-in-Ok c m due = first-ok m c.args.reply c.args.back.now c.reply.new.self due c.in-Ok.ensures

pub returns-in-Ok-reply : goal.returns-in-Ok-reply
returns-in-Ok-reply c m due =
    then-refused m c.args.reply c.reply-in-Ok-unless_want.new.self _ c.args.back.now c.reply.new.self c.in-Err.refusal due (goes-on c.in-Err.refusal c.unless_want.result _ c.unless_want.ensures c.in-Ok-unless_want.is) c.in-Err.ensures c.in-Ok-reply.ensures

pub returns-in-Err-reply : goal.returns-in-Err-reply
returns-in-Err-reply c m due =
    subst {A = Result ⊤ Halt} (λ h. Serves m c.args.reply (remembers c.args.back.now) h c.reply-in-Ok-unless_want.new.self) (sym c.unless_want-in-Err-reply.ensures)
    (then-refused m c.args.reply c.reply-in-Ok-unless_want.new.self _ c.args.back.now c.reply.new.self c.in-Err.refusal due (goes-on c.in-Err.refusal c.unless_want.result _ c.unless_want.ensures c.in-Ok-unless_want.is) c.in-Err.ensures c.in-Err-reply.ensures)
