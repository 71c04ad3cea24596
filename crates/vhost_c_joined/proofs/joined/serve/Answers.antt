-- The request is read and answered, or refused.
use Rattle.std.proofs.Common.{Result, sym, subst}
use Rattle.std.specs.Prelude.{⊤}
use Rattle.vhost_protocol.specs.Session.{Session}
use Rattle.vhost_c_backend.specs.Served.{remembers}
use Rattle.vhost_c_joined.specs.Device.{Serves}
use Rattle.vhost_c_joined.specs.declared.wire.Halt.{Halt}
use Rattle.vhost_c_joined.proofs.Denying.{opened, denied}
use Rattle.vhost_c_joined.proofs.joined.serve.Goals as goal

pub returns-in-Ok : goal.returns-in-Ok
returns-in-Ok c m due =
    let o = opened m _ c.args.back.now c.next.new.self due c.in-Ok.ensures in
    subst {A = Session} (λ k. Serves m c.args.reply k c.answer.result c.answer.new.back) o.1 (c.answer.ensures m o.0)

pub returns-in-Err : goal.returns-in-Err
returns-in-Err c m due =
    subst {A = Result ⊤ Halt} (λ h. Serves m c.args.reply (remembers c.args.back.now) h c.next.new.self) (sym c.unless_want.ensures)
    (denied c.talks_law.ensures.talks m c.args.reply c.args.back.now c.next.new.self c.in-Err.refusal due c.in-Err.ensures)
