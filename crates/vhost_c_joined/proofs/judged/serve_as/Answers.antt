-- The request is read, and answered as the reply says; or it was refused.
use Rattle.std.proofs.Common.{Result, sym, subst}
use Rattle.std.specs.Prelude.{⊤}
use Rattle.vhost_protocol.specs.Session.{Session}
use Rattle.vhost_c_backend.specs.Served.{remembers}
use Rattle.vhost_c_joined.specs.Device.{Serves}
use Rattle.vhost_c_joined.specs.declared.wire.Halt.{Halt}
use Rattle.vhost_c_joined.proofs.Denying.{opened, denied}
use Rattle.vhost_c_joined.proofs.Serving.{any-held, held-as, number-is}
use Rattle.vhost_c_joined.proofs.judged.serve_as.Goals as goal

pub returns-in-Ok : goal.returns-in-Ok
returns-in-Ok c m due =
    let o = opened m _ c.args.judge.now c.next.new.self due c.in-Ok.ensures in
    record {
      reply = c.held.result;
      holds = held-as _ _ _ c.args.reply.now c.args.fds.now c.held.result (number-is m _ c.args.judge.now c.next.new.self due c.in-Ok.ensures) c.kind_of.ensures c.held.ensures;
      serves = subst {A = Session} (λ k. Serves m c.held.result k c.answer.result c.answer.new.back) o.1 (c.answer.ensures m o.0);
    }

pub returns-in-Err : goal.returns-in-Err
returns-in-Err c m due =
    let held = any-held m c.args.judge.now c.args.reply.now c.args.fds.now in
    record {
      reply = held.0;
      holds = held.1;
      serves = subst {A = Result ⊤ Halt} (λ h. Serves m held.0 (remembers c.args.judge.now) h c.next.new.self) (sym c.unless_want.ensures)
          (denied c.talks_law.ensures.talks m held.0 c.args.judge.now c.next.new.self c.in-Err.refusal due c.in-Err.ensures);
    }
