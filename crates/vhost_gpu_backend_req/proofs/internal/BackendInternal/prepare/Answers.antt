-- A message may be sent, unless the channel was marked as failed.
use Rattle.std.proofs.Common.{refl, sym, ap, ◌∙◌, arith}
use Rattle.vhost_connection.specs.Talk.{State}
use Rattle.vhost_connection.proofs.Asking.{at-err, at-ok}
use Rattle.vhost_gpu_backend_req.specs.Channel.{channel}
use Rattle.vhost_gpu_backend_req.specs.Halves.NotReady.{refused, no_memory, too_long}
use Rattle.vhost_gpu_backend_req.proofs.Answered.{alive-is, refusal-is}
use Rattle.vhost_gpu_backend_req.proofs.internal.BackendInternal.prepare.Goals as goal

pub returns-in-Err : goal.returns-in-Err
returns-in-Err g c = refused (refusal-is c.args.self.now.failed c.in-Err.ensures.marked c.in-Err.ensures.alive)

pub returns-then-is_err : goal.returns-then-is_err
returns-then-is_err g c =
    let alive = alive-is c.args.self.now.failed c.in_default.ensures.marked refl in
    let m = at-err c.make_list.result c.make_list.ensures.memory (sym c.is_err.ensures.value ∙ c.if-is_err.true) in
    rw c.io_err_convert.ensures (no_memory alive m.1.1 (ap (λ (s : State _ _). record (channel c.args.self.now) { endpoint = s }) m.1.2))

pub returns-then-behind-size : goal.returns-then-behind-size
returns-then-behind-size g c =
    let alive = alive-is c.args.self.now.failed c.in_default.ensures.marked refl in
    let m = at-ok c.make_list.result c.make_list.ensures.made (sym c.is_err.ensures.value ∙ c.if-is_err.false) in
    rw c.io_err_convert-then-behind-size.ensures (too_long alive (omega (arith, c.if-behind-size.true)) (ap (λ (s : State _ _). record (channel c.args.self.now) { endpoint = s }) m.1))

pub returns : goal.returns
returns g c =
    let m = at-ok c.make_list.result c.make_list.ensures.made (sym c.is_err.ensures.value ∙ c.if-is_err.false) in
    record {
      alive = alive-is c.args.self.now.failed c.in_default.ensures.marked refl;
      fits = omega (arith, c.if-behind-size.false, c.requires);
      is = c.new.ensures;
      listed = ap (λ (s : State _ _). record (channel c.args.self.now) { endpoint = s }) m.1;
    }
