-- Once more, and then as often as it is to be.
use Rattle.std.proofs.Common.{◌≡◌, ◌++◌, arith, subst}
use Rattle.vhost_c_frontend.specs.Clients.{IsOwning, owns}
use Rattle.vhost_c_frontend.proofs.Owning.{more}
use Rattle.vhost_c_frontend.proofs.clients.own_all.Goals as goal

pub owns-preserved : goal.owns-preserved
owns-preserved c = record {
  owning = λ queues profile cells is. more queues profile cells c.owns.counter c.own_once.new.session (c.in-Ok.ensures queues profile (cells ++ owns c.owns.counter) (c.owns.invariant.owning queues profile cells is));
}

pub returns : goal.returns
returns c queues profile cells is =
    let all : c.owns.counter ≡ c.args.count = omega (arith, c.owns-test.false, c.owns.auto.counter-end) in
    subst (λ n. IsOwning queues profile (cells ++ owns n) c.owns.session) all (c.owns.invariant.owning queues profile cells is)

pub returns-in-Err : goal.returns-in-Err
returns-in-Err c queues profile cells is = c.in-Err.ensures queues profile (cells ++ owns c.owns.counter) (c.owns.invariant.owning queues profile cells is)
