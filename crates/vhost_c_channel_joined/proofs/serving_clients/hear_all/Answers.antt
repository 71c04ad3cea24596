-- One more was heard of, and then all.
use Rattle.std.proofs.Common.{◌≡◌, ◌++◌, arith, subst}
use Rattle.vhost_c_channel_joined.specs.Clients.{IsHearing, acknowledgements}
use Rattle.vhost_c_channel_joined.proofs.Noticing.{more}
use Rattle.vhost_c_channel_joined.proofs.serving_clients.hear_all.Goals as goal

pub changes-preserved : goal.changes-preserved
changes-preserved c = record { hearing = λ cells is. more cells c.changes.counter c.hear_one.new.server (c.in-Ok.ensures (cells ++ acknowledgements c.changes.counter) (c.changes.invariant.hearing cells is)) }

pub returns : goal.returns
returns c cells is =
    let all : c.changes.counter ≡ c.args.count = omega (arith, c.changes-test.false, c.changes.auto.counter-end) in
    subst (λ n. IsHearing (cells ++ acknowledgements n) c.changes.server) all (c.changes.invariant.hearing cells is)

pub returns-in-Err : goal.returns-in-Err
returns-in-Err c cells is = c.in-Err.ensures (cells ++ acknowledgements c.changes.counter) (c.changes.invariant.hearing cells is)
