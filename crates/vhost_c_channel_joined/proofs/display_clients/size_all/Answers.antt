-- Once more, and then as often as it is to be.
use Rattle.std.proofs.Common.{◌≡◌, ◌++◌, arith, subst}
use Rattle.vhost_c_channel_joined.specs.Clients.{IsSizing, sizes}
use Rattle.vhost_c_channel_joined.proofs.Sizing.{more}
use Rattle.vhost_c_channel_joined.proofs.display_clients.size_all.Goals as goal

pub sizes-preserved : goal.sizes-preserved
sizes-preserved c = record { sizing = λ cells is. more cells c.sizes.counter c.size_one.new.display (c.in-Ok.ensures (cells ++ sizes c.sizes.counter) (c.sizes.invariant.sizing cells is)) }

pub returns : goal.returns
returns c cells is =
    let all : c.sizes.counter ≡ c.args.count = omega (arith, c.sizes-test.false, c.sizes.auto.counter-end) in
    subst (λ n. IsSizing (cells ++ sizes n) c.sizes.display) all (c.sizes.invariant.sizing cells is)

pub returns-in-Err : goal.returns-in-Err
returns-in-Err c cells is = c.in-Err.ensures (cells ++ sizes c.sizes.counter) (c.sizes.invariant.sizing cells is)
