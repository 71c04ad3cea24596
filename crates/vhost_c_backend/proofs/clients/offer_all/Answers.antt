-- Once more, and then as often as it is to be.
use Rattle.std.proofs.Common.{◌≡◌, ◌++◌, arith, subst}
use Rattle.vhost_c_backend.specs.Clients.{IsOffering, offers}
use Rattle.vhost_c_backend.proofs.Offering.{more}
use Rattle.vhost_c_backend.proofs.clients.offer_all.Goals as goal

pub offers-preserved : goal.offers-preserved
offers-preserved c = record { offering = λ cells is. more c.args.features cells c.offers.counter c.offer_one.new.served (c.in-Ok.ensures (cells ++ offers c.args.features c.offers.counter) (c.offers.invariant.offering cells is)) }

pub returns : goal.returns
returns c cells is =
    let all : c.offers.counter ≡ c.args.count = omega (arith, c.offers-test.false, c.offers.auto.counter-end) in
    subst (λ n. IsOffering (cells ++ offers c.args.features n) c.offers.served) all (c.offers.invariant.offering cells is)

pub returns-in-Err : goal.returns-in-Err
returns-in-Err c cells is = c.in-Err.ensures (cells ++ offers c.args.features c.offers.counter) (c.offers.invariant.offering cells is)
