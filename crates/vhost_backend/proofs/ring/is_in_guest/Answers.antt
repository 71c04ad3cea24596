use Rattle.std.proofs.Common.{◌≡◌, ℕ, ◌<◌, ◌+◌, ◌^◌, Bool, ◌&&◌, nat_lt, nat_le, arith, rules, tests}
use Rattle.std.proofs.lemmas.Bool.Decides.{nat_tests}
use Rattle.std.proofs.lemmas.Iterator.{YieldsList-from_slice}
use Rattle.std.proofs.lemmas.Iterator.Search.{any_from_yields_List}
use Rattle.vhost_backend.proofs.ring.is_in_guest.Goals as goal

-- an address of 64 bits needs no test of its size
fitting : (a : ℕ) (r found : Bool) → a < 2 ^ 64 → r ≡ found → r ≡ (nat_lt a (2 ^ 64) && found)
fitting a r found small e = grind (arith, nat_tests)

pub returns : goal.returns
returns c =
    let a = c.args.address in
    fitting a c.any.result _ c.ranges.address.fits
    (any_from_yields_List (λ range. nat_le range.0 a && nat_lt a (range.0 + range.1)) _ _ _ c.any.ensures.ran
    (YieldsList-from_slice c.args.ranges.now cc) (λ x b q k. search (rules, tests)))
