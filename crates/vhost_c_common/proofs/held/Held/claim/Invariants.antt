-- Nothing changed, and it's none of those before.
use Rattle.std.proofs.Common.{◌≡◌, ◌<◌, ℕ, ℤ, get_or}
use Rattle.vhost_c_common.proofs.held.Held.claim.Given as goal

abbrev pub invariant-own : goal.invariant-own
invariant-own l = record {
  same : l.self ≡ l.fn.self;
  others : (k : ℕ) (d : ℤ) → k < l.i → ¬ (get_or l.fn.self.own.items k d ≡ l.fn.fd);
}
