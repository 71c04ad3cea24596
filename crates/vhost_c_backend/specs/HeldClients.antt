-- What follows of the calls of a session for the descriptors that came to it.
use Rattle.std.specs.Prelude.{◌≡◌, ◌+◌, ℕ, length, min}
use Rattle.vhost_c_common.specs.Held.{Balances, HoldsNone, IsSettled, claimable, let_go}
use Rattle.vhost_c_backend.specs.Served.{has_call}
use Rattle.vhost_c_backend.specs.declared.held_clients.Books.{Books}
use Rattle.vhost_c_backend.specs.declared.served.Served.{Served}

-- each number came as often as it was claimed, was handed out and is held
abbrev pub IsBalanced : Books → Type 0
IsBalanced b = Balances b.came.items b.claimed.items b.handed.items b.served.held

-- None is held: each number that came was claimed once or handed out once, and none other was.
pub record IsSettledIn (b : Books) : Type 0 where
  pub none : HoldsNone b.served.held
  pub each : IsSettled b.came.items b.claimed.items b.handed.items

-- So many were handed out, as there were or as there was room for, and no call changed.
pub record HandsOn (room n : ℕ) (old new : Served) : Type 0 where
  pub own : claimable new.held ≡ claimable old.held
  pub fewer : length (let_go old.held) ≡ length (let_go new.held) + n
  pub count : n ≡ min (length (let_go old.held)) room
  pub call : has_call new ≡ has_call old
