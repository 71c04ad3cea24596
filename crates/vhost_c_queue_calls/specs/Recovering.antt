-- Why a recovery of what was in flight is refused.
use Rattle.std.specs.Prelude.{◌≡◌, ◌≢◌, ◌<◌, ◌⊎◌, ℕ, Bool, List, length, Result, Ok, Err}
use Rattle.vhost_queue.specs.Inflight.{pending}
use Rattle.vhost_queue.specs.declared.error.Error.{Error}
use Rattle.vhost_queue.specs.declared.error.Error.TheVariants.{InvalidInflight, OutOfMemory}
use Rattle.vhost_queue.specs.declared.inflight.InflightEntry.{InflightEntry}
use Rattle.vhost_queue.specs.declared.inflight.Resubmit.{Resubmit}
use Rattle.vhost_c_queue.specs.Number.{number}
use Rattle.vhost_c_queue.specs.declared.refusal.Refusal.TheVariants.{Queue, NoRoom}

-- the places of the caller do not have a mark for each entry, or have too few for the requests that are to be taken again
abbrev pub LackRoom : List InflightEntry → List Bool → List Bool → List Resubmit → Type 0
LackRoom es found marks again = (length marks ≢ length es) ⊎ (length again < length (pending es found 0))

-- By which number, where r is found of the entries: the region is not that of the queue; it is, and there is no room for what it says; or memory
-- was refused.
abbrev pub RefusesRecovery : List InflightEntry → Result (List Bool) Error → List Bool → List Resubmit → ℕ → Type 0
RefusesRecovery es r marks again n =
    ((n ≡ number (Queue InvalidInflight)) × (r ≡ Err InvalidInflight))
    ⊎ ((n ≡ number NoRoom) × (found : List Bool) × (r ≡ Ok found) × LackRoom es found marks again)
    ⊎ (n ≡ number (Queue OutOfMemory))
