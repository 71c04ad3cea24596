-- What a channel to a frontend that many threads share was opened with.
use Rattle.std.specs.Prelude.{◌≡◌, ℕ}
use Rattle.std.specs.Arc.{arc_value}
use Rattle.vhost_backend_req.specs.declared.backend.Backend.{Backend}

-- It was opened over this link, as that was then, with this retry limit.
abbrev pub IsOver : {L H : Type 0} → Backend L H → L → ℕ → Type 0
IsOver channel link budget = ((arc_value channel.inner).link.value ≡ link) × ((arc_value channel.inner).budget.value ≡ budget)
