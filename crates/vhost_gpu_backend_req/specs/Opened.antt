-- What a channel to a display that many threads share was opened with.
use Rattle.std.specs.Prelude.{◌≡◌, ℕ}
use Rattle.std.specs.Arc.{arc_value}
use Rattle.vhost_gpu_backend_req.specs.declared.backend.GpuBackend.{GpuBackend}

-- It was opened over this link, as that was then, with this retry limit.
abbrev pub IsOver : {L H : Type 0} → GpuBackend L H → L → ℕ → Type 0
IsOver channel link budget = ((arc_value channel.inner).link.value ≡ link) × ((arc_value channel.inner).budget.value ≡ budget)
