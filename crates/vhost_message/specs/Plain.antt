-- The record of one number.
use Rattle.std.specs.Prelude.{◌≡◌, ℕ, ◌<◌, ◌^◌, []}
use Rattle.std.proofs.Common.{ap}
use Rattle.byteorder.specs.Numbers.{little_number-reads_back}
use Rattle.vhost_message.specs.declared.records.plain.VhostUserU64.{VhostUserU64}
use Rattle.vhost_message.specs.Text.{digits, number_at}

-- the record of a number
abbrev pub of_number : ℕ → VhostUserU64
of_number n = record { value = n }

pub u64-reads_back : (v : VhostUserU64) → v.value < 2 ^ 64 → of_number (number_at 0 8 (digits 8 v.value)) ≡ v
u64-reads_back v fits = ap of_number (little_number-reads_back 8 v.value [] fits)
