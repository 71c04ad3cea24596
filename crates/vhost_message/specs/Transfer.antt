-- The numbers of directions and phases of a transfer of the device's state.
use Rattle.std.specs.Prelude.{ℕ, Result, Ok, Err, ⊤, ◌==◌, if◌then◌else◌}
use Rattle.vhost_message.specs.declared.transfer_state.VhostTransferStateDirection.{VhostTransferStateDirection}
use Rattle.vhost_message.specs.declared.transfer_state.VhostTransferStateDirection.TheVariants.{SAVE, LOAD}
use Rattle.vhost_message.specs.declared.transfer_state.VhostTransferStatePhase.{VhostTransferStatePhase}
use Rattle.vhost_message.specs.declared.transfer_state.VhostTransferStatePhase.TheVariants.{STOPPED}

-- the number of a direction
abbrev pub direction_number : VhostTransferStateDirection → ℕ
direction_number SAVE = 0
direction_number LOAD = 1

-- the direction of a number, or that there is none
abbrev pub direction_at : ℕ → Result VhostTransferStateDirection ⊤
direction_at n = if n == 0 then Ok SAVE else if n == 1 then Ok LOAD else Err tt

-- the number of a phase
abbrev pub phase_number : VhostTransferStatePhase → ℕ
phase_number STOPPED = 0

-- the phase of a number, or that there is none
abbrev pub phase_at : ℕ → Result VhostTransferStatePhase ⊤
phase_at n = if n == 0 then Ok STOPPED else Err tt
