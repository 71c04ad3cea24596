-- How much room an answer needs.
use Rattle.std.specs.Prelude.{ℕ, ◌≤◌, length, Some, Result, Ok}
use Rattle.vhost_protocol.specs.Error.{Error}
use Rattle.vhost_protocol.specs.FrontendCall.{FrontendCall, SetMemTable, GetConfig, GetShmemConfig, Value, Bases, ConfigOf, ShmemOf}

-- how many places of regions an answer lists
abbrev pub bases_in : {H : Type 0} → Result (Value H) Error → ℕ
bases_in (Ok (Bases (Some bases))) = length bases
bases_in _ = 0

-- how many bytes of the configuration space it lists
abbrev pub bytes_in : {H : Type 0} → Result (Value H) Error → ℕ
bytes_in (Ok (ConfigOf part bytes)) = length bytes
bytes_in _ = 0

-- whether it is the record of shared memory, which has a place of its own
abbrev pub records_in : {H : Type 0} → Result (Value H) Error → ℕ
records_in (Ok (ShmemOf config)) = 1
records_in _ = 0

-- how many regions a call has
abbrev pub regions_in : {H : Type 0} → FrontendCall H → ℕ
regions_in (SetMemTable infos) = length infos
regions_in _ = 0

-- how many bytes the buffer has that the answer fills
abbrev pub buffer_in : {H : Type 0} → FrontendCall H → ℕ
buffer_in (GetConfig offset size flags buffer) = length buffer
buffer_in _ = 0

-- whether the call asks for that record
abbrev pub records_for : {H : Type 0} → FrontendCall H → ℕ
records_for GetShmemConfig = 1
records_for _ = 0

-- the lists of an answer are no longer than those of its call, and what has a place of its own answers the call that asks for it
abbrev pub IsListedFor : {H : Type 0} → FrontendCall H → Result (Value H) Error → Type 0
IsListedFor call result = (bases_in result ≤ regions_in call) × (bytes_in result ≤ buffer_in call) × (records_in result ≤ records_for call)
