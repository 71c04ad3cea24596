-- What is kept of a request, for its answer.
use Rattle.std.specs.Prelude.{◌≡◌, ℕ, List, length, take, ⊤}
use Rattle.vhost_message.specs.declared.records.config.VhostUserConfig.{VhostUserConfig}
use Rattle.vhost_message.specs.declared.records.memory.VhostUserMemoryRegion.{VhostUserMemoryRegion}
use Rattle.vhost_protocol.specs.FrontendCall.{FrontendCall, SetMemTable, GetConfig, AddMemRegion, GetShmemConfig}
use Rattle.vhost_protocol.specs.Ask.{regions_in, config}
use Rattle.vhost_protocol.specs.declared.asked.Awaited.{Awaited}
use Rattle.vhost_protocol.specs.declared.asked.Awaited.TheVariants.{Reply}
use Rattle.vhost_frontend_core.specs.declared.asked.Kept as code
use Rattle.vhost_frontend_core.specs.declared.asked.Kept.TheVariants as kept

-- the regions of a table
abbrev pub KeepsTable : List VhostUserMemoryRegion → code.Kept → Type 0
KeepsTable regions (kept.Table t) = take t.count t.regions.items ≡ regions
KeepsTable regions _ = ⊥

-- a part of the configuration space, and a buffer of so many bytes
abbrev pub KeepsConfig : VhostUserConfig → ℕ → code.Kept → Type 0
KeepsConfig part size (kept.Config asked bytes) = (asked ≡ part) × (length bytes.items ≡ size)
KeepsConfig part size _ = ⊥

-- a place for the regions of shared memory
abbrev pub KeepsPlace : code.Kept → Type 0
KeepsPlace (kept.Place p) = ⊤
KeepsPlace _ = ⊥

-- what the half that takes needs of the half that asked
abbrev pub IsKeptFor : {H : Type 0} → FrontendCall H → Awaited → code.Kept → Type 0
IsKeptFor (AddMemRegion info) asked k = k ≡ kept.Region info.region
IsKeptFor (SetMemTable infos) (Reply shape) k = KeepsTable (regions_in infos) k
IsKeptFor (GetConfig offset size flags buffer) asked k = KeepsConfig (config offset size flags) (length buffer) k
IsKeptFor GetShmemConfig asked k = KeepsPlace k
IsKeptFor _ asked k = ⊤
