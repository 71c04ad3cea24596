-- What a memory context holds.
use Rattle.std.specs.Prelude.{List, [], map, take, Option, Some, None}
use Rattle.vhost_message.specs.declared.records.memory.VhostUserMemoryRegion.{VhostUserMemoryRegion}
use Rattle.vhost_frontend.specs.declared.memory_context.VhostUserMemoryContext.{VhostUserMemoryContext}
use Rattle.vhost_frontend.specs.declared.memory_context.Held.{Held}

-- the regions in use
abbrev pub regions_in : {H : Type 0} → Option (Held H) → List VhostUserMemoryRegion
regions_in None = []
regions_in (Some held) = take held.count held.regions

-- the handles in use
abbrev pub handles_in : {H : Type 0} → Option (Held H) → List H
handles_in None = []
handles_in (Some held) = map (λ h. h.now) (take held.count held.handles)

-- its regions, in order
abbrev pub regions_of : {H : Type 0} → VhostUserMemoryContext H → List VhostUserMemoryRegion
regions_of c = regions_in c.held

-- their handles, each at the place of its region
abbrev pub handles_of : {H : Type 0} → VhostUserMemoryContext H → List H
handles_of c = handles_in c.held
