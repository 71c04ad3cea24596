use Rattle.std.proofs.Common.{◌≡◌, take, map, length}
use Rattle.vhost_message.specs.declared.limits.TheConstants.{MAX_MEM_REGIONS}
use Rattle.vhost_protocol.specs.Ask.{handles_in}
use Rattle.vhost_frontend_core.specs.Regions.{table_in}
use Rattle.vhost_frontend_core.proofs.regions.handles_of.Given as goal

-- the handles so far
abbrev pub invariant-regions : goal.invariant-regions
invariant-regions g l = (length l.handles ≡ MAX_MEM_REGIONS) × (map (λ h. h.now) (take l.i l.handles) ≡ handles_in (take l.i (table_in l.regions)))
