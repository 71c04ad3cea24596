use Rattle.std.proofs.Common.{◌≡◌, true, take}
use Rattle.std.specs.List.{list_all}
use Rattle.vhost_protocol.specs.Ask.{is_usable}
use Rattle.vhost_frontend_core.specs.Regions.{table_in}
use Rattle.vhost_frontend_core.proofs.regions.are_usable.Given as goal

-- the regions so far are usable
abbrev pub invariant-regions : goal.invariant-regions
invariant-regions g l = list_all is_usable (take l.i (table_in l.regions)) ≡ true
