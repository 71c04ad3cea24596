use Rattle.std.proofs.Common.{◌≡◌, take, map, Some}
use Rattle.vhost_c_common.specs.Records.{handle_in}
use Rattle.vhost_c_common.proofs.records.handles_of.Given as goal

-- the handles so far
abbrev pub invariant-fds : goal.invariant-fds
invariant-fds l = map handle_in (take l.fd-index l.fds) ≡ map Some l.handles.items
