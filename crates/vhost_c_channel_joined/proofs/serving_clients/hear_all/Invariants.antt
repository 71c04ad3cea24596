-- So many were heard of.
use Rattle.std.proofs.Common.{◌++◌, List}
use Rattle.vhost_protocol.specs.Stream.{Cell}
use Rattle.vhost_link.specs.declared.plain.PlainHandle.{PlainHandle}
use Rattle.vhost_c_channel_joined.specs.Clients.{IsHearing, acknowledgements}
use Rattle.vhost_c_channel_joined.proofs.serving_clients.hear_all.Given as goal

abbrev pub invariant-changes : goal.invariant-changes
invariant-changes l = record {
  hearing : (cells : List (Cell PlainHandle)) → IsHearing cells l.fn.server → IsHearing (cells ++ acknowledgements l.counter) l.server;
}
