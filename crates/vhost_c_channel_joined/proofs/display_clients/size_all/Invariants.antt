-- It was given so often.
use Rattle.std.proofs.Common.{◌++◌, List}
use Rattle.vhost_protocol.specs.Stream.{Cell}
use Rattle.vhost_link.specs.declared.plain.PlainHandle.{PlainHandle}
use Rattle.vhost_c_channel_joined.specs.Clients.{IsSizing, sizes}
use Rattle.vhost_c_channel_joined.proofs.display_clients.size_all.Given as goal

abbrev pub invariant-sizes : goal.invariant-sizes
invariant-sizes l = record {
  sizing : (cells : List (Cell PlainHandle)) → IsSizing cells l.fn.display → IsSizing (cells ++ sizes l.counter) l.display;
}
