-- What waits behind what was forgotten.
use Rattle.std.proofs.Common.{◌-◌, drop, arith}
use Rattle.std.proofs.lemmas.List.{length-take}
use Rattle.vhost_connection.proofs.Windows.{behind}
use Rattle.vhost_connection.proofs.buffer.ReadAhead.skip.Goals as goal

pub returns : goal.returns
returns c =
    let a = c.args.self.now in
    behind a.buffer.items a.start a.end c.args.count (omega (arith, c.requires, length-take (a.end - a.start) (drop a.start a.buffer.items)))
