-- What waits behind what was handed on.
use Rattle.std.proofs.Common.{arith}
use Rattle.vhost_connection.proofs.Windows.{behind}
use Rattle.vhost_connection.proofs.buffer.ReadAhead.take_out.Goals.{then-waiting-room, else-waiting-room}
use Rattle.vhost_connection.proofs.buffer.ReadAhead.take_out.Goals as goal

pub returns-clause-left : goal.returns-clause-left
returns-clause-left c = behind c.args.self.now.buffer.items c.args.self.now.start c.args.self.now.end c.if-waiting-room.count (elim c.if-waiting-room.branch [
  | then-waiting-room w ↦ omega (arith, w.count-is)
  | else-waiting-room w ↦ omega (arith, w.count-is, w.if-waiting-room.false)
])
