-- The reply with a table.
use Rattle.std.proofs.Common.{◌∙◌, sym}
use Rattle.vhost_frontend_core.proofs.TakingTable.{size-other, head-other, len-other, table-crowded, table-comes, table-missing}
use Rattle.vhost_frontend_core.proofs.internal.FrontendInternal.recv_table.Goals as goal

pub returns-then-size-count-clause-received : goal.returns-then-size-count-clause-received
returns-then-size-count-clause-received g c = size-other c.args.self.now.session.profile c.args.count c.args.room.now c.recv_reply.new.room c.requires.room _ _ _ _ c.in-Ok.ensures c.if-size-count.true

pub returns-then-head-count-clause-received : goal.returns-then-head-count-clause-received
returns-then-head-count-clause-received g c = head-other c.args.self.now.session.profile c.args.count c.args.room.now c.recv_reply.new.room c.requires.room _ _ _ _ c.in-Ok.ensures c.if-head-count.true

pub returns-then-len-count-clause-received : goal.returns-then-len-count-clause-received
returns-then-len-count-clause-received g c = len-other c.args.self.now.session.profile c.args.count c.args.room.now c.recv_reply.new.room c.requires.room _ _ _ _ c.in-Ok.ensures c.if-len-count.true

pub returns-then-is_some-clause-received : goal.returns-then-is_some-clause-received
returns-then-is_some-clause-received g c =
    table-crowded c.args.self.now.session.profile c.args.count c.args.room.now c.recv_reply.new.room c.requires.room _ _ _ _ c.in-Ok.ensures c.if-size-count.false c.if-head-count.false c.if-len-count.false (sym c.is_some.ensures ∙ c.if-is_some.true)

pub returns-else-is_some-clause-received : goal.returns-else-is_some-clause-received
returns-else-is_some-clause-received g c =
    table-comes c.args.self.now.session.profile c.args.count c.args.room.now c.recv_reply.new.room c.requires.room _ _ _ _ c.in-Ok.ensures c.if-size-count.false c.if-head-count.false c.if-len-count.false (sym c.is_some.ensures ∙ c.if-is_some.false)

pub returns-in-Err-clause-received : goal.returns-in-Err-clause-received
returns-in-Err-clause-received g c = table-missing c.args.self.now.session.profile c.args.count c.args.room.now c.recv_reply.new.room c.requires.room c.in-Err.ensures
