use Rattle.std.proofs.Common.{arith, sym, ◌∙◌}
use Rattle.vhost_connection.specs.Ahead.{way, reads_ahead}
use Rattle.vhost_connection.proofs.Receiving.{gets-more, room-stays, reads-start, reads-more-some, reads-more-none, reads-again, reads-end, reads-fault, some-list, no-list}
use Rattle.vhost_connection.proofs.pass.recv_rest.Goals as goal
use Rattle.vhost_connection.proofs.pass.recv_rest.Goals.{then-not-is_retry-via-then-not-is_retry, then-not-is_retry-via-else-not-is_retry+then-left-eq0}

pub loop-count-init : goal.loop-count-init
loop-count-init g c = (reads-start _ _ _ _, c.requires.list, omega arith)

pub returns-in-Ok-eq0-clause-got : goal.returns-in-Ok-eq0-clause-got
returns-in-Ok-eq0-clause-got g c = reads-end c.loop-count.invariant.0 (gets-more (reads_ahead g.L.Link.event) (way c.loop-count.source) (way c.recv_some.new.source) c.loop-count.room c.recv_some.new.room c.loop-count.count c.in-Ok-eq0.field-0 c.recv_some.new.list.items c.loop-count-test.true c.recv_some.auto.room c.in-Ok-eq0.ensures.got) c.in-Ok-eq0.field-0-test c.loop-count-test.true

pub loop-count-preserved-then-not-is_empty : goal.loop-count-preserved-then-not-is_empty
loop-count-preserved-then-not-is_empty g c =
    let list = c.recv_some.new.list in
    let came = gets-more (reads_ahead g.L.Link.event) (way c.loop-count.source) (way c.recv_some.new.source) c.loop-count.room c.recv_some.new.room c.loop-count.count c.in-Ok.n list.items c.loop-count-test.true c.recv_some.auto.room c.in-Ok.ensures.got in
    let some = some-list list.items list.len _ list.ok.0 c.is_empty.ensures c.if-not-is_empty.true in
    (reads-more-some c.loop-count.invariant.0 came (omega (arith, c.in-Ok.n-test)) some, c.clear.ensures.items, omega arith)

pub loop-count-preserved-else-not-is_empty : goal.loop-count-preserved-else-not-is_empty
loop-count-preserved-else-not-is_empty g c =
    let list = c.recv_some.new.list in
    let came = gets-more (reads_ahead g.L.Link.event) (way c.loop-count.source) (way c.recv_some.new.source) c.loop-count.room c.recv_some.new.room c.loop-count.count c.in-Ok.n list.items c.loop-count-test.true c.recv_some.auto.room c.in-Ok.ensures.got in
    let none = no-list list.items list.len _ list.ok.0 c.is_empty.ensures c.if-not-is_empty.false in
    (reads-more-none c.loop-count.invariant.0 came (omega (arith, c.in-Ok.n-test)) none, none, omega arith)

pub returns-then-not-is_retry-clause-got : goal.returns-then-not-is_retry-clause-got
returns-then-not-is_retry-clause-got g c =
    let refused = c.in-Err.ensures.got in
    let stays = room-stays c.loop-count.room c.recv_some.new.room c.loop-count.count c.loop-count-test.true refused.1 in
    reads-fault c.in-Err.cause c.loop-count.invariant.0 refused.0 stays c.loop-count-test.true (elim c.then-not-is_retry.branch [
      | then-not-is_retry-via-then-not-is_retry w ↦ λ h. absurd cc
      | then-not-is_retry-via-else-not-is_retry+then-left-eq0 w ↦ λ h. omega arith
    ])

pub loop-count-preserved : goal.loop-count-preserved
loop-count-preserved g c =
    let refused = c.in-Err.ensures.got in
    let stays = room-stays c.loop-count.room c.recv_some.new.room c.loop-count.count c.loop-count-test.true refused.1 in
    (reads-again c.in-Err.cause c.loop-count.invariant.0 refused.0 (sym c.is_retry.ensures ∙ c.if-not-is_retry.false) (omega arith) stays, refused.2, omega arith)
