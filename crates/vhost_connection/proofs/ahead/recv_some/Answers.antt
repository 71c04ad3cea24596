-- A piece of a stream that is read ahead.
use Rattle.std.proofs.Common.{ap, ◌∙◌}
use Rattle.vhost_connection.specs.declared.buffer.Source.{Source}
use Rattle.vhost_connection.specs.Ahead.{waiting}
use Rattle.vhost_connection.proofs.Handing.{waited-as, asked-as, is-empty, not-empty}
use Rattle.vhost_connection.proofs.ahead.recv_some.Goals.{then-is_empty+in_ok-ask, else-is_empty}
use Rattle.vhost_connection.proofs.ahead.recv_some.Goals as goal

pub returns-clause-got : goal.returns-clause-got
returns-clause-got g c = elim c.if-is_empty.branch [
  | then-is_empty+in_ok-ask w ↦
      asked-as g.L.Link.event c.args.source.now.link w.ask.new.link c.if-is_empty.source.link (waiting c.args.source.now.ahead) (waiting w.ask.new.ahead) (waiting c.if-is_empty.source.ahead) _ c.args.room.now c.take_out.new.room _ _ c.take_out.result
      (is-empty _ (w.if-is_empty.ensures {u = tt})) (ap (λ (x : Source _). x.link) w.source-is) (ap (λ (x : Source _). waiting x.ahead) w.source-is) (ap (λ v. v.items) w.list-is) c.take_out.ensures.left (w.in_ok-ask.ensures {u = tt}).asked c.requires.room c.take_out.ensures.count c.take_out.ensures.room
  | else-is_empty w ↦
      waited-as g.L.Link.event c.args.source.now.link c.if-is_empty.source.link (waiting c.args.source.now.ahead) (waiting c.if-is_empty.source.ahead) _ c.args.room.now c.take_out.new.room _ c.take_out.result
      (ap (λ (x : Source _). x.link) w.source-is) (ap (λ (x : Source _). waiting x.ahead) w.source-is) (ap (λ v. v.items) w.list-is ∙ c.requires.list) c.take_out.ensures.left (not-empty _ (w.if-is_empty.ensures {u = tt})) c.requires.room c.take_out.ensures.count c.take_out.ensures.room
]
