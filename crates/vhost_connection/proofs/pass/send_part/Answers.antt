use Rattle.std.proofs.Common.{arith, map}
use Rattle.std.proofs.lemmas.List.{take_rest}
use Rattle.vhost_connection.proofs.Sending.{first-piece, later-piece}
use Rattle.vhost_connection.proofs.pass.send_part.Goals as goal

pub returns-then-count-eq0-clause-part : goal.returns-then-count-eq0-clause-part
returns-then-count-eq0-clause-part g c =
    first-piece g.L.Link.event c.args.link.now c.send.new.self _ (map (λ h. h.now) c.args.handles.now) _ c.send.result c.if-count-eq0.true c.send.ensures.law

pub returns-else-count-eq0-clause-part : goal.returns-else-count-eq0-clause-part
returns-else-count-eq0-clause-part g c =
    later-piece g.L.Link.event c.args.link.now c.send-else-count-eq0.new.self _ _ (map (λ h. h.now) c.args.handles.now) _ c.send-else-count-eq0.result (omega arith)
    c.requires.count (take_rest c.args.bytes.now c.args.count) c.send-else-count-eq0.ensures.law
