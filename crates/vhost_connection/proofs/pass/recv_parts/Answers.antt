use Rattle.std.proofs.Common.{◌∙◌}
use Rattle.std.proofs.lemmas.List.{length-take-le}
use Rattle.vhost_connection.specs.Ahead.{way, reads_ahead}
use Rattle.vhost_connection.proofs.Receiving.{parts-short, parts-whole, front-put}
use Rattle.vhost_connection.proofs.pass.recv_parts.Goals as goal

pub returns-then-front-len-clause-got : goal.returns-then-front-len-clause-got
returns-then-front-len-clause-got g c =
    let long = length-take-le c.args.len c.args.text.now c.requires.len in
    let front = front-put c.args.len c.args.text.now c.recv_whole-front.new.room (c.recv_whole-front.auto.room ∙ long) in
    parts-short (reads_ahead g.L.Link.event) (way c.args.source.now) _ c.args.len _ _ _ c.args.room.now c.args.budget c.recv_whole-front.result _ long front c.recv_whole-front.ensures.got c.if-front-len.true

pub returns-clause-got : goal.returns-clause-got
returns-clause-got g c =
    let long = length-take-le c.args.len c.args.text.now c.requires.len in
    let front = front-put c.args.len c.args.text.now c.recv_whole-front.new.room (c.recv_whole-front.auto.room ∙ long) in
    parts-whole (reads_ahead g.L.Link.event) (way c.args.source.now) (way c.recv_whole-front.new.source) (way c.recv_rest-rest.new.source) c.args.len _ _ _ c.args.room.now c.recv_rest-rest.new.room c.args.budget
    c.recv_whole-front.result c.recv_rest-rest.result _ c.requires.some long front c.recv_whole-front.ensures.got c.if-front-len.false c.recv_rest-rest.ensures.got
