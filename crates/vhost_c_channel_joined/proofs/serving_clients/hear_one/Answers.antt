-- A change is heard of.
use Rattle.vhost_c_channel_joined.proofs.Noticing.{heard, read, taken, unread-wants, untold}
use Rattle.vhost_c_channel_joined.proofs.serving_clients.hear_one.Goals as goal

pub returns-in-Ok-eq2 : goal.returns-in-Ok-eq2
returns-in-Ok-eq2 c cells is =
    let has = taken cells c.args.server.now is c.receive.new.self c.in-Ok.ensures.received in
    heard cells c.next.new.self c.reply.new.self (read cells c.in-Ok-eq2.field-0 c.receive.new.self c.next.new.self has c.in-Ok-eq2.ensures).0 c.reply.result c.reply.ensures

pub returns-in-Ok-next : goal.returns-in-Ok-next
returns-in-Ok-next c cells is =
    let has = taken cells c.args.server.now is c.receive.new.self c.in-Ok.ensures.received in
    c.in-Ok-next.field-0-test.1 (read cells c.in-Ok-next.field-0 c.receive.new.self c.next.new.self has c.in-Ok-next.ensures).1

pub returns-in-Err-next : goal.returns-in-Err-next
returns-in-Err-next c cells is = unread-wants c.talks_law.ensures.talks cells c.receive.new.self c.next.new.self c.in-Err-next.refusal (taken cells c.args.server.now is c.receive.new.self c.in-Ok.ensures.received) c.in-Err-next.ensures

pub returns-in-Err : goal.returns-in-Err
returns-in-Err c cells is = untold cells c.args.server.now is c.in-Err.refusal c.in-Err.ensures.reason
