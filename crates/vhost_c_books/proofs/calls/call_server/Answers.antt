-- A session that serves is one still.
use Rattle.std.proofs.Common.{refl}
use Rattle.vhost_c_books.proofs.Serving.{acknowledges, alike, answers, nexts, sends}
use Rattle.vhost_c_books.proofs.calls.call_server.Goals as goal

pub returns-in-Send : goal.returns-in-Send
returns-in-Send c is = let r = c.hand_out in sends c.args.session.now r.new.self r.ensures.rest.rest r.ensures.rest.end r.ensures.held is

pub returns-in-Acknowledge : goal.returns-in-Acknowledge
returns-in-Acknowledge c is = acknowledges _ c.args.session.now c.acknowledge.new.self c.acknowledge.ensures is

pub returns-in-Next : goal.returns-in-Next
returns-in-Next c is = nexts c.args.session.now c.next.new.self c.next.result c.next.ensures is

pub returns-in-ReplyNumber : goal.returns-in-ReplyNumber
returns-in-ReplyNumber c is = answers _ c.args.session.now c.reply.new.self c.reply.result c.reply.ensures is

pub returns-in-ReplyErrno : goal.returns-in-ReplyErrno
returns-in-ReplyErrno c is = let r = c.reply-in-ReplyErrno in answers _ c.args.session.now r.new.self r.result r.ensures is

pub returns-in_default : goal.returns-in_default
returns-in_default c is = alike c.args.session.now c.args.session.now refl is
