use Rattle.vhost_c.proofs.Naming.{naming}
use Rattle.vhost_c.proofs.clients.names_what_came.Goals as goal

pub returns : goal.returns
returns c = naming c.args.fds.now c.covretin_answer_fd-read.new.fd c.args.text.now c.covretin_ask_postcopy_advise-asked.ensures c.covretin_receive-received.ensures.received c.covretin_take-taken.ensures.taken c.covretin_answer_fd-read.ensures.does
