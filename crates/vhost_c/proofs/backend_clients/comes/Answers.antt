use Rattle.vhost_c_backend.proofs.Three.{coming}
use Rattle.vhost_c.proofs.backend_clients.comes.Goals as goal

pub returns : goal.returns
returns c = λ m memory queue is unmarked waits received read. coming c.args.text.now m memory queue _ is unmarked waits c.covretin_backend_receive-received.ensures.received c.covretin_backend_next-read.ensures.does received read
