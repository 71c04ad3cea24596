use Rattle.vhost_c_backend.proofs.Keeping.{balanced-first}
use Rattle.vhost_c_backend.proofs.held_clients.keeps_books.Goals as goal

pub returns-in-Ok-act_all : goal.returns-in-Ok-act_all
returns-in-Ok-act_all c = c.in-Ok-act_all.ensures (balanced-first _ _ _ c.in-Ok.served.held c.new-in-Ok.ensures.items c.new-in-Ok-2.ensures.items c.new-in-Ok-3.ensures.items c.in-Ok.ensures.new.held)
