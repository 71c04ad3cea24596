-- What an act neither brings nor hands out is held still.
use Rattle.std.proofs.Common.{refl}
use Rattle.vhost_c_books.proofs.Keeping.{still}
use Rattle.vhost_c_books.proofs.books.act_once.Goals as goal

pub returns-in-Abandon : goal.returns-in-Abandon
returns-in-Abandon c kind was = still kind c.args.books.now _ was (c.abandon.ensures was.kept) refl refl refl

pub returns-in-Call : goal.returns-in-Call
returns-in-Call c kind was = still kind c.args.books.now _ was (c.call.ensures was.kept) refl refl refl
