-- What is handed out is noted.
use Rattle.std.proofs.Common.{refl, take}
use Rattle.vhost_c_books.proofs.Keeping.{handed}
use Rattle.vhost_c_books.proofs.books.hands_out.Goals as goal

pub returns-in-Ok-clause-balanced : goal.returns-in-Ok-clause-balanced
returns-in-Ok-clause-balanced c kind was =
    let u = c.unclaimed-count in handed kind c.args.books.now _ was (take u.result u.new.place) (u.ensures.moves was.kept) refl refl c.in-Ok.ensures
