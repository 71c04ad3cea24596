-- What is given up may not be claimed; where none is handed out any more, none is held.
use Rattle.std.proofs.Common.{refl, arith, ◌∙◌}
use Rattle.vhost_c_books.proofs.Keeping.{all-settled, still}
use Rattle.vhost_c_books.proofs.books.settle.Goals as goal

pub loop-refusal-init : goal.loop-refusal-init
loop-refusal-init c = record {
  balanced = λ kind was. still kind c.args.books.now _ was (c.end.ensures.moves was.kept) refl refl refl;
  own = c.end.ensures.own;
}

pub loop-refusal-preserved : goal.loop-refusal-preserved
loop-refusal-preserved c = record {
  balanced = λ kind was. c.in-Ok.ensures.balanced kind (c.loop-refusal.invariant.balanced kind was);
  own = λ kept. c.in-Ok.ensures.handed.own ∙ c.loop-refusal.invariant.own kept;
}

pub returns-in-Ok-eq0 : goal.returns-in-Ok-eq0
returns-in-Ok-eq0 c kind was =
    all-settled kind c.loop-refusal.books.session _ _ c.in-Ok-eq0.field-0 (c.in-Ok-eq0.ensures.balanced kind (c.loop-refusal.invariant.balanced kind was)) (c.loop-refusal.invariant.own was.kept) c.in-Ok-eq0.ensures.handed (omega arith) (omega arith)
