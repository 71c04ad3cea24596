use Rattle.std.proofs.Common.{List, [], ◌∷◌, ◌++◌, sym, subst, ap, arith, append_assoc, ◌∙◌}
use Rattle.std.specs.Vec.Iter.{into_iter_items}
use Rattle.vhost_c.specs.Calls.{Appends}
use Rattle.vhost_c.specs.Program.{IsCalled}
use Rattle.vhost_c.specs.declared.places.ProgramAnswer.{ProgramAnswer}
use Rattle.vhost_c.proofs.Calling.{none-yet, one-more}
use Rattle.vhost_c.proofs.Programs.{calls}
use Rattle.vhost_c.proofs.program.run.Goals as goal

pub loop-call-init : goal.loop-call-init
loop-call-init c = record {
  ran = none-yet IsCalled c.args.answers.now.items c.reserve.new.self.items c.args.session.now.session c.reserve.ensures.items;
  front = sym c.into_iter-call-iterator.ensures.into_iter_gives.0;
  room = let gives = c.into_iter-call-iterator.ensures.into_iter_gives in let all = gives.1 in let room = c.in_ok-reserve.ensures.ok in omega (arith, all, room, c.len.ensures);
}

pub loop-call-preserved : goal.loop-call-preserved
loop-call-preserved c = record {
  ran = subst (λ (xs : List ProgramAnswer). Appends IsCalled (c.loop-call.yielded ++ c.in-Some.call ∷ []) c.args.answers.now.items xs c.args.session.now.session c.make-answer.new.session.session) (sym c.push_reserved.ensures.items)
      (one-more IsCalled c.in-Some.call c.make-answer.result c.loop-call.invariant.ran (calls c.make-answer.ensures));
  front = c.loop-call.invariant.front ∙ ap (λ xs. c.loop-call.yielded ++ xs) c.in-Some.ensures.steps.0 ∙ sym (append_assoc c.loop-call.yielded (c.in-Some.call ∷ []) (into_iter_items c.next.new.self));
  room = let one = c.in-Some.ensures.steps.1 in let room = c.loop-call.invariant.room in omega (arith, one, room, c.push_reserved.ensures.len, c.push_reserved.ensures.capacity);
}
