use Rattle.std.proofs.Common.{◌≤◌, ◌++◌, ◌≡◌, min, length, drop, take, arith, ap, subst, sym, ◌∙◌}
use Rattle.std.proofs.lemmas.List.{length-take, take-append-le}
use Rattle.vhost_link.specs.Cuts.{Gives}
use Rattle.vhost_link.specs.Mem.{piece}
use Rattle.vhost_link.proofs.Handing.{behind, hands, handed-is}
use Rattle.vhost_link.proofs.mem.MemLinkLink.recv.Goals as goal

pub returns-clause-law : goal.returns-clause-law
returns-clause-law c =
    let n = c.get.result in
    let most = c.in_ok-most.most in
    let room = c.args.room.now in
    let is = c.self.view_is in
    let cut = c.in_ok-most.ensures.within c.requires.room in
    let part : length (take most room) ≡ most = omega (arith, cut.1, length-take most room) in
    let long : length c.get.new.room ≡ most = omega (arith, c.get.auto.room, part) in
    let few : n ≤ most = omega (arith, c.get.ensures.count, part) in
    let front : take n (c.get.new.room ++ drop most room) ≡ take n c.get.new.room = take-append-le n c.get.new.room (drop most room) (omega arith) in (
      omega (arith, cut.1),
      behind n most room c.get.new.room cut.1 long (omega arith) c.get.ensures.rest,
      hands c.args.self.now _ n most c.get.new.handles.items (take n (c.get.new.room ++ drop most room)) (take n c.get.new.room)
          (c.get.ensures.count ∙ ap (λ k. min k (length (piece c.self.inside.pending))) part ∙ ap (λ e. min most (length (piece e.pending))) is)
          cut.0
          (subst (λ s. Gives s most) (ap (λ e. e.script) is) c.in_ok-most.ensures.gives)
          front
          (omega (arith, length-take n c.get.new.room))
          (sym (ap (λ e. e.pending) is) ∙ c.get.ensures.got)
          (handed-is c.args.self.now _ (ap (λ e. e.sent) is) (c.next_cut.ensures.rest ∙ ap (λ e. drop 1 e.script) is) (ap (λ e. e.wants) is))
          c.get.ensures.few
          c.get.ensures.none,
    )
