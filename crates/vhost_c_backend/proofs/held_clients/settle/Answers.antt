-- What is given up may not be claimed; where none is handed out any more, none is held.
use Rattle.std.proofs.Common.{◌≡◌, length, sym, ap, ◌∙◌, arith}
use Rattle.vhost_c_common.proofs.Balancing.{settled}
use Rattle.vhost_c_common.specs.Held.{HoldsNone, let_go}
use Rattle.vhost_c_backend.specs.Served.{has_call}
use Rattle.vhost_c_backend.specs.declared.served.Served.{Served}
use Rattle.vhost_c_backend.proofs.Keeping.{abandoned, given-up, none-left}
use Rattle.vhost_c_backend.proofs.held_clients.settle.Goals as goal

pub loop-refusal-init : goal.loop-refusal-init
loop-refusal-init c = record {
  balanced = λ was. abandoned c.args.books.now.came.items c.args.books.now.claimed.items c.args.books.now.handed.items c.args.books.now.served.held c.abandon.new.self.held was (has_call c.args.books.now.served) c.abandon.ensures.abandoned;
  own = λ idle. given-up (has_call c.args.books.now.served) c.args.books.now.served.held c.abandon.new.self.held c.abandon.ensures.abandoned (sym (ap {A = Served} has_call c.abandon.ensures.rest) ∙ idle);
}

pub loop-refusal-preserved : goal.loop-refusal-preserved
loop-refusal-preserved c = record {
  balanced = λ was. c.in-Ok.ensures.balanced (c.loop-refusal.invariant.balanced was);
  own = λ idle. c.in-Ok.ensures.handed.own ∙ c.loop-refusal.invariant.own (sym c.in-Ok.ensures.handed.call ∙ idle);
}

pub returns-in-Ok-eq0 : goal.returns-in-Ok-eq0
returns-in-Ok-eq0 c was idle =
    let h = c.hands_out.new.books.served.held in
    let gone : length (let_go h) ≡ 0 = omega (arith, c.in-Ok-eq0.ensures.handed.count, c.in-Ok-eq0.ensures.handed.fewer, c.in-Ok-eq0.field-0-is) in
    let none : HoldsNone h = record { own = c.in-Ok-eq0.ensures.handed.own ∙ c.loop-refusal.invariant.own (sym c.in-Ok-eq0.ensures.handed.call ∙ idle); loose = none-left (let_go h) gone } in
    record {
      none = none;
      each = settled c.hands_out.new.books.came.items c.hands_out.new.books.claimed.items c.hands_out.new.books.handed.items h (c.in-Ok-eq0.ensures.balanced (c.loop-refusal.invariant.balanced was)) none;
    }
