use Rattle.std.proofs.Common.{List, ◌++◌, drop, ℕ, refl, sym, ap, ◌∙◌, arith}
use Rattle.vhost_c_channel.specs.Display.{taken, not_taken, no_room}
use Rattle.vhost_c_channel.proofs.display.Display.take_to.Goals as goal

pub returns-then-place-SIZE : goal.returns-then-place-SIZE
returns-then-place-SIZE g c reply sized all = no_room (omega (arith, c.if-place-SIZE.true, c.SIZE.ensures, sized)) refl refl

pub returns-in-Ok : goal.returns-in-Ok
returns-in-Ok g c reply sized all = taken c.in-Ok.record (c.in-Ok.ensures reply sized all)
    (ap (λ (xs : List ℕ). xs ++ drop c.SIZE-in-Ok.result c.args.place.now) c.encode_into.ensures.text ∙ ap (λ (n : ℕ). g.T.ByteValued.text c.in-Ok.record ++ drop n c.args.place.now) (c.SIZE-in-Ok.ensures ∙ sym sized))

pub returns-in-Err : goal.returns-in-Err
returns-in-Err g c reply sized all = not_taken c.in-Err.refusal (omega (arith, c.if-place-SIZE.false, c.SIZE.ensures, sized)) (c.in-Err.ensures reply sized all) refl
