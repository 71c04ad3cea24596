-- A message went out, or none did.
use Rattle.std.proofs.Common.{◌==◌, List, ℕ, length, ap, ◌∙◌}
use Rattle.vhost_c_joined.proofs.Serving.{empty-of, some-of}
use Rattle.vhost_c_joined.proofs.Verdicts.{finds-by, unsent-right, went-so}
use Rattle.vhost_c_joined.proofs.judged.judged_one.Goals as goal

pub returns-then-is_empty : goal.returns-then-is_empty
returns-then-is_empty c bit call r f f' b b' steps proper given sized seen ready memory =
    let u = unsent-right bit call r c.args.exchange f f' b b' c.args.judge.now steps proper given sized seen ready memory (empty-of c.args.exchange.request.now c.if-is_empty.ensures) in
    (c.is_empty-then-is_empty.ensures ∙ ap (λ (xs : List ℕ). length xs == 0) u.0, u.1, ready)

pub returns : goal.returns
returns c bit call r f f' b b' steps proper given sized seen ready memory =
    let w = went-so bit call r c.args.exchange f f' b b' c.args.judge.now steps proper given sized seen ready memory (some-of c.args.exchange.request.now c.if-is_empty.ensures) in
    finds-by bit call r c.args.exchange f f' b b' c.args.judge.now steps proper given sized seen ready memory w c.judged.result c.judged.new.judge (c.judged.ensures w.w w.request)
