-- One more exchange was right, and none is wrong.
use Rattle.std.proofs.Common.{◌≤◌, length, arith}
use Rattle.vhost_c_joined.proofs.Serving.{next-of, over-right, same-halt, starts}
use Rattle.vhost_c_joined.proofs.judged.judged_all.Goals as goal

pub exchanges-init : goal.exchanges-init
exchanges-init c = record { right = λ bit steps f f' b b' run ready memory. starts bit steps c.args.exchanges.now f f' b b' c.args.judge.now run ready memory }

pub returns-in-Ok-false : goal.returns-in-Ok-false
returns-in-Ok-false c bit steps f f' b b' run ready memory =
    let n = next-of bit c.args.exchanges.now c.exchanges.i c.exchanges-test.true f' b' c.exchanges.judge (c.exchanges.invariant.right bit steps f f' b b' run ready memory) in
    let found = c.in-Ok-false.ensures bit n.call n.reply n.front n.mid n.back n.next n.in_step n.proper n.given n.sized n.seen n.ready n.memory in
    absurd (cc found.0)

pub returns-in-Err : goal.returns-in-Err
returns-in-Err c bit steps f f' b b' run ready memory =
    let n = next-of bit c.args.exchanges.now c.exchanges.i c.exchanges-test.true f' b' c.exchanges.judge (c.exchanges.invariant.right bit steps f f' b b' run ready memory) in
    same-halt n.next b' c.judged_one.new.judge c.in-Err.halt (c.in-Err.ensures bit n.call n.reply n.front n.mid n.back n.next n.in_step n.proper n.given n.sized n.seen n.ready n.memory)

pub exchanges-preserved : goal.exchanges-preserved
exchanges-preserved c = record {
  right = λ bit steps f f' b b' run ready memory.
      let n = next-of bit c.args.exchanges.now c.exchanges.i c.exchanges-test.true f' b' c.exchanges.judge (c.exchanges.invariant.right bit steps f f' b b' run ready memory) in
      let found = c.in-Ok-true.ensures bit n.call n.reply n.front n.mid n.back n.next n.in_step n.proper n.given n.sized n.seen n.ready n.memory in
      n.later c.judged_one.new.judge found.2 found.1;
}

pub returns : goal.returns
returns c bit steps f f' b b' run ready memory = over-right bit c.args.exchanges.now c.exchanges.i (let all : length c.args.exchanges.now ≤ c.exchanges.i = omega (arith, c.exchanges-test.false) in all) f' b' c.exchanges.judge (c.exchanges.invariant.right bit steps f f' b b' run ready memory)
