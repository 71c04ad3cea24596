-- One more call was done, or none is left, or one was not done.
use Rattle.std.proofs.Common.{◌≡◌, ◌≤◌, ◌+◌, ℕ, length, subst, ◌∙◌, arith}
use Rattle.vhost_protocol.specs.IoError.{seen_io_result}
use Rattle.vhost_backend_req.specs.Halves.{input_of}
use Rattle.vhost_c_channel_joined.specs.Joined.{AreMade, entries}
use Rattle.vhost_c_channel_joined.proofs.Running.{ends, goes-on, halts, next-entry, none-left, one-less, stops}
use Rattle.vhost_c_channel_joined.proofs.joined.joined_channel_calls.Goals as goal

pub returns-then-done : goal.returns-then-done
returns-then-done c in-step allowed =
    let going = c.calls.invariant.going in-step allowed in
    let next = next-entry c.calls.calls.items c.pop_front.new.self.items (c.in-Some.call, c.in-Some.answer) c.in-Some.ensures.items in
    stops (entries c.args.calls.now.items) (entries c.calls.calls.items) (entries c.pop_front.new.self.items) (input_of c.in-Some.call, seen_io_result c.in-Some.answer) c.args.asker.now c.args.server.now c.calls.asker c.calls.server c.joined_channel_call.new.asker c.joined_channel_call.new.server
    c.in-Ok.done in-step next c.if-done.true going (c.in-Ok.ensures going.in_step (subst (λ xs. AreMade xs) next going.allowed).0)

pub returns-in-Err : goal.returns-in-Err
returns-in-Err c in-step allowed =
    let going = c.calls.invariant.going in-step allowed in
    let next = next-entry c.calls.calls.items c.pop_front.new.self.items (c.in-Some.call, c.in-Some.answer) c.in-Some.ensures.items in
    halts (entries c.args.calls.now.items) (entries c.calls.calls.items) (entries c.pop_front.new.self.items) (input_of c.in-Some.call, seen_io_result c.in-Some.answer) c.args.asker.now c.args.server.now c.calls.asker c.calls.server c.joined_channel_call.new.asker c.joined_channel_call.new.server
    c.in-Err.halt in-step next going (c.in-Err.ensures going.in_step (subst (λ xs. AreMade xs) next going.allowed).0)

pub calls-preserved : goal.calls-preserved
calls-preserved c = record {
  going = λ in-step allowed.
      let going = c.calls.invariant.going in-step allowed in
      let next = next-entry c.calls.calls.items c.pop_front.new.self.items (c.in-Some.call, c.in-Some.answer) c.in-Some.ensures.items in
      goes-on (entries c.args.calls.now.items) (entries c.calls.calls.items) (entries c.pop_front.new.self.items) (input_of c.in-Some.call, seen_io_result c.in-Some.answer) c.args.asker.now c.args.server.now c.calls.asker c.calls.server c.joined_channel_call.new.asker c.joined_channel_call.new.server
      c.in-Ok.done next c.if-done.false going (c.in-Ok.ensures going.in_step (subst (λ xs. AreMade xs) next going.allowed).0);
  left = one-less c.calls.calls.items c.pop_front.new.self.items (c.in-Some.call, c.in-Some.answer) c.calls.counter (length c.args.calls.now.items) c.in-Some.ensures.items c.calls.invariant.left;
}

pub returns : goal.returns
returns c in-step allowed =
    ends (entries c.args.calls.now.items) (entries c.calls.calls.items) c.args.asker.now c.args.server.now c.calls.asker c.calls.server in-step
    (none-left c.calls.calls.items (few c.calls.counter c.len-count.result (length c.calls.calls.items) (length c.args.calls.now.items) (c.len-count.ensures ∙ c.args.calls.now.ok.0) c.calls-test.false c.calls.invariant.left)) (c.calls.invariant.going in-step allowed)
  where
    few : (counter count left all : ℕ) → count ≡ all → count ≤ counter → left + counter ≡ all → left ≡ 0
    few counter count left all is end both = omega (arith, is, end, both)
