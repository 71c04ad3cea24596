-- One more call was done, or none is left, or one was not done.
use Rattle.std.proofs.Common.{◌≡◌, ◌<◌, ◌+◌, ℕ, suc, List, [], ◌∷◌, drop, get_or, drop-cons, length, refl, ap, subst, ◌∙◌, arith}
use Rattle.std.proofs.lemmas.List.{drop_all}
use Rattle.vhost_frontend_core.specs.Values.{call_of}
use Rattle.vhost_frontend_core.specs.declared.values.call.FrontendCall as code
use Rattle.vhost_c_backend.specs.declared.replies.Reply.{Reply}
use Rattle.vhost_c_backend.specs.declared.replies.Reply.TheVariants as reply
use Rattle.vhost_c_joined.specs.Joined.{AreAllowed, steps_of}
use Rattle.vhost_c_joined.proofs.Running.{ends, goes-on, halts, next-step, no-call, no-reply}
use Rattle.vhost_c_joined.proofs.joined.joined_calls.Goals as goal

dropped : (xs : List Reply) (i : ℕ) → i < length xs → drop i xs ≡ get_or xs i reply.Done ∷ drop (i + 1) xs
dropped xs i within = let next : suc i ≡ i + 1 = omega arith in drop-cons xs i reply.Done within ∙ ap (λ n. get_or xs i reply.Done ∷ drop n xs) next

pub returns-in-None : goal.returns-in-None
returns-in-None c bit steps allowed =
    ends bit (steps_of c.args.calls.now.items c.args.replies.now) (steps_of c.calls.calls.items (drop c.calls.i c.args.replies.now)) c.args.front.now c.args.back.now c.calls.front c.calls.back steps
    (no-call c.calls.calls.items (drop c.calls.i c.args.replies.now) (none c.calls.calls.items c.pop_front.new.self.items c.in-None.ensures.items c.in-None.ensures.rest)) (c.calls.invariant.going bit steps allowed)
  where
    none : (cs rest : List code.FrontendCall) → cs ≡ rest → rest ≡ drop 1 cs → cs ≡ []
    none [] rest same is = refl
    none (c ∷ cs) rest same is = absurd (longer (length cs) (ap (λ (xs : List code.FrontendCall). length xs) (same ∙ is)))
      where
        longer : (n : ℕ) → suc n ≡ n → ⊥
        longer n is = omega arith

pub returns-in-Err : goal.returns-in-Err
returns-in-Err c bit steps allowed =
    let going = c.calls.invariant.going bit steps allowed in
    let r = get_or c.args.replies.now c.calls.i reply.Done in
    let next = next-step c.calls.calls.items c.pop_front.new.self.items (drop c.calls.i c.args.replies.now) (drop (c.calls.i + 1) c.args.replies.now) c.in-Some.call r c.in-Some.ensures.items (dropped c.args.replies.now c.calls.i c.calls-test.true) in
    let a = subst (λ xs. AreAllowed bit xs) next going.allowed in
    halts bit (steps_of c.args.calls.now.items c.args.replies.now) (steps_of c.calls.calls.items (drop c.calls.i c.args.replies.now)) (steps_of c.pop_front.new.self.items (drop (c.calls.i + 1) c.args.replies.now)) (call_of c.in-Some.call, r) c.args.front.now c.args.back.now c.calls.front c.calls.back c.joined_call.new.front c.joined_call.new.back c.in-Err.halt
    steps next going (c.in-Err.ensures bit going.in_step a.0 a.1 a.2 a.3)

pub calls-preserved : goal.calls-preserved
calls-preserved c = record {
  going = λ bit steps allowed.
      let going = c.calls.invariant.going bit steps allowed in
      let r = get_or c.args.replies.now c.calls.i reply.Done in
      let next = next-step c.calls.calls.items c.pop_front.new.self.items (drop c.calls.i c.args.replies.now) (drop (c.calls.i + 1) c.args.replies.now) c.in-Some.call r c.in-Some.ensures.items (dropped c.args.replies.now c.calls.i c.calls-test.true) in
      let a = subst (λ xs. AreAllowed bit xs) next going.allowed in
      goes-on bit (steps_of c.args.calls.now.items c.args.replies.now) (steps_of c.calls.calls.items (drop c.calls.i c.args.replies.now)) (steps_of c.pop_front.new.self.items (drop (c.calls.i + 1) c.args.replies.now)) (call_of c.in-Some.call, r) c.args.front.now c.args.back.now c.calls.front c.calls.back c.joined_call.new.front c.joined_call.new.back c.in-Ok.field-0
      next going (c.in-Ok.ensures bit going.in_step a.0 a.1 a.2 a.3);
}

pub returns : goal.returns
returns c bit steps allowed =
    ends bit (steps_of c.args.calls.now.items c.args.replies.now) (steps_of c.calls.calls.items (drop c.calls.i c.args.replies.now)) c.args.front.now c.args.back.now c.calls.front c.calls.back steps
    (no-reply c.calls.calls.items (drop c.calls.i c.args.replies.now) (drop_all c.calls.i c.args.replies.now c.calls-test.false)) (c.calls.invariant.going bit steps allowed)
