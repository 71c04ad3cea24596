-- A piece came over, or there is none.
use Rattle.std.proofs.Common.{◌≡◌, ◌≤◌, ℕ, ℤ, List, length, take, refl, subst, sym, arith}
use Rattle.vhost_message.specs.declared.limits.TheConstants.{MAX_ATTACHED_FD_ENTRIES}
use Rattle.vhost_c_channel.specs.Asking as asking
use Rattle.vhost_c_channel.specs.Serving as serving
use Rattle.vhost_c_channel_joined.proofs.Pieces.{roomy, silent, stepped, wants, take-capped, take-few}
use Rattle.vhost_c_channel_joined.proofs.wire.reply_piece.Goals as goal

within : (a b m : ℕ) {k : ℕ} → a ≡ b → b ≤ m → m ≡ k → a ≤ k
within a b m is few same = omega arith

few-handed : (fds taken : List ℤ) (n : ℕ) → taken ≡ take n fds → length fds ≤ MAX_ATTACHED_FD_ENTRIES → length taken ≤ MAX_ATTACHED_FD_ENTRIES
few-handed fds taken n is few = subst (λ xs. length xs ≤ MAX_ATTACHED_FD_ENTRIES) (sym is) (take-few n MAX_ATTACHED_FD_ENTRIES fds few)

pub returns-then-count-eq0 : goal.returns-then-count-eq0
returns-then-count-eq0 c cells told on = (
  silent cells (serving.view c.args.from.now) (serving.view c.hand_out.new.self) (asking.view c.args.to.now) on c.hand_out.new.bytes c.hand_out.new.fds _ (omega (arith, c.hand_out.auto.bytes, c.requires.some)) c.in-Ok.ensures.out
      (asking.missing_for c.args.to.now.asked) told (within _ _ _ c.hand_out.auto.bytes c.requires.few refl) c.if-count-eq0.true,
  record { hands = c.hand_out.ensures.rest; waits = record { queue = refl; end = refl; rest = refl } },
)

pub returns-in-Ok-receive : goal.returns-in-Ok-receive
returns-in-Ok-receive c cells told on =
    stepped cells (serving.view c.args.from.now) (serving.view c.hand_out.new.self) (asking.view c.args.to.now) on c.hand_out.new.bytes c.hand_out.new.fds _ (omega (arith, c.hand_out.auto.bytes, c.requires.some)) c.in-Ok.ensures.out
    (asking.missing_for c.args.to.now.asked) (asking.view c.receive.new.self) _ _ _ (omega (arith, c.if-count-eq0.false)) c.hand_out.ensures.rest (take-capped _ _ _ c.min-count.ensures) c.handed.ensures c.in-Ok-receive.ensures.received

pub returns-in-Err-receive : goal.returns-in-Err-receive
returns-in-Err-receive c cells told on = (
  wants cells (serving.view c.args.from.now) (serving.view c.hand_out.new.self) (asking.view c.args.to.now) on c.hand_out.new.bytes c.hand_out.new.fds _ (omega (arith, c.hand_out.auto.bytes, c.requires.some)) c.in-Ok.ensures.out
      _ _ _ _ (omega (arith, c.if-count-eq0.false)) (take-capped _ _ _ c.min-count.ensures) c.handed.ensures (take-few c.min-count.result _ c.hand_out.new.bytes (within _ _ _ c.hand_out.auto.bytes c.requires.few refl)) (few-handed c.hand_out.new.fds _ _ c.handed.ensures (omega (arith, c.hand_out.auto.fds))) c.in-Err-receive.ensures.reason,
  record { hands = c.hand_out.ensures.rest; waits = c.in-Err-receive.ensures.received.2 },
)

pub returns-in-Err : goal.returns-in-Err
returns-in-Err c cells told on = absurd (roomy c.hand_out.new.bytes c.hand_out.new.fds _ (omega (arith, c.hand_out.auto.bytes, c.requires.some)) (omega (arith, c.hand_out.auto.fds)) c.in-Err.ensures.reason)
