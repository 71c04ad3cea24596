use Rattle.std.proofs.Common.{◌≡◌, ◌≤◌, ℕ, refl, arith}
use Rattle.vhost_message.specs.declared.limits.TheConstants.{MAX_ATTACHED_FD_ENTRIES}
use Rattle.vhost_c_backend.specs.Served as served
use Rattle.vhost_c_frontend.specs.Session as session
use Rattle.vhost_c_joined.proofs.Pieces.{silent, stepped, wants, take-capped, take-within, take-few}
use Rattle.vhost_c_joined.proofs.wire.reply_piece.Goals as goal

within : (a b m : ℕ) {k : ℕ} → a ≡ b → b ≤ m → m ≡ k → a ≤ k
within a b m is few same = omega arith

pub returns-then-count-eq0 : goal.returns-then-count-eq0
returns-then-count-eq0 c hs text told on = silent hs text (served.view c.args.from.now) (served.view c.hand_out.new.self) (session.view c.args.to.now) on c.hand_out.new.bytes c.hand_out.new.fds _ (omega (arith, c.hand_out.auto.bytes, c.requires.some)) c.in-Ok.ensures.out (session.missing_for (session.remembers c.args.to.now).profile c.args.to.now.asked) told (within _ _ _ c.hand_out.auto.bytes c.requires.few refl) c.if-count-eq0.true

pub returns-in-Ok-receive : goal.returns-in-Ok-receive
returns-in-Ok-receive c hs text told on =
    stepped hs text (served.view c.args.from.now) (served.view c.hand_out.new.self) (session.view c.args.to.now) on c.hand_out.new.bytes c.hand_out.new.fds _ (omega (arith, c.hand_out.auto.bytes, c.requires.some)) c.in-Ok.ensures.out (session.missing_for (session.remembers c.args.to.now).profile c.args.to.now.asked) (session.view c.receive.new.self) _ _ _
    (omega (arith, c.if-count-eq0.false)) c.hand_out.ensures.rest (take-capped _ _ _ c.min-count.ensures) (take-within _ _ MAX_ATTACHED_FD_ENTRIES c.hand_out.new.fds c.min-fd_number.ensures (omega (arith, c.hand_out.auto.fds))) c.in-Ok-receive.ensures.received

pub returns-in-Err-receive : goal.returns-in-Err-receive
returns-in-Err-receive c hs text told on =
    wants hs text (served.view c.args.from.now) (served.view c.hand_out.new.self) (session.view c.args.to.now) on c.hand_out.new.bytes c.hand_out.new.fds _ (omega (arith, c.hand_out.auto.bytes, c.requires.some)) c.in-Ok.ensures.out _ _ _ _
    (omega (arith, c.if-count-eq0.false)) (take-capped _ _ _ c.min-count.ensures) (take-within _ _ MAX_ATTACHED_FD_ENTRIES c.hand_out.new.fds c.min-fd_number.ensures (omega (arith, c.hand_out.auto.fds)))
    (take-few c.min-count.result _ c.hand_out.new.bytes (within _ _ _ c.hand_out.auto.bytes c.requires.few refl)) (take-few c.min-fd_number.result _ c.hand_out.new.fds (within _ _ _ c.hand_out.auto.fds (omega arith) refl)) c.in-Err-receive.ensures.reason
