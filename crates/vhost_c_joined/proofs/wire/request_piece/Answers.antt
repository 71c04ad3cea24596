use Rattle.std.proofs.Common.{◌≡◌, ◌≤◌, ℕ, refl, ap, arith}
use Rattle.std.specs.Prelude.{if◌then◌else◌}
use Rattle.vhost_protocol.specs.Session.{heard_in}
use Rattle.vhost_c_common.specs.Incoming.{missing_by}
use Rattle.vhost_message.specs.declared.limits.TheConstants.{MAX_ATTACHED_FD_ENTRIES}
use Rattle.vhost_c_backend.specs.Served as served
use Rattle.vhost_c_frontend.specs.Session as session
use Rattle.vhost_c_joined.proofs.Pieces.{silent, stepped, wants, take-capped, take-within, take-few}
use Rattle.vhost_c_joined.proofs.wire.request_piece.Goals as goal

within : (a b m : ℕ) {k : ℕ} → a ≡ b → b ≤ m → m ≡ k → a ≤ k
within a b m is few same = omega arith

pub returns-then-count-eq0 : goal.returns-then-count-eq0
returns-then-count-eq0 c hs text told idle on = silent hs text (session.view c.args.from.now) (session.view c.hand_out.new.self) (served.view c.args.to.now) on c.hand_out.new.bytes c.hand_out.new.fds _ (omega (arith, c.hand_out.auto.bytes, c.requires.some)) c.in-Ok.ensures.out (missing_by (heard_in (served.remembers c.args.to.now))) told (within _ _ _ c.hand_out.auto.bytes c.requires.few (ap (λ b. if b then 0 else served.missing_of_request c.args.to.now) idle)) c.if-count-eq0.true

pub returns-in-Ok-receive : goal.returns-in-Ok-receive
returns-in-Ok-receive c hs text told idle on =
    stepped hs text (session.view c.args.from.now) (session.view c.hand_out.new.self) (served.view c.args.to.now) on c.hand_out.new.bytes c.hand_out.new.fds _ (omega (arith, c.hand_out.auto.bytes, c.requires.some)) c.in-Ok.ensures.out (missing_by (heard_in (served.remembers c.args.to.now))) (served.view c.receive.new.self) _ _ _
    (omega (arith, c.if-count-eq0.false)) c.hand_out.ensures.rest (take-capped _ _ _ c.min-count.ensures) (take-within _ _ MAX_ATTACHED_FD_ENTRIES c.hand_out.new.fds c.min-fd_count.ensures (omega (arith, c.hand_out.auto.fds))) c.in-Ok-receive.ensures.received

pub returns-in-Err-receive : goal.returns-in-Err-receive
returns-in-Err-receive c hs text told idle on =
    wants hs text (session.view c.args.from.now) (session.view c.hand_out.new.self) (served.view c.args.to.now) on c.hand_out.new.bytes c.hand_out.new.fds _ (omega (arith, c.hand_out.auto.bytes, c.requires.some)) c.in-Ok.ensures.out _ _ _ _
    (omega (arith, c.if-count-eq0.false)) (take-capped _ _ _ c.min-count.ensures) (take-within _ _ MAX_ATTACHED_FD_ENTRIES c.hand_out.new.fds c.min-fd_count.ensures (omega (arith, c.hand_out.auto.fds)))
    (take-few c.min-count.result _ c.hand_out.new.bytes (within _ _ _ c.hand_out.auto.bytes c.requires.few refl)) (take-few c.min-fd_count.result _ c.hand_out.new.fds (within _ _ _ c.hand_out.auto.fds (omega arith) refl)) c.in-Err-receive.ensures.reason
