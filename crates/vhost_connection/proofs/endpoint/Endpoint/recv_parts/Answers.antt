use Rattle.std.proofs.Common.{refl, ap, sym, ◌∙◌, ◌≡◌, false, true, Some, nat_lt}
use Rattle.std.specs.Prelude.{is_some, Bool, if◌then◌else◌}
use Rattle.vhost_protocol.specs.Stream.{plain}
use Rattle.vhost_connection.specs.Ahead.{way, waiting}
use Rattle.vhost_connection.specs.State.{ahead_of, state}
use Rattle.vhost_connection.specs.Talk.{State, IfSound}
use Rattle.vhost_connection.specs.Talk.Trouble.{no_memory}
use Rattle.vhost_connection.proofs.Talking.{broken}
use Rattle.vhost_connection.proofs.Fronts.{parts-came, parts-fail, nothing-comes}
use Rattle.vhost_connection.proofs.Errors.{passed-on}
use Rattle.vhost_connection.proofs.endpoint.Endpoint.recv_parts.Goals as goal

pub returns-in_err-expect_sound : goal.returns-in_err-expect_sound
unfolding ahead_of
returns-in_err-expect_sound g c =
    rw (passed-on c.from_residual.result c.from_residual.ensures.1) (nothing-comes c.args.len c.args.room.now c.args.self.now.text.value c.requires.some (broken g.L.Link.event (state c.args.self.now) _ IfSound false _ c.in_err-expect_sound.ensures.broken))

pub returns-in_default : goal.returns-in_default
unfolding ahead_of
returns-in_default g c =
    let none : is_some c.args.self.now.list ≡ false = c.in_default.ensures.memory in
    let same : is_some c.take_list.new.place ≡ is_some c.args.self.now.list = c.take_list.ensures.left ∙ sym none in
    nothing-comes c.args.len c.args.room.now c.args.self.now.text.value c.requires.some (no_memory refl (λ _. c.in_ok-expect_sound.ensures.sound) none refl (ap (λ (b : Bool). record (state c.args.self.now) { list = b; faulted = false }) same))

pub returns-in-Fault : goal.returns-in-Fault
unfolding ahead_of
returns-in-Fault g c =
    parts-fail g.L.Link.event (state c.args.self.now) _ (way c.args.self.now.source) (way c.recv_parts-got.new.source) _ _ _ c.recv_parts-got.result _ c.args.len c.in-Fault.cause c.fail.result c.requires.some (refl, refl)
    (c.fail.ensures.state ∙ ap (λ (x : State _ _). record x { broken = (if nat_lt 0 c.recv_parts-got.result.count then Some c.in-Fault.cause else x.broken); faulted = true }) c.put_back.ensures.state)
    c.in_ok-expect_sound.ensures.sound c.fail.ensures.error c.recv_parts-got.ensures.got c.in-Fault.is

pub returns : goal.returns
unfolding ahead_of
returns g c =
    parts-came g.L.Link.event (state c.args.self.now) _ (way c.args.self.now.source) (way c.recv_parts-got.new.source) _ _ _ c.recv_parts-got.result _ c.args.len (refl, refl)
    (ap (λ (b : Bool). record (state c.args.self.now) { link = c.recv_parts-got.new.source.link; ahead = plain (waiting c.recv_parts-got.new.source.ahead); list = b; faulted = false }) c.take_list.ensures.left)
    c.in_ok-expect_sound.ensures.sound c.recv_parts-got.ensures.got c.in_default-stop.not-Fault refl refl refl
