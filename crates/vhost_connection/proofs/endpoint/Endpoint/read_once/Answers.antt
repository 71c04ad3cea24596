use Rattle.std.proofs.Common.{refl, ap, sym, ◌∙◌, ◌≡◌, false, true, rules, arith, take}
use Rattle.std.specs.Prelude.{is_some, Bool}
use Rattle.std.proofs.lemmas.List.{length-take-le}
use Rattle.vhost_protocol.specs.Stream.{plain}
use Rattle.vhost_connection.specs.Ahead.{way, waiting}
use Rattle.vhost_connection.specs.State.{ahead_of, state}
use Rattle.vhost_connection.specs.Talk.{State, IfSound}
use Rattle.vhost_connection.specs.Talk.Trouble.{no_memory}
use Rattle.vhost_connection.proofs.Talking.{broken}
use Rattle.vhost_connection.proofs.Receiving.{gets-first}
use Rattle.vhost_connection.proofs.Once.{once-came, once-refused, unasked}
use Rattle.vhost_connection.proofs.Errors.{passed-on}
use Rattle.vhost_connection.proofs.endpoint.Endpoint.read_once.Goals as goal

pub returns-in_err-expect_sound : goal.returns-in_err-expect_sound
unfolding ahead_of
returns-in_err-expect_sound g c =
    rw (passed-on c.from_residual.result c.from_residual.ensures.1) (broken g.L.Link.event (state c.args.self.now) 0 IfSound false _ c.in_err-expect_sound.ensures.broken)

pub returns-then-len-eq0 : goal.returns-then-len-eq0
unfolding ahead_of
returns-then-len-eq0 g c = unasked g.L.Link.event (state c.args.self.now) c.args.len c.args.self.now.text.value c.if-len-eq0.true c.in_ok-expect_sound.ensures.sound

pub returns-in_default : goal.returns-in_default
unfolding ahead_of
returns-in_default g c =
    let none : is_some c.args.self.now.list ≡ false = c.in_default.ensures.memory in
    let same : is_some c.take_list.new.place ≡ is_some c.args.self.now.list = c.take_list.ensures.left ∙ sym none in
    no_memory refl (λ _. c.in_ok-expect_sound.ensures.sound) none refl (ap (λ (b : Bool). record (state c.args.self.now) { list = b; faulted = false }) same)

pub returns-in-Ok-recv_once : goal.returns-in-Ok-recv_once
unfolding ahead_of
returns-in-Ok-recv_once g c =
    once-came g.L.Link.event (state c.args.self.now) _ (state c.give.new.self) (way c.args.self.now.source) (way c.recv_once.new.source) _ _ c.give.new.self.text.value c.args.len c.in-Ok-recv_once.count _ c.give.result (omega arith)
    (length-take-le c.args.len c.deref_mut.result.now (search rules)) (refl, refl)
    (ap (λ (b : Bool). record (state c.args.self.now) { link = c.recv_once.new.source.link; ahead = plain (waiting c.recv_once.new.source.ahead); list = b; faulted = false }) c.take_list.ensures.left)
    c.in_ok-expect_sound.ensures.sound (gets-first (length-take-le c.args.len c.recv_once.new.text (search rules) ∙ sym (length-take-le c.args.len c.deref_mut.result.now (search rules))) c.in-Ok-recv_once.ensures.got) (ap (take c.args.len) c.give.ensures.text) c.give.ensures.given c.give.ensures.state

pub returns-in-Err : goal.returns-in-Err
unfolding ahead_of
returns-in-Err g c =
    once-refused g.L.Link.event (state c.args.self.now) (state c.fail.new.self) (way c.args.self.now.source) (way c.recv_once.new.source) c.in-Err.cause c.fail.result (refl, refl)
    (c.fail.ensures.state ∙ ap (λ (x : State _ _). record x { faulted = true }) c.put_back.ensures.state)
    c.in_ok-expect_sound.ensures.sound c.fail.ensures.error c.in-Err.ensures.got.0
