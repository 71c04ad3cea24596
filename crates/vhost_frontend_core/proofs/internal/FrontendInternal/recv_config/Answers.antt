-- The reply with configuration bytes.
use Rattle.std.proofs.Common.{length, sym, subst, Ok, Err, ◌∙◌}
use Rattle.vhost_message.specs.MsgHeader.{fields_of}
use Rattle.vhost_connection.specs.State.{state}
use Rattle.vhost_connection.specs.Talk.{State}
use Rattle.vhost_frontend_core.specs.TakingConfig.{ReadsBytes, RecvsConfig}
use Rattle.vhost_frontend_core.proofs.ReplyingConfig.{config-none, config-fails, config-unfit, config-crowded, config-comes}
use Rattle.vhost_frontend_core.proofs.internal.FrontendInternal.recv_config.Goals as goal

pub returns-in-Err-clause-received : goal.returns-in-Err-clause-received
returns-in-Err-clause-received g c =
    subst (λ (x : State _ _). RecvsConfig g.L.Link.event c.args.self.now.session.profile (length c.args.room.now) (state c.args.self.now.endpoint) (fields_of c.args.request.now) (Err c.in-Err.error) c.recv_bytes.new.room x) (sym c.break_on_fault.ensures)
    (config-fails g.L.Link.event (fields_of c.args.request.now) (state c.args.self.now.endpoint) c.args.room.now c.args.self.now.session.profile (state c.recv_bytes.new.self.endpoint) c.recv_bytes.new.room c.in-Err.error c.in-Err.ensures.received)

pub returns-in_default-clause-received : goal.returns-in_default-clause-received
returns-in_default-clause-received g c =
    config-none g.L.Link.event (fields_of c.args.request.now) (state c.args.self.now.endpoint) c.args.room.now c.args.self.now.session.profile (state c.recv_bytes.new.self.endpoint) c.recv_bytes.new.room
    (subst (λ x. ReadsBytes g.L.Link.event c.args.self.now.session.profile (fields_of c.args.request.now) (state c.args.self.now.endpoint) c.args.room.now (Ok x) c.recv_bytes.new.room (state c.recv_bytes.new.self.endpoint)) c.in_default.is c.in-Ok.ensures.received)

pub returns-then-not-is_whole-clause-received : goal.returns-then-not-is_whole-clause-received
returns-then-not-is_whole-clause-received g c =
    config-unfit g.L.Link.event (fields_of c.args.request.now) (state c.args.self.now.endpoint) c.args.room.now c.args.self.now.session.profile (state c.recv_bytes.new.self.endpoint) c.recv_bytes.new.room _ _ _ _
    (subst (λ x. ReadsBytes g.L.Link.event c.args.self.now.session.profile (fields_of c.args.request.now) (state c.args.self.now.endpoint) c.args.room.now (Ok x) c.recv_bytes.new.room (state c.recv_bytes.new.self.endpoint)) c.in-Some.is c.in-Ok.ensures.received) (sym c.is_whole.ensures ∙ c.if-not-is_whole.true)

pub returns-then-is_some-clause-received : goal.returns-then-is_some-clause-received
returns-then-is_some-clause-received g c =
    config-crowded g.L.Link.event (fields_of c.args.request.now) (state c.args.self.now.endpoint) c.args.room.now c.args.self.now.session.profile (state c.recv_bytes.new.self.endpoint) c.recv_bytes.new.room _ _ _ _
    (subst (λ x. ReadsBytes g.L.Link.event c.args.self.now.session.profile (fields_of c.args.request.now) (state c.args.self.now.endpoint) c.args.room.now (Ok x) c.recv_bytes.new.room (state c.recv_bytes.new.self.endpoint)) c.in-Some.is c.in-Ok.ensures.received) (sym c.is_whole.ensures ∙ c.if-not-is_whole.false) (sym c.is_some.ensures ∙ c.if-is_some.true)

pub returns-clause-received : goal.returns-clause-received
returns-clause-received g c =
    config-comes g.L.Link.event (fields_of c.args.request.now) (state c.args.self.now.endpoint) c.args.room.now c.args.self.now.session.profile (state c.recv_bytes.new.self.endpoint) c.recv_bytes.new.room _ _ _ _
    (subst (λ x. ReadsBytes g.L.Link.event c.args.self.now.session.profile (fields_of c.args.request.now) (state c.args.self.now.endpoint) c.args.room.now (Ok x) c.recv_bytes.new.room (state c.recv_bytes.new.self.endpoint)) c.in-Some.is c.in-Ok.ensures.received) (sym c.is_whole.ensures ∙ c.if-not-is_whole.false) (sym c.is_some.ensures ∙ c.if-is_some.false)
