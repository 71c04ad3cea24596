-- SET_DEVICE_STATE_FD: its reply.
use Rattle.std.proofs.Common.{sym, refl, ◌∙◌, Some}
use Rattle.vhost_protocol.specs.AnswerTable.{answered, state_reply}
use Rattle.vhost_frontend_core.specs.Frontend.{session_of}
use Rattle.vhost_frontend_core.proofs.Taking.{any-replied, unreplied}
use Rattle.vhost_frontend_core.proofs.internal.FrontendInternal.take_set_device_state_fd.Goals as goal

pub returns-in-Ok-clause-taken : goal.returns-in-Ok-clause-taken
returns-in-Ok-clause-taken g c transfer handle =
    any-replied c.in-Ok.ensures.taken (λ cells. refl) (λ r. refl)
    (λ r is ok came. (λ j. Some (answered (session_of c.args.self.now) (state_reply (sym is j).value r.handles))) ∙ (λ j. Some (answered (sym c.take_reply.ensures.session j) (c.handle_for.ensures r.handles came j))))

pub returns-in-Err-clause-taken : goal.returns-in-Err-clause-taken
returns-in-Err-clause-taken g c transfer handle =
    unreplied c.in-Err.ensures.taken (λ cells. refl) c.take_reply.ensures.session
