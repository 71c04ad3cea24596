-- CHECK_DEVICE_STATE: its reply.
use Rattle.std.proofs.Common.{sym, refl, ◌∙◌, Some, Ok, Err}
use Rattle.std.specs.Prelude.{◌==◌, if◌then◌else◌}
use Rattle.vhost_protocol.specs.AnswerTable.{answered}
use Rattle.vhost_protocol.specs.Error.{BackendInternalError}
use Rattle.vhost_protocol.specs.FrontendCall.{Nothing}
use Rattle.vhost_frontend_core.specs.Frontend.{session_of}
use Rattle.vhost_connection.proofs.Handed.{nonzero}
use Rattle.vhost_frontend_core.proofs.Taking.{alone-replied, alone-fails}
use Rattle.vhost_frontend_core.proofs.internal.FrontendInternal.take_check_device_state.Goals as goal

pub returns-then-number-ne0-clause-taken : goal.returns-then-number-ne0-clause-taken
returns-then-number-ne0-clause-taken g c =
    alone-replied c.in-Ok.ensures.taken (λ cells. refl) (λ r. refl)
    (λ r is ok. (λ j. Some (answered (session_of c.args.self.now) (if (sym is j).value == 0 then Ok Nothing else Err BackendInternalError))) ∙ (λ j. Some (answered (sym c.take_plain_reply.ensures.session j) (if nonzero c.in-Ok.number.value c.if-number-ne0.true j then Ok Nothing else Err BackendInternalError))))

pub returns-else-number-ne0-clause-taken : goal.returns-else-number-ne0-clause-taken
returns-else-number-ne0-clause-taken g c =
    alone-replied c.in-Ok.ensures.taken (λ cells. refl) (λ r. refl)
    (λ r is ok. (λ j. Some (answered (session_of c.args.self.now) (if (sym is j).value == 0 then Ok Nothing else Err BackendInternalError))) ∙ (λ j. Some (answered (sym c.take_plain_reply.ensures.session j) (if c.if-number-ne0.false j == 0 then Ok Nothing else Err BackendInternalError))))

pub returns-in-Err-clause-taken : goal.returns-in-Err-clause-taken
returns-in-Err-clause-taken g c =
    alone-fails c.in-Err.ensures.taken (λ cells. refl) (λ r. refl) (λ r h hs. refl) c.take_plain_reply.ensures.session
