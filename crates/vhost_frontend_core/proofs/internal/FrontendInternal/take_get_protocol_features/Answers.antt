-- GET_PROTOCOL_FEATURES: its reply.
use Rattle.std.proofs.Common.{bit_and, sym, refl, ◌∙◌, Some, Ok}
use Rattle.vhost_protocol.specs.AnswerTable.{answered}
use Rattle.vhost_protocol.specs.FrontendCall.{Number}
use Rattle.vhost_frontend_core.specs.Frontend.{session_of}
use Rattle.vhost_frontend_core.proofs.Taking.{alone-replied, alone-fails}
use Rattle.vhost_frontend_core.proofs.internal.FrontendInternal.take_get_protocol_features.Goals as goal

pub returns-in-Ok-clause-taken : goal.returns-in-Ok-clause-taken
returns-in-Ok-clause-taken g c =
    alone-replied c.in-Ok.ensures.taken (λ cells. refl) (λ r. refl)
    (λ r is ok. (λ j. Some (answered (session_of c.args.self.now) (Ok (Number (bit_and (sym is j).value 0x7FFFFF))))) ∙ (λ j. Some (answered (sym c.take_plain_reply.ensures.session j) (Ok (Number (sym c.known_features.ensures j))))))

pub returns-in-Err-clause-taken : goal.returns-in-Err-clause-taken
returns-in-Err-clause-taken g c =
    alone-fails c.in-Err.ensures.taken (λ cells. refl) (λ r. refl) (λ r h hs. refl) c.take_plain_reply.ensures.session
