-- GET_SHMEM_CONFIG: its reply.
use Rattle.std.proofs.Common.{sym, refl, Some, Ok}
use Rattle.vhost_protocol.specs.AnswerTable.{answered}
use Rattle.vhost_protocol.specs.FrontendCall.{ShmemOf}
use Rattle.vhost_frontend_core.proofs.Taking.{alone-replied, alone-fails}
use Rattle.vhost_frontend_core.proofs.internal.FrontendInternal.take_get_shmem_config.Goals as goal

pub returns-in-Ok-clause-taken : goal.returns-in-Ok-clause-taken
returns-in-Ok-clause-taken g c = alone-replied c.in-Ok.ensures.taken (λ cells. refl) (λ r. refl) (λ r is ok j. Some (answered (sym c.take_plain_reply.ensures.session j) (Ok (ShmemOf (sym is j)))))

pub returns-in-Err-clause-taken : goal.returns-in-Err-clause-taken
returns-in-Err-clause-taken g c = alone-fails c.in-Err.ensures.taken (λ cells. refl) (λ r. refl) (λ r h hs. refl) c.take_plain_reply.ensures.session
