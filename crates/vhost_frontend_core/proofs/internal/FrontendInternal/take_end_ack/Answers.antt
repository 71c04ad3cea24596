-- POSTCOPY_END: its acknowledgement.
use Rattle.std.proofs.Common.{ap, refl}
use Rattle.vhost_message.specs.declared.postcopy.PostcopyState.TheVariants.{End}
use Rattle.vhost_protocol.specs.FrontendCall.{Frontend, PostcopyEnd}
use Rattle.vhost_frontend_core.proofs.Taking.{succeeds, failed-as}
use Rattle.vhost_frontend_core.proofs.internal.FrontendInternal.take_end_ack.Goals as goal

pub returns-in-Ok-clause-taken : goal.returns-in-Ok-clause-taken
returns-in-Ok-clause-taken g c is =
    succeeds PostcopyEnd tt c.args.sent.awaited refl (ap (λ (f : Frontend). record f { postcopy = End }) c.take_ack.ensures.session) is c.in-Ok.ensures.taken

pub returns-in-Err-clause-taken : goal.returns-in-Err-clause-taken
returns-in-Err-clause-taken g c is = failed-as PostcopyEnd c.args.sent.awaited c.take_ack.ensures.session is c.in-Err.ensures.taken
