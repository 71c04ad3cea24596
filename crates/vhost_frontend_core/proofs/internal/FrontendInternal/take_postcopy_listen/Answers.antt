-- POSTCOPY_LISTEN: its acknowledgement.
use Rattle.std.proofs.Common.{ap, refl}
use Rattle.vhost_message.specs.declared.postcopy.PostcopyState.TheVariants.{Listen}
use Rattle.vhost_protocol.specs.FrontendCall.{Frontend, PostcopyListen}
use Rattle.vhost_frontend_core.proofs.Taking.{succeeds, failed-as}
use Rattle.vhost_frontend_core.proofs.internal.FrontendInternal.take_postcopy_listen.Goals as goal

pub returns-in-Ok-clause-taken : goal.returns-in-Ok-clause-taken
returns-in-Ok-clause-taken g c is =
    succeeds PostcopyListen tt c.args.sent.awaited refl (ap (λ (f : Frontend). record f { postcopy = Listen }) c.take_ack.ensures.session) is c.in-Ok.ensures.taken

pub returns-in-Err-clause-taken : goal.returns-in-Err-clause-taken
returns-in-Err-clause-taken g c is = failed-as PostcopyListen c.args.sent.awaited c.take_ack.ensures.session is c.in-Err.ensures.taken
