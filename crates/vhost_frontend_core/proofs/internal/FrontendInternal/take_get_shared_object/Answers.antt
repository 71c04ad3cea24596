-- GET_SHARED_OBJECT: its reply.
use Rattle.std.proofs.Common.{sym, ap, refl, ◌∙◌, Some}
use Rattle.vhost_protocol.specs.AnswerTable.{answered}
use Rattle.vhost_protocol.specs.FrontendCall.{Frontend, HandleOf}
use Rattle.vhost_frontend_core.specs.Frontend.{session_of}
use Rattle.vhost_frontend_core.specs.Taking.{valued}
use Rattle.vhost_frontend_core.proofs.Taking.{any-replied, unreplied, one-handle}
use Rattle.vhost_frontend_core.proofs.internal.FrontendInternal.take_get_shared_object.Goals as goal

pub returns-in-Ok-clause-taken : goal.returns-in-Ok-clause-taken
returns-in-Ok-clause-taken g c name =
    any-replied c.in-Ok.ensures.taken (λ cells. refl) (λ r. refl) (λ r is ok came.
    ap (λ x. Some (answered (session_of c.args.self.now) x)) (one-handle r.handles c.one_of.result c.is_standard.ensures c.take_reply.ensures.session (c.one_of.ensures r.handles came))
    ∙ ap (λ (f : Frontend). Some (answered f (valued HandleOf c.one_of.result))) (sym c.take_reply.ensures.session))

pub returns-in-Err-clause-taken : goal.returns-in-Err-clause-taken
returns-in-Err-clause-taken g c name = unreplied c.in-Err.ensures.taken (λ cells. refl) c.take_reply.ensures.session
