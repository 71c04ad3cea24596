-- POSTCOPY_ADVISE: its reply.
use Rattle.std.proofs.Common.{sym, ap, refl, ◌∙◌, Some, Ok, Err}
use Rattle.vhost_message.specs.declared.postcopy.PostcopyState.TheVariants.{Advise}
use Rattle.vhost_protocol.specs.AnswerTable.{answered, changed}
use Rattle.vhost_protocol.specs.Error.{seen}
use Rattle.vhost_protocol.specs.FrontendCall.{Frontend, HandleOf}
use Rattle.vhost_frontend_core.specs.Frontend.{session_of}
use Rattle.vhost_frontend_core.proofs.Taking.{any-replied, unreplied, one-handle}
use Rattle.vhost_frontend_core.proofs.internal.FrontendInternal.take_postcopy_advise.Goals as goal

pub returns-in-Ok-one_of-clause-taken : goal.returns-in-Ok-one_of-clause-taken
returns-in-Ok-one_of-clause-taken g c =
    any-replied c.in-Ok.ensures.taken (λ cells. refl) (λ r. refl) (λ r is ok came.
    ap (λ x. Some (changed (session_of c.args.self.now) (record (session_of c.args.self.now) { postcopy = Advise }) x)) (one-handle r.handles (Ok c.in-Ok-one_of.handle) c.is_standard.ensures c.take_reply.ensures.session (c.in-Ok-one_of.ensures r.handles came))
    ∙ ap (λ (f : Frontend). Some (answered (record f { postcopy = Advise }) (Ok (HandleOf c.in-Ok-one_of.handle)))) (sym c.take_reply.ensures.session))

pub returns-in-Err-one_of-clause-taken : goal.returns-in-Err-one_of-clause-taken
returns-in-Err-one_of-clause-taken g c =
    any-replied c.in-Ok.ensures.taken (λ cells. refl) (λ r. refl) (λ r is ok came.
    ap (λ x. Some (changed (session_of c.args.self.now) (record (session_of c.args.self.now) { postcopy = Advise }) x)) (one-handle r.handles (Err c.in-Err-one_of.error) c.is_standard.ensures c.take_reply.ensures.session (c.in-Err-one_of.ensures r.handles came))
    ∙ ap (λ (f : Frontend). Some (answered f (Err (seen c.in-Err-one_of.error)))) (sym c.take_reply.ensures.session))

pub returns-in-Err-clause-taken : goal.returns-in-Err-clause-taken
returns-in-Err-clause-taken g c = unreplied c.in-Err.ensures.taken (λ cells. refl) c.take_reply.ensures.session
