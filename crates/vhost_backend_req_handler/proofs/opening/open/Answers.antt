-- A handle is opened as a link, or why it can't be.
use Rattle.std.proofs.Common.{Ok, Err, refl, subst}
use Rattle.vhost_link.specs.declared.handle.Kind.{Kind}
use Rattle.vhost_link.specs.declared.handle.Kind.TheVariants.{NoSocket, NotUnix, NotStream}
use Rattle.vhost_backend_req_handler.proofs.opening.open.Goals as goal

pub returns-in-Ok-NoSocket-clause-opened : goal.returns-in-Ok-NoSocket-clause-opened
returns-in-Ok-NoSocket-clause-opened g c =
    (Ok NoSocket, subst (λ (k : Kind). g.L.Handle.Handle.kinds c.args.file (Ok k)) c.in-Ok-NoSocket.field-0-is c.in-Ok-NoSocket.ensures, λ made. refl)

pub returns-in-Ok-NotUnix-clause-opened : goal.returns-in-Ok-NotUnix-clause-opened
returns-in-Ok-NotUnix-clause-opened g c =
    (Ok NotUnix, subst (λ (k : Kind). g.L.Handle.Handle.kinds c.args.file (Ok k)) c.in-Ok-NotUnix.field-0-is c.in-Ok-NotUnix.ensures, λ made. refl)

pub returns-in-Ok-NotStream-clause-opened : goal.returns-in-Ok-NotStream-clause-opened
returns-in-Ok-NotStream-clause-opened g c =
    (Ok NotStream, subst (λ (k : Kind). g.L.Handle.Handle.kinds c.args.file (Ok k)) c.in-Ok-NotStream.field-0-is c.in-Ok-NotStream.ensures, λ made. refl)

pub returns-in-Err-clause-opened : goal.returns-in-Err-clause-opened
returns-in-Err-clause-opened g c = (Err c.in-Err.cause, c.in-Err.ensures, λ made. refl)
