-- Asks by value that want no memory.
use Rattle.std.proofs.Common.{◌≡◌, inl, inr, true, false, Option, Result, Ok, Err, sym, ◌∙◌}
use Rattle.std.specs.Prelude.{IfErr}
use Rattle.vhost_message.specs.declared.error.Error as declared
use Rattle.vhost_message.specs.declared.error.Error.TheVariants.{OutOfMemory}
use Rattle.vhost_protocol.specs.FrontendCall.{FrontendCall}
use Rattle.vhost_link.specs.Ends.{Ends}
use Rattle.vhost_link.specs.declared.plain.PlainHandle.{PlainHandle}
use Rattle.vhost_frontend_core.specs.Frontend.{endpoint_of, session_of}
use Rattle.vhost_frontend_core.specs.Halves.{makes_room}
use Rattle.vhost_frontend_core.specs.ValueHalves.{MayWant, WantsFor}
use Rattle.vhost_frontend_core.specs.declared.asked.Sent.{Sent}
use Rattle.vhost_frontend_core.specs.declared.internal.FrontendInternal.{FrontendInternal}

pub asked-without : (call : FrontendCall PlainHandle) (old new : FrontendInternal Ends PlainHandle) (result : Result (Option Sent) declared.Error) → WantsFor call old result new → makes_room (session_of old) call ≡ false → (endpoint_of old).list ≡ true
    → IfErr result (λ e. e ≡ OutOfMemory → ⊥)
asked-without call old new (Ok sent) wants bare listed = tt
asked-without call old new (Err e) wants bare listed = λ is. go (wants is)
  where
    go : MayWant call old new → ⊥
    go (inl room) = cc (sym bare ∙ room)
    go (inr (away, same)) = cc (sym listed ∙ away)
