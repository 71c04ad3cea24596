-- What a session awaits.
use Rattle.std.specs.Prelude.{Option, Some, None}
use Rattle.vhost_protocol.specs.declared.asked.Awaited.{Awaited}
use Rattle.vhost_protocol.specs.declared.asked.Awaited.TheVariants.{Nobody}

-- what is awaited of this, if there is something; else nothing
abbrev pub awaited_of : {A : Type 0} → (A → Awaited) → Option A → Awaited
awaited_of awaits None = Nobody
awaited_of awaits (Some asked) = awaits asked
