-- A backend's session that was opened waits for its first request.
use Rattle.std.proofs.Common.{◌≡◌, ℕ, [], Option, None}
use Rattle.std.specs.Option.{IsSomeAnd}
use Rattle.vhost_c_backend.specs.Served.{new_session}
use Rattle.vhost_c_backend.specs.Waiting.{IsWaiting}
use Rattle.vhost_c_backend.specs.declared.served.Served.{Served}
use Rattle.vhost_c.specs.Backend.{OpensBackend, opened, was_open, no_room}

pub waits : {old new : Option Served} {n : ℕ} → old ≡ None → OpensBackend old n new → n ≡ 0 → IsSomeAnd new (IsWaiting new_session [])
waits none (opened is) zero = record { came = is.empty.came; memory = is.memory; queue = is.empty.queue }
waits none was_open zero = absurd (cc none)
waits none no_room zero = absurd (cc zero)
