-- How contracts see an endpoint.
use Rattle.std.proofs.Common.{◌≡◌, refl}
use Rattle.vhost_connection.specs.declared.endpoint.Endpoint.{Endpoint}
use Rattle.vhost_connection.specs.State.{ahead_of, state, with_link}

-- Over another link an endpoint is what it was.
pub state-with_link : {M L H : Type 0} (end : Endpoint M L H) (link : L) → state (with_link end link) ≡ record (state end) { link = link }
unfolding ahead_of
state-with_link end link = refl
