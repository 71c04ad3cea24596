-- The law of both sides under Standard.
use Rattle.vhost_protocol.proofs.LockLaws.{no-silent-stop}
use Rattle.vhost_protocol.proofs.laws.rows.no_silent_stop.Goals as goal

pub returns : goal.returns
returns g c = no-silent-stop _ _ _
