-- The laws of what a request becomes.
use Rattle.vhost_protocol.proofs.SettleLaws.{whoever-waits, settled-vhost}
use Rattle.vhost_protocol.proofs.laws.rows.whoever_waits.Goals as goal

pub returns-clause-standard : goal.returns-clause-standard
returns-clause-standard g c = whoever-waits _ _ _

pub returns-clause-vhost : goal.returns-clause-vhost
returns-clause-vhost g c = settled-vhost _
