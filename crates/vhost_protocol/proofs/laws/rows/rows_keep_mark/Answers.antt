-- The law of all rows.
use Rattle.vhost_protocol.proofs.RowLaws.{rows-keep}
use Rattle.vhost_protocol.proofs.laws.rows.rows_keep_mark.Goals as goal

pub returns : goal.returns
returns g c = rows-keep _ _ _
