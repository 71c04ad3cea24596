use Rattle.std.proofs.Common.{ap}
use Rattle.vhost_link.specs.Ends.{Ends}
use Rattle.vhost_connection.specs.State.{ahead_of}
use Rattle.vhost_c_common.proofs.OnWay.{collects, on-ok}
use Rattle.vhost_c_common.proofs.carrying.forget_sent.Goals as goal

pub returns : goal.returns
unfolding ahead_of
returns g c = (collects _ _ _ c.link.ensures.value _ _ (on-ok c.carry.result (c.carry.ensures.succeeds (ap {A = Ends} (λ k. k.pending) c.new-nowhere.ensures)) c.carry.ensures.carried)).given
