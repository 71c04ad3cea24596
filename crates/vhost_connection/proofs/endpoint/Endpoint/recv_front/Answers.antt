use Rattle.vhost_connection.specs.State.{state}
use Rattle.vhost_connection.proofs.Fronts.{front-reads}
use Rattle.vhost_connection.proofs.endpoint.Endpoint.recv_front.Goals as goal

pub returns : goal.returns
returns g c = front-reads g.L.Link.event (state c.args.self.now) (state c.recv_parts.new.self) c.args.len c.recv_parts.result c.recv_parts.new.self.text.value _ c.recv_parts.ensures
