use Rattle.std.proofs.Common.{◌∙◌}
use Rattle.vhost_c_backend.proofs.Serving.{handed}
use Rattle.vhost_c_backend.proofs.served.Served.handles.Goals as goal

pub returns : goal.returns
returns c = λ m x. c.handles.ensures.call x.read.pending x.read.is ∙ handed x.read.pending.handles m.handles x.read.hands
