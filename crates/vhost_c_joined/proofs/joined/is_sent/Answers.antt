-- The one call without a message.
use Rattle.std.proofs.Common.{ap}
use Rattle.vhost_frontend_core.specs.Values.{call_of}
use Rattle.vhost_frontend_core.specs.declared.values.call.FrontendCall as code
use Rattle.vhost_c_joined.proofs.joined.is_sent.Goals as goal

pub returns-in-SetHdrFlags-clause-flags : goal.returns-in-SetHdrFlags-clause-flags
returns-in-SetHdrFlags-clause-flags c isnt = (c.in-SetHdrFlags.field-0.bits, ap {A = code.FrontendCall} call_of c.in-SetHdrFlags.is)
