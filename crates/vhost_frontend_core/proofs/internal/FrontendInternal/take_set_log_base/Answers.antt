-- SET_LOG_BASE: its reply or acknowledgement, where there is one.
use Rattle.std.proofs.Common.{refl}
use Rattle.vhost_protocol.specs.FrontendCall.{SetLogBase}
use Rattle.vhost_frontend_core.proofs.Taking.{acked}
use Rattle.vhost_frontend_core.proofs.internal.FrontendInternal.take_set_log_base.Goals as goal

pub returns-in-Reply : goal.returns-in-Reply
returns-in-Reply g c = record {
  area = λ base region log. c.take_log.ensures.taken base region;
  base = λ base region ack. absurd (rw c.in-Reply.is at ack);
  quiet = c.take_log.ensures.quiet;
}

pub returns-in_default : goal.returns-in_default
returns-in_default g c = record {
  area = λ base region log. absurd (c.in_default.not-Reply _ log);
  base = λ base region ack. acked (SetLogBase base region) refl refl ack c.take_ack.ensures.session c.take_ack.ensures.taken;
  quiet = c.take_ack.ensures.quiet;
}
