-- POSTCOPY_END: its reply or acknowledgement, where there is one.
use Rattle.vhost_frontend_core.proofs.internal.FrontendInternal.take_postcopy_end.Goals as goal

pub returns-in-Reply : goal.returns-in-Reply
returns-in-Reply g c = record {
  replied = λ is. c.take_end.ensures.taken;
  acked = λ ack. absurd (rw c.in-Reply.is at ack);
  quiet = c.take_end.ensures.quiet;
}

pub returns-in_default : goal.returns-in_default
returns-in_default g c = record {
  replied = λ is. absurd (c.in_default.not-Reply _ is);
  acked = c.take_end_ack.ensures.taken;
  quiet = c.take_end_ack.ensures.quiet;
}
