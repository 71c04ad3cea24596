-- A request goes out whole.
use Rattle.std.proofs.Common.{ap, ◌∙◌}
use Rattle.vhost_message.specs.MsgHeader.{fields_of}
use Rattle.vhost_frontend_core.specs.Asking.Tries.{whole, broke}
use Rattle.vhost_frontend_core.specs.declared.asked.Sent.{Sent}
use Rattle.vhost_frontend_core.proofs.internal.FrontendInternal.send.Goals as goal

pub returns-in-Ok-clause-sent : goal.returns-in-Ok-clause-sent
returns-in-Ok-clause-sent g c p text =
    let x = c.in-Ok.ensures p text in
    let made = c.new.ensures in
    whole (record { retries = x.retries; serves = x.serves; header = ap (λ (s : Sent). fields_of s.request) made ∙ x.header; awaits = ap (λ (s : Sent). s.awaited) made; list = x.list })

pub returns-in-Err-clause-sent : goal.returns-in-Err-clause-sent
returns-in-Err-clause-sent g c p text = broke (c.in-Err.ensures p text)
