-- SET_CONFIG: what is asked.
use Rattle.std.proofs.Common.{◌++◌, ap, sym}
use Rattle.vhost_message.specs.FlagBits.{config_bits}
use Rattle.vhost_message.specs.Records.{config_text}
use Rattle.vhost_message.specs.declared.records.config.VhostUserConfig.{VhostUserConfig}
use Rattle.vhost_protocol.specs.Ask.{config}
use Rattle.vhost_protocol.specs.Written.{ConfigBytes}
use Rattle.vhost_frontend_core.specs.Frontend.{session_of}
use Rattle.vhost_frontend_core.proofs.Asking.{stops, passes, message_is, tried-as, tries_as}
use Rattle.vhost_frontend_core.proofs.internal.FrontendInternal.ask_set_config.Goals as goal

pub returns-in_err-param : goal.returns-in_err-param
returns-in_err-param g c = stops _ _ c.from_residual.ensures.1 c.in_err-param.ensures

pub returns-in_err-part : goal.returns-in_err-part
returns-in_err-part g c = passes c.in_ok-param.ensures (stops _ _ c.from_residual-in_err-part.ensures.1 c.in_err-part.ensures.test)

pub returns-in_err-needs : goal.returns-in_err-needs
returns-in_err-needs g c = passes c.in_ok-param.ensures (passes c.in_ok-part.ensures.test (stops _ _ c.from_residual-in_err-needs.ensures.1 c.in_err-needs.ensures))

pub returns-in_err-param-2 : goal.returns-in_err-param-2
returns-in_err-param-2 g c = passes c.in_ok-param.ensures (passes c.in_ok-part.ensures.test (passes c.in_ok-needs.ensures (stops _ _ c.from_residual-in_err-param-2.ensures.1 c.in_err-param-2.ensures)))

pub returns : goal.returns
returns g c =
    passes c.in_ok-param.ensures (passes c.in_ok-part.ensures.test (passes c.in_ok-needs.ensures (passes c.in_ok-param-2.ensures
    (tried-as (message_is _ (session_of c.args.self.now) _ _ _ c.flags.ensures.reply c.flags.ensures.need_reply) c.send.ensures.session (tries_as c.acknowledgement.ensures
    (c.send.ensures.sent (ConfigBytes (config c.args.offset _ (config_bits c.args.flags)) c.args.buffer.now) (ap (λ (v : VhostUserConfig). config_text v ++ c.args.buffer.now) (sym c.in_ok-part.ensures.same))))))))
