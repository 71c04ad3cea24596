-- The bytes come with their handles, unless memory is refused.
use Rattle.std.proofs.Common.{◌++◌, List, ap, sym, ◌∙◌}
use Rattle.vhost_protocol.specs.Stream.{carrying}
use Rattle.vhost_link.specs.Ends.{Ends}
use Rattle.vhost_link.specs.declared.plain.PlainHandle.{PlainHandle}
use Rattle.vhost_c_channel_joined.proofs.JoiningDisplay.{not-refused, on-ok, same-handles}
use Rattle.vhost_c_channel_joined.proofs.joined_display.show.Goals as goal

pub returns-in-Err : goal.returns-in-Err
returns-in-Err c handles is are = not-refused handles c.args.fds.now c.in-Err.error is are c.in-Err.ensures.refused

pub returns : goal.returns
returns c handles is are =
    ap {A = Ends} (λ l. l.pending) (on-ok c.push.result (sym c.is_err.ensures.value ∙ c.if-is_err.false) c.push.ensures.pushed)
    ∙ ap {A = List PlainHandle} (λ hs. c.args.display.now.pending ++ carrying hs c.args.bytes.now) (c.deref.ensures.value ∙ same-handles handles c.in-Ok.handles.items c.args.fds.now is are c.in-Ok.ensures.handles)
