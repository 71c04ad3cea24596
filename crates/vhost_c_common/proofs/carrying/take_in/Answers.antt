use Rattle.std.proofs.Common.{refl}
use Rattle.vhost_connection.specs.State.{state}
use Rattle.vhost_c_common.proofs.OnWay.{given-link, refused-link}
use Rattle.vhost_c_common.proofs.carrying.take_in.Goals as goal

pub returns-then-not-is_empty-clause-given : goal.returns-then-not-is_empty-clause-given
returns-then-not-is_empty-clause-given g c = given-link (state c.args.end.now) _ _ _ _ refl _ c.push.ensures.given

pub returns-clause-given : goal.returns-clause-given
returns-clause-given g c = given-link (state c.args.end.now) _ _ _ _ (c.push_past.ensures.refused (c.if-push_past.false)) _ c.push-2.ensures.given

pub returns-clause-refused : goal.returns-clause-refused
returns-clause-refused g c = refused-link (state c.args.end.now) _ _ c.args.handles.now c.args.bytes.now (c.push_past.ensures.refused (c.if-push_past.false)) _ c.push-2.ensures.refused
