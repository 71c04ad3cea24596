use Rattle.std.proofs.Common.{refl, ◌∙◌}
use Rattle.vhost_protocol.specs.Error.{OutOfMemory}
use Rattle.vhost_frontend_core.specs.Values.{call_of}
use Rattle.vhost_joined.specs.Sides as sides
use Rattle.vhost_joined.specs.Sides.{parts_of}
use Rattle.vhost_joined.proofs.Carrying.{copied}
use Rattle.vhost_joined.proofs.Handing.{same-asked, served-copied, lost-copied}
use Rattle.vhost_joined.proofs.Lists.{error-listed, result-listed}
use Rattle.vhost_joined.proofs.sides.Sides.serve.Goals as goal
use Rattle.vhost_device.specs.Reached.{by_trait}

pub returns : goal.returns
returns g c =
    let same = same-asked (record (parts_of c.args.self.now) { request = _ }) _ _ _ (c.copy.ensures.same ∙ c.endpoint_mut.ensures.value) refl refl in
    record {
      served = sides.served (served-copied (by_trait g.D.VhostUserBackendReqHandlerMut.gives) (call_of c.args.call.now) c.args.sent (parts_of c.args.self.now) _ (copied _ _ _ c.endpoint_mut.ensures.value c.copy.ensures.text) _ _ _ _ _ _ same c.in-Some.ensures.handed
          (c.take-answer.ensures.taken c.requires.awaited c.requires.kept) refl c.take-answer.ensures.quiet c.stop_after-stop.ensures);
      listed = result-listed (call_of c.args.call.now) _ _ _ _ _ _ _ (c.take-answer.ensures.taken c.requires.awaited c.requires.kept);
    }

pub returns-in_default : goal.returns-in_default
returns-in_default g c =
    let same = same-asked (record (parts_of c.args.self.now) { request = _ }) _ _ _ (c.copy.ensures.same ∙ c.endpoint_mut.ensures.value) refl refl in
    record {
      served = sides.no_way (lost-copied (by_trait g.D.VhostUserBackendReqHandlerMut.gives) (call_of c.args.call.now) c.args.sent (parts_of c.args.self.now) _ (copied _ _ _ c.endpoint_mut.ensures.value c.copy.ensures.text) _ _ _ refl refl _ same c.in_default.ensures.handed);
      listed = error-listed (call_of c.args.call.now) _ OutOfMemory refl;
    }
