use Rattle.std.proofs.Common.{◌∙◌, refl, ap}
use Rattle.vhost_joined.specs.Wire.{text_in}
use Rattle.vhost_joined.proofs.Carrying.{copied}
use Rattle.vhost_joined.proofs.Spent.{End}
use Rattle.vhost_joined_reverse.specs.Sides.{Parts, parts_of}
use Rattle.vhost_joined_reverse.proofs.Handing.{served-so, lost-so}
use Rattle.vhost_joined_reverse.proofs.sides.Sides.serve.Goals as goal

pub returns : goal.returns
returns g c =
    let copy = text_in c.copy.new.wire in
    let same = ap {A = End} {B = Parts g.row.D.Denot} (λ e. record (parts_of c.args.self.now) { channel = record (parts_of c.args.self.now).channel { endpoint = e }; request = copy }) (c.copy.ensures.same ∙ c.endpoint_mut.ensures.value) in
    served-so g.D.VhostUserFrontendReqHandlerMut.gives c.args.sent (parts_of c.args.self.now) _ (parts_of c.hand_over-served.new.self) _ copy _ same c.in-Some.served (copied _ _ _ c.endpoint_mut.ensures.value c.copy.ensures.text) c.in-Some.ensures
    c.take_half-answer.ensures.taken c.take_half-answer.ensures.same refl c.stop_after-stop.ensures

pub returns-in_default : goal.returns-in_default
returns-in_default g c =
    let copy = text_in c.copy.new.wire in
    let same = ap {A = End} {B = Parts g.row.D.Denot} (λ e. record (parts_of c.args.self.now) { channel = record (parts_of c.args.self.now).channel { endpoint = e }; request = copy }) (c.copy.ensures.same ∙ c.endpoint_mut.ensures.value) in
    lost-so g.D.VhostUserFrontendReqHandlerMut.gives c.args.sent (parts_of c.args.self.now) _ (parts_of c.hand_over-served.new.self) _ copy _ same c.in_default.ensures
