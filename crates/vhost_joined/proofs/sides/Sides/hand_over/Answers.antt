use Rattle.std.proofs.Common.{◌≡◌, ◌∙◌, [], refl, sym, subst}
use Rattle.vhost_connection.specs.State.{state}
use Rattle.vhost_backend_req_handler.specs.Core.{endpoint_of as serving, session_in}
use Rattle.vhost_joined.specs.Sides as sides
use Rattle.vhost_joined.specs.Sides.{parts_of, Reached}
use Rattle.vhost_joined.specs.Wire.{text_in}
use Rattle.vhost_joined.proofs.Carrying.{carried, refused, full, copied}
use Rattle.vhost_joined.proofs.Limited.{handles-some}
use Rattle.vhost_joined.proofs.Handing.{shut-same}
use Rattle.vhost_joined.proofs.Spent.{End}
use Rattle.vhost_joined.proofs.sides.Sides.hand_over.Goals as goal
use Rattle.vhost_device.specs.Reached.{by_trait}

pub returns-then-is_err-clause-handed : goal.returns-then-is_err-clause-handed
returns-then-is_err-clause-handed g c =
    let failed = sym c.is_err.ensures.value ∙ c.if-is_err.true in
    let same = refused c.carry.result _ _ _ _ _ _ c.endpoint_mut.ensures.value c.endpoint_mut-2.ensures.value failed c.carry.ensures.refused in
    sides.no_room_there (full c.carry.result _ _ c.endpoint_mut-2.ensures.value failed c.carry.ensures.succeeds)
    (shut-same (parts_of c.args.self.now) _ _ _ same.0 same.1 c.clear.ensures)

pub returns-then-is_err-2-clause-handed : goal.returns-then-is_err-2-clause-handed
returns-then-is_err-2-clause-handed g c =
    let failed = sym c.is_err-2.ensures.value ∙ c.if-is_err-2.true in
    let same = refused c.carry-2.result _ _ _ _ _ _ (c.endpoint_mut-4.ensures.value ∙ c.copy.ensures.same ∙ c.endpoint_mut-3.ensures.value) c.endpoint_mut-5.ensures.value failed c.carry-2.ensures.refused in
    let d2 = c.handle_request-served.new.device in
    let s2 = session_in c.handle_request-served.new.self in
    let result = c.handle_request-served.result in
    let gives = by_trait g.D.VhostUserBackendReqHandlerMut.gives in
    let reached : Reached gives (parts_of c.args.self.now) result (state c.carry.new.from) (serving c.handle_request-served.new.self) (text_in c.copy.new.wire) s2 d2 = record {
      serving_then = state c.carry.new.to;
      there = carried c.carry.result _ _ _ _ _ _ c.endpoint_mut.ensures.value c.endpoint_mut-2.ensures.value (sym c.is_err.ensures.value ∙ c.if-is_err.false) c.carry.ensures.carried;
      handled = λ none. handles-some gives _ _ _ _ _ _ _ _ none (c.handle_request-served.ensures.handled none);
      copied = copied _ _ _ c.endpoint_mut-3.ensures.value c.copy.ensures.text;
    } in
    sides.no_room_back result
    (subst (λ (e : End). Reached gives (parts_of c.args.self.now) result e (state c.carry-2.new.from) (text_in c.copy.new.wire) s2 d2) (sym same.1)
    (subst (λ (e : End). Reached gives (parts_of c.args.self.now) result (state c.carry.new.from) e (text_in c.copy.new.wire) s2 d2) (sym same.0) reached))
    (subst (λ (e : End). e.link.pending ≡ [] → ⊥) (sym same.1) (full c.carry-2.result _ _ c.endpoint_mut-5.ensures.value failed c.carry-2.ensures.succeeds)) refl

pub returns-clause-handed : goal.returns-clause-handed
returns-clause-handed g c = sides.handed (record {
  asking_then = state c.carry.new.from;
  serving_after = serving c.handle_request-served.new.self;
  reached = record {
    serving_then = state c.carry.new.to;
    there = carried c.carry.result _ _ _ _ _ _ c.endpoint_mut.ensures.value c.endpoint_mut-2.ensures.value (sym c.is_err.ensures.value ∙ c.if-is_err.false) c.carry.ensures.carried;
    handled = λ none. handles-some (by_trait g.D.VhostUserBackendReqHandlerMut.gives) _ _ _ _ _ _ _ _ none (c.handle_request-served.ensures.handled none);
    copied = copied _ _ _ c.endpoint_mut-3.ensures.value c.copy.ensures.text;
  };
  back = carried c.carry-2.result _ _ _ _ _ _ (c.endpoint_mut-4.ensures.value ∙ c.copy.ensures.same ∙ c.endpoint_mut-3.ensures.value) c.endpoint_mut-5.ensures.value (sym c.is_err-2.ensures.value ∙ c.if-is_err-2.false) c.carry-2.ensures.carried;
  same = refl;
})
