use Rattle.std.proofs.Common.{◌∙◌, refl, sym}
use Rattle.vhost_connection.specs.State.{state}
use Rattle.vhost_frontend_req_handler.specs.Core.{endpoint_of}
use Rattle.vhost_joined.proofs.Carrying.{carried, full, copied}
use Rattle.vhost_joined_reverse.specs.Sides as sides
use Rattle.vhost_joined_reverse.proofs.sides.Sides.hand_over.Goals as goal

pub returns-then-is_err : goal.returns-then-is_err
returns-then-is_err g c = sides.no_room_there (full c.carry.result _ _ c.endpoint_mut-2.ensures.value (sym c.is_err.ensures.value ∙ c.if-is_err.true) c.carry.ensures.succeeds)

pub returns-then-is_err-2 : goal.returns-then-is_err-2
returns-then-is_err-2 g c =
    sides.no_room_back (state c.carry.new.from) (state c.carry.new.to)
    (carried c.carry.result _ _ _ _ _ _ c.endpoint_mut.ensures.value c.endpoint_mut-2.ensures.value (sym c.is_err.ensures.value ∙ c.if-is_err.false) c.carry.ensures.carried)
    (full c.carry-2.result _ _ c.endpoint_mut-5.ensures.value (sym c.is_err-2.ensures.value ∙ c.if-is_err-2.true) c.carry-2.ensures.succeeds)

pub returns : goal.returns
returns g c = sides.handed (record {
  asking_then = state c.carry.new.from;
  serving_then = state c.carry.new.to;
  there = carried c.carry.result _ _ _ _ _ _ c.endpoint_mut.ensures.value c.endpoint_mut-2.ensures.value (sym c.is_err.ensures.value ∙ c.if-is_err.false) c.carry.ensures.carried;
  serving_after = endpoint_of c.handle_request-served.new.self;
  handled = c.handle_request-served.ensures.handled;
  back = carried c.carry-2.result _ _ _ _ _ _ (c.endpoint_mut-4.ensures.value ∙ c.copy.ensures.same ∙ c.endpoint_mut-3.ensures.value) c.endpoint_mut-5.ensures.value (sym c.is_err-2.ensures.value ∙ c.if-is_err-2.false) c.carry-2.ensures.carried;
  reply = copied _ _ _ c.endpoint_mut-3.ensures.value c.copy.ensures.text;
  channel = refl;
  request = refl;
})
