use Rattle.std.proofs.Common.{refl}
use Rattle.vhost_frontend_core.specs.Values.{call_of}
use Rattle.vhost_joined.specs.Sides.{parts_of}
use Rattle.vhost_joined.proofs.Exchanging.{sent-so, sent-exchange, done-exchange, unsent-exchange, roomless-exchange}
use Rattle.vhost_joined.proofs.Lists.{nothing-listed, error-listed}
use Rattle.vhost_joined.proofs.sides.Sides.exchange.Goals as goal
use Rattle.vhost_device.specs.Reached.{by_trait}

pub serve-requires-clause-awaited : goal.serve-requires-clause-awaited
serve-requires-clause-awaited g c = sent-so (call_of c.args.call.now) c.args.self.now.frontend c.ask.new.frontend c.in-Ok-Some.field-0 c.in-Ok-Some.sent c.in-Ok-Some.field-0-is c.in-Ok-Some.ensures.asked

pub returns-in-Ok-Some : goal.returns-in-Ok-Some
returns-in-Ok-Some g c =
    record {
      done =
          sent-exchange (call_of c.args.call.now) c.args.self.now.frontend c.ask.new.frontend (by_trait g.D.VhostUserBackendReqHandlerMut.gives) (parts_of c.args.self.now) refl refl refl c.in-Ok-Some.field-0 c.in-Ok-Some.sent c.serve.result _ c.in-Ok-Some.field-0-is
          c.in-Ok-Some.ensures.asked c.in-Ok-Some.ensures.proper c.serve.ensures.served;
      listed = c.serve.ensures.listed;
    }

pub returns-in-Ok-None : goal.returns-in-Ok-None
returns-in-Ok-None g c =
    record {
      done =
          done-exchange (call_of c.args.call.now) c.args.self.now.frontend c.ask.new.frontend (by_trait g.D.VhostUserBackendReqHandlerMut.gives) (parts_of c.args.self.now) refl refl refl c.in-Ok-None.field-0 c.in-Ok-None.field-0-is c.done_at_once.result _
          c.in-Ok-None.ensures.asked c.done_at_once.ensures.answer c.done_at_once.ensures.same;
      listed = nothing-listed (call_of c.args.call.now) _ c.done_at_once.ensures.answer.0;
    }

pub returns-in-OutOfMemory : goal.returns-in-OutOfMemory
returns-in-OutOfMemory g c =
    record {
      done =
          roomless-exchange (call_of c.args.call.now) c.args.self.now.frontend c.ask.new.frontend (by_trait g.D.VhostUserBackendReqHandlerMut.gives) (parts_of c.args.self.now) refl refl refl c.in-Err.error c.in-OutOfMemory.is c.requires.lists.0 c.in-Err.ensures.asked c.in-Err.ensures.memory;
      listed = tt;
    }

pub returns-in_default : goal.returns-in_default
returns-in_default g c =
    record {
      done =
          unsent-exchange (call_of c.args.call.now) c.args.self.now.frontend c.ask.new.frontend (by_trait g.D.VhostUserBackendReqHandlerMut.gives) (parts_of c.args.self.now) refl refl refl c.in-Err.error c.unsent.result _
          c.in_default.not-OutOfMemory c.in-Err.ensures.asked c.unsent.ensures;
      listed = error-listed (call_of c.args.call.now) _ _ c.unsent.ensures.answer;
    }
