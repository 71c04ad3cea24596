-- What an entry and its receipt need before the call.
use Rattle.std.specs.Prelude.{◌≡◌}
use Rattle.vhost_protocol.specs.FrontendCall.{FrontendCall}
use Rattle.vhost_link.specs.declared.plain.PlainHandle.{PlainHandle}
use Rattle.vhost_frontend_core.specs.Values.{call_of}
use Rattle.vhost_recorder.specs.Room.{HasRoomFor}
use Rattle.vhost_recorder.specs.declared.recorded.Prepared.{Prepared}

-- two copies of the call, and room for the lists of its answer
pub record IsPreparedFor (p : Prepared) (call : FrontendCall PlainHandle) : Type 0 where
  pub kept : call_of p.kept ≡ call
  pub shown : call_of p.shown ≡ call
  pub room : HasRoomFor p.room call
