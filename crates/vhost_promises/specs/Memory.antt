-- Where a call wants no memory.
use Rattle.std.specs.Prelude.{◌≡◌, [], None, true, false}
use Rattle.vhost_protocol.specs.FrontendCall.{FrontendCall, Frontend}
use Rattle.vhost_link.specs.declared.plain.PlainHandle.{PlainHandle}
use Rattle.vhost_frontend_core.specs.Halves.{makes_room}
use Rattle.vhost_joined.specs.Joined.{View}

-- the run goes on, nothing is on the way, and both sides have their lists of handles
pub record IsBefore {Dev : Type 0} (v : View Dev) : Type 0 where
  pub going : v.stopped ≡ None
  pub no_request : v.to_handler ≡ []
  pub no_reply : v.to_frontend ≡ []
  pub lists : v.lists ≡ true

-- whatever is remembered, the call makes no room for its answer
abbrev pub MakesNoRoom : FrontendCall PlainHandle → Type 0
MakesNoRoom call = (f : Frontend) → makes_room f call ≡ false
