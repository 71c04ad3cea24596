-- A frontend that reads a device's features, of a reply that is known.
use Rattle.std.specs.Prelude.{◌≡◌, ℕ, List, [], ◌++◌, Result, Ok}
use Rattle.vhost_message.specs.declared.error.Error as declared
use Rattle.vhost_protocol.specs.FrontendCall.{Frontend}
use Rattle.vhost_protocol.specs.Stream.{plain}
use Rattle.vhost_link.specs.Ends.{Ends, empty}
use Rattle.vhost_link.specs.declared.cut.Cut.{Cut}
use Rattle.vhost_promises.specs.Served.{features_reply, features_request}
use Rattle.vhost_connection.specs.Memory.{stream}
use Rattle.vhost_promises.specs.Streams.{Near}

-- a link in memory on which the reply came, with these cuts
abbrev pub replied : List Cut → Ends
replied cuts = record (empty cuts) { pending = plain features_reply }

-- They were read: this answer, the request behind what had been written, nothing left of the stream, and the frontend remembers them.
pub record ReadsFeatures (old : Near) (f : Frontend) (answer : Result ℕ declared.Error) (new : Near) (f' : Frontend) : Type 0 where
  pub answered : answer ≡ Ok 0x40000003
  pub written : new.link.sent ≡ old.link.sent ++ plain features_request
  pub left : stream new ≡ []
  pub session : f' ≡ record f { offered = 0x40000003 }
