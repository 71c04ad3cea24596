-- A frontend under Standard, whose backend refuses one request by a reply without a body.
use Rattle.std.specs.Prelude.{◌≡◌, ℕ, List, [], ◌∷◌, ◌++◌, Result, Ok, Err}
use Rattle.vhost_message.specs.declared.error.Error as declared
use Rattle.vhost_message.specs.declared.error.Error.TheVariants as code
use Rattle.vhost_protocol.specs.FrontendCall.{Frontend, new_frontend}
use Rattle.vhost_protocol.specs.Stream.{plain}
use Rattle.vhost_protocol.specs.declared.profile.Profile.TheVariants.{Standard}
use Rattle.vhost_promises.specs.Served.{features_request}
use Rattle.vhost_connection.specs.Memory.{stream}
use Rattle.vhost_promises.specs.Streams.{Near}

-- a frontend that acknowledged CONFIG alone
abbrev pub with_config : ℕ → Frontend
with_config queues = record (new_frontend queues) { acked_protocol_features = 0x200 }

-- the request for eight bytes of configuration: its code, no flag but the version's, twenty bytes, and these are the part and as many zeros
abbrev pub config_request : List ℕ
config_request =
    24 ∷ 0 ∷ 0 ∷ 0 ∷ 1 ∷ 0 ∷ 0 ∷ 0 ∷ 20 ∷ 0 ∷ 0 ∷ 0 ∷ 0 ∷ 0 ∷ 0 ∷ 0 ∷ 8 ∷ 0 ∷ 0 ∷ 0 ∷ 0 ∷ 0 ∷ 0 ∷ 0
    ∷ 0 ∷ 0 ∷ 0 ∷ 0 ∷ 0 ∷ 0 ∷ 0 ∷ 0 ∷ []

-- its reply: the code, REPLY, and no body
abbrev pub no_config : List ℕ
no_config = 24 ∷ 0 ∷ 0 ∷ 0 ∷ 5 ∷ 0 ∷ 0 ∷ 0 ∷ 0 ∷ 0 ∷ 0 ∷ 0 ∷ []

-- The first was refused, and the second is answered: both requests stand behind what had been written, nothing is left of the stream, and the frontend remembers the features.
pub record GoesOnAsking {A : Type 0} (queues : ℕ) (old : Near) (config : Result A declared.Error) (features : Result ℕ declared.Error) (new : Near) (f : Frontend) : Type 0 where
  pub refused : config ≡ Err code.BackendInternalError
  pub answered : features ≡ Ok 0x40000003
  pub written : new.link.sent ≡ (old.link.sent ++ plain config_request) ++ plain features_request
  pub left : stream new ≡ []
  pub session : f ≡ record (with_config queues) { profile = Standard; offered = 0x40000003 }
