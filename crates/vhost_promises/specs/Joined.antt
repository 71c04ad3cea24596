-- What a run of both sides is, in the words of the definitions.
use Rattle.std.specs.Prelude.{◌≡◌, ℕ, ◌<◌, ℤ, List, ◌∷◌, ◌++◌, None, false, Result, Err}
use Rattle.vhost_message.specs.Cause.{is_retry}
use Rattle.vhost_message.specs.declared.cause.IoCause.TheVariants.{Raw}
use Rattle.vhost_message.specs.declared.heard_req.HeardReq.{HeardReq}
use Rattle.vhost_protocol.specs.Error.{OutOfMemory}
use Rattle.vhost_protocol.specs.FrontendCall.{new_frontend}
use Rattle.vhost_protocol.specs.Handler.{Meets}
use Rattle.vhost_protocol.specs.Joined.{JoinedRun, read_as}
use Rattle.vhost_message.specs.declared.io_error.IoError.{IoError}
use Rattle.vhost_protocol.specs.JoinedReverse.{ReverseJoinedRun}
use Rattle.vhost_protocol.specs.Reverse.{Backend, Server}
use Rattle.vhost_protocol.specs.Session.{fresh}
use Rattle.vhost_protocol.specs.Step.{Outcome}
use Rattle.vhost_protocol.specs.Written.{Written}
use Rattle.vhost_backend_req.specs.declared.call.ReverseCall.{ReverseCall}
use Rattle.vhost_link.specs.declared.cut.Cut.{Cut}
use Rattle.vhost_link.specs.declared.cut.Cut.TheVariants.{Fault}
use Rattle.vhost_link.specs.declared.plain.PlainHandle.{PlainHandle}
use Rattle.vhost_joined_reverse.specs.Joined as back
use Rattle.vhost_joined_reverse.specs.Lockstep as back_lockstep
use Rattle.vhost_frontend_core.specs.declared.values.answer.FrontendAnswer.{FrontendAnswer}
use Rattle.vhost_frontend_core.specs.declared.values.call.FrontendCall.{FrontendCall}
use Rattle.vhost_joined.specs.Device.{Gives, opens_backend, opens_gpu}
use Rattle.vhost_joined.specs.Joined.{View, Cuts}
use Rattle.vhost_joined.specs.Lockstep.{entries}

-- The answers that were appended are those of a joined run from two fresh sessions and this device to those of now.
pub record AnswersFresh {Dev : Type 0} (gives : Gives Dev) (queues : ℕ) (device : Dev) (calls : List FrontendCall) (before after : List FrontendAnswer) (now : View Dev) : Type 0 where
  pub answers : List FrontendAnswer
  pub appended : after ≡ before ++ answers
  pub run : JoinedRun gives opens_backend opens_gpu (new_frontend queues) fresh device (entries calls answers) now.frontend now.session now.device

-- the next cut of a link is a fault for good
abbrev pub FailsAtOnce : Cuts → Type 0
FailsAtOnce link = (e : ℤ) × (cuts : List Cut) × (link.script ≡ Fault e ∷ cuts) × (is_retry (Raw e) ≡ false)

-- Memory was wanted: by one of the links, or behind the handler.
pub data WantsMemory {Dev : Type 0} (gives : Gives Dev) (now : View Dev) : Type 0 where
  of_asking : 0 < now.asking.wants → WantsMemory gives now
  of_serving : 0 < now.serving.wants → WantsMemory gives now
  of_handler : (before : View Dev) (w : Written HeardReq PlainHandle) (o : Outcome PlainHandle) → Meets gives opens_backend opens_gpu before.session before.device (read_as w) o now.device → o.answer ≡ Err OutOfMemory
      → WantsMemory gives now

-- what both sides of the reverse channel remember as they begin
abbrev pub new_backend : Backend
new_backend = record { reply_ack = false; shared_object = false; shmem = false; config_change = false; failed = None }

abbrev pub new_server : Server
new_server = record { reply_ack = false; failed = None }

-- The same of the reverse channel.
pub record AnswersFreshBack {Dev : Type 0} (gives : back.Gives Dev) (device : Dev) (calls : List (ReverseCall PlainHandle)) (before after : List (Result ℕ IoError)) (now : back.View Dev) : Type 0 where
  pub answers : List (Result ℕ IoError)
  pub appended : after ≡ before ++ answers
  pub run : ReverseJoinedRun gives new_backend new_server device (back_lockstep.entries calls answers) now.backend now.server now.device
