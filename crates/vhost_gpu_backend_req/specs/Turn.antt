-- A call of a display's channel that many threads share.
use Rattle.std.specs.Prelude.{Result}
use Rattle.vhost_message.specs.declared.io_error.IoError.{IoError}
use Rattle.vhost_gpu_backend_req.specs.Channel.{Channel}

-- In one turn with the channel a call was whole, and this is its result, of an answer and of a failure alike: it is that of the channel which the turn found.
pub record Turn {L H A : Type 0} (whole : Channel L H → Result A IoError → Channel L H → Type 0) (result : Result A IoError) : Type 0 where
  pub old : Channel L H
  pub new : Channel L H
  pub went : whole old result new
