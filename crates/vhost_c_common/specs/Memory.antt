-- A call that fails for want of memory alone.
use Rattle.std.specs.Prelude.{◌≡◌, ⊤}
use Rattle.vhost_message.specs.declared.cause.IoCause.TheVariants.{Raw}
use Rattle.vhost_message.specs.declared.errno.TheConstants.{ENOMEM}
use Rattle.vhost_message.specs.declared.error.Error.TheVariants.{OutOfMemory, SocketRetry}
use Rattle.vhost_c_common.specs.declared.refusal.Refusal.{Refusal}
use Rattle.vhost_c_common.specs.declared.refusal.Refusal.TheVariants.{Protocol}

-- memory was refused, and nothing else is the cause
abbrev pub WantsMemory : Refusal → Type 0
WantsMemory (Protocol OutOfMemory) = ⊤
WantsMemory (Protocol (SocketRetry c)) = c ≡ Raw ENOMEM
WantsMemory r = ⊥
