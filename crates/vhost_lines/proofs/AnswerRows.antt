-- Worked examples, which hold by computing.
use Rattle.std.proofs.Common.{◌≡◌, ℕ, [], ◌∷◌, ◌++◌, map, Some, None, Vec, Box, refl, ap, codes}
use Rattle.std.specs.Borrow.{Bor}
use Rattle.std.specs.Prelude.{List}
use Rattle.std.specs.Fmt.{digits}
use Rattle.std.specs.Global.{Global}
use Rattle.vhost_link.specs.declared.plain.PlainHandle.{PlainHandle}
use Rattle.vhost_link.specs.declared.handle.Kind.TheVariants.{NoSocket}
use Rattle.vhost_message.specs.declared.cause.IoCause.{IoCause}
use Rattle.vhost_message.specs.declared.error.Error.TheVariants.{InvalidParam, InvalidOperation, InactiveFeature, InactiveOperation, InvalidMessage, InvalidSocketFd, NotUnixSocket, NotStreamSocket, PartialMessage, Disconnected, OversizedMsg, IncorrectFds, SocketError, SocketConnect, SocketBroken, SocketRetry, BackendInternalError, FrontendInternalError, FeatureMismatch, ReqHandlerError, MemFdCreateError, FileTruncateError, MemFdSealError, OutOfMemory}
use Rattle.vhost_message.specs.declared.records.config.VhostUserConfig.{VhostUserConfig}
use Rattle.vhost_frontend_core.specs.declared.values.answer.FrontendAnswer.TheVariants.{Failed, Done, Number, Bases, Base, Config, Handle, Inflight, StateHandle, ShmemConfig}
use Rattle.vhost_lines.specs.Numbers.{numbers_text}
use Rattle.vhost_message.specs.declared.records.shmem.VhostUserShMemConfig.{VhostUserShMemConfig}
use Rattle.vhost_lines.specs.Text.{message_text, part_text, regions_text, answer_text}

-- a handle by its number
abbrev pub plain : ℕ → PlainHandle
plain id = record { id = id; kind = NoSocket }

pub message-handles : message_text (28 ∷ 255 ∷ []) (plain 1 ∷ plain 20 ∷ []) ≡ codes "1cff[1,20]"
unfolding digits
message-handles = refl

pub message-bytes : message_text (0 ∷ 15 ∷ 165 ∷ []) [] ≡ codes "000fa5"
unfolding digits
message-bytes = refl

pub message-three : message_text (5 ∷ []) (plain 1 ∷ plain 20 ∷ plain 1000 ∷ []) ≡ codes "05[1,20,1000]"
unfolding digits
message-three = refl

pub message-empty : message_text [] [] ≡ codes "-"
message-empty = refl

pub message-none : message_text [] (plain 1 ∷ []) ≡ codes "-"
message-none = refl

pub done : answer_text Done ≡ codes "ok"
done = refl

pub number-zero : answer_text (Number 0) ≡ codes "ok 0x0"
unfolding digits
number-zero = refl

pub number-greatest : answer_text (Number 0xffff_ffff_ffff_ffff) ≡ codes "ok 0xffffffffffffffff"
unfolding digits
number-greatest = refl

pub number-features : answer_text (Number 0x4000_0003) ≡ codes "ok 0x40000003"
unfolding digits
number-features = refl

pub bases-none : answer_text (Bases None) ≡ codes "ok none"
bases-none = refl

pub bases-two : (v : Vec ℕ Global) → v.items ≡ 0x7000 ∷ 0x9000 ∷ [] → answer_text (Bases (Some v)) ≡ codes "ok 0x7000,0x9000"
unfolding digits
bases-two v e = ap (λ ns. codes "ok " ++ numbers_text ns) e

pub bases-greatest : (v : Vec ℕ Global) → v.items ≡ 0xffff_ffff_ffff_ffff ∷ [] → answer_text (Bases (Some v)) ≡ codes "ok 0xffffffffffffffff"
unfolding digits
bases-greatest v e = ap (λ ns. codes "ok " ++ numbers_text ns) e

pub base-none : answer_text (Base None) ≡ codes "ok none"
base-none = refl

pub bases-empty : (v : Vec ℕ Global) → v.items ≡ [] → answer_text (Bases (Some v)) ≡ codes "ok -"
bases-empty v e = ap (λ ns. codes "ok " ++ numbers_text ns) e

pub base-one : answer_text (Base (Some 0x7000)) ≡ codes "ok 0x7000"
unfolding digits
base-one = refl

-- four bytes from 0x100 on
abbrev pub part : VhostUserConfig
part = record { offset = 0x100; size = 4; flags = 0 }

pub config-four : (v : Vec ℕ Global) → v.items ≡ 0xa5 ∷ 0xa5 ∷ 0xa5 ∷ 0xa5 ∷ [] → answer_text (Config part v) ≡ codes "ok 0x100 0x4 0x0 a5a5a5a5"
unfolding digits
config-four v e = ap (λ bytes. codes "ok " ++ part_text part bytes) e

-- none, and it may be written
abbrev pub empty_part : VhostUserConfig
empty_part = record { offset = 0x100; size = 4; flags = 1 }

pub config-none : (v : Vec ℕ Global) → v.items ≡ [] → answer_text (Config empty_part v) ≡ codes "ok 0x100 0x4 0x1 -"
unfolding digits
config-none v e = ap (λ bytes. codes "ok " ++ part_text empty_part bytes) e

pub handle-one : answer_text (Handle (plain 100)) ≡ codes "ok [100]"
unfolding digits
handle-one = refl

pub state_handle-none : answer_text (StateHandle None) ≡ codes "ok none"
state_handle-none = refl

pub state_handle-one : answer_text (StateHandle (Some (plain 100))) ≡ codes "ok [100]"
unfolding digits
state_handle-one = refl

pub inflight-area : answer_text (Inflight (record { mmap_size = 0x1000; mmap_offset = 0; num_queues = 2; queue_size = 0x100 }) (plain 100)) ≡ codes "ok 0x1000 0x0 0x2 0x100 [100]"
unfolding digits
inflight-area = refl

pub shmem_config-two : (place : Box VhostUserShMemConfig Global) → place.value ≡ record { nregions = 2; padding = 0; memory_sizes = 0x1000 ∷ 0 ∷ 0xa_0000 ∷ [] } → answer_text (ShmemConfig place) ≡ codes "ok 0x2 0x1000,0x0,0xa0000"
unfolding digits
shmem_config-two place is = ap (λ (c : VhostUserShMemConfig). codes "ok " ++ regions_text c) is

-- errors without a value
pub errors-bare : map (λ e. answer_text (Failed e)) (InvalidParam ∷ InvalidMessage ∷ NotUnixSocket ∷ NotStreamSocket ∷ PartialMessage ∷ Disconnected ∷ OversizedMsg ∷ IncorrectFds ∷ BackendInternalError ∷ FrontendInternalError ∷ FeatureMismatch ∷ MemFdCreateError ∷ FileTruncateError ∷ MemFdSealError ∷ OutOfMemory ∷ [])
    ≡ codes "err InvalidParam" ∷ codes "err InvalidMessage" ∷ codes "err NotUnixSocket" ∷ codes "err NotStreamSocket" ∷ codes "err PartialMessage" ∷ codes "err Disconnected" ∷ codes "err OversizedMsg" ∷ codes "err IncorrectFds" ∷ codes "err BackendInternalError" ∷ codes "err FrontendInternalError" ∷ codes "err FeatureMismatch" ∷ codes "err MemFdCreateError" ∷ codes "err FileTruncateError" ∷ codes "err MemFdSealError" ∷ codes "err OutOfMemory" ∷ []
errors-bare = refl

-- errors of a cause, which is not shown
pub errors-caused : (cause : IoCause) → map (λ e. answer_text (Failed e)) (InvalidSocketFd cause ∷ SocketError cause ∷ SocketConnect cause ∷ SocketBroken cause ∷ SocketRetry cause ∷ ReqHandlerError cause ∷ [])
    ≡ codes "err InvalidSocketFd" ∷ codes "err SocketError" ∷ codes "err SocketConnect" ∷ codes "err SocketBroken" ∷ codes "err SocketRetry" ∷ codes "err ReqHandlerError" ∷ []
errors-caused cause = refl

pub error-operation : (reason : Bor (List ℕ)) → answer_text (Failed (InvalidOperation reason)) ≡ codes "err InvalidOperation"
error-operation reason = refl

pub error-feature : answer_text (Failed (InactiveFeature (record { bits = 0x4000_0000 }))) ≡ codes "err InactiveFeature 0x40000000"
unfolding digits
error-feature = refl

pub error-protocol_feature : answer_text (Failed (InactiveOperation (record { bits = 0x10 }))) ≡ codes "err InactiveOperation 0x10"
unfolding digits
error-protocol_feature = refl
