-- Handles that are given out, the last one first.
use Rattle.std.specs.Prelude.{◌≡◌, ◌-◌, ◌⊎◌, Bool, if◌then◌else◌, List, length, take, slice_get, Option, Some, None, Result, Ok, Err}
use Rattle.vhost_message.specs.declared.cause.IoCause.{IoCause}
use Rattle.vhost_protocol.specs.Error.{Error, InvalidParam, ReqHandlerError, seen_cause}

-- the last of some
abbrev pub last : {H : Type 0} → List H → Option H
last handles = slice_get handles (length handles - 1)

-- all but the last
abbrev pub but_last : {H : Type 0} → List H → List H
but_last handles = take (length handles - 1) handles

-- what is left once the last one was given out, or was not
abbrev pub left : {H : Type 0} → Bool → List H → List H
left given handles = if given then but_last handles else handles

-- the last one; InvalidParam where there is none
abbrev pub IsLast : {H : Type 0} → List H → Result H Error → Type 0
IsLast handles (Ok file) = last handles ≡ Some file
IsLast handles (Err e) = (last handles ≡ None) × (e ≡ InvalidParam)

-- the last one and its copy; InvalidParam where there is none, and the copy's cause where that one can't be copied
abbrev pub IsLastCopied : {H : Type 0} → (H → Result H IoCause → Type 0) → List H → Result (H × H) Error → Type 0
IsLastCopied copies handles (Ok both) = (last handles ≡ Some both.0) × copies both.0 (Ok both.1)
IsLastCopied {H} copies handles (Err e) = IsLast handles (Err e)
    ⊎ ((file : H) × (cause : IoCause) × (last handles ≡ Some file) × copies file (Err cause) × (e ≡ ReqHandlerError (seen_cause cause)))
