-- The numbers of enum covretin_queue_error.
use Rattle.std.specs.Prelude.{ℕ, Result, Ok, Err, ⊤}
use Rattle.vhost_queue.specs.declared.error.Error.{Error}
use Rattle.vhost_queue.specs.declared.error.Error.TheVariants.{InvalidRegion, RegionOverlap, TooManyRegions, NoSuchRegion, InvalidSize, Unaligned, InvalidBase, InvalidInflight, NotInGuest, EmptyDescriptor, NotInTable, ChainTooLong, ReadableAfterWritable, UnexpectedIndirect, IndirectGoesOn, InvalidIndirectLength, TooManyAvailable, HeadInUse, NeedsReset, NothingAvailable, ChainEnded, NotHandedOut, OutOfMemory}
use Rattle.vhost_c_queue.specs.declared.refusal.Refusal.{Refusal}
use Rattle.vhost_c_queue.specs.declared.refusal.Refusal.TheVariants.{Queue, NoQueue, QueueOpen, NotStarted, OtherLayout, NoRoom}

abbrev pub error_number : Error → ℕ
error_number InvalidRegion = 1
error_number RegionOverlap = 2
error_number TooManyRegions = 3
error_number NoSuchRegion = 4
error_number InvalidSize = 5
error_number Unaligned = 6
error_number InvalidBase = 7
error_number InvalidInflight = 8
error_number NotInGuest = 9
error_number EmptyDescriptor = 10
error_number NotInTable = 11
error_number ChainTooLong = 13
error_number ReadableAfterWritable = 14
error_number UnexpectedIndirect = 15
error_number IndirectGoesOn = 16
error_number InvalidIndirectLength = 17
error_number TooManyAvailable = 18
error_number HeadInUse = 19
error_number NeedsReset = 20
error_number NothingAvailable = 21
error_number ChainEnded = 22
error_number NotHandedOut = 23
error_number OutOfMemory = 24

abbrev pub number : Refusal → ℕ
number (Queue e) = error_number e
number NoQueue = 101
number QueueOpen = 102
number NotStarted = 103
number OtherLayout = 104
number NoRoom = 105

-- 0, or why a call was refused
abbrev pub outcome_number : Result ⊤ Refusal → ℕ
outcome_number (Ok _) = 0
outcome_number (Err r) = number r
