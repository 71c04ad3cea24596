-- What one descriptor makes of a chain, in both kinds of queue: virtio 1.2, 2.7.5 and 2.8.
use Rattle.std.specs.Prelude.{◌≡◌, ℕ, ◌/◌, ◌%◌, ◌≤◌, Bool, true, not, All, AllPairs, ◌&&◌, ◌||◌, List, ◌==◌, nat_lt, bit_and, length, Result, Ok, Err, if◌then◌else◌}
use Rattle.vhost_queue.specs.Memory.{translated_part, LiesIn}
use Rattle.vhost_queue.specs.declared.error.Error.{Error}
use Rattle.vhost_queue.specs.declared.error.Error.TheVariants.{EmptyDescriptor, ChainTooLong, ReadableAfterWritable, InvalidIndirectLength}
use Rattle.vhost_queue.specs.declared.descriptor.Segment.{Segment}
use Rattle.vhost_queue.specs.declared.memory.GuestRegion.{GuestRegion}
use Rattle.vhost_queue.specs.declared.memory.HostRange.{HostRange}

-- VIRTQ_DESC_F_NEXT, _WRITE and _INDIRECT
abbrev pub goes_on : ℕ → Bool
goes_on flags = not (bit_and flags 1 == 0)

abbrev pub is_writable : ℕ → Bool
is_writable flags = not (bit_and flags 2 == 0)

abbrev pub is_indirect : ℕ → Bool
is_indirect flags = not (bit_and flags 4 == 0)

-- the segment of a descriptor whose bytes are mapped there
abbrev pub segment_at : ℕ → ℕ → Result HostRange Error → Result Segment Error
segment_at addr flags (Ok range) = Ok (record { range = range; guest_addr = addr; writable = is_writable flags })
segment_at addr flags (Err e) = Err e

-- the segment of the first bytes of a descriptor of these values, those that lie in one region; where a writable one came before it or not
abbrev pub segment_of : List GuestRegion → Bool → ℕ → ℕ → ℕ → Result Segment Error
segment_of rs writing addr n flags =
    if writing && not (is_writable flags) then Err ReadableAfterWritable
    else if n == 0 then Err EmptyDescriptor
    else segment_at addr flags (translated_part rs addr n)

-- how many descriptors an indirect table of n bytes has, where so many may come
abbrev pub table_entries : ℕ → ℕ → Result ℕ Error
table_entries n left =
    if (n == 0) || not (n % 16 == 0) then Err InvalidIndirectLength
    else if nat_lt left (n / 16) then Err ChainTooLong
    else Ok (n / 16)

-- after a writable segment come writable ones
abbrev pub ReadableFirst : List Segment → Type 0
ReadableFirst segments = AllPairs (λ s t. s.writable ≡ true → t.writable ≡ true) segments

-- what a device may rely on, whatever the guest wrote: each segment lies in one region, there are no more of them than there may
-- be, and readable ones come first
pub record IsSafe (rs : List GuestRegion) (limit : ℕ) (segments : List Segment) : Type 0 where
  pub inside : All (λ s. LiesIn rs s.range) segments
  pub few : length segments ≤ limit
  pub ordered : ReadableFirst segments
