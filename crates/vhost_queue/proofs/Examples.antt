-- Worked examples, by computing.
use Rattle.std.proofs.Common.{◌≡◌, true, false, None, Some, Ok, Err, List, [], ◌∷◌, refl}
use Rattle.vhost_queue.specs.Chain.{Following, step}
use Rattle.vhost_queue.specs.Inflight.{pending, settled}
use Rattle.vhost_queue.specs.Memory.{translated}
use Rattle.vhost_queue.specs.Notification.{moved, next_index}
use Rattle.vhost_queue.specs.PackedInflight.{free_in, holding, places}
use Rattle.vhost_queue.specs.Segment.{table_entries}
use Rattle.vhost_queue.specs.Wrap.{advanced, is_available, position_of, number_of}
use Rattle.vhost_queue.specs.declared.descriptor.Descriptor.{Descriptor}
use Rattle.vhost_queue.specs.declared.error.Error.TheVariants.{NotInGuest, NotInTable, ChainTooLong, ReadableAfterWritable, UnexpectedIndirect, InvalidIndirectLength, InvalidInflight}
use Rattle.vhost_queue.specs.declared.inflight.InflightEntry.{InflightEntry}
use Rattle.vhost_queue.specs.declared.memory.AddressSpace.TheVariants.{Guest, User}
use Rattle.vhost_queue.specs.declared.memory.GuestRegion.{GuestRegion}
use Rattle.vhost_queue.specs.declared.packed_inflight.PackedInflightHead.{PackedInflightHead}

-- a region of a guest
abbrev high : GuestRegion
high = record { guest_addr = 0x100000; size = 0x1000; user_addr = 0x7f0000100000; host_addr = 0x20000000 }

abbrev regions : List GuestRegion
regions = high ∷ []

last_byte : translated Guest regions 0x100fff 1 ≡ Ok (record { addr = 0x20000fff; len = 1 })
last_byte = refl

byte_behind : translated Guest regions 0x100fff 2 ≡ Err NotInGuest
byte_behind = refl

by_frontend : translated User regions 0x7f0000100010 16 ≡ Ok (record { addr = 0x20000010; len = 16 })
by_frontend = refl

-- an index goes on past 16 bits
passes_zero : moved 65534 1 ≡ 3
passes_zero = refl

behind_last : next_index 65535 ≡ 0
behind_last = refl

-- a chain of a queue of four, at its head: a readable segment, which goes on at 1
abbrev head : Following
head = record { table = 0x20000000; entries = 4; next = Some 0; rest = None; left = 4; splits = 508; writing = false; nests = false }

abbrev first : Descriptor
first = record { addr = 0x100010; len = 16; flags = 1; next = 1 }

goes_on_at : step regions head first ≡ Ok (
  Some (record { range = record { addr = 0x20000010; len = 16 }; guest_addr = 0x100010; writable = false }),
  record head { next = Some 1; left = 3 },
)
goes_on_at = refl

-- one that lies in two regions: a segment of each; what the second step is given is nothing to it
abbrev above : GuestRegion
above = record { guest_addr = 0x101000; size = 0x1000; user_addr = 0x7f0000200000; host_addr = 0x40000000 }

abbrev rest : Descriptor
rest = record { addr = 0x101000; len = 8; flags = 1; next = 1 }

at_a_border : step (high ∷ above ∷ []) head (record first { addr = 0x100ff8 }) ≡ Ok (
  Some (record { range = record { addr = 0x20000ff8; len = 8 }; guest_addr = 0x100ff8; writable = false }),
  record head { rest = Some rest; splits = 507 },
)
at_a_border = refl

behind_the_border : step (high ∷ above ∷ []) (record head { rest = Some rest; splits = 507 }) (record first { flags = 4; next = 9 }) ≡ Ok (
  Some (record { range = record { addr = 0x40000000; len = 8 }; guest_addr = 0x101000; writable = false }),
  record head { next = Some 1; left = 3; splits = 507 },
)
behind_the_border = refl

no_region_goes_on : step regions (record head { rest = Some rest; splits = 507 }) first ≡ Err NotInGuest
no_region_goes_on = refl

-- .. and behind the first one that goes back, one that leaves the table, and an indirect table that was not negotiated
abbrev second : Following
second = record head { next = Some 1; left = 3 }

loop_of_one : step regions (record second { left = 1 }) first ≡ Err ChainTooLong
loop_of_one = refl

next_past_the_table : step regions second (record first { next = 4 }) ≡ Err NotInTable
next_past_the_table = refl

not_negotiated : step regions second (record first { flags = 4 }) ≡ Err UnexpectedIndirect
not_negotiated = refl

readable_behind : step regions (record second { writing = true }) first ≡ Err ReadableAfterWritable
readable_behind = refl

-- indirect tables of 32 bytes, of 33, and of more descriptors than may come
whole_table : table_entries 32 4 ≡ Ok 2
whole_table = refl

odd_table : table_entries 33 4 ≡ Err InvalidIndirectLength
odd_table = refl

long_table : table_entries 80 4 ≡ Err ChainTooLong
long_table = refl

-- a packed ring of three: from its last place two on, and the flags at which a descriptor is available there
wraps : advanced 3 (record { index = 2; wrap = true }) 2 ≡ record { index = 1; wrap = false }
wraps = refl

available_in_round_one : is_available true 0x0080 ≡ true
available_in_round_one = refl

used_in_round_one : is_available true 0x8080 ≡ false
used_in_round_one = refl

available_in_round_two : is_available false 0x8000 ≡ true
available_in_round_two = refl

as_sixteen_bits : number_of (position_of 0x8002) ≡ 0x8002
as_sixteen_bits = refl

-- the heads 0, 1 and 2 were in flight, and the used ring tells of one more than the region, which 2 was
abbrev entries : List InflightEntry
entries = record { inflight = true; next = 0; counter = 9 } ∷ record { inflight = true; next = 0; counter = 5 } ∷ record { inflight = true; next = 0; counter = 7 } ∷ []

one_settled : settled entries 2 65535 0 ≡ Ok (false ∷ false ∷ true ∷ [])
one_settled = refl

more_than_there_are : settled entries 2 65535 3 ≡ Err InvalidInflight
more_than_there_are = refl

two_again : pending entries (false ∷ false ∷ true ∷ []) 0 ≡ record { counter = 9; head = 0 } ∷ record { counter = 5; head = 1 } ∷ []
two_again = refl

-- Of a packed queue of four, requests of two entries and of one are in flight, which begin at 0 and at 2; 3 is free. The later state says
-- that the first of them was used.
abbrev packed_entries : List InflightEntry
packed_entries = record { inflight = true; next = 1; counter = 8 } ∷ record { inflight = false; next = 3; counter = 0 } ∷ record { inflight = true; next = 3; counter = 6 } ∷ record { inflight = false; next = 4; counter = 0 } ∷ []

abbrev before : PackedInflightHead
before = record { free_head = 3; used_idx = 3; used_wrap_counter = true }

abbrev later : PackedInflightHead
later = record { free_head = 0; used_idx = 1; used_wrap_counter = false }

-- the driver was told of that, or else its descriptor is as it was made available
told_of : holding later before 0x8080 ≡ later
told_of = refl

not_told_of : holding later before 0x0080 ≡ before
not_told_of = refl

-- .. and made the descriptor available again, a round later
available_again : holding later before 0x8000 ≡ later
available_again = refl

one_free : free_in packed_entries before ≡ Ok (false ∷ false ∷ false ∷ true ∷ [])
one_free = refl

three_free : free_in packed_entries later ≡ Ok (true ∷ true ∷ false ∷ true ∷ [])
three_free = refl

free_in_a_ring : free_in (record { inflight = false; next = 0; counter = 0 } ∷ []) (record { free_head = 0; used_idx = 0; used_wrap_counter = true }) ≡ Err InvalidInflight
free_in_a_ring = refl

place_behind_the_ring : free_in packed_entries (record before { used_idx = 4 }) ≡ Err InvalidInflight
place_behind_the_ring = refl

-- the place 0 of the second round, where 3 of the first was
places_of_both : places (record { index = 0; wrap = false }) (record { index = 3; wrap = true }) ≡ 0x10000030000
places_of_both = refl
