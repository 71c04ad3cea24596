-- Chains of descriptors in a split queue: virtio 1.2, 2.7.5.
use Rattle.std.specs.Prelude.{◌≡◌, ◌≤◌, ℕ, ◌+◌, ◌-◌, ◌*◌, Bool, true, false, not, List, [], ◌∷◌, ◌<◌, ◌==◌, nat_lt, Option, Some, None, option_map, is_some, Result, Ok, Err, if◌then◌else◌, max}
use Rattle.vhost_queue.specs.Memory.{translated, LiesIn}
use Rattle.vhost_queue.specs.Segment.{goes_on, is_writable, is_indirect, segment_of, table_entries}
use Rattle.vhost_queue.specs.declared.error.Error.{Error}
use Rattle.vhost_queue.specs.declared.error.Error.TheVariants.{NotInTable, ChainTooLong, UnexpectedIndirect, IndirectGoesOn, ChainEnded}
use Rattle.vhost_queue.specs.declared.chain.DescriptorChain.{DescriptorChain}
use Rattle.vhost_queue.specs.declared.descriptor.Descriptor.{Descriptor}
use Rattle.vhost_queue.specs.declared.descriptor.Segment.{Segment}
use Rattle.vhost_queue.specs.declared.memory.AddressSpace.TheVariants.{Guest}
use Rattle.vhost_queue.specs.declared.memory.GuestRegion.{GuestRegion}
use Rattle.vhost_queue.specs.declared.memory.HostRange.{HostRange}

-- A chain between two segments: where its table is mapped and how many descriptors that has, which is next if there is one, what of that
-- is left where its first bytes came already, how many descriptors may come yet, how many times one may go on in another region,
-- whether a writable segment came, and whether an indirect table may come.
pub record Following : Type 0 where
  pub table : ℕ
  pub entries : ℕ
  pub next : Option ℕ
  pub rest : Option Descriptor
  pub left : ℕ
  pub splits : ℕ
  pub writing : Bool
  pub nests : Bool

abbrev pub following : DescriptorChain → Following
following c = record { table = c.table; entries = c.entries; next = c.next; rest = c.rest; left = c.left; splits = c.splits; writing = c.writing; nests = c.nests }

-- how many descriptors with bytes a chain has at most
abbrev pub limit_of : DescriptorChain → ℕ
limit_of c = c.limit

-- .. : as many as the queue has, and with indirect tables 1024 at least, since drivers make tables that are longer than their queue
abbrev pub segment_limit : ℕ → Bool → ℕ
segment_limit size nests = if nests then max size 1024 else size

-- It begins at its head in the queue's table. Its descriptors go on in another region 508 times at most: so many borders lie between 509
-- regions.
abbrev pub begun : ℕ → ℕ → ℕ → Bool → ℕ → Result Following Error
begun table size limit nests head =
    if nat_lt head size then Ok (record { table = table; entries = size; next = Some head; rest = None; left = limit; splits = 508; writing = false; nests = nests })
    else Err NotInTable

-- the 16 bytes of the descriptor that is next; none of them where its first bytes came already
abbrev pub place_of : Following → Option HostRange
place_of f = option_map (λ i. record { addr = f.table + 16 * i; len = if is_some f.rest then 0 else 16 }) f.next

-- which descriptor comes behind one of this value: one of the table, where one more may come
abbrev pub next_of : Following → Descriptor → Result (Option ℕ) Error
next_of f d =
    if not (goes_on d.flags) then Ok None
    else if not (nat_lt d.next f.entries) then Err NotInTable
    else if f.left == 1 then Err ChainTooLong
    else Ok (Some d.next)

-- the chain behind its next descriptor
abbrev pub behind : Following → Descriptor → Result (Option ℕ) Error → Result Following Error
behind f d (Ok next) = Ok (record f { next = next; rest = None; left = f.left - 1; writing = is_writable d.flags })
behind f d (Err e) = Err e

abbrev pub after : Following → Descriptor → Result Following Error
after f d = behind f d (next_of f d)

-- a segment, and the chain behind it
abbrev pub with_segment : Segment → Result Following Error → Result (Option Segment × Following) Error
with_segment s (Ok rest) = Ok (Some s, rest)
with_segment s (Err e) = Err e

-- what is left of a descriptor's range behind its first n bytes
abbrev pub rest_of : Descriptor → ℕ → Descriptor
rest_of d n = record d { addr = d.addr + n; len = d.len - n }

-- the chain behind the first n bytes of a descriptor, which goes on in another region
abbrev pub split : Following → Descriptor → ℕ → Result Following Error
split f d n =
    if f.splits == 0 then Err ChainTooLong
    else Ok (record f { rest = Some (rest_of d n); splits = f.splits - 1; writing = is_writable d.flags })

-- the chain behind n bytes of its next descriptor
abbrev pub gone_on : Following → Descriptor → ℕ → Result Following Error
gone_on f d n = if nat_lt n d.len then split f d n else after f d

abbrev pub followed : Following → Descriptor → Result Segment Error → Result (Option Segment × Following) Error
followed f d (Ok s) = with_segment s (gone_on f d s.range.len)
followed f d (Err e) = Err e

-- the chain goes on at the first of n descriptors that are mapped there
abbrev pub entered : Following → ℕ → Result HostRange Error → Result (Option Segment × Following) Error
entered f n (Ok range) = Ok (None, record f { table = range.addr; entries = n; next = Some 0; rest = None; nests = false })
entered f n (Err e) = Err e

abbrev pub entering : List GuestRegion → Following → Descriptor → Result ℕ Error → Result (Option Segment × Following) Error
entering rs f d (Ok n) = entered f n (translated Guest rs d.addr d.len)
entering rs f d (Err e) = Err e

-- .. in the indirect table that a descriptor of this value names
abbrev pub nested : List GuestRegion → Following → Descriptor → Result (Option Segment × Following) Error
nested rs f d =
    if not f.nests then Err UnexpectedIndirect
    else if goes_on d.flags then Err IndirectGoesOn
    else entering rs f d (table_entries d.len f.left)

-- what the value of the next descriptor makes of a chain that goes on
abbrev pub step_at : List GuestRegion → Following → Descriptor → Result (Option Segment × Following) Error
step_at rs f d =
    if is_indirect d.flags then nested rs f d
    else followed f d (segment_of rs f.writing d.addr d.len d.flags)

abbrev pub step_next : List GuestRegion → Following → Option ℕ → Descriptor → Result (Option Segment × Following) Error
step_next rs f (Some _) d = step_at rs f d
step_next rs f None d = Err ChainEnded

-- what the chain goes on with: the rest of a descriptor, or else the next one, of this value
abbrev pub next_value : Option Descriptor → Descriptor → Descriptor
next_value (Some rest) d = rest
next_value None d = d

-- what the value of the next descriptor makes of a chain: a segment, or none where it names an indirect table, and the chain
-- behind it; or why it is refused
abbrev pub step : List GuestRegion → Following → Descriptor → Result (Option Segment × Following) Error
step rs f d = step_next rs f f.next (next_value f.rest d)

-- where the table is mapped that the chain is in
abbrev pub table_of : Following → HostRange
table_of f = record { addr = f.table; len = 16 * f.entries }

-- What a step gives: a segment that lies in a region, and is writable if one before it was; or an indirect table that lies in a
-- region, where one may come.
abbrev pub GoesOn : List GuestRegion → Following → Option Segment → Following → Type 0
GoesOn rs f (Some s) g = LiesIn rs s.range × (f.writing ≡ true → s.writable ≡ true) × (g.writing ≡ s.writable) × (g.left + g.splits + 1 ≡ f.left + f.splits) × (table_of g ≡ table_of f) × (g.nests ≡ f.nests)
GoesOn rs f None g = LiesIn rs (table_of g) × (g.writing ≡ f.writing) × (g.left ≡ f.left) × (g.splits ≡ f.splits) × (f.nests ≡ true) × (g.nests ≡ false)

-- Which of a descriptor's bytes a segment is, and what comes then: all that are left, and the next descriptor; or the first, and the rest.
-- One that gives none names a table.
abbrev pub IsPart : Descriptor → Option Segment → Option Descriptor → Type 0
IsPart d None _ = is_indirect d.flags ≡ true
IsPart d (Some s) None = (s.guest_addr ≡ d.addr) × (s.writable ≡ is_writable d.flags) × (s.range.len ≡ d.len)
IsPart d (Some s) (Some rest) = (s.guest_addr ≡ d.addr) × (s.writable ≡ is_writable d.flags) × (0 < s.range.len) × (s.range.len < d.len) × (rest ≡ rest_of d s.range.len)

-- segments that are n bytes at an address of the guest, in their order
abbrev pub Covers : ℕ → ℕ → List Segment → Type 0
Covers a n [] = n ≡ 0
Covers a n (s ∷ rest) = (s.guest_addr ≡ a) × (s.range.len ≤ n) × Covers (a + s.range.len) (n - s.range.len) rest

-- it is at the head of a chain in a table that is mapped there, and may have so many descriptors
abbrev pub Begins : HostRange → ℕ → Following → Type 0
Begins table limit f = (table_of f ≡ table) × (f.left ≡ limit) × (f.splits ≡ 508) × (f.rest ≡ None) × (f.writing ≡ false)
