-- A descriptor that is as most are: it names no table, all of its bytes lie in one region, and a chain goes on behind it.
use Rattle.std.proofs.Common.{◌≡◌, ℕ, ◌-◌, ◌<◌, true, false, List, Option, Some, None, Ok, refl, sym, arith, nat_lt, le-ltb}
use Rattle.std.proofs.lemmas.Bool.{false≢true}
use Rattle.std.specs.Option.{ForSome}
use Rattle.std.specs.Prelude.{is_some}
use Rattle.vhost_queue.specs.Chain.{Following, next_of, step}
use Rattle.vhost_queue.specs.Segment.{is_indirect, is_writable, segment_of}
use Rattle.vhost_queue.specs.declared.descriptor.Descriptor.{Descriptor}
use Rattle.vhost_queue.specs.declared.descriptor.Segment.{Segment}
use Rattle.vhost_queue.specs.declared.memory.GuestRegion.{GuestRegion}

pub passes : (rs : List GuestRegion) (f : Following) (d : Descriptor) (next : Option ℕ) (s : Segment)
    → is_some f.next ≡ true → is_some f.rest ≡ false → is_indirect d.flags ≡ false → next_of f d ≡ Ok next
    → segment_of rs f.writing d.addr d.len d.flags ≡ Ok s → s.range.len ≡ d.len
    → step rs f d ≡ Ok (Some s, record f { next = next; left = f.left - 1; writing = is_writable d.flags })
passes rs f d next s more whole bytes of found all = by f.next f.rest refl refl more whole
  where
    same : nat_lt d.len d.len ≡ false
    same = le-ltb d.len d.len (omega arith)

    by : (o : Option ℕ) (r : Option Descriptor) → f.next ≡ o → f.rest ≡ r → is_some o ≡ true → is_some r ≡ false
        → step rs f d ≡ Ok (Some s, record f { next = next; left = f.left - 1; writing = is_writable d.flags })
    by None r e q m w = absurd (false≢true m)
    by (Some i) (Some x) e q m w = absurd (false≢true (sym w))
    by (Some i) None e q m w = rw (e, q, bytes, found, all, same, of) refl

-- a chain that goes on may have one descriptor more
pub some-left : (o : Option ℕ) (n : ℕ) → is_some o ≡ true → ForSome o (λ _. 0 < n) → 0 < n
some-left None n m h = absurd (false≢true m)
some-left (Some i) n m h = h i refl
