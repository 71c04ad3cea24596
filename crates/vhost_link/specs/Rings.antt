-- What a link between two threads does.
use Rattle.std.specs.Prelude.{◌≡◌, ℕ, ◌+◌, ◌<◌, ◌≤◌, ◌⊎◌, ⊤, List, [], ◌∷◌, ◌++◌, length, map, Result, Ok, Err, Option, None, Some, codes}
use Rattle.std.specs.Global.{Global}
use mathlib.Core.List.{IsPrefix}
use denote.RawPtr.{Ptr}
use Rattle.rtrb.specs.Shared.{Names}
use Rattle.rtrb.specs.declared.end.End.{End as RingEnd}
use Rattle.rtrb.specs.declared.producer.Producer.{Producer}
use Rattle.rtrb.specs.declared.consumer.Consumer.{Consumer}
use Rattle.rtrb.specs.declared.finished.Finished.{Finished}
use Rattle.rtrb.specs.Ring.{sent, received, known_free, known_items, all_sent}
use Rattle.vhost_message.specs.declared.cause.IoCause.{IoCause}
use Rattle.vhost_message.specs.declared.cause.IoCause.TheVariants.{Raw, Named}
use Rattle.vhost_message.specs.declared.errno.TheConstants.{EAGAIN, ENOMEM}
use Rattle.vhost_protocol.specs.Pieces.{cells_behind}
use Rattle.vhost_protocol.specs.Stream.{Cell, Item, Byte, End}
use Rattle.vhost_link.specs.declared.piece.Piece.{Piece}
use Rattle.vhost_link.specs.declared.plain.PlainHandle.{PlainHandle}
use Rattle.vhost_link.specs.Law.{Event, Handed, Ended, Taken, Refused, Receives, Move, Moved}
use Rattle.vhost_link.specs.Pieces.{stream_piece, cells_of, pieces_in}

-- which ring it is
pub record Ring : Type 0 where
  pub words : Ptr
  pub slots : Ptr
  pub names : Names
  pub heap : Global

abbrev pub ring : {P : Type 0} → RingEnd Piece Global P → Ring
ring e = record { words = e.words; slots = e.slots; names = e.names; heap = e.heap }

-- One end of a link between two threads.
pub record RingEnds : Type 0 where
  -- the ring that it sends to, and the one that it receives from
  pub output : Ring
  pub input : Ring
  -- all that it took in and all that it handed out
  pub sent : List (Cell PlainHandle)
  pub received : List (Cell PlainHandle)
  -- how many pieces its ring is known to have room for
  pub room : ℕ
  -- what is known to have come, and was not handed out yet
  pub ready : List (Cell PlainHandle)

-- what the two rings and the handles that wait for their byte come to
abbrev pub ends_of : {P : Type 0} → Producer Piece Global P → Consumer Piece Global P → List PlainHandle → RingEnds
ends_of output input kept = record {
  output = ring output.end;
  input = ring input.end;
  sent = cells_of (sent output);
  received = cells_of (received input);
  room = known_free output;
  ready = cells_behind kept (map stream_piece (known_items input));
}

-- an end of a new link, whose rings have room for so many pieces
abbrev pub new_ends : Ring → Ring → ℕ → RingEnds
new_ends output input capacity = record { output = output; input = input; sent = []; received = []; room = capacity; ready = [] }

-- Both ends of a new link: each receives from the ring that the other sends to.
abbrev pub AreNewEnds : ℕ → RingEnds → RingEnds → Type 0
AreNewEnds capacity a b = (a ≡ new_ends a.output a.input capacity) × (b ≡ new_ends a.input a.output capacity)

-- Cells that are handed out and those that are ready then begin with those that were ready before, and where one was ready the
-- end is not told. A send appends cells to what was taken in, or fails with `EAGAIN`.
abbrev pub event : RingEnds → Event PlainHandle → RingEnds → Type 0
event old (Handed cs) new = (0 < length cs) × IsPrefix old.ready (cs ++ new.ready) × (new ≡ record old { received = old.received ++ cs; ready = new.ready })
event old Ended new = (old.ready ≡ []) × (new ≡ old)
event old (Taken cs) new = (0 < length cs) × (old.room ≤ new.room + pieces_in cs) × (new ≡ record old { sent = old.sent ++ cs; room = new.room })
event old (Refused c) new = (c ≡ Raw EAGAIN) × (old.room ≤ new.room) × (new ≡ record old { room = new.room })

-- A send takes in all the bytes that there is room for. It fails only where there is none for the handles and one byte.
abbrev pub Fills : ℕ → ℕ → Result ℕ IoCause → RingEnds → Type 0
Fills bytes handles (Ok n) new = n < bytes → new.room ≡ 0
Fills bytes handles (Err c) new = new.room ≤ handles

-- A receive that does not wait: it is one of the link, or nothing is there and nothing changes.
abbrev pub TriesReceive : RingEnds → List ℕ → Option ℕ → List ℕ → List PlainHandle → RingEnds → Type 0
TriesReceive old before (Some n) after handles new = Receives event old before (Ok n) after handles new
TriesReceive old before None after handles new = (old.ready ≡ []) × (new ≡ old) × (after ≡ before) × (handles ≡ [])

-- the first cell brings handles, if there is any
abbrev pub BeginsWithHandles : {H : Type 0} → List (Cell H) → Type 0
BeginsWithHandles [] = ⊤
BeginsWithHandles (c ∷ cells) = 0 < length c.handles

-- A receive hands out all that is ready, up to the next byte with handles or the end of the room.
abbrev pub FillsRoom : ℕ → Option ℕ → RingEnds → Type 0
FillsRoom room None new = ⊤
FillsRoom room (Some n) new = n < room → BeginsWithHandles new.ready

-- All that an end sent which sends no more, and its ring.
pub record AllSent : Type 0 where
  pub ring : Ring
  pub cells : List (Cell PlainHandle)

abbrev pub all_of : {P : Type 0} → Finished Piece Global P → AllSent
all_of finished = record { ring = ring finished.end; cells = cells_of (all_sent finished) }

-- What was received, and behind it what is ready, is all that the other end sent; so many pieces are left of it.
pub record Compared (token : AllSent) (old : RingEnds) (left : ℕ) (new : RingEnds) : Type 0 where
  pub all : new.received ++ new.ready ≡ token.cells
  pub count : left ≡ pieces_in new.ready
  pub known : IsPrefix old.ready new.ready
  pub same : new ≡ record old { ready = new.ready }

-- a number that is none of the hub's, or no longer
abbrev pub IsNoSuchEnd : IoCause → Type 0
IsNoSuchEnd (Raw e) = ⊥
IsNoSuchEnd (Named name) = name.now ≡ codes "no such end"

-- A handle opens to some link, or its number is none of the hub's, or the hub could not be shared once more.
abbrev pub OpensEnd : Result RingEnds IoCause → Type 0
OpensEnd (Ok l) = ⊤
OpensEnd (Err c) = (c ≡ Raw ENOMEM) ⊎ IsNoSuchEnd c

-- the bytes among some items
abbrev pub cells_in : {H : Type 0} → List (Item H) → List (Cell H)
cells_in [] = []
cells_in (Byte c ∷ told) = c ∷ cells_in told
cells_in (End ∷ told) = cells_in told

-- What a link between threads did in some calls of the trait, one after another.
pub record RingRuns (old : RingEnds) (m : Move PlainHandle) (new : RingEnds) : Type 0 where
  pub output : new.output ≡ old.output
  pub input : new.input ≡ old.input
  pub taken : new.sent ≡ old.sent ++ m.taken
  pub handed : new.received ≡ old.received ++ cells_in m.handed
  pub failures : m.failures ≡ 0

abbrev pub RingLaw : Type 0
RingLaw = (old new : RingEnds) (m : Move PlainHandle) → Moved event old m new → RingRuns old m new
