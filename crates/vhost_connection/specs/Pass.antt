-- What one pass over a link did: a text sent whole, or up to a fault.
use Rattle.std.specs.Prelude.{◌≡◌, ◌++◌, ℕ, ◌+◌, ◌-◌, ◌<◌, ◌≤◌, List, [], length, take, drop, min, Option, Some, None, Bool, true, IsTrue, nat_lt, Result, Ok, Err}
use Rattle.std.specs.List.{flat_map}
use Rattle.std.specs.Borrow.{Bor}
use Rattle.vhost_message.specs.declared.limits.TheConstants.{MAX_ATTACHED_FD_ENTRIES}
use Rattle.vhost_message.specs.declared.cause.IoCause.{IoCause}
use Rattle.vhost_message.specs.Cause.{is_retry}
use Rattle.vhost_protocol.specs.Stream.{Cell, carrying, has_some, bytes, brings_handles, first_handles, Item, items, heard}
use Rattle.vhost_link.specs.Law.{Event, Handed, Ended, Taken, Refused, Move, Moved, move}
use Rattle.vhost_connection.specs.declared.pass.SendPass.{SendPass}
use Rattle.vhost_connection.specs.declared.pass.First.{First}
use Rattle.vhost_connection.specs.declared.pass.RecvPass.{RecvPass}
use Rattle.vhost_connection.specs.declared.pass.Parts.{Parts}
use Rattle.vhost_connection.specs.declared.pass.PassEnd.{PassEnd}
use Rattle.vhost_connection.specs.declared.pass.PassEnd.TheVariants.{Whole, AtEnd, Fault}

-- the pieces of a text, one after another
abbrev pub joined : List (Bor (List ℕ)) → List ℕ
joined pieces = flat_map (λ piece. piece.now) pieces

-- the link took in some of the cells that stand from this count on
abbrev pub SendsPart : {S H : Type 0} → (S → Event H → S → Type 0) → S → List (Cell H) → ℕ → Result ℕ IoCause → S → Type 0
SendsPart event old text count (Ok n) new = (0 < n) × (count + n ≤ length text) × event old (Taken (take n (drop count text))) new
SendsPart event old text count (Err c) new = event old (Refused c) new

-- one call of the link took some of the bytes; without a byte it was not called
abbrev pub SendsSome : {S H : Type 0} → (S → Event H → S → Type 0) → S → List ℕ → List H → Result ℕ IoCause → S → Type 0
SendsSome event old bytes handles (Ok n) new = (n ≤ length bytes) × (0 < length bytes → (0 < n) × event old (Taken (carrying handles (take n bytes))) new) × (bytes ≡ [] → new ≡ old)
SendsSome event old bytes handles (Err c) new = (0 < length bytes) × event old (Refused c) new

-- these cells went out, after so many retries
abbrev pub sends : {H : Type 0} → List (Cell H) → ℕ → Move H
sends cs retries = move [] cs retries 0

-- A link did so much, and then failed with this cause: that was its last event.
pub record Failed {S H : Type 0} (event : S → Event H → S → Type 0) (old : S) (m : Move H) (c : IoCause) (new : S) : Type 0 where
  pub before : S
  pub moved : Moved event old m before
  pub last : event before (Refused c) new

-- A text went out whole by one call of the link. Calls that asked for one more may stand before it.
pub record WentAtOnce {S H : Type 0} (event : S → Event H → S → Type 0) (old : S) (text : List (Cell H)) (new : S) : Type 0 where
  pub retries : ℕ
  pub before : S
  pub waited : Moved event old (sends [] retries) before
  pub taken : event before (Taken text) new

-- nothing went out
pub record WentNot {S H : Type 0} (event : S → Event H → S → Type 0) (old new : S) : Type 0 where
  pub retries : ℕ
  pub failures : ℕ
  pub moved : Moved event old (move [] [] retries failures) new

-- by one call, or not at all
abbrev pub AtOnce : {S H : Type 0} → (S → Event H → S → Type 0) → S → List (Cell H) → Option IoCause → S → Type 0
AtOnce event old text None new = WentAtOnce event old text new
AtOnce event old text (Some c) new = WentNot event old new

-- A front of the cells went out, and then came a fault that was no retry, or one retry too many.
pub record SentFront {S H : Type 0} (event : S → Event H → S → Type 0) (old : S) (text : List (Cell H)) (budget : ℕ) (moved : Bool) (left : ℕ) (c : IoCause) (new : S) : Type 0 where
  pub count : ℕ
  pub short : count < length text
  pub told : moved ≡ nat_lt 0 count
  pub spent : IsTrue (is_retry c) → left ≡ 0
  pub link : Failed event old (sends (take count text) (budget - left)) c new

-- how it ended: all went out, or a front
abbrev pub SentAs : {S H : Type 0} → (S → Event H → S → Type 0) → S → List (Cell H) → ℕ → Bool → ℕ → Option IoCause → S → Type 0
SentAs event old text budget moved left None new = (moved ≡ has_some text) × Moved event old (sends text (budget - left)) new
SentAs event old text budget moved left (Some c) new = SentFront event old text budget moved left c new

abbrev pub SendsWhole : {S H : Type 0} → (S → Event H → S → Type 0) → S → List (Cell H) → ℕ → SendPass → S → Type 0
SendsWhole event old text budget sent new = (sent.left ≤ budget) × SentAs event old text budget sent.moved sent.left sent.fault new

-- these were handed out, after so many retries
abbrev pub receives : {H : Type 0} → List (Item H) → ℕ → Move H
receives is retries = move is [] retries 0

-- The cells lie at the front of the room.
pub record Fills {H : Type 0} (cs : List (Cell H)) (before after : List ℕ) : Type 0 where
  pub within : length cs ≤ length before
  pub bytes : after ≡ bytes cs ++ drop (length cs) before

-- Some bytes came, and lie in the room from this count on; or the end was told.
pub record Arrives {S H : Type 0} (event : S → Event H → S → Type 0) (old : S) (before : List ℕ) (count n : ℕ) (after : List ℕ) (handles : List H) (new : S) : Type 0 where
  pub front : List ℕ
  pub long : length front ≡ n
  pub within : count + n ≤ length before
  pub room : after ≡ take count before ++ (front ++ drop (count + n) before)
  pub some : 0 < n → event old (Handed (carrying handles front)) new
  pub ended : n ≡ 0 → event old Ended new
  pub none : n ≡ 0 → handles ≡ []
  pub few : length handles ≤ MAX_ATTACHED_FD_ENTRIES

-- how it ended: the room is full; or the stream is at its end; or a fault that was no retry, or one retry too many
abbrev pub GotAs : {S H : Type 0} → (S → Event H → S → Type 0) → S → ℕ → ℕ → ℕ → PassEnd → List (Cell H) → S → Type 0
GotAs event old room budget left Whole cs new = (length cs ≡ room) × Moved event old (receives (items cs) (budget - left)) new
GotAs event old room budget left AtEnd cs new = (length cs < room) × Moved event old (receives (heard cs true) (budget - left)) new
GotAs event old room budget left (Fault c) cs new = (length cs < room) × (IsTrue (is_retry c) → left ≡ 0)
    × Failed event old (receives (items cs) (budget - left)) c new

pub record GetsRest {S H : Type 0} (event : S → Event H → S → Type 0) (old : S) (before : List ℕ) (budget : ℕ) (got : RecvPass) (after : List ℕ) (new : S) : Type 0 where
  pub cs : List (Cell H)
  pub fills : Fills cs before after
  pub count : got.count ≡ length cs
  pub surplus : got.surplus ≡ brings_handles cs
  pub left : got.left ≤ budget
  pub ended : GotAs event old (length before) budget got.left got.stop cs new

-- The first bytes came, with their handles; or the end was told; or the link failed.
pub record FrontCame {S H : Type 0} (event : S → Event H → S → Type 0) (old : S) (before : List ℕ) (retries n : ℕ) (after : List ℕ) (handles : List H) (new : S) : Type 0 where
  pub front : List ℕ
  pub long : length front ≡ n
  pub within : n ≤ length before
  pub room : after ≡ front ++ drop n before
  pub some : 0 < n → Moved event old (receives (items (carrying handles front)) retries) new
  pub ended : n ≡ 0 → Moved event old (receives (heard [] true) retries) new
  pub none : n ≡ 0 → handles ≡ []
  pub few : length handles ≤ MAX_ATTACHED_FD_ENTRIES

abbrev pub FirstAs : {S H : Type 0} → (S → Event H → S → Type 0) → S → List ℕ → ℕ → ℕ → ℕ → Option IoCause → List ℕ → List H → S → Type 0
FirstAs event old before budget n left None after handles new = FrontCame event old before (budget - left) n after handles new
FirstAs event old before budget n left (Some c) after handles new = (n ≡ 0) × (after ≡ before) × (handles ≡ []) × (IsTrue (is_retry c) → left ≡ 0)
    × Failed event old (receives [] (budget - left)) c new

abbrev pub GetsFirst : {S H : Type 0} → (S → Event H → S → Type 0) → S → List ℕ → ℕ → First → List ℕ → List H → S → Type 0
GetsFirst event old before budget first after handles new = (first.left ≤ budget) × FirstAs event old before budget first.count first.left first.fault after handles new

-- The room is filled from the first byte on, whose handles are kept.
pub record GetsWhole {S H : Type 0} (event : S → Event H → S → Type 0) (old : S) (before : List ℕ) (budget : ℕ) (got : RecvPass) (after : List ℕ) (hs : List H) (new : S) : Type 0 where
  pub cs : List (Cell H)
  pub fills : Fills cs before after
  pub count : got.count ≡ length cs
  pub handles : hs ≡ first_handles cs
  pub few : length hs ≤ MAX_ATTACHED_FD_ENTRIES
  pub left : got.left ≤ budget
  pub ended : GotAs event old (length before) budget got.left got.stop cs new

-- The text is filled first, and then the room; the handles of the first byte are kept.
pub record GetsParts {S H : Type 0} (event : S → Event H → S → Type 0) (old : S) (len : ℕ) (before : List ℕ) (budget : ℕ) (got : Parts) (read after : List ℕ) (hs : List H) (new : S) : Type 0 where
  pub cs : List (Cell H)
  pub count : got.count ≡ min len (length cs)
  pub more : got.more ≡ length cs - len
  pub text : take got.count read ≡ take len (bytes cs)
  pub room : after ≡ drop len (bytes cs) ++ drop got.more before
  pub handles : hs ≡ first_handles cs
  pub left : got.left ≤ budget
  pub ended : GotAs event old (len + length before) budget got.left got.stop cs new
