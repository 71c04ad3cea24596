-- What a link in memory does.
use Rattle.std.specs.Prelude.{◌≡◌, ℕ, ◌+◌, ◌<◌, List, [], ◌∷◌, ◌++◌, ◌⊎◌, length, take, drop, replicate, sum_by, Result, Ok, Err, true, ◌||◌, if◌then◌else◌, codes}
use Rattle.vhost_message.specs.declared.cause.IoCause.{IoCause}
use Rattle.vhost_message.specs.declared.cause.IoCause.TheVariants.{Raw, Named}
use Rattle.vhost_message.specs.declared.errno.TheConstants.{ENOMEM}
use Rattle.vhost_protocol.specs.Stream.{Cell, has_some, Item, End, items}
use Rattle.vhost_link.specs.declared.cut.Cut.{Cut}
use Rattle.vhost_link.specs.declared.cut.Cut.TheVariants.{Give, Retry, Fault}
use Rattle.vhost_link.specs.declared.plain.PlainHandle.{PlainHandle}
use Rattle.vhost_link.specs.Ends.{Ends}
use Rattle.vhost_link.specs.Law.{Event, Handed, Ended, Taken, Refused, Move, Moved}
use Rattle.vhost_link.specs.Cuts.{Gives, Fails, counted, retry, failure}

-- Cells that are handed out stood at the front, cells that are taken in go to the end, the end is told where nothing is left.
-- Each event takes one cut of the script.
abbrev pub event : Ends → Event PlainHandle → Ends → Type 0
event old (Handed cs) new = (0 < length cs) × Gives old.script (length cs) × (old.pending ≡ cs ++ new.pending) × (new ≡ record old { pending = new.pending; script = drop 1 old.script })
event old Ended new = (old.pending ≡ []) × Gives old.script 0 × (new ≡ record old { script = drop 1 old.script })
event old (Taken cs) new = (0 < length cs) × Gives old.script (length cs) × (new ≡ record old { sent = old.sent ++ cs; script = drop 1 old.script })
event old (Refused c) new = Fails old.script c old.wants new.wants × (new ≡ record old { script = drop 1 old.script; wants = new.wants })

-- no call that comes is cut
abbrev pub is_uncut : Ends → Type 0
is_uncut link = link.script ≡ []

-- a duplicate is always refused
abbrev pub refuses_duplicate : {S : Type 0} → Result S IoCause → Type 0
refuses_duplicate (Ok l) = ⊥
refuses_duplicate (Err (Raw e)) = ⊥
refuses_duplicate (Err (Named name)) = name.now ≡ codes "link cannot be duplicated"

-- the cells without handles at the front
abbrev pub bare : {H : Type 0} → List (Cell H) → List (Cell H)
bare [] = []
bare (c ∷ cs) = if has_some c.handles then [] else c ∷ bare cs

-- what one receive hands out at most: the first cell, and those behind it up to the next one with handles
abbrev pub piece : {H : Type 0} → List (Cell H) → List (Cell H)
piece [] = []
piece (c ∷ cs) = c ∷ bare cs

-- a receive hands out all that its cut and the room allow
abbrev pub received : {H : Type 0} → Result ℕ IoCause → List (Cell H) → Result ℕ IoCause
received (Ok n) pending = Ok (length (take n (piece pending)))
received (Err c) pending = Err c

-- a send takes in all that its cut allows, or fails as the cut says, or for want of memory
abbrev pub SendsAll : Result ℕ IoCause → Result ℕ IoCause → Type 0
SendsAll (Ok most) (Ok n) = n ≡ most
SendsAll (Ok most) (Err c) = c ≡ Raw ENOMEM
SendsAll (Err e) (Ok n) = ⊥
SendsAll (Err e) (Err c) = c ≡ e

-- Items from the front of some cells, and the cells that are left: the end is told only where none is left.
pub record HandsFront {H : Type 0} (before : List (Cell H)) (told : List (Item H)) (left : List (Cell H)) : Type 0 where
  -- these cells, and then the end so often
  pub cells : List (Cell H)
  pub ends : ℕ
  pub order : told ≡ items cells ++ replicate ends End
  pub front : before ≡ cells ++ left
  pub last : 0 < ends → left ≡ []

-- What a link in memory did in some calls of the trait, one after another.
pub record Runs (old : Ends) (m : Move PlainHandle) (new : Ends) : Type 0 where
  -- how many calls, and how many of them failed for want of memory
  pub calls : ℕ
  pub wants : ℕ
  -- what was handed out stood at the front, what was taken in was appended
  pub stream : HandsFront old.pending m.handed new.pending
  pub taken : new.sent ≡ old.sent ++ m.taken
  -- each call took one cut
  pub script : new.script ≡ drop calls old.script
  -- a failure is that of a cut, or a want of memory
  pub retries : m.retries ≡ sum_by retry (take calls old.script) + wants
  pub failures : m.failures ≡ sum_by failure (take calls old.script)
  -- each want of memory is counted, and nothing else is
  pub count : new.wants ≡ counted old.wants wants
  -- what moved was moved by a call
  pub moves : (has_some m.handed || has_some m.taken) ≡ true → 0 < calls

-- The stream of a link in memory is known, however it is cut.
abbrev pub StreamLaw : Type 0
StreamLaw = (old new : Ends) (m : Move PlainHandle) → Moved event old m new → Runs old m new

-- every cut moves bytes
abbrev pub AreGives : List Cut → Type 0
AreGives [] = Unit {0}
AreGives (Give n ∷ cuts) = AreGives cuts
AreGives (Retry ∷ cuts) = ⊥
AreGives (Fault e ∷ cuts) = ⊥

-- Where every cut moves bytes, only a want of memory is a failure.
abbrev pub GivesLaw : Type 0
GivesLaw = (old new : Ends) (m : Move PlainHandle) → Moved event old m new → AreGives old.script → (m.failures ≡ 0) × ((m.retries ≡ 0) ⊎ (0 < new.wants)) × AreGives new.script
