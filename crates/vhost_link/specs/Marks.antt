-- Which bytes on their way bring handles.
use Rattle.std.specs.Prelude.{ℕ, suc, ◌+◌, ◌-◌, ◌<◌, ◌≤◌, ◌==◌, List, [], ◌∷◌, length, if◌then◌else◌, ⊤, Vec}
use Rattle.std.specs.Global.{Global}
use Rattle.vhost_message.specs.declared.limits.TheConstants.{MAX_ATTACHED_FD_ENTRIES}
use Rattle.vhost_protocol.specs.Stream.{Cell, cell, has_some}
use Rattle.vhost_link.specs.declared.mark.Mark.{Mark}
use Rattle.vhost_link.specs.declared.plain.PlainHandle.{PlainHandle}

-- the handles at a place, where the first mark is that of this place
abbrev pub brought : ℕ → List Mark → List PlainHandle
brought at [] = []
brought at (m ∷ marks) = if m.at == at then m.handles.items else []

-- the marks behind a place
abbrev pub later : ℕ → List Mark → List Mark
later at [] = []
later at (m ∷ marks) = if m.at == at then marks else m ∷ marks

-- the bytes from a place on, each with the handles of its mark
abbrev pub marked : ℕ → List ℕ → List Mark → List (Cell PlainHandle)
marked at [] marks = []
marked at (b ∷ bs) marks = cell b (brought at marks) ∷ marked (suc at) bs (later at marks)

-- some handles, and not more than a byte may bring
abbrev pub Fits : List PlainHandle → Type 0
Fits handles = (0 < length handles) × (length handles ≤ MAX_ATTACHED_FD_ENTRIES)

-- Marks stand in ascending order, from a place on and before an end.
abbrev pub Within : ℕ → ℕ → List Mark → Type 0
Within at end [] = ⊤
Within at end (m ∷ marks) = (at ≤ m.at) × (m.at < end) × Fits m.handles.items × Within (suc m.at) end marks

-- the place of the first mark, or else the end
abbrev pub first_place : List Mark → ℕ → ℕ
first_place [] end = end
first_place (m ∷ marks) end = m.at

-- the handles at a place
abbrev pub found : ℕ → List Mark → List PlainHandle
found at [] = []
found at (m ∷ marks) = if m.at == at then m.handles.items else found at marks

-- a mark whose place counts from another beginning
abbrev pub moved : ℕ → ℕ → Mark → Mark
moved from to m = record { at = m.at - from + to; handles = m.handles }

-- the mark of some handles at a place, if there is one
abbrev pub mark_of : ℕ → Vec PlainHandle Global → List Mark
mark_of at handles = if has_some handles.items then record { at = at; handles = handles } ∷ [] else []
