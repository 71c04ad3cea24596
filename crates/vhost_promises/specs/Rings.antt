-- What went over a link between two threads.
use Rattle.std.specs.Prelude.{◌≡◌, ℕ, List, [], ◌∷◌, ◌++◌, take, drop, Option, None, Some}
use Rattle.vhost_protocol.specs.Stream.{Cell, carrying}
use Rattle.vhost_link.specs.declared.plain.PlainHandle.{PlainHandle}
use Rattle.vhost_link.specs.Pieces.{pieces_in}
use Rattle.vhost_promises.specs.declared.rings.part.Part.{Part}

-- the cells that some receives handed out
abbrev pub part_cells : List Part → List (Cell PlainHandle)
part_cells [] = []
part_cells (p ∷ parts) = carrying p.handles.items p.bytes.items ++ part_cells parts

-- the cells of one receive, if it handed out any
abbrev pub got_cells : Option Part → List (Cell PlainHandle)
got_cells None = []
got_cells (Some p) = carrying p.handles.items p.bytes.items

-- the cells of some sends, each of so many bytes with the handles on the first of them
abbrev pub sent_cells : List PlainHandle → List ℕ → List ℕ → List (Cell PlainHandle)
sent_cells handles bytes [] = []
sent_cells handles bytes (n ∷ counts) = carrying handles (take n bytes) ++ sent_cells handles (drop n bytes) counts

-- the bytes behind those of some sends
abbrev pub bytes_behind : List ℕ → List ℕ → List ℕ
bytes_behind bytes [] = bytes
bytes_behind bytes (n ∷ counts) = bytes_behind (drop n bytes) counts

-- What was received, and so many pieces behind it, is what was sent.
abbrev pub Arrives : List (Cell PlainHandle) → List (Cell PlainHandle) → Option ℕ → Type 0
Arrives sent received None = Unit {0}
Arrives sent received (Some n) = (left : List (Cell PlainHandle)) × (pieces_in left ≡ n) × (received ++ left ≡ sent)
