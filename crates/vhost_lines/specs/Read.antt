-- What the code reads, as the definitions see it.
use Rattle.std.specs.Prelude.{ℕ, List, [], map, Option, Some, None, option_map, Vec, codes, if◌then◌else◌}
use Rattle.std.specs.Str.{bytes_eq}
use Rattle.std.specs.Borrow.{Bor}
use Rattle.std.specs.Global.{Global}
use Rattle.vhost_link.specs.declared.plain.PlainHandle.{PlainHandle}
use Rattle.vhost_protocol.specs.FrontendCall.{Info}
use Rattle.vhost_frontend_core.specs.declared.values.call.FrontendCall as code
use Rattle.vhost_frontend_core.specs.declared.regions.RegionInfo.{RegionInfo}
use Rattle.vhost_frontend_core.specs.Regions.{info_of}
use Rattle.vhost_frontend_core.specs.Values.{call_of}
use Rattle.vhost_lines.specs.Calls.{Call}
use Rattle.vhost_lines.specs.Words.{words}

-- the texts that some words point to
abbrev pub texts : List (Bor (List ℕ)) → List (List ℕ)
texts words = map (λ (word : Bor (List ℕ)). word.now) words

-- the words of a text, where there is one
abbrev pub words_of : Option (Bor (List ℕ)) → List (List ℕ)
words_of None = []
words_of (Some text) = words text.now

-- the words that the code reads as the arguments of a name: for a table of memory all of them, else the first ones
abbrev pub read_for : (name : List ℕ) (first all : List (List ℕ)) → List (List ℕ)
read_for name first all = if bytes_eq name (codes "set_mem_table") then all else first

-- a call of the code, where there is one
abbrev pub called : Option code.FrontendCall → Option Call
called call = option_map call_of call

-- regions of the code, where there are some
abbrev pub infos_of : Option (Vec (RegionInfo PlainHandle) Global) → Option (List (Info PlainHandle))
infos_of regions = option_map (λ (v : Vec (RegionInfo PlainHandle) Global). map info_of v.items) regions

-- bytes, where there are some
abbrev pub bytes_of : Option (Vec ℕ Global) → Option (List ℕ)
bytes_of bytes = option_map (λ (v : Vec ℕ Global). v.items) bytes
