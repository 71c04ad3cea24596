-- Calls of a frontend's side, as C sees them.
use Rattle.std.specs.Prelude.{◌≡◌, ◌<◌, ◌++◌, ℕ, ℤ, List, length, drop, Option, Some, None, Result, Ok, Err, ⊤}
use Rattle.vhost_link.specs.declared.plain.PlainHandle.{PlainHandle}
use Rattle.vhost_frontend_req_handler.specs.declared.call.FrontendSideCall.{FrontendSideCall}
use Rattle.vhost_frontend_req_handler.specs.declared.call.FrontendSideCall.TheVariants as call
use Rattle.vhost_c_common.specs.Records.{fd_in}
use Rattle.vhost_c_common.specs.declared.refusal.Refusal.{Refusal}
use Rattle.vhost_c_common.specs.declared.refusal.Refusal.TheVariants.{NoRoom, OtherCall}
use Rattle.vhost_c_channel.specs.Records.{mmap_out}
use Rattle.vhost_c_channel.specs.declared.records.Mmap.{Mmap}

-- the number of `enum covretin_channel_call`: that of its request
abbrev pub call_number : FrontendSideCall PlainHandle → ℕ
call_number call.ConfigChange = 2
call_number (call.SharedObjectAdd n) = 6
call_number (call.SharedObjectRemove n) = 7
call_number (call.SharedObjectLookup n h) = 8
call_number (call.ShmemMap m h) = 9
call_number (call.ShmemUnmap m) = 10

-- a mapping
abbrev pub mmap_arg : FrontendSideCall PlainHandle → Option Mmap
mmap_arg (call.ShmemMap m h) = Some (mmap_out m)
mmap_arg (call.ShmemUnmap m) = Some (mmap_out m)
mmap_arg _ = None

-- a descriptor
abbrev pub fd_arg : FrontendSideCall PlainHandle → Option ℤ
fd_arg (call.SharedObjectLookup n h) = Some (fd_in h)
fd_arg (call.ShmemMap m h) = Some (fd_in h)
fd_arg _ = None

-- the name of an object
abbrev pub name_arg : FrontendSideCall PlainHandle → Option (List ℕ)
name_arg (call.SharedObjectAdd n) = Some n.uuid
name_arg (call.SharedObjectRemove n) = Some n.uuid
name_arg (call.SharedObjectLookup n h) = Some n.uuid
name_arg _ = None

-- A name is put at the front of a place; or there is no room for it.
abbrev pub PutsNamed : List ℕ → List ℕ → List ℕ → Result ⊤ Refusal → Type 0
PutsNamed name before after (Ok done) = after ≡ name ++ drop 16 before
PutsNamed name before after (Err r) = (r ≡ NoRoom) × (length before < 16) × (after ≡ before)

-- the name of a call is, if it has one
abbrev pub Puts : Option (List ℕ) → List ℕ → List ℕ → Result ⊤ Refusal → Type 0
Puts (Some name) before after result = PutsNamed name before after result
Puts None before after (Ok done) = ⊥
Puts None before after (Err r) = (r ≡ OtherCall) × (after ≡ before)

abbrev pub PutsName : FrontendSideCall PlainHandle → List ℕ → List ℕ → Result ⊤ Refusal → Type 0
PutsName c = Puts (name_arg c)
