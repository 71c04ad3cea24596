-- How much of a reply came, and how much is missing.
use Rattle.std.specs.Prelude.{ℕ, ◌+◌, ◌-◌, ◌*◌, min, Bool, true, not, ◌&&◌, ◌||◌, ◌==◌, length, nat_lt, if◌then◌else◌}
use Rattle.vhost_message.specs.declared.limits.TheConstants.{MAX_MSG_SIZE, MAX_MEM_REGIONS, MEMORY_REGION_SIZE, MSG_HEADER_SIZE}
use Rattle.vhost_message.specs.HeardReq.{request_of}
use Rattle.vhost_message.specs.Header.{header_of}
use Rattle.vhost_protocol.specs.declared.asked.Awaited.{Awaited}
use Rattle.vhost_protocol.specs.declared.asked.Awaited.TheVariants.{Nobody, Ack, Reply}
use Rattle.vhost_protocol.specs.declared.asked.Shape.TheVariants as shape
use Rattle.vhost_protocol.specs.declared.profile.Profile.{Profile}
use Rattle.vhost_protocol.specs.FrontendCall.{FrontendCall, SetMemTable, GetConfig}
use Rattle.vhost_protocol.specs.Profile.{is_standard}
use Rattle.vhost_protocol.specs.Take.{record_size}
use Rattle.vhost_link.specs.declared.plain.PlainHandle.{PlainHandle}
use Rattle.vhost_c_common.specs.Incoming.{missing_in, missing_by}
use Rattle.vhost_c_common.specs.declared.incoming.Incoming.{Incoming}

-- how long a list is behind the record of a call's reply
abbrev pub behind : FrontendCall PlainHandle → ℕ
behind (SetMemTable infos) = MEMORY_REGION_SIZE * min (length infos) MAX_MEM_REGIONS
behind (GetConfig offset size flags buffer) = min (length buffer) MAX_MSG_SIZE
behind _ = 0

-- An answer has the size of its record and of what is behind it. In place of bytes of the configuration space the record may come alone, and under Standard nothing. Under Standard the answer about a log may have any size.
abbrev pub is_sized : Profile → FrontendCall PlainHandle → Awaited → ℕ → Bool
is_sized profile call Nobody size = true
is_sized profile call Ack size = size == 8
is_sized profile call (Reply shape.Config) size = size == record_size shape.Config || size == record_size shape.Config + behind call || is_standard profile && size == 0
is_sized profile call (Reply shape.Log) size = size == record_size shape.Log + behind call || is_standard profile
is_sized profile call (Reply s) size = size == record_size s + behind call

-- so much of its body an answer has in any case
abbrev pub least : Awaited → ℕ
least Nobody = 0
least Ack = 8
least (Reply shape.Config) = 0
least (Reply shape.Log) = 0
least (Reply s) = record_size s

-- How many bytes can be told to be missing of what is awaited: none where nobody answers. Before the header is there, it is the header and the least body. Under Standard the body is not waited for where the header decides that the answer is refused.
abbrev pub missing_from : Profile → FrontendCall PlainHandle → Awaited → Incoming → ℕ
missing_from profile call Nobody i = 0
missing_from profile call awaited i =
    if nat_lt i.count MSG_HEADER_SIZE then MSG_HEADER_SIZE + least awaited - i.count
    else if is_standard profile then (if not (is_sized profile call awaited (header_of i.head).size) then 0 else missing_by request_of i)
    else missing_in i
