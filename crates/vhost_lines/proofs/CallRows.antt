-- Worked examples, which hold by computing.
use Rattle.std.proofs.Common.{◌≡◌, [], ◌∷◌, Some, None, refl, codes}
use Rattle.std.specs.Str.{is_utf8, chars}
use lib.Utf8.{encode}
use Rattle.hex.proofs.OnLiterals.{hex_on_literals}
use Rattle.vhost_link.specs.declared.handle.Kind.TheVariants.{NoSocket, UnixStream}
use Rattle.vhost_message.specs.declared.heard_req.HeardReq.TheVariants.{ADD_MEM_REG}
use Rattle.vhost_protocol.specs.FrontendCall.{GetFeatures, SetFeatures, SetProtocolFeatures, SetMemTable, SetLogBase, SetVringNum, SetVringBase, SetVringAddr, GetConfig, SetConfig, SetBackendRequestFd, SetDeviceStateFd, PostcopyAckMemRegions, SetMtu}
use Rattle.vhost_lines.specs.Calls.{call_in}
use Rattle.vhost_lines.specs.Number.{number, u16}
use Rattle.vhost_lines.specs.Words.{words}

pub words-three : words (codes "a  b") ≡ codes "a" ∷ [] ∷ codes "b" ∷ []
words-three = refl

pub number-decimal : number (codes "00120") ≡ Some 120
number-decimal = refl

pub number-hexadecimal : number (codes "0x00fF") ≡ Some 255
number-hexadecimal = refl

pub number-long : number (codes "0x10000000000000000") ≡ Some 18446744073709551616
number-long = refl

pub number-none : number (codes "0x") ≡ None
number-none = refl

pub number-signed : number (codes "+1") ≡ None
number-signed = refl

pub number-large : u16 (codes "65536") ≡ None
number-large = refl

pub call-bare : call_in (codes "get_features") ≡ Some GetFeatures
unfolding is_utf8 chars encode
call-bare = refl

pub call-number : call_in (codes "set_features 0x10") ≡ Some (SetFeatures 16)
unfolding is_utf8 chars encode
call-number = refl

pub call-mtu : call_in (codes "set_mtu 65535") ≡ Some (SetMtu 65535)
unfolding is_utf8 chars encode
call-mtu = refl

pub call-large_mtu : call_in (codes "set_mtu 65536") ≡ None
unfolding is_utf8 chars encode
call-large_mtu = refl

pub call-twice_spaced : call_in (codes "set_features  16") ≡ None
unfolding is_utf8 chars encode
call-twice_spaced = refl

pub call-known : call_in (codes "set_protocol_features 0x400001") ≡ Some (SetProtocolFeatures 4194305)
unfolding is_utf8 chars encode
call-known = refl

pub call-unknown : call_in (codes "set_protocol_features 0x800001") ≡ None
unfolding is_utf8 chars encode
call-unknown = refl

pub call-socket : call_in (codes "set_backend_request_fd 1000") ≡ Some (SetBackendRequestFd (record { id = 1000; kind = UnixStream }))
unfolding is_utf8 chars encode
call-socket = refl

pub call-ring : call_in (codes "set_vring_num 2 256") ≡ Some (SetVringNum 2 256)
unfolding is_utf8 chars encode
call-ring = refl

pub call-base : call_in (codes "set_vring_base 1 65535") ≡ Some (SetVringBase 1 65535)
unfolding is_utf8 chars encode
call-base = refl

pub call-large_base : call_in (codes "set_vring_base 1 65536") ≡ None
unfolding is_utf8 chars encode
call-large_base = refl

pub call-packed_base : call_in (codes "set_packed_vring_base 1 0x80058003") ≡ Some (SetVringBase 1 0x80058003)
unfolding is_utf8 chars encode
call-packed_base = refl

pub call-enabled : call_in (codes "set_vring_enable 1 2") ≡ None
unfolding is_utf8 chars encode
call-enabled = refl

pub call-addresses : call_in (codes "set_vring_addr 1 1 16 32 48 64") ≡ Some (SetVringAddr 1 (record { queue_max_size = 0; queue_size = 0; flags = 1; desc_table_addr = 16; used_ring_addr = 32; avail_ring_addr = 48; log_addr = Some 64 }))
unfolding is_utf8 chars encode
call-addresses = refl

pub call-log : call_in (codes "set_log_base 7") ≡ Some (SetLogBase 7 None)
unfolding is_utf8 chars encode
call-log = refl

pub call-table : call_in (codes "set_mem_table 1 2 3 4 5") ≡ Some (SetMemTable (record { region = record { guest_phys_addr = 1; memory_size = 2; user_addr = 3; mmap_offset = 4 }; handle = Some (record { id = 5; kind = NoSocket }) } ∷ []))
unfolding is_utf8 chars encode
call-table = refl

pub call-table_short : call_in (codes "set_mem_table 1 2 3 4") ≡ None
unfolding is_utf8 chars encode
call-table_short = refl

pub call-buffer : call_in (codes "get_config 0 3 1") ≡ Some (GetConfig 0 3 1 (0 ∷ 0 ∷ 0 ∷ []))
unfolding is_utf8 chars encode
call-buffer = refl

pub call-bytes : call_in (codes "set_config 8 0 0aFf") ≡ Some (SetConfig 8 0 (10 ∷ 255 ∷ []))
unfolding is_utf8 chars encode hex_on_literals
call-bytes = refl

pub call-state : call_in (codes "set_device_state_fd 1 0 6") ≡ Some (SetDeviceStateFd (record { direction = 1; phase = 0 }) (record { id = 6; kind = NoSocket }))
unfolding is_utf8 chars encode
call-state = refl

pub call-code : call_in (codes "postcopy_ack_mem_regions 37") ≡ Some (PostcopyAckMemRegions ADD_MEM_REG)
unfolding is_utf8 chars encode
call-code = refl

pub call-no_code : call_in (codes "postcopy_ack_mem_regions 45") ≡ None
unfolding is_utf8 chars encode
call-no_code = refl
