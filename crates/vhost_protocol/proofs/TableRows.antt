-- Worked rows of the protocol table: each holds by computing.
use Rattle.std.proofs.Common.{◌≡◌, ℕ, Bool, true, false, List, [], ◌∷◌, ◌++◌, replicate, Option, Some, None, Result, Ok, Err, refl}
use Rattle.std.specs.Prelude.{◌==◌, codes, if◌then◌else◌, nat_le, flat_map, take}
use Rattle.vhost_message.specs.HeardReq.{request_number}
use Rattle.vhost_message.specs.Records.{region_text, memory_text}
use Rattle.vhost_message.specs.Text.{digits}
use Rattle.vhost_message.specs.declared.heard_req.HeardReq.{HeardReq}
use Rattle.vhost_message.specs.declared.heard_req.HeardReq.TheVariants.{GET_FEATURES, SET_FEATURES, SET_OWNER, SET_MEM_TABLE, SET_LOG_FD, SET_VRING_NUM, SET_VRING_KICK, SET_VRING_ENABLE, NET_SET_MTU, IOTLB_MSG, SEND_RARP, GET_PROTOCOL_FEATURES, SET_CONFIG, GET_CONFIG, GPU_SET_SOCKET, SET_DEVICE_STATE_FD, GET_SHMEM_CONFIG, POSTCOPY_END, SET_BACKEND_REQ_FD}
use Rattle.vhost_message.specs.declared.postcopy.PostcopyState.TheVariants.{Listen, End}
use Rattle.vhost_protocol.specs.DeviceCall.{Call, Answer, SetOwner, GetFeatures, SetFeatures, SetMtu, Other, SetVringNum, SetVringKick, SetVringEnable, GetProtocolFeatures, SetMemTable, GetConfig, SetGpuSocket, SetDeviceStateFd, SetBackendReqFd, PostcopyEnd, PostcopyAckMemRegions, GetVringBase, GetQueueNum, GetSharedObject, GetInflightFd, GetMaxMemSlots, AddMemRegion, GetShmemConfig, PostcopyAdvice}
use Rattle.vhost_protocol.specs.Error.{Error, InvalidOperation, InvalidParam, InvalidMessage, InactiveFeature, InactiveOperation, InvalidSocketFd, Named}
use Rattle.vhost_protocol.specs.Row.{row}
use Rattle.vhost_protocol.specs.Served.{Served, reply}
use Rattle.vhost_protocol.specs.declared.profile.Profile.TheVariants.{Standard}
use Rattle.vhost_protocol.specs.Session.{Session, fresh}
use Rattle.vhost_protocol.specs.Socket.{opened, NoSocket, UnixStream}
use Rattle.vhost_protocol.specs.Settled.{settled}
use Rattle.vhost_protocol.specs.Split.{Message}
use Rattle.vhost_protocol.specs.Step.{Step, Refused, Calls, OpensBackend, OpensGpu}
use Rattle.vhost_protocol.specs.Written.{written_text}

-- what a handler did: the call of the device, if any, its answer, the bytes and handles of its reply, its session
record Done : Type 0 where
  call : Option (Call ℕ ℕ ℕ)
  answer : Result (Unit {0}) Error
  text : List ℕ
  handles : List ℕ
  session : Session

shown : Message HeardReq ℕ → Served ℕ → List ℕ × List ℕ
shown m served = elim (reply m.request served) [ None ↦ ([], []) | Some w ↦ (written_text request_number w, w.handles) ]

done_by : ((c : Call ℕ ℕ ℕ) → Answer c) → (ℕ → Result ℕ Error) → Session → Message HeardReq ℕ → Step ℕ ℕ ℕ → Done
done_by device opens s m (Refused r) =
    let o = settled s m (record { answer = Err r.error; served = r.served; session = s }) in
    record { call = None; answer = o.answer; text = (shown m (o.served)).0; handles = (shown m (o.served)).1; session = o.session }
done_by device opens s m (Calls c next) =
    let o = settled s m (next (device c)) in
    record { call = Some c; answer = o.answer; text = (shown m (o.served)).0; handles = (shown m (o.served)).1; session = o.session }
done_by device opens s m (OpensBackend h next) = done_by device opens s m (next (opens h))
done_by device opens s m (OpensGpu h next) = done_by device opens s m (next (opens h))

-- handles from 1000 on are sockets, whose channels have their numbers
opens : ℕ → Result ℕ Error
opens h = opened (Ok (if nat_le 1000 h then UnixStream else NoSocket)) (Ok h)

-- a device for the rows
device : (c : Call ℕ ℕ ℕ) → Answer c
device GetFeatures = Ok 0x40000003
device GetProtocolFeatures = Ok 0
device (SetMemTable rs hs postcopy) = Ok (Some (0x7000 ∷ 0x9000 ∷ []))
device (GetVringBase i) = Ok (record { index = i; num = 7 })
device GetQueueNum = Ok 2
device (GetConfig o n f) = Err InvalidParam
device (SetBackendReqFd h) = tt
device (GetSharedObject u) = Ok 100
device (GetInflightFd i) = Ok (record i { mmap_size = 0x1000 }, 100)
device GetMaxMemSlots = Ok 509
device (AddMemRegion r h postcopy) = Ok None
device (SetDeviceStateFd t h) = Ok None
device GetShmemConfig = Err InvalidParam
device PostcopyAdvice = Ok 100
device PostcopyEnd = Err InvalidParam
device (SetFeatures n) = Err (InvalidOperation (codes "not owned"))
device (Other request body handles) = if request == 0x16 then Err (InvalidOperation (codes "request not served")) else Ok tt
device _ = Ok tt

message : HeardReq → Bool → List ℕ → List ℕ → Message HeardReq ℕ
message r need_reply body handles = record { request = r; reply = false; need_reply = need_reply; body = body; handles = handles }

-- what the handler does with a message
does : Session → Message HeardReq ℕ → Done
does s m = done_by device opens s m (row s m)

-- bit 30 offered, these protocol features acknowledged
acks : ℕ → Session
acks features = record fresh { offered = 0x40000003; acked_protocol_features = features }

get_features : does fresh (message GET_FEATURES false [] [])
    ≡ record {
      call = Some GetFeatures;
      answer = Ok tt;
      text = 1 ∷ 0 ∷ 0 ∷ 0 ∷ 5 ∷ 0 ∷ 0 ∷ 0 ∷ 8 ∷ 0 ∷ 0 ∷ 0 ∷ 3 ∷ 0 ∷ 0 ∷ 0x40 ∷ 0 ∷ 0 ∷ 0 ∷ 0 ∷ [];
      handles = [];
      session = record fresh { offered = 0x40000003 };
    }
unfolding does done_by opens device message shown
get_features = refl

-- acked has the value though the device refused
set_features : does fresh (message SET_FEATURES false (digits 8 0x40000003) [])
    ≡ record {
      call = Some (SetFeatures 0x40000003);
      answer = Err (InvalidOperation (codes "not owned"));
      text = [];
      handles = [];
      session = record fresh { acked = 0x40000003 };
    }
unfolding does done_by opens device message shown
set_features = refl

two_regions : List ℕ
two_regions = memory_text (record { num_regions = 2; padding1 = 0 })
    ++ region_text (record { guest_phys_addr = 0; memory_size = 0x1000; user_addr = 0x7000; mmap_offset = 0 })
    ++ region_text (record { guest_phys_addr = 0x1000; memory_size = 0x1000; user_addr = 0x9000; mmap_offset = 0 })

-- two regions and one handle: acknowledged as an error, the device untouched
too_few_handles : does (acks 8) (message SET_MEM_TABLE true two_regions (1 ∷ []))
    ≡ record {
      call = None;
      answer = Err InvalidMessage;
      text = 5 ∷ 0 ∷ 0 ∷ 0 ∷ 5 ∷ 0 ∷ 0 ∷ 0 ∷ 8 ∷ 0 ∷ 0 ∷ 0 ∷ 1 ∷ 0 ∷ 0 ∷ 0 ∷ 0 ∷ 0 ∷ 0 ∷ 0 ∷ [];
      handles = [];
      session = acks 8;
    }
unfolding does done_by opens device message shown acks two_regions
too_few_handles = refl

kick_without : does fresh (message SET_VRING_KICK false (digits 8 0x101) (1 ∷ 2 ∷ []))
    ≡ record { call = Some (SetVringKick 1 None); answer = Ok tt; text = []; handles = []; session = fresh }
unfolding does done_by opens device message shown
kick_without = refl

kick_missing : does fresh (message SET_VRING_KICK false (digits 8 1) [])
    ≡ record { call = None; answer = Err InvalidMessage; text = []; handles = []; session = fresh }
unfolding does done_by opens device message shown
kick_missing = refl

state_without : does fresh (message SET_DEVICE_STATE_FD false (replicate 8 0) (9 ∷ []))
    ≡ record {
      call = Some (SetDeviceStateFd (record { direction = 0; phase = 0 }) 9);
      answer = Ok tt;
      text = 0x2a ∷ 0 ∷ 0 ∷ 0 ∷ 5 ∷ 0 ∷ 0 ∷ 0 ∷ 8 ∷ 0 ∷ 0 ∷ 0 ∷ 0 ∷ 1 ∷ 0 ∷ 0 ∷ 0 ∷ 0 ∷ 0 ∷ 0 ∷ [];
      handles = [];
      session = fresh;
    }
unfolding does done_by opens device message shown
state_without = refl

bare_config : does (acks 0x200) (message GET_CONFIG false (0 ∷ 2 ∷ 0 ∷ 0 ∷ 4 ∷ 0 ∷ 0 ∷ 0 ∷ 0 ∷ 0 ∷ 0 ∷ 0 ∷ 0 ∷ 0 ∷ 0 ∷ 0 ∷ []) [])
    ≡ record {
      call = Some (GetConfig 0x200 4 0);
      answer = Ok tt;
      text = 0x18 ∷ 0 ∷ 0 ∷ 0 ∷ 5 ∷ 0 ∷ 0 ∷ 0 ∷ 0xc ∷ 0 ∷ 0 ∷ 0 ∷ 0 ∷ 2 ∷ 0 ∷ 0 ∷ 0 ∷ 0 ∷ 0 ∷ 0 ∷ 0 ∷ 0 ∷ 0 ∷ 0 ∷ [];
      handles = [];
      session = acks 0x200;
    }
unfolding does done_by opens device message shown acks
bare_config = refl

protocol_features : does fresh (message GET_PROTOCOL_FEATURES false [] [])
    ≡ record {
      call = Some GetProtocolFeatures;
      answer = Ok tt;
      text = 0xf ∷ 0 ∷ 0 ∷ 0 ∷ 5 ∷ 0 ∷ 0 ∷ 0 ∷ 8 ∷ 0 ∷ 0 ∷ 0 ∷ 8 ∷ 0 ∷ 0 ∷ 0 ∷ 0 ∷ 0 ∷ 0 ∷ 0 ∷ [];
      handles = [];
      session = fresh;
    }
unfolding does done_by opens device message shown
protocol_features = refl

vring_num : does fresh (message SET_VRING_NUM false (1 ∷ 0 ∷ 0 ∷ 0 ∷ 0 ∷ 1 ∷ 0 ∷ 0 ∷ []) [])
    ≡ record { call = Some (SetVringNum 1 256); answer = Ok tt; text = []; handles = []; session = fresh }
unfolding does done_by opens device message shown
vring_num = refl

-- the greatest size of a packet: its feature, and no more than 16 bits
mtu : does (acks 0x18) (message NET_SET_MTU true (0xdc ∷ 5 ∷ 0 ∷ 0 ∷ 0 ∷ 0 ∷ 0 ∷ 0 ∷ []) [])
    ≡ record {
      call = Some (SetMtu 1500);
      answer = Ok tt;
      text = 0x14 ∷ 0 ∷ 0 ∷ 0 ∷ 5 ∷ 0 ∷ 0 ∷ 0 ∷ 8 ∷ 0 ∷ 0 ∷ 0 ∷ 0 ∷ 0 ∷ 0 ∷ 0 ∷ 0 ∷ 0 ∷ 0 ∷ 0 ∷ [];
      handles = [];
      session = acks 0x18;
    }
unfolding does done_by opens device message shown acks
mtu = refl

no_mtu : does (acks 8) (message NET_SET_MTU true (0xdc ∷ 5 ∷ 0 ∷ 0 ∷ 0 ∷ 0 ∷ 0 ∷ 0 ∷ []) [])
    ≡ record { call = None; answer = Err (InactiveOperation 0x10); text = []; handles = []; session = acks 8 }
unfolding does done_by opens device message shown acks
no_mtu = refl

great_mtu : does (acks 0x18) (message NET_SET_MTU true (0 ∷ 0 ∷ 1 ∷ 0 ∷ 0 ∷ 0 ∷ 0 ∷ 0 ∷ []) [])
    ≡ record { call = None; answer = Err InvalidParam; text = []; handles = []; session = acks 0x18 }
unfolding does done_by opens device message shown acks
great_mtu = refl

log_fd : does (acks 8) (message SET_LOG_FD true [] (1 ∷ []))
    ≡ record { call = None; answer = Err InvalidMessage; text = []; handles = []; session = acks 8 }
unfolding does done_by opens device message shown acks
log_fd = refl

short_config : does (acks 0x208) (message SET_CONFIG true (replicate 8 0) [])
    ≡ record {
      call = None;
      answer = Err InvalidMessage;
      text = 0x19 ∷ 0 ∷ 0 ∷ 0 ∷ 5 ∷ 0 ∷ 0 ∷ 0 ∷ 8 ∷ 0 ∷ 0 ∷ 0 ∷ 1 ∷ 0 ∷ 0 ∷ 0 ∷ 0 ∷ 0 ∷ 0 ∷ 0 ∷ [];
      handles = [];
      session = acks 0x208;
    }
unfolding does done_by opens device message shown acks
short_config = refl

no_shmem : does fresh (message GET_SHMEM_CONFIG false [] [])
    ≡ record { call = None; answer = Err (InactiveOperation 0x400000); text = []; handles = []; session = fresh }
unfolding does done_by opens device message shown
no_shmem = refl

gpu_socket : does fresh (message GPU_SET_SOCKET false [] (1000 ∷ []))
    ≡ record { call = Some (SetGpuSocket 1000); answer = Ok tt; text = []; handles = []; session = fresh }
unfolding does done_by opens device message shown
gpu_socket = refl

-- a refused end is acknowledged as an error, and the session is at its end
refused_end : does (record (acks 0x108) { postcopy = Listen }) (message POSTCOPY_END true [] [])
    ≡ record {
      call = Some PostcopyEnd;
      answer = Err InvalidParam;
      text = 0x1e ∷ 0 ∷ 0 ∷ 0 ∷ 5 ∷ 0 ∷ 0 ∷ 0 ∷ 8 ∷ 0 ∷ 0 ∷ 0 ∷ 1 ∷ 0 ∷ 0 ∷ 0 ∷ 0 ∷ 0 ∷ 0 ∷ 0 ∷ [];
      handles = [];
      session = record (acks 0x108) { postcopy = End };
    }
unfolding does done_by opens device message shown acks
refused_end = refl

-- the bases of two regions, in the order of the regions
bases : (does (record (acks 0x108) { postcopy = Listen }) (message SET_MEM_TABLE true two_regions (1 ∷ 2 ∷ []))).text
    ≡ 5 ∷ 0 ∷ 0 ∷ 0 ∷ 5 ∷ 0 ∷ 0 ∷ 0 ∷ 0x48 ∷ 0 ∷ 0 ∷ 0 ∷ two_regions
unfolding does done_by opens device message shown acks two_regions
bases = refl

mapped : does (record (acks 0x108) { postcopy = Listen }) (message SET_MEM_TABLE false (replicate 8 0) [])
    ≡ record { call = Some PostcopyAckMemRegions; answer = Ok tt; text = []; handles = []; session = record (acks 0x108) { postcopy = Listen } }
unfolding does done_by opens device message shown acks
mapped = refl

-- the other answers to a transfer
failing : (c : Call ℕ ℕ ℕ) → Answer c
failing (SetDeviceStateFd t h) = Err InvalidParam
failing c = device c

giving : (c : Call ℕ ℕ ℕ) → Answer c
giving (SetDeviceStateFd t h) = Ok (Some 55)
giving c = device c

transfer : Message HeardReq ℕ
transfer = message SET_DEVICE_STATE_FD false (replicate 8 0) (9 ∷ [])

state_failed : (done_by failing opens fresh transfer (row fresh transfer)).text ≡ 0x2a ∷ 0 ∷ 0 ∷ 0 ∷ 5 ∷ 0 ∷ 0 ∷ 0 ∷ 8 ∷ 0 ∷ 0 ∷ 0 ∷ 1 ∷ 1 ∷ replicate 6 0
unfolding done_by opens failing message shown transfer
state_failed = refl

state_given : (done_by giving opens fresh transfer (row fresh transfer)).handles ≡ 55 ∷ []
unfolding done_by opens giving message shown transfer
state_given = refl

-- a handle that is no socket: acknowledged as an error, the device untouched
backend_fd : Message HeardReq ℕ
backend_fd = message SET_BACKEND_REQ_FD true [] (7 ∷ [])

no_socket : does (acks 0x28) backend_fd
    ≡ record { call = None; answer = Err (InvalidSocketFd (Named (codes "not a socket"))); text = 0x15 ∷ 0 ∷ 0 ∷ 0 ∷ 5 ∷ 0 ∷ 0 ∷ 0 ∷ 8 ∷ 0 ∷ 0 ∷ 0 ∷ 1 ∷ replicate 7 0; handles = []; session = acks 0x28 }
unfolding does done_by opens device message shown acks backend_fd
no_socket = refl

-- more handles than regions, and more regions than a table may have: acknowledged as errors, the device untouched
refused : Done
refused = record {
  call = None;
  answer = Err InvalidMessage;
  text = 5 ∷ 0 ∷ 0 ∷ 0 ∷ 5 ∷ 0 ∷ 0 ∷ 0 ∷ 8 ∷ 0 ∷ 0 ∷ 0 ∷ 1 ∷ replicate 7 0;
  handles = [];
  session = acks 8;
}

regions : ℕ → List ℕ
regions n = digits 4 n ++ digits 4 0 ++ flat_map region_text (replicate n (record { guest_phys_addr = 0; memory_size = 0x1000; user_addr = 0x7000; mmap_offset = 0 }))

too_many_handles : does (acks 8) (message SET_MEM_TABLE true (regions 1) (1 ∷ 2 ∷ [])) ≡ refused
unfolding does done_by opens device message shown acks regions refused
too_many_handles = refl

too_many_regions : does (acks 8) (message SET_MEM_TABLE true (regions 33) (replicate 32 1)) ≡ refused
unfolding does done_by opens device message shown acks regions refused
too_many_regions = refl

-- a table of one region reaches the device
one_region : (does (acks 8) (message SET_MEM_TABLE true (regions 1) (1 ∷ []))).call ≡ Some (SetMemTable (record { guest_phys_addr = 0; memory_size = 0x1000; user_addr = 0x7000; mmap_offset = 0 } ∷ []) (1 ∷ []) (Some false))
unfolding does done_by opens device message shown acks regions
one_region = refl

-- ---- acknowledgements: where they are wanted and on, with the device's answer

unable : (c : Call ℕ ℕ ℕ) → Answer c
unable SetOwner = Err (InvalidOperation (codes "already claimed"))
unable GetFeatures = Err InvalidParam
unable c = device c

owner_text : ℕ → List ℕ
owner_text n = 3 ∷ 0 ∷ 0 ∷ 0 ∷ 5 ∷ 0 ∷ 0 ∷ 0 ∷ 8 ∷ 0 ∷ 0 ∷ 0 ∷ n ∷ replicate 7 0

owner_agreed : (does (acks 8) (message SET_OWNER true [] [])).text ≡ owner_text 0
unfolding does done_by opens device message shown acks owner_text
owner_agreed = refl

owner_refused : (done_by unable opens (acks 8) (message SET_OWNER true [] []) (row (acks 8) (message SET_OWNER true [] []))).text ≡ owner_text 1
unfolding done_by opens unable message shown acks owner_text
owner_refused = refl

owner_unasked : (does (acks 8) (message SET_OWNER false [] [])).text ≡ []
unfolding does done_by opens device message shown acks
owner_unasked = refl

owner_off : (does fresh (message SET_OWNER true [] [])).text ≡ []
unfolding does done_by opens device message shown
owner_off = refl

owner_with_body : does (acks 8) (message SET_OWNER true (0 ∷ []) []) ≡ record { call = None; answer = Err InvalidMessage; text = []; handles = []; session = acks 8 }
unfolding does done_by opens device message shown acks
owner_with_body = refl

-- features that the device does not tell: nothing is written, and nothing remembered
no_features : done_by unable opens (acks 8) (message GET_FEATURES true [] []) (row (acks 8) (message GET_FEATURES true [] []))
    ≡ record { call = Some GetFeatures; answer = Err InvalidParam; text = []; handles = []; session = acks 8 }
unfolding done_by opens unable message shown acks
no_features = refl

-- ---- the profile Standard

standard : ℕ → Session
standard features = record (acks features) { profile = Standard }

-- a request that has no row is the device's, whole; whether it is served is acknowledged, where that is wanted and on
unserved : does (standard 8) (message IOTLB_MSG true (1 ∷ 2 ∷ []) (7 ∷ []))
    ≡ record {
      call = Some (Other 22 (1 ∷ 2 ∷ []) (7 ∷ []));
      answer = Err (InvalidOperation (codes "request not served"));
      text = 0x16 ∷ 0 ∷ 0 ∷ 0 ∷ 5 ∷ 0 ∷ 0 ∷ 0 ∷ 8 ∷ 0 ∷ 0 ∷ 0 ∷ 1 ∷ 0 ∷ 0 ∷ 0 ∷ 0 ∷ 0 ∷ 0 ∷ 0 ∷ [];
      handles = [];
      session = standard 8;
    }
unfolding does done_by opens device message shown acks standard
unserved = refl

unserved_quietly : does (standard 8) (message IOTLB_MSG false [] [])
    ≡ record { call = Some (Other 22 [] []); answer = Err (InvalidOperation (codes "request not served")); text = []; handles = []; session = standard 8 }
unfolding does done_by opens device message shown acks standard
unserved_quietly = refl

-- one that the device serves
other_served : does (standard 8) (message SEND_RARP true (replicate 8 2) [])
    ≡ record {
      call = Some (Other 19 (replicate 8 2) []);
      answer = Ok tt;
      text = 0x13 ∷ 0 ∷ 0 ∷ 0 ∷ 5 ∷ 0 ∷ 0 ∷ 0 ∷ 8 ∷ 0 ∷ 0 ∷ 0 ∷ replicate 8 0;
      handles = [];
      session = standard 8;
    }
unfolding does done_by opens device message shown acks standard
other_served = refl

-- a ring is enabled before any features are acknowledged, where bit 30 was offered
enabled : does (standard 0) (message SET_VRING_ENABLE false (0 ∷ 0 ∷ 0 ∷ 0 ∷ 1 ∷ 0 ∷ 0 ∷ 0 ∷ []) [])
    ≡ record { call = Some (SetVringEnable 0 true); answer = Ok tt; text = []; handles = []; session = standard 0 }
unfolding does done_by opens device message shown acks standard
enabled = refl

enabled_by_vhost : does (acks 0) (message SET_VRING_ENABLE false (0 ∷ 0 ∷ 0 ∷ 0 ∷ 1 ∷ 0 ∷ 0 ∷ 0 ∷ []) [])
    ≡ record { call = None; answer = Err (InactiveFeature 0x40000000); text = []; handles = []; session = acks 0 }
unfolding does done_by opens device message shown acks
enabled_by_vhost = refl

not_offered : does (record fresh { profile = Standard }) (message SET_VRING_ENABLE false (0 ∷ 0 ∷ 0 ∷ 0 ∷ 1 ∷ 0 ∷ 0 ∷ 0 ∷ []) [])
    ≡ record { call = None; answer = Err (InactiveFeature 0x40000000); text = []; handles = []; session = record fresh { profile = Standard } }
unfolding does done_by opens device message shown
not_offered = refl

-- a memory table of one region in 72 bytes; by the other profile, and where it is too short, it is refused
long_table : (does (standard 8) (message SET_MEM_TABLE true (regions 1 ++ replicate 32 0) (1 ∷ []))).call
    ≡ Some (SetMemTable (record { guest_phys_addr = 0; memory_size = 0x1000; user_addr = 0x7000; mmap_offset = 0 } ∷ []) (1 ∷ []) (Some false))
unfolding does done_by opens device message shown acks standard regions
long_table = refl

long_table_by_vhost : does (acks 8) (message SET_MEM_TABLE true (regions 1 ++ replicate 32 0) (1 ∷ [])) ≡ refused
unfolding does done_by opens device message shown acks regions refused
long_table_by_vhost = refl

short_table : (does (standard 8) (message SET_MEM_TABLE true (take 71 two_regions) (1 ∷ 2 ∷ []))).call ≡ None
unfolding does done_by opens device message shown acks standard two_regions
short_table = refl
