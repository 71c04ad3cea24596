-- Worked rows of frontend and handler together: each holds by computing.
use Rattle.std.proofs.Common.{◌≡◌, ℕ, Bool, true, false, List, [], ◌∷◌, ◌++◌, replicate, Option, Some, None, Result, Ok, Err, refl}
use Rattle.std.specs.Prelude.{codes, if◌then◌else◌, ◌==◌, nat_le}
use Rattle.vhost_message.specs.HeardReq.{request_number}
use Rattle.vhost_message.specs.declared.heard_req.HeardReq.{HeardReq}
use Rattle.vhost_message.specs.declared.heard_req.HeardReq.TheVariants.{SET_MEM_TABLE, REM_MEM_REG, ADD_MEM_REG}
use Rattle.vhost_message.specs.declared.postcopy.PostcopyState.TheVariants.{Listen, End, Advise}
use Rattle.vhost_protocol.specs.AnswerTable.{Answered, answer}
use Rattle.vhost_protocol.specs.Ask.{Asked, Refuses, Answers, Sends, ask}
use Rattle.vhost_protocol.specs.DeviceCall as device
use Rattle.vhost_protocol.specs.DeviceCall.{Call, Answer}
use Rattle.vhost_protocol.specs.Error.{Error, InvalidOperation, InvalidParam, InactiveOperation, BackendInternalError, PartialMessage}
use Rattle.vhost_protocol.specs.FrontendCall.{FrontendCall, Info, GetFeatures, SetOwner, GetProtocolFeatures, GetQueueNum, GetVringBase, GetConfig, SetMemTable, AddMemRegion, GetInflightFd, SetDeviceStateFd, PostcopyAdvise, PostcopyListen, PostcopyEnd, PostcopyAckMemRegions, SetVringCall, SetVringKick, SetFeatures, SetProtocolFeatures, SetHdrFlags, Value, Nothing, Number, Bases, Base, ConfigOf, HandleOf, InflightOf, StateHandle, Frontend, new_frontend, SetVringBase, SetBackendRequestFd, SetMtu}
use Rattle.vhost_protocol.specs.Joined.{read_as, is_last}
use Rattle.vhost_protocol.specs.Row.{row}
use Rattle.vhost_protocol.specs.Served.{reply}
use Rattle.vhost_protocol.specs.declared.profile.Profile.TheVariants.{Vhost}
use Rattle.vhost_protocol.specs.Session.{Session, fresh}
use Rattle.vhost_protocol.specs.Settled.{settled}
use Rattle.vhost_protocol.specs.Socket.{opened, NoSocket, UnixStream}
use Rattle.vhost_protocol.specs.Step.{Step, Outcome, Refused, Calls, OpensBackend, OpensGpu}
use Rattle.vhost_protocol.specs.Written.{Written, written_text}

-- what a line shows: request, reply, answer, and both sessions
record Line : Type 0 where
  request : List ℕ × List ℕ
  reply : List ℕ × List ℕ
  result : Option (Result (Value ℕ) Error)
  frontend : Frontend
  session : Session
  last : Bool

text_of : Option (Written HeardReq ℕ) → List ℕ × List ℕ
text_of None = ([], [])
text_of (Some w) = (written_text request_number w, w.handles)

-- handles from 1000 on are sockets, whose channels have their numbers
opens : ℕ → Result ℕ Error
opens h = opened (Ok (if nat_le 1000 h then UnixStream else NoSocket)) (Ok h)

outcome_of : ((c : Call ℕ ℕ ℕ) → Answer c) → Session → Step ℕ ℕ ℕ → Outcome ℕ
outcome_of gives s (Refused r) = record { answer = Err r.error; served = r.served; session = s }
outcome_of gives s (Calls c next) = next (gives c)
outcome_of gives s (OpensBackend h next) = outcome_of gives s (next (opens h))
outcome_of gives s (OpensGpu h next) = outcome_of gives s (next (opens h))

-- a call over a device that answers by a function
line : ((c : Call ℕ ℕ ℕ) → Answer c) → Frontend → Session → FrontendCall ℕ → Line
line gives f s call = go (ask f call)
  where
    shown : Written HeardReq ℕ → Outcome ℕ → Option (Answered ℕ) → Line
    shown w o (Some a) = record { request = text_of (Some w); reply = text_of (reply w.request o.served); result = Some a.result; frontend = a.session; session = o.session; last = is_last w.request o }
    shown w o None = record { request = text_of (Some w); reply = text_of (reply w.request o.served); result = None; frontend = f; session = o.session; last = is_last w.request o }

    go : Asked ℕ → Line
    go (Refuses e) = record { request = ([], []); reply = ([], []); result = Some (Err e); frontend = f; session = s; last = false }
    go (Answers v g) = record { request = ([], []); reply = ([], []); result = Some (Ok v); frontend = g; session = s; last = false }
    go (Sends w awaited g) =
        let o = settled s (read_as w) (outcome_of gives s (row s (read_as w))) in shown w o (answer call awaited g o.served)

-- the example device, where it has not been owned
example : (c : Call ℕ ℕ ℕ) → Answer c
example device.GetFeatures = Ok 0x40000003
example device.SetOwner = Ok tt
example device.GetProtocolFeatures = Ok 0x7FFFFF
example (device.SetMemTable (r ∷ q ∷ []) hs (Some true)) = Ok (Some (r.user_addr ∷ q.user_addr ∷ []))
example (device.SetMemTable rs hs postcopy) = Ok None
example (device.GetVringBase i) = Ok (record { index = i; num = 7 })
example device.GetQueueNum = Ok 2
example (device.GetConfig o n f) = if o == 0x100 then Ok (replicate 4 0xa5) else Err InvalidParam
example (device.SetBackendReqFd h) = tt
example (device.GetSharedObject u) = Ok 100
example (device.GetInflightFd i) = Ok (record i { mmap_size = 0x1000 }, 100)
example device.GetMaxMemSlots = Ok 509
example (device.AddMemRegion r h (Some true)) = Ok (Some (r.region.user_addr))
example (device.AddMemRegion r h postcopy) = Ok None
example (device.SetDeviceStateFd t h) = Ok None
example device.GetShmemConfig = Err InvalidParam
example device.PostcopyAdvice = Ok 100
example device.PostcopyEnd = Err InvalidParam
example (device.SetFeatures n) = Ok tt
example _ = Ok tt

-- both sides after `get_features`, with these protocol features and header flags
sides : ℕ → ℕ → Frontend
sides features flags = record (new_frontend 2) { offered = 0x40000003; acked_protocol_features = features; header_flags = flags }

session_of : Frontend → Session
session_of f = record { offered = f.offered; acked = f.acked; acked_protocol_features = f.acked_protocol_features; postcopy = f.postcopy; failed = None; profile = Vhost }

shows : Frontend → FrontendCall ℕ → Line
shows f call = line example f (session_of f) call

first_line : line example (new_frontend 2) fresh GetFeatures
    ≡ record {
      request = (1 ∷ 0 ∷ 0 ∷ 0 ∷ 1 ∷ 0 ∷ 0 ∷ 0 ∷ 0 ∷ 0 ∷ 0 ∷ 0 ∷ [], []);
      reply = (1 ∷ 0 ∷ 0 ∷ 0 ∷ 5 ∷ 0 ∷ 0 ∷ 0 ∷ 8 ∷ 0 ∷ 0 ∷ 0 ∷ 3 ∷ 0 ∷ 0 ∷ 0x40 ∷ 0 ∷ 0 ∷ 0 ∷ 0 ∷ [], []);
      result = Some (Ok (Number 0x40000003));
      frontend = sides 0 0;
      session = session_of (sides 0 0);
      last = false;
    }
unfolding line outcome_of opens text_of example sides session_of
first_line = refl

bare_config : shows (sides 0x200 0) (GetConfig 0x200 4 0 (replicate 4 0))
    ≡ record {
      request = (0x18 ∷ 0 ∷ 0 ∷ 0 ∷ 1 ∷ 0 ∷ 0 ∷ 0 ∷ 0x10 ∷ 0 ∷ 0 ∷ 0 ∷ 0 ∷ 2 ∷ 0 ∷ 0 ∷ 4 ∷ replicate 11 0, []);
      reply = (0x18 ∷ 0 ∷ 0 ∷ 0 ∷ 5 ∷ 0 ∷ 0 ∷ 0 ∷ 0xc ∷ 0 ∷ 0 ∷ 0 ∷ 0 ∷ 2 ∷ replicate 10 0, []);
      result = Some (Err BackendInternalError);
      frontend = sides 0x200 0;
      session = session_of (sides 0x200 0);
      last = false;
    }
unfolding shows line outcome_of opens text_of example sides session_of
bare_config = refl

known_config : shows (sides 0x200 0) (GetConfig 0x100 4 0 (replicate 4 0))
    ≡ record {
      request = (0x18 ∷ 0 ∷ 0 ∷ 0 ∷ 1 ∷ 0 ∷ 0 ∷ 0 ∷ 0x10 ∷ 0 ∷ 0 ∷ 0 ∷ 0 ∷ 1 ∷ 0 ∷ 0 ∷ 4 ∷ replicate 11 0, []);
      reply = (0x18 ∷ 0 ∷ 0 ∷ 0 ∷ 5 ∷ 0 ∷ 0 ∷ 0 ∷ 0x10 ∷ 0 ∷ 0 ∷ 0 ∷ 0 ∷ 1 ∷ 0 ∷ 0 ∷ 4 ∷ replicate 7 0 ++ replicate 4 0xa5, []);
      result = Some (Ok (ConfigOf (record { offset = 0x100; size = 4; flags = 0 }) (replicate 4 0xa5)));
      frontend = sides 0x200 0;
      session = session_of (sides 0x200 0);
      last = false;
    }
unfolding shows line outcome_of opens text_of example sides session_of
known_config = refl

protocol_features : (shows (sides 0 0) GetProtocolFeatures).result ≡ Some (Ok (Number 0x7fffff))
unfolding shows line outcome_of opens text_of example sides session_of
protocol_features = refl

-- the greatest size of a packet
mtu : shows (sides 0x18 8) (SetMtu 1500)
    ≡ record {
      request = (0x14 ∷ 0 ∷ 0 ∷ 0 ∷ 9 ∷ 0 ∷ 0 ∷ 0 ∷ 8 ∷ 0 ∷ 0 ∷ 0 ∷ 0xdc ∷ 5 ∷ replicate 6 0, []);
      reply = (0x14 ∷ 0 ∷ 0 ∷ 0 ∷ 5 ∷ 0 ∷ 0 ∷ 0 ∷ 8 ∷ replicate 11 0, []);
      result = Some (Ok Nothing);
      frontend = sides 0x18 8;
      session = session_of (sides 0x18 8);
      last = false;
    }
unfolding shows line outcome_of opens text_of example sides session_of
mtu = refl

mtu_unknown : (shows (sides 8 8) (SetMtu 1500)).result ≡ Some (Err (InactiveOperation 0x10))
unfolding shows line outcome_of opens text_of example sides session_of
mtu_unknown = refl

-- one of more than 16 bits is refused in silence, which is the last step
mtu_too_large : (shows (sides 0x18 8) (SetMtu 65536)).result ≡ Some (Err PartialMessage)
unfolding shows line outcome_of opens text_of example sides session_of
mtu_too_large = refl

mtu_too_large_is_last : (shows (sides 0x18 8) (SetMtu 65536)).last ≡ true
unfolding shows line outcome_of opens text_of example sides session_of
mtu_too_large_is_last = refl

-- where a second owner is refused: acknowledged as an error, and the run goes on
claimed : (c : Call ℕ ℕ ℕ) → Answer c
claimed device.SetOwner = Err (InvalidOperation (codes "already claimed"))
claimed c = example c

second_owner : line claimed (sides 8 8) (session_of (sides 8 8)) SetOwner
    ≡ record {
      request = (3 ∷ 0 ∷ 0 ∷ 0 ∷ 9 ∷ 0 ∷ 0 ∷ 0 ∷ 0 ∷ 0 ∷ 0 ∷ 0 ∷ [], []);
      reply = (3 ∷ 0 ∷ 0 ∷ 0 ∷ 5 ∷ 0 ∷ 0 ∷ 0 ∷ 8 ∷ 0 ∷ 0 ∷ 0 ∷ 1 ∷ replicate 7 0, []);
      result = Some (Err BackendInternalError);
      frontend = sides 8 8;
      session = session_of (sides 8 8);
      last = false;
    }
unfolding line outcome_of opens text_of claimed sides session_of
second_owner = refl

-- the same without an acknowledgement: the frontend answers success, and the run stops
silent_owner : line claimed (sides 8 0) (session_of (sides 8 0)) SetOwner
    ≡ record {
      request = (3 ∷ 0 ∷ 0 ∷ 0 ∷ 1 ∷ 0 ∷ 0 ∷ 0 ∷ 0 ∷ 0 ∷ 0 ∷ 0 ∷ [], []);
      reply = ([], []);
      result = Some (Ok Nothing);
      frontend = sides 8 0;
      session = session_of (sides 8 0);
      last = true;
    }
unfolding line outcome_of opens text_of claimed sides session_of
silent_owner = refl

advise : shows (sides 0x108 8) PostcopyAdvise
    ≡ record {
      request = (0x1c ∷ 0 ∷ 0 ∷ 0 ∷ 9 ∷ replicate 7 0, []);
      reply = (0x1c ∷ 0 ∷ 0 ∷ 0 ∷ 5 ∷ replicate 7 0, 100 ∷ []);
      result = Some (Ok (HandleOf 100));
      frontend = record (sides 0x108 8) { postcopy = Advise };
      session = record (session_of (sides 0x108 8)) { postcopy = Advise };
      last = false;
    }
unfolding shows line outcome_of opens text_of example sides session_of
advise = refl

listen : shows (record (sides 0x108 8) { postcopy = Advise }) PostcopyListen
    ≡ record {
      request = (0x1d ∷ 0 ∷ 0 ∷ 0 ∷ 9 ∷ replicate 7 0, []);
      reply = (0x1d ∷ 0 ∷ 0 ∷ 0 ∷ 5 ∷ 0 ∷ 0 ∷ 0 ∷ 8 ∷ replicate 11 0, []);
      result = Some (Ok Nothing);
      frontend = record (sides 0x108 8) { postcopy = Listen };
      session = record (session_of (sides 0x108 8)) { postcopy = Listen };
      last = false;
    }
unfolding shows line outcome_of opens text_of example sides session_of
listen = refl

info : ℕ → ℕ → ℕ → Info ℕ
info guest user h = record { region = record { guest_phys_addr = guest; memory_size = 0x1000; user_addr = user; mmap_offset = 0 }; handle = Some h }

listening : Frontend
listening = record (sides 0x8108 8) { postcopy = Listen }

mem_table : (shows listening (SetMemTable (info 0 0x7000 1 ∷ info 0x1000 0x9000 2 ∷ []))).result ≡ Some (Ok (Bases (Some (0x7000 ∷ 0x9000 ∷ []))))
unfolding shows line outcome_of opens text_of example sides session_of info listening
mem_table = refl

mem_table_handles : (shows listening (SetMemTable (info 0 0x7000 1 ∷ info 0x1000 0x9000 2 ∷ []))).request.1 ≡ 1 ∷ 2 ∷ []
unfolding shows line outcome_of opens text_of example sides session_of info listening
mem_table_handles = refl

mapped : shows listening (PostcopyAckMemRegions SET_MEM_TABLE)
    ≡ record { request = (5 ∷ 0 ∷ 0 ∷ 0 ∷ 1 ∷ 0 ∷ 0 ∷ 0 ∷ 8 ∷ replicate 11 0, []); reply = ([], []); result = Some (Ok Nothing); frontend = listening; session = session_of listening; last = false }
unfolding shows line outcome_of opens text_of example sides session_of listening
mapped = refl

mapped_wrong : (shows listening (PostcopyAckMemRegions REM_MEM_REG)).result ≡ Some (Err InvalidParam)
unfolding shows line outcome_of opens text_of example sides session_of listening
mapped_wrong = refl

-- a refused end is acknowledged: the frontend still listens, the handler is at its end, and the run stops
refused_end : shows listening PostcopyEnd
    ≡ record {
      request = (0x1e ∷ 0 ∷ 0 ∷ 0 ∷ 9 ∷ replicate 7 0, []);
      reply = (0x1e ∷ 0 ∷ 0 ∷ 0 ∷ 5 ∷ 0 ∷ 0 ∷ 0 ∷ 8 ∷ 0 ∷ 0 ∷ 0 ∷ 1 ∷ replicate 7 0, []);
      result = Some (Err BackendInternalError);
      frontend = listening;
      session = record (session_of listening) { postcopy = End };
      last = true;
    }
unfolding shows line outcome_of opens text_of example sides session_of listening
refused_end = refl

added : shows listening (AddMemRegion (info 0x2000 0xb000 3))
    ≡ record {
      request = (0x25 ∷ 0 ∷ 0 ∷ 0 ∷ 1 ∷ 0 ∷ 0 ∷ 0 ∷ 0x28 ∷ 0 ∷ 0 ∷ 0 ∷ replicate 9 0 ++ 0x20 ∷ replicate 7 0 ++ 0x10 ∷ replicate 7 0 ++ 0xb0 ∷ replicate 14 0, 3 ∷ []);
      reply = (0x25 ∷ 0 ∷ 0 ∷ 0 ∷ 5 ∷ 0 ∷ 0 ∷ 0 ∷ 0x28 ∷ 0 ∷ 0 ∷ 0 ∷ replicate 9 0 ++ 0x20 ∷ replicate 7 0 ++ 0x10 ∷ replicate 7 0 ++ 0xb0 ∷ replicate 14 0, []);
      result = Some (Ok (Base (Some 0xb000)));
      frontend = listening;
      session = session_of listening;
      last = false;
    }
unfolding shows line outcome_of opens text_of example sides session_of listening info
added = refl

-- no answer where one is awaited: the handler refused in silence
listen_too_soon : shows (sides 0x8108 8) PostcopyListen
    ≡ record { request = (0x1d ∷ 0 ∷ 0 ∷ 0 ∷ 9 ∷ replicate 7 0, []); reply = ([], []); result = Some (Err PartialMessage); frontend = sides 0x8108 8; session = session_of (sides 0x8108 8); last = true }
unfolding shows line outcome_of opens text_of example sides session_of
listen_too_soon = refl

queues : (shows (sides 1 0) GetQueueNum).result ≡ Some (Ok (Number 2))
unfolding shows line outcome_of opens text_of example sides session_of
queues = refl

no_such_ring : (shows (sides 1 0) (GetVringBase 2)).result ≡ Some (Err InvalidParam)
unfolding shows line outcome_of opens text_of example sides session_of
no_such_ring = refl

ring_base : (shows (sides 1 0) (GetVringBase 1)).reply.0 ≡ 0xb ∷ 0 ∷ 0 ∷ 0 ∷ 5 ∷ 0 ∷ 0 ∷ 0 ∷ 8 ∷ 0 ∷ 0 ∷ 0 ∷ 1 ∷ 0 ∷ 0 ∷ 0 ∷ 7 ∷ 0 ∷ 0 ∷ 0 ∷ []
unfolding shows line outcome_of opens text_of example sides session_of
ring_base = refl

many_rings : (shows (record (sides 1 0) { max_queue_num = 300 }) (SetVringCall 256 (Some 5))).result ≡ Some (Err InvalidParam)
unfolding shows line outcome_of opens text_of example sides session_of
many_rings = refl

-- a ring whose device is to poll: bit 8 of its number, and no handle
polled_ring : shows (sides 8 8) (SetVringKick 1 None)
    ≡ record {
      request = (0xc ∷ 0 ∷ 0 ∷ 0 ∷ 9 ∷ 0 ∷ 0 ∷ 0 ∷ 8 ∷ 0 ∷ 0 ∷ 0 ∷ 1 ∷ 1 ∷ replicate 6 0, []);
      reply = (0xc ∷ 0 ∷ 0 ∷ 0 ∷ 5 ∷ 0 ∷ 0 ∷ 0 ∷ 8 ∷ replicate 11 0, []);
      result = Some (Ok Nothing);
      frontend = sides 8 8;
      session = session_of (sides 8 8);
      last = false;
    }
unfolding shows line outcome_of opens text_of example sides session_of
polled_ring = refl

inflight : shows (sides 0x1000 0) (GetInflightFd (record { mmap_size = 0; mmap_offset = 0; num_queues = 2; queue_size = 256 }))
    ≡ record {
      request = (0x1f ∷ 0 ∷ 0 ∷ 0 ∷ 1 ∷ 0 ∷ 0 ∷ 0 ∷ 0x18 ∷ 0 ∷ 0 ∷ 0 ∷ replicate 16 0 ++ 2 ∷ 0 ∷ 0 ∷ 1 ∷ 0 ∷ 0 ∷ 0 ∷ 0 ∷ [], []);
      reply = (0x1f ∷ 0 ∷ 0 ∷ 0 ∷ 5 ∷ 0 ∷ 0 ∷ 0 ∷ 0x18 ∷ 0 ∷ 0 ∷ 0 ∷ 0 ∷ 0x10 ∷ replicate 14 0 ++ 2 ∷ 0 ∷ 0 ∷ 1 ∷ 0 ∷ 0 ∷ 0 ∷ 0 ∷ [], 100 ∷ []);
      result = Some (Ok (InflightOf (record { mmap_size = 0x1000; mmap_offset = 0; num_queues = 2; queue_size = 256 }) 100));
      frontend = sides 0x1000 0;
      session = session_of (sides 0x1000 0);
      last = false;
    }
unfolding shows line outcome_of opens text_of example sides session_of
inflight = refl

transfer : (shows (sides 0x80000 0) (SetDeviceStateFd (record { direction = 0; phase = 0 }) 9)).result ≡ Some (Ok (StateHandle None))
unfolding shows line outcome_of opens text_of example sides session_of
transfer = refl

set_base : shows (sides 1 0) (SetVringBase 1 7)
    ≡ record {
      request = (0xa ∷ 0 ∷ 0 ∷ 0 ∷ 1 ∷ 0 ∷ 0 ∷ 0 ∷ 8 ∷ 0 ∷ 0 ∷ 0 ∷ 1 ∷ 0 ∷ 0 ∷ 0 ∷ 7 ∷ 0 ∷ 0 ∷ 0 ∷ [], []);
      reply = ([], []);
      result = Some (Ok Nothing);
      frontend = sides 1 0;
      session = session_of (sides 1 0);
      last = false;
    }
unfolding shows line outcome_of opens text_of example sides session_of
set_base = refl

-- with an acknowledgement, a handle that is a socket
backend_fd : shows (sides 0x28 8) (SetBackendRequestFd 1000)
    ≡ record {
      request = (0x15 ∷ 0 ∷ 0 ∷ 0 ∷ 9 ∷ replicate 7 0, 1000 ∷ []);
      reply = (0x15 ∷ 0 ∷ 0 ∷ 0 ∷ 5 ∷ 0 ∷ 0 ∷ 0 ∷ 8 ∷ replicate 11 0, []);
      result = Some (Ok Nothing);
      frontend = sides 0x28 8;
      session = session_of (sides 0x28 8);
      last = false;
    }
unfolding shows line outcome_of opens text_of example sides session_of
backend_fd = refl

advise_twice : shows (record (sides 0x8108 8) { postcopy = Advise }) PostcopyAdvise
    ≡ record {
      request = (0x1c ∷ 0 ∷ 0 ∷ 0 ∷ 9 ∷ replicate 7 0, []);
      reply = ([], []);
      result = Some (Err PartialMessage);
      frontend = record (sides 0x8108 8) { postcopy = Advise };
      session = session_of (record (sides 0x8108 8) { postcopy = Advise });
      last = true;
    }
unfolding shows line outcome_of opens text_of example sides session_of
advise_twice = refl

-- zero regions are refused in silence
mapped_too_soon : shows (sides 0x8108 8) (PostcopyAckMemRegions SET_MEM_TABLE)
    ≡ record {
      request = (5 ∷ 0 ∷ 0 ∷ 0 ∷ 1 ∷ 0 ∷ 0 ∷ 0 ∷ 8 ∷ replicate 11 0, []);
      reply = ([], []);
      result = Some (Ok Nothing);
      frontend = sides 0x8108 8;
      session = session_of (sides 0x8108 8);
      last = true;
    }
unfolding shows line outcome_of opens text_of example sides session_of
mapped_too_soon = refl

mapped_region : shows listening (PostcopyAckMemRegions ADD_MEM_REG)
    ≡ record { request = (0x25 ∷ 0 ∷ 0 ∷ 0 ∷ 1 ∷ 0 ∷ 0 ∷ 0 ∷ 8 ∷ replicate 11 0, []); reply = ([], []); result = Some (Ok Nothing); frontend = listening; session = session_of listening; last = false }
unfolding shows line outcome_of opens text_of example sides session_of listening
mapped_region = refl

-- a handle that is no socket: acknowledged as an error
no_socket : shows (sides 0x28 8) (SetBackendRequestFd 7)
    ≡ record {
      request = (0x15 ∷ 0 ∷ 0 ∷ 0 ∷ 9 ∷ replicate 7 0, 7 ∷ []);
      reply = (0x15 ∷ 0 ∷ 0 ∷ 0 ∷ 5 ∷ 0 ∷ 0 ∷ 0 ∷ 8 ∷ 0 ∷ 0 ∷ 0 ∷ 1 ∷ replicate 7 0, []);
      result = Some (Err BackendInternalError);
      frontend = sides 0x28 8;
      session = session_of (sides 0x28 8);
      last = false;
    }
unfolding shows line outcome_of opens text_of example sides session_of
no_socket = refl

-- while listening, a device that gives one base for two regions: nothing is written, and the run stops
one_base : (c : Call ℕ ℕ ℕ) → Answer c
one_base (device.SetMemTable rs hs postcopy) = Ok (Some (0x7000 ∷ []))
one_base c = example c

too_few_bases : (line one_base listening (session_of listening) (SetMemTable (info 0 0x7000 1 ∷ info 0x1000 0x9000 2 ∷ []))).result ≡ Some (Err PartialMessage)
unfolding line outcome_of opens text_of one_base example sides session_of info listening
too_few_bases = refl

too_few_bases_last : (line one_base listening (session_of listening) (SetMemTable (info 0 0x7000 1 ∷ info 0x1000 0x9000 2 ∷ []))).last ≡ true
unfolding line outcome_of opens text_of one_base example sides session_of info listening
too_few_bases_last = refl

-- `set_features` sends the value, and keeps what was offered of it
some_features : shows (sides 0 0) (SetFeatures 0x40000001)
    ≡ record {
      request = (2 ∷ 0 ∷ 0 ∷ 0 ∷ 1 ∷ 0 ∷ 0 ∷ 0 ∷ 8 ∷ 0 ∷ 0 ∷ 0 ∷ 1 ∷ 0 ∷ 0 ∷ 0x40 ∷ 0 ∷ 0 ∷ 0 ∷ 0 ∷ [], []);
      reply = ([], []);
      result = Some (Ok Nothing);
      frontend = record (sides 0 0) { acked = 0x40000001 };
      session = record (session_of (sides 0 0)) { acked = 0x40000001 };
      last = false;
    }
unfolding shows line outcome_of opens text_of example sides session_of
some_features = refl

-- a new state of the acknowledgements holds at once: no REPLY_ACK before, an acknowledgement after
acks_on : shows (sides 0 8) (SetProtocolFeatures 8)
    ≡ record {
      request = (0x10 ∷ 0 ∷ 0 ∷ 0 ∷ 9 ∷ 0 ∷ 0 ∷ 0 ∷ 8 ∷ 0 ∷ 0 ∷ 0 ∷ 8 ∷ replicate 7 0, []);
      reply = (0x10 ∷ 0 ∷ 0 ∷ 0 ∷ 5 ∷ 0 ∷ 0 ∷ 0 ∷ 8 ∷ replicate 11 0, []);
      result = Some (Ok Nothing);
      frontend = sides 8 8;
      session = session_of (sides 8 8);
      last = false;
    }
unfolding shows line outcome_of opens text_of example sides session_of
acks_on = refl

-- header flags are set without a message
flags_set : shows (sides 8 0) (SetHdrFlags 8) ≡ record { request = ([], []); reply = ([], []); result = Some (Ok Nothing); frontend = sides 8 8; session = session_of (sides 8 8); last = false }
unfolding shows line outcome_of opens text_of example sides session_of
flags_set = refl
