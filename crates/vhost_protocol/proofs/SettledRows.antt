-- Worked rows of what becomes of silence under Standard: each holds by computing.
use Rattle.std.proofs.Common.{◌≡◌, ℕ, Bool, true, false, List, [], ◌∷◌, ◌++◌, replicate, Option, Some, None, Err, refl, pos, ℤ}
use Rattle.vhost_message.specs.declared.heard_req.HeardReq.{HeardReq}
use Rattle.vhost_message.specs.declared.heard_req.HeardReq.TheVariants.{GET_VRING_BASE, GET_QUEUE_NUM, SET_VRING_ENABLE, NET_SET_MTU, SET_LOG_BASE, POSTCOPY_LISTEN, POSTCOPY_END, GET_INFLIGHT_FD, SET_INFLIGHT_FD, ADD_MEM_REG, GET_SHMEM_CONFIG, GET_STATUS, VRING_KICK, OTHER}
use Rattle.vhost_message.specs.declared.postcopy.PostcopyState.TheVariants.{Listen}
use Rattle.vhost_message.specs.Text.{digits}
use Rattle.vhost_protocol.specs.declared.profile.Profile.{Profile}
use Rattle.vhost_protocol.specs.declared.profile.Profile.TheVariants.{Vhost, Standard}
use Rattle.vhost_protocol.specs.DeviceCall as device
use Rattle.vhost_protocol.specs.DeviceCall.{Call, Answer}
use Rattle.vhost_protocol.specs.Error.{InvalidParam}
use Rattle.vhost_protocol.specs.Row.{row}
use Rattle.vhost_protocol.specs.Served.{Served, Silent, Acknowledged, Replied}
use Rattle.vhost_protocol.specs.Session.{Session, fresh}
use Rattle.vhost_protocol.specs.Settled.{settled}
use Rattle.vhost_protocol.specs.Split.{Message}
use Rattle.vhost_protocol.specs.Step.{Step, Refused, Calls}
use Rattle.vhost_protocol.specs.Written.{U64, InflightArea}

-- a device that refuses what has a reply
refuses : (c : Call ℕ ℕ ℕ) → Option (Answer c)
refuses (device.GetVringBase i) = Some (Err InvalidParam)
refuses (device.GetInflightFd i) = Some (Err InvalidParam)
refuses device.GetShmemConfig = Some (Err InvalidParam)
refuses (device.AddMemRegion region handle postcopy) = Some (Err InvalidParam)
refuses (device.Other request body handles) = Some (Err InvalidParam)
refuses _ = None

-- what the frontend sees, and the number of the session's end
seen : Session → Message HeardReq ℕ → Step ℕ ℕ ℕ → Option (Served ℕ × Option ℤ)
seen s m (Refused r) =
    let o = settled s m (record { answer = Err r.error; served = r.served; session = s }) in Some (o.served, o.session.failed)
seen s m (Calls c next) = go (refuses c)
  where
    go : Option (Answer c) → Option (Served ℕ × Option ℤ)
    go (Some a) =
        let o = settled s m (next a) in Some (o.served, o.session.failed)
    go None = None
seen s m _ = None

-- acknowledgements are on, and these protocol features beside them
session : Profile → ℕ → Session
session p features = record fresh { offered = 0x40000000; acked_protocol_features = features; profile = p }

asks : Profile → ℕ → HeardReq → Bool → List ℕ → Option (Served ℕ × Option ℤ)
asks p features r need_reply body =
    let m : Message HeardReq ℕ = record { request = r; reply = false; need_reply = need_reply; body = body; handles = [] } in seen (session p features) m (row (session p features) m)

ends : Option (Served ℕ × Option ℤ)
ends = Some (Silent, Some (pos 71))

denies : Option (Served ℕ × Option ℤ)
denies = Some (Acknowledged false, None)

nothing : Option (Served ℕ × Option ℤ)
nothing = Some (Silent, None)

-- ---- with NEED_REPLY

mtu : asks Standard 0xFFFFF NET_SET_MTU true (digits 8 70000) ≡ denies
unfolding asks seen session refuses denies
mtu = refl

mtu_vhost : asks Vhost 0xFFFFF NET_SET_MTU true (digits 8 70000) ≡ nothing
unfolding asks seen session refuses nothing
mtu_vhost = refl

listen : asks Standard 0xFFFFF POSTCOPY_LISTEN true [] ≡ denies
unfolding asks seen session refuses denies
listen = refl

end : asks Standard 0xFFFFF POSTCOPY_END true [] ≡ Some (Replied (U64 1) [], None)
unfolding asks seen session refuses
end = refl

enable : asks Standard 0xFFFFF SET_VRING_ENABLE true (digits 4 0 ++ digits 4 2) ≡ denies
unfolding asks seen session refuses denies
enable = refl

region : asks Standard 0xFFFFF ADD_MEM_REG true (replicate 40 1) ≡ denies
unfolding asks seen session refuses denies
region = refl

set_inflight : asks Standard 0xFFFFF SET_INFLIGHT_FD true (replicate 24 1) ≡ denies
unfolding asks seen session refuses denies
set_inflight = refl

kick : asks Standard 0xFFFFF VRING_KICK true (replicate 8 0) ≡ denies
unfolding asks seen session refuses denies
kick = refl

-- a number that is no request's
other : asks Standard 0xFFFFF (OTHER 77) true (replicate 5 1) ≡ denies
unfolding asks seen session refuses denies
other = refl

-- replies of their own that have no form which refuses
log : asks Standard 0xFFFFF SET_LOG_BASE true (replicate 16 1) ≡ ends
unfolding asks seen session refuses ends
log = refl

queues : asks Standard 8 GET_QUEUE_NUM true [] ≡ ends
unfolding asks seen session refuses ends
queues = refl

base : asks Standard 8 GET_VRING_BASE true (digits 4 9 ++ digits 4 0) ≡ ends
unfolding asks seen session refuses ends
base = refl

shmem : asks Standard 0xFFFFF GET_SHMEM_CONFIG true [] ≡ ends
unfolding asks seen session refuses ends
shmem = refl

status : asks Standard 8 GET_STATUS true [] ≡ ends
unfolding asks seen session refuses ends
status = refl

-- one that has
inflight : asks Standard 0xFFFFF GET_INFLIGHT_FD true (replicate 16 0 ++ digits 2 1 ++ digits 2 128 ++ replicate 4 0) ≡ Some (Replied (InflightArea (record { mmap_size = 0; mmap_offset = 0; num_queues = 1; queue_size = 128 })) [], None)
unfolding asks seen session refuses
inflight = refl

-- an acknowledgement is no reply: while postcopy listens a region that is refused ends the session
listened : Session
listened = record (session Standard 0xFFFFF) { postcopy = Listen }

adds : Message HeardReq ℕ
adds = record { request = ADD_MEM_REG; reply = false; need_reply = true; body = replicate 40 1; handles = 3 ∷ [] }

region_listened : seen listened adds (row listened adds) ≡ ends
unfolding seen session refuses ends listened adds
region_listened = refl

-- ---- without

end_unasked : asks Standard 0xFFFFF POSTCOPY_END false [] ≡ Some (Replied (U64 1) [], None)
unfolding asks seen session refuses
end_unasked = refl

listen_unasked : asks Standard 0xFFFFF POSTCOPY_LISTEN false [] ≡ ends
unfolding asks seen session refuses ends
listen_unasked = refl

mtu_unasked : asks Standard 0xFFFFF NET_SET_MTU false (digits 8 70000) ≡ nothing
unfolding asks seen session refuses nothing
mtu_unasked = refl
