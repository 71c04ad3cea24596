-- Whoever waits is answered. The table says what a request becomes, and leaves some refusals in silence. Here, at one place for all rows, is what
-- becomes of such a silence under Standard: the request's own reply in the form that refuses, an acknowledgement, or the end of the session.
use Rattle.std.specs.Prelude.{ℕ, pos, Bool, true, false, not, ◌&&◌, ◌||◌, List, [], length, Some, is_err, is_ok, if◌then◌else◌, ◌==◌, nat_le}
use Rattle.vhost_message.specs.Bits.{has_bit}
use Rattle.vhost_message.specs.declared.heard_req.HeardReq.{HeardReq}
use Rattle.vhost_message.specs.declared.heard_req.HeardReq.TheVariants.{GET_FEATURES, SET_MEM_TABLE, SET_LOG_BASE, GET_VRING_BASE, GET_PROTOCOL_FEATURES, GET_QUEUE_NUM, GET_CONFIG, CREATE_CRYPTO_SESSION, POSTCOPY_ADVISE, POSTCOPY_LISTEN, POSTCOPY_END, GET_INFLIGHT_FD, GET_MAX_MEM_SLOTS, ADD_MEM_REG, GET_STATUS, GET_SHARED_OBJECT, SET_DEVICE_STATE_FD, CHECK_DEVICE_STATE, GET_SHMEM_CONFIG}
use Rattle.vhost_message.specs.declared.records.config.VhostUserConfig.{VhostUserConfig}
use Rattle.vhost_message.specs.declared.records.inflight.VhostUserInflight.{VhostUserInflight}
use Rattle.vhost_message.specs.Records.{config_of, inflight_of}
use Rattle.vhost_protocol.specs.Features.{LOG_SHMFD}
use Rattle.vhost_protocol.specs.Profile.{is_standard}
use Rattle.vhost_protocol.specs.Served.{Served, Silent, Acknowledged, Replied}
use Rattle.vhost_protocol.specs.Session.{Session, is_listen, ack_on}
use Rattle.vhost_protocol.specs.Split.{Message}
use Rattle.vhost_protocol.specs.Step.{Outcome}
use Rattle.vhost_protocol.specs.Written.{Empty, U64, ConfigBytes, InflightArea}

-- ---- who waits

-- the requests that have a reply of their own, whatever their flags; some only in this session
abbrev pub has_reply : HeardReq → Session → (size : ℕ) → Bool
has_reply GET_FEATURES s size = true
has_reply GET_PROTOCOL_FEATURES s size = true
has_reply GET_QUEUE_NUM s size = true
has_reply GET_VRING_BASE s size = true
has_reply GET_CONFIG s size = true
has_reply GET_INFLIGHT_FD s size = true
has_reply GET_MAX_MEM_SLOTS s size = true
has_reply GET_STATUS s size = true
has_reply GET_SHARED_OBJECT s size = true
has_reply GET_SHMEM_CONFIG s size = true
has_reply CREATE_CRYPTO_SESSION s size = true
has_reply SET_DEVICE_STATE_FD s size = true
has_reply CHECK_DEVICE_STATE s size = true
has_reply POSTCOPY_ADVISE s size = true
has_reply POSTCOPY_END s size = true
has_reply SET_LOG_BASE s size = has_bit s.acked_protocol_features LOG_SHMFD
-- while listening; a body of eight bytes is itself an answer
has_reply SET_MEM_TABLE s size = is_listen s.postcopy && not (size == 8)
has_reply ADD_MEM_REG s size = is_listen s.postcopy && not (size == 8)
has_reply _ s size = false

-- the request has a reply of its own
abbrev pub awaits_reply : {H : Type 0} → Session → Message HeardReq H → Bool
awaits_reply s m = has_reply m.request s (length m.body)

-- it wants to be acknowledged, in the session as it is from then on: the choice of protocol features decides about its own acknowledgement
abbrev pub awaits_ack : {H : Type 0} → Message HeardReq H → Outcome H → Bool
awaits_ack m o = ack_on o.session && m.need_reply

-- the frontend waits
abbrev pub is_awaited : {H : Type 0} → Session → Message HeardReq H → Outcome H → Bool
is_awaited s m o = awaits_reply s m || awaits_ack m o

-- what it waits for was not written: nothing was, or an acknowledgement in the place of a reply of its own
abbrev pub is_unanswered : {H : Type 0} → (own : Bool) → Served H → Bool
is_unanswered own Silent = true
is_unanswered own (Acknowledged agreed) = own
is_unanswered own (Replied payload handles) = false

-- ---- what becomes of silence

-- The session has ended: it reads nothing more, each later call of it says so, and its socket is to be closed. The number is EPROTO's.
abbrev pub ended : {H : Type 0} → Outcome H → Outcome H
ended o = record o { session = record (o.session) { failed = Some (pos 71) } }

-- without what was written
abbrev pub silenced : {H : Type 0} → Outcome H → Outcome H
silenced o = record o { served = Silent }

-- something is written in the place of silence
abbrev pub saying : {H : Type 0} → Outcome H → Served H → Outcome H
saying o served = record o { served = served }

-- The record that a refused request began with, which its reply names again; one of zeros where there is none.
abbrev pub config_asked : List ℕ → VhostUserConfig
config_asked body = if nat_le 12 (length body) then config_of body else record { offset = 0; size = 0; flags = 0 }

abbrev pub inflight_asked : List ℕ → VhostUserInflight
inflight_asked body = if nat_le 24 (length body) then inflight_of body else record { mmap_size = 0; mmap_offset = 0; num_queues = 0; queue_size = 0 }

-- The forms in which replies refuse. Where there is none the session ends: a frontend that is hung up on recovers, one that waits does not.
abbrev pub refused_reply : {H : Type 0} → HeardReq → List ℕ → Outcome H → Outcome H
refused_reply GET_CONFIG body o = saying o (Replied (ConfigBytes (record (config_asked body) { size = 0 }) []) [])
refused_reply GET_INFLIGHT_FD body o = saying o (Replied (InflightArea (record (inflight_asked body) { mmap_size = 0 })) [])
refused_reply GET_SHARED_OBJECT body o = saying o (Replied Empty [])
refused_reply POSTCOPY_ADVISE body o = saying o (Replied Empty [])
refused_reply SET_DEVICE_STATE_FD body o = saying o (Replied (U64 0x101) [])
refused_reply CHECK_DEVICE_STATE body o = saying o (Replied (U64 1) [])
-- its reply says whether it succeeded
refused_reply POSTCOPY_END body o = saying o (Replied (U64 (if is_ok o.answer then 0 else 1)) [])
refused_reply _ body o = ended o

-- the one request that turns both sides' state and has no reply: a refusal that nobody hears would leave them apart
abbrev pub is_listening : HeardReq → Bool
is_listening POSTCOPY_LISTEN = true
is_listening _ = false

-- a refusal that nobody would hear, and that the session cannot outlive: of LISTEN, and of a message that is itself a reply
abbrev pub is_fatal : {H : Type 0} → Message HeardReq H → Outcome H → Bool
is_fatal m o = is_err o.answer && (m.reply || is_listening m.request && not (awaits_ack m o))

-- what a silence becomes
abbrev pub spoken : {H : Type 0} → Session → Message HeardReq H → Outcome H → Outcome H
spoken s m o =
    if awaits_reply s m && not m.reply then refused_reply m.request m.body o
    else if is_fatal m o || awaits_reply s m then ended o
    else if awaits_ack m o then saying o (Acknowledged (is_ok o.answer))
    else o

-- What a request became, settled: under Vhost as the table has it.
abbrev pub settled : {H : Type 0} → Session → Message HeardReq H → Outcome H → Outcome H
settled s m o = if is_standard s.profile && is_unanswered (awaits_reply s m) o.served then spoken s m (silenced o) else o
