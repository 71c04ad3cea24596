-- Worked rows of a frontend under the profile Standard: each holds by computing.
use Rattle.std.proofs.Common.{◌≡◌, ℕ, Bool, true, false, List, [], ◌∷◌, ◌++◌, replicate, Option, Some, None, Ok, Err, refl}
use Rattle.vhost_message.specs.declared.heard_req.HeardReq.{HeardReq}
use Rattle.vhost_message.specs.declared.heard_req.HeardReq.TheVariants.{SET_OWNER, SET_LOG_BASE, SET_PROTOCOL_FEATURES}
use Rattle.vhost_message.specs.Header.{Header, header_text}
use Rattle.vhost_message.specs.Text.{digits}
use Rattle.vhost_protocol.specs.AnswerTable.{Answered, answered}
use Rattle.vhost_protocol.specs.Ask.{Sends, ask}
use Rattle.vhost_protocol.specs.declared.asked.Awaited.TheVariants.{Nobody, Ack, Reply}
use Rattle.vhost_protocol.specs.declared.asked.Shape.TheVariants as shape
use Rattle.vhost_protocol.specs.declared.profile.Profile.TheVariants.{Vhost, Standard}
use Rattle.vhost_protocol.specs.Error.{PartialMessage, InvalidMessage, BackendInternalError}
use Rattle.vhost_protocol.specs.FrontendCall.{GetFeatures, GetConfig, SetOwner, SetProtocolFeatures, SetLogBase, LogRegion, Nothing, Number, ConfigOf, Frontend, new_frontend}
use Rattle.vhost_protocol.specs.ReplySplit.{reply_split, received, bare_or_reply, whole_split}
use Rattle.vhost_protocol.specs.Stream.{Cell, plain, carrying}
use Rattle.vhost_protocol.specs.Take.{take}
use Rattle.vhost_protocol.specs.Written.{Payload, Empty, U64, Written}

header : ℕ → ℕ → ℕ → Header
header code flags size = record { code = code; flags = flags; size = size }

-- a frontend with these protocol features, and with the flag NEED_REPLY
asking : ℕ → Frontend
asking features = record (new_frontend 2) { offered = 0x40000003; acked_protocol_features = features; header_flags = 8; profile = Standard }

by_vhost : ℕ → Frontend
by_vhost features = record (asking features) { profile = Vhost }

-- ---- what is sent

sent : HeardReq → Bool → Payload → Written HeardReq ℕ
sent r need_reply payload = record { request = r; reply = false; need_reply = need_reply; payload = payload; handles = [] }

-- NEED_REPLY goes out only where REPLY_ACK is acknowledged, by this request perhaps
owner_before : ask (asking 0) SetOwner ≡ Sends (sent SET_OWNER false Empty) Nobody (asking 0)
unfolding asking sent
owner_before = refl

owner_before_by_vhost : ask (by_vhost 0) SetOwner ≡ Sends (sent SET_OWNER true Empty) Nobody (by_vhost 0)
unfolding asking by_vhost sent
owner_before_by_vhost = refl

owner_after : ask (asking 8) SetOwner ≡ Sends (sent SET_OWNER true Empty) Ack (asking 8)
unfolding asking sent
owner_after = refl

features_agreed : ask (asking 0) (SetProtocolFeatures 8) ≡ Sends (sent SET_PROTOCOL_FEATURES true (U64 8)) Ack (asking 8)
unfolding asking sent
features_agreed = refl

-- the base of a log alone is acknowledged like every request
base_alone : ask (asking 8) (SetLogBase 0x1000 None) ≡ Sends (sent SET_LOG_BASE true (U64 0x1000)) Ack (asking 8)
unfolding asking sent
base_alone = refl

base_alone_by_vhost : ask (by_vhost 8) (SetLogBase 0x1000 None) ≡ Sends (sent SET_LOG_BASE true (U64 0x1000)) Nobody (by_vhost 8)
unfolding asking by_vhost sent
base_alone_by_vhost = refl

-- a region before LOG_SHMFD is acknowledged is none
log : LogRegion ℕ
log = record { mmap_size = 0x2000; mmap_offset = 0; handle = Some 3 }

region_too_soon : ask (asking 8) (SetLogBase 0x1000 (Some log)) ≡ Sends (sent SET_LOG_BASE true (U64 0x1000)) Ack (asking 8)
unfolding asking sent log
region_too_soon = refl

-- ---- the reply of the log, which may have any size

logged : Frontend → List (Cell ℕ) → Option (Answered ℕ) × List (Cell ℕ)
logged f cells = take (SetLogBase 0x1000 (Some log)) (Reply shape.Log) (header 6 1 16) f cells

-- as libvhost-user replies: eight bytes
log_of_eight : logged (asking 10) (plain (header_text (header 6 5 8) ++ digits 8 0x2000 ++ 9 ∷ [])) ≡ (Some (answered (asking 10) (Ok Nothing)), plain (9 ∷ []))
unfolding logged whole_split header log asking
log_of_eight = refl

-- as the specification has it: none
log_of_none : logged (asking 10) (plain (header_text (header 6 5 0) ++ 9 ∷ [])) ≡ (Some (answered (asking 10) (Ok Nothing)), plain (9 ∷ []))
unfolding logged whole_split header log asking
log_of_none = refl

-- as the crate `vhost` replies, whatever the record says
log_of_sixteen : logged (asking 10) (plain (header_text (header 6 5 16) ++ replicate 16 0 ++ 9 ∷ [])) ≡ (Some (answered (asking 10) (Ok Nothing)), plain (9 ∷ []))
unfolding logged whole_split header log asking
log_of_sixteen = refl

log_with_handle : logged (asking 10) (carrying (7 ∷ []) (header_text (header 6 5 0) ++ 9 ∷ [])) ≡ (Some (answered (asking 10) (Err InvalidMessage)), plain (9 ∷ []))
unfolding logged whole_split header log asking
log_with_handle = refl

log_by_vhost : logged (by_vhost 10) (plain (header_text (header 6 5 8) ++ digits 8 0x2000)) ≡ (Some (answered (by_vhost 10) (Err PartialMessage)), [])
unfolding logged reply_split header log asking by_vhost
log_by_vhost = refl

-- ---- configuration bytes that the handler has not

config : Frontend → List (Cell ℕ) → Option (Answered ℕ) × List (Cell ℕ)
config f cells = take (GetConfig 0x100 4 0 (replicate 4 0)) (Reply shape.Config) (header 24 1 16) f cells

config_of_none : config (asking 0) (plain (header_text (header 24 5 0) ++ 9 ∷ [])) ≡ (Some (answered (asking 0) (Err BackendInternalError)), plain (9 ∷ []))
unfolding config whole_split header asking
config_of_none = refl

config_by_vhost : config (by_vhost 0) (plain (header_text (header 24 5 0) ++ 9 ∷ [])) ≡ (Some (answered (by_vhost 0) (Err PartialMessage)), [])
unfolding config bare_or_reply header asking by_vhost
config_by_vhost = refl

config_bare : config (asking 0) (plain (header_text (header 24 5 12) ++ digits 4 0x100 ++ digits 8 0 ++ 9 ∷ [])) ≡ (Some (answered (asking 0) (Err BackendInternalError)), plain (9 ∷ []))
unfolding config whole_split header asking
config_bare = refl

config_found : config (asking 0) (plain (header_text (header 24 5 16) ++ digits 4 0x100 ++ digits 4 4 ++ digits 4 0 ++ replicate 4 0xa5 ++ 9 ∷ []))
    ≡ (Some (answered (asking 0) (Ok (ConfigOf (record { offset = 0x100; size = 4; flags = 0 }) (replicate 4 0xa5)))), plain (9 ∷ []))
unfolding config whole_split header asking
config_found = refl

-- one byte more than there is room for
config_longer : config (asking 0) (plain (header_text (header 24 5 17) ++ digits 4 0x100 ++ digits 4 4 ++ digits 4 0 ++ replicate 5 0xa5 ++ 9 ∷ [])) ≡ (Some (answered (asking 0) (Err InvalidMessage)), plain (digits 4 0x100 ++ digits 4 4 ++ digits 4 0 ++ replicate 5 0xa5 ++ 9 ∷ []))
unfolding config whole_split header asking
config_longer = refl

-- ---- a reply of another size is refused at its header, and what it announces stays

features : Frontend → List (Cell ℕ) → Option (Answered ℕ) × List (Cell ℕ)
features f cells = take GetFeatures (Reply shape.U64) (header 1 1 0) f cells

right : features (asking 0) (plain (header_text (header 1 5 8) ++ digits 8 0x40000003 ++ 9 ∷ [])) ≡ (Some (answered (asking 0) (Ok (Number 0x40000003))), plain (9 ∷ []))
unfolding features whole_split header asking
right = refl

longer : features (asking 0) (plain (header_text (header 1 5 12) ++ digits 8 0x40000003 ++ digits 4 0 ++ 9 ∷ [])) ≡ (Some (answered (asking 0) (Err InvalidMessage)), plain (digits 8 0x40000003 ++ digits 4 0 ++ 9 ∷ []))
unfolding features whole_split header asking
longer = refl

-- the surplus stays, and would be read as the next reply
longer_by_vhost : features (by_vhost 0) (plain (header_text (header 1 5 12) ++ digits 8 0x40000003 ++ digits 4 0)) ≡ (Some (answered (by_vhost 0) (Ok (Number 0x40000003))), plain (digits 4 0))
unfolding features reply_split received header asking by_vhost
longer_by_vhost = refl

shorter : features (asking 0) (plain (header_text (header 1 5 4) ++ digits 4 3 ++ 9 ∷ [])) ≡ (Some (answered (asking 0) (Err InvalidMessage)), plain (digits 4 3 ++ 9 ∷ []))
unfolding features whole_split header asking
shorter = refl

cut_short : features (asking 0) (plain (header_text (header 1 5 8) ++ digits 4 3)) ≡ (Some (answered (asking 0) (Err PartialMessage)), [])
unfolding features whole_split header asking
cut_short = refl

-- behind a header that is not valid nothing is read
not_valid : features (asking 0) (plain (header_text (header 1 6 8) ++ digits 4 3)) ≡ (Some (answered (asking 0) (Err InvalidMessage)), plain (digits 4 3))
unfolding features whole_split header asking
not_valid = refl

-- the same of an acknowledgement
longer_ack : take SetOwner Ack (header 3 9 0) (asking 8) (plain (header_text (header 3 5 9) ++ digits 8 0 ++ 7 ∷ 9 ∷ [])) ≡ (Some (answered {H = ℕ} (asking 8) (Err InvalidMessage)), plain (digits 8 0 ++ 7 ∷ 9 ∷ []))
unfolding whole_split header asking
longer_ack = refl
