-- Worked rows on records and headers: each holds by computing.
use Rattle.std.proofs.Common.{◌≡◌, ℕ, true, false, [], ◌∷◌, ◌++◌, replicate, Some, None, refl}
use Rattle.vhost_message.specs.HeardReq.{request_of}
use Rattle.vhost_message.specs.Header.{Header, header_text}
use Rattle.vhost_message.specs.Records.{mmap_text, mmap_of, inflight_text, inflight_of, shmem_config_text}
use Rattle.vhost_message.specs.Valid.{is_valid_region, is_valid_mmap, is_valid_config, is_valid_uuid}
use Rattle.vhost_message.specs.declared.heard_req.HeardReq.TheVariants.{GET_FEATURES}
use Rattle.vhost_message.specs.declared.records.config.VhostUserConfig.{VhostUserConfig}
use Rattle.vhost_message.specs.declared.records.inflight.VhostUserInflight.{VhostUserInflight}
use Rattle.vhost_message.specs.declared.records.memory.VhostUserMemoryRegion.{VhostUserMemoryRegion}
use Rattle.vhost_message.specs.declared.records.shmem.VhostUserMMap.{VhostUserMMap}
use Rattle.vhost_protocol.specs.Split.{announced}

region_to : ℕ → ℕ → VhostUserMemoryRegion
region_to start size = record { guest_phys_addr = start; memory_size = size; user_addr = 0; mmap_offset = 0 }

-- a region may end at the last address, and not beyond
ends_last : is_valid_region (region_to 0xFFFFFFFFFFFFEFFF 0x1000) ≡ true
unfolding region_to
ends_last = refl

ends_beyond : is_valid_region (region_to 0xFFFFFFFFFFFFF000 0x1000) ≡ false
unfolding region_to
ends_beyond = refl

empty_region : is_valid_region (region_to 0 0) ≡ false
unfolding region_to
empty_region = refl

head : ℕ → ℕ → Header
head flags size = record { code = 1; flags = flags; size = size }

greatest : announced request_of (head 1 4096) ≡ Some GET_FEATURES
unfolding head
greatest = refl

too_great : announced request_of (head 1 4097) ≡ None
unfolding head
too_great = refl

unknown_flag : announced request_of (head 0x11 0) ≡ None
unfolding head
unknown_flag = refl

version_0 : announced request_of (head 0 0) ≡ None
unfolding head
version_0 = refl

version_2 : announced request_of (head 2 0) ≡ None
unfolding head
version_2 = refl

header_spelled : header_text (head 0xd 0) ≡ 1 ∷ 0 ∷ 0 ∷ 0 ∷ 0xd ∷ 0 ∷ 0 ∷ 0 ∷ 0 ∷ 0 ∷ 0 ∷ 0 ∷ []
unfolding head
header_spelled = refl

mapping : VhostUserMMap
mapping = record { shmid = 0; padding = replicate 7 0; fd_offset = 0; shm_offset = 1028; len = 4096; flags = 1 }

mapping_spelled : mmap_text mapping ≡ replicate 16 0 ++ 4 ∷ 4 ∷ 0 ∷ 0 ∷ 0 ∷ 0 ∷ 0 ∷ 0 ∷ 0 ∷ 0x10 ∷ 0 ∷ 0 ∷ 0 ∷ 0 ∷ 0 ∷ 0 ∷ 1 ∷ 0 ∷ 0 ∷ 0 ∷ 0 ∷ 0 ∷ 0 ∷ 0 ∷ []
unfolding mapping
mapping_spelled = refl

mapping_read : mmap_of (mmap_text mapping) ≡ mapping
unfolding mapping
mapping_read = refl

mapping_valid : is_valid_mmap mapping ≡ true
unfolding mapping
mapping_valid = refl

mapping_beyond : is_valid_mmap (record mapping { len = 0x2000; fd_offset = 0xFFFFFFFFFFFFE000 }) ≡ false
unfolding mapping
mapping_beyond = refl

mapping_last : is_valid_mmap (record mapping { len = 0x2000; fd_offset = 0xFFFFFFFFFFFFDFFF }) ≡ true
unfolding mapping
mapping_last = refl

queues : VhostUserInflight
queues = record { mmap_size = 0x1000; mmap_offset = 0; num_queues = 2; queue_size = 256 }

inflight_spelled : inflight_text queues ≡ 0 ∷ 0x10 ∷ replicate 14 0 ++ 2 ∷ 0 ∷ 0 ∷ 1 ∷ 0 ∷ 0 ∷ 0 ∷ 0 ∷ []
unfolding queues
inflight_spelled = refl

reserved_unread : inflight_of (0 ∷ 0x10 ∷ replicate 14 0 ++ 2 ∷ 0 ∷ 0 ∷ 1 ∷ 255 ∷ 255 ∷ 255 ∷ 255 ∷ []) ≡ queues
unfolding queues
reserved_unread = refl

area : ℕ → ℕ → VhostUserConfig
area offset size = record { offset = offset; size = size; flags = 1 }

area_last : is_valid_config (area 0xFFF 1) ≡ true
unfolding area
area_last = refl

area_beyond : is_valid_config (area 0xFFF 2) ≡ false
unfolding area
area_beyond = refl

area_wraps : is_valid_config (area 0xFFFFFFFF 1) ≡ false
unfolding area
area_wraps = refl

shmem_spelled : shmem_config_text (record { nregions = 2; padding = 0; memory_sizes = 0x10000 ∷ 0 ∷ 0x20000 ∷ replicate 253 0 })
    ≡ 2 ∷ replicate 7 0 ++ 0 ∷ 0 ∷ 1 ∷ replicate 13 0 ++ 0 ∷ 0 ∷ 2 ∷ replicate 5 0 ++ replicate 2024 0
shmem_spelled = refl

no_code_0 : request_of 0 ≡ None
no_code_0 = refl

no_code_45 : request_of 45 ≡ None
no_code_45 = refl

nil_name : is_valid_uuid (replicate 16 0) ≡ false
nil_name = refl
