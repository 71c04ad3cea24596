-- Records of C, as the definitions see them.
use Rattle.std.specs.Prelude.{ℤ, pos, negsuc, nat_lt, int_lt, unsigned_abs, Option, Some, None, if◌then◌else◌}
use Rattle.vhost_message.specs.declared.records.config.VhostUserConfig.{VhostUserConfig}
use Rattle.vhost_message.specs.declared.records.inflight.VhostUserInflight.{VhostUserInflight}
use Rattle.vhost_message.specs.declared.vring_config.VringConfigData.{VringConfigData}
use Rattle.vhost_link.specs.declared.handle.Kind.TheVariants.{NoSocket}
use Rattle.vhost_link.specs.declared.plain.PlainHandle.{PlainHandle}
use Rattle.vhost_c_common.specs.declared.records.Config.{Config}
use Rattle.vhost_c_common.specs.declared.records.Inflight.{Inflight}
use Rattle.vhost_c_common.specs.declared.records.Vring.{Vring}

-- the handle of a descriptor: its number; none where that is negative
abbrev pub handle_in : ℤ → Option PlainHandle
handle_in fd = if int_lt fd (pos 0) then None else Some (record { id = unsigned_abs fd; kind = NoSocket })

-- the descriptor of a handle, or -1
abbrev pub fd_in : PlainHandle → ℤ
fd_in h = if nat_lt 2147483647 h.id then negsuc 0 else pos h.id

-- where a ring lies
abbrev pub vring_in : Vring → VringConfigData
vring_in v = record { queue_max_size = v.queue_max_size; queue_size = v.queue_size; flags = v.flags; desc_table_addr = v.desc_table_addr; used_ring_addr = v.used_ring_addr; avail_ring_addr = v.avail_ring_addr; log_addr = if v.has_log_addr then Some v.log_addr else None }

-- the buffer for descriptors in flight
abbrev pub inflight_in : Inflight → VhostUserInflight
inflight_in i = record { mmap_size = i.mmap_size; mmap_offset = i.mmap_offset; num_queues = i.num_queues; queue_size = i.queue_size }

-- a part of the configuration space
abbrev pub config_in : Config → VhostUserConfig
config_in c = record { offset = c.offset; size = c.size; flags = c.flags }
