-- Records of C, as the definitions see them.
use Rattle.std.specs.Prelude.{replicate}
use Rattle.vhost_message.specs.declared.records.shmem.VhostUserMMap.{VhostUserMMap}
use Rattle.vhost_c_channel.specs.declared.records.Mmap.{Mmap}

-- a mapping that is asked for: its padding is 0
abbrev pub mmap_in : Mmap → VhostUserMMap
mmap_in m = record { shmid = m.shmid; padding = replicate 7 0; fd_offset = m.fd_offset; shm_offset = m.shm_offset; len = m.len; flags = m.flags }

-- a mapping that came: its padding does not count
abbrev pub mmap_out : VhostUserMMap → Mmap
mmap_out m = record { fd_offset = m.fd_offset; shm_offset = m.shm_offset; len = m.len; flags = m.flags; shmid = m.shmid }
