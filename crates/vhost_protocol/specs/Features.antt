-- Features that both sides negotiate, by their bits ("Feature negotiation" and "Protocol features").
use Rattle.std.specs.Prelude.{ℕ}
use Rattle.vhost_message.specs.declared.protocol_bit.TheConstants as bit
use Rattle.vhost_message.specs.declared.virtio_bit.TheConstants as virtio

-- the virtio feature that opens the protocol features (VHOST_USER_F_PROTOCOL_FEATURES)
abbrev pub PROTOCOL_FEATURES : ℕ
PROTOCOL_FEATURES = virtio.PROTOCOL_FEATURES

-- more than one queue ("Multiple queue support")
abbrev pub MQ : ℕ
MQ = bit.MQ

-- the log may lie in shared memory ("Migration")
abbrev pub LOG_SHMFD : ℕ
LOG_SHMFD = bit.LOG_SHMFD

-- requests may be acknowledged (VHOST_USER_PROTOCOL_F_REPLY_ACK)
abbrev pub REPLY_ACK : ℕ
REPLY_ACK = bit.REPLY_ACK

-- there may be a reverse channel ("Backend communication")
abbrev pub BACKEND_REQ : ℕ
BACKEND_REQ = bit.BACKEND_REQ

-- postcopy ("Postcopy")
abbrev pub PAGEFAULT : ℕ
PAGEFAULT = bit.PAGEFAULT

-- the greatest size of a packet (VHOST_USER_NET_SET_MTU)
abbrev pub MTU : ℕ
MTU = bit.MTU

-- configuration space (VHOST_USER_GET_CONFIG)
abbrev pub CONFIG : ℕ
CONFIG = bit.CONFIG

-- a buffer for descriptors in flight ("Inflight I/O tracking")
abbrev pub INFLIGHT_SHMFD : ℕ
INFLIGHT_SHMFD = bit.INFLIGHT_SHMFD

-- the device may be reset (the feature named RESET_DEVICE)
abbrev pub RESETS_DEVICE : ℕ
RESETS_DEVICE = bit.RESET_DEVICE

-- regions may come one by one (VHOST_USER_ADD_MEM_REG)
abbrev pub CONFIGURE_MEM_SLOTS : ℕ
CONFIGURE_MEM_SLOTS = bit.CONFIGURE_MEM_SLOTS

-- shared objects (VHOST_USER_GET_SHARED_OBJECT)
abbrev pub SHARED_OBJECT : ℕ
SHARED_OBJECT = bit.SHARED_OBJECT

-- the device's state may be transferred ("Migrating backend state")
abbrev pub DEVICE_STATE : ℕ
DEVICE_STATE = bit.DEVICE_STATE

-- shared memory regions (VHOST_USER_GET_SHMEM_CONFIG)
abbrev pub SHMEM : ℕ
SHMEM = bit.SHMEM
