-- Rings in guest memory.
use Rattle.std.specs.Prelude.{ℕ, ◌+◌, ◌*◌, ◌^◌, Bool, not, ◌&&◌, ◌||◌, if◌then◌else◌, List, is_some, unwrap_or, ◌==◌, nat_le, nat_lt}
use Rattle.std.specs.Int.{is_power_of_two}
use Rattle.std.specs.List.{list_any}
use Rattle.vhost_message.specs.Bits.{has_bit}
use Rattle.vhost_message.specs.declared.records.vring.VhostUserVringAddr.{VhostUserVringAddr}
use Rattle.vhost_message.specs.declared.vring_config.VringConfigData.{VringConfigData}

-- whoever logs has an address for it
abbrev pub is_log_valid : VringConfigData → Bool
is_log_valid c = not (has_bit c.flags 0) || is_some c.log_addr

-- where writes are logged: the address, or 0 where there is none; 0 where nothing is logged
abbrev pub logging_addr : VringConfigData → ℕ
logging_addr c = if has_bit c.flags 0 then unwrap_or c.log_addr 0 else 0

-- a ring's place as a record of a message; no log is address 0, and the flags don't matter for it
abbrev pub ring_addr : ℕ → VringConfigData → VhostUserVringAddr
ring_addr i c = record {
  index = i;
  flags = c.flags;
  descriptor = c.desc_table_addr;
  used = c.used_ring_addr;
  available = c.avail_ring_addr;
  log = unwrap_or c.log_addr 0;
}

-- an address of 64 bits that lies in a range of guest memory, given by its start and length
abbrev pub is_in_guest : List (ℕ × ℕ) → ℕ → Bool
is_in_guest ranges a = nat_lt a (2 ^ 64) && list_any (λ range. nat_le range.0 a && nat_lt a (range.0 + range.1)) ranges

-- a size that is a power of two and not beyond the greatest, each part with its end in guest memory, and an address for the log
abbrev pub is_valid_ring : VringConfigData → List (ℕ × ℕ) → Bool
is_valid_ring c ranges =
    let q = c.queue_size in
    nat_le q c.queue_max_size && not (q == 0) && is_power_of_two q && is_in_guest ranges (c.desc_table_addr + 16 * q)
    && is_in_guest ranges (c.avail_ring_addr + 6 + 2 * q) && is_in_guest ranges (c.used_ring_addr + 6 + 8 * q) && is_log_valid c
