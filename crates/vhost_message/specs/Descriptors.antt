-- What the memory that tracks descriptors in flight holds at first.
use Rattle.std.specs.Prelude.{ℕ, replicate}
use Rattle.vhost_message.specs.declared.descriptors.DescStatePacked.{DescStatePacked}
use Rattle.vhost_message.specs.declared.descriptors.DescStateSplit.{DescStateSplit}
use Rattle.vhost_message.specs.declared.descriptors.QueueRegionPacked.{QueueRegionPacked}
use Rattle.vhost_message.specs.declared.descriptors.QueueRegionSplit.{QueueRegionSplit}

-- a descriptor of a split ring that was never used
abbrev pub empty_split : DescStateSplit
empty_split = record { inflight = 0; padding = replicate 5 0; next = 0; counter = 0 }

-- a descriptor of a packed ring that was never used
abbrev pub empty_packed : DescStatePacked
empty_packed = record { inflight = 0; padding = 0; next = 0; last = 0; num = 0; counter = 0; id = 0; flags = 0; len = 0; addr = 0 }

-- the area of a split ring of so many descriptors
abbrev pub split_region : ℕ → ℕ → QueueRegionSplit
split_region features size = record { features = features; version = 1; desc_num = size; last_batch_head = 0; used_idx = 0; desc = 0 }

-- the area of a packed ring of so many descriptors
abbrev pub packed_region : ℕ → ℕ → QueueRegionPacked
packed_region features size = record {
  features = features;
  version = 1;
  desc_num = size;
  free_head = 0;
  old_free_head = 0;
  used_idx = 0;
  old_used_idx = 0;
  used_wrap_counter = 0;
  old_used_wrap_counter = 0;
  padding = replicate 7 0;
  desc = 0;
}
