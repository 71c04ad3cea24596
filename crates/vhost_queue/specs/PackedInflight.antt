-- What is kept of a packed queue in the inflight region, and what holds of it after a crash: of the vhost-user specification, "Inflight
-- I/O tracking".
use Rattle.std.specs.Prelude.{◌≡◌, ℕ, ◌+◌, ◌*◌, ◌^◌, ◌%◌, ◌≤◌, zero, suc, Bool, true, false, not, ◌&&◌, ◌||◌, List, ◌==◌, length, nat_lt, nat_le, Result, Ok, Err, if◌then◌else◌, slice_set, replicate}
use Rattle.vhost_queue.specs.Inflight.{entry_of}
use Rattle.vhost_queue.specs.Wrap.{is_available}
use Rattle.vhost_queue.specs.declared.error.Error.{Error}
use Rattle.vhost_queue.specs.declared.error.Error.TheVariants.{InvalidInflight}
use Rattle.vhost_queue.specs.declared.inflight.InflightEntry.{InflightEntry}
use Rattle.vhost_queue.specs.declared.inflight.InflightWrite.{InflightWrite}
use Rattle.vhost_queue.specs.declared.packed_inflight.PackedInflightHead.{PackedInflightHead}
use Rattle.vhost_queue.specs.declared.wrap.Position.{Position}

-- A queue's area: 32 bytes of its head (.. 12: free_head, 14: old_free_head, 16: used_idx, 18: old_used_idx, 20: used_wrap_counter,
-- 21: old_used_wrap_counter), and 32 for each entry (0: inflight, 2: next, 4: last, 6: num, 8: counter, 16: id, 18: flags, 20: len,
-- 24: addr).
abbrev pub entry : ℕ → ℕ
entry i = 32 + 32 * i

-- it lies in the area of a queue of this size
abbrev pub LiesInArea : ℕ → InflightWrite → Type 0
LiesInArea size w = w.offset + w.len ≤ 32 + 32 * size

-- it is at a multiple of its length, so that it can be one access
abbrev pub IsAligned : InflightWrite → Type 0
IsAligned w = w.offset % w.len ≡ 0

-- two fields of two bytes, side by side
abbrev pub pair : ℕ → ℕ → ℕ
pair a b = a + 2 ^ 16 * b

-- a wrap counter
abbrev pub bit : Bool → ℕ
bit b = if b then 1 else 0

-- used_idx, old_used_idx, used_wrap_counter and old_used_wrap_counter, side by side
abbrev pub places : Position → Position → ℕ
places now old = pair now.index old.index + 2 ^ 32 * bit now.wrap + 2 ^ 40 * bit old.wrap

-- the device used nothing since
abbrev pub is_same_place : PackedInflightHead → PackedInflightHead → Bool
is_same_place a b = (a.used_idx == b.used_idx) && (if a.used_wrap_counter then b.used_wrap_counter else not b.used_wrap_counter)

-- Which state of the area holds, where the descriptor at the old place has these flags: the later one where the driver was told of what
-- was used last, so that the descriptor is not available any more; else the old one. (A buffer of the whole ring changes the wrap counter
-- alone.)
abbrev pub holding : PackedInflightHead → PackedInflightHead → ℕ → PackedInflightHead
holding now old flags = if is_same_place now old || is_available old.used_wrap_counter flags then old else now

-- at most k entries of the free list, from this one on, are marked; it ends where a link names no entry
abbrev pub freed : List InflightEntry → ℕ → ℕ → List Bool → Result (List Bool) Error
freed es zero i marks = if nat_lt i (length es) then Err InvalidInflight else Ok marks
freed es (suc k) i marks = if nat_lt i (length es) then freed es k (entry_of es i).next (slice_set marks i true) else Ok marks

-- which entries are free, in this state of the area
abbrev pub free_in : List InflightEntry → PackedInflightHead → Result (List Bool) Error
free_in es head =
    if nat_lt 32768 (length es) || nat_le (length es) head.used_idx then Err InvalidInflight
    else freed es (length es) head.free_head (replicate (length es) false)
