-- What is kept of a split queue in the inflight region, and which heads are taken again after a crash: of the vhost-user
-- specification, "Inflight I/O tracking".
use Rattle.std.specs.Prelude.{ℕ, ◌+◌, ◌*◌, ◌≤◌, zero, suc, Bool, true, false, not, ◌&&◌, ◌||◌, List, [], ◌∷◌, length, nat_lt, Result, Ok, Err, if◌then◌else◌, slice_index_or, slice_set, replicate}
use Rattle.vhost_queue.specs.Notification.{moved}
use Rattle.vhost_queue.specs.declared.error.Error.{Error}
use Rattle.vhost_queue.specs.declared.error.Error.TheVariants.{InvalidInflight}
use Rattle.vhost_queue.specs.declared.inflight.InflightEntry.{InflightEntry}
use Rattle.vhost_queue.specs.declared.inflight.InflightWrite.{InflightWrite}
use Rattle.vhost_queue.specs.declared.inflight.Resubmit.{Resubmit}

-- n bytes of a value at a place of a queue's area: 16 bytes of its head (.. 12: last_batch_head, 14: used_idx), and 16 for each
-- descriptor (0: inflight, 6: next, 8: counter)
abbrev pub at : ℕ → ℕ → ℕ → InflightWrite
at offset n value = record { offset = offset; len = n; value = value }

abbrev pub entry : ℕ → ℕ
entry head = 16 + 16 * head

-- it lies in the area of a queue of this size
abbrev pub LiesInArea : ℕ → InflightWrite → Type 0
LiesInArea size w = w.offset + w.len ≤ 16 + 16 * size

-- the entry of a head
abbrev pub entry_of : List InflightEntry → ℕ → InflightEntry
entry_of es head = slice_index_or es head (record { inflight = false; next = 0; counter = 0 })

-- the k entries of a batch, from this head on, are marked
abbrev pub marked : List InflightEntry → ℕ → ℕ → List Bool → Result (List Bool) Error
marked es zero head marks = Ok marks
marked es (suc k) head marks = if nat_lt head (length es) then marked es k (entry_of es head).next (slice_set marks head true) else Err InvalidInflight

-- those of the last batch, which were used where the used ring's index went on and the region's did not
abbrev pub settled : List InflightEntry → ℕ → ℕ → ℕ → Result (List Bool) Error
settled es last_batch_head used_idx ring_idx =
    if nat_lt 32768 (length es) || nat_lt (length es) (moved used_idx ring_idx) then Err InvalidInflight
    else marked es (moved used_idx ring_idx) last_batch_head (replicate (length es) false)

-- the heads in flight that are not marked, from the i-th on
abbrev pub pending : List InflightEntry → List Bool → ℕ → List Resubmit
pending [] marks i = []
pending (e ∷ es) marks i =
    if e.inflight && not (slice_index_or marks i false) then (record { counter = e.counter; head = i }) ∷ pending es marks (i + 1)
    else pending es marks (i + 1)
