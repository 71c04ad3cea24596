-- A chain more that was given back.
use Rattle.std.proofs.Common.{◌≡◌, ℕ, ◌+◌, ◌<◌, List, [], ◌∷◌, ◌++◌, length, Ok}
use Rattle.std.specs.Prelude.{slice_index_or}
use Rattle.vhost_c_queue.specs.Using.{Uses, UsesMany, one}
use Rattle.vhost_c_queue.specs.declared.device_queue.Ring.{Ring}
use Rattle.vhost_c_queue.specs.declared.records.Used.{Used}

pub used-on : {ids lens : List ℕ} {old : Ring} {at : ℕ} {us : List Used} {was : Ring} → UsesMany ids lens old at us was → at < length ids → (u : Used) (now : Ring)
    → Uses (slice_index_or ids at 0) (slice_index_or lens at 0) (Ok u) was now → (ys : List Used) → ys ≡ us ++ u ∷ [] → UsesMany ids lens old (at + 1) ys now
used-on h lt u now is ys e = rw e (one h u lt is)
