-- What a program in C owns by its `covretin_queue`: nothing at null, and else the box at its pointer.
use Rattle.std.specs.Prelude.{◌≡◌, Option, None, Some}
use base.Fml.{Fml, ftrue, fsep, fex}
use denote.RawPtr.{Ptr, null_ptr, block_ptr}
use Rattle.std.specs.Box.Ownership.{box_owns}
use Rattle.std.specs.declared.alloc.Global.{Global}
use Rattle.std.specs.contracts.impls.GlobalAllocator.TheImpl.{ghosts}
use Rattle.vhost_c_queue.specs.declared.device_queue.DeviceQueue.{DeviceQueue}
use Rattle.vhost_c_queue.specs.contracts.device_queue.DeviceQueue.{the_row}

-- this is so
abbrev pub so : Type 0 → Fml
so P = fex P (λ _. ftrue)

abbrev pub held : Ptr → Option DeviceQueue → Fml
held null_ptr v = so (v ≡ None)
held (block_ptr b o) v = fex (DeviceQueue × Global) (λ s. fsep (so (v ≡ Some s.0)) (box_owns (ghosts.dealloc_token s.1) the_row (block_ptr b o) s.0))
