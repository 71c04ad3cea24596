-- An answer that was taken.
use Rattle.std.proofs.Common.{◌≡◌, ℕ, ◌⊎◌, inl, inr, Bool, true, false, Some, None, Result, Ok, Err, refl}
use Rattle.std.specs.Prelude.{if◌then◌else◌}
use Rattle.vhost_message.specs.declared.error.Error.{Error}
use Rattle.vhost_message.specs.declared.io_error.IoError as io
use Rattle.vhost_message.specs.declared.io_error.IoError.TheVariants.{Of}
use Rattle.vhost_message.specs.MsgHeader.{fields_of}
use Rattle.vhost_protocol.specs.IoError.{seen_io_result}
use Rattle.vhost_protocol.specs.Reverse.{reverse_take}
use Rattle.vhost_link.specs.Mem.{event}
use Rattle.vhost_connection.specs.Hearing.{Fails}
use Rattle.vhost_backend_req.specs.Asking as asking
use Rattle.vhost_backend_req.specs.Asking.{RecvsNumber}
use Rattle.vhost_backend_req.specs.Halves.{Head, TakesHalf}
use Rattle.vhost_joined.proofs.Spent.{End}
use Rattle.vhost_joined.proofs.Taken as taken
use Rattle.vhost_joined.proofs.Taken.{nothing-read, reply-heard}

module _ (head : Head) (fe : End) where
  abbrev pub IsTaken : Bool → Result ℕ io.IoError → End → Type 0
  IsTaken awaited answer = taken.IsTaken (reverse_take awaited (fields_of head)) fe (seen_io_result answer)

  -- the link failed while an answer was awaited
  abbrev pub Lost : Result ℕ io.IoError → End → Type 0
  Lost answer fe' = (e : Error) × (answer ≡ Err (Of e)) × Fails event fe true e fe'

  heard-or-lost : (answer : Result ℕ io.IoError) (fe' : End) → RecvsNumber event (fields_of head) fe answer fe' → IsTaken true answer fe' ⊎ Lost answer fe'
  heard-or-lost answer fe' (asking.heard came listed) = inl (reply-heard (reverse_take true (fields_of head)) fe (seen_io_result answer) fe' came)
  heard-or-lost _ fe' (asking.stopped {e} fails) = inr (e, refl, fails)

  pub taken-or-lost : (awaited : Bool) (answer : Result ℕ io.IoError) (fe' : End) → fe.broken ≡ None → fe.faulted ≡ false → TakesHalf event (if awaited then Some head else None) fe answer fe' → IsTaken awaited answer fe' ⊎ Lost answer fe'
  taken-or-lost true answer fe' whole sound t = heard-or-lost answer fe' t
  taken-or-lost false answer fe' whole sound (is, same) = inl (rw (is, same) (nothing-read (reverse_take false (fields_of head)) fe (seen_io_result (Ok 0)) whole sound refl))
