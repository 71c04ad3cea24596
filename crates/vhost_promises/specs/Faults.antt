-- What a fault of the link does, and what it leaves behind.
use Rattle.std.specs.Prelude.{◌≡◌, ℕ, List, Some, None, ◌||◌, IsTrue, replicate, if◌then◌else◌, Result, Err}
use Rattle.vhost_message.specs.Cause.{is_retry, error_of}
use Rattle.vhost_message.specs.declared.cause.IoCause.{IoCause}
use Rattle.vhost_message.specs.declared.error.Error as declared
use Rattle.vhost_link.specs.Law.{Event, Move}
use Rattle.vhost_connection.specs.Talk.{State, Fell, Talks, has_moved}

-- A call met a fault: the link failed last, with this cause, whose error is the answer; one that asks for a retry was one more than a message may take. It broke the endpoint where a byte had moved before it, and only there.
pub record MeetsFaultAs {L H : Type 0} (event : L → Event H → L → Type 0) (old : State L H) (answers : declared.Error → Type 0) (new : State L H) : Type 0 where
  pub cause : IoCause
  pub answered : answers (error_of cause)
  -- whole messages before it, and so much of the one that it met
  pub before : Move H
  pub moved : Move H
  pub mid : State L H
  pub talks : Talks event old before mid
  pub fell : Fell event mid moved cause new
  pub spent : IsTrue (is_retry cause) → moved.retries ≡ old.budget
  pub broken : new.broken ≡ (if has_moved before || has_moved moved then Some cause else None)

-- the same of a call that answers a result
abbrev pub MeetsFault : {L H A : Type 0} → (L → Event H → L → Type 0) → State L H → Result A declared.Error → State L H → Type 0
MeetsFault event old result new = MeetsFaultAs event old (λ e. result ≡ Err e) new

-- So many calls over an endpoint that this cause had broken: each answers this error, and nothing changes.
pub record StaysBroken {L H A E : Type 0} (c : IoCause) (error : E) (count : ℕ) (old : State L H) (answers : List (Result A E)) (new : State L H) : Type 0 where
  pub answered : answers ≡ replicate count (Err error)
  pub broken : new.broken ≡ Some c
  pub endpoint : new ≡ record old { faulted = new.faulted }
