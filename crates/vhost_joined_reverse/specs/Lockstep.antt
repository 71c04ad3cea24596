-- Both sides of the reverse channel in lockstep: what a joined run is worth.
use Rattle.std.specs.Prelude.{◌≡◌, ℕ, List, [], ◌∷◌, true, None, Result, ⊤}
use Rattle.vhost_message.specs.declared.io_error.IoError as io
use Rattle.vhost_protocol.specs.IoError.{IoError, seen_io_result}
use Rattle.vhost_protocol.specs.JoinedReverse.{ReverseInput, ReverseJoinedRun}
use Rattle.vhost_link.specs.declared.plain.PlainHandle.{PlainHandle}
use Rattle.vhost_backend_req.specs.Halves.{input_of}
use Rattle.vhost_backend_req.specs.declared.call.ReverseCall.{ReverseCall}
use Rattle.vhost_joined.specs.declared.halt.Halt.{Halt}
use Rattle.vhost_joined.specs.Runs as runs
use Rattle.vhost_joined.specs.Runs.{Runs}
use Rattle.vhost_joined_reverse.specs.Joined.{Gives, View, IsReady, Keeps, Breaks, StepsBy}

-- the calls that were answered, with their answers
abbrev pub entries : List (ReverseCall PlainHandle) → List (Result ℕ io.IoError) → List (ReverseInput PlainHandle × Result ℕ IoError)
entries (c ∷ cs) (a ∷ as') = (input_of c, seen_io_result a) ∷ entries cs as'
entries _ _ = []

module _ {Dev : Type 0} (gives : Gives Dev) where
  -- Answered calls one after another, each of which keeps the protocol. Both sides are in step after each, and behind the last step there is none.
  abbrev pub KeepsAll : View Dev → List (ReverseCall PlainHandle) → List (Result ℕ io.IoError) → View Dev → Type 0
  KeepsAll old cs [] new = new ≡ old
  KeepsAll old [] (a ∷ as') new = ⊥
  KeepsAll old (c ∷ cs) (a ∷ as') new = (mid : View Dev) × (k : Keeps gives old (input_of c) (seen_io_result a) mid) × (k.shown.last ≡ true → as' ≡ []) × KeepsAll mid cs as' new

  -- The answered calls are a joined run of the protocol, to what both sides remember and the device of now; and both sides are in step.
  pub record InLockstep (old : View Dev) (calls : List (ReverseCall PlainHandle)) (answers : List (Result ℕ io.IoError)) (new : View Dev) : Type 0 where
    pub run : ReverseJoinedRun gives old.backend old.server old.device (entries calls answers) new.backend new.server new.device
    pub each : KeepsAll old calls answers new
    pub in_step : IsReady new

  -- Both sides are in lockstep; or they were up to the last answered call, where a premise failed.
  abbrev pub Lockstep : View Dev → List (ReverseCall PlainHandle) → List (Result ℕ io.IoError) → View Dev → Type 0
  Lockstep = runs.Lockstep InLockstep (λ old call answer new. Breaks gives old (input_of call) (seen_io_result answer) new) (λ v. v.stopped)

-- two sides that were in step are in lockstep
abbrev pub StayInLockstep : {Dev : Type 0} → Gives Dev → View Dev → List (ReverseCall PlainHandle) → List (Result ℕ io.IoError) → View Dev → Type 0
StayInLockstep gives old calls answers new = IsReady old → old.stopped ≡ None → Lockstep gives old calls answers new

-- The headline, the contract of `JoinedReverse::run`: for every device, every list of calls and every pair of scripts.
abbrev pub RunsReverse : {Dev : Type 0} → Gives Dev → View Dev → List (ReverseCall PlainHandle) → List (Result ℕ io.IoError) → Result ⊤ Halt → List (Result ℕ io.IoError) → View Dev → Type 0
RunsReverse gives = Runs (StepsBy gives) (StayInLockstep gives)
