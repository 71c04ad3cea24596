-- A joined run with the log of its calls, as contracts see it.
use Rattle.std.specs.Prelude.{◌≡◌, ℕ, List, [], ◌∷◌, ◌++◌, Option, Some, None, Bool, true, false, Result, Ok, Err, is_some}
use Rattle.vhost_protocol.specs.FrontendCall.{FrontendCall}
use Rattle.vhost_protocol.specs.Log.{Entry, calls_of, IsLegal}
use Rattle.vhost_link.specs.declared.plain.PlainHandle.{PlainHandle}
use Rattle.vhost_frontend_core.specs.declared.values.answer.FrontendAnswer.{FrontendAnswer}
use Rattle.vhost_frontend_core.specs.Values.{answer_of}
use Rattle.vhost_joined.specs.declared.halt.Halt.{Halt}
use Rattle.vhost_joined.specs.declared.halt.Halt.TheVariants as halt
use Rattle.vhost_joined.specs.declared.halt.Stop.{Stop}
use Rattle.vhost_joined.specs.declared.halt.Stop.TheVariants.{Premise}
use Rattle.vhost_joined.specs.Device.{Gives, opens_backend, opens_gpu}
use Rattle.vhost_joined.specs.Joined.{View, Steps}

-- The joined run, what was recorded of it, and how many queues its frontend was opened with.
pub record Recording (Dev : Type 0) : Type 0 where
  pub joined : View Dev
  pub entries : List (Entry PlainHandle)
  pub queues : ℕ

-- a link, a budget or want of memory stopped the run
abbrev pub is_broken : Option Stop → Bool
is_broken (Some Premise) = true
is_broken _ = false

module _ {Dev : Type 0} (gives : Gives Dev) where
  -- the log is legal: the callers' serials count up, and the entries are a joined run from new sessions to the present ones
  abbrev pub HasLegalLog : Recording Dev → Type 0
  HasLegalLog r = IsLegal gives opens_backend opens_gpu r.queues (is_broken r.joined.stopped) r.entries r.joined.frontend r.joined.session r.joined.device

  -- One call was done and recorded: the entry has the next serial of its caller, the call and the joined step's answer, and sessions and device moved by that step.
  pub record Appends (old : Recording Dev) (by : ℕ) (asked : FrontendCall PlainHandle) (entry : Entry PlainHandle) (new : Recording Dev) : Type 0 where
    pub entries : new.entries ≡ old.entries ++ entry ∷ []
    pub caller : entry.caller ≡ by
    pub serial : entry.serial ≡ calls_of by old.entries
    pub call : entry.call ≡ asked
    pub answer : FrontendAnswer
    pub answered : entry.result ≡ answer_of answer
    pub step : Steps gives old.joined asked (Ok answer) new.joined
    pub queues : new.queues ≡ old.queues

  -- One recorded step. One that was not done changes nothing but that lists of handles may be there again; it may want memory at any time, for the entry and its copy.
  abbrev pub Records : Recording Dev → (caller : ℕ) → FrontendCall PlainHandle → Result (Entry PlainHandle) Halt → Recording Dev → Type 0
  Records old caller call (Ok entry) new = Appends old caller call entry new
  Records old caller call (Err halt.Stopped) new = (is_some old.joined.stopped ≡ true) × (new ≡ old)
  Records old caller call (Err halt.OutOfMemory) new = (old.joined.stopped ≡ None) × (new ≡ record old { joined = record old.joined { lists = new.joined.lists } })
