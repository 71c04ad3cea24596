-- The lockstep of a run from two new sides.
use Rattle.std.proofs.Common.{◌≡◌, ℕ, List, ◌++◌, Bool, Some, None, Result, inl, inr, subst}
use Rattle.vhost_link.specs.declared.cut.Cut.{Cut}
use Rattle.vhost_frontend_core.specs.declared.values.answer.FrontendAnswer.{FrontendAnswer}
use Rattle.vhost_frontend_core.specs.declared.values.call.FrontendCall.{FrontendCall}
use Rattle.vhost_joined.specs.Device.{Gives}
use Rattle.vhost_joined.specs.Joined.{View}
use Rattle.vhost_joined.specs.Lockstep.{InLockstep, Lockstep}
use Rattle.vhost_joined.specs.Sides.{as_view, fresh_parts}
use Rattle.vhost_joined.specs.declared.halt.Stop.TheVariants.{Premise}
use Rattle.vhost_promises.specs.Joined.{AnswersFresh, AnswersFreshBack}
use Rattle.vhost_message.specs.declared.io_error.IoError.{IoError}
use Rattle.vhost_backend_req.specs.declared.call.ReverseCall.{ReverseCall}
use Rattle.vhost_link.specs.declared.plain.PlainHandle.{PlainHandle}
use Rattle.vhost_joined_reverse.specs.Joined as back
use Rattle.vhost_joined_reverse.specs.Lockstep as back_lockstep
use Rattle.vhost_joined_reverse.specs.Sides as back_sides

-- in lockstep from two new sides, unless a premise failed, is a run of the definitions
pub fresh-run : {Dev : Type 0} (gives : Gives Dev) (bit : Bool) (queues budget : ℕ) (device : Dev) (asking serving : List Cut) (old new : View Dev) (calls : List FrontendCall) (before after answers : List FrontendAnswer)
    → old ≡ as_view (fresh_parts device queues budget asking serving) None → after ≡ before ++ answers → Lockstep gives bit old calls answers new → (new.stopped ≡ Some Premise → ⊥)
    → AnswersFresh gives queues device calls before after new
fresh-run gives bit queues budget device asking serving old new calls before after answers is appended (inl (kept, _)) goes_on =
    record { answers = answers; appended = appended; run = (subst (λ v. InLockstep gives bit v calls answers new) is kept).run }
fresh-run gives bit queues budget device asking serving old new calls before after answers is appended (inr broke) goes_on = absurd (goes_on broke.stopped)

-- the same of the reverse channel
pub fresh-run-back : {Dev : Type 0} (gives : back.Gives Dev) (budget : ℕ) (device : Dev) (asking serving : List Cut) (old new : back.View Dev) (calls : List (ReverseCall PlainHandle)) (before after answers : List (Result ℕ IoError))
    → old ≡ back_sides.as_view (back_sides.fresh_parts device budget asking serving) None → after ≡ before ++ answers → back_lockstep.Lockstep gives old calls answers new → (new.stopped ≡ Some Premise → ⊥)
    → AnswersFreshBack gives device calls before after new
fresh-run-back gives budget device asking serving old new calls before after answers is appended (inl (kept, _)) goes_on =
    record { answers = answers; appended = appended; run = (subst (λ v. back_lockstep.InLockstep gives v calls answers new) is kept).run }
fresh-run-back gives budget device asking serving old new calls before after answers is appended (inr broke) goes_on = absurd (goes_on broke.stopped)
