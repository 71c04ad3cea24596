-- Both sides joined, in the words of the theorem.
use Rattle.std.proofs.Common.{◌≡◌, ℕ, List, Bool, None, inl, inr, refl, ap, subst}
use Rattle.vhost_link.specs.declared.cut.Cut.{Cut}
use Rattle.vhost_protocol.specs.declared.profile.Profile.{Profile}
use Rattle.vhost_protocol.specs.Profile.{is_standard}
use Rattle.vhost_frontend_core.specs.declared.values.answer.FrontendAnswer.{FrontendAnswer}
use Rattle.vhost_frontend_core.specs.declared.values.call.FrontendCall.{FrontendCall}
use Rattle.vhost_joined.specs.Device.{Gives}
use Rattle.vhost_joined.specs.Joined.{View}
use Rattle.vhost_joined.specs.Lockstep.{InLockstep, Lockstep}
use Rattle.vhost_joined.specs.Sides.{as_view, fresh_parts}
use Rattle.vhost_headline.specs.Headline.{IsInStep, NothingStopped}

-- both sides of one profile
abbrev pub of_profile : {Dev : Type 0} → Profile → View Dev → View Dev
of_profile profile v = record v { frontend = record v.frontend { profile = profile }; session = record v.session { profile = profile } }

-- new sides of a profile
abbrev pub new_sides : {Dev : Type 0} → Profile → Dev → ℕ → ℕ → List Cut → List Cut → View Dev
new_sides profile device queues budget asking serving = of_profile profile (as_view (fresh_parts device queues budget asking serving) None)

pub in-step : {Dev : Type 0} (gives : Gives Dev) (bit : Bool) (profile : Profile) (queues budget : ℕ) (device : Dev) (asking serving : List Cut) (old new : View Dev) (calls : List FrontendCall) (answers after : List FrontendAnswer)
    → old ≡ new_sides profile device queues budget asking serving → answers ≡ after → Lockstep gives bit old calls answers new → NothingStopped new → IsInStep gives profile queues device calls after new
in-step gives bit profile queues budget device asking serving old new calls answers after is same (inr broke) goes_on = absurd (goes_on broke.stopped)
in-step gives bit profile queues budget device asking serving old new calls answers after is same (inl (kept, _)) goes_on =
    let k = subst (λ as'. InLockstep gives bit (new_sides profile device queues budget asking serving) calls as' new) same (subst (λ v. InLockstep gives bit v calls answers new) is kept) in
    record {
      run = k.run;
      nothing_left = (k.no_request, k.no_reply);
      agree = λ going. (k.in_step going).in_step.agree;
      ends = λ standard stopped. k.ends refl (ap is_standard standard) stopped;
    }
