-- Under Standard a run stops where the session has ended.
use Rattle.std.proofs.Common.{◌≡◌, ℕ, ℤ, Bool, true, false, cond, List, ◌++◌, Option, Some, None, Result, Ok, Err, refl, sym, ◌∙◌, ap, subst}
use Rattle.std.specs.Prelude.{⊤, not, ◌&&◌, ◌||◌, is_some}
use Rattle.vhost_message.specs.HeardReq.{request_number}
use Rattle.vhost_protocol.specs.Ask as ask
use Rattle.vhost_protocol.specs.Ask.{Asked, ask}
use Rattle.vhost_protocol.specs.Error.{Error, OutOfMemory}
use Rattle.vhost_protocol.specs.FrontendCall.{FrontendCall, SetHdrFlags, Value, Frontend}
use Rattle.vhost_protocol.specs.declared.profile.Profile.{Profile}
use Rattle.vhost_protocol.specs.Profile.{is_standard}
use Rattle.vhost_protocol.specs.Session.{Session}
use Rattle.vhost_protocol.specs.Stream.{has_some}
use Rattle.vhost_protocol.specs.Written.{head_of}
use Rattle.vhost_link.specs.declared.plain.PlainHandle.{PlainHandle}
use Rattle.vhost_frontend_core.specs.declared.values.answer.FrontendAnswer.{FrontendAnswer}
use Rattle.vhost_frontend_core.specs.Values.{answer_of}
use Rattle.vhost_joined.specs.declared.halt.Halt.{Halt}
use Rattle.vhost_joined.specs.declared.halt.Halt.TheVariants as halt
use Rattle.vhost_joined.specs.declared.halt.Stop.{Stop}
use Rattle.vhost_joined.specs.declared.halt.Stop.TheVariants.{Table}
use Rattle.vhost_joined.specs.Device.{Gives}
use Rattle.vhost_joined.specs.Joined as joined
use Rattle.vhost_joined.specs.Joined.{View, Moves, Takes, Steps, StopsAtEnd, ends, stop_after}
use Rattle.vhost_joined.proofs.Served.{pair-first}
use Rattle.vhost_joined.proofs.Settings.{Has, With, SentWith, sent-with, kept-sent, taken-with}

-- ---- the profile stays

-- that of the new session, where there is one
abbrev profile_in : Frontend → Asked PlainHandle → Profile
profile_in f (ask.Answers v g) = g.profile
profile_in f _ = f.profile

-- of a call that is answered at once
at-once-keeps : (f : Frontend) (call : FrontendCall PlainHandle) (v : Value PlainHandle) (g : Frontend) → ask f call ≡ ask.Answers v g → g.profile ≡ f.profile
at-once-keeps f (SetHdrFlags flags) v g is = sym (ap (profile_in f) is)
at-once-keeps f call v g is = absurd (subst (λ (x : Asked PlainHandle). SentWith PlainHandle f.header_flags f.profile x) is (sent-with PlainHandle f.header_flags f.profile f call tt (refl, refl)))

module _ {Dev : Type 0} (gives : Gives Dev) (old new : View Dev) (call : FrontendCall PlainHandle) (result : Result (Value PlainHandle) Error) where
  sent-keeps : joined.Exchanges gives old call result new → new.frontend.profile ≡ old.frontend.profile
  sent-keeps x = by-takes x.takes
    where
      kept : Has PlainHandle old.frontend.header_flags old.frontend.profile x.after
      kept = kept-sent PlainHandle old.frontend.header_flags old.frontend.profile old.frontend call x.message x.awaited x.after x.asked (refl, refl)

      by-takes : {lost : Bool} → Takes gives old call x.message x.awaited x.after x.mid x.came result new lost → new.frontend.profile ≡ old.frontend.profile
      by-takes (joined.no_room way is session awaits link left) = ap {A = Frontend} (λ f. f.profile) session ∙ kept.1
      by-takes (joined.lost c read stops is session quiet left) = ap {A = Frontend} (λ f. f.profile) session ∙ kept.1
      by-takes (joined.taken passes quiet cut) =
          (subst (λ a. With PlainHandle old.frontend.header_flags old.frontend.profile a) (pair-first cut)
          (taken-with PlainHandle old.frontend.header_flags old.frontend.profile call x.awaited (head_of request_number x.message) x.after (old.to_frontend ++ x.came) kept)).1

  pub profile-stays : Moves gives old call result new → new.frontend.profile ≡ old.frontend.profile
  profile-stays (joined.refused e asks is same) = ap {A = View Dev} (λ v. v.frontend.profile) same
  profile-stays (joined.at_once v g asks is same) = ap {A = View Dev} (λ v. v.frontend.profile) same ∙ at-once-keeps old.frontend call v g asks
  profile-stays (joined.unsent message awaited after c gone read asks stops is left same) = ap {A = View Dev} (λ v. v.frontend.profile) same
  profile-stays (joined.sent x) = sent-keeps x

-- ---- why a run stops

-- under Standard nothing but the end of the session is over
over-ended : (failed : Option ℤ) (standard rest : Bool) → standard ≡ true → cond (is_some failed || (not standard && rest)) (Some Table) None ≡ Some Table → is_some failed ≡ true
over-ended (Some n) standard rest on stopped = refl
over-ended None true rest on stopped = absurd (cc stopped)
over-ended None false rest on stopped = absurd (cc on)

ended : (f : Frontend) (s : Session) (b : Bool) (answer : Option (Result ⊤ Error)) (lost : Bool) (reply : List ℕ) → is_standard f.profile ≡ true → stop_after f s b answer lost reply ≡ Some Table → is_some s.failed ≡ true
ended f s b None lost reply on stopped = absurd (cc stopped)
ended f s b (Some answer) true reply on stopped = absurd (cc stopped)
ended f s b (Some (Err OutOfMemory)) false reply on stopped = absurd (cc stopped)
ended f s b (Some (Ok u)) false reply on stopped = over-ended s.failed (is_standard f.profile) false on stopped
ended f s b (Some (Err e)) false reply on stopped = over-ended s.failed (is_standard f.profile) (not (has_some reply) || b) on stopped

module _ {Dev : Type 0} (gives : Gives Dev) (old new : View Dev) (call : FrontendCall PlainHandle) where
  same-stop : (stopped : Option Stop) → old.stopped ≡ None → stopped ≡ old.stopped → stopped ≡ Some Table → is_some new.session.failed ≡ true
  same-stop stopped going same at_end = absurd (cc (sym (same ∙ going) ∙ at_end))

  pub moved-to-end : (result : Result (Value PlainHandle) Error) → Moves gives old call result new → StopsAtEnd old new
  moved-to-end result (joined.refused e asks is same) = λ going on at_end. same-stop new.stopped going (ap {A = View Dev} (λ v. v.stopped) same) at_end
  moved-to-end result (joined.at_once v g asks is same) = λ going on at_end. same-stop new.stopped going (ap {A = View Dev} (λ v. v.stopped) same) at_end
  moved-to-end result (joined.unsent message awaited after c gone read asks stops is left same) = λ going on at_end. absurd (cc (sym (ap {A = View Dev} (λ v. v.stopped) same) ∙ at_end))
  moved-to-end result (joined.sent x) = λ going on at_end. ended new.frontend new.session (ends call) x.answer x.lost new.reply.bytes (ap (λ p. is_standard p) (sent-keeps gives old new call result x) ∙ on) (sym x.stopped ∙ at_end)

  pub stepped-to-end : (r : Result FrontendAnswer Halt) → Steps gives old call r new → StopsAtEnd old new
  stepped-to-end (Ok a) s = moved-to-end (answer_of a) s.1
  stepped-to-end (Err halt.Stopped) s = λ going on at_end. same-stop new.stopped going (ap {A = View Dev} (λ v. v.stopped) s.1) at_end
  stepped-to-end (Err halt.OutOfMemory) s = λ going on at_end. same-stop new.stopped going (ap {A = View Dev} (λ v. v.stopped) s.1) at_end
