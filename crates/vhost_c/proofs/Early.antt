-- An answer is taken before anything came of it.
use Rattle.std.proofs.Common.{◌≡◌, ℕ, Option, None, Some, Result, Ok, Err, refl, ◌∙◌, ap, arith}
use Rattle.std.specs.Prelude.{⊤}
use Rattle.vhost_protocol.specs.FrontendCall.{FrontendCall, GetFeatures}
use Rattle.vhost_protocol.specs.declared.asked.Awaited.{Awaited}
use Rattle.vhost_protocol.specs.declared.asked.Awaited.TheVariants.{Reply}
use Rattle.vhost_protocol.specs.declared.asked.Shape.TheVariants as shape
use Rattle.vhost_protocol.specs.declared.profile.Profile.{Profile}
use Rattle.vhost_protocol.specs.declared.profile.Profile.TheVariants.{Vhost, Standard}
use Rattle.vhost_link.specs.declared.plain.PlainHandle.{PlainHandle}
use Rattle.vhost_c_frontend.specs.Incoming.{missing_from}
use Rattle.vhost_c_common.specs.Number.{outcome_number}
use Rattle.vhost_c_common.specs.ByNumber.{By, some}
use Rattle.vhost_c_frontend.specs.Session.{Asking, Opens, opened, was_open, no_room, Asks, sent, at_once, Takes, kept, failed, other_size, nothing_asked, not_yet, missing_for, missing_of, remembers}
use Rattle.vhost_c_common.specs.declared.incoming.Incoming.{Incoming}
use Rattle.vhost_c_common.specs.declared.refusal.Refusal.{Refusal}
use Rattle.vhost_c_frontend.specs.declared.session.Session.{Session}

-- of a reply of which nothing came, its header and its number are missing
whole : (profile : Profile) (call : FrontendCall PlainHandle) (a : Awaited) (i : Incoming) → a ≡ Reply shape.U64 → i.count ≡ 0 → missing_from profile call a i ≡ 20
whole Vhost call a i is none = rw (is, none) refl
whole Standard call a i is none = rw (is, none) refl

-- so it is of the features that were asked for
pub all-missing : (old new : Session) → Asks GetFeatures old new → missing_of new ≡ 20
all-missing old new (sent w is queue keeps same sound) =
    ap (λ a. missing_for (remembers new).profile a new.incoming) keeps.is ∙ whole (remembers new).profile _ keeps.kept.sent.awaited new.incoming (keeps.awaited ∙ cc is) keeps.nothing_came
all-missing old new (at_once flags is memory queue asked incoming answer end) = absurd (cc is)

-- and then it is too early
pub too-early : (s s' : Session) (outcome : Result ⊤ Refusal) → missing_of s ≡ 20 → Takes s s' outcome → outcome_number outcome ≡ 105
too-early s s' _ all (kept asked zero sized one names fine) = absurd (omega (arith, all, zero))
too-early s s' _ all (failed asked zero sized one done) = absurd (omega (arith, all, zero))
too-early s s' _ all (other_size asked nothing zero other one done) = absurd (omega (arith, all, zero))
too-early s s' _ all (nothing_asked bare same) = absurd (let zero : missing_of s ≡ 0 = ap (λ a. missing_for (remembers s).profile a s.incoming) bare in omega (arith, all, zero))
too-early s s' _ all (not_yet more same) = refl

never : (r : Refusal) → outcome_number (Err r) ≡ 0 → ⊥
never r zero = grind arith

last : {n : ℕ} {new : Option Session} (s : Session) → missing_of s ≡ 20 → By (λ s o s'. Takes s s' o) (Some s) n new → n ≡ 105
last s all (some {s' = t} {outcome = outcome} takes) = too-early s t outcome all takes

next : {n a : ℕ} {o new : Option Session} (s : Session) → By (Asking GetFeatures) (Some s) a o → By (λ s o s'. Takes s s' o) o n new → a ≡ 0 → n ≡ 105
next s (some {s' = t} {outcome = Ok done} asks) take zero = last t (all-missing s t asks.0) take
next s (some {outcome = Err r} refused) take zero = absurd (never r zero)

-- a session is opened and asked for the features, and both are answered 0: then it is too early to take
pub early : {n q a : ℕ} {old o p new : Option Session} → Opens 2 old q o → By (Asking GetFeatures) o a p → By (λ s o s'. Takes s s' o) p n new → old ≡ None → q ≡ 0 → a ≡ 0 → n ≡ 105
early (opened {s = s} is_new) ask take shut first second = next s ask take second
early was_open ask take shut first second = absurd (cc shut)
early no_room ask take shut first second = absurd (cc first)
