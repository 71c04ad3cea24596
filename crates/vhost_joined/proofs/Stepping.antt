-- A joined step, once the lists of handles were made.
use Rattle.std.proofs.Common.{◌≡◌, inl, inr, Bool, true, false, Option, None, Result, Ok, Err, refl, sym, ◌∙◌, ap, subst}
use Rattle.vhost_protocol.specs.FrontendCall.{FrontendCall}
use Rattle.vhost_link.specs.declared.plain.PlainHandle.{PlainHandle}
use Rattle.vhost_frontend_core.specs.Halves.{makes_room}
use Rattle.vhost_frontend_core.specs.Values.{answer_of}
use Rattle.vhost_joined.specs.declared.halt.Halt.{Halt}
use Rattle.vhost_joined.specs.declared.halt.Halt.TheVariants as halt
use Rattle.vhost_joined.specs.declared.halt.Stop.{Stop}
use Rattle.vhost_joined.specs.declared.sides.Exchanged.{Exchanged}
use Rattle.vhost_joined.specs.Device.{Gives}
use Rattle.vhost_joined.specs.Joined.{View, IsReady, KeepsLists, Moves, Steps, Answers}
use Rattle.vhost_joined.specs.Sides as sides
use Rattle.vhost_joined.specs.Sides.{Parts, as_view, has_lists, IsSound, HaveLists, Exchanges}
use Rattle.vhost_joined.proofs.Spent.{End}
use Rattle.vhost_joined.proofs.Exchange.{answers-so}
use Rattle.vhost_joined.proofs.Listing.{keeps-lists}
use Rattle.vhost_joined.proofs.Moving.{moves-so}
use Rattle.vhost_joined.proofs.Sound.{stays-sound}

module _ {Dev : Type 0} (gives : Gives Dev) (call : FrontendCall PlainHandle) (old mid : Parts Dev) (asking : mid.asking ≡ record old.asking { list = mid.asking.list }) (serving : mid.serving ≡ record old.serving { list = mid.serving.list })
    (rest : mid ≡ record old { asking = mid.asking; serving = mid.serving }) where
  -- both sides with these lists
  abbrev with_lists : (asks serves : Bool) → Parts Dev
  with_lists asks serves = record old { asking = record old.asking { list = asks }; serving = record old.serving { list = serves } }

  made : mid ≡ with_lists mid.asking.list mid.serving.list
  made = rest ∙ ap {A = End} {B = Parts Dev} (λ e. record old { asking = e; serving = mid.serving }) asking ∙ ap {A = End} {B = Parts Dev} (λ e. record old { asking = record old.asking { list = mid.asking.list }; serving = e }) serving

  -- whether both sides had their lists before
  abbrev had : Bool
  had = has_lists old

  same-view : (stopped : Option Stop) → record (as_view mid stopped) { lists = had } ≡ as_view old stopped
  same-view stopped = ap {A = Parts Dev} {B = View Dev} (λ p. record (as_view p stopped) { lists = had }) made

  pub still-sound : IsSound old → IsSound mid
  still-sound sound = subst (λ (p : Parts Dev). IsSound p) (sym made) (record {
    asks = sound.asks;
    serves = sound.serves;
    sound = sound.sound;
    budget = sound.budget;
    failed = sound.failed;
    nobody = sound.nobody;
    no_request = sound.no_request;
    no_reply = sound.no_reply;
  })

  -- an answered step
  pub steps-so : (x : Exchanged) (new : Parts Dev) (stopped : Option Stop) → stopped ≡ None → IsSound old → HaveLists mid → Exchanges gives call mid (Ok x) new → Steps gives (as_view old stopped) call (Ok x.answer) (as_view new x.stop)
  steps-so x new stopped none sound lists done = (
    none,
    subst (λ v. Moves gives v call (answer_of x.answer) (as_view new x.stop)) (same-view None ∙ ap {A = Option Stop} {B = View Dev} (λ s. as_view old s) (sym none)) (moves-so gives call mid (still-sound sound) lists had done),
    λ bit ready. subst (λ v. Answers gives v call (answer_of x.answer) (as_view new x.stop)) (same-view None ∙ ap {A = Option Stop} {B = View Dev} (λ s. as_view old s) (sym none))
        (answers-so gives call bit mid (still-sound sound) lists had (subst (λ v. IsReady bit v) (ap {A = Option Stop} {B = View Dev} (λ s. as_view old s) none ∙ sym (same-view None)) ready) done),
    subst (λ v. KeepsLists v (as_view new x.stop)) (same-view None ∙ ap {A = Option Stop} {B = View Dev} (λ s. as_view old s) (sym none)) (keeps-lists gives call mid (still-sound sound) lists had done),
  )

  pub sound-so : (x : Exchanged) (new : Parts Dev) → IsSound old → HaveLists mid → Exchanges gives call mid (Ok x) new → x.stop ≡ None → IsSound new
  sound-so x new sound lists done on = stays-sound gives call mid (still-sound sound) lists done on

  -- a step that was not done left all but the lists
  same-but-lists : (new : Parts Dev) (stopped : Option Stop) → new ≡ mid → as_view new stopped ≡ record (as_view old stopped) { lists = has_lists new }
  same-but-lists new stopped same = subst (λ (p : Parts Dev). as_view p stopped ≡ record (as_view old stopped) { lists = has_lists p }) (sym (same ∙ made)) refl

  halted : (r : Result Exchanged Halt) (h : Halt) (new : Parts Dev) → r ≡ Err h → Exchanges gives call mid r new → (h ≡ halt.OutOfMemory) × (new ≡ mid) × (makes_room mid.frontend call ≡ true)
  halted _ h new is (sides.at_once flags asked answers none same) = absurd (cc is)
  halted _ h new is (sides.unsent e asked other by end) = absurd (cc is)
  halted _ h new is (sides.sent_out sent asked good by done) = absurd (cc is)
  halted _ h new is (sides.no_room room same) = (cc (sym is), same, room)

  pub halts-so : (h : Halt) (new : Parts Dev) (stopped : Option Stop) → stopped ≡ None → Exchanges gives call mid (Err h) new → Steps gives (as_view old stopped) call (Err h) (as_view new stopped)
  halts-so h new stopped none done =
      let k = halted (Err h) h new refl done in
      subst (λ (x : Halt). Steps gives (as_view old stopped) call (Err x) (as_view new stopped)) (sym k.0)
      (none, same-but-lists new stopped k.1, inr (ap {A = Parts Dev} (λ p. makes_room p.frontend call) (sym rest) ∙ k.2))

  -- there was no memory for the lists
  pub short-so : (stopped : Option Stop) → stopped ≡ None → had ≡ false → Steps gives (as_view old stopped) call (Err halt.OutOfMemory) (as_view mid stopped)
  short-so stopped none short = (none, same-but-lists mid stopped refl, inl short)

  pub sound-halted : (h : Halt) (new : Parts Dev) → IsSound old → Exchanges gives call mid (Err h) new → IsSound new
  sound-halted h new sound done = subst (λ (p : Parts Dev). IsSound p) (sym (halted (Err h) h new refl done).1) (still-sound sound)
