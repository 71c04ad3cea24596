-- What stays sound, whether or not both sides are in step.
use Rattle.std.proofs.Common.{◌≡◌, ◌⊎◌, inl, inr, true, false, Option, Some, None, Result, Ok, Err, sym, ◌∙◌, ap, subst}
use Rattle.std.specs.Prelude.{◌||◌}
use Rattle.std.proofs.Math.Bool.{or-true}
use Rattle.vhost_message.specs.declared.error.Error as declared
use Rattle.vhost_message.specs.declared.error.Error.TheVariants as error
use Rattle.vhost_message.specs.MsgHeader.{fields_of}
use Rattle.vhost_protocol.specs.AnswerTable.{answered}
use Rattle.vhost_message.specs.declared.heard_req.HeardReq.{HeardReq}
use Rattle.vhost_protocol.specs.Ask.{Refuses, Sends, ask}
use Rattle.vhost_protocol.specs.declared.asked.Awaited.{Awaited}
use Rattle.vhost_protocol.specs.Error.{Error, seen, seen_result}
use Rattle.vhost_protocol.specs.FrontendCall.{FrontendCall, Value, Frontend}
use Rattle.vhost_protocol.specs.Session.{Session}
use Rattle.vhost_protocol.specs.Written.{Written}
use Rattle.vhost_link.specs.declared.plain.PlainHandle.{PlainHandle}
use Rattle.vhost_frontend_core.specs.declared.asked.Sent.{Sent}
use Rattle.vhost_joined.specs.declared.halt.Stop.{Stop}
use Rattle.vhost_joined.specs.declared.sides.Exchanged.{Exchanged}
use Rattle.vhost_joined.specs.Device.{Gives}
use Rattle.vhost_frontend_core.specs.ValueHalves.{TakesResult}
use Rattle.vhost_joined.specs.OnWay.{outgoing}
use Rattle.vhost_joined.specs.Text.{no_text}
use Rattle.vhost_joined.specs.Sides as sides
use Rattle.vhost_joined.specs.Joined.{ends}
use Rattle.vhost_joined.specs.Sides.{Parts, IsSound, HaveLists, stop_of, Served, Serves, EndsUnsent, IsAskedBy, Exchanges}
use Rattle.vhost_joined.proofs.Asked.{IsAsked, is-asked, IsUnasked, is-unasked, emptied, held, IsTaken, is-taken}
use Rattle.vhost_joined.proofs.Served.{ServingFaults, Handled1, split-handled, faulted-so, handled-budget, going-alive}
use Rattle.vhost_joined.proofs.Spent.{End, Faults, faults}

module _ {Dev : Type 0} (gives : Gives Dev) (call : FrontendCall PlainHandle) (old : Parts Dev) (sound : IsSound old) (lists : HaveLists old) where
  -- ---- a call that was sent and served

  module _ (sent : Sent) (fe1 : End) (f1 : Frontend) (aw1 : Awaited) (ask1 : IsAsked call old.asking old.frontend old.awaited sent fe1 f1 aw1)
      (ans : Result (Value PlainHandle) Error) (stop : Option Stop) (new : Parts Dev) (v : Served gives call sent (record old { asking = fe1; frontend = f1; awaited = aw1 }) ans stop new) (on : stop ≡ None) where
    abbrev Handled2 : Type 0
    Handled2 = Handled1 gives v.reached.serving_then v.serving_after old.session new.session old.device new.device (seen_result v.result)

    faulted-stops : (new.asking.faulted || new.serving.faulted) ≡ true → ⊥
    faulted-stops faulted = let why = v.stops ∙ ap (λ b. stop_of b new.frontend new.session (ends call) v.result new.reply.bytes) faulted in absurd (cc (sym why ∙ on))

    pub handled : Handled2
    handled = by-cases (split-handled gives v.reached.serving_then v.serving_after old.session new.session old.device new.device v.result (v.reached.handled sound.failed) (ap {A = End} (λ e. e.broken) v.reached.there.receiver ∙ sound.serves) (ap {A = End} (λ e. e.list) v.reached.there.receiver ∙ lists.1))
      where
        by-cases : Handled2 ⊎ ServingFaults gives v.reached.serving_then v.serving_after old.session new.session old.device new.device → Handled2
        by-cases (inl h) = h
        by-cases (inr k) = absurd (faulted-stops (ap (λ b. new.asking.faulted || b) (ap {A = End} (λ e. e.faulted) v.back.sender ∙ faulted-so gives v.reached.serving_then v.serving_after old.session new.session old.device new.device k) ∙ or-true new.asking.faulted))

    pub taken : IsTaken call sent.awaited (fields_of sent.request) f1 v.asking_after (Some (answered new.frontend ans)) new.asking
    taken = by-cases v.takes
      where
        whole : v.asking_after.broken ≡ None
        whole = ap {A = End} (λ e. e.broken) v.back.receiver ∙ ap {A = End} (λ e. e.broken) v.reached.there.sender ∙ ask1.broken

        faultless : v.asking_after.faulted ≡ false
        faultless = ap {A = End} (λ e. e.faulted) v.back.receiver ∙ ap {A = End} (λ e. e.faulted) v.reached.there.sender ∙ ask1.faulted

        list : v.asking_after.list ≡ true
        list = ap {A = End} (λ e. e.list) v.back.receiver ∙ ap {A = End} (λ e. e.list) v.reached.there.sender ∙ ask1.list

        by-cases : TakesResult call sent.awaited (fields_of sent.request) v.asking_after f1 ans new.asking new.frontend
            → IsTaken call sent.awaited (fields_of sent.request) f1 v.asking_after (Some (answered new.frontend ans)) new.asking
        by-cases (inl t) = is-taken call sent.awaited (fields_of sent.request) f1 v.asking_after (Some (answered new.frontend ans)) whole faultless t
        by-cases (inr (same, e, is, fails)) =
            let k : Faults v.asking_after new.asking e = faults v.asking_after new.asking true e fails whole list in
            absurd (faulted-stops (ap (λ b. b || new.serving.faulted) k.faulted))

    sound-served : IsSound new
    sound-served = record {
      asks = taken.broken;
      serves = ap {A = End} (λ e. e.broken) v.back.sender ∙ handled.replies.serves.after;
      sound = taken.faulted;
      budget = ap {A = End} (λ e. e.budget) v.back.sender ∙ handled-budget gives v.reached.serving_then v.serving_after old.session new.session old.device new.device (seen_result v.result) handled ∙ ap {A = End} (λ e. e.budget) v.reached.there.receiver ∙ sound.budget
          ∙ sym (taken.budget ∙ ap {A = End} (λ e. e.budget) v.back.receiver ∙ ap {A = End} (λ e. e.budget) v.reached.there.sender ∙ ask1.budget);
      failed = going-alive (new.asking.faulted || new.serving.faulted) new.frontend new.session (ends call) v.result new.reply.bytes (sym v.stops ∙ on);
      nobody = v.quiet;
      no_request = taken.outgoing ∙ held v.serving_after v.asking_then new.serving v.asking_after v.back ∙ emptied fe1 old.serving v.asking_then v.reached.serving_then v.reached.there;
      no_reply = emptied v.serving_after v.asking_then new.serving v.asking_after v.back;
    }

  sound-sent : (sent : Sent) (fe1 : End) (f1 : Frontend) (aw1 : Awaited) → IsAsked call old.asking old.frontend old.awaited sent fe1 f1 aw1 → (x : Exchanged) (new : Parts Dev)
      → Serves gives call sent (record old { asking = fe1; frontend = f1; awaited = aw1 }) x new → x.stop ≡ None → IsSound new
  sound-sent sent fe1 f1 aw1 ask1 x new (sides.served v) on = sound-served sent fe1 f1 aw1 ask1 _ x.stop new v on
  sound-sent sent fe1 f1 aw1 ask1 x new (sides.no_way v) on = absurd (cc (sym v.stops ∙ on))

  -- ---- a call that was not sent

  -- the messages of the last step and the header's flags make no difference
  still-sound : (new : Parts Dev) → new.asking ≡ old.asking → new.serving ≡ old.serving → new.session ≡ old.session → new.awaited ≡ old.awaited → IsSound new
  still-sound new asking serving session awaited = record {
    asks = ap {A = End} (λ e. e.broken) asking ∙ sound.asks;
    serves = ap {A = End} (λ e. e.broken) serving ∙ sound.serves;
    sound = ap {A = End} (λ e. e.faulted) asking ∙ sound.sound;
    budget = ap {A = End} (λ e. e.budget) serving ∙ sound.budget ∙ ap {A = End} (λ e. e.budget) (sym asking);
    failed = ap {A = Session} (λ s. s.failed) session ∙ sound.failed;
    nobody = awaited ∙ sound.nobody;
    no_request = ap {A = End} (λ e. outgoing e) asking ∙ sound.no_request;
    no_reply = ap {A = End} (λ e. outgoing e) serving ∙ sound.no_reply;
  }

  sound-unsent : (e : declared.Error) (asked : Parts Dev) (x : Exchanged) (new : Parts Dev) → (e ≡ error.OutOfMemory → ⊥) → IsAskedBy call old (Err e) asked → EndsUnsent e asked x new → x.stop ≡ None → IsSound new
  sound-unsent e asked x new other by end on = by-cases u.why
    where
      u : IsUnasked call old.asking old.frontend old.awaited e asked.asking asked.frontend asked.awaited
      u = is-unasked call old.asking old.frontend old.awaited other sound.asks lists.0 by.asks

      same : new ≡ record asked { request = new.request; reply = no_text }
      same = end.same

      by-cases : ((ask old.frontend call ≡ Refuses (seen e)) × (asked.asking ≡ old.asking)) ⊎ (((w : Written HeardReq PlainHandle) × (aw : Awaited) × (g : Frontend) × (ask old.frontend call ≡ Sends w aw g)) × Faults old.asking asked.asking e) → IsSound new
      by-cases (inl (refuses, unchanged)) = still-sound new (ap {A = Parts Dev} (λ p. p.asking) same ∙ unchanged)
          (ap {A = Parts Dev} (λ p. p.serving) same ∙ ap {A = Parts Dev} (λ p. p.serving) by.same) (ap {A = Parts Dev} (λ p. p.session) same ∙ ap {A = Parts Dev} (λ p. p.session) by.same)
          (ap {A = Parts Dev} (λ p. p.awaited) same ∙ u.awaits)
      by-cases (inr (sends, k)) = absurd (cc (sym (end.stopped k.faulted) ∙ on))

  -- ---- whatever became of a call that did not stop the run

  pub stays-sound : {x : Exchanged} {new : Parts Dev} → Exchanges gives call old (Ok x) new → x.stop ≡ None → IsSound new
  stays-sound {x} {new} (sides.at_once flags asked is none same) on =
      still-sound new (ap {A = Parts Dev} (λ p. p.asking) same) (ap {A = Parts Dev} (λ p. p.serving) same) (ap {A = Parts Dev} (λ p. p.session) same) (ap {A = Parts Dev} (λ p. p.awaited) same)
  stays-sound {x} {new} (sides.unsent e asked other by end) on = sound-unsent e asked x new other by end on
  stays-sound {x} {new} (sides.sent_out sent asked good by done) on =
      sound-sent sent asked.asking asked.frontend asked.awaited (is-asked call old.asking old.frontend old.awaited by.asks) x new (subst (λ p. Serves gives call sent p x new) by.same done) on
