-- A joined step: whatever became of a call, once the lists of handles were made.
use Rattle.std.proofs.Common.{◌≡◌, ℕ, inl, inr, Bool, false, [], ◌++◌, ◌≤◌, length, Option, Some, None, Result, Ok, Err, arith, refl, sym, ◌∙◌, ap, subst}
use Rattle.std.specs.Prelude.{◌||◌}
use Rattle.vhost_message.specs.declared.error.Error as declared
use Rattle.vhost_message.specs.declared.io_error.IoError as io
use Rattle.vhost_message.specs.declared.limits.TheConstants.{MAX_MSG_TEXT}
use Rattle.vhost_protocol.specs.Error.{seen}
use Rattle.vhost_protocol.specs.IoError.{IoError, Of, seen_io, seen_io_result}
use Rattle.vhost_protocol.specs.JoinedReverse as input
use Rattle.vhost_protocol.specs.JoinedReverse.{ReverseInput, Asks, ReverseExchanges, ReverseJoinedStep, reverse_unsent}
use Rattle.vhost_protocol.specs.Reverse.{ReverseCall, Server, Refuses, reverse_ask}
use Rattle.vhost_link.specs.declared.plain.PlainHandle.{PlainHandle}
use Rattle.vhost_link.specs.Ends.{Ends}
use Rattle.vhost_link.specs.Mem.{event}
use Rattle.vhost_backend_req.specs.Channel.{Channel, backend_of}
use Rattle.vhost_backend_req.specs.Halves as halves
use Rattle.vhost_backend_req.specs.Halves.{Head, AsksHalf, AsksHalfFor, AsksValue, IsProper, with_flag}
use Rattle.vhost_backend_req.specs.declared.call.Asked.{Asked}
use Rattle.vhost_backend_req.specs.declared.call.Asked.TheVariants.{Set, Sent}
use Rattle.vhost_joined.specs.declared.halt.Stop.{Stop}
use Rattle.vhost_joined.specs.declared.halt.Stop.TheVariants.{Premise}
use Rattle.vhost_joined.specs.Joined.{Cuts, PassesBoth, Stops}
use Rattle.vhost_joined.specs.OnWay.{incoming, outgoing, Carries}
use Rattle.vhost_joined.specs.Sides.{cuts_of}
use Rattle.vhost_joined.specs.Text.{text_of, no_text}
use Rattle.vhost_joined.proofs.Asked.{both-empty, kept}
use Rattle.vhost_joined.proofs.Spent.{End, Faults, faults, passes-none}
use Rattle.vhost_joined_reverse.specs.Joined as joined
use Rattle.vhost_joined_reverse.specs.Joined.{Gives, View, Keeps, Answers, Steps}
use Rattle.vhost_joined_reverse.specs.Sides as sides
use Rattle.vhost_joined_reverse.specs.Sides.{Parts, as_view, IsSound, HaveLists, HandsOver, Serves, EndsUnsent, EndsSet, EndsAs, Exchanges, stop_of, acknowledging}
use Rattle.vhost_joined_reverse.specs.declared.sides.Exchanged.{Exchanged}
use Rattle.vhost_joined_reverse.proofs.Exchange.{clear-requests, asked-incoming, exchanged}

-- a step for which no link was called
passed-none : (budget : ℕ) (old new : Cuts) → new ≡ old → PassesBoth budget [] [] old new
passed-none budget old new same = record { mid = old; asked = passes-none budget old old refl; answered = passes-none budget old new same }

module _ {Dev : Type 0} (gives : Gives Dev) (old : Parts Dev) (sound : IsSound old) (lists : HaveLists old) where
  abbrev fe0 : End
  fe0 = old.channel.endpoint

  -- what a step is worth; where the run goes on, both sides are sound
  abbrev Worth : ReverseInput PlainHandle → Exchanged → Parts Dev → Type 0
  Worth i x new = Answers gives (as_view old None) i (seen_io_result x.answer) (as_view new x.stop) × (x.stop ≡ None → IsSound new)

  -- ---- a call that was not sent

  refused-here : (call : ReverseCall PlainHandle) (e : IoError) (new : Parts Dev) → reverse_ask (backend_of old.channel) call ≡ Refuses e → new ≡ record old { request = new.request; reply = no_text } → new.request ≡ text_of (outgoing fe0)
      → Keeps gives (as_view old None) (Asks call) (Err e) (as_view new None)
  refused-here call e new refuses same is_request = record {
    shown = reverse_unsent (Err e);
    step = (
      subst (λ x. ReverseExchanges gives old.server old.device x (reverse_unsent (Err e)) new.device) (sym refuses) (refl, ap {A = Parts Dev} (λ p. p.device) same),
      ap {A = Parts Dev} (λ p. backend_of p.channel) same,
      ap {A = Parts Dev} (λ p. p.server) same,
    );
    answered = refl;
    request = is_request ∙ ap text_of (clear-requests old sound).0;
    reply = ap {A = Parts Dev} (λ p. p.reply) same;
    stopped = refl;
    in_step = subst (λ (p : Parts Dev). joined.IsReady (as_view p None)) (sym same) sound.in_step;
    asking = passed-none fe0.budget (cuts_of fe0.link) (cuts_of new.channel.endpoint.link) (ap {A = Parts Dev} (λ p. cuts_of p.channel.endpoint.link) same);
    serving = passed-none fe0.budget (cuts_of old.serving.link) (cuts_of new.serving.link) (ap {A = Parts Dev} (λ p. cuts_of p.serving.link) same);
    budget = ap {A = Parts Dev} (λ p. p.channel.endpoint.budget) same;
  }

  still-sound : (new : Parts Dev) → new ≡ record old { request = new.request; reply = no_text } → IsSound new
  still-sound new same = subst (λ (p : Parts Dev). IsSound p) (sym same) (record { asks = sound.asks; serves = sound.serves; sound = sound.sound; budget = sound.budget; in_step = sound.in_step })

  unsent-half : (call : ReverseCall PlainHandle) (e : io.IoError) (fe1 : End) (x : Exchanged) (new : Parts Dev) → AsksHalf event (reverse_ask (backend_of old.channel) call) fe0 (Err e) fe1
      → EndsUnsent e (record old { channel = record old.channel { endpoint = fe1 } }) x new → Worth (Asks call) x new
  unsent-half call e _ x new (halves.refuses is) end =
      let none : x.stop ≡ None = end.goes_on sound.sound in
      let request : new.request ≡ text_of (outgoing fe0) = end.request (subst (λ cells. length cells ≤ MAX_MSG_TEXT) (sym (clear-requests old sound).0) (omega arith)) in (
        inl (subst (λ t. Keeps gives (as_view old None) (Asks call) (seen_io_result x.answer) (as_view new t)) (sym none)
            (subst (λ (a : Result ℕ io.IoError). Keeps gives (as_view old None) (Asks call) (seen_io_result a) (as_view new None)) (sym end.answer) (refused-here call (seen_io e) new is end.same request))),
        λ on. still-sound new end.same,
      )
  unsent-half call _ fe1 x new (halves.fails {e = e} is f) end =
      let k : Faults fe0 fe1 e = faults fe0 fe1 false e f sound.asks lists.0 in
      let why : x.stop ≡ Some Premise = end.stopped k.faulted in
      let link : new.channel.endpoint ≡ fe1 = ap {A = Parts Dev} (λ p. p.channel.endpoint) end.same in (
        inr (
          why,
          joined.unsent k.cause (subst (λ (s : End). Stops fe0.budget k.cause (cuts_of fe0.link) (cuts_of s.link)) (sym link) k.stopped)
              (ap seen_io_result end.answer ∙ ap {A = declared.Error} {B = Result ℕ IoError} (λ y. Err (Of (seen y))) k.error) (ap {A = Parts Dev} (λ p. p.device) end.same)
              (ap {A = Parts Dev} (λ p. backend_of p.channel) end.same) (ap {A = Parts Dev} (λ p. p.server) end.same),
        ),
        λ on. absurd (cc (sym why ∙ on)),
      )

  -- ---- a call that was sent

  lost-there : (p mid : Parts Dev) (o : Option (Result ℕ declared.Error)) → o ≡ None → p.serving.link.pending ≡ [] → ((fe2 he1 : End) → Carries p.channel.endpoint p.serving fe2 he1 → fe2.link.pending ≡ []) → HandsOver gives p o mid → ⊥
  lost-there p mid _ none there back (sides.handed h) = absurd (cc none)
  lost-there p mid _ none there back (sides.no_room_there blocked) = blocked there
  lost-there p mid _ none there back (sides.no_room_back fe2 he1 carries blocked) = blocked (back fe2 he1 carries)

  sent-half : (call : ReverseCall PlainHandle) → IsProper (Asks call) → (sent : Option Head) (fe1 : End) (x : Exchanged) (new : Parts Dev) → AsksHalf event (reverse_ask (backend_of old.channel) call) fe0 (Ok sent) fe1
      → Serves gives sent (record old { channel = record old.channel { endpoint = fe1 } }) x new → Worth (Asks call) x new
  sent-half call proper _ fe1 x new (halves.goes {w = w} {awaited = awaited} head is out) (sides.served v) =
      let whole : new ≡ record v.mid { channel = record v.mid.channel { endpoint = new.channel.endpoint } } = v.same ∙ ap {A = Channel Ends PlainHandle} (λ c. record v.mid { channel = c }) v.channel in
      let stops : x.stop ≡ stop_of (new.channel.endpoint.faulted || v.mid.serving.faulted) v.result v.mid.reply.bytes =
      v.stops ∙ ap {A = Parts Dev} (λ p. stop_of (new.channel.endpoint.faulted || p.serving.faulted) v.result p.reply.bytes) v.same in
      subst (λ (p : Parts Dev). Worth (Asks call) x p) (sym whole)
      (exchanged gives call proper old sound lists w awaited head fe1 is out v.copy v.request v.result v.mid v.hands x.answer new.channel.endpoint x.stop stops v.takes)
  sent-half call proper _ fe1 x new (halves.goes {w = w} {awaited = awaited} head is out) (sides.no_way copy mid way) =
      absurd (lost-there (record old { channel = record old.channel { endpoint = fe1 }; request = copy }) mid None refl (both-empty old.serving.ahead old.serving.link.pending (clear-requests old sound).1).1
      (λ fe2 he1 there. (both-empty fe2.ahead fe2.link.pending (kept fe1 old.serving fe2 he1 there ∙ asked-incoming gives call proper old sound lists w awaited head fe1 is out)).1) way)

  -- ---- a flag

  set-here : (i : ReverseInput PlainHandle) (ch : Channel Ends PlainHandle) (s : Server) → ch.endpoint ≡ fe0 → ch.reply_ack ≡ s.reply_ack → ch.failed ≡ None → s.failed ≡ None
      → ReverseJoinedStep gives (backend_of old.channel) old.server old.device i (reverse_unsent (Ok 0)) (backend_of ch) s old.device
      → (x : Exchanged) (new : Parts Dev) → (x.answer ≡ Ok 0) × (x.stop ≡ None) → new ≡ record old { channel = ch; server = s; request = no_text; reply = no_text } → Worth i x new
  set-here i ch s link agree asks serves step x new (is, none) same =
      let after : Parts Dev = record old { channel = ch; server = s; request = no_text; reply = no_text } in
      let in_step : joined.IsReady (as_view after None) = record {
        agree = agree;
        asks = asks;
        serves = serves;
        no_request = ap {A = End} (λ e. outgoing e ++ incoming old.serving) link ∙ sound.in_step.no_request;
        no_reply = ap {A = End} (λ e. outgoing old.serving ++ incoming e) link ∙ sound.in_step.no_reply;
      } in
      let keeps : Keeps gives (as_view old None) i (Ok 0) (as_view after None) = record {
        shown = reverse_unsent (Ok 0);
        step = step;
        answered = refl;
        request = refl;
        reply = refl;
        stopped = refl;
        in_step = in_step;
        asking = passed-none fe0.budget (cuts_of fe0.link) (cuts_of ch.endpoint.link) (ap {A = End} (λ e. cuts_of e.link) link);
        serving = passed-none fe0.budget (cuts_of old.serving.link) (cuts_of old.serving.link) refl;
        budget = ap {A = End} (λ e. e.budget) link;
      } in (
        inl (subst (λ t. Keeps gives (as_view old None) i (seen_io_result x.answer) (as_view new t)) (sym none)
            (subst (λ (a : Result ℕ io.IoError). Keeps gives (as_view old None) i (seen_io_result a) (as_view new None)) (sym is) (subst (λ (p : Parts Dev). Keeps gives (as_view old None) i (Ok 0) (as_view p None)) (sym same) keeps))),
        λ on. subst (λ (p : Parts Dev). IsSound p) (sym same) (record {
          asks = ap {A = End} (λ e. e.broken) link ∙ sound.asks;
          serves = sound.serves;
          sound = ap {A = End} (λ e. e.faulted) link ∙ sound.sound;
          budget = sound.budget ∙ ap {A = End} (λ e. e.budget) (sym link);
          in_step = in_step;
        }),
      )

  -- of the endings, those that fit what became of the half that asks
  set-ends : (i : ReverseInput PlainHandle) (r : Result Asked io.IoError) (p : Parts Dev) (x : Exchanged) (new : Parts Dev) → r ≡ Ok Set → EndsAs gives i r p x new → EndsSet i p x new
  set-ends i r p x new is ends = subst (λ (y : Result Asked io.IoError). EndsAs gives i y p x new) is ends

  set-channel : (i : ReverseInput PlainHandle) (ch ch' : Channel Ends PlainHandle) (x : Exchanged) (new : Parts Dev) → ch ≡ ch' → EndsSet i (record old { channel = ch }) x new → new ≡ record old { channel = ch'; server = acknowledging i old.server; request = no_text; reply = no_text }
  set-channel i ch ch' x new is ends = ends.same ∙ ap {A = Channel Ends PlainHandle} (λ c. record old { channel = c; server = acknowledging i old.server; request = no_text; reply = no_text }) is

  call-so : (call : ReverseCall PlainHandle) → IsProper (Asks call) → (r : Result Asked io.IoError) (ch : Channel Ends PlainHandle) (x : Exchanged) (new : Parts Dev) → AsksValue event (Asks call) old.channel r ch → EndsAs gives (Asks call) r (record old { channel = ch }) x new
      → Worth (Asks call) x new
  call-so call proper (Ok Set) ch x new asks ends = absurd asks
  call-so call proper (Ok (Sent sent)) ch x new (h, same) ends = sent-half call proper sent ch.endpoint x new h (subst (λ (c : Channel Ends PlainHandle). Serves gives sent (record old { channel = c }) x new) same ends)
  call-so call proper (Err e) ch x new (h, same) ends = unsent-half call e ch.endpoint x new h (subst (λ (c : Channel Ends PlainHandle). EndsUnsent e (record old { channel = c }) x new) same ends)

  pub exchange-so : (i : ReverseInput PlainHandle) (x : Exchanged) (new : Parts Dev) → Exchanges gives i old x new → Worth i x new
  exchange-so (input.Asks call) x new k = call-so call k.proper k.asked k.channel x new k.asks k.ends
  exchange-so (input.SetReplyAck on) x new k =
      let end = set-ends (input.SetReplyAck on) k.asked _ x new k.asks.0 k.ends in
      set-here (input.SetReplyAck on) (record old.channel { reply_ack = on }) (record old.server { reply_ack = on }) refl refl sound.in_step.asks sound.in_step.serves (refl, refl, refl, refl) x new end.answer
      (set-channel (input.SetReplyAck on) k.channel (record old.channel { reply_ack = on }) x new k.asks.1 end)
  exchange-so (input.SetSharedObject on) x new k =
      let end = set-ends (input.SetSharedObject on) k.asked _ x new k.asks.0 k.ends in
      set-here (input.SetSharedObject on) (record old.channel { shared_object = on }) old.server refl sound.in_step.agree sound.in_step.asks sound.in_step.serves (refl, refl, refl, refl) x new end.answer
      (set-channel (input.SetSharedObject on) k.channel (record old.channel { shared_object = on }) x new k.asks.1 end)
  exchange-so (input.SetShmem on) x new k =
      let end = set-ends (input.SetShmem on) k.asked _ x new k.asks.0 k.ends in
      set-here (input.SetShmem on) (record old.channel { shmem = on }) old.server refl sound.in_step.agree sound.in_step.asks sound.in_step.serves (refl, refl, refl, refl) x new end.answer
      (set-channel (input.SetShmem on) k.channel (record old.channel { shmem = on }) x new k.asks.1 end)
  exchange-so (input.SetConfigChange on) x new k =
      let end = set-ends (input.SetConfigChange on) k.asked _ x new k.asks.0 k.ends in
      set-here (input.SetConfigChange on) (record old.channel { config_change = on }) old.server refl sound.in_step.agree sound.in_step.asks sound.in_step.serves (refl, refl, refl, refl) x new end.answer
      (set-channel (input.SetConfigChange on) k.channel (record old.channel { config_change = on }) x new k.asks.1 end)

-- ---- once the lists of handles were made

module _ {Dev : Type 0} (gives : Gives Dev) (i : ReverseInput PlainHandle) (old mid : Parts Dev) (asking : mid.channel.endpoint ≡ record old.channel.endpoint { list = mid.channel.endpoint.list })
    (channel : mid.channel ≡ record old.channel { endpoint = mid.channel.endpoint }) (serving : mid.serving ≡ record old.serving { list = mid.serving.list }) (rest : mid ≡ record old { channel = mid.channel; serving = mid.serving }) where
  -- both sides with these lists
  abbrev with_lists : (asks serves : Bool) → Parts Dev
  with_lists asks serves = record old { channel = record old.channel { endpoint = record old.channel.endpoint { list = asks } }; serving = record old.serving { list = serves } }

  made : mid ≡ with_lists mid.channel.endpoint.list mid.serving.list
  made = rest ∙ ap {A = Channel Ends PlainHandle} {B = Parts Dev} (λ c. record old { channel = c; serving = mid.serving }) (channel ∙ ap {A = End} {B = Channel Ends PlainHandle} (λ e. record old.channel { endpoint = e }) asking)
      ∙ ap {A = End} {B = Parts Dev} (λ e. record old { channel = record old.channel { endpoint = record old.channel.endpoint { list = mid.channel.endpoint.list } }; serving = e }) serving

  pub same-view : (stopped : Option Stop) → as_view mid stopped ≡ as_view old stopped
  same-view stopped = ap {A = Parts Dev} {B = View Dev} (λ p. as_view p stopped) made

  pub sound-prepared : IsSound old → IsSound mid
  sound-prepared sound = subst (λ (p : Parts Dev). IsSound p) (sym made) (record { asks = sound.asks; serves = sound.serves; sound = sound.sound; budget = sound.budget; in_step = sound.in_step })

  pub steps-so : (x : Exchanged) (new : Parts Dev) (stopped : Option Stop) → stopped ≡ None → IsSound old → HaveLists mid → Exchanges gives i mid x new → Steps gives (as_view old stopped) i (Ok x.answer) (as_view new x.stop)
  steps-so x new stopped none sound lists done = (
    none,
    subst (λ (v : View Dev). Answers gives v i (seen_io_result x.answer) (as_view new x.stop)) (same-view None ∙ ap {A = Option Stop} {B = View Dev} (λ s. as_view old s) (sym none)) (exchange-so gives mid (sound-prepared sound) lists i x new done).0,
  )

  pub sound-so : (x : Exchanged) (new : Parts Dev) → IsSound old → HaveLists mid → Exchanges gives i mid x new → x.stop ≡ None → IsSound new
  sound-so x new sound lists done on = (exchange-so gives mid (sound-prepared sound) lists i x new done).1 on
