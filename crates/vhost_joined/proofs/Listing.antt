-- Which steps leave both sides their lists of handles.
use Rattle.std.proofs.Common.{◌≡◌, ◌⊎◌, inl, inr, Bool, true, List, [], ◌++◌, Option, None, Result, Ok, Err, sym, ◌∙◌, ap, subst}
use Rattle.std.specs.Prelude.{◌&&◌, not}
use Rattle.vhost_message.specs.declared.error.Error as declared
use Rattle.vhost_message.specs.declared.error.Error.TheVariants as error
use Rattle.vhost_message.specs.declared.heard_req.HeardReq.{HeardReq}
use Rattle.vhost_protocol.specs.Ask as ask
use Rattle.vhost_protocol.specs.Ask.{ask}
use Rattle.vhost_protocol.specs.declared.asked.Awaited.{Awaited}
use Rattle.vhost_protocol.specs.Error.{Error, seen, seen_result}
use Rattle.vhost_protocol.specs.FrontendCall.{FrontendCall, Value, Frontend}
use Rattle.vhost_protocol.specs.Stream.{first_handles, has_some}
use Rattle.vhost_protocol.specs.Written.{Written}
use Rattle.vhost_link.specs.declared.plain.PlainHandle.{PlainHandle}
use Rattle.vhost_connection.specs.Serving.{keeps_list}
use Rattle.vhost_frontend_core.specs.ValueHalves.{IsProper}
use Rattle.vhost_frontend_core.specs.declared.asked.Sent.{Sent}
use Rattle.vhost_joined.specs.declared.halt.Stop.{Stop}
use Rattle.vhost_joined.specs.declared.sides.Exchanged.{Exchanged}
use Rattle.vhost_joined.specs.Device.{Gives}
use Rattle.vhost_joined.specs.Joined.{View, KeepsLists}
use Rattle.vhost_joined.specs.OnWay.{incoming, outgoing}
use Rattle.vhost_joined.specs.Sides as sides
use Rattle.vhost_joined.specs.Sides.{Parts, as_view, has_lists, IsSound, HaveLists, Served, Serves, EndsUnsent, IsAskedBy, Exchanges}
use Rattle.vhost_joined.specs.Text.{Text, text_of, no_text}
use Rattle.vhost_joined.proofs.Asked.{IsAsked, is-asked, IsUnasked, is-unasked}
use Rattle.vhost_joined.proofs.Moving.{asked-whole, few-asked, clear, own-request, few-served, came-back, asking-list}
use Rattle.vhost_joined.proofs.Outcomes.{sendable}
use Rattle.vhost_joined.proofs.Served.{Handled1, IsServed, is-served}
use Rattle.vhost_joined.proofs.Sound.{handled, taken}
use Rattle.vhost_joined.proofs.Spent.{End, Faults}

both-lists : (a b : Bool) → a ≡ true → b ≡ true → (a && b) ≡ true
both-lists a b ea eb = ap (λ x. x && b) ea ∙ eb

module _ {Dev : Type 0} (gives : Gives Dev) (call : FrontendCall PlainHandle) (old : Parts Dev) (sound : IsSound old) (lists : HaveLists old) (had : Bool) where
  abbrev before : View Dev
  before = record (as_view old None) { lists = had }

  abbrev Lists : Parts Dev → Type 0
  Lists p = has_lists p ≡ true

  -- nothing was called that takes a list away
  unmoved : (new : Parts Dev) → new.asking ≡ old.asking → new.serving ≡ old.serving → Lists new
  unmoved new asking serving = both-lists new.asking.list new.serving.list (ap {A = End} (λ e. e.list) asking ∙ lists.0) (ap {A = End} (λ e. e.list) serving ∙ lists.1)

  -- ---- a call that was sent and served

  module _ (good : IsProper call) (sent : Sent) (fe1 : End) (f1 : Frontend) (aw1 : Awaited) (ask1 : IsAsked call old.asking old.frontend old.awaited sent fe1 f1 aw1)
      (ans : Result (Value PlainHandle) Error) (stop : Option Stop) (new : Parts Dev) (v : Served gives call sent (record old { asking = fe1; frontend = f1; awaited = aw1 }) ans stop new) (on : stop ≡ None)
      (no_request : before.to_handler ≡ []) (no_reply : before.to_frontend ≡ []) (bare_request : new.request.handles ≡ []) (bare_reply : new.reply.handles ≡ []) where
    abbrev w : Written HeardReq PlainHandle
    w = ask1.message

    abbrev he1 : End
    he1 = v.reached.serving_then

    abbrev he2 : End
    he2 = v.serving_after

    handled1 : Handled1 gives he1 he2 old.session new.session old.device new.device (seen_result v.result)
    handled1 = handled gives call old sound lists sent fe1 f1 aw1 ask1 ans stop new v on

    served1 : IsServed gives he1 he2 old.session new.session old.device new.device w (seen_result v.result)
    served1 = is-served gives he1 he2 old.session new.session old.device new.device w (seen_result v.result) (sendable call good old.frontend w aw1 f1 ask1.asked old.session) handled1
        (own-request gives call old sound lists had good sent fe1 f1 aw1 ask1 v.result v.asking_then he2 new.reply new.session new.device v.reached no_request)
        (clear gives call old sound lists had good sent fe1 f1 aw1 ask1 v.result v.asking_then he2 new.reply new.session new.device v.reached)

    -- the request had no handle
    bare : w.handles ≡ []
    bare = ap {A = Text} (λ t. t.handles) (sym (v.request (few-asked gives call old sound lists had good sent fe1 f1 aw1 ask1) ∙ ap text_of (asked-whole gives call old sound lists had good sent fe1 f1 aw1 ask1))) ∙ bare_request

    serving-list : new.serving.list ≡ true
    serving-list = ap {A = End} (λ e. e.list) v.back.sender ∙ served1.handled.list ∙ ap (λ m. keeps_list m) served1.heard ∙ ap (λ (hs : List PlainHandle). not (has_some hs)) bare

    -- nor had the reply
    replied : first_handles (outgoing he2) ≡ []
    replied = ap {A = Text} (λ t. t.handles) (sym (v.reached.copied (few-served gives call old sound lists had good sent fe1 f1 aw1 ask1 v.result v.asking_then he2 new.reply new.session new.device v.reached handled1 no_request))) ∙ bare_reply

    coming : incoming v.asking_after ≡ outgoing he2
    coming = sym (came-back gives call old sound lists had good sent fe1 f1 aw1 ask1 ans stop new v) ∙ ap (λ cells. cells ++ outgoing he2) no_reply

    asked-list : new.asking.list ≡ true
    asked-list = (taken gives call old sound lists sent fe1 f1 aw1 ask1 ans stop new v on).list (ap (λ cells. has_some (first_handles cells)) coming ∙ ap (λ (hs : List PlainHandle). has_some hs) replied)
        (asking-list gives call old sound lists had good sent fe1 f1 aw1 ask1 ans stop new v)

    served-lists : Lists new
    served-lists = both-lists new.asking.list new.serving.list asked-list serving-list

  sent-lists : IsProper call → (sent : Sent) (fe1 : End) (f1 : Frontend) (aw1 : Awaited) → IsAsked call old.asking old.frontend old.awaited sent fe1 f1 aw1 → (x : Exchanged) (new : Parts Dev)
      → Serves gives call sent (record old { asking = fe1; frontend = f1; awaited = aw1 }) x new → KeepsLists before (as_view new x.stop)
  sent-lists good sent fe1 f1 aw1 ask1 x new (sides.served v) = λ on there back request reply. served-lists good sent fe1 f1 aw1 ask1 _ x.stop new v on there back request reply
  sent-lists good sent fe1 f1 aw1 ask1 x new (sides.no_way v) = λ on. absurd (cc (sym v.stops ∙ on))

  -- ---- a call that was not sent

  unsent-lists : (e : declared.Error) (asked : Parts Dev) (x : Exchanged) (new : Parts Dev) → (e ≡ error.OutOfMemory → ⊥) → IsAskedBy call old (Err e) asked → EndsUnsent e asked x new → x.stop ≡ None → Lists new
  unsent-lists e asked x new other by end on = by-cases u.why
    where
      u : IsUnasked call old.asking old.frontend old.awaited e asked.asking asked.frontend asked.awaited
      u = is-unasked call old.asking old.frontend old.awaited other sound.asks lists.0 by.asks

      same : new ≡ record asked { request = new.request; reply = no_text }
      same = end.same

      by-cases : ((ask old.frontend call ≡ ask.Refuses (seen e)) × (asked.asking ≡ old.asking)) ⊎ (((w : Written HeardReq PlainHandle) × (aw : Awaited) × (g : Frontend) × (ask old.frontend call ≡ ask.Sends w aw g)) × Faults old.asking asked.asking e) → Lists new
      by-cases (inl (refuses, unchanged)) = unmoved new (ap {A = Parts Dev} (λ p. p.asking) same ∙ unchanged) (ap {A = Parts Dev} (λ p. p.serving) same ∙ ap {A = Parts Dev} (λ p. p.serving) by.same)
      by-cases (inr (sends, k)) = absurd (cc (sym (end.stopped k.faulted) ∙ on))

  -- ---- whatever became of a call

  pub keeps-lists : {x : Exchanged} {new : Parts Dev} → Exchanges gives call old (Ok x) new → KeepsLists before (as_view new x.stop)
  keeps-lists {x} {new} (sides.at_once flags asked is none same) = λ on there back request reply. unmoved new (ap {A = Parts Dev} (λ p. p.asking) same) (ap {A = Parts Dev} (λ p. p.serving) same)
  keeps-lists {x} {new} (sides.unsent e asked other by end) = λ on there back request reply. unsent-lists e asked x new other by end on
  keeps-lists {x} {new} (sides.sent_out sent asked good by done) =
      sent-lists good sent asked.asking asked.frontend asked.awaited (is-asked call old.asking old.frontend old.awaited by.asks) x new (subst (λ p. Serves gives call sent p x new) by.same done)
