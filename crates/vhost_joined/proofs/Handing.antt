-- A request that was handed over, and its answer.
use Rattle.std.proofs.Common.{◌≡◌, ◌≤◌, inl, inr, Option, Some, None, Result, Err, length, refl, sym, ◌∙◌, ap, subst}
use Rattle.std.specs.Prelude.{⊤, ◌||◌}
use Rattle.vhost_message.specs.declared.error.Error as declared
use Rattle.vhost_message.specs.MsgHeader.{fields_of}
use Rattle.vhost_message.specs.declared.limits.TheConstants.{MAX_MSG_TEXT}
use Rattle.vhost_protocol.specs.declared.asked.Awaited.{Awaited}
use Rattle.vhost_protocol.specs.declared.asked.Awaited.TheVariants.{Nobody}
use Rattle.vhost_protocol.specs.Error.{Error, OutOfMemory}
use Rattle.vhost_protocol.specs.FrontendCall.{FrontendCall, Value, Frontend}
use Rattle.vhost_protocol.specs.Session.{Session}
use Rattle.vhost_link.specs.declared.plain.PlainHandle.{PlainHandle}
use Rattle.vhost_frontend_core.specs.declared.asked.Sent.{Sent}
use Rattle.vhost_frontend_core.specs.ValueHalves.{TakesResult}
use Rattle.vhost_joined.specs.declared.halt.Stop.{Stop}
use Rattle.vhost_joined.specs.declared.halt.Stop.TheVariants.{Premise}
use Rattle.vhost_joined.specs.Device.{Gives}
use Rattle.vhost_joined.specs.OnWay.{outgoing, Carries}
use Rattle.vhost_joined.specs.Joined.{ends}
use Rattle.vhost_joined.specs.Text.{Text, text_of, no_text}
use Rattle.vhost_joined.specs.Sides as sides
use Rattle.vhost_joined.specs.Sides.{Parts, stop_of, Reached, HandedOver, HandsOver, Served, FoundNoRoom}
use Rattle.vhost_joined.proofs.Spent.{End}

pub same-but : {Dev : Type 0} (p : Parts Dev) (f : Frontend) (awaited : Awaited) → f ≡ p.frontend → awaited ≡ p.awaited → record p { frontend = f; awaited = awaited } ≡ p
same-but {Dev} p f awaited session awaits =
    ap {A = Frontend} {B = Parts Dev} (λ g. record p { frontend = g; awaited = awaited }) session ∙ ap {A = Awaited} {B = Parts Dev} (λ a. record p { awaited = a }) awaits

pub same-asked : {Dev : Type 0} (p : Parts Dev) (e : End) (f : Frontend) (awaited : Awaited) → e ≡ p.asking → f ≡ p.frontend → awaited ≡ p.awaited → record p { asking = e; frontend = f; awaited = awaited } ≡ p
same-asked {Dev} p e f awaited asking session awaits = ap {A = End} {B = Parts Dev} (λ x. record p { asking = x; frontend = f; awaited = awaited }) asking ∙ same-but p f awaited session awaits

-- nothing came of a hand-over but that the last reply is forgotten
pub shut-same : {Dev : Type 0} (p : Parts Dev) (a s : End) (t : Text) → a ≡ p.asking → s ≡ p.serving → t ≡ no_text → record p { asking = a; serving = s; reply = t } ≡ record p { reply = no_text }
shut-same {Dev} p a s t asking serving text =
    ap {A = Text} {B = Parts Dev} (λ x. record p { asking = a; serving = s; reply = x }) text
    ∙ ap {A = End} {B = Parts Dev} (λ x. record p { asking = a; serving = x; reply = no_text }) serving ∙ ap {A = End} {B = Parts Dev} (λ x. record p { asking = x; reply = no_text }) asking

pub handed-in : {Dev : Type 0} (gives : Gives Dev) (old : Parts Dev) (result : Result ⊤ declared.Error) (new : Parts Dev) → HandsOver gives old (Some result) new → HandedOver gives old result new
handed-in gives old result new (sides.handed h) = h

module _ {Dev : Type 0} (gives : Gives Dev) (call : FrontendCall PlainHandle) (sent : Sent) (old : Parts Dev) where
  -- the copy of the request makes no difference
  copied-reached : (copy : Text) (result : Result ⊤ declared.Error) (fe he : End) (reply : Text) (s : Session) (d : Dev) → Reached gives (record old { request = copy }) result fe he reply s d → Reached gives old result fe he reply s d
  copied-reached copy result fe he reply s d r = record { serving_then = r.serving_then; there = r.there; handled = r.handled; copied = r.copied }

  -- the request was copied, handed over, and the answer taken
  module _ (copy : Text) (copied : length (outgoing old.asking) ≤ MAX_MSG_TEXT → copy ≡ text_of (outgoing old.asking)) (mid new : Parts Dev) where
    abbrev copied_parts : Parts Dev
    copied_parts = record old { request = copy }

    served-so : (result : Result ⊤ declared.Error) (answer : Result (Value PlainHandle) Error) (stop : Option Stop) → HandedOver gives copied_parts result mid
        → TakesResult call sent.awaited (fields_of sent.request) mid.asking mid.frontend answer new.asking new.frontend
        → new ≡ record mid { asking = new.asking; frontend = new.frontend; awaited = new.awaited } → new.awaited ≡ Nobody
        → stop ≡ stop_of (new.asking.faulted || new.serving.faulted) new.frontend new.session (ends call) result new.reply.bytes → Served gives call sent old answer stop new
    served-so result answer stop h takes same quiet stops =
        let serving : mid.serving ≡ new.serving = ap {A = Parts Dev} (λ p. p.serving) (sym same) in
        record {
          asking_then = h.asking_then;
          result = result;
          serving_after = h.serving_after;
          reached = copied-reached copy result h.asking_then h.serving_after new.reply new.session new.device
              (subst (λ t. Reached gives copied_parts result h.asking_then h.serving_after t new.session new.device) (ap {A = Parts Dev} (λ p. p.reply) (sym same))
              (subst (λ s. Reached gives copied_parts result h.asking_then h.serving_after mid.reply s new.device) (ap {A = Parts Dev} (λ p. p.session) (sym same))
              (subst (λ d. Reached gives copied_parts result h.asking_then h.serving_after mid.reply mid.session d) (ap {A = Parts Dev} (λ p. p.device) (sym same)) h.reached)));
          asking_after = mid.asking;
          back = subst (λ e. Carries h.serving_after h.asking_then e mid.asking) serving h.back;
          takes = subst (λ f. TakesResult call sent.awaited (fields_of sent.request) mid.asking f answer new.asking new.frontend) (ap {A = Parts Dev} (λ p. p.frontend) h.same) takes;
          quiet = quiet;
          request = λ few. ap {A = Parts Dev} (λ p. p.request) same ∙ ap {A = Parts Dev} (λ p. p.request) h.same ∙ copied few;
          stops = stops;
        }

    pub served-copied : (from : Parts Dev) (result : Result ⊤ declared.Error) (answer : Result (Value PlainHandle) Error) (stop : Option Stop) → from ≡ copied_parts → HandsOver gives from (Some result) mid
        → TakesResult call sent.awaited (fields_of sent.request) mid.asking mid.frontend answer new.asking new.frontend
        → new ≡ record mid { asking = new.asking; frontend = new.frontend; awaited = new.awaited } → new.awaited ≡ Nobody
        → stop ≡ stop_of (new.asking.faulted || new.serving.faulted) new.frontend new.session (ends call) result new.reply.bytes → Served gives call sent old answer stop new
    served-copied from result answer stop is h takes same quiet stops =
        served-so result answer stop (handed-in gives copied_parts result mid (subst (λ p. HandsOver gives p (Some result) mid) is h)) takes same quiet stops

  -- the request found no room, or the reply
  module _ (copy : Text) (copied : length (outgoing old.asking) ≤ MAX_MSG_TEXT → copy ≡ text_of (outgoing old.asking)) (new : Parts Dev) (answer : Result (Value PlainHandle) Error) (stop : Option Stop)
      (is_answer : answer ≡ Err OutOfMemory) (stops : stop ≡ Some Premise) where
    lost-so : (o : Option (Result ⊤ declared.Error)) → o ≡ None → HandsOver gives (record old { request = copy }) o new → FoundNoRoom gives call old answer stop new
    lost-so _ none (sides.handed h) = absurd (cc none)
    lost-so _ none (sides.no_room_there some same) =
        let text : new.request ≡ copy = ap {A = Parts Dev} (λ p. p.request) same in
        record {
          answer = is_answer;
          stops = stops;
          request = λ few. text ∙ copied few;
          place = inl (some, same ∙ ap {A = Text} {B = Parts Dev} (λ t. record old { request = t; reply = no_text }) (sym text));
        }
    lost-so _ none (sides.no_room_back result rc some same) =
        let text : new.request ≡ copy = ap {A = Parts Dev} (λ p. p.request) same in
        record {
          answer = is_answer;
          stops = stops;
          request = λ few. text ∙ copied few;
          place = inr (
            result,
            copied-reached copy result new.asking new.serving new.reply new.session new.device rc,
            some,
            same ∙ ap {A = Text} {B = Parts Dev} (λ t. record old { asking = new.asking; serving = new.serving; session = new.session; device = new.device; request = t; reply = new.reply }) (sym text),
          );
        }

    pub lost-copied : (from : Parts Dev) → from ≡ record old { request = copy } → HandsOver gives from None new → FoundNoRoom gives call old answer stop new
    lost-copied from is h = lost-so None refl (subst (λ p. HandsOver gives p None new) is h)
