-- Both sides of a joined run, as contracts see them, and one exchange between them.
use Rattle.std.specs.Prelude.{◌≡◌, ℕ, ◌≤◌, List, [], ◌++◌, ◌⊎◌, length, Option, Some, None, Bool, true, false, ◌||◌, ◌&&◌, if◌then◌else◌, Result, Ok, Err, ⊤}
use Rattle.vhost_message.specs.declared.error.Error as declared
use Rattle.vhost_message.specs.declared.error.Error.TheVariants.{OutOfMemory}
use Rattle.vhost_message.specs.MsgHeader.{fields_of}
use Rattle.vhost_message.specs.declared.limits.TheConstants.{MAX_MSG_TEXT}
use Rattle.vhost_protocol.specs.Error as protocol
use Rattle.vhost_protocol.specs.Error.{Error, seen, seen_result}
use Rattle.vhost_protocol.specs.FrontendCall.{FrontendCall, SetHdrFlags, Value, Nothing, Frontend, new_frontend}
use Rattle.vhost_protocol.specs.Ask.{ask}
use Rattle.vhost_protocol.specs.declared.asked.Awaited.{Awaited}
use Rattle.vhost_protocol.specs.declared.asked.Awaited.TheVariants.{Nobody}
use Rattle.vhost_protocol.specs.Session.{Session, fresh as new_session}
use Rattle.vhost_link.specs.declared.plain.PlainHandle.{PlainHandle}
use Rattle.vhost_link.specs.declared.cut.Cut.{Cut}
use Rattle.vhost_link.specs.Ends.{Ends, empty}
use Rattle.vhost_link.specs.Mem.{event}
use Rattle.vhost_connection.specs.State.{fresh}
use Rattle.vhost_connection.specs.Talk.{State}
use Rattle.vhost_backend_req_handler.specs.Core as core
use Rattle.vhost_backend_req_handler.specs.Serving.{HandlesOne}
use Rattle.vhost_frontend_core.specs.Asking.{AsksWithRoom}
use Rattle.vhost_frontend_core.specs.Frontend as frontend
use Rattle.vhost_frontend_core.specs.declared.asked.Sent.{Sent}
use Rattle.vhost_joined.specs.declared.halt.Halt.{Halt}
use Rattle.vhost_joined.specs.declared.halt.Halt.TheVariants as halt
use Rattle.vhost_joined.specs.declared.halt.Stop.{Stop}
use Rattle.vhost_joined.specs.declared.halt.Stop.TheVariants.{Table, Premise}
use Rattle.vhost_joined.specs.declared.sides.Exchanged.{Exchanged}
use Rattle.vhost_joined.specs.declared.sides.Sides.{Sides}
use Rattle.vhost_frontend_core.specs.Values.{answer_of}
use Rattle.vhost_joined.specs.Device.{Gives, opens_backend, opens_gpu}
use Rattle.vhost_frontend_core.specs.ValueHalves.{IsProper, TakesResult}
use Rattle.vhost_frontend_core.specs.Halves.{makes_room}
use Rattle.vhost_joined.specs.Joined.{View, Cuts, ends, is_over}
use Rattle.vhost_joined.specs.OnWay.{incoming, outgoing, Carries}
use Rattle.vhost_joined.specs.Text.{Text, text_of, no_text}
use Rattle.vhost_joined.specs.Wire.{text_in}

-- Both sides by their parts: the endpoints, the sessions, the device, and the messages of the last step.
pub record Parts (Dev : Type 0) : Type 0 where
  pub asking : State Ends PlainHandle
  pub serving : State Ends PlainHandle
  pub frontend : Frontend
  pub awaited : Awaited
  pub session : Session
  pub device : Dev
  pub request : Text
  pub reply : Text

-- of both sides
abbrev pub parts_of : {Dev : Type 0} → Sides Dev → Parts Dev
parts_of s = record {
  asking = frontend.endpoint_of s.frontend;
  serving = core.endpoint_of s.handler;
  frontend = frontend.session_of s.frontend;
  awaited = frontend.awaits s.frontend;
  session = core.session_in s.handler;
  device = s.device;
  request = text_in s.request;
  reply = text_in s.reply;
}

-- of a run that begins: new sessions over new links with these scripts
abbrev pub fresh_parts : {Dev : Type 0} → Dev → ℕ → ℕ → List Cut → List Cut → Parts Dev
fresh_parts device queues budget asking serving = record {
  asking = fresh (empty asking) budget;
  serving = fresh (empty serving) budget;
  frontend = new_frontend queues;
  awaited = Nobody;
  session = new_session;
  device = device;
  request = no_text;
  reply = no_text;
}

-- what a caller of a joined run sees of a link
abbrev pub cuts_of : Ends → Cuts
cuts_of l = record { script = l.script; wants = l.wants }

-- whether both endpoints have their lists of handles
abbrev pub has_lists : {Dev : Type 0} → Parts Dev → Bool
has_lists p = p.asking.list && p.serving.list

-- what it sees of both sides
abbrev pub as_view : {Dev : Type 0} → Parts Dev → Option Stop → View Dev
as_view p stopped = record {
  frontend = p.frontend;
  awaited = p.awaited;
  session = p.session;
  device = p.device;
  to_handler = incoming p.serving ++ outgoing p.asking;
  to_frontend = incoming p.asking ++ outgoing p.serving;
  asking = cuts_of p.asking.link;
  serving = cuts_of p.serving.link;
  budget = p.asking.budget;
  lists = has_lists p;
  request = p.request;
  reply = p.reply;
  stopped = stopped;
}

-- Between two steps: no endpoint is broken, the frontend's met no fault, no session failed, nothing is awaited, and all that was sent was carried away.
pub record IsSound {Dev : Type 0} (p : Parts Dev) : Type 0 where
  pub asks : p.asking.broken ≡ None
  pub serves : p.serving.broken ≡ None
  pub sound : p.asking.faulted ≡ false
  pub budget : p.serving.budget ≡ p.asking.budget
  pub failed : p.session.failed ≡ None
  pub nobody : p.awaited ≡ Nobody
  pub no_request : outgoing p.asking ≡ []
  pub no_reply : outgoing p.serving ≡ []

-- both endpoints have them
abbrev pub HaveLists : {Dev : Type 0} → Parts Dev → Type 0
HaveLists p = (p.asking.list ≡ true) × (p.serving.list ≡ true)

-- why a run stops: one of the endpoints met a fault, or there was no memory; or the run is over
abbrev pub stop_of : (faulted : Bool) → Frontend → Session → (is_end : Bool) → Result ⊤ declared.Error → (reply : List ℕ) → Option Stop
stop_of true f s is_end served reply = Some Premise
stop_of false f s is_end (Err OutOfMemory) reply = Some Premise
stop_of false f s is_end served reply = if is_over f s is_end (seen_result served) reply then Some Table else None

-- ---- one exchange

-- A call ends whose request was not sent.
pub record EndsUnsent {Dev : Type 0} (e : declared.Error) (old : Parts Dev) (x : Exchanged) (new : Parts Dev) : Type 0 where
  pub answer : answer_of x.answer ≡ Err (seen e)
  pub same : new ≡ record old { request = new.request; reply = no_text }
  pub request : length (outgoing old.asking) ≤ MAX_MSG_TEXT → new.request ≡ text_of (outgoing old.asking)
  pub stopped : old.asking.faulted ≡ true → x.stop ≡ Some Premise
  pub goes_on : old.asking.faulted ≡ false → x.stop ≡ None

-- The half that asks was done, and nothing else.
pub record IsAskedBy {Dev : Type 0} (call : FrontendCall PlainHandle) (old : Parts Dev) (result : Result Sent declared.Error) (asked : Parts Dev) : Type 0 where
  pub asks : AsksWithRoom event (ask old.frontend call) old.asking old.frontend old.awaited result asked.asking asked.frontend asked.awaited
  pub same : asked ≡ record old { asking = asked.asking; frontend = asked.frontend; awaited = asked.awaited }

module _ {Dev : Type 0} (gives : Gives Dev) where
  -- What the frontend sent is carried to the handler, which serves it.
  pub record Reached (old : Parts Dev) (result : Result ⊤ declared.Error) (asking_then serving_after : State Ends PlainHandle) (reply : Text) (session : Session) (device : Dev) : Type 0 where
    -- the handler's endpoint once the request was carried
    pub serving_then : State Ends PlainHandle
    pub there : Carries old.asking old.serving asking_then serving_then
    pub handled : old.session.failed ≡ None → HandlesOne event gives opens_backend opens_gpu serving_then old.session old.device result serving_after session device
    pub copied : length (outgoing serving_after) ≤ MAX_MSG_TEXT → reply ≡ text_of (outgoing serving_after)

  -- What the frontend sent was served, and what the handler sent is carried back.
  pub record HandedOver (old : Parts Dev) (result : Result ⊤ declared.Error) (new : Parts Dev) : Type 0 where
    -- the endpoints once the request was carried, and the handler's once it was served
    pub asking_then : State Ends PlainHandle
    pub serving_after : State Ends PlainHandle
    pub reached : Reached old result asking_then serving_after new.reply new.session new.device
    pub back : Carries serving_after asking_then new.serving new.asking
    pub same : new ≡ record old { asking = new.asking; serving = new.serving; session = new.session; device = new.device; reply = new.reply }

  -- The same; or the request found no room where the handler had more to receive, or the reply where the frontend had.
  pub data HandsOver (old : Parts Dev) : Option (Result ⊤ declared.Error) → Parts Dev → Type 0 where
    handed : {result : Result ⊤ declared.Error} {new : Parts Dev} → HandedOver old result new → HandsOver old (Some result) new
    no_room_there : {new : Parts Dev} → (old.serving.link.pending ≡ [] → ⊥) → new ≡ record old { reply = no_text } → HandsOver old None new
    no_room_back : {new : Parts Dev} (result : Result ⊤ declared.Error) → Reached old result new.asking new.serving new.reply new.session new.device → (new.asking.link.pending ≡ [] → ⊥)
        → new ≡ record old { asking = new.asking; serving = new.serving; session = new.session; device = new.device; reply = new.reply } → HandsOver old None new

module _ {Dev : Type 0} (gives : Gives Dev) (call : FrontendCall PlainHandle) where
  -- A request that was sent is carried to the handler, which serves it; what the handler wrote is carried back, and the frontend takes its answer.
  pub record Served (sent : Sent) (old : Parts Dev) (answer : Result (Value PlainHandle) Error) (stop : Option Stop) (new : Parts Dev) : Type 0 where
    -- the frontend's endpoint once the request was carried, and once the reply was; the handler's once it was served
    pub asking_then : State Ends PlainHandle
    pub result : Result ⊤ declared.Error
    pub serving_after : State Ends PlainHandle
    pub reached : Reached gives old result asking_then serving_after new.reply new.session new.device
    pub asking_after : State Ends PlainHandle
    pub back : Carries serving_after asking_then new.serving asking_after
    pub takes : TakesResult call sent.awaited (fields_of sent.request) asking_after old.frontend answer new.asking new.frontend
    pub quiet : new.awaited ≡ Nobody
    pub request : length (outgoing old.asking) ≤ MAX_MSG_TEXT → new.request ≡ text_of (outgoing old.asking)
    pub stops : stop ≡ stop_of (new.asking.faulted || new.serving.faulted) new.frontend new.session (ends call) result new.reply.bytes

  -- There was no room on the way: where the handler had more to receive, or the frontend.
  pub record FoundNoRoom (old : Parts Dev) (given : Result (Value PlainHandle) Error) (stop : Option Stop) (new : Parts Dev) : Type 0 where
    pub answer : given ≡ Err protocol.OutOfMemory
    pub stops : stop ≡ Some Premise
    pub request : length (outgoing old.asking) ≤ MAX_MSG_TEXT → new.request ≡ text_of (outgoing old.asking)
    pub place : ((old.serving.link.pending ≡ [] → ⊥) × (new ≡ record old { request = new.request; reply = no_text }))
        ⊎ ((result : Result ⊤ declared.Error) × Reached gives old result new.asking new.serving new.reply new.session new.device × (new.asking.link.pending ≡ [] → ⊥)
        × (new ≡ record old { asking = new.asking; serving = new.serving; session = new.session; device = new.device; request = new.request; reply = new.reply }))

  -- one of the two
  pub data Serves (sent : Sent) (old : Parts Dev) : Exchanged → Parts Dev → Type 0 where
    served : {x : Exchanged} {new : Parts Dev} → Served sent old (answer_of x.answer) x.stop new → Serves sent old x new
    no_way : {x : Exchanged} {new : Parts Dev} → FoundNoRoom old (answer_of x.answer) x.stop new → Serves sent old x new

  -- one call: it was answered at once; or it was not sent; or it was sent and served; or there was no room for its answer, and nothing changed
  pub data Exchanges (old : Parts Dev) : Result Exchanged Halt → Parts Dev → Type 0 where
    at_once : {x : Exchanged} {new : Parts Dev} (flags : ℕ) → call ≡ SetHdrFlags flags → answer_of x.answer ≡ Ok Nothing → x.stop ≡ None
        → new ≡ record old { frontend = record old.frontend { header_flags = flags }; request = no_text; reply = no_text } → Exchanges old (Ok x) new
    unsent : {x : Exchanged} {new : Parts Dev} (e : declared.Error) (asked : Parts Dev) → (e ≡ OutOfMemory → ⊥) → IsAskedBy call old (Err e) asked → EndsUnsent e asked x new → Exchanges old (Ok x) new
    sent_out : {x : Exchanged} {new : Parts Dev} (sent : Sent) (asked : Parts Dev) → IsProper call → IsAskedBy call old (Ok sent) asked → Serves sent asked x new → Exchanges old (Ok x) new
    no_room : {new : Parts Dev} → makes_room old.frontend call ≡ true → new ≡ old → Exchanges old (Err halt.OutOfMemory) new
