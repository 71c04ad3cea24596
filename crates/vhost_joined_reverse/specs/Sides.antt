-- Both sides of a joined run of the reverse channel, as contracts see them, and one exchange between them.
use Rattle.std.specs.Prelude.{◌≡◌, ℕ, ◌≤◌, List, [], ◌++◌, length, Option, Some, None, Bool, true, false, ◌||◌, Result, Ok, Err}
use Rattle.vhost_message.specs.declared.error.Error as declared
use Rattle.vhost_message.specs.declared.io_error.IoError as io
use Rattle.vhost_message.specs.declared.limits.TheConstants.{MAX_MSG_TEXT}
use Rattle.vhost_protocol.specs.JoinedReverse as input
use Rattle.vhost_protocol.specs.JoinedReverse.{ReverseInput, ReverseInStep}
use Rattle.vhost_protocol.specs.Reverse.{Server}
use Rattle.vhost_protocol.specs.Stream.{Cell}
use Rattle.vhost_link.specs.declared.plain.PlainHandle.{PlainHandle}
use Rattle.vhost_link.specs.declared.cut.Cut.{Cut}
use Rattle.vhost_link.specs.Ends.{Ends, empty}
use Rattle.vhost_link.specs.Mem.{event}
use Rattle.vhost_connection.specs.State.{fresh}
use Rattle.vhost_connection.specs.Talk.{State}
use Rattle.vhost_backend_req.specs.Channel.{Channel, channel, backend_of, opened}
use Rattle.vhost_backend_req.specs.Halves.{Head, AsksValue, TakesHalf, IsProper}
use Rattle.vhost_backend_req.specs.declared.call.Asked.{Asked}
use Rattle.vhost_backend_req.specs.declared.call.Asked.TheVariants.{Set, Sent}
use Rattle.vhost_frontend_req_handler.specs.Core.{endpoint_of, server_in}
use Rattle.vhost_frontend_req_handler.specs.Handling.{HandlesOne}
use Rattle.vhost_joined.specs.declared.halt.Stop.{Stop}
use Rattle.vhost_joined.specs.declared.halt.Stop.TheVariants.{Table, Premise}
use Rattle.vhost_joined.specs.OnWay.{incoming, outgoing, Carries}
use Rattle.vhost_joined.specs.Sides.{cuts_of}
use Rattle.vhost_joined.specs.Text.{Text, text_of, no_text}
use Rattle.vhost_joined.specs.Wire.{text_in}
use Rattle.vhost_joined_reverse.specs.declared.sides.Exchanged.{Exchanged}
use Rattle.vhost_joined_reverse.specs.declared.sides.Sides.{Sides}
use Rattle.vhost_joined_reverse.specs.Joined.{Gives, View}

-- Both sides by their parts: the channel by which one asks, the endpoint of the other and what it remembers, the device, and the messages of the last step.
pub record Parts (Dev : Type 0) : Type 0 where
  pub channel : Channel Ends PlainHandle
  pub serving : State Ends PlainHandle
  pub server : Server
  pub device : Dev
  pub request : Text
  pub reply : Text

-- of both sides
abbrev pub parts_of : {Dev : Type 0} → Sides Dev → Parts Dev
parts_of s = record {
  channel = channel s.backend;
  serving = endpoint_of s.server;
  server = server_in s.server;
  device = s.device;
  request = text_in s.request;
  reply = text_in s.reply;
}

-- of a run that begins: nothing agreed on, over new links with these scripts
abbrev pub fresh_parts : {Dev : Type 0} → Dev → ℕ → List Cut → List Cut → Parts Dev
fresh_parts device budget asking serving = record {
  channel = opened (empty asking) budget;
  serving = fresh (empty serving) budget;
  server = record { reply_ack = false; failed = None };
  device = device;
  request = no_text;
  reply = no_text;
}

-- what is on its way to the serving side, and back
abbrev pub to_server : {Dev : Type 0} → Parts Dev → List (Cell PlainHandle)
to_server p = outgoing p.channel.endpoint ++ incoming p.serving

abbrev pub to_backend : {Dev : Type 0} → Parts Dev → List (Cell PlainHandle)
to_backend p = outgoing p.serving ++ incoming p.channel.endpoint

-- what a caller of a joined run sees of both sides
abbrev pub as_view : {Dev : Type 0} → Parts Dev → Option Stop → View Dev
as_view p stopped = record {
  backend = backend_of p.channel;
  server = p.server;
  device = p.device;
  to_server = to_server p;
  to_backend = to_backend p;
  asking = cuts_of p.channel.endpoint.link;
  serving = cuts_of p.serving.link;
  budget = p.channel.endpoint.budget;
  request = p.request;
  reply = p.reply;
  stopped = stopped;
}

-- Between two steps: no endpoint is broken, the asking side's met no fault, and both sides are in step.
pub record IsSound {Dev : Type 0} (p : Parts Dev) : Type 0 where
  pub asks : p.channel.endpoint.broken ≡ None
  pub serves : p.serving.broken ≡ None
  pub sound : p.channel.endpoint.faulted ≡ false
  pub budget : p.serving.budget ≡ p.channel.endpoint.budget
  pub in_step : ReverseInStep (backend_of p.channel) p.server (to_server p) (to_backend p)

-- both endpoints have their lists of handles
abbrev pub HaveLists : {Dev : Type 0} → Parts Dev → Type 0
HaveLists p = (p.channel.endpoint.list ≡ true) × (p.serving.list ≡ true)

-- why a run stops: one of the endpoints met a fault; or the serving side erred in silence
abbrev pub stop_of : (faulted : Bool) → Result ℕ declared.Error → List ℕ → Option Stop
stop_of true served reply = Some Premise
stop_of false (Err e) [] = Some Table
stop_of _ _ _ = None

-- what the serving side remembers once a flag was set: the flag for acknowledgements is its own, too
abbrev pub acknowledging : ReverseInput PlainHandle → Server → Server
acknowledging (input.SetReplyAck on) s = record s { reply_ack = on }
acknowledging _ s = s

-- ---- one exchange

-- A call ends whose request was not sent.
pub record EndsUnsent {Dev : Type 0} (e : io.IoError) (old : Parts Dev) (x : Exchanged) (new : Parts Dev) : Type 0 where
  pub answer : x.answer ≡ Err e
  pub same : new ≡ record old { request = new.request; reply = no_text }
  pub request : length (outgoing old.channel.endpoint) ≤ MAX_MSG_TEXT → new.request ≡ text_of (outgoing old.channel.endpoint)
  pub stopped : old.channel.endpoint.faulted ≡ true → x.stop ≡ Some Premise
  pub goes_on : old.channel.endpoint.faulted ≡ false → x.stop ≡ None

-- A flag was set.
pub record EndsSet {Dev : Type 0} (flag : ReverseInput PlainHandle) (old : Parts Dev) (x : Exchanged) (new : Parts Dev) : Type 0 where
  pub answer : (x.answer ≡ Ok 0) × (x.stop ≡ None)
  pub same : new ≡ record old { server = acknowledging flag old.server; request = no_text; reply = no_text }

module _ {Dev : Type 0} (gives : Gives Dev) where
  -- What one side sent is carried to the other, which serves it, and what that one sent is carried back.
  pub record HandedOver (old : Parts Dev) (result : Result ℕ declared.Error) (new : Parts Dev) : Type 0 where
    -- the endpoints once the request was carried, and the serving side's once it was served
    pub asking_then : State Ends PlainHandle
    pub serving_then : State Ends PlainHandle
    pub there : Carries old.channel.endpoint old.serving asking_then serving_then
    pub serving_after : State Ends PlainHandle
    pub handled : old.server.failed ≡ None → HandlesOne event gives serving_then old.server old.device result serving_after new.server new.device
    pub back : Carries serving_after asking_then new.serving new.channel.endpoint
    pub reply : length (outgoing serving_after) ≤ MAX_MSG_TEXT → new.reply ≡ text_of (outgoing serving_after)
    pub channel : new.channel ≡ record old.channel { endpoint = new.channel.endpoint }
    pub request : new.request ≡ old.request

  -- The same; or the request found no room where the serving side had more to receive, or the reply where the asking side had.
  pub data HandsOver (old : Parts Dev) : Option (Result ℕ declared.Error) → Parts Dev → Type 0 where
    handed : {result : Result ℕ declared.Error} {new : Parts Dev} → HandedOver old result new → HandsOver old (Some result) new
    no_room_there : {new : Parts Dev} → (old.serving.link.pending ≡ [] → ⊥) → HandsOver old None new
    no_room_back : {new : Parts Dev} (asking_then serving_then : State Ends PlainHandle) → Carries old.channel.endpoint old.serving asking_then serving_then
        → (asking_then.link.pending ≡ [] → ⊥) → HandsOver old None new

  -- A request that was sent is carried to the serving side, which serves it; what that side wrote is carried back, and the answer is taken.
  pub record Served (sent : Option Head) (old : Parts Dev) (x : Exchanged) (new : Parts Dev) : Type 0 where
    pub copy : Text
    pub request : length (outgoing old.channel.endpoint) ≤ MAX_MSG_TEXT → copy ≡ text_of (outgoing old.channel.endpoint)
    pub result : Result ℕ declared.Error
    pub mid : Parts Dev
    pub hands : HandedOver (record old { request = copy }) result mid
    pub takes : TakesHalf event sent mid.channel.endpoint x.answer new.channel.endpoint
    pub channel : new.channel ≡ record mid.channel { endpoint = new.channel.endpoint }
    pub same : new ≡ record mid { channel = new.channel }
    pub stops : x.stop ≡ stop_of (new.channel.endpoint.faulted || new.serving.faulted) result new.reply.bytes

  -- The same; or the request found no room where the serving side had more to receive, or the reply where the asking side had.
  pub data Serves (sent : Option Head) (old : Parts Dev) (x : Exchanged) (new : Parts Dev) : Type 0 where
    served : Served sent old x new → Serves sent old x new
    no_way : (copy : Text) (mid : Parts Dev) → HandsOver (record old { request = copy }) None mid → Serves sent old x new

  -- one call, by what became of its half that asks
  abbrev pub EndsAs : ReverseInput PlainHandle → Result Asked io.IoError → Parts Dev → Exchanged → Parts Dev → Type 0
  EndsAs i (Ok Set) old x new = EndsSet i old x new
  EndsAs i (Ok (Sent sent)) old x new = Serves sent old x new
  EndsAs i (Err e) old x new = EndsUnsent e old x new

  -- one call
  pub record Exchanges (i : ReverseInput PlainHandle) (old : Parts Dev) (x : Exchanged) (new : Parts Dev) : Type 0 where
    pub proper : IsProper i
    pub asked : Result Asked io.IoError
    pub channel : Channel Ends PlainHandle
    pub asks : AsksValue event i old.channel asked channel
    pub ends : EndsAs i asked (record old { channel = channel }) x new
