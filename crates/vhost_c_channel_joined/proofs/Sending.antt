-- A call is asked, and its request comes over.
use Rattle.std.proofs.Common.{◌≡◌, ℕ, Bool, true, false, cond, List, [], ◌++◌, length, Option, Some, None, Err, refl, sym, ap, subst, ◌∙◌}
use Rattle.std.specs.Prelude.{⊤, is_some, if◌then◌else◌}
use Rattle.std.proofs.lemmas.List.{append-nil}
use Rattle.vhost_message.specs.BackendReq.{backend_request_of, backend_request_number}
use Rattle.vhost_message.specs.declared.backend_req.BackendReq.{BackendReq}
use Rattle.vhost_message.specs.declared.error.Error as declared
use Rattle.vhost_message.specs.declared.error.Error.TheVariants as code
use Rattle.vhost_message.specs.declared.io_error.IoError as io
use Rattle.vhost_message.specs.declared.io_error.IoError.TheVariants as place
use Rattle.vhost_protocol.specs.IoError.{Because, seen_io}
use Rattle.vhost_protocol.specs.JoinedReverse as input
use Rattle.vhost_protocol.specs.JoinedReverse.{ReverseInStep}
use Rattle.vhost_protocol.specs.Reverse.{Backend, ReverseAsked, ReverseCall, HandleConfigChange, SharedObjectAdd, SharedObjectRemove, SharedObjectLookup, ShmemMap, ShmemUnmap, Refuses, Sends, backend_allows_handles, reverse_ask, sends_unless}
use Rattle.vhost_protocol.specs.Split.{announced, split}
use Rattle.vhost_protocol.specs.Stream.{Cell, bytes}
use Rattle.vhost_protocol.specs.Written.{Payload, head_of, payload_text, written_cells, written_text}
use Rattle.vhost_protocol.proofs.TextLaws.{sendable-valid, written-split}
use Rattle.vhost_link.specs.declared.plain.PlainHandle.{PlainHandle}
use Rattle.vhost_link.specs.Mem.{event}
use Rattle.vhost_connection.specs.Hearing.{Fails}
use Rattle.vhost_connection.specs.Memory.{stream}
use Rattle.vhost_c_common.proofs.OnWay.{empty-parts}
use Rattle.vhost_c_common.proofs.Wanting.{is-uncut, wants}
use Rattle.vhost_c_common.proofs.Wants.{failed}
use Rattle.vhost_c_common.specs.Incoming.{missing_by}
use Rattle.vhost_c_common.specs.Memory.{WantsMemory}
use Rattle.vhost_c_common.specs.View.{End, bare}
use Rattle.vhost_c_common.specs.declared.incoming.Incoming.{Incoming}
use Rattle.vhost_c_common.specs.declared.refusal.Refusal.{Refusal}
use Rattle.vhost_c_common.specs.declared.refusal.Refusal.TheVariants.{Protocol}
use Rattle.vhost_c_channel.specs.Asking as asking
use Rattle.vhost_c_channel.specs.Asking.{Asks, Head, Keeps, Refused, busy, no_memory, unasked, Unasked, refuses, fails, Stays, endpoint_of, error_in}
use Rattle.vhost_c_channel_joined.specs.Crossing.{Crosses, Crossing, Declines, is_want}
use Rattle.vhost_c_channel_joined.specs.Joined.{AreInStep, IsMade}
use Rattle.vhost_c_channel.specs.Serving as serving
use Rattle.vhost_c_channel_joined.specs.Wire.{HasCome, IsOnWay, IsOver, IsTold, Stops}
use Rattle.vhost_c_channel.specs.declared.asking.Channel.{Channel}
use Rattle.vhost_c_channel.specs.declared.serving.ChannelServer.{ChannelServer}
use Rattle.vhost_c_channel_joined.specs.declared.wire.Halt.{Halt}
use Rattle.vhost_c_channel_joined.specs.declared.wire.Halt.TheVariants as halt
use Rattle.vhost_c_channel.proofs.Change as change
use Rattle.vhost_c_channel_joined.proofs.Messages.{IsSent, few-written, sent, small-number}
use Rattle.vhost_c_channel_joined.proofs.Missing.{request-told}
use Rattle.vhost_c_channel_joined.proofs.Pieces.{carrying-have}

-- what a device's session keeps while a message goes over
abbrev pub Asker : Type 0
Asker = Backend × Option (Option Head)

abbrev pub Served : Type 0
Served = change.Kept

-- nothing came
pub nothing-came : (cells : List (Cell PlainHandle)) (i : Incoming) → cells ≡ [] → i.count ≡ 0 → HasCome (bytes cells) i
nothing-came cells i none zero = subst (λ xs. HasCome (bytes xs) i) (sym none) (record { count = zero; head = refl })

-- memory was refused
pub want-true : (r : Refusal) → WantsMemory r → is_want r ≡ true
want-true (Protocol code.OutOfMemory) w = refl
want-true (Protocol (code.SocketRetry c)) w = refl
want-true (Protocol _) w = absurd w
want-true _ w = absurd w

module _ (c : ReverseCall PlainHandle) (s s1 : Channel) (t : ChannelServer) (steps : AreInStep s t) (made : IsMade (input.Asks c)) (a : Asks c s s1) where
  pub is-sent : IsSent (asking.remembers s) c a.w a.awaited
  is-sent = sent (asking.remembers s) c made a.w a.awaited a.is

  abbrev pub cells : List (Cell PlainHandle)
  cells = written_cells backend_request_number a.w

  heard : is_some (announced backend_request_of (head_of backend_request_number a.w)) ≡ true
  heard =
      ap (λ b. is_some (if b then backend_request_of (backend_request_number a.w.request) else None)) (sendable-valid a.w.reply a.w.need_reply (backend_request_number a.w.request) (length (payload_text a.w.payload)) is-sent.sendable.size)
      ∙ ap (λ o. is_some o) is-sent.sendable.known

  pub told : IsTold cells (missing_by backend_request_of)
  told = request-told a.w (small-number a.w.request) is-sent.sendable.size backend_request_of heard

  no-queue : asking.queued s ≡ []
  no-queue = (empty-parts (asking.queued s) (serving.arrived t) steps.in_step.no_request).0

  no-request : serving.arrived t ≡ []
  no-request = (empty-parts (asking.queued s) (serving.arrived t) steps.in_step.no_request).1

  no-reply : serving.queued t ≡ []
  no-reply = (empty-parts (serving.queued t) (asking.arrived s) steps.in_step.no_reply).0

  pub on-way : IsOnWay cells (asking.view s1) (serving.view t)
  on-way = record {
    whole = ap (λ xs. xs ++ asking.queued s1) no-request ∙ a.queue ∙ ap (λ xs. xs ++ cells) no-queue;
    few = few-written a.w is-sent.sendable.size;
    descriptors = carrying-have a.w.handles (written_text backend_request_number a.w) is-sent.have;
    has = nothing-came (serving.arrived t) t.incoming no-request steps.nothing_came;
  }

  -- it came over
  module _ (s2 : Channel) (t1 : ChannelServer) (over : IsOver (missing_by backend_request_of) cells (asking.view s1) (serving.view t) (asking.view s2) (serving.view t1)) where
    idle1 : serving.has_call t1 ≡ false
    idle1 = ap (λ (k : Served). is_some k.1) over.moves.waits.rest ∙ steps.idle

    pub crosses : Crosses c s t s2 t1
    crosses = record {
      w = a.w;
      awaited = a.awaited;
      is = a.is;
      asked = record {
        keeps = subst {A = Option (Option Head)} (λ o. Keeps a.w a.awaited o) (sym (ap {A = Asker} (λ k. k.1) over.moves.hands.rest)) a.keeps;
        queue = over.queue;
        came = over.moves.hands.came ∙ a.nothing_waits;
        count = ap (λ (i : Incoming). i.count) over.moves.hands.incoming ∙ a.nothing_came;
        sound = ap {A = End} (λ e. e.broken) over.moves.hands.end ∙ a.sound.after;
        uncut = ap {A = End} (λ e. e.link.script) over.moves.hands.end ∙ a.sound.uncut steps.uncut.0;
      };
      due = record {
        came = ap (split backend_request_of backend_allows_handles) (over.came ∙ sym (append-nil cells)) ∙ written-split backend_request_of backend_allows_handles backend_request_number a.w [] is-sent.sendable;
        whole = ap (λ b. if b then 0 else missing_by backend_request_of t1.incoming) idle1 ∙ over.whole;
        idle = idle1;
        alive = ap (λ (k : Served). k.0.failed) over.moves.waits.rest ∙ steps.in_step.serves;
        queue = over.moves.waits.queue ∙ no-reply;
        sound = ap {A = End} (λ e. e.broken) over.moves.waits.end ∙ steps.sound.1;
        uncut = ap {A = End} (λ e. e.link.script) over.moves.waits.end ∙ steps.uncut.1;
      };
      memory = ap {A = Asker} (λ k. k.0) over.moves.hands.rest ∙ a.memory;
      served = ap (λ (k : Served). k.0) over.moves.waits.rest;
    }

  -- memory was refused for it
  pub stopped : (s2 : Channel) (t1 : ChannelServer) (h : Halt) → Stops (missing_by backend_request_of) cells h → Crossing c s t (Err h) s2 t1
  stopped s2 t1 (halt.WantsMemory why) stops = stops
  stopped s2 t1 halt.Silent stops = absurd (some (written_text backend_request_number a.w) stops.0)
    where
      some : (text : List ℕ) → cells ≡ [] → ⊥
      some text none = cc none

-- ---- it was not asked

-- a refusal of a sound session is that the call was not agreed on
abbrev Inactive : ReverseAsked PlainHandle → Type 0
Inactive (Refuses (Because k)) = ⊤
Inactive (Refuses _) = ⊥
Inactive (Sends w awaited) = ⊤

inactive-unless : (b : Backend) (r : BackendReq) (p : Payload) (hs : List PlainHandle) (failed : Option _) → failed ≡ None → Inactive (sends_unless failed b r p hs)
inactive-unless b r p hs (Some n) is = absurd (cc is)
inactive-unless b r p hs None is = tt

inactive-if : (on : Bool) (k : _) (x : ReverseAsked PlainHandle) → Inactive x → Inactive (cond on x (Refuses (Because k)))
inactive-if true k x h = h
inactive-if false k x h = tt

all-inactive : (b : Backend) (c : ReverseCall PlainHandle) → b.failed ≡ None → Inactive (reverse_ask b c)
all-inactive b HandleConfigChange sound = inactive-if b.config_change _ _ (inactive-unless b _ _ _ b.failed sound)
all-inactive b (SharedObjectAdd name) sound = inactive-if b.shared_object _ _ (inactive-unless b _ _ _ b.failed sound)
all-inactive b (SharedObjectRemove name) sound = inactive-if b.shared_object _ _ (inactive-unless b _ _ _ b.failed sound)
all-inactive b (SharedObjectLookup name h) sound = inactive-if b.shared_object _ _ (inactive-unless b _ _ _ b.failed sound)
all-inactive b (ShmemMap mapping h) sound = inactive-if b.shmem _ _ (inactive-unless b _ _ _ b.failed sound)
all-inactive b (ShmemUnmap mapping) sound = inactive-if b.shmem _ _ (inactive-unless b _ _ _ b.failed sound)

other-error : (e : io.IoError) (other : declared.Error) → Inactive (Refuses (seen_io e)) → error_in e other ≡ other
other-error (place.Raw n) other h = refl
other-error (place.Named name) other h = refl
other-error (place.Of e) other h = absurd h
other-error (place.In name e) other h = absurd h

module _ (c : ReverseCall PlainHandle) (s s1 : Channel) (t : ChannelServer) (steps : AreInStep s t) where
  unwanted : (e : io.IoError) (A : Type 0) → reverse_ask (asking.remembers s) c ≡ Refuses (seen_io e) → is_want (Protocol (error_in e (code.InactiveOperation (asking.lacks (input.Asks c))))) ≡ true → A
  unwanted e A is want =
      let h : Inactive (Refuses (seen_io e)) = subst (λ (x : ReverseAsked PlainHandle). Inactive x) is (all-inactive (asking.remembers s) c steps.in_step.asks) in
      absurd (cc (sym (ap (λ x. is_want (Protocol x)) (other-error e (code.InactiveOperation (asking.lacks (input.Asks c))) h)) ∙ want))

  fails-wants : (after : End) (e : declared.Error) → Fails event (bare (endpoint_of s)) false e after → WantsMemory (Protocol e)
  fails-wants after e f = wants (bare (endpoint_of s)) e steps.sound.0 (failed (bare (endpoint_of s)) after false e f (is-uncut (bare (endpoint_of s)) steps.sound.0 steps.uncut.0)).1

  -- memory was refused
  pub refused-wants : (r : Refusal) → Refused c s s1 r → is_want r ≡ true → WantsMemory r
  refused-wants _ (busy some same) want = absurd (cc (sym (ap is_some steps.unasked) ∙ some))
  refused-wants _ (no_memory some same) want = tt
  refused-wants r (unasked why) want = by r why want
    where
      by : (r : Refusal) → Unasked c s s1 r → is_want r ≡ true → WantsMemory r
      by _ (refuses e is same) want = unwanted e _ is want
      by _ (fails {e = e} after is f same) want = fails-wants after e f

  -- it was not agreed on
  pub declined : (r : Refusal) → Refused c s s1 r → Stays s s1 → is_want r ≡ false → Declines c s t r s1 t
  declined _ (busy some same) stays free = absurd (cc (sym (ap is_some steps.unasked) ∙ some))
  declined _ (no_memory some same) stays free = absurd (cc free)
  declined r (unasked why) stays free = by r why free
    where
      after : endpoint_of s1 ≡ bare (endpoint_of s) → AreInStep s1 t
      after same = record {
        in_step = record {
          agree = ap {A = Backend} (λ b. b.reply_ack) stays.memory ∙ steps.in_step.agree;
          asks = ap {A = Backend} (λ b. b.failed) stays.memory ∙ steps.in_step.asks;
          serves = steps.in_step.serves;
          no_request = ap (λ xs. xs ++ serving.arrived t) stays.queue ∙ steps.in_step.no_request;
          no_reply = ap (λ xs. xs ++ asking.arrived s1) (empty-parts (serving.queued t) (asking.arrived s) steps.in_step.no_reply).0 ∙ ap {A = End} stream same;
        };
        unasked = stays.asked ∙ steps.unasked;
        idle = steps.idle;
        nothing_came = steps.nothing_came;
        sound = (ap {A = End} (λ e. e.broken) same ∙ steps.sound.0, steps.sound.1);
        uncut = (ap {A = End} (λ e. e.link.script) same ∙ steps.uncut.0, steps.uncut.1);
      }

      by : (r : Refusal) → Unasked c s s1 r → is_want r ≡ false → Declines c s t r s1 t
      by _ (refuses e is same) free = record { error = e; is = is; told = refl; memory = stays.memory; served = refl; in_step = after same }
      by _ (fails {e = e} end is f same) free = absurd (cc (sym (want-true (Protocol e) (fails-wants end e f)) ∙ free))
