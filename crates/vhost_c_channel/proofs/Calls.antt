-- What became of a call of a device's session, and of its reply.
use Rattle.std.proofs.Common.{◌≡◌, ℕ, ◌<◌, ◌≤◌, arith, Bool, true, false, List, [], ◌++◌, append_assoc, Option, Some, None, Result, Ok, Err, refl, sym, ap, subst, ◌∙◌}
use Rattle.std.proofs.lemmas.List.{append-nil}
use Rattle.std.specs.Prelude.{⊤, if◌then◌else◌, is_some}
use Rattle.vhost_message.specs.BackendReq.{backend_request_number}
use Rattle.vhost_message.specs.MsgHeader.{fields_of}
use Rattle.vhost_message.specs.declared.backend_req.BackendReq.{BackendReq}
use Rattle.vhost_message.specs.declared.error.Error as declared
use Rattle.vhost_message.specs.declared.error.Error.TheVariants.{InactiveOperation, InvalidMessage, OutOfMemory}
use Rattle.vhost_message.specs.declared.io_error.IoError as io
use Rattle.vhost_protocol.specs.IoError.{seen_io, seen_io_result}
use Rattle.vhost_protocol.specs.JoinedReverse as input
use Rattle.vhost_protocol.specs.JoinedReverse.{ReverseInput}
use Rattle.vhost_protocol.specs.Reverse.{ReverseCall, ReverseAsked, Backend, Sends, Refuses, reverse_ask, reverse_take}
use Rattle.vhost_protocol.specs.Stream.{Cell, has_some}
use Rattle.vhost_protocol.specs.Written.{Written, written_cells, head_of}
use Rattle.vhost_link.specs.Ends.{Ends}
use Rattle.vhost_link.specs.Mem.{event}
use Rattle.vhost_link.specs.declared.plain.PlainHandle.{PlainHandle}
use Rattle.vhost_connection.specs.Memory.{stream, TalksLaw}
use Rattle.vhost_connection.specs.Talk.{State}
use Rattle.vhost_backend_req.specs.Asking as asking
use Rattle.vhost_backend_req.specs.Asking.{RecvsNumber}
use Rattle.vhost_backend_req.specs.Channel as link
use Rattle.vhost_backend_req.specs.Channel.{channel, backend_of}
use Rattle.vhost_backend_req.specs.Halves.{AsksHalf, AsksHalfFor, AsksValue, goes, refuses, fails}
use Rattle.vhost_backend_req.specs.declared.call.Asked.TheVariants.{Sent}
use Rattle.vhost_connection.specs.Hearing.{Fails}
use Rattle.vhost_c_common.proofs.Hearing.{none-handed, hears-cut}
use Rattle.vhost_c_common.proofs.OnWay.{empty-parts, sound-since}
use Rattle.vhost_c_common.proofs.Wants.{sound}
use Rattle.vhost_c_common.specs.View.{End, StaysSound, bare, unsent}
use Rattle.vhost_c_common.specs.declared.outgoing.Outgoing.{Outgoing}
use Rattle.vhost_c_common.specs.declared.refusal.Refusal.{Refusal}
use Rattle.vhost_c_common.specs.declared.refusal.Refusal.TheVariants.{Protocol}
use Rattle.vhost_c_channel.specs.Asking as session
use Rattle.vhost_c_channel.specs.Asking.{Head, Asks, Asking, AskingNow, Refused, Unasked, Stays, Keeps, Hears, Takes, error_in, lacks, endpoint_of, queued, arrived, remembers}
use Rattle.vhost_c_channel.specs.declared.asking.Channel.{Channel}

-- ---- a request that went out

kept : (w : Written BackendReq PlainHandle) (awaited : Bool) (head : Head) → fields_of head ≡ head_of backend_request_number w → Keeps w awaited (Some (if awaited then Some head else None))
kept w true head is = (head, refl, is)
kept w false head is = refl

-- it is behind what was sent before, and what came is as before
record Went (asked : ReverseAsked PlainHandle) (head : Option Head) (old new : State Ends PlainHandle) : Type 0 where
  w : Written BackendReq PlainHandle
  awaited : Bool
  is : asked ≡ Sends w awaited
  keeps : Keeps w awaited (Some head)
  text : new.link.sent ≡ old.link.sent ++ written_cells backend_request_number w
  came : stream new ≡ stream old
  sound : StaysSound old new

went : TalksLaw → (asked : ReverseAsked PlainHandle) (head : Option Head) (old new : State Ends PlainHandle) → AsksHalf event asked old (Ok head) new → Went asked head old new
went law asked _ old new (goes {w = w} {awaited = awaited} head is out) = let t = law old new _ out.serves.talks in record {
  w = w;
  awaited = awaited;
  is = is;
  keeps = kept w awaited head out.header;
  text = t.1;
  came = none-handed (stream old) (stream new) t.0;
  sound = sound old new out.serves;
}

pub asks : TalksLaw → (i : ReverseInput PlainHandle) (k : ReverseCall PlainHandle) → i ≡ input.Asks k → (old new : Channel) (head : Option Head) → AsksValue event i (channel old.channel) (Ok (Sent head)) (channel new.channel)
    → new.outgoing ≡ old.outgoing → new.asked ≡ Some head → new.incoming.count ≡ 0 → arrived old ≡ [] → new.held ≡ old.held → Asks k old new
asks law i k is old new head asked outgoing kept count none held =
    let half : AsksHalfFor event (reverse_ask (remembers old) k) (channel old.channel) (Ok head) (channel new.channel) = subst (λ (j : ReverseInput PlainHandle). AsksValue event j (channel old.channel) (Ok (Sent head)) (channel new.channel)) is asked in
    let x = went law (reverse_ask (remembers old) k) head (endpoint_of old) (endpoint_of new) half.0 in
    record {
      w = x.w;
      awaited = x.awaited;
      is = x.is;
      queue = ap {A = Outgoing} (λ q. q.link.pending ++ (endpoint_of new).link.sent) outgoing ∙ ap (λ xs. old.outgoing.link.pending ++ xs) x.text ∙ sym (append_assoc old.outgoing.link.pending (endpoint_of old).link.sent (written_cells backend_request_number x.w));
      keeps = subst (λ (o : Option (Option Head)). Keeps x.w x.awaited o) (sym kept) x.keeps;
      memory = ap {A = link.Channel Ends PlainHandle} backend_of half.1;
      nothing_came = count;
      nothing_waits = x.came ∙ none;
      held = held;
      sound = x.sound;
    }

-- ---- a call that was not asked

-- an end for which nothing came or is to be sent
pub is-bare : (e : End) → e.link.sent ≡ [] → stream e ≡ [] → e ≡ bare e
is-bare e sent came =
    let none = empty-parts e.ahead e.link.pending came in
    λ i. record e { link = record e.link { pending = none.1 i; sent = sent i }; ahead = none.0 i }

why : (k : ReverseCall PlainHandle) (old new : Channel) (start after : End) → start ≡ bare (endpoint_of old) → endpoint_of new ≡ unsent after → (e : io.IoError) → AsksHalf event (reverse_ask (remembers old) k) start (Err e) after
    → Unasked k old new (Protocol (error_in e (InactiveOperation (lacks (input.Asks k)))))
why k old new start _ plain left e (refuses is) = session.refuses e is (left ∙ ap unsent plain)
why k old new start after plain left e (fails {e = d} is f) = session.fails after is (subst (λ (x : End). Fails event x false d after) plain f) left

module _ (i : ReverseInput PlainHandle) (k : ReverseCall PlainHandle) (is : i ≡ input.Asks k) (old : Channel) (e : io.IoError) (mid : link.Channel Ends PlainHandle) (asked : AsksValue event i (channel old.channel) (Err e) mid) where
  half : AsksHalfFor event (reverse_ask (remembers old) k) (channel old.channel) (Err e) mid
  half = subst (λ (j : ReverseInput PlainHandle). AsksValue event j (channel old.channel) (Err e) mid) is asked

  pub refused : (new : Channel) (d : declared.Error) → d ≡ error_in e (InactiveOperation (lacks i)) → endpoint_of old ≡ bare (endpoint_of old) → endpoint_of new ≡ unsent mid.endpoint → Unasked k old new (Protocol d)
  refused new d told plain left =
      subst {A = declared.Error} (λ x. Unasked k old new (Protocol x)) (sym (told ∙ ap (λ (j : ReverseInput PlainHandle). error_in e (InactiveOperation (lacks j))) is))
      (why k old new (endpoint_of old) mid.endpoint plain left e half.0)

  pub forgot-nothing : backend_of mid ≡ remembers old
  forgot-nothing = ap {A = link.Channel Ends PlainHandle} backend_of half.1

pub no-memory : (k : ReverseCall PlainHandle) (old new : Channel) (d : declared.Error) → d ≡ OutOfMemory → has_some old.outgoing.link.pending ≡ true → endpoint_of new ≡ endpoint_of old → Refused k old new (Protocol d)
no-memory k old new d is some same = subst {A = declared.Error} (λ x. Refused k old new (Protocol x)) (sym is) (session.no_memory some same)

-- ---- what was asked in between was asked of the session before, where nothing but its places changed

module _ (k : ReverseCall PlainHandle) (old mid new : Channel) (queue : queued mid ≡ queued old) (memory : remembers mid ≡ remembers old) (asked : mid.asked ≡ old.asked) (incoming : mid.incoming ≡ old.incoming) (held : mid.held ≡ old.held)
    (end : endpoint_of mid ≡ bare (endpoint_of old)) where
  unasked-since : (r : Refusal) → Unasked k mid new r → Unasked k old new r
  unasked-since _ (session.refuses e is left) = session.refuses e (subst {A = Backend} (λ b. reverse_ask b k ≡ Refuses (seen_io e)) memory is) (left ∙ ap bare end)
  unasked-since _ (session.fails {w = w} {awaited = awaited} {e = e} after is f left) =
      session.fails after (subst {A = Backend} (λ b. reverse_ask b k ≡ Sends w awaited) memory is) (subst (λ (x : End). Fails event x false e after) (ap bare end) f) left

  pub asking-since : is_some old.asked ≡ false → (outcome : Result ⊤ Refusal) → AskingNow k mid outcome new → Asking k old outcome new
  asking-since free (Ok done) a = record {
    w = a.w;
    awaited = a.awaited;
    is = subst {A = Backend} (λ b. reverse_ask b k ≡ Sends a.w a.awaited) memory a.is;
    queue = a.queue ∙ ap (λ xs. xs ++ written_cells backend_request_number a.w) queue;
    keeps = a.keeps;
    memory = a.memory ∙ memory;
    nothing_came = a.nothing_came;
    nothing_waits = a.nothing_waits;
    held = a.held ∙ held;
    sound = sound-since (ap (λ (e : End). e.broken) end) (ap (λ (e : End). e.link.script) end) a.sound;
  }
  asking-since free (Err r) (why, stays) = (session.unasked (unasked-since r why), record { queue = stays.queue ∙ queue; memory = stays.memory ∙ memory; asked = stays.asked ∙ asked; incoming = stays.incoming ∙ incoming; held = stays.held ∙ held; came = λ waits. absurd (cc (sym waits ∙ free)) })

-- what is to be sent is the same once it was collected
pub collected : (before taken pending now : List (Cell PlainHandle)) → pending ≡ before ++ taken → now ≡ [] → pending ++ now ≡ before ++ taken
collected before taken pending now is gone = ap (λ xs. pending ++ xs) gone ∙ append-nil pending ∙ is

-- ---- replies

-- what was received is what the definitions make of what came
pub received : TalksLaw → (head : Head) (old new : Channel) (result : Result ℕ io.IoError) → RecvsNumber event (fields_of head) (endpoint_of old) result (endpoint_of new) → new.outgoing ≡ old.outgoing → Hears head old new result
received law head old new result (asking.heard h listed) outgoing =
    let cut = hears-cut law (reverse_take true (fields_of head)) (endpoint_of old) (endpoint_of new) (seen_io_result result) h.hears in
    session.heard cut.0 (ap {A = Outgoing} (λ q. q.link.pending ++ (endpoint_of new).link.sent) outgoing ∙ ap (λ xs. old.outgoing.link.pending ++ xs) cut.1) (sound (endpoint_of old) (endpoint_of new) h.hears.serves)
received law head old new result (asking.stopped f) outgoing = session.fails f

-- the same by the error that is answered
pub failed : (old new : Channel) (d : declared.Error) (e : io.IoError) → d ≡ error_in e InvalidMessage → Takes old new (session.told (Err e)) → Takes old new (Err (Protocol d))
failed old new d e is t = subst {A = declared.Error} (λ x. Takes old new (Err (Protocol x))) (sym is) t

pub some-missing : (m n : ℕ) → m ≡ n → 0 < m → 0 < n
some-missing m n is some = omega arith

pub none-missing : (m n : ℕ) → m ≡ n → m ≤ 0 → n ≡ 0
none-missing m n is none = omega arith
