-- What became of a call of a session with a display, and of its reply.
use Rattle.std.proofs.Common.{◌≡◌, ℕ, ◌<◌, arith, true, false, List, [], ◌∷◌, ◌++◌, length, append_assoc, Option, Some, None, Result, Ok, Err, refl, sym, ap, subst, ◌∙◌}
use Rattle.std.specs.Prelude.{⊤, is_some}
use Rattle.std.proofs.lemmas.List.{map-append}
use Rattle.vhost_message.specs.Header.{Header, header_text}
use Rattle.vhost_message.specs.declared.error.Error as declared
use Rattle.vhost_message.specs.declared.error.Error.TheVariants.{OutOfMemory}
use Rattle.vhost_message.specs.declared.io_error.IoError as io
use Rattle.vhost_protocol.specs.Gpu.{GpuCall, GpuReply, GpuSent, TheFeatures, TheDisplayInfo, TheEdid, TheEmpty, gpu_row, gpu_head, gpu_cells, gpu_record_size, gpu_take}
use Rattle.vhost_protocol.specs.IoError.{IoError, seen_io_result}
use Rattle.vhost_protocol.specs.Stream.{cell, carrying, has_some, plain}
use Rattle.vhost_link.specs.Ends.{Ends}
use Rattle.vhost_link.specs.Mem.{event}
use Rattle.vhost_link.specs.declared.plain.PlainHandle.{PlainHandle}
use Rattle.vhost_connection.specs.Memory.{stream, TalksLaw}
use Rattle.vhost_connection.specs.Talk.{State}
use Rattle.vhost_gpu_backend_req.specs.Asking as asking
use Rattle.vhost_gpu_backend_req.specs.Asking.{RecvsRecord, read_as}
use Rattle.vhost_gpu_backend_req.specs.Channel as link
use Rattle.vhost_gpu_backend_req.specs.Channel.{channel}
use Rattle.vhost_gpu_backend_req.specs.Halves.{AsksHalf, FrontGoes, FrontUnsent, NotReady, gpu_front, not_ready, stopped, refused, no_memory, too_long}
use Rattle.vhost_gpu_backend_req.specs.declared.call.Awaited.{Awaited}
use Rattle.vhost_c_common.proofs.Hearing.{none-handed, hears-cut}
use Rattle.vhost_c_common.proofs.OnWay.{sound-since}
use Rattle.vhost_c_common.proofs.Wants.{sound}
use Rattle.vhost_c_common.specs.View.{StaysSound, bare, unsent}
use Rattle.vhost_c_common.specs.declared.outgoing.Outgoing.{Outgoing}
use Rattle.vhost_c_common.specs.declared.refusal.Refusal.{Refusal}
use Rattle.vhost_c_common.specs.declared.refusal.Refusal.TheVariants.{Protocol}
use Rattle.vhost_c_channel.specs.Display as session
use Rattle.vhost_c_channel.specs.Display.{Asks, Asking, AskingNow, Refused, Unasked, Stays, Hears, TakesRecord, awaits_none, error_in, endpoint_of, queued, arrived, mark_of}
use Rattle.vhost_c_channel.specs.declared.display.Display.{Display}

-- ---- a request that went out

-- the pixels behind what was sent make the message whole
carries-on : {H : Type 0} (handles : List H) (text more : List ℕ) → 0 < length text → carrying handles text ++ plain more ≡ carrying handles (text ++ more)
carries-on handles [] more some = absurd (omega (arith, some))
carries-on handles (b ∷ bs) more some = ap (λ cs. cell b handles ∷ cs) (sym (map-append (λ x. cell x []) bs more))

whole : (sent : GpuSent PlainHandle) → gpu_front sent ++ plain sent.payload ≡ gpu_cells sent
whole sent =
    carries-on sent.handles (header_text (gpu_head sent) ++ sent.body) sent.payload (omega arith)
    ∙ ap (λ text. carrying sent.handles text) (append_assoc (header_text (gpu_head sent)) sent.body sent.payload)

-- it is behind what was sent before, and what came is as before
went : TalksLaw → (sent : GpuSent PlainHandle) (old : link.Channel Ends PlainHandle) (new : State Ends PlainHandle) → FrontGoes event sent old new
    → (new.link.sent ≡ old.endpoint.link.sent ++ gpu_front sent) × (stream new ≡ stream old.endpoint) × StaysSound old.endpoint new
went law sent old new out =
    let (retries, serves, listed, left) = out.sends in
    let t = law (record old.endpoint { list = true }) new _ serves.talks in (t.1, none-handed (stream old.endpoint) (stream new) t.0, sound-since refl refl (sound (record old.endpoint { list = true }) new serves))

pub asks : TalksLaw → (c : GpuCall PlainHandle) (old new : Display) (kept : Option Awaited) → AsksHalf event c (channel old.channel) (Ok kept) (channel new.channel)
    → new.outgoing ≡ old.outgoing → new.asked ≡ Some kept → new.incoming.count ≡ 0 → arrived old ≡ [] → new.held ≡ old.held → Asks c old new
asks law c old new kept (keeps, goes, same) outgoing asked count none held =
    let w = went law (gpu_row c) (channel old.channel) (endpoint_of new) goes in
    let before = old.outgoing.link.pending in let sent = (endpoint_of old).link.sent in
    let behind : queued new ≡ queued old ++ gpu_front (gpu_row c) =
    ap {A = Outgoing} (λ q. q.link.pending ++ (endpoint_of new).link.sent) outgoing ∙ ap (λ xs. before ++ xs) w.0 ∙ sym (append_assoc before sent (gpu_front (gpu_row c))) in
    record {
      queue = ap (λ xs. xs ++ plain (gpu_row c).payload) behind ∙ append_assoc (queued old) (gpu_front (gpu_row c)) (plain (gpu_row c).payload) ∙ ap (λ xs. queued old ++ xs) (whole (gpu_row c));
      fits = goes.fits;
      kept = kept;
      keeps = keeps;
      asked = asked;
      mark = ap {A = link.Channel Ends PlainHandle} (λ x. x.failed) same;
      nothing_came = count;
      nothing_waits = w.1 ∙ none;
      held = held;
      sound = w.2;
    }

-- ---- a call that was not asked

mark-unready : {place : List ℕ} {size : ℕ} {e : IoError} (old new : link.Channel Ends PlainHandle) → NotReady place size old e new → new.failed ≡ old.failed
mark-unready old new (refused why) = refl
mark-unready old new (no_memory alive list is) = ap {A = link.Channel Ends PlainHandle} (λ x. x.failed) is
mark-unready old new (too_long alive long is) = ap {A = link.Channel Ends PlainHandle} (λ x. x.failed) is

mark-unsent : {place : List ℕ} {sent : GpuSent PlainHandle} {e : IoError} (old new : link.Channel Ends PlainHandle) → FrontUnsent event place sent old e new → new.failed ≡ old.failed
mark-unsent old new (not_ready n) = mark-unready old new n
mark-unsent old new (stopped alive fits sends is) = ap {A = link.Channel Ends PlainHandle} (λ x. x.failed) is

pub not-asked : (c : GpuCall PlainHandle) (old new : Display) (e : io.IoError) (mid : link.Channel Ends PlainHandle) (d : declared.Error) → d ≡ error_in e → endpoint_of old ≡ bare (endpoint_of old) → endpoint_of new ≡ unsent mid.endpoint
    → AsksHalf event c (channel old.channel) (Err e) mid → Unasked c old new (Protocol d)
not-asked c old new e mid d is plain left asked =
    subst {A = declared.Error} (λ x. Unasked c old new (Protocol x)) (sym is)
    (session.not_sent e mid (subst {A = State Ends PlainHandle} (λ x. AsksHalf event c (record { endpoint = x; failed = mark_of old }) (Err e) mid) plain asked) left)

pub mark-kept : (c : GpuCall PlainHandle) (old : Display) (e : io.IoError) (mid : link.Channel Ends PlainHandle) → AsksHalf event c (channel old.channel) (Err e) mid → mid.failed ≡ mark_of old
mark-kept c old e mid asked = mark-unsent (channel old.channel) mid asked

pub no-memory : (c : GpuCall PlainHandle) (old new : Display) (d : declared.Error) → d ≡ OutOfMemory → has_some old.outgoing.link.pending ≡ true → endpoint_of new ≡ endpoint_of old → Refused c old new (Protocol d)
no-memory c old new d is some same = subst {A = declared.Error} (λ x. Refused c old new (Protocol x)) (sym is) (session.no_memory some same)

-- ---- what was asked in between was asked of the session before, where nothing but its places changed

module _ (c : GpuCall PlainHandle) (old mid new : Display) (queue : queued mid ≡ queued old) (mark : mark_of mid ≡ mark_of old) (asked : mid.asked ≡ old.asked) (incoming : mid.incoming ≡ old.incoming) (held : mid.held ≡ old.held)
    (end : endpoint_of mid ≡ bare (endpoint_of old)) where
  unasked-since : (r : Refusal) → Unasked c mid new r → Unasked c old new r
  unasked-since _ (session.not_sent e after why left) =
      session.not_sent e after (subst {A = link.Channel Ends PlainHandle} (λ x. AsksHalf event c x (Err e) after) (λ i. record { endpoint = bare (end i); failed = mark i }) why) left

  pub asking-since : is_some old.asked ≡ false → (outcome : Result ⊤ Refusal) → AskingNow c mid outcome new → Asking c old outcome new
  asking-since free (Ok done) a = record {
    queue = a.queue ∙ ap (λ xs. xs ++ gpu_cells (gpu_row c)) queue;
    fits = a.fits;
    kept = a.kept;
    keeps = a.keeps;
    asked = a.asked;
    mark = a.mark ∙ mark;
    nothing_came = a.nothing_came;
    nothing_waits = a.nothing_waits;
    held = a.held ∙ held;
    sound = sound-since (ap {A = State Ends PlainHandle} (λ e. e.broken) end) (ap {A = State Ends PlainHandle} (λ e. e.link.script) end) a.sound;
  }
  asking-since free (Err r) (why, stays) = (session.unasked (unasked-since r why), record { queue = stays.queue ∙ queue; mark = stays.mark ∙ mark; asked = stays.asked ∙ asked; incoming = stays.incoming ∙ incoming; held = stays.held ∙ held; came = λ waits. absurd (cc (sym waits ∙ free)) })

-- ---- replies

-- none is awaited, or one may be
pub awaits-none : (asked : Option (Option Awaited)) → awaits_none asked ≡ true → asked ≡ Some None
awaits-none (Some None) is = refl
awaits-none (Some (Some a)) is = absurd (cc is)
awaits-none None is = absurd (cc is)

pub awaits-some : (asked : Option (Option Awaited)) → awaits_none asked ≡ false → ¬ (asked ≡ Some None)
awaits-some asked is none = cc (sym (ap awaits_none none) ∙ is)

-- records of one size are of one form
pub same-form : (a b : GpuReply) → gpu_record_size a ≡ gpu_record_size b → a ≡ b
same-form TheFeatures TheFeatures is = refl
same-form TheDisplayInfo TheDisplayInfo is = refl
same-form TheEdid TheEdid is = refl
same-form TheEmpty TheEmpty is = refl
same-form TheFeatures TheDisplayInfo is = absurd (omega (arith, is))
same-form TheFeatures TheEdid is = absurd (omega (arith, is))
same-form TheFeatures TheEmpty is = absurd (omega (arith, is))
same-form TheDisplayInfo TheFeatures is = absurd (omega (arith, is))
same-form TheDisplayInfo TheEdid is = absurd (omega (arith, is))
same-form TheDisplayInfo TheEmpty is = absurd (omega (arith, is))
same-form TheEdid TheFeatures is = absurd (omega (arith, is))
same-form TheEdid TheDisplayInfo is = absurd (omega (arith, is))
same-form TheEdid TheEmpty is = absurd (omega (arith, is))
same-form TheEmpty TheFeatures is = absurd (omega (arith, is))
same-form TheEmpty TheDisplayInfo is = absurd (omega (arith, is))
same-form TheEmpty TheEdid is = absurd (omega (arith, is))

module _ {T : Type 0} (reply : GpuReply) (read : List ℕ → T) where
  -- what was received is what the definitions make of what came
  heard-as : TalksLaw → (head : Header) (old new : Display) (result : Result T io.IoError) (r : Result T IoError) → seen_io_result result ≡ r
      → RecvsRecord event read (gpu_take (Some reply) head) (endpoint_of old) r (endpoint_of new) → new.outgoing ≡ old.outgoing → Hears reply read head old new result
  heard-as law head old new result _ is (asking.heard {answer = answer} h reads listed) outgoing =
      let cut = hears-cut law (gpu_take (Some reply) head) (endpoint_of old) (endpoint_of new) answer h in
      session.heard cut.0 (is ∙ reads) (ap {A = Outgoing} (λ q. q.link.pending ++ (endpoint_of new).link.sent) outgoing ∙ ap (λ xs. old.outgoing.link.pending ++ xs) cut.1) (sound (endpoint_of old) (endpoint_of new) h.serves)
  heard-as law head old new (Ok t) _ is (asking.stopped f) outgoing = absurd (cc is)
  heard-as law head old new (Err e) _ is (asking.stopped {e = d} f) outgoing = session.fails d f (cc is)

  pub received : TalksLaw → (head : Header) (old new : Display) (result : Result T io.IoError) → RecvsRecord event read (gpu_take (Some reply) head) (endpoint_of old) (seen_io_result result) (endpoint_of new)
      → new.outgoing ≡ old.outgoing → Hears reply read head old new result
  received law head old new result h outgoing = heard-as law head old new result (seen_io_result result) refl h outgoing

  -- the same by the error that is answered
  pub failed : (old new : Display) (d : declared.Error) (e : io.IoError) → d ≡ error_in e → TakesRecord reply read old new (session.told (Err e)) → TakesRecord reply read old new (Err (Protocol d))
  failed old new d e is t = subst {A = declared.Error} (λ x. TakesRecord reply read old new (Err (Protocol x))) (sym is) t

-- another form of the same answer
abbrev as_another : {A B E : Type 0} → (A → B) → Result A E → Result B E
as_another f (Ok a) = Ok (f a)
as_another f (Err e) = Err e

module _ {A B : Type 0} (f : A → B) (reply : GpuReply) (read : List ℕ → A) where
  another-read : (r : Result A io.IoError) (answer : Result (List ℕ) IoError) → seen_io_result r ≡ read_as read answer → seen_io_result (as_another f r) ≡ read_as (λ bs. f (read bs)) answer
  another-read (Ok a) (Ok bs) is = ap (λ x. Ok (f x)) (cc is)
  another-read (Ok a) (Err e) is = absurd (cc is)
  another-read (Err e) (Ok bs) is = absurd (cc is)
  another-read (Err e) (Err e') is = ap Err (cc is)

  another-told : (r : Result A io.IoError) → as_another f (session.told r) ≡ session.told (as_another f r)
  another-told (Ok a) = refl
  another-told (Err e) = refl

  hears-another : (head : Header) (old new : Display) (r : Result A io.IoError) → Hears reply read head old new r → Hears reply (λ bs. f (read bs)) head old new (as_another f r)
  hears-another head old new r (session.heard {answer = answer} is reads queue sound) = session.heard is (another-read r answer reads) queue sound
  hears-another head old new _ (session.fails d f' is) = session.fails d f' is

  pub takes-another : (old new : Display) (r : Result A Refusal) → TakesRecord reply read old new r → TakesRecord reply (λ bs. f (read bs)) old new (as_another f r)
  takes-another old new _ (session.reads a result m asked form size h settles) =
      subst (λ o. TakesRecord reply (λ bs. f (read bs)) old new o) (sym (another-told result)) (session.reads a (as_another f result) m asked form size (hears-another _ old new result h) settles)
  takes-another old new _ (session.other_size a m asked form size none queue end settles) = session.other_size a m asked form size none queue end settles
  takes-another old new _ (session.other_form kept asked form same) = session.other_form kept asked form same
  takes-another old new _ (session.nothing_asked asked same) = session.nothing_asked asked same
  takes-another old new _ (session.not_yet some same) = session.not_yet some same
