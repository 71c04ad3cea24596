-- What a call of a program promises of a session with a display that calls made.
use Rattle.std.proofs.Common.{◌≡◌, ◌<◌, ◌≤◌, ◌+◌, ◌⊎◌, inl, inr, ℕ, ℤ, Bool, true, false, ◌&&◌, List, [], ◌∷◌, length, replicate, Option, Some, None, Result, Ok, Err, refl, sym, ap, subst, ◌∙◌, arith}
use Rattle.std.proofs.lemmas.List.{length-replicate}
use Rattle.std.specs.Global.{Global}
use Rattle.std.specs.Prelude.{Vec, ⊤, is_some, not, ◌==◌, ◌||◌, if◌then◌else◌, codes}
use Rattle.vhost_message.specs.Header.{Header, header_of, is_reply_for}
use Rattle.vhost_message.specs.Records.{u64_at}
use Rattle.vhost_message.specs.declared.error.Error as declared
use Rattle.vhost_message.specs.declared.error.Error.TheVariants as code
use Rattle.vhost_message.specs.declared.io_error.IoError as io
use Rattle.vhost_message.specs.declared.io_error.IoError.TheVariants as io-code
use Rattle.vhost_gpu_message.specs.GpuBackendReq.{gpu_request_of}
use Rattle.vhost_gpu_message.specs.GpuHeader.{gpu_fields_of}
use Rattle.vhost_gpu_message.specs.Replies.{display_info_of, display_info_text, edid_of, edid_text}
use Rattle.vhost_gpu_message.specs.declared.limits.TheConstants.{MAX_GPU_MSG_SIZE}
use Rattle.vhost_protocol.specs.Error.{Error, InvalidMessage, OversizedMsg, OutOfMemory, seen}
use Rattle.vhost_protocol.specs.Gpu as gpu
use Rattle.vhost_protocol.specs.Gpu.{GpuCall, GpuReply, TheFeatures, TheDisplayInfo, TheEdid, TheEmpty, gpu_head, gpu_record_size, gpu_row, gpu_take, gpu_understood, is_known_gpu, sent_by}
use Rattle.vhost_protocol.specs.IoError.{IoError, In, seen_io, seen_io_result}
use Rattle.vhost_protocol.specs.ReplySplit.{Received, reply_split}
use Rattle.vhost_protocol.specs.Row.{always}
use Rattle.vhost_protocol.specs.Stream.{Cell, has_some}
use Rattle.vhost_link.specs.Ends.{Ends}
use Rattle.vhost_link.specs.Mem.{event}
use Rattle.vhost_link.specs.declared.plain.PlainHandle.{PlainHandle}
use Rattle.vhost_connection.specs.Hearing.{Fails}
use Rattle.vhost_gpu_backend_req.specs.Asking.{read_as}
use Rattle.vhost_gpu_backend_req.specs.Channel as link
use Rattle.vhost_gpu_backend_req.specs.Halves.{FrontUnsent, NotReady, not_ready, stopped, refused, no_memory as no_list, too_long}
use Rattle.vhost_gpu_backend_req.specs.declared.call.Awaited.{Awaited}
use Rattle.vhost_c_common.proofs.Wanting.{is-uncut}
use Rattle.vhost_c_common.proofs.Wants.{alike, failed, troubled}
use Rattle.vhost_c_common.specs.ByNumber.{By}
use Rattle.vhost_c_common.specs.ByNumber as by
use Rattle.vhost_c_common.specs.Number.{number, error_number, outcome_number}
use Rattle.vhost_c_common.specs.View.{End, IsUncut, bare}
use Rattle.vhost_c_common.specs.declared.incoming.Incoming.{Incoming}
use Rattle.vhost_c_common.specs.declared.refusal.Refusal.{Refusal}
use Rattle.vhost_c_common.specs.declared.refusal.Refusal.TheVariants as refusal
use Rattle.vhost_c_channel.specs.Display as session
use Rattle.vhost_c_channel.specs.Display.{Asking, Asks, Hears, LettingGo, Receiving, Refused, Sending, Settles, Stays, Takes, TakesRecord, TakesTo, Unasked, arrived, endpoint_of, error_in, mark_of, missing_for, missing_of, told, view}
use Rattle.vhost_c_channel.specs.DisplayRecords.{cursor_update_in}
use Rattle.vhost_c_channel.specs.declared.display.Display.{Display}
use Rattle.vhost_c_channel.specs.declared.display_records.CursorUpdate.{CursorUpdate}
use Rattle.vhost_c.specs.Calls.{AtBoth, none, some, is_named}
use Rattle.vhost_c.specs.Display.{AsksBy, OpensDisplay, TakesNumber, opened, was_open, no_room}
use Rattle.vhost_c.specs.ProgramDisplay.{AsksTo, Does, IsAlike, IsCalled, IsSound, Leaves, LeavesTaken, ask_refusals, asking, is_harmless, is_late, refusals, taking}
use Rattle.vhost_c.specs.declared.places.Places.{Places}
use Rattle.vhost_c.specs.declared.places.ProgramAnswer.{ProgramAnswer}
use Rattle.vhost_c.specs.declared.program_display.DisplayAsk.{DisplayAsk}
use Rattle.vhost_c.specs.declared.program_display.DisplayAsk.TheVariants as ask
use Rattle.vhost_c.specs.declared.program_display.DisplayCall.{DisplayCall}
use Rattle.vhost_c.specs.declared.program_display.DisplayCall.TheVariants.{Open, Ask, ToSend, Missing, Receive, Take, TakeNumber, TakeDisplayInfo, TakeEdid, Unclaimed, Close}
use Rattle.vhost_c.proofs.Calling as calling
use Rattle.vhost_c.proofs.Calling.{kept, on-held, promised}
use Rattle.vhost_c.proofs.AskRefusals.{seen_number, is-seen}
use Rattle.vhost_c.proofs.Refusing.{fails-sound, more-came, more-named, none-handed, none-taken, of-want, trouble-sound, trouble-uncut}
use Rattle.vhost_c.proofs.ReplyRefusals.{cut-invalid, whole-reply}

-- what a session keeps between two calls
abbrev Kept : Type 0
Kept = Option ℤ × Option (Option Awaited)

-- ---- what is so of each session that calls made

-- No call of its link is cut; it is not marked as failed; and what it counted of a reply came.
pub record IsGood (s : Display) : Type 0 where
  pub uncut : IsUncut (endpoint_of s)
  pub unmarked : mark_of s ≡ None
  pub came : is_some s.asked ≡ true → s.incoming.count ≤ length (arrived s)

abbrev pub Good : Option Display → Type 0
Good None = ⊤
Good (Some s) = IsGood s

abbrev Promises : DisplayCall → ℕ → Option Display → Option Display → Type 0
Promises = calling.Promises refusals Leaves is_harmless IsSound Good

-- where there is no session
absent : (call : DisplayCall) → is_named (refusals call) 101 ≡ true → Leaves call 101 None None → Promises call 101 None None
absent call named leaves = record { named = named; leaves = λ refused. leaves; sound = λ harmless was. tt; good = tt }

-- a harmless answer is another
other : (n : ℕ) → is_harmless n ≡ true → n ≡ 16 → ⊥
other n harmless is = cc (sym (ap is_harmless is) ∙ harmless)

-- what came is as before
still-came : (s t : Display) → arrived t ≡ arrived s → t.incoming ≡ s.incoming → s.incoming.count ≤ length (arrived s) → t.incoming.count ≤ length (arrived t)
still-came s t came incoming enough = subst (λ (i : Incoming). i.count ≤ length (arrived t)) (sym incoming) (subst (λ (cs : List (Cell PlainHandle)). s.incoming.count ≤ length cs) (sym came) enough)

-- ---- open

opens : {n : ℕ} {old new : Option Display} → OpensDisplay old n new → Good old → Promises Open n old new
opens (opened {s = s} new) good = record {
  named = refl;
  leaves = λ refused. absurd (refused refl);
  sound = λ harmless was. ap {A = End} (λ e. e.broken) new.empty.end;
  good = record {
    uncut = is-uncut (endpoint_of s) (ap {A = End} (λ e. e.broken) new.empty.end) (ap {A = End} (λ e. e.link.script) new.empty.end);
    unmarked = new.mark;
    came = λ waits. omega (arith, new.empty.count);
  };
}
opens was_open good = kept Open 102 refl (λ same. same) refl good
opens no_room good = kept Open 24 refl (λ same. same) refl good

-- ---- move bytes

module _ (s t : Display) (rest : (view t).rest ≡ (view s).rest) (end : (view t).end ≡ (view s).end) where
  good-since : (is_some s.asked ≡ true → t.incoming.count ≤ length (arrived t)) → IsGood s → IsGood t
  good-since came good = record {
    uncut = alike (endpoint_of s) (endpoint_of t) (ap {A = End} (λ e. e.link.script) end) (ap {A = End} (λ e. e.broken) end) good.uncut;
    unmarked = ap {A = Kept} (λ k. k.0) rest ∙ good.unmarked;
    came = λ waits. came (sym (ap {A = Kept} (λ k. is_some k.1) rest) ∙ waits);
  }

sends : (p : Places) (bs : List ℕ) (fs : List ℤ) (count : ℕ × ℕ) {n : ℕ} {old new : Option Display} → By (Sending bs fs count) old n new → Good old → Promises (ToSend p) n old new
sends p bs fs count by.none good = absent (ToSend p) refl none
sends p bs fs count (by.some {s = s} {s' = t} {outcome = Ok u} (hands, rest)) good = record {
  named = refl;
  leaves = λ refused. absurd (refused refl);
  sound = λ harmless was. ap {A = End} (λ e. e.broken) rest.end ∙ was;
  good = good-since s t rest.rest rest.end (λ waits. still-came s t rest.came rest.incoming (good.came waits)) good;
}
sends p bs fs count (by.some {s = s} {s' = t} {outcome = Err r} (why-not, queue, rest)) good = record {
  named = none-handed (λ n. is_named (refusals (ToSend p)) n ≡ true) bs fs r refl why-not;
  leaves = λ refused. some (λ i. record { queue = queue i; came = rest.came i; incoming = rest.incoming i; end = rest.end i; rest = rest.rest i });
  sound = λ harmless was. ap {A = End} (λ e. e.broken) rest.end ∙ was;
  good = good-since s t rest.rest rest.end (λ waits. still-came s t rest.came rest.incoming (good.came waits)) good;
}

receives : (bytes : Vec ℕ Global) (fds : Vec ℤ Global) (bs : List ℕ) (fs : List ℤ) {n : ℕ} {old new : Option Display} → By (Receiving bs fs) old n new → Good old → Promises (Receive bytes fds) n old new
receives bytes fds bs fs by.none good = absent (Receive bytes fds) refl none
receives bytes fds bs fs (by.some {s = s} {s' = t} {outcome = Ok u} ((within, takes, adds, waits), none-refused)) good = record {
  named = refl;
  leaves = λ refused. absurd (refused refl);
  sound = λ harmless was. ap {A = End} (λ e. e.broken) waits.end ∙ was;
  good = good-since s t waits.rest waits.end (λ awaited. more-came (arrived s) (arrived t) bs fs s.incoming t.incoming takes adds (good.came awaited)) good;
}
receives bytes fds bs fs (by.some {s = s} {s' = t} {outcome = Err r} ((came, incoming, waits), why-not)) good = record {
  named = none-taken (λ n. is_named (refusals (Receive bytes fds)) n ≡ true) (missing_of s) bs fs r refl refl refl why-not;
  leaves = λ refused. some (λ i. record { queue = waits.queue i; came = came i; incoming = incoming i; end = waits.end i; rest = waits.rest i });
  sound = λ harmless was. ap {A = End} (λ e. e.broken) waits.end ∙ was;
  good = good-since s t waits.rest waits.end (λ awaited. still-came s t came incoming (good.came awaited)) good;
}

-- ---- ask

-- an error of the protocol, with the step that met it or without
in-number : (e : io.IoError) (place : List ℕ) (y : Error) → In place y ≡ seen_io e → error_number (error_in e) ≡ seen_number y
in-number (io-code.In at e) place y is = sym (is-seen e) ∙ ap seen_number (let same : y ≡ seen e = cc is in sym same)
in-number _ place y is = absurd (cc is)

-- a number that an ask is refused with: an oversized message only where there may be one
abbrev OfAsk : DisplayAsk → ℕ → Type 0
OfAsk what n = is_named (ask_refusals what) n ≡ true

ask-named : (what : DisplayAsk) (n : ℕ) → is_named asking n ≡ true → OfAsk what n
ask-named (ask.UpdateScanout update len) n p = more-named n 11 asking p
ask-named _ n p = p

module _ (what : DisplayAsk) (c : GpuCall PlainHandle) (fits : MAX_GPU_MSG_SIZE < (gpu_head (gpu_row c)).size → OfAsk what 11) (s t : Display) (good : IsGood s) where
  -- the end at which an ask is sent
  abbrev front : End
  front = record (bare (endpoint_of s)) { list = true }

  bare-uncut : IsUncut (bare (endpoint_of s))
  bare-uncut = alike (endpoint_of s) (bare (endpoint_of s)) refl refl good.uncut

  front-uncut : IsUncut front
  front-uncut = alike (endpoint_of s) front refl refl good.uncut

  -- what is refused to ask, and what that leaves of an end
  record Denied (new : End) (n : ℕ) : Type 0 where
    is : OfAsk what n
    uncut : IsUncut new
    sound : is_harmless n ≡ true → (endpoint_of s).broken ≡ None → new.broken ≡ None

  abbrev Line : Type 0
  Line = link.Channel Ends PlainHandle

  abbrev line : Line
  line = record { endpoint = bare (endpoint_of s); failed = mark_of s }

  not-ready : (e : io.IoError) (place : List ℕ) (after : Line) (x : IoError) → x ≡ seen_io e → NotReady place (gpu_head (gpu_row c)).size line x after → Denied after.endpoint (error_number (error_in e))
  not-ready e place _ x is (refused marked) = absurd (cc (sym (ap (λ (o : Option ℤ). gpu.gpu_refusal o) good.unmarked) ∙ marked))
  not-ready e place after _ is (no_list alive away same) =
      let at : after.endpoint ≡ bare (endpoint_of s) = ap {A = Line} (λ l. l.endpoint) same in record {
        is = subst (λ n. OfAsk what n) (sym (in-number e _ OutOfMemory is)) (ask-named what 24 refl);
        uncut = alike (bare (endpoint_of s)) after.endpoint (ap {A = End} (λ y. y.link.script) at) (ap {A = End} (λ y. y.broken) at) bare-uncut;
        sound = λ harmless was. ap {A = End} (λ y. y.broken) at ∙ was;
      }
  not-ready e place after _ is (too_long alive long same) =
      let at : after.endpoint ≡ front = ap {A = Line} (λ l. l.endpoint) same in record {
        is = subst (λ n. OfAsk what n) (sym (in-number e place OversizedMsg is)) (fits long);
        uncut = alike front after.endpoint (ap {A = End} (λ y. y.link.script) at) (ap {A = End} (λ y. y.broken) at) front-uncut;
        sound = λ harmless was. ap {A = End} (λ y. y.broken) at ∙ was;
      }

  unsent-so : (e : io.IoError) (place : List ℕ) (after : Line) (x : IoError) → x ≡ seen_io e → FrontUnsent event place (gpu_row c) line x after → Denied after.endpoint (error_number (error_in e))
  unsent-so e place after x is (not_ready n) = not-ready e place after x is n
  unsent-so e place after _ is (stopped {e = d} alive fine (n, r, trouble, short) same) =
      let at : error_number (error_in e) ≡ error_number d = in-number e place (seen d) is ∙ is-seen d in record {
        is = subst (λ k. OfAsk what k) (sym at) (of-want (OfAsk what) front d (ask-named what 24 refl) (ask-named what 16 refl) (ask-named what 15 refl) (troubled front after.endpoint d trouble front-uncut));
        uncut = trouble-uncut front after.endpoint d trouble front-uncut;
        sound = λ harmless was. trouble-sound front after.endpoint d trouble front-uncut (λ sixteen. other (error_number (error_in e)) harmless (at ∙ sixteen)) was;
      }

  denied : (r : Refusal) → Refused c s t r → Denied (endpoint_of t) (number r)
  denied _ (session.busy waits same) = record {
    is = ask-named what 103 refl;
    uncut = subst (λ x. IsUncut (endpoint_of x)) (sym same) good.uncut;
    sound = λ harmless was. ap (λ x. (endpoint_of x).broken) same ∙ was;
  }
  denied _ (session.no_memory waits same) = record {
    is = ask-named what 24 refl;
    uncut = alike (endpoint_of s) (endpoint_of t) (ap {A = End} (λ x. x.link.script) same) (ap {A = End} (λ x. x.broken) same) good.uncut;
    sound = λ harmless was. ap {A = End} (λ x. x.broken) same ∙ was;
  }
  denied _ (session.unasked (session.not_sent e after why left)) =
      let d = unsent-so e (sent_by c) after (seen_io e) refl why in record {
        is = d.is;
        uncut = alike after.endpoint (endpoint_of t) (ap {A = End} (λ x. x.link.script) left) (ap {A = End} (λ x. x.broken) left) d.uncut;
        sound = λ harmless was. ap {A = End} (λ x. x.broken) left ∙ d.sound harmless was;
      }

  good-asked : Asks c s t → IsGood t
  good-asked a = record {
    uncut = is-uncut (endpoint_of t) a.sound.after (a.sound.uncut good.uncut.uncut);
    unmarked = a.mark ∙ good.unmarked;
    came = λ waits. omega (arith, a.nothing_came);
  }

  good-stays : IsUncut (endpoint_of t) → Stays s t → IsGood t
  good-stays uncut x = record {
    uncut = uncut;
    unmarked = x.mark ∙ good.unmarked;
    came = λ waits. let was : is_some s.asked ≡ true = sym (ap is_some x.asked) ∙ waits in still-came s t (x.came was) x.incoming (good.came was);
  }

asks-so : (what : DisplayAsk) (c : GpuCall PlainHandle) → (MAX_GPU_MSG_SIZE < (gpu_head (gpu_row c)).size → OfAsk what 11) → {n : ℕ} {old new : Option Display} → AsksBy c old n new → Good old → Promises (Ask what) n old new
asks-so what c fits by.none good = absent (Ask what) (ask-named what 101 refl) none
asks-so what c fits (by.some {s = s} {s' = t} {outcome = Ok u} a) good = record { named = refl; leaves = λ refused. absurd (refused refl); sound = λ harmless was. a.sound.after; good = good-asked what c fits s t good a }
asks-so what c fits (by.some {s = s} {s' = t} {outcome = Err r} (why, x)) good =
    let d = denied what c fits s t good r why in record {
      named = d.is;
      leaves = λ refused. some x;
      sound = d.sound;
      good = good-stays what c fits s t good d.uncut x;
    }

-- a record that is short fits
short : {A : Type 0} (n m : ℕ) → n ≡ m → m ≤ 65536 → MAX_GPU_MSG_SIZE < n → A
short n m is few long = absurd (omega (arith, is, few, long))

cursor-asked : (x : CursorUpdate) (pixels : List ℕ) → length pixels ≡ 16384 → {n : ℕ} {old new : Option Display} → AsksBy (gpu.UpdateCursor (cursor_update_in x) pixels) old n new → Good old → Promises (Ask (ask.UpdateCursor x)) n old new
cursor-asked x pixels long does good = asks-so (ask.UpdateCursor x) _ (short _ (20 + 16384) (ap (λ k. 20 + k) long) (omega arith)) does good

asks-to : (what : DisplayAsk) (n : ℕ) (old new : Option Display) → AsksTo what old n new → Good old → Promises (Ask what) n old new
asks-to ask.GetProtocolFeatures n old new does good = asks-so ask.GetProtocolFeatures _ (short 0 0 refl (omega arith)) does good
asks-to (ask.SetProtocolFeatures k) n old new does good = asks-so (ask.SetProtocolFeatures k) _ (short _ 8 refl (omega arith)) does good
asks-to ask.GetDisplayInfo n old new does good = asks-so ask.GetDisplayInfo _ (short 0 0 refl (omega arith)) does good
asks-to (ask.GetEdid id) n old new does good = asks-so (ask.GetEdid id) _ (short _ 4 refl (omega arith)) does good
asks-to (ask.SetScanout x) n old new does good = asks-so (ask.SetScanout x) _ (short _ 12 refl (omega arith)) does good
asks-to (ask.UpdateScanout x len) n old new does good = asks-so (ask.UpdateScanout x len) _ (λ long. refl) (does (replicate len 0) (length-replicate {A = ℕ} len 0)) good
asks-to (ask.SetDmabufScanout x fd) n old new does good = asks-so (ask.SetDmabufScanout x fd) _ (short _ 40 refl (omega arith)) does good
asks-to (ask.SetDmabufScanout2 x fd) n old new does good = asks-so (ask.SetDmabufScanout2 x fd) _ (short _ 48 refl (omega arith)) does good
asks-to (ask.UpdateDmabufScanout x) n old new does good = asks-so (ask.UpdateDmabufScanout x) _ (short _ 20 refl (omega arith)) does good
asks-to (ask.MoveCursor x) n old new does good = asks-so (ask.MoveCursor x) _ (short _ 12 refl (omega arith)) does good
asks-to (ask.HideCursor x) n old new does good = asks-so (ask.HideCursor x) _ (short _ 12 refl (omega arith)) does good
asks-to (ask.UpdateCursor x) n old new does good = cursor-asked x (replicate 16384 0) (length-replicate {A = ℕ} 16384 0) (does (replicate 16384 0) (length-replicate {A = ℕ} 16384 0)) good

-- ---- take

-- a number that to take is refused with, once it was read
abbrev IsOfTake : ℕ → Type 0
IsOfTake n = (is_named taking n ≡ true) × (is_late n ≡ true)

-- an answer that came whole is one, or an invalid message
abbrev Fine : {A : Type 0} → Result A IoError → Type 0
Fine (Ok a) = ⊤
Fine (Err e) = (place : List ℕ) × (e ≡ In place InvalidMessage)

understood-fine : (sent : Header) (x : Result (Received PlainHandle) Error) → ((e : Error) → x ≡ Err e → e ≡ InvalidMessage) → Fine (gpu_understood sent x)
understood-fine sent (Err e) invalid = (codes "recv_body", ap (λ y. In (codes "recv_body") y) (invalid e refl))
understood-fine sent (Ok r) invalid = go (is_reply_for gpu_request_of r.header sent && not (has_some r.handles))
  where
    go : (b : Bool) → Fine (if b then Ok r.body else Err (In (codes "Unexpected reply") InvalidMessage))
    go true = tt
    go false = (codes "Unexpected reply", refl)

taken-fine : (reply : GpuReply) (sent : Header) (cells : List (Cell PlainHandle)) → 12 + gpu_record_size reply ≤ length cells → Fine (gpu_take (Some reply) sent cells).0
taken-fine reply sent cells many = understood-fine sent (reply_split is_known_gpu (gpu_record_size reply) always 0 cells).0 (cut-invalid is_known_gpu (gpu_record_size reply) always 0 cells many)

small : (reply : GpuReply) → gpu_record_size reply ≤ 4096
small TheFeatures = omega arith
small TheDisplayInfo = omega arith
small TheEdid = omega arith
small TheEmpty = omega arith

not-waiting : (t : Display) → t.asked ≡ None → is_some t.asked ≡ true → t.incoming.count ≤ length (arrived t)
not-waiting t gone waits = absurd (cc (sym (ap is_some gone) ∙ waits))

-- what a refusal leaves that came late, or early
record Late (s t : Display) (n : ℕ) : Type 0 where
  is : IsOfTake n
  settles : Settles s t
  uncut : IsUncut (endpoint_of t)
  sound : is_harmless n ≡ true → (endpoint_of s).broken ≡ None → (endpoint_of t).broken ≡ None

record Early (s t : Display) (n : ℕ) : Type 0 where
  is : (is_named taking n ≡ true) × (is_late n ≡ false)
  same : t ≡ s

-- what was taken
record Fresh (s t : Display) : Type 0 where
  settles : Settles s t
  uncut : IsUncut (endpoint_of t)
  sound : (endpoint_of t).broken ≡ None

abbrev Why : {T : Type 0} → Display → Display → Result T Refusal → Type 0
Why s t (Ok v) = Fresh s t
Why s t (Err r) = Late s t (number r) ⊎ Early s t (number r)

module _ {T : Type 0} (reply : GpuReply) (read : List ℕ → T) (s t : Display) (good : IsGood s) where
  read-number : (e : io.IoError) (answer : Result (List ℕ) IoError) → Err (seen_io e) ≡ read_as read answer → Fine answer → IsOfTake (error_number (error_in e))
  read-number e (Ok bs) is fine = absurd (cc is)
  read-number e (Err x) is (place, invalid) = subst IsOfTake (sym (in-number e place InvalidMessage (let same : seen_io e ≡ x = cc is in sym (same ∙ invalid)))) (refl, refl)

  heard-so : (head : Header) (result : Result T io.IoError) → Settles s t → 12 + gpu_record_size reply ≤ length (arrived s) → Hears reply read head s t result → Why s t (told result)
  heard-so head (Ok v) settles many (session.heard took is queue sound) = record { settles = settles; uncut = is-uncut (endpoint_of t) sound.after (sound.uncut good.uncut.uncut); sound = sound.after }
  heard-so head (Err e) settles many (session.heard {answer = answer} took is queue sound) = inl (record {
    is = read-number e answer is (subst (λ x. Fine x.0) took (taken-fine reply head (arrived s) many));
    settles = settles;
    uncut = is-uncut (endpoint_of t) sound.after (sound.uncut good.uncut.uncut);
    sound = λ harmless was. sound.after;
  })
  heard-so head _ settles many (session.fails {e = e} d f is) =
      let both = failed (endpoint_of s) (endpoint_of t) true d f good.uncut in
      let at : error_number (error_in e) ≡ error_number d = in-number e (codes "recv_body") (seen d) (sym is) ∙ is-seen d in
      inl (record {
        is = subst IsOfTake (sym at) (of-want IsOfTake (endpoint_of s) d (refl, refl) (refl, refl) (refl, refl) both.1);
        settles = settles;
        uncut = both.0;
        sound = λ harmless was. fails-sound (endpoint_of s) (endpoint_of t) true d f good.uncut (λ sixteen. other (error_number (error_in e)) harmless (at ∙ sixteen)) was;
      })

  record-so : (o : Result T Refusal) → TakesRecord reply read s t o → Why s t o
  record-so _ (session.reads a result zero asked form size hear settles) =
      let whole : 12 + gpu_record_size reply ≤ s.incoming.count = whole-reply s.incoming (gpu_record_size reply) (small reply) (sym (ap (λ x. missing_for x s.incoming) asked) ∙ zero) size in
      let came : s.incoming.count ≤ length (arrived s) = good.came (ap is_some asked) in
      heard-so (gpu_fields_of a.request) result settles (omega (arith, whole, came)) hear
  record-so _ (session.other_size a zero asked form size came queue bare-same settles) = inl (record {
    is = (refl, refl);
    settles = settles;
    uncut = alike (endpoint_of s) (endpoint_of t) (ap {A = End} (λ x. x.link.script) bare-same) (ap {A = End} (λ x. x.broken) bare-same) good.uncut;
    sound = λ harmless was. ap {A = End} (λ x. x.broken) bare-same ∙ was;
  })
  record-so _ (session.other_form kept asked form same) = inr (record { is = (refl, refl); same = same })
  record-so _ (session.nothing_asked asked same) = inr (record { is = (refl, refl); same = same })
  record-so _ (session.not_yet more same) = inr (record { is = (refl, refl); same = same })

-- of a call that takes
module _ (call : DisplayCall) (named : (n : ℕ) → is_named taking n ≡ true → is_named (refusals call) n ≡ true) (leaves : (n : ℕ) (old new : Option Display) → LeavesTaken (is_late n) old new → Leaves call n old new) where
  good-settled : (s t : Display) → IsGood s → IsUncut (endpoint_of t) → Settles s t → IsGood t
  good-settled s t good uncut x = record { uncut = uncut; unmarked = x.mark ∙ good.unmarked; came = not-waiting t x.asked }

  refused-so : (s t : Display) (n : ℕ) → IsGood s → Late s t n ⊎ Early s t n → Promises call n (Some s) (Some t)
  refused-so s t n good (inl late) = record {
    named = named n late.is.0;
    leaves = λ refused. leaves n (Some s) (Some t) (subst (λ b. LeavesTaken b (Some s) (Some t)) (sym late.is.1) (some late.settles));
    sound = late.sound;
    good = good-settled s t good late.uncut late.settles;
  }
  refused-so s t n good (inr early) = kept call n (named n early.is.0) (λ same. leaves n (Some s) (Some t) (subst (λ b. LeavesTaken b (Some s) (Some t)) (sym early.is.1) same)) (ap Some early.same) good

  fresh-so : (s t : Display) → IsGood s → Fresh s t → is_named (refusals call) 0 ≡ true → Promises call 0 (Some s) (Some t)
  fresh-so s t good x done = record { named = done; leaves = λ refused. absurd (refused refl); sound = λ harmless was. x.sound; good = good-settled s t good x.uncut x.settles }

  took : (s t : Display) (o : Result ⊤ Refusal) → IsGood s → is_named (refusals call) 0 ≡ true → Why s t o → Promises call (outcome_number o) (Some s) (Some t)
  took s t (Ok u) good done why = fresh-so s t good why done
  took s t (Err r) good done why = refused-so s t (number r) good why

  gone : is_named (refusals call) 101 ≡ true
  gone = named 101 refl

empty-taken : {n : ℕ} {old new : Option Display} → By (λ s o s'. Takes s s' o) old n new → Good old → Promises Take n old new
empty-taken by.none good = absent Take refl refl
empty-taken (by.some {s = s} {s' = t} {outcome = o} does) good = takes o does
  where
    takes : (o : Result ⊤ Refusal) → Takes s t o → Promises Take (outcome_number o) (Some s) (Some t)
    takes _ (session.not_awaited asked end queue settles) = record {
      named = refl;
      leaves = λ refused. absurd (refused refl);
      sound = λ harmless was. ap {A = End} (λ x. x.broken) end ∙ was;
      good = record { uncut = alike (endpoint_of s) (endpoint_of t) (ap {A = End} (λ x. x.link.script) end) (ap {A = End} (λ x. x.broken) end) good.uncut; unmarked = settles.mark ∙ good.unmarked; came = not-waiting t settles.asked };
    }
    takes o' (session.takes some-awaited x) = took Take (λ n p. p) (λ n o p l. l) s t o' good refl (record-so TheEmpty (λ bs. tt) s t good o' x)

number-taken : (p : Places) (before after : ℕ) {n : ℕ} {old new : Option Display} → By (TakesNumber before after) old n new → Good old → Promises (TakeNumber p) n old new
number-taken p before after by.none good = absent (TakeNumber p) refl refl
number-taken p before after (by.some {s = s} {s' = t} {outcome = Ok u} x) good = fresh-so (TakeNumber p) (λ n q. q) (λ n o p l. l) s t good (record-so TheFeatures (u64_at 0) s t good (Ok after) x) refl
number-taken p before after (by.some {s = s} {s' = t} {outcome = Err r} x) good = refused-so (TakeNumber p) (λ n q. q) (λ n o p l. l) s t (number r) good (record-so TheFeatures (u64_at 0) s t good (Err r) x.0)

-- a record that is put at a place
module _ {T : Type 0} (call : DisplayCall) (reply : GpuReply) (read : List ℕ → T) (text : T → List ℕ) (named : (n : ℕ) → is_named taking n ≡ true → is_named (refusals call) n ≡ true) (leaves : (n : ℕ) (old new : Option Display) → LeavesTaken (is_late n) old new → Leaves call n old new)
    (full : is_named (refusals call) 107 ≡ true) (done : is_named (refusals call) 0 ≡ true) (none-left : Leaves call 101 None None) where
  to-place : (before after : List ℕ) (s t : Display) (o : Result ⊤ Refusal) → TakesTo reply read text before after s t o → IsGood s → Promises call (outcome_number o) (Some s) (Some t)
  to-place before after s t _ (session.taken v x at) good = fresh-so call named leaves s t good (record-so reply read s t good (Ok v) x) done
  to-place before after s t _ (session.not_taken r room x at) good = refused-so call named leaves s t (number r) good (record-so reply read s t good (Err r) x)
  to-place before after s t _ (session.no_room few at same) good = kept call 107 full (λ same. leaves 107 (Some s) (Some t) same) (ap Some same) good

  placed : (before after : List ℕ) {n : ℕ} {old new : Option Display} → By (λ s o s'. TakesTo reply read text before after s s' o) old n new → Good old → Promises call n old new
  placed before after by.none good = absent call (gone call named leaves) none-left
  placed before after (by.some {s = s} {s' = t} {outcome = o} x) good = to-place before after s t o x good

-- ---- descriptors

-- nothing changed but which are held
holds : (p : Places) (s t : Display) → t ≡ record s { held = t.held } → IsGood s → Promises (Unclaimed p) 0 (Some s) (Some t)
holds p s t same good = record {
  named = refl;
  leaves = λ refused. absurd (refused refl);
  sound = λ harmless was. ap {A = Display} (λ x. (endpoint_of x).broken) same ∙ was;
  good = good-since s t (ap {A = Display} (λ x. (view x).rest) same) (ap {A = Display} (λ x. (view x).end) same) (λ waits. still-came s t (ap {A = Display} (λ x. arrived x) same) (ap {A = Display} (λ x. x.incoming) same) (good.came waits)) good;
}

-- ---- all calls

promises : (call : DisplayCall) (a : ProgramAnswer) (old new : Option Display) → Does call a old new → Good old → Promises call a.number old new
promises Open a old new does good = opens does good
promises (Ask what) a old new does good = asks-to what a.number old new does good
promises (ToSend p) a old new does good = sends p a.places.bytes.items a.places.fds.items (a.places.byte_count, a.places.fd_count) does.0 good
promises (Missing p) a old new (is, missing, same) good = promised (Missing p) a.number 0 old new is (kept (Missing p) 0 refl (λ same. same) same good)
promises (Receive bytes fds) a old new does good = receives bytes fds bytes.items fds.items does.0 good
promises Take a old new does good = empty-taken does good
promises (TakeNumber p) a old new does good = number-taken p p.number a.places.number does good
promises (TakeDisplayInfo p) a old new does good = placed (TakeDisplayInfo p) TheDisplayInfo display_info_of display_info_text (λ n q. more-named n 107 taking q) (λ n o p l. l) refl refl refl _ _ does good
promises (TakeEdid p) a old new does good = placed (TakeEdid p) TheEdid edid_of edid_text (λ n q. more-named n 107 taking q) (λ n o p l. l) refl refl refl _ _ does good
promises (Unclaimed p) a old new does good = on-held Good (Promises (Unclaimed p)) (LettingGo p.fds.items a.places.count a.places.fds.items) (absent (Unclaimed p) refl refl) (λ s t u x. holds p s t x.1) (λ s t r x. absurd x) does good
promises Close a old new (is, gone) good = promised Close a.number 0 old new is (record { named = refl; leaves = λ refused. absurd (refused refl); sound = λ harmless was. subst IsSound (sym gone) tt; good = subst Good (sym gone) tt })

-- each call of a session that calls made is one that promises this, and leaves such a session
pub step : (call : DisplayCall) (a : ProgramAnswer) (old new : Option Display) → Does call a old new → Good old → IsCalled call a old new × Good new
step call a old new does good = let p = promises call a old new does good in (record { does = does; named = p.named; leaves = p.leaves; sound = p.sound }, p.good)

-- a session that was sound is after a call whose answer is harmless
pub keeps-sound : (call : DisplayCall) (a : ProgramAnswer) (old new : Option Display) → IsCalled call a old new → is_harmless a.number ≡ true → IsSound old → IsSound new
keeps-sound call a old new c harmless was = c.sound harmless was
