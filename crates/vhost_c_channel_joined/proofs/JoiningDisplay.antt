-- A call of a session with a display, from its request to the reply.
use Rattle.std.proofs.Common.{◌≡◌, ◌⊎◌, inl, inr, ℕ, ℤ, zero, suc, ◌+◌, ◌<◌, ◌≤◌, min, true, false, List, [], ◌∷◌, ◌++◌, length, take, drop, drop-cons, map, Contains, get_or, Option, None, Some, Result, Ok, Err, OnOk, refl, sym, ap, subst, ◌∙◌, append_assoc, length-append, arith, ⊎_elim}
use Rattle.std.specs.Prelude.{flat_map, is_err, is_some, if◌then◌else◌}
use Rattle.std.proofs.lemmas.Bool.{cases_lt, lt-ltb, le-ltb}
use Rattle.std.proofs.lemmas.List.{append-nil, take-append-drop, take_all}
use Rattle.std.proofs.Math.Seq.{take-add}
use Rattle.vhost_message.specs.Header.{header_text}
use Rattle.vhost_message.specs.declared.error.Error as declared
use Rattle.vhost_message.specs.declared.error.Error.TheVariants as code
use Rattle.vhost_message.specs.declared.io_error.IoError as io
use Rattle.vhost_message.specs.declared.io_error.IoError.TheVariants as place
use Rattle.vhost_gpu_message.specs.declared.limits.TheConstants.{MAX_GPU_MSG_SIZE}
use Rattle.vhost_protocol.specs.Error.{OversizedMsg, seen}
use Rattle.vhost_protocol.specs.Gpu.{GpuCall, gpu_row, gpu_head, gpu_cells, gpu_refusal, sent_by}
use Rattle.vhost_protocol.specs.IoError.{IoError, In, seen_io}
use Rattle.vhost_protocol.specs.Stream.{Cell, carrying, plain}
use Rattle.vhost_link.proofs.Cells.{plain-is, length-carrying}
use Rattle.vhost_link.specs.Ends.{Ends}
use Rattle.vhost_link.specs.Mem.{event}
use Rattle.vhost_link.specs.declared.plain.PlainHandle.{PlainHandle}
use Rattle.vhost_connection.specs.Memory.{stream}
use Rattle.vhost_gpu_backend_req.specs.Channel as link
use Rattle.vhost_gpu_backend_req.specs.Halves.{FrontUnsent, NotReady, Keeps, call_in, pixels_of, not_ready, stopped, refused, too_long}
use Rattle.vhost_gpu_backend_req.specs.Halves as halves
use Rattle.vhost_gpu_backend_req.specs.declared.call.Awaited.{Awaited}
use Rattle.vhost_gpu_backend_req.specs.declared.call.GpuCall as gpu
use Rattle.vhost_gpu_backend_req.specs.declared.call.GpuCall.TheVariants as call
use Rattle.vhost_c_common.proofs.Wanting.{is-uncut, wants-seen}
use Rattle.vhost_c_common.proofs.Wants.{troubled}
use Rattle.vhost_c_common.specs.Memory as memory
use Rattle.vhost_c_common.specs.Moving.{HandsOut}
use Rattle.vhost_c_common.specs.Records.{fd_in, handle_in}
use Rattle.vhost_c_common.specs.View.{End, Hands, bare, unsent}
use Rattle.vhost_c_common.specs.declared.incoming.Incoming.{Incoming}
use Rattle.vhost_c_common.specs.declared.refusal.Refusal.{Refusal}
use Rattle.vhost_c_common.specs.declared.refusal.Refusal.TheVariants.{Protocol}
use Rattle.vhost_c_channel.specs.Display as session
use Rattle.vhost_c_channel.specs.Display.{IsNew, Asks, Refused, Stays, Unasked, arrived, endpoint_of, error_in, mark_of, missing_of, queued, view}
use Rattle.vhost_c_channel_joined.specs.JoinedDisplay as joined
use Rattle.vhost_c_channel_joined.specs.JoinedDisplay.{AllAnswer, Answers, AreDescriptors, AreDone, AreSendable, Comes, Does, DoesAll, Halts, IsAllowed, IsComing, IsHeard, IsIdle, IsShort, Moves, Sends, SendsPiece, Shows, Takes, halted, is_want, message_of, row_of}
use Rattle.vhost_c_channel.specs.declared.display.Display.{Display}
use Rattle.vhost_c_channel_joined.specs.declared.joined_display.DisplayAnswer.{DisplayAnswer}
use Rattle.vhost_c_channel_joined.specs.declared.wire.Halt.{Halt}
use Rattle.vhost_c_channel_joined.specs.declared.wire.Halt.TheVariants as halt
use Rattle.vhost_c_channel_joined.specs.declared.joined_display.Turn.{Turn}
use Rattle.vhost_c_channel_joined.proofs.Replying.{in-place, is-short, wants-is}

abbrev Cells : Type 0
Cells = List (Cell PlainHandle)

abbrev Kept : Type 0
Kept = Option ℤ × Option (Option Awaited)

-- ---- cells whose handles stand for descriptors

sendable-plain : (text : List ℕ) → AreSendable (plain text)
sendable-plain [] = tt
sendable-plain (b ∷ text) = (refl, sendable-plain text)

sendable-carrying : (hs : List PlainHandle) (text : List ℕ) → AreDescriptors hs → AreSendable (carrying hs text)
sendable-carrying hs [] are = tt
sendable-carrying hs (b ∷ text) are = (are, sendable-plain text)

sendable-front : (xs ys : Cells) → AreSendable (xs ++ ys) → AreSendable xs
sendable-front [] ys are = tt
sendable-front (x ∷ xs) ys are = (are.0, sendable-front xs ys are.1)

sendable-back : (xs ys : Cells) → AreSendable (xs ++ ys) → AreSendable ys
sendable-back [] ys are = are
sendable-back (x ∷ xs) ys are = sendable-back xs ys are.1

carried-first : (hs : List PlainHandle) (text : List ℕ) (rest : Cells) → 0 < length text → AreSendable (carrying hs text ++ rest) → AreDescriptors hs
carried-first hs [] rest some are = absurd (omega (arith, some))
carried-first hs (b ∷ text) rest some are = are.0

-- ---- descriptors and their handles

some-inj : (xs ys : List PlainHandle) → map Some xs ≡ map Some ys → xs ≡ ys
some-inj [] [] is = refl
some-inj [] (y ∷ ys) is = absurd (cc is)
some-inj (x ∷ xs) [] is = absurd (cc is)
some-inj (x ∷ xs) (y ∷ ys) is =
    let first : x ≡ y = cc is in
    let rest : map Some xs ≡ map Some ys = cc is in
    ap (λ z. z ∷ xs) first ∙ ap (λ zs. y ∷ zs) (some-inj xs ys rest)

map-twice : (hs : List PlainHandle) → map handle_in (map fd_in hs) ≡ map (λ h. handle_in (fd_in h)) hs
map-twice [] = refl
map-twice (h ∷ hs) = ap (λ xs. handle_in (fd_in h) ∷ xs) (map-twice hs)

again : (hs : List PlainHandle) (fds : List ℤ) → fds ≡ map fd_in hs → AreDescriptors hs → map handle_in fds ≡ map Some hs
again hs fds is are = ap (λ (xs : List ℤ). map handle_in xs) is ∙ map-twice hs ∙ are

-- the handles of descriptors are those that they were handed out for
pub same-handles : (hs hs' : List PlainHandle) (fds : List ℤ) → fds ≡ map fd_in hs → AreDescriptors hs → map handle_in fds ≡ map Some hs' → hs' ≡ hs
same-handles hs hs' fds is are of_fds = some-inj hs' hs (sym of_fds ∙ again hs fds is are)

no-none : (hs : List PlainHandle) → Contains (map Some hs) None → ⊥
no-none hs among = by hs among.0 among.1 among.2
  where
    by : (hs : List PlainHandle) (k : ℕ) → k < length (map Some hs) → get_or (map Some hs) k None ≡ None → ⊥
    by [] k within is = omega (arith, within)
    by (h ∷ hs) zero within is = cc is
    by (h ∷ hs) (suc k) within is = by hs k (omega (arith, within)) is

-- so none of them is refused, and memory was
pub not-refused : (hs : List PlainHandle) (fds : List ℤ) (e : declared.Error) → fds ≡ map fd_in hs → AreDescriptors hs → ((e ≡ code.InvalidParam) × Contains (map handle_in fds) None) ⊎ (e ≡ code.OutOfMemory) → memory.WantsMemory (Protocol e)
not-refused hs fds e is are (inl (bad, among)) = absurd (no-none hs (subst (λ xs. Contains xs None) (again hs fds is are) among))
not-refused hs fds e is are (inr out) = subst (λ x. memory.WantsMemory (Protocol x)) (sym out) tt

-- what holds of an Ok holds where there is no error
pub on-ok : {A E : Type 0} {P : Type 0} (r : Result A E) → is_err r ≡ false → OnOk r P → P
on-ok (Ok a) is p = p
on-ok (Err e) is p = absurd (cc is)

-- ---- what is to be sent goes out

pub unmoved : (cells : Cells) (s : Display) → AreSendable (queued s) → Moves cells s cells s
unmoved cells s are = record { whole = refl; sendable = are; hands = record { came = refl; incoming = refl; end = refl; rest = refl } }

pub moved-on : (a b c : Cells) (s t u : Display) → Moves a s b t → Moves b t c u → Moves a s c u
moved-on a b c s t u m n = record {
  whole = n.whole ∙ m.whole;
  sendable = n.sendable;
  hands = record { came = n.hands.came ∙ m.hands.came; incoming = n.hands.incoming ∙ m.hands.incoming; end = n.hands.end ∙ m.hands.end; rest = n.hands.rest ∙ m.hands.rest };
}

some-of : (n : ℕ) (xs : List ℕ) → 0 < n → 0 < length xs → 0 < length (take n xs)
some-of zero xs some many = absurd (omega (arith, some))
some-of (suc n) [] some many = absurd (omega (arith, many))
some-of (suc n) (x ∷ xs) some many = omega arith

pub take-capped : {A : Type 0} (k n : ℕ) (xs : List A) → k ≡ min n (length xs) → take k xs ≡ take n xs
take-capped {A} k n xs is =
    ⊎_elim (λ (few : n < length xs). ap (λ j. take j xs) (let same : k ≡ n = omega (arith, is, few) in same))
    (λ (all : length xs ≤ n). take_all k xs (let enough : length xs ≤ k = omega (arith, is, all) in enough) ∙ sym (take_all n xs all)) (cases_lt n (length xs))

-- a piece makes it less
pub piece-shorter : (before after : Cells) (bytes : List ℕ) (fds : List ℤ) (n : ℕ × ℕ) → 0 < length bytes → 0 < n.0 → HandsOut before after bytes fds n → length after < length before
piece-shorter before after bytes fds n some moved out =
    shorter (length before) (length (carrying out.handles (take n.0 bytes))) (length after) (ap (λ (xs : Cells). length xs) out.piece ∙ length-append (carrying out.handles (take n.0 bytes)) after)
    (subst (λ k. 0 < k) (sym (length-carrying out.handles (take n.0 bytes))) (some-of n.0 bytes moved some))
  where
    shorter : (a b c : ℕ) → a ≡ b + c → 0 < b → c < a
    shorter a b c is some = omega (arith, is, some)

module _ (s t : Display) (bytes : List ℕ) (fds : List ℤ) (n : ℕ × ℕ) (are : AreSendable (queued s)) (some : 0 < length bytes) (out : HandsOut (queued s) (queued t) bytes fds n) (hands : Hands (view s) (view t)) where
  -- nothing was left
  pub nothing-out : (cells : Cells) → n.0 ≡ 0 → Moves cells s cells t × (queued t ≡ [])
  nothing-out cells none =
      let was : queued s ≡ [] = out.end none in
      let is : queued t ≡ [] = sym (ap (λ k. carrying out.handles (take k bytes) ++ queued t) none) ∙ sym out.piece ∙ was in (
        record { whole = ap (λ xs. cells ++ xs) (is ∙ sym was); sendable = subst AreSendable (sym is) tt; hands = hands },
        is,
      )

  module _ (moved : 0 < n.0) where
    more : 0 < length (take n.0 bytes)
    more = some-of n.0 bytes moved some

    split : AreSendable (carrying out.handles (take n.0 bytes) ++ queued t)
    split = subst AreSendable out.piece are

    -- its descriptors
    pub piece-handles : AreDescriptors out.handles
    piece-handles = carried-first out.handles (take n.0 bytes) (queued t) more split

    pub piece-fds : (k : ℕ) → k ≡ min n.1 (length fds) → take k fds ≡ map fd_in out.handles
    piece-fds k is = take-capped k n.1 fds is ∙ out.fds_at

    pub piece-out : (cells cells' : Cells) (piece : List ℕ) → piece ≡ take n.0 bytes → cells' ≡ cells ++ carrying out.handles piece → Moves cells s cells' t
    piece-out cells cells' piece is shown = record {
      whole = ap (λ xs. xs ++ queued t) (shown ∙ ap (λ xs. cells ++ carrying out.handles xs) is) ∙ append_assoc cells (carrying out.handles (take n.0 bytes)) (queued t) ∙ ap (λ xs. cells ++ xs) (sym out.piece);
      sendable = sendable-back (carrying out.handles (take n.0 bytes)) (queued t) split;
      hands = hands;
    }

-- memory was refused, so it did not go out
pub shows-halts : (hs : List PlainHandle) (bs : List ℕ) (before after : Cells) (s t : Display) (h : Halt) → Shows hs bs before (Err h) after → SendsPiece before s (Err h) after t
shows-halts hs bs before after s t (halt.WantsMemory r) wants = wants
shows-halts hs bs before after s t halt.Silent none = none

-- ---- a call was asked

none-of : (xs : List ℕ) → length xs ≡ 0 → [] ≡ xs
none-of [] is = refl
none-of (x ∷ xs) is = absurd (omega (arith, is))

payload-is : (c : gpu.GpuCall PlainHandle) (pixels : List ℕ) → length pixels ≡ pixels_of c → (gpu_row (call_in c pixels)).payload ≡ pixels
payload-is (call.UpdateScanout u n) pixels long = refl
payload-is (call.CursorUpdate u) pixels long = refl
payload-is _ pixels long = none-of pixels long

module _ (t : Turn) (allowed : IsAllowed t) (s0 s1 : Display) (idle : IsIdle s0) (a : Asks (call_in t.call t.pixels.now) s0 s1) where
  whole : queued s1 ++ plain (row_of t).payload ≡ gpu_cells (row_of t)
  whole = a.queue ∙ ap (λ xs. xs ++ gpu_cells (row_of t)) idle.queue

  pub sendable : AreSendable (queued s1)
  sendable = sendable-front (queued s1) (plain (row_of t).payload) (subst AreSendable (sym whole) (sendable-carrying (row_of t).handles (header_text (gpu_head (row_of t)) ++ (row_of t).body ++ (row_of t).payload) allowed.handles))

  message-is : message_of t ≡ gpu_cells (row_of t)
  message-is = ap (λ b. if b then [] else gpu_cells (row_of t)) (le-ltb MAX_GPU_MSG_SIZE (gpu_head (row_of t)).size a.fits)

  module _ (before after : Cells) (s2 : Display) (m : Moves before s1 after s2) (none : queued s2 ≡ []) where
    -- its message came to the display
    pub message-shown : (shown : Cells) → shown ≡ after ++ carrying [] t.pixels.now → shown ≡ before ++ message_of t
    message-shown shown is =
        is ∙ ap (λ xs. after ++ xs) (plain-is t.pixels.now ∙ sym (ap plain (payload-is t.call t.pixels.now allowed.pixels)))
        ∙ ap (λ xs. xs ++ plain (row_of t).payload) (sym (append-nil after) ∙ ap (λ xs. after ++ xs) (sym none) ∙ m.whole)
        ∙ append_assoc before (queued s1) (plain (row_of t).payload) ∙ ap (λ xs. before ++ xs) (whole ∙ sym message-is)

    pub begins : IsComing t.reply.now 0 s2 s2
    begins = record {
      within = omega arith;
      few = omega arith;
      came = m.hands.came ∙ a.nothing_waits;
      count = ap {A = Incoming} (λ i. i.count) m.hands.incoming ∙ a.nothing_came;
      head = refl;
      waits = record { queue = refl; end = refl; rest = refl };
    }

    asked-still : s2.asked ≡ Some a.kept
    asked-still = ap {A = Kept} (λ k. k.1) m.hands.rest ∙ a.asked

    module _ (s3 : Display) where
      asked-then : (at : ℕ) → IsComing t.reply.now at s2 s3 → s3.asked ≡ Some a.kept
      asked-then at c = ap {A = Kept} (λ k. k.1) c.waits.rest ∙ asked-still

      -- and all of its reply that is read
      pub heard : (at : ℕ) → IsComing t.reply.now at s2 s3 → missing_of s3 ≡ 0 → IsHeard (row_of t) t.reply.now s3
      heard at c is = record {
        kept = a.kept;
        keeps = a.keeps;
        asked = asked-then at c;
        queue = c.waits.queue ∙ none;
        mark = ap {A = Kept} (λ k. k.0) c.waits.rest ∙ ap {A = Kept} (λ k. k.0) m.hands.rest ∙ a.mark ∙ idle.mark;
        sound = ap {A = End} (λ e. e.broken) c.waits.end ∙ ap {A = End} (λ e. e.broken) m.hands.end ∙ a.sound.after;
        uncut = ap {A = End} (λ e. e.link.script) c.waits.end ∙ ap {A = End} (λ e. e.link.script) m.hands.end ∙ a.sound.uncut idle.uncut;
        whole = is;
        at = at;
        coming = record { within = c.within; few = c.few; came = c.came; count = c.count; head = c.head; waits = record { queue = refl; end = refl; rest = refl } };
      }

      -- or too little did
      pub silent : IsComing t.reply.now (length t.reply.now) s2 s3 → 0 < missing_of s3 → Halts t halt.Silent
      silent c some = by a.kept a.keeps (asked-then (length t.reply.now) c)
        where
          by : (kept : Option Awaited) → Keeps (row_of t) kept → s3.asked ≡ Some kept → Halts t halt.Silent
          by None keeps asked = absurd (let none : missing_of s3 ≡ 0 = ap (λ x. session.missing_for x s3.incoming) asked in omega (arith, none, some))
          by (Some w) keeps asked = (halves.reply_in w.reply, keeps.0, is-short t.reply.now s2 s3 w c asked some)

      -- it is answered
      pub answered : (before' shown : Cells) (s4 : Display) (r : Result (Result DisplayAnswer Refusal) Halt) → shown ≡ before ++ message_of t → Takes (row_of t) t.reply.now r s4 → Does t before r s4 shown
      answered before' shown s4 (Ok outcome) is (answers, idle) = (joined.went a.fits answers, is, idle)
      answered before' shown s4 (Err (halt.WantsMemory r)) is wants = wants
      answered before' shown s4 (Err halt.Silent) is none = absurd none

-- ---- or not

oversized : (d : declared.Error) → seen d ≡ OversizedMsg → d ≡ code.OversizedMsg
oversized code.OversizedMsg is = refl
oversized _ is = absurd (cc is)

oversized-in : (e : io.IoError) (at : List ℕ) → seen_io e ≡ In at OversizedMsg → error_in e ≡ code.OversizedMsg
oversized-in (place.In name d) at is = oversized d (cc is)
oversized-in _ at is = absurd (cc is)

module _ (t : Turn) (s s' : Display) (idle : IsIdle s) (stays : Stays s s') where
  abbrev c : GpuCall PlainHandle
  c = call_in t.call t.pixels.now

  -- memory was refused, or the message is too long
  abbrev pub IsRefused : Refusal → Type 0
  IsRefused r = memory.WantsMemory r ⊎ ((MAX_GPU_MSG_SIZE < (gpu_head (row_of t)).size) × (r ≡ Protocol code.OversizedMsg) × IsIdle s')

  abbrev front : link.Channel Ends PlainHandle
  front = record { endpoint = bare (endpoint_of s); failed = mark_of s }

  unready : (after : link.Channel Ends PlainHandle) (y : IoError) → NotReady (sent_by c) (gpu_head (row_of t)).size front y after → endpoint_of s' ≡ unsent after.endpoint → (e : io.IoError) → seen_io e ≡ y → IsRefused (Protocol (error_in e))
  unready _ _ (refused why) left e same = absurd (cc (sym (ap gpu_refusal idle.mark) ∙ why))
  unready after _ (halves.no_memory alive none is) left e same = inl (in-place e _ _ same tt)
  unready after _ (too_long alive long is) left e same =
      let end : endpoint_of s' ≡ unsent (record (bare (endpoint_of s)) { list = true }) = left ∙ ap {A = link.Channel Ends PlainHandle} (λ x. unsent x.endpoint) is in
      inr (
        long,
        ap Protocol (oversized-in e _ same),
        record {
          queue = stays.queue ∙ idle.queue;
          came = ap {A = End} stream end;
          asked = stays.asked ∙ idle.asked;
          mark = stays.mark ∙ idle.mark;
          sound = ap {A = End} (λ x. x.broken) end ∙ idle.sound;
          uncut = ap {A = End} (λ x. x.link.script) end ∙ idle.uncut;
        },
      )

  abbrev listed : End
  listed = record (bare (endpoint_of s)) { list = true }

  unsent-why : (after : link.Channel Ends PlainHandle) (y : IoError) → FrontUnsent event (sent_by c) (row_of t) front y after → endpoint_of s' ≡ unsent after.endpoint → (e : io.IoError) → seen_io e ≡ y → IsRefused (Protocol (error_in e))
  unsent-why after y (not_ready n) left e same = unready after y n left e same
  unsent-why after _ (stopped {e = d} alive fits (n, r, trouble, some) is) left e same = inl (in-place e _ _ same (wants-seen listed d idle.sound (troubled listed after.endpoint d trouble (is-uncut listed idle.sound idle.uncut))))

  unasked : (r : Refusal) → Unasked c s s' r → IsRefused r
  unasked _ (session.not_sent e after why left) = unsent-why after (seen_io e) why left e refl

  refused-is : (r : Refusal) → Refused c s s' r → IsRefused r
  refused-is _ (session.busy some same) = absurd (cc (sym (ap is_some idle.asked) ∙ some))
  refused-is _ (session.no_memory some same) = inl tt
  refused-is r (session.unasked why) = unasked r why

  pub not-asked : (cells : Cells) (r : Refusal) → Refused c s s' r → Does t cells (halted r) s' cells
  not-asked cells r why = by (refused-is r why)
    where
      by : IsRefused r → Does t cells (halted r) s' cells
      by (inl w) = subst (λ b. Does t cells (if b then Err (halt.WantsMemory r) else Ok (Err r)) s' cells) (sym (wants-is r w)) w
      by (inr (long, is, left)) = subst (λ x. Does t cells (halted x) s' cells) (sym is) (
        joined.too_long long refl,
        sym (ap (λ xs. cells ++ xs) (ap (λ b. if b then [] else gpu_cells (row_of t)) (lt-ltb MAX_GPU_MSG_SIZE (gpu_head (row_of t)).size long)) ∙ append-nil cells),
        left,
      )

-- memory was refused before a message went out, or before its reply came
pub send-halts : (t : Turn) (before after : Cells) (s s' : Display) (h : Halt) → Sends before s (Err h) after s' → Halts t h
send-halts t before after s s' (halt.WantsMemory r) wants = wants
send-halts t before after s s' halt.Silent none = absurd none

pub come-halts : (t : Turn) (s s' : Display) (h : Halt) → Comes t.reply.now s (Err h) s' → (IsComing t.reply.now (length t.reply.now) s s' → 0 < missing_of s' → Halts t halt.Silent) → Halts t h
come-halts t s s' (halt.WantsMemory r) wants silent = wants
come-halts t s s' halt.Silent (coming, some) silent = silent coming some

-- ---- many calls

all-answer : (ts : List Turn) (os : List (Result DisplayAnswer Refusal)) (t : Turn) (o : Result DisplayAnswer Refusal) → AllAnswer ts os → Answers t o → AllAnswer (ts ++ t ∷ []) (os ++ o ∷ [])
all-answer [] [] t o all one = (one, tt)
all-answer [] (x ∷ os) t o all one = absurd all
all-answer (x ∷ ts) [] t o all one = absurd all
all-answer (x ∷ ts) (y ∷ os) t o all one = (all.0, all-answer ts os t o all.1 one)

sent-more : (ts : List Turn) (t : Turn) → flat_map message_of (ts ++ t ∷ []) ≡ flat_map message_of ts ++ message_of t
sent-more [] t = append-nil (message_of t)
sent-more (x ∷ ts) t = ap (λ cs. message_of x ++ cs) (sent-more ts t) ∙ sym (append_assoc (message_of x) (flat_map message_of ts) (message_of t))

-- one more
pub more-done : (ts : List Turn) (before mid after : Cells) (s s' : Display) (os : List (Result DisplayAnswer Refusal)) (t : Turn) (o : Result DisplayAnswer Refusal) → AreDone ts before s mid os → Does t mid (Ok o) s' after → AreDone (ts ++ t ∷ []) before s' after (os ++ o ∷ [])
more-done ts before mid after s s' os t o done does = record {
  answered = all-answer ts os t o done.answered does.0;
  sent = does.1 ∙ ap (λ cs. cs ++ message_of t) done.sent ∙ append_assoc before (flat_map message_of ts) (message_of t) ∙ ap (λ cs. before ++ cs) (sym (sent-more ts t));
  idle = does.2;
}

-- the calls up to one
pub front-of : (ts : List Turn) (i : ℕ) (d : Turn) → i < length ts → take (i + 1) ts ≡ take i ts ++ get_or ts i d ∷ []
front-of ts i d within = take-add i 1 ts ∙ ap (λ xs. take i ts ++ take 1 xs) (drop-cons ts i d within)

pub parts-of : (ts : List Turn) (i : ℕ) (d : Turn) → i < length ts → ts ≡ take i ts ++ get_or ts i d ∷ drop (i + 1) ts
parts-of ts i d within = let next : suc i ≡ i + 1 = omega arith in sym (take-append-drop i ts) ∙ ap (λ xs. take i ts ++ xs) (drop-cons ts i d within ∙ ap (λ n. get_or ts i d ∷ drop n ts) next)

-- one was not done
pub not-done : (ts earlier later : List Turn) (t : Turn) → ts ≡ earlier ++ t ∷ later → (before mid after : Cells) (s s' : Display) (answers answers' os : List (Result DisplayAnswer Refusal)) (h : Halt) → answers' ≡ answers ++ os → AreDone earlier before s mid os → Halts t h → DoesAll ts before answers (Err h) s' after answers'
not-done ts earlier later t is before mid after s s' answers answers' os (halt.WantsMemory r) same done halts = halts
not-done ts earlier later t is before mid after s s' answers answers' os halt.Silent same done halts = (os, same, record { before = earlier; turn = t; later = later; all = is; outcomes = done.answered; halts = halts })

-- a new session
pub new-idle : (s : Display) → IsNew s → IsIdle s
new-idle s fresh = record {
  queue = fresh.empty.queue;
  came = fresh.empty.came;
  asked = fresh.asked;
  mark = fresh.mark;
  sound = ap {A = End} (λ e. e.broken) fresh.empty.end;
  uncut = ap {A = End} (λ e. e.link.script) fresh.empty.end;
}
