-- A display's reply, as it comes and as it is taken.
use Rattle.std.proofs.Common.{◌≡◌, ◌⊎◌, inl, inr, ℕ, ℤ, zero, suc, ◌+◌, ◌-◌, ◌^◌, ◌<◌, ◌≤◌, min, Bool, true, false, cond, List, [], ◌∷◌, ◌++◌, length, take, drop, map, Option, None, Some, Result, Ok, Err, refl, sym, ap, subst, ◌∙◌, length-append, arith}
use Rattle.std.specs.Prelude.{⊤, codes, nat_lt, not, ◌&&◌, IfErr, if◌then◌else◌}
use Rattle.std.specs.Option.{option_map}
use Rattle.std.proofs.lemmas.Bool.{ltb-true, ltb-false}
use Rattle.std.proofs.lemmas.List.{drop_all, length-take-le, take-take, append-nil}
use Rattle.std.proofs.Math.Seq.{take-add}
use Rattle.byteorder.specs.Numbers.{little_from-take}
use Rattle.vhost_message.specs.Header.{Header, header_of, is_reply_for}
use Rattle.vhost_message.specs.declared.error.Error as declared
use Rattle.vhost_message.specs.declared.error.Error.TheVariants as code
use Rattle.vhost_message.specs.declared.io_error.IoError as io
use Rattle.vhost_message.specs.declared.io_error.IoError.TheVariants as place
use Rattle.vhost_message.specs.declared.limits.TheConstants.{MAX_MSG_SIZE, MSG_HEADER_SIZE}
use Rattle.vhost_gpu_message.specs.GpuBackendReq.{gpu_request_of}
use Rattle.vhost_gpu_message.specs.GpuHeader.{gpu_fields_of}
use Rattle.vhost_gpu_message.specs.declared.records.edid.VhostUserGpuEdidRequest.{VhostUserGpuEdidRequest}
use Rattle.vhost_protocol.specs.Error.{Error, InvalidMessage, PartialMessage, seen}
use Rattle.vhost_protocol.specs.Gpu.{GpuReply, GpuSent, TheEmpty, gpu_head, gpu_record_size, gpu_row, gpu_take, gpu_understood, is_known_gpu}
use Rattle.vhost_protocol.specs.IoError.{IoError, In, seen_io}
use Rattle.vhost_protocol.specs.ReplySplit.{Received, received, reply_split}
use Rattle.vhost_protocol.specs.Row.{always}
use Rattle.vhost_protocol.specs.Stream.{Cell, bytes, carrying, first_handles, has_some, is_shorter, plain}
use Rattle.vhost_protocol.proofs.ReplyLaws.{plain-append, reply-rest}
use Rattle.vhost_protocol.proofs.TextLaws.{length-plain}
use Rattle.vhost_link.proofs.Cells.{plain-is}
use Rattle.vhost_link.specs.declared.plain.PlainHandle.{PlainHandle}
use Rattle.vhost_connection.specs.Memory.{stream}
use Rattle.vhost_gpu_backend_req.specs.Halves.{Keeps, call_in, reply_in}
use Rattle.vhost_gpu_backend_req.specs.declared.call.Awaited.{Awaited}
use Rattle.vhost_gpu_backend_req.specs.declared.call.GpuCall as gpu
use Rattle.vhost_gpu_backend_req.specs.declared.call.GpuCall.TheVariants as call
use Rattle.vhost_c_common.proofs.Wanting.{Wanting, is-uncut, wanted, wants-seen}
use Rattle.vhost_c_common.proofs.Wants.{failed}
use Rattle.vhost_c_common.specs.Memory as memory
use Rattle.vhost_c_common.specs.Moving.{TakesIn}
use Rattle.vhost_c_common.specs.Records.{handle_in}
use Rattle.vhost_c_common.specs.View.{End, Receives}
use Rattle.vhost_c_common.specs.declared.refusal.Refusal.{Refusal}
use Rattle.vhost_c_common.specs.declared.refusal.Refusal.TheVariants.{Protocol}
use Rattle.vhost_c_channel.specs.Display as session
use Rattle.vhost_c_channel.specs.Display.{Hears, Settles, TakesRecord, TakesTo, arrived, endpoint_of, error_in, mark_of, missing_for, missing_of, queued, told, view}
use Rattle.vhost_c_channel_joined.specs.JoinedDisplay as joined
use Rattle.vhost_c_channel_joined.specs.JoinedDisplay.{AnswersBy, AnswersSent, IsComing, IsHeard, IsIdle, IsShort, Takes, Tells, announced, halted, is_want, read_for, read_of, value_of}
use Rattle.vhost_c_channel.specs.declared.display.Display.{Display}
use Rattle.vhost_c_channel_joined.specs.declared.joined_display.DisplayAnswer.{DisplayAnswer}
use Rattle.vhost_c_channel_joined.specs.declared.joined_display.DisplayAnswer.TheVariants as answer
use Rattle.vhost_c_channel_joined.specs.declared.wire.Halt.TheVariants as halt

-- ---- how much is missing, by numbers

-- of a reply of which so many bytes came, whose body is so long
abbrev miss : ℕ → ℕ → ℕ
miss n size = if nat_lt n MSG_HEADER_SIZE then MSG_HEADER_SIZE - n else if nat_lt MAX_MSG_SIZE size then 0 else MSG_HEADER_SIZE + size - n

abbrev reads_by : ℕ → ℕ
reads_by size = MSG_HEADER_SIZE + (if nat_lt MAX_MSG_SIZE size then 0 else size)

early : (n s k : ℕ) → nat_lt n 12 ≡ true → k ≡ miss n s → k ≡ 12 - n
early n s k is at = at ∙ ap (λ b. if b then 12 - n else if nat_lt MAX_MSG_SIZE s then 0 else 12 + s - n) is

late : (n s k : ℕ) → nat_lt n 12 ≡ false → k ≡ miss n s → k ≡ (if nat_lt MAX_MSG_SIZE s then 0 else 12 + s - n)
late n s k is at = at ∙ ap (λ b. if b then 12 - n else if nat_lt MAX_MSG_SIZE s then 0 else 12 + s - n) is

module _ (n m size s k : ℕ) (at : k ≡ miss n s) (same : 12 ≤ n → s ≡ size) (few : n ≤ reads_by size) where
  behind : (b : Bool) → nat_lt n 12 ≡ false → nat_lt MAX_MSG_SIZE size ≡ b → (k ≡ (if b then 0 else 12 + size - n)) × (n ≤ 12 + (if b then 0 else size)) × (12 ≤ n)
  behind b long large =
      let many : 12 ≤ n = ltb-false n 12 long in
      let e : s ≡ size = same many in (
        late n s k long at ∙ ap (λ x. if nat_lt MAX_MSG_SIZE x then 0 else 12 + x - n) e ∙ ap (λ x. if x then 0 else 12 + size - n) large,
        subst (λ x. n ≤ 12 + (if x then 0 else size)) large few,
        many,
      )

  -- no more came than is read
  within : m ≤ k → n + m ≤ reads_by size
  within some = by (nat_lt n 12) (nat_lt MAX_MSG_SIZE size) refl refl
    where
      by : (a b : Bool) → nat_lt n 12 ≡ a → nat_lt MAX_MSG_SIZE size ≡ b → n + m ≤ reads_by size
      by true b short large =
          let front : k ≡ 12 - n = early n s k short at in
          let lt : n < 12 = ltb-true n 12 short in
          let far : n + m ≤ 12 = omega (arith, front, lt, some) in
          omega (arith, far)
      by false true long large =
          let x = behind true long large in
          subst (λ c. n + m ≤ 12 + (if c then 0 else size)) (sym large) (let none : k ≡ 0 = x.0 in let near : n ≤ 12 + 0 = x.1 in omega (arith, none, near, some))
      by false false long large =
          let x = behind false long large in
          subst (λ c. n + m ≤ 12 + (if c then 0 else size)) (sym large) (let left : k ≡ 12 + size - n = x.0 in let near : n ≤ 12 + size = x.1 in omega (arith, left, near, some))

  -- where nothing is missing it came
  all-came : k ≡ 0 → n ≡ reads_by size
  all-came none = by (nat_lt n 12) (nat_lt MAX_MSG_SIZE size) refl refl
    where
      by : (a b : Bool) → nat_lt n 12 ≡ a → nat_lt MAX_MSG_SIZE size ≡ b → n ≡ reads_by size
      by true b short large =
          let front : k ≡ 12 - n = early n s k short at in
          let lt : n < 12 = ltb-true n 12 short in
          absurd (omega (arith, front, lt, none))
      by false true long large =
          let x = behind true long large in
          subst (λ c. n ≡ 12 + (if c then 0 else size)) (sym large) (let near : n ≤ 12 + 0 = x.1 in let many : 12 ≤ n = x.2 in omega (arith, near, many))
      by false false long large =
          let x = behind false long large in
          subst (λ c. n ≡ 12 + (if c then 0 else size)) (sym large) (let left : k ≡ 12 + size - n = x.0 in let near : n ≤ 12 + size = x.1 in omega (arith, left, near, none))

  -- where something is, it did not
  some-missing : 0 < k → (n < 12) ⊎ (n < reads_by size)
  some-missing some = by (nat_lt n 12) (nat_lt MAX_MSG_SIZE size) refl refl
    where
      by : (a b : Bool) → nat_lt n 12 ≡ a → nat_lt MAX_MSG_SIZE size ≡ b → (n < 12) ⊎ (n < reads_by size)
      by true b short large = inl (ltb-true n 12 short)
      by false true long large = absurd (let none : k ≡ 0 = (behind true long large).0 in omega (arith, none, some))
      by false false long large =
          let x = behind false long large in
          inr (subst (λ c. n < 12 + (if c then 0 else size)) (sym large) (let left : k ≡ 12 + size - n = x.0 in omega (arith, left, some)))

-- ---- the reply as it comes

-- the header is in the first twelve bytes
header-front : (m : ℕ) (xs : List ℕ) → 12 ≤ m → header_of (take m xs) ≡ header_of xs
header-front m xs many i = record { code = little_from-take 0 4 m xs (omega (arith, many)) i; flags = little_from-take 4 4 m xs (omega (arith, many)) i; size = little_from-take 8 4 m xs (omega (arith, many)) i }

abbrev Kept : Type 0
Kept = Option ℤ × Option (Option Awaited)

module _ (reply : List ℕ) (old : Display) where
  size-known : (at : ℕ) (new : Display) → IsComing reply at old new → 12 ≤ at → (header_of new.incoming.head).size ≡ announced reply
  size-known at new c many = ap {A = Header} (λ h. h.size) (sym (header-front at new.incoming.head many) ∙ ap header_of c.head ∙ ap header_of (take-take 12 at reply many))

  -- how much is missing where a reply is awaited
  missing-is : (at : ℕ) (new : Display) (a : Awaited) → IsComing reply at old new → new.asked ≡ Some (Some a) → missing_of new ≡ miss at (header_of new.incoming.head).size
  missing-is at new a c asked = ap (λ x. missing_for x new.incoming) asked ∙ ap (λ n. miss n (header_of new.incoming.head).size) c.count

  few-of : (at : ℕ) (new : Display) (a : Awaited) → IsComing reply at old new → new.asked ≡ Some (Some a) → at ≤ reads_by (announced reply)
  few-of at new a c asked = subst (λ x. at ≤ read_for x reply) asked c.few

  -- a piece came
  module _ (at most : ℕ) (mid new : Display) (c : IsComing reply at old mid) (piece : List ℕ) (is : piece ≡ take most (drop at reply)) (some : 0 < most) (fits : most ≤ missing_of mid) (within_reply : at + most ≤ length reply)
      (got : Receives (missing_of mid) piece [] (view mid) (Ok tt) (view new)) where
    same : new.asked ≡ mid.asked
    same = ap {A = Kept} (λ k. k.1) got.3.rest

    joined-text : take at reply ++ piece ≡ take (at + most) reply
    joined-text = ap (λ xs. take at reply ++ xs) is ∙ sym (take-add at most reply)

    long : length piece ≡ most
    long = by (let front : length (take (at + most) reply) ≡ at + most = length-take-le (at + most) reply within_reply in front) (length-append (take at reply) piece) (length-take-le at reply (let less : at ≤ length reply = omega (arith, within_reply) in less))
      where
        by : length (take (at + most) reply) ≡ at + most → length (take at reply ++ piece) ≡ length (take at reply) + length piece → length (take at reply) ≡ at → length piece ≡ most
        by all both front = let e : length (take at reply ++ piece) ≡ length (take (at + most) reply) = ap (λ (xs : List ℕ). length xs) joined-text in omega (arith, all, both, front, e)

    few-then : (x : Option (Option Awaited)) → mid.asked ≡ x → at + most ≤ read_for x reply
    few-then (Some (Some a)) asked = within at most (announced reply) (header_of mid.incoming.head).size (missing_of mid) (missing-is at mid a c asked) (size-known at mid c) (few-of at mid a c asked) fits
    few-then (Some None) asked = absurd (let none : missing_of mid ≡ 0 = ap (λ x. missing_for x mid.incoming) asked in omega (arith, none, some, fits))
    few-then None asked = absurd (let none : missing_of mid ≡ 0 = ap (λ x. missing_for x mid.incoming) asked in omega (arith, none, some, fits))

    small : (x : Option (Option Awaited)) → read_for x reply ≤ 12 + MAX_MSG_SIZE
    small (Some (Some a)) = by (nat_lt MAX_MSG_SIZE (announced reply)) refl
      where
        by : (b : Bool) → nat_lt MAX_MSG_SIZE (announced reply) ≡ b → 12 + (if nat_lt MAX_MSG_SIZE (announced reply) then 0 else announced reply) ≤ 12 + MAX_MSG_SIZE
        by true is = subst (λ b. 12 + (if b then 0 else announced reply) ≤ 12 + MAX_MSG_SIZE) (sym is) (omega arith)
        by false is = subst (λ b. 12 + (if b then 0 else announced reply) ≤ 12 + MAX_MSG_SIZE) (sym is) (let few : announced reply ≤ MAX_MSG_SIZE = ltb-false MAX_MSG_SIZE (announced reply) is in omega (arith, few))
    small (Some None) = omega arith
    small None = omega arith

    count-then : new.incoming.count ≡ at + most
    count-then =
        let add : new.incoming.count ≡ min (mid.incoming.count + length piece) (2 ^ 64 - 1) = got.2.count in
        let was : mid.incoming.count ≡ at = c.count in
        let bound : at + most ≤ read_for mid.asked reply = few-then mid.asked refl in
        let cap : read_for mid.asked reply ≤ 12 + MAX_MSG_SIZE = small mid.asked in
        capped new.incoming.count mid.incoming.count (length piece) (read_for mid.asked reply) add was long bound cap
      where
        capped : (n m l r : ℕ) → n ≡ min (m + l) (2 ^ 64 - 1) → m ≡ at → l ≡ most → at + most ≤ r → r ≤ 12 + MAX_MSG_SIZE → n ≡ at + most
        capped n m l r add was is few cap = omega (arith, add, was, is, few, cap)

    head-then : take (at + most) new.incoming.head ≡ take 12 (take (at + most) reply)
    head-then =
        ap (λ n. take n new.incoming.head) (sym (both mid.incoming.count (length piece) c.count long)) ∙ got.2.head
        ∙ ap (λ n. take 12 (take n mid.incoming.head ++ piece)) c.count ∙ ap (λ xs. take 12 (xs ++ piece)) c.head ∙ take-again 12 (take at reply) piece ∙ ap (λ xs. take 12 xs) joined-text
      where
        both : (m l : ℕ) → m ≡ at → l ≡ most → m + l ≡ at + most
        both m l was is = omega (arith, was, is)

        take-again : (n : ℕ) (xs ys : List ℕ) → take n (take n xs ++ ys) ≡ take n (xs ++ ys)
        take-again zero xs ys = refl
        take-again (suc n) [] ys = refl
        take-again (suc n) (x ∷ xs) ys = ap (λ zs. x ∷ zs) (take-again n xs ys)

    bare-piece : (hs : List PlainHandle) → map handle_in [] ≡ map Some hs → carrying hs piece ≡ plain piece
    bare-piece [] none = plain-is piece
    bare-piece (h ∷ hs) none = absurd (cc none)

    came-then : arrived new ≡ plain (take (at + most) reply)
    came-then =
        let x : TakesIn piece [] (arrived mid) (arrived new) = got.1 in
        x.got ∙ ap (λ cs. cs ++ carrying x.handles piece) c.came ∙ ap (λ cs. plain (take at reply) ++ cs) (bare-piece x.handles x.of_fds) ∙ sym (plain-append PlainHandle (take at reply) piece) ∙ ap plain joined-text

    pub comes-on : IsComing reply (at + most) old new
    comes-on = record {
      within = within_reply;
      few = subst (λ x. at + most ≤ read_for x reply) (sym same) (few-then mid.asked refl);
      came = came-then;
      count = count-then;
      head = head-then;
      waits = record { queue = got.3.queue ∙ c.waits.queue; end = got.3.end ∙ c.waits.end; rest = got.3.rest ∙ c.waits.rest };
    }

  -- nothing is missing, so it came
  pub read-whole : (at : ℕ) (new : Display) (a : Awaited) → IsComing reply at old new → new.asked ≡ Some (Some a) → missing_of new ≡ 0 → at ≡ read_of reply
  read-whole at new a c asked none = all-came at 0 (announced reply) (header_of new.incoming.head).size (missing_of new) (missing-is at new a c asked) (size-known at new c) (few-of at new a c asked) none

  pub is-short : (new : Display) (a : Awaited) → IsComing reply (length reply) old new → new.asked ≡ Some (Some a) → 0 < missing_of new → IsShort reply
  is-short new a c asked some = some-missing (length reply) 0 (announced reply) (header_of new.incoming.head).size (missing_of new) (missing-is (length reply) new a c asked) (size-known (length reply) new c) (few-of (length reply) new a c asked) some

-- ---- errors of the table

-- the table names no want of memory
abbrev IsNamed : Error → Type 0
IsNamed InvalidMessage = ⊤
IsNamed PartialMessage = ⊤
IsNamed e = ⊥

abbrev IsTabled : Result (List ℕ) IoError → Type 0
IsTabled (Ok body) = ⊤
IsTabled (Err (In at e)) = IsNamed e
IsTabled (Err e) = ⊥

split-named : (size : ℕ) (cells : List (Cell PlainHandle)) → IfErr (reply_split is_known_gpu size always 0 cells).0 IsNamed
unfolding reply_split received
split-named size cells = by (is_shorter (12 + size) cells)
  where
    h : Header
    h = header_of (bytes (take 12 cells))

    body : List ℕ
    body = bytes (take size (drop 12 cells))

    rest : List (Cell PlainHandle)
    rest = drop size (drop 12 cells)

    inner : (b : Bool) → IfErr (cond {A = Result (Received PlainHandle) Error × List (Cell PlainHandle)} b (Ok (record { header = h; body = body; payload = bytes (take 0 rest); handles = first_handles cells }), drop 0 rest) (Err InvalidMessage, drop 0 rest)).0 IsNamed
    inner true = tt
    inner false = tt

    by : (b : Bool) → IfErr (cond {A = Result (Received PlainHandle) Error × List (Cell PlainHandle)} b (Err PartialMessage, []) (received is_known_gpu h always (first_handles cells) body 0 rest)).0 IsNamed
    by true = tt
    by false = inner (is_known_gpu h && always body)

understood-named : (sent : Header) (r : Result (Received PlainHandle) Error) → IfErr r IsNamed → IsTabled (gpu_understood sent r)
understood-named sent (Err e) named = named
understood-named sent (Ok r) named = by (is_reply_for gpu_request_of r.header sent && not (has_some r.handles))
  where
    by : (b : Bool) → IsTabled (if b then Ok r.body else Err (In (codes "Unexpected reply") InvalidMessage))
    by true = tt
    by false = tt

tabled : (shape : GpuReply) (sent : Header) (cells : List (Cell PlainHandle)) → IsTabled (gpu_take (Some shape) sent cells).0
tabled shape sent cells = understood-named sent (reply_split is_known_gpu (gpu_record_size shape) always 0 cells).0 (split-named (gpu_record_size shape) cells)

named-no-want : (e : declared.Error) → IsNamed (seen e) → is_want (Protocol e) ≡ false
named-no-want code.OutOfMemory named = absurd named
named-no-want (code.SocketRetry c) named = absurd named
named-no-want _ named = refl

-- ---- a reply that was taken

pub wants-is : (r : Refusal) → memory.WantsMemory r → is_want r ≡ true
wants-is (Protocol code.OutOfMemory) w = refl
wants-is (Protocol (code.SocketRetry c)) w = refl
wants-is (Protocol _) w = absurd w
wants-is _ w = absurd w

pub in-place : (e : io.IoError) (at : List ℕ) (x : Error) → seen_io e ≡ In at x → Wanting x → memory.WantsMemory (Protocol (error_in e))
in-place (place.In name e) at x is w = wanted e (subst {A = Error} (λ y. Wanting y) (sym (cc is)) w)
in-place _ at x is w = absurd (cc is)

-- what a refusal is: memory was refused, or it is an answer and nothing is left
abbrev pub Refuses : GpuSent PlainHandle → List ℕ → Refusal → Display → Type 0
Refuses sent reply r new = memory.WantsMemory r ⊎ ((is_want r ≡ false) × AnswersSent sent reply (Err r) × IsIdle new)

pub refuses : (sent : GpuSent PlainHandle) (reply : List ℕ) (r : Refusal) (new : Display) → Refuses sent reply r new → Takes sent reply (halted r) new
refuses sent reply r new (inl w) = subst (λ b. Takes sent reply (if b then Err (halt.WantsMemory r) else Ok (Err r)) new) (sym (wants-is r w)) w
refuses sent reply r new (inr (isnt, answers, idle)) = subst (λ b. Takes sent reply (if b then Err (halt.WantsMemory r) else Ok (Err r)) new) (sym isnt) (answers, idle)

-- what a reply becomes
abbrev pub Becomes : {T : Type 0} → GpuSent PlainHandle → List ℕ → (T → DisplayAnswer) → Result T Refusal → Display → Type 0
Becomes sent reply value (Ok t) new = AnswersSent sent reply (Ok (value t)) × IsIdle new
Becomes sent reply value (Err r) new = Refuses sent reply r new

kept-form : (sent : GpuSent PlainHandle) (kept : Option Awaited) (shape : GpuReply) → Keeps sent kept → sent.awaited ≡ Some shape → option_map (λ a. reply_in a.reply) kept ≡ Some shape
kept-form sent None shape keeps is = absurd (cc (sym keeps ∙ is))
kept-form sent (Some a) shape keeps is = sym keeps.0 ∙ is

module _ (sent : GpuSent PlainHandle) (reply : List ℕ) (old new : Display) (h : IsHeard sent reply old) where
  kept-as : (a : Awaited) → old.asked ≡ Some (Some a) → Keeps sent (Some a)
  kept-as a asked = let is : h.kept ≡ Some a = cc (sym h.asked ∙ asked) in subst (Keeps sent) is h.keeps

  read-so : (a : Awaited) → old.asked ≡ Some (Some a) → h.at ≡ read_of reply
  read-so a asked = read-whole reply old h.at old a h.coming asked h.whole

  enough : (a : Awaited) → old.asked ≡ Some (Some a) → read_of reply ≤ length reply
  enough a asked = subst (λ n. n ≤ length reply) (read-so a asked) h.coming.within

  at-least : (n size : ℕ) → n ≡ reads_by size → 12 ≤ n
  at-least n size is = omega (arith, is)

  announces : (a : Awaited) → old.asked ≡ Some (Some a) → (header_of old.incoming.head).size ≡ announced reply
  announces a asked = size-known reply old h.at old h.coming (at-least h.at (announced reply) (read-so a asked))

  module _ {T : Type 0} (shape : GpuReply) (awaited : sent.awaited ≡ Some shape) (read : List ℕ → T) (value : T → DisplayAnswer) (agrees : (bs : List ℕ) → value (read bs) ≡ value_of shape bs) where
    idle-after : queued new ≡ queued old → arrived new ≡ [] → Settles old new → (endpoint_of new).broken ≡ None → (endpoint_of new).link.script ≡ [] → IsIdle new
    idle-after queue none settles sound uncut = record { queue = queue ∙ h.queue; came = none; asked = settles.asked; mark = settles.mark ∙ h.mark; sound = sound; uncut = uncut }

    module _ (a : Awaited) (asked : old.asked ≡ Some (Some a)) (fits : (header_of old.incoming.head).size ≡ gpu_record_size shape) where
      size-is : announced reply ≡ gpu_record_size shape
      size-is = sym (announces a asked) ∙ fits

      take-is : gpu_take (Some shape) (gpu_head sent) (plain (take (read_of reply) reply)) ≡ gpu_take (Some shape) (gpu_fields_of a.request) (arrived old)
      take-is =
          ap (λ x. gpu_take (Some shape) x (plain (take (read_of reply) reply))) (sym (kept-as a asked).1)
          ∙ ap (λ n. gpu_take (Some shape) (gpu_fields_of a.request) (plain (take n reply))) (sym (read-so a asked))
          ∙ ap (λ cells. gpu_take (Some shape) (gpu_fields_of a.request) cells) (sym h.coming.came)

      length-is : length (arrived old) ≤ 12 + gpu_record_size shape + 0
      length-is =
          let e : length (arrived old) ≡ length (take h.at reply) = ap (λ (cs : List (Cell PlainHandle)). length cs) h.coming.came ∙ length-plain PlainHandle (take h.at reply) in
          let f : length (take h.at reply) ≡ h.at = length-take-le h.at reply h.coming.within in
          let g : h.at ≡ read_of reply = read-so a asked in
          bound (length (arrived old)) (length (take h.at reply)) h.at (read_of reply) e f g (at-most (announced reply) (nat_lt MAX_MSG_SIZE (announced reply))) size-is
        where
          at-most : (n : ℕ) (b : Bool) → 12 + (if b then 0 else n) ≤ 12 + n
          at-most n true = omega arith
          at-most n false = omega arith

          bound : (x y z w : ℕ) → x ≡ y → y ≡ z → z ≡ w → w ≤ 12 + announced reply → announced reply ≡ gpu_record_size shape → x ≤ 12 + gpu_record_size shape + 0
          bound x y z w e f g few is = omega (arith, e, f, g, few, is)

      nothing-left : (answer : Result (List ℕ) IoError) → gpu_take (Some shape) (gpu_fields_of a.request) (arrived old) ≡ (answer, arrived new) → arrived new ≡ []
      nothing-left answer is = sym (ap (λ x. x.1) is) ∙ reply-rest is_known_gpu (gpu_record_size shape) always 0 (arrived old) length-is

      tells : (answer : Result (List ℕ) IoError) → gpu_take (Some shape) (gpu_fields_of a.request) (arrived old) ≡ (answer, arrived new) → (outcome : Result DisplayAnswer Refusal) → Tells shape answer outcome → AnswersSent sent reply outcome
      tells answer is outcome t =
          joined.replied shape awaited (enough a asked)
          (joined.told size-is (subst {A = Result (List ℕ) IoError} (λ x. Tells shape x outcome) (sym (ap (λ x. x.0) (take-is ∙ is))) t))

      heard-ok : (t : T) → Hears shape read (gpu_fields_of a.request) old new (Ok t) → Settles old new → Becomes sent reply value (Ok t) new
      heard-ok t (session.heard {answer = Ok bs} is reads queue sound) settles = (
        tells (Ok bs) is (Ok (value t)) (ap (λ x. Ok x) (ap value (cc reads) ∙ agrees bs)),
        idle-after queue (nothing-left (Ok bs) is) settles sound.after (sound.uncut h.uncut),
      )
      heard-ok t (session.heard {answer = Err e} is reads queue sound) settles = absurd (cc reads)

      -- an error by its name
      named : (e : io.IoError) (x : IoError) → seen_io e ≡ x → IsTabled (Err x) → (is_want (Protocol (error_in e)) ≡ false) × Tells shape (Err x) (Err (Protocol (error_in e)))
      named (place.In name d) (In at y) is t =
          let e : seen d ≡ y = cc is in
          (named-no-want d (subst IsNamed (sym e) t), (d, e, refl))
      named (place.Of d) (In at y) is t = absurd (cc is)
      named (place.Raw n) (In at y) is t = absurd (cc is)
      named (place.Named n) (In at y) is t = absurd (cc is)
      named e _ is t = absurd t

      heard-err : (e : io.IoError) → Hears shape read (gpu_fields_of a.request) old new (Err e) → Settles old new → Refuses sent reply (Protocol (error_in e)) new
      heard-err e (session.heard {answer = Ok bs} is reads queue sound) settles = absurd (cc reads)
      heard-err e (session.heard {answer = Err x} is reads queue sound) settles =
          let n = named e x (cc reads) (subst IsTabled (ap (λ y. y.0) is) (tabled shape (gpu_fields_of a.request) (arrived old))) in
          inr (n.0, tells (Err x) is (Err (Protocol (error_in e))) n.1, idle-after queue (nothing-left (Err x) is) settles sound.after (sound.uncut h.uncut))
      heard-err e (session.fails d f is) settles = inl (in-place e _ (seen d) is (wants-seen (endpoint_of old) d h.sound (failed (endpoint_of old) (endpoint_of new) true d f (is-uncut (endpoint_of old) h.sound h.uncut)).1))

    pub takes-so : (r : Result T Refusal) → TakesRecord shape read old new r → Becomes sent reply value r new
    takes-so _ (session.reads a (Ok t) m asked form size hears settles) = heard-ok a asked size t hears settles
    takes-so _ (session.reads a (Err e) m asked form size hears settles) = heard-err a asked size e hears settles
    takes-so _ (session.other_size a m asked form other none queue end settles) = inr (
      refl,
      joined.replied shape awaited (enough a asked) (joined.misfits (λ is. other (announces a asked ∙ is)) refl),
      idle-after queue none settles (ap {A = End} (λ e. e.broken) end ∙ h.sound) (ap {A = End} (λ e. e.link.script) end ∙ h.uncut),
    )
    takes-so _ (session.other_form kept asked other same) = let is : h.kept ≡ kept = cc (sym h.asked ∙ asked) in absurd (other (kept-form sent kept shape (subst (Keeps sent) is h.keeps) awaited))
    takes-so _ (session.nothing_asked asked same) = absurd (cc (sym asked ∙ h.asked))
    takes-so _ (session.not_yet some same) = absurd (let none : missing_of old ≡ 0 = h.whole in omega (arith, some, none))

  -- no reply was awaited
  pub unawaited-so : old.asked ≡ Some None → endpoint_of new ≡ endpoint_of old → queued new ≡ queued old → Settles old new → AnswersSent sent reply (Ok answer.Nothing) × IsIdle new
  unawaited-so asked end queue settles = (
    joined.unawaited (let is : h.kept ≡ None = cc (sym h.asked ∙ asked) in subst (Keeps sent) is h.keeps) refl,
    record {
      queue = queue ∙ h.queue;
      came = ap {A = End} stream end ∙ h.coming.came ∙ ap (λ n. plain (take n reply)) none;
      asked = settles.asked;
      mark = settles.mark ∙ h.mark;
      sound = ap {A = End} (λ e. e.broken) end ∙ h.sound;
      uncut = ap {A = End} (λ e. e.link.script) end ∙ h.uncut;
    },
  )
    where
      none : h.at ≡ 0
      none = let few : h.at ≤ 0 = subst (λ x. h.at ≤ read_for x reply) asked h.coming.few in omega (arith, few)

-- ---- by its form

-- What an answer without a value becomes.
abbrev pub BecomesAs : GpuSent PlainHandle → List ℕ → DisplayAnswer → Result ⊤ Refusal → Display → Type 0
BecomesAs sent reply value (Ok done) new = AnswersSent sent reply (Ok value) × IsIdle new
BecomesAs sent reply value (Err r) new = Refuses sent reply r new

module _ (sent : GpuSent PlainHandle) (reply : List ℕ) (old new : Display) (h : IsHeard sent reply old) where
  -- a record that is written to a place
  pub placed-so : {T : Type 0} (shape : GpuReply) → sent.awaited ≡ Some shape → (read : List ℕ → T) (text : T → List ℕ) (make : List ℕ → DisplayAnswer) → ((bs : List ℕ) → make (text (read bs)) ≡ value_of shape bs)
      → (before after : List ℕ) → length before ≡ gpu_record_size shape → (r : Result ⊤ Refusal) → TakesTo shape read text before after old new r → BecomesAs sent reply (make after) r new
  placed-so shape awaited read text make agrees before after long _ (session.taken t takes is) =
      let b = takes-so sent reply old new h shape awaited read (λ t. make (text t)) agrees (Ok t) takes in
      let whole : after ≡ text t = is ∙ ap (λ xs. text t ++ xs) (drop_all (gpu_record_size shape) before (let all : length before ≤ gpu_record_size shape = omega (arith, long) in all)) ∙ append-nil (text t) in (
        subst (λ xs. AnswersSent sent reply (Ok (make xs))) (sym whole) b.0,
        b.1,
      )
  placed-so shape awaited read text make agrees before after long _ (session.not_taken r room takes same) = takes-so sent reply old new h shape awaited read (λ t. make (text t)) agrees (Err r) takes
  placed-so shape awaited read text make agrees before after long _ (session.no_room lacks same still) = absurd (omega (arith, long, lacks))

  -- no value
  pub empty-so : ((shape : GpuReply) → sent.awaited ≡ Some shape → shape ≡ TheEmpty) → (r : Result ⊤ Refusal) → session.Takes old new r → BecomesAs sent reply answer.Nothing r new
  empty-so empty _ (session.not_awaited asked end queue settles) = unawaited-so sent reply old new h asked end queue settles
  empty-so empty r (session.takes awaited takes) = by h.kept h.keeps h.asked
    where
      plainly : (r : Result ⊤ Refusal) → Becomes sent reply (λ u. answer.Nothing) r new → BecomesAs sent reply answer.Nothing r new
      plainly (Ok u) b = b
      plainly (Err r) b = b

      by : (kept : Option Awaited) → Keeps sent kept → old.asked ≡ Some kept → BecomesAs sent reply answer.Nothing r new
      by None keeps asked = absurd (awaited asked)
      by (Some a) keeps asked = plainly r (takes-so sent reply old new h TheEmpty (keeps.0 ∙ ap Some (empty (reply_in a.reply) keeps.0)) (λ bs. tt) (λ u. answer.Nothing) (λ bs. refl) r takes)

-- of all calls but three no reply has a value
pub awaits-empty : (c : gpu.GpuCall PlainHandle) (pixels : List ℕ) → ¬ (c ≡ call.GetProtocolFeatures) → ¬ (c ≡ call.GetDisplayInfo) → ((e : VhostUserGpuEdidRequest) → ¬ (c ≡ call.GetEdid e)) → (shape : GpuReply) → (gpu_row (call_in c pixels)).awaited ≡ Some shape → shape ≡ TheEmpty
awaits-empty call.GetProtocolFeatures pixels a b d shape is = absurd (a refl)
awaits-empty call.GetDisplayInfo pixels a b d shape is = absurd (b refl)
awaits-empty (call.GetEdid e) pixels a b d shape is = absurd (d e refl)
awaits-empty (call.UpdateDmabufScanout u) pixels a b d shape is = sym (cc is)
awaits-empty _ pixels a b d shape is = absurd (cc is)
