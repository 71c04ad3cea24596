-- The reply comes back, where one is awaited, and is taken.
use Rattle.std.proofs.Common.{◌≡◌, ◌<◌, ◌≤◌, ◌⊎◌, inl, inr, ℕ, Bool, true, false, List, [], ◌++◌, length, Option, Some, None, Result, Ok, Err, refl, sym, ap, subst, ◌∙◌, arith, lit<}
use Rattle.std.specs.Prelude.{⊤, ◌&&◌, ◌==◌, is_some, if◌then◌else◌}
use Rattle.vhost_message.specs.BackendReq.{backend_request_number}
use Rattle.vhost_message.specs.Bits.{has_bit}
use Rattle.vhost_message.specs.Header.{Header, header_of}
use Rattle.vhost_message.specs.MsgHeader.{fields_of}
use Rattle.vhost_message.specs.declared.backend_req.BackendReq.{BackendReq}
use Rattle.vhost_message.specs.declared.error.Error as declared
use Rattle.vhost_message.specs.declared.error.Error.TheVariants as code
use Rattle.vhost_message.specs.declared.io_error.IoError as io
use Rattle.vhost_message.specs.declared.io_error.IoError.TheVariants as place
use Rattle.vhost_message.specs.declared.limits.TheConstants.{MAX_MSG_TEXT}
use Rattle.vhost_protocol.specs.Error.{Error, FrontendInternalError, PartialMessage}
use Rattle.vhost_protocol.specs.IoError.{IoError, Of, seen_io, seen_io_result}
use Rattle.vhost_protocol.specs.Joined.{is_silent}
use Rattle.vhost_protocol.specs.JoinedReverse as input
use Rattle.vhost_protocol.specs.JoinedReverse.{ReverseInput}
use Rattle.vhost_protocol.specs.Reverse.{of_number, reverse_answer, reverse_take}
use Rattle.vhost_protocol.specs.Served as protocol
use Rattle.vhost_protocol.specs.Served.{Silent, Replied}
use Rattle.vhost_protocol.specs.Stream.{Cell, bytes}
use Rattle.vhost_protocol.specs.Written.{U64, Written, head_of, header_flags, reply_to as to_reply, written_text}
use Rattle.vhost_link.specs.declared.plain.PlainHandle.{PlainHandle}
use Rattle.vhost_connection.specs.Memory.{stream}
use Rattle.vhost_c_common.proofs.Wanting.{is-uncut, wants}
use Rattle.vhost_c_common.proofs.Wants.{failed}
use Rattle.vhost_c_common.specs.Incoming.{missing_in}
use Rattle.vhost_c_common.specs.Memory.{WantsMemory}
use Rattle.vhost_c_common.specs.View.{End}
use Rattle.vhost_c_common.specs.declared.incoming.Incoming.{Incoming}
use Rattle.vhost_c_common.specs.declared.refusal.Refusal.{Refusal}
use Rattle.vhost_c_common.specs.declared.refusal.Refusal.TheVariants.{Protocol}
use Rattle.vhost_c_channel.specs.Asking as asking
use Rattle.vhost_c_channel.specs.Asking.{Head, Hears, Keeps, Takes, endpoint_of, error_in, lacks, missing_for}
use Rattle.vhost_c_channel_joined.specs.Crossing.{Holds, IsAsked, IsNumber, IsReturned, Returning, is_want, reply_to}
use Rattle.vhost_c_channel_joined.specs.Joined.{IsAnswer}
use Rattle.vhost_c_channel.specs.Serving as serving
use Rattle.vhost_c_channel_joined.specs.Wire.{CarryDescriptors, HasCome, IsOnWay, IsOver, IsTold, Moves, Stops}
use Rattle.vhost_c_channel.specs.declared.asking.Channel.{Channel}
use Rattle.vhost_c_channel_joined.specs.declared.joined.DoneCall.{DoneCall}
use Rattle.vhost_c_channel.specs.declared.serving.ChannelServer.{ChannelServer}
use Rattle.vhost_c_channel_joined.specs.declared.wire.Halt.{Halt}
use Rattle.vhost_c_channel_joined.specs.declared.wire.Halt.TheVariants as halt
use Rattle.vhost_c_channel_joined.proofs.Messages.{few-written, served-taken, small-number}
use Rattle.vhost_c_channel_joined.proofs.Missing.{reply-told, whole-header}
use Rattle.vhost_c_channel_joined.proofs.Pieces.{carrying-have}
use Rattle.vhost_c_channel_joined.proofs.Sending.{Asker, Served, nothing-came, want-true}

abbrev Wrote : Type 0
Wrote = protocol.Served PlainHandle

never : 0 < 0 → ⊥
never wrong = omega (arith, wrong)

-- ---- what is heard

-- 0, that the frontend failed, or nothing
data Heard : Result ℕ IoError → Type 0 where
  fine : Heard (Ok 0)
  refused : Heard (Err (Of FrontendInternalError))
  unheard : Heard (Err (Of PartialMessage))

number-heard : (n : ℕ) → Heard (of_number n)
number-heard n = by (n == 0)
  where
    by : (b : Bool) → Heard (if b then Ok 0 else Err (Of FrontendInternalError))
    by true = fine
    by false = refused

from_some : Result ℕ IoError → Option (Result ℕ IoError) → Result ℕ IoError
from_some a None = a
from_some a (Some b) = b

heard-so : (awaited : Bool) (served : Wrote) (heard : Result ℕ IoError) → IsNumber served → reverse_answer awaited served ≡ Some heard → Heard heard
unfolding from_some
heard-so false Silent heard number known = subst Heard (ap (from_some (Ok 0)) known) fine
heard-so true Silent heard number known = subst Heard (ap (from_some (Ok 0)) known) unheard
heard-so true (Replied (U64 n) []) heard number known = subst Heard (ap (from_some (Ok 0)) known) (number-heard n)
heard-so false (Replied (U64 n) []) heard number known = absurd (cc known)
heard-so awaited _ heard number known = absurd number

-- an error of the protocol has its own answer
of-error : (e : io.IoError) (x : Error) (a b : declared.Error) → seen_io e ≡ Of x → error_in e a ≡ error_in e b
of-error (place.Of d) x a b is = refl
of-error (place.Raw n) x a b is = absurd (cc is)
of-error (place.Named name) x a b is = absurd (cc is)
of-error (place.In name d) x a b is = absurd (cc is)

answer-so : (i : ReverseInput PlainHandle) (result : Result ℕ io.IoError) (heard : Result ℕ IoError) → Heard heard → seen_io_result result ≡ heard → IsAnswer i (asking.told result) heard
answer-so i (Ok n) _ fine is = refl
answer-so i (Ok n) _ refused is = absurd (cc is)
answer-so i (Ok n) _ unheard is = absurd (cc is)
answer-so i (Err e) _ fine is = absurd (cc is)
answer-so i (Err e) _ refused is =
    let same : seen_io e ≡ Of FrontendInternalError = cc is in
    (e, sym is, of-error e FrontendInternalError code.InvalidMessage (code.InactiveOperation (lacks i)) same)
answer-so i (Err e) _ unheard is =
    let same : seen_io e ≡ Of PartialMessage = cc is in
    (e, sym is, of-error e PartialMessage code.InvalidMessage (code.InactiveOperation (lacks i)) same)

-- none of them is want of memory
unwanted-of : (e : io.IoError) (x : Error) (a : declared.Error) → seen_io e ≡ Of x → (x ≡ FrontendInternalError) ⊎ (x ≡ PartialMessage) → is_want (Protocol (error_in e a)) ≡ false
unwanted-of (place.Of code.FrontendInternalError) x a is which = refl
unwanted-of (place.Of code.PartialMessage) x a is which = refl
unwanted-of (place.Of code.OutOfMemory) x a is (inl same) = absurd (cc (is ∙ ap Of same))
unwanted-of (place.Of code.OutOfMemory) x a is (inr same) = absurd (cc (is ∙ ap Of same))
unwanted-of (place.Of (code.SocketRetry c)) x a is (inl same) = absurd (cc (is ∙ ap Of same))
unwanted-of (place.Of (code.SocketRetry c)) x a is (inr same) = absurd (cc (is ∙ ap Of same))
unwanted-of (place.Of _) x a is which = refl
unwanted-of (place.Raw n) x a is which = absurd (cc is)
unwanted-of (place.Named name) x a is which = absurd (cc is)
unwanted-of (place.In name d) x a is which = absurd (cc is)

-- ---- the reply

reply-few : (r : BackendReq) (served : Wrote) → IsNumber served → length (reply_to r served) ≤ MAX_MSG_TEXT
reply-few r Silent number = omega arith
reply-few r (Replied (U64 n) []) number = few-written (to_reply r (U64 n) []) (lit< tt)
reply-few r _ number = absurd number

reply-have : (r : BackendReq) (served : Wrote) → IsNumber served → CarryDescriptors (reply_to r served)
reply-have r Silent number = tt
reply-have r (Replied (U64 n) []) number = carrying-have [] (written_text backend_request_number (to_reply {H = PlainHandle} r (U64 n) [])) refl
reply-have r _ number = absurd number

reply-silent : (r : BackendReq) (served : Wrote) → IsNumber served → reply_to r served ≡ [] → served ≡ Silent
reply-silent r Silent number none = refl
reply-silent r (Replied (U64 n) []) number none = absurd (cc none)
reply-silent r _ number none = absurd number

-- of it so much is missing as its header tells
reply-is-told : (w : Written BackendReq PlainHandle) (awaited : Bool) (asked : Option (Option Head)) (served : Wrote) (heard : Result ℕ IoError) → Keeps w awaited asked → IsNumber served → reverse_answer awaited served ≡ Some heard
    → (reply_to w.request served ≡ []) ⊎ IsTold (reply_to w.request served) (missing_for asked)
reply-is-told w awaited asked Silent heard keeps number known = inl refl
reply-is-told w true asked (Replied (U64 n) []) heard keeps number known =
    inr (subst (λ o. IsTold (reply_to w.request (Replied (U64 n) [])) (missing_for o)) (sym keeps.1) (reply-told (to_reply w.request (U64 n) []) (small-number w.request) (lit< tt)))
reply-is-told w false asked (Replied (U64 n) []) heard keeps number known = absurd (cc known)
reply-is-told w awaited asked _ heard keeps number known = absurd number

module _ (w : Written BackendReq PlainHandle) (awaited : Bool) (served : Wrote) (heard : Result ℕ IoError) (failed_ : Bool) (s : Channel) (t : ChannelServer) (asked : IsAsked w awaited s) (plain : w.reply ≡ false) (holds : Holds (reply_to w.request served) t) (number : IsNumber served)
    (known : reverse_answer awaited served ≡ Some heard) where
  abbrev cells : List (Cell PlainHandle)
  cells = reply_to w.request served

  pub told : (cells ≡ []) ⊎ IsTold cells (missing_for s.asked)
  told = reply-is-told w awaited s.asked served heard asked.keeps number known

  pub on-way : IsOnWay cells (serving.view t) (asking.view s)
  on-way = record {
    whole = ap (λ xs. xs ++ serving.queued t) asked.came ∙ holds.queue;
    few = reply-few w.request served number;
    descriptors = reply-have w.request served number;
    has = nothing-came (asking.arrived s) s.incoming asked.came asked.count;
  }

  -- where bytes are missing, a reply is awaited
  is-awaited : (a : Bool) → Keeps w a s.asked → (i : Incoming) → 0 < missing_for s.asked i → a ≡ true
  is-awaited true keeps i some = refl
  is-awaited false keeps i some = absurd (never (subst (λ o. 0 < missing_for o i) keeps some))

  pub stops : (s1 : Channel) (t1 : ChannelServer) (h : Halt) → Stops (missing_for s.asked) cells h × Moves (serving.view t) (asking.view s) (serving.view t1) (asking.view s1) → Returning awaited served heard failed_ s t (Err h) s1 t1
  stops s1 t1 (halt.WantsMemory why) (stop, moves) = stop
  stops s1 t1 halt.Silent (stop, moves) = (
    is-awaited awaited asked.keeps stop.1 stop.3,
    reply-silent w.request served number stop.0,
    ap {A = Asker} (λ k. k.0) moves.waits.rest,
    ap (λ (k : Served). k.0) moves.hands.rest,
  )

  -- ---- it is taken

  module _ (s1 s2 : Channel) (t1 : ChannelServer) (over : IsOver (missing_for s.asked) cells (serving.view t) (asking.view s) (serving.view t1) (asking.view s1)) where
    asked1 : s1.asked ≡ s.asked
    asked1 = ap {A = Asker} (λ k. k.1) over.moves.waits.rest

    memory1 : asking.remembers s1 ≡ asking.remembers s
    memory1 = ap {A = Asker} (λ k. k.0) over.moves.waits.rest

    sound1 : (endpoint_of s1).broken ≡ None
    sound1 = ap {A = End} (λ e. e.broken) over.moves.waits.end ∙ asked.sound

    uncut1 : (endpoint_of s1).link.script ≡ []
    uncut1 = ap {A = End} (λ e. e.link.script) over.moves.waits.end ∙ asked.uncut

    queue1 : asking.queued s1 ≡ []
    queue1 = over.moves.waits.queue ∙ asked.queue

    missing1 : asking.missing_of s1 ≡ 0
    missing1 = ap (λ o. missing_for o s1.incoming) asked1 ∙ over.whole

    keeps1 : Keeps w awaited s1.asked
    keeps1 = subst (λ o. Keeps w awaited o) (sym asked1) asked.keeps

    -- all of its header is missing before anything came
    all-missing : (i : Incoming) → i.count ≡ 0 → missing_in i ≡ 12
    all-missing i zero = rw zero refl

    -- a reply that is awaited came
    spoke : (a : Bool) (x : Wrote) → a ≡ true → awaited ≡ a → served ≡ x → x ≡ Silent → ⊥
    spoke a x on same is silent =
        let none : cells ≡ [] = ap (reply_to w.request) (is ∙ silent) in
        let zero : s1.incoming.count ≡ 0 = (subst (λ xs. HasCome (bytes xs) s1.incoming) none over.has).count in
        let keeps : Keeps w true s.asked = subst (λ b. Keeps w b s.asked) (same ∙ on) asked.keeps in
        let whole : missing_in s1.incoming ≡ 0 = ap (λ o. missing_for o s1.incoming) (sym keeps.1) ∙ over.whole in
        unlikely s1.incoming zero whole
      where
        unlikely : (i : Incoming) → i.count ≡ 0 → missing_in i ≡ 0 → ⊥
        unlikely i zero whole = cc (sym (all-missing i zero) ∙ whole)

    -- What was taken.
    pub record Took (outcome : Result ⊤ Refusal) : Type 0 where
      pub answer : (i : ReverseInput PlainHandle) → IsAnswer i outcome heard
      pub unasked : s2.asked ≡ None
      pub queue : asking.queued s2 ≡ []
      pub came : asking.arrived s2 ≡ []
      pub sound : (endpoint_of s2).broken ≡ None
      pub uncut : (endpoint_of s2).link.script ≡ []
      pub memory : asking.remembers s2 ≡ asking.remembers s

    abbrev Wanted : Result ⊤ Refusal → Type 0
    Wanted (Ok done) = ⊥
    Wanted (Err r) = WantsMemory r

    -- where none is awaited there is none
    unsent : (x : Wrote) → IsNumber x → reverse_answer false x ≡ Some heard → (x ≡ Silent) × (heard ≡ Ok 0)
    unfolding from_some
    unsent Silent number known = (refl, sym (ap (from_some (Ok 0)) known))
    unsent (Replied (U64 n) []) number known = absurd (cc known)
    unsent _ number known = absurd number

    hears : (head : Head) (result : Result ℕ io.IoError) (a : Bool) → awaited ≡ a → Keeps w a s1.asked → s1.asked ≡ Some (Some head) → Hears head s1 s2 result → (s2.asked ≡ None) × (asking.remembers s2 ≡ asking.remembers s1) → Took (asking.told result) ⊎ Wanted (asking.told result)
    hears head result false same keeps is h settles = absurd (cc (sym keeps ∙ is))
    hears head result true same keeps is (asking.heard came queue stays) settles =
        let mine : head ≡ keeps.0 = (let both : Some (Some head) ≡ Some (Some keeps.0) = sym is ∙ keeps.1 in cc both) in
        let fields : fields_of head ≡ head_of backend_request_number w = ap {A = Head} fields_of mine ∙ keeps.2 in
        let flags : has_bit (header_flags w.reply w.need_reply) 2 ≡ false = ap (λ b. has_bit (header_flags b w.need_reply) 2) plain ∙ plain-flags w.need_reply in
        let taken : reverse_take true (head_of backend_request_number w) cells ≡ (heard, []) = served-taken w.request true (head_of backend_request_number w) served heard refl flags number (subst (λ b. reverse_answer b served ≡ Some heard) same known) in
        let both : (seen_io_result result, asking.arrived s2) ≡ (heard, []) = sym came ∙ (λ i. reverse_take true (fields i) (over.came i)) ∙ taken in
        inl (record {
          answer = λ i. answer-so i result heard (heard-so awaited served heard number known) (ap (λ x. x.0) both);
          unasked = settles.0;
          queue = queue ∙ queue1;
          came = ap (λ x. x.1) both;
          sound = stays.after;
          uncut = stays.uncut uncut1;
          memory = settles.1 ∙ memory1;
        })
      where
        plain-flags : (b : Bool) → has_bit (header_flags false b) 2 ≡ false
        plain-flags true = refl
        plain-flags false = refl
    hears head _ true same keeps is (asking.fails {e = e} f) settles = inr (wants (endpoint_of s1) e sound1 (failed (endpoint_of s1) (endpoint_of s2) true e f (is-uncut (endpoint_of s1) sound1 uncut1)).1)

    quiet : (a : Bool) → awaited ≡ a → Keeps w a s1.asked → s1.asked ≡ Some None → endpoint_of s2 ≡ endpoint_of s1 → asking.queued s2 ≡ asking.queued s1 → (s2.asked ≡ None) × (asking.remembers s2 ≡ asking.remembers s1) → Took (Ok tt)
    quiet true same keeps is end queue settles = absurd (cc (sym keeps.1 ∙ is))
    quiet false same keeps is end queue settles =
        let u = unsent served number (subst (λ b. reverse_answer b served ≡ Some heard) same known) in
        record {
          answer = λ i. u.1;
          unasked = settles.0;
          queue = queue ∙ queue1;
          came = ap {A = End} stream end ∙ over.came ∙ ap (reply_to w.request) u.0;
          sound = ap {A = End} (λ e. e.broken) end ∙ sound1;
          uncut = ap {A = End} (λ e. e.link.script) end ∙ uncut1;
          memory = settles.1 ∙ memory1;
        }

    -- a reply has the size of a number
    sized : (a : Bool) (x : Wrote) → awaited ≡ a → served ≡ x → IsNumber x → Keeps w a s1.asked → (head : Head) → s1.asked ≡ Some (Some head) → (header_of s1.incoming.head).size ≡ 8
    sized false x same is small keeps head has = absurd (cc (sym keeps ∙ has))
    sized true Silent same is small keeps head has = absurd (spoke true Silent refl same is refl)
    sized true (Replied (U64 n) []) same is small keeps head has =
        ap {A = Header} (λ h. h.size) (whole-header (to_reply w.request (U64 n) []) (small-number w.request) (lit< tt) s1.incoming (subst (λ xs. HasCome (bytes xs) s1.incoming) (ap (reply_to w.request) is) over.has))
    sized true _ same is small keeps head has = absurd small

    asked-some : (a : Bool) → Keeps w a s1.asked → s1.asked ≡ None → ⊥
    asked-some true keeps none = cc (sym keeps.1 ∙ none)
    asked-some false keeps none = cc (sym keeps ∙ none)

    took : (outcome : Result ⊤ Refusal) → Takes s1 s2 outcome → Took outcome ⊎ Wanted outcome
    took _ (asking.read head result whole is size h settles) = hears head result awaited refl keeps1 is h (settles.asked, settles.memory)
    took _ (asking.other_size head whole is size none queue end settles) = absurd (size (sized awaited served refl refl number keeps1 head is))
    took _ (asking.not_awaited is end queue settles) = inl (quiet awaited refl keeps1 is end queue (settles.asked, settles.memory))
    took _ (asking.nothing_asked none same) = absurd (asked-some awaited keeps1 none)
    took _ (asking.not_yet some same) = absurd (never (subst (λ n. 0 < n) missing1 some))

    -- ---- it is done

    -- the run stops exactly where nobody hears of the error
    last-so : (a : Bool) (x : Wrote) (n : ℕ) → awaited ≡ a → served ≡ x → IsNumber x → reverse_answer a x ≡ Some heard → n ≡ asking.missing_of s → Keeps w a s.asked → (failed_ && (n == 0)) ≡ (failed_ && is_silent x)
    last-so true Silent n same is small knows missing keeps = absurd (spoke true Silent refl same is refl)
    last-so true (Replied (U64 k) []) n same is small knows missing keeps =
        ap (λ j. failed_ && (j == 0)) (missing ∙ ap (λ o. missing_for o s.incoming) keeps.1 ∙ all-missing s.incoming asked.count)
    last-so false Silent n same is small knows missing keeps = ap (λ j. failed_ && (j == 0)) (missing ∙ ap (λ o. missing_for o s.incoming) keeps)
    last-so false (Replied (U64 k) []) n same is small knows missing keeps = absurd (cc knows)
    last-so a _ n same is small knows missing keeps = absurd small

    returned : (done : DoneCall) (n : ℕ) → n ≡ asking.missing_of s → done.last ≡ (failed_ && (n == 0)) → Took done.outcome → IsReturned served heard failed_ s t done s2 t1
    returned done n missing last k = record {
      answer = k.answer;
      last = last ∙ last-so awaited served n refl refl number known missing asked.keeps;
      unasked = k.unasked;
      queue = k.queue;
      came = k.came;
      sound = k.sound;
      uncut = k.uncut;
      memory = k.memory;
      server = ap (λ (k : Served). k.0) over.moves.hands.rest;
      holds = record {
        queue = over.queue;
        came = over.moves.hands.came ∙ holds.came;
        idle = ap (λ (k : Served). is_some k.1) over.moves.hands.rest ∙ holds.idle;
        count = ap (λ (i : Incoming). i.count) over.moves.hands.incoming ∙ holds.count;
        sound = ap {A = End} (λ e. e.broken) over.moves.hands.end ∙ holds.sound;
        uncut = ap {A = End} (λ e. e.link.script) over.moves.hands.end ∙ holds.uncut;
      };
    }

    pub taken-fine : (n : ℕ) → n ≡ asking.missing_of s → (last : Bool) → last ≡ (failed_ && (n == 0)) → Takes s1 s2 (Ok tt) → IsReturned served heard failed_ s t (record { outcome = Ok tt; last = last }) s2 t1
    taken-fine n missing last is takes = by (took (Ok tt) takes)
      where
        by : Took (Ok tt) ⊎ Wanted (Ok tt) → IsReturned served heard failed_ s t (record { outcome = Ok tt; last = last }) s2 t1
        by (inl k) = returned (record { outcome = Ok tt; last = last }) n missing is k
        by (inr w) = absurd w

    pub taken-refused : (n : ℕ) → n ≡ asking.missing_of s → (last : Bool) → last ≡ (failed_ && (n == 0)) → (why : Refusal) → is_want why ≡ false → Takes s1 s2 (Err why) → IsReturned served heard failed_ s t (record { outcome = Err why; last = last }) s2 t1
    taken-refused n missing last is why free takes = by (took (Err why) takes)
      where
        by : Took (Err why) ⊎ Wanted (Err why) → IsReturned served heard failed_ s t (record { outcome = Err why; last = last }) s2 t1
        by (inl k) = returned (record { outcome = Err why; last = last }) n missing is k
        by (inr w) = absurd (cc (sym (want-true why w) ∙ free))

    -- an answer is no want of memory
    answer-free : (why : Refusal) → IsAnswer (input.SetReplyAck true) (Err why) heard → is_want why ≡ false
    answer-free (Protocol e) (x, is, told) = by heard (heard-so awaited served heard number known) is
      where
        by : (r : Result ℕ IoError) → Heard r → r ≡ Err (seen_io x) → is_want (Protocol e) ≡ false
        by _ fine is = absurd (cc is)
        by _ refused is = let same : seen_io x ≡ Of FrontendInternalError = cc (sym is) in ap (λ d. is_want (Protocol d)) told ∙ unwanted-of x FrontendInternalError _ same (inl refl)
        by _ unheard is = let same : seen_io x ≡ Of PartialMessage = cc (sym is) in ap (λ d. is_want (Protocol d)) told ∙ unwanted-of x PartialMessage _ same (inr refl)
    answer-free _ is = absurd is

    pub taken-wants : (why : Refusal) → is_want why ≡ true → Takes s1 s2 (Err why) → WantsMemory why
    taken-wants why want takes = by (took (Err why) takes)
      where
        by : Took (Err why) ⊎ Wanted (Err why) → WantsMemory why
        by (inl k) = absurd (cc (sym (answer-free why (k.answer (input.SetReplyAck true))) ∙ want))
        by (inr w) = w
