-- What a call of a program promises of a device's session of the backend channel that calls made.
use Rattle.std.proofs.Common.{◌≡◌, ◌<◌, ◌≤◌, ◌+◌, ◌-◌, ◌⊎◌, inl, inr, ℕ, ℤ, Bool, true, false, ◌&&◌, List, [], ◌∷◌, length, take as front, drop, Option, Some, None, Result, Ok, Err, refl, sym, ap, subst, ◌∙◌, arith}
use Rattle.std.specs.Global.{Global}
use Rattle.std.specs.Prelude.{Vec, ⊤, is_some, not, ◌==◌, ◌||◌, nat_lt, if◌then◌else◌}
use Rattle.vhost_message.specs.BackendReq.{backend_request_of}
use Rattle.vhost_message.specs.Header.{Header, header_of, is_reply_for}
use Rattle.vhost_message.specs.MsgHeader.{fields_of}
use Rattle.vhost_message.specs.Records.{u64_at}
use Rattle.vhost_message.specs.declared.backend_req.BackendReq.{BackendReq}
use Rattle.vhost_message.specs.declared.error.Error as declared
use Rattle.vhost_message.specs.declared.error.Error.TheVariants as code
use Rattle.vhost_message.specs.declared.io_error.IoError as io
use Rattle.vhost_message.specs.declared.io_error.IoError.TheVariants as io-code
use Rattle.vhost_protocol.specs.Error.{Error, InvalidMessage, FrontendInternalError, Raw, SocketBroken, seen}
use Rattle.vhost_protocol.specs.IoError.{IoError, Because, Of, seen_io, seen_io_result}
use Rattle.vhost_protocol.specs.JoinedReverse as input
use Rattle.vhost_protocol.specs.ReplySplit.{Received, reply_split}
use Rattle.vhost_protocol.specs.Reverse.{Backend, ReverseAsked, ReverseCall, HandleConfigChange, SharedObjectAdd, SharedObjectRemove, SharedObjectLookup, ShmemMap, ShmemUnmap, Sends, Refuses, of_number, reverse_ask, reverse_take, reverse_understood, sends_unless}
use Rattle.vhost_protocol.specs.Row.{always}
use Rattle.vhost_protocol.specs.Split.{announced}
use Rattle.vhost_protocol.specs.Stream.{Cell, has_some}
use Rattle.vhost_protocol.specs.Written.{Payload}
use Rattle.vhost_link.specs.Ends.{Ends}
use Rattle.vhost_link.specs.Mem.{event}
use Rattle.vhost_link.specs.declared.plain.PlainHandle.{PlainHandle}
use Rattle.vhost_connection.specs.Hearing.{Fails}
use Rattle.vhost_connection.specs.Memory.{stream}
use Rattle.vhost_backend_req.specs.Channel as link
use Rattle.vhost_backend_req.specs.Channel.{channel}
use Rattle.vhost_backend_req.specs.Halves.{with_flag}
use Rattle.vhost_c_common.proofs.Wanting.{is-uncut}
use Rattle.vhost_c_common.proofs.Wants.{alike, failed}
use Rattle.vhost_c_common.specs.ByNumber.{By}
use Rattle.vhost_c_common.specs.ByNumber as by
use Rattle.vhost_c_common.specs.Number.{number, error_number, outcome_number}
use Rattle.vhost_c_common.specs.Records.{handle_in}
use Rattle.vhost_c_common.specs.View.{End, IsUncut, bare}
use Rattle.vhost_c_common.specs.declared.incoming.Incoming.{Incoming}
use Rattle.vhost_c_common.specs.declared.refusal.Refusal.{Refusal}
use Rattle.vhost_c_common.specs.declared.refusal.Refusal.TheVariants as refusal
use Rattle.vhost_c_channel.specs.Asking as session
use Rattle.vhost_c_channel.specs.Asking.{Agrees, Asking, Asks, Head, Hears, LettingGo, Receiving, Refused, Sending, Settles, Stays, Takes, Unasked, arrived, endpoint_of, error_in, flag_in, missing_for, missing_of, remembers, told, view}
use Rattle.vhost_c_channel.specs.declared.asking.Channel.{Channel}
use Rattle.vhost_c_channel.specs.declared.asking.Feature.{Feature}
use Rattle.vhost_c_channel.specs.declared.asking.Feature.TheVariants as feature
use Rattle.vhost_c.specs.Calls.{AtBoth, none, some, is_named}
use Rattle.vhost_c.specs.Channel.{Agreeing, AsksBy, AsksUnless, AsksWith, OpensChannel, asks, refuses, opened, was_open, no_room}
use Rattle.vhost_c.specs.ProgramChannel.{AsksTo, Does, IsAlike, IsCalled, IsSound, Leaves, LeavesAsked, LeavesTaken, ask_refusals, asking, is_early, is_harmless, refusals}
use Rattle.vhost_c.specs.declared.places.Places.{Places}
use Rattle.vhost_c.specs.declared.places.ProgramAnswer.{ProgramAnswer}
use Rattle.vhost_c.specs.declared.program_channel.ChannelAsk.{ChannelAsk}
use Rattle.vhost_c.specs.declared.program_channel.ChannelAsk.TheVariants as ask
use Rattle.vhost_c.specs.declared.program_channel.ChannelCall.{ChannelCall}
use Rattle.vhost_c.specs.declared.program_channel.ChannelCall.TheVariants.{Open, Agree, Ask, ToSend, Missing, Receive, Take, Unclaimed, Close}
use Rattle.vhost_c.proofs.Calling as calling
use Rattle.vhost_c.proofs.Calling.{kept, on-held, promised}
use Rattle.vhost_c.proofs.AskRefusals.{seen_number, is-seen}
use Rattle.vhost_c.proofs.Programs as frontend
use Rattle.vhost_c.proofs.Refusing.{fails-sound, more-came, more-named, none-handed, none-taken, of-want}
use Rattle.vhost_c.proofs.ReplyRefusals.{cut-invalid, whole-reply}

-- what a session keeps between two calls
abbrev Kept : Type 0
Kept = Backend × Option (Option Head)

-- ---- what is so of each session that calls made

-- No call of its link is cut; it is not marked as failed; and what it counted of a reply came.
pub record IsGood (s : Channel) : Type 0 where
  pub uncut : IsUncut (endpoint_of s)
  pub unmarked : (remembers s).failed ≡ None
  pub came : is_some s.asked ≡ true → s.incoming.count ≤ length (arrived s)

abbrev pub Good : Option Channel → Type 0
Good None = ⊤
Good (Some s) = IsGood s

abbrev Promises : ChannelCall → ℕ → Option Channel → Option Channel → Type 0
Promises = calling.Promises refusals Leaves is_harmless IsSound Good

-- where there is no session
absent : (call : ChannelCall) → is_named (refusals call) 101 ≡ true → Leaves call 101 None None → Promises call 101 None None
absent call named leaves = record { named = named; leaves = λ refused. leaves; sound = λ harmless was. tt; good = tt }

-- a harmless answer is another
other : (n : ℕ) → is_harmless n ≡ true → n ≡ 16 → ⊥
other n harmless is = cc (sym (ap is_harmless is) ∙ harmless)

-- what came is as before
still-came : (s t : Channel) → arrived t ≡ arrived s → t.incoming ≡ s.incoming → s.incoming.count ≤ length (arrived s) → t.incoming.count ≤ length (arrived t)
still-came s t came incoming enough = subst (λ (i : Incoming). i.count ≤ length (arrived t)) (sym incoming) (subst (λ (cs : List (Cell PlainHandle)). s.incoming.count ≤ length cs) (sym came) enough)

-- ---- open, agree

opens : {n : ℕ} {old new : Option Channel} → OpensChannel old n new → Good old → Promises Open n old new
opens (opened {s = s} new) good = record {
  named = refl;
  leaves = λ refused. absurd (refused refl);
  sound = λ harmless was. ap {A = End} (λ e. e.broken) new.empty.end;
  good = record {
    uncut = is-uncut (endpoint_of s) (ap {A = End} (λ e. e.broken) new.empty.end) (ap {A = End} (λ e. e.link.script) new.empty.end);
    unmarked = ap {A = Backend} (λ k. k.failed) new.memory;
    came = λ waits. omega (arith, new.empty.count);
  };
}
opens was_open good = kept Open 102 refl (λ same. same) refl good
opens no_room good = kept Open 24 refl (λ same. same) refl good

abbrev Line : Type 0
Line = link.Channel Ends PlainHandle

flag-end : (f : Feature) (on : Bool) (c : Line) → (with_flag (flag_in f on) c).endpoint ≡ c.endpoint
flag-end feature.ReplyAck on c = refl
flag-end feature.ConfigChange on c = refl
flag-end feature.SharedObject on c = refl
flag-end feature.Shmem on c = refl

flag-mark : (f : Feature) (on : Bool) (c : Line) → (with_flag (flag_in f on) c).failed ≡ c.failed
flag-mark feature.ReplyAck on c = refl
flag-mark feature.ConfigChange on c = refl
flag-mark feature.SharedObject on c = refl
flag-mark feature.Shmem on c = refl

agrees : (f : Feature) (on : Bool) {n : ℕ} {old new : Option Channel} → By (Agreeing f on) old n new → Good old → Promises (Agree f on) n old new
agrees f on by.none good = absent (Agree f on) refl refl
agrees f on (by.some {s = s} {s' = t} {outcome = Ok u} (is, x)) good =
    let end : endpoint_of t ≡ endpoint_of s = ap {A = Line} (λ c. c.endpoint) x.flag ∙ flag-end f on (channel s.channel) in record {
      named = refl;
      leaves = λ refused. absurd (refused refl);
      sound = λ harmless was. ap {A = End} (λ e. e.broken) end ∙ was;
      good = record {
        uncut = alike (endpoint_of s) (endpoint_of t) (ap {A = End} (λ e. e.link.script) end) (ap {A = End} (λ e. e.broken) end) good.uncut;
        unmarked = ap {A = Line} (λ c. c.failed) x.flag ∙ flag-mark f on (channel s.channel) ∙ good.unmarked;
        came = λ waits. still-came s t (ap {A = End} stream end) x.incoming (good.came (sym (ap is_some x.asked) ∙ waits));
      };
    }
agrees f on (by.some {outcome = Err r} (is, x)) good = absurd (cc is)

-- ---- move bytes

module _ (s t : Channel) (rest : (view t).rest ≡ (view s).rest) (end : (view t).end ≡ (view s).end) where
  good-since : (is_some s.asked ≡ true → t.incoming.count ≤ length (arrived t)) → IsGood s → IsGood t
  good-since came good = record {
    uncut = alike (endpoint_of s) (endpoint_of t) (ap {A = End} (λ e. e.link.script) end) (ap {A = End} (λ e. e.broken) end) good.uncut;
    unmarked = ap {A = Kept} (λ k. k.0.failed) rest ∙ good.unmarked;
    came = λ waits. came (sym (ap {A = Kept} (λ k. is_some k.1) rest) ∙ waits);
  }

sends : (p : Places) (bs : List ℕ) (fs : List ℤ) (count : ℕ × ℕ) {n : ℕ} {old new : Option Channel} → By (Sending bs fs count) old n new → Good old → Promises (ToSend p) n old new
sends p bs fs count by.none good = absent (ToSend p) refl none
sends p bs fs count (by.some {s = s} {s' = t} {outcome = Ok u} (hands, rest)) good = record {
  named = refl;
  leaves = λ refused. absurd (refused refl);
  sound = λ harmless was. ap {A = End} (λ e. e.broken) rest.end ∙ was;
  good = good-since s t rest.rest rest.end (λ waits. still-came s t rest.came rest.incoming (good.came waits)) good;
}
sends p bs fs count (by.some {s = s} {s' = t} {outcome = Err r} (why-not, queue, rest)) good = record {
  named = none-handed (λ n. is_named (refusals (ToSend p)) n ≡ true) bs fs r refl why-not;
  leaves = λ refused. some (λ i. record { queue = queue i; came = rest.came i; incoming = rest.incoming i; end = rest.end i; rest = rest.rest i });
  sound = λ harmless was. ap {A = End} (λ e. e.broken) rest.end ∙ was;
  good = good-since s t rest.rest rest.end (λ waits. still-came s t rest.came rest.incoming (good.came waits)) good;
}

receives : (bytes : Vec ℕ Global) (fds : Vec ℤ Global) (bs : List ℕ) (fs : List ℤ) {n : ℕ} {old new : Option Channel} → By (Receiving bs fs) old n new → Good old → Promises (Receive bytes fds) n old new
receives bytes fds bs fs by.none good = absent (Receive bytes fds) refl none
receives bytes fds bs fs (by.some {s = s} {s' = t} {outcome = Ok u} ((within, takes, adds, waits), none-refused)) good = record {
  named = refl;
  leaves = λ refused. absurd (refused refl);
  sound = λ harmless was. ap {A = End} (λ e. e.broken) waits.end ∙ was;
  good = good-since s t waits.rest waits.end (λ awaited. more-came (arrived s) (arrived t) bs fs s.incoming t.incoming takes adds (good.came awaited)) good;
}
receives bytes fds bs fs (by.some {s = s} {s' = t} {outcome = Err r} ((came, incoming, waits), why-not)) good = record {
  named = none-taken (λ n. is_named (refusals (Receive bytes fds)) n ≡ true) (missing_of s) bs fs r refl refl refl why-not;
  leaves = λ refused. some (λ i. record { queue = waits.queue i; came = came i; incoming = incoming i; end = waits.end i; rest = waits.rest i });
  sound = λ harmless was. ap {A = End} (λ e. e.broken) waits.end ∙ was;
  good = good-since s t waits.rest waits.end (λ awaited. still-came s t came incoming (good.came awaited)) good;
}

-- ---- ask

-- a call that is refused by an error of the protocol: the session was marked as failed
abbrev Asked : Type 0
Asked = ReverseAsked PlainHandle

unless-number : (mark : Option ℤ) (b : Backend) (r : BackendReq) (payload : Payload) (hs : List PlainHandle) (y : Error) → sends_unless mark b r payload hs ≡ Refuses (Of y) → seen_number y ≡ 15
unless-number (Some e) b r payload hs y is = let same : SocketBroken (Raw e) ≡ y = cc is in sym (ap seen_number same)
unless-number None b r payload hs y is = absurd (cc is)

guarded : (flag : Bool) (x : Asked) (why : IoError) (y : Error) → (x ≡ Refuses (Of y) → seen_number y ≡ 15) → (why ≡ Of y → ⊥) → (if flag then x else Refuses why) ≡ Refuses (Of y) → seen_number y ≡ 15
guarded true x why y next never is = next is
guarded false x why y next never is = absurd (never (cc is))

marked : (b : Backend) (c : ReverseCall PlainHandle) (y : Error) → reverse_ask b c ≡ Refuses (Of y) → seen_number y ≡ 15
marked b HandleConfigChange y is = guarded b.config_change _ _ y (unless-number b.failed b _ _ _ y) (λ never. cc never) is
marked b (SharedObjectAdd name) y is = guarded b.shared_object _ _ y (unless-number b.failed b _ _ _ y) (λ never. cc never) is
marked b (SharedObjectRemove name) y is = guarded b.shared_object _ _ y (unless-number b.failed b _ _ _ y) (λ never. cc never) is
marked b (SharedObjectLookup name h) y is = guarded b.shared_object _ _ y (unless-number b.failed b _ _ _ y) (λ never. cc never) is
marked b (ShmemMap mapping h) y is = guarded b.shmem _ _ y (unless-number b.failed b _ _ _ y) (λ never. cc never) is
marked b (ShmemUnmap mapping) y is = guarded b.shmem _ _ y (unless-number b.failed b _ _ _ y) (λ never. cc never) is

-- a number that each ask is refused with, once its arguments made a call
abbrev IsOfAsk : ℕ → Type 0
IsOfAsk n = (is_named asking n ≡ true) × ((n == 1) ≡ false)

of-ask : (n m : ℕ) → n ≡ m → IsOfAsk m → IsOfAsk n
of-ask n m is p = subst IsOfAsk (sym is) p

module _ (c : ReverseCall PlainHandle) (s t : Channel) (good : IsGood s) where
  refuse-number : (e : io.IoError) (d : declared.Error) → IsOfAsk (error_number d) → reverse_ask (remembers s) c ≡ Refuses (seen_io e) → IsOfAsk (error_number (error_in e d))
  refuse-number (io-code.Of e) d p is = of-ask (error_number e) 15 (sym (is-seen e) ∙ marked (remembers s) c (seen e) is) (refl, refl)
  refuse-number (io-code.Raw n) d p is = p
  refuse-number (io-code.Named name) d p is = p
  refuse-number (io-code.In place e) d p is = p

  bare-uncut : IsUncut (bare (endpoint_of s))
  bare-uncut = alike (endpoint_of s) (bare (endpoint_of s)) refl refl good.uncut

  -- what is refused to ask, and what that leaves
  record Denied (n : ℕ) : Type 0 where
    is : IsOfAsk n
    uncut : IsUncut (endpoint_of t)
    sound : is_harmless n ≡ true → (endpoint_of s).broken ≡ None → (endpoint_of t).broken ≡ None

  unasked : (r : Refusal) → Unasked c s t r → Denied (number r)
  unasked _ (session.refuses e is left) = record {
    is = refuse-number e _ (refl, refl) is;
    uncut = alike (endpoint_of s) (endpoint_of t) (ap {A = End} (λ x. x.link.script) left) (ap {A = End} (λ x. x.broken) left) good.uncut;
    sound = λ harmless was. ap {A = End} (λ x. x.broken) left ∙ was;
  }
  unasked _ (session.fails {e = e} after is f left) =
      let both = failed (bare (endpoint_of s)) after false e f bare-uncut in record {
        is = of-want IsOfAsk (bare (endpoint_of s)) e (refl, refl) (refl, refl) (refl, refl) both.1;
        uncut = alike after (endpoint_of t) (ap {A = End} (λ x. x.link.script) left) (ap {A = End} (λ x. x.broken) left) both.0;
        sound = λ harmless was. ap {A = End} (λ x. x.broken) left ∙ fails-sound (bare (endpoint_of s)) after false e f bare-uncut (other (error_number e) harmless) was;
      }

  denied : (r : Refusal) → Refused c s t r → Denied (number r)
  denied _ (session.busy waits same) = record {
    is = (refl, refl);
    uncut = subst (λ x. IsUncut (endpoint_of x)) (sym same) good.uncut;
    sound = λ harmless was. ap (λ x. (endpoint_of x).broken) same ∙ was;
  }
  denied _ (session.no_memory waits same) = record {
    is = (refl, refl);
    uncut = alike (endpoint_of s) (endpoint_of t) (ap {A = End} (λ x. x.link.script) same) (ap {A = End} (λ x. x.broken) same) good.uncut;
    sound = λ harmless was. ap {A = End} (λ x. x.broken) same ∙ was;
  }
  denied _ (session.unasked {r = r} u) = unasked r u

  good-asked : Asks c s t → IsGood t
  good-asked a = record {
    uncut = is-uncut (endpoint_of t) a.sound.after (a.sound.uncut good.uncut.uncut);
    unmarked = ap {A = Backend} (λ k. k.failed) a.memory ∙ good.unmarked;
    came = λ waits. omega (arith, a.nothing_came);
  }

  good-stays : IsUncut (endpoint_of t) → Stays s t → IsGood t
  good-stays uncut x = record {
    uncut = uncut;
    unmarked = ap {A = Backend} (λ k. k.failed) x.memory ∙ good.unmarked;
    came = λ waits. let was : is_some s.asked ≡ true = sym (ap is_some x.asked) ∙ waits in still-came s t (x.came was) x.incoming (good.came was);
  }

ask-named : (what : ChannelAsk) (n : ℕ) → is_named asking n ≡ true → is_named (ask_refusals what) n ≡ true
ask-named ask.ConfigChange n p = p
ask-named (ask.ShmemUnmap mmap) n p = p
ask-named (ask.SharedObjectAdd name) n p = more-named n 1 asking p
ask-named (ask.SharedObjectRemove name) n p = more-named n 1 asking p
ask-named (ask.SharedObjectLookup name fd) n p = more-named n 1 asking p
ask-named (ask.ShmemMap mmap fd) n p = more-named n 1 asking p

asks-so : (what : ChannelAsk) (c : ReverseCall PlainHandle) {n : ℕ} {old new : Option Channel} → AsksBy c old n new → Good old → Promises (Ask what) n old new
asks-so what c by.none good = absent (Ask what) (ask-named what 101 refl) none
asks-so what c (by.some {s = s} {s' = t} {outcome = Ok u} a) good = record { named = refl; leaves = λ refused. absurd (refused refl); sound = λ harmless was. a.sound.after; good = good-asked c s t good a }
asks-so what c (by.some {s = s} {s' = t} {outcome = Err r} (why, x)) good =
    let d = denied c s t good r why in record {
      named = ask-named what (number r) d.is.0;
      leaves = λ refused. subst (λ b. LeavesAsked b (Some s) (Some t)) (sym d.is.1) (some x);
      sound = d.sound;
      good = good-stays c s t good d.uncut x;
    }

-- arguments that make no call
invalid : (what : ChannelAsk) {n : ℕ} {old new : Option Channel} → is_named (ask_refusals what) 1 ≡ true → n ≡ 1 → new ≡ old → Good old → Promises (Ask what) n old new
invalid what {n = n} {old = old} {new = new} named is same good = promised (Ask what) n 1 old new is (kept (Ask what) 1 named (λ same. same) same good)

asks-unless : (what : ChannelAsk) (bad : Type 0) (c : ReverseCall PlainHandle) {n : ℕ} {old new : Option Channel} → is_named (ask_refusals what) 1 ≡ true → AsksUnless bad c old n new → Good old → Promises (Ask what) n old new
asks-unless what bad c named (asks a) good = asks-so what c a good
asks-unless what bad c named (refuses is-bad is same) good = invalid what named is same good

asks-with : (what : ChannelAsk) (o : Option PlainHandle) (does : PlainHandle → Option Channel → ℕ → Option Channel → Type 0) {n : ℕ} {old new : Option Channel} → is_named (ask_refusals what) 1 ≡ true → ((h : PlainHandle) → does h old n new → Promises (Ask what) n old new)
    → AsksWith o does old n new → Good old → Promises (Ask what) n old new
asks-with what (Some h) does named each x good = each h x
asks-with what None does named each (is, same) good = invalid what named is same good

asks-to : (what : ChannelAsk) (n : ℕ) (old new : Option Channel) → AsksTo what old n new → Good old → Promises (Ask what) n old new
asks-to ask.ConfigChange n old new does good = asks-so ask.ConfigChange _ does good
asks-to (ask.SharedObjectAdd name) n old new does good = asks-unless (ask.SharedObjectAdd name) _ _ refl does good
asks-to (ask.SharedObjectRemove name) n old new does good = asks-unless (ask.SharedObjectRemove name) _ _ refl does good
asks-to (ask.SharedObjectLookup name fd) n old new does good = asks-with (ask.SharedObjectLookup name fd) (handle_in fd) _ refl (λ h x. asks-unless (ask.SharedObjectLookup name fd) _ _ refl x good) does good
asks-to (ask.ShmemMap mmap fd) n old new does good = asks-with (ask.ShmemMap mmap fd) (handle_in fd) _ refl (λ h x. asks-so (ask.ShmemMap mmap fd) _ x good) does good
asks-to (ask.ShmemUnmap mmap) n old new does good = asks-so (ask.ShmemUnmap mmap) _ does good

-- ---- take

none-early : (e : declared.Error) → is_early (error_number e) ≡ false
none-early e = frontend.none-early e

-- a number that to take is refused with
abbrev IsOfTake : ℕ → Type 0
IsOfTake n = is_named (refusals Take) n ≡ true

-- an answer that came whole is a number, or refused so
abbrev Fine : Result ℕ IoError → Type 0
Fine (Ok n) = ⊤
Fine (Err e) = (y : Error) × (e ≡ Of y) × IsOfTake (seen_number y)

number-fine : (n : ℕ) → Fine (of_number n)
number-fine n = go (n == 0)
  where
    go : (b : Bool) → Fine (if b then Ok 0 else Err (Of FrontendInternalError))
    go true = tt
    go false = (FrontendInternalError, refl, refl)

understood-fine : (sent : Header) (x : Result (Received PlainHandle) Error) → ((e : Error) → x ≡ Err e → e ≡ InvalidMessage) → Fine (reverse_understood sent x)
understood-fine sent (Err e) invalid = (e, refl, subst (λ y. IsOfTake (seen_number y)) (sym (invalid e refl)) refl)
understood-fine sent (Ok r) invalid = go (is_reply_for backend_request_of r.header sent && not (has_some r.handles))
  where
    go : (b : Bool) → Fine (if b then of_number (u64_at 0 r.body) else Err (Of InvalidMessage))
    go true = number-fine (u64_at 0 r.body)
    go false = (InvalidMessage, refl, refl)

taken-fine : (sent : Header) (cells : List (Cell PlainHandle)) → 20 ≤ length cells → Fine (reverse_take true sent cells).0
taken-fine sent cells many =
    understood-fine sent (reply_split (λ h. is_some (announced backend_request_of h)) 8 always 0 cells).0 (cut-invalid (λ h. is_some (announced backend_request_of h)) 8 always 0 cells many)

-- as the code's error
io-number : (e : io.IoError) (y : Error) → seen_io e ≡ Of y → error_number (error_in e code.InvalidMessage) ≡ seen_number y
io-number (io-code.Of e) y is = sym (is-seen e) ∙ ap seen_number (let same : seen e ≡ y = cc is in same)
io-number _ y is = absurd (cc is)

-- what is left of a session that took, by the number that it answers
record Took (s t : Channel) (n : ℕ) : Type 0 where
  is : IsOfTake n
  uncut : IsUncut (endpoint_of t)
  sound : is_harmless n ≡ true → (endpoint_of s).broken ≡ None → (endpoint_of t).broken ≡ None

heard-number : (e : io.IoError) → Fine (Err (seen_io e)) → IsOfTake (error_number (error_in e code.InvalidMessage))
heard-number e (y, is, named) = subst IsOfTake (sym (io-number e y is)) named

hears : (head : Head) (s t : Channel) (result : Result ℕ io.IoError) → IsGood s → 20 ≤ length (arrived s) → Hears head s t result → Took s t (outcome_number (told result))
hears head s t (Ok n) good many (session.heard took queue sound) = record { is = refl; uncut = is-uncut (endpoint_of t) sound.after (sound.uncut good.uncut.uncut); sound = λ harmless was. sound.after }
hears head s t (Err e) good many (session.heard took queue sound) = record {
  is = heard-number e (subst (λ x. Fine x.0) took (taken-fine (fields_of head) (arrived s) many));
  uncut = is-uncut (endpoint_of t) sound.after (sound.uncut good.uncut.uncut);
  sound = λ harmless was. sound.after;
}
hears head s t _ good many (session.fails {e = e} f) =
    let both = failed (endpoint_of s) (endpoint_of t) true e f good.uncut in record {
      is = of-want IsOfTake (endpoint_of s) e refl refl refl both.1;
      uncut = both.0;
      sound = λ harmless was. fails-sound (endpoint_of s) (endpoint_of t) true e f good.uncut (other (error_number e) harmless) was;
    }

not-waiting : (t : Channel) → t.asked ≡ None → is_some t.asked ≡ true → t.incoming.count ≤ length (arrived t)
not-waiting t gone waits = absurd (cc (sym (ap is_some gone) ∙ waits))

good-settled : (s t : Channel) → IsGood s → IsUncut (endpoint_of t) → Settles s t → IsGood t
good-settled s t good uncut x = record { uncut = uncut; unmarked = ap {A = Backend} (λ k. k.failed) x.memory ∙ good.unmarked; came = not-waiting t x.asked }

settled : (s t : Channel) (o : Result ⊤ Refusal) → ((r : Refusal) → o ≡ Err r → is_early (number r) ≡ false) → IsGood s → Took s t (outcome_number o) → Settles s t → Promises Take (outcome_number o) (Some s) (Some t)
settled s t (Ok u) late good x settles = record { named = x.is; leaves = λ refused. absurd (refused refl); sound = x.sound; good = good-settled s t good x.uncut settles }
settled s t (Err r) late good x settles = record { named = x.is; leaves = λ refused. subst (λ b. LeavesTaken b (Some s) (Some t)) (sym (late r refl)) (some settles); sound = x.sound; good = good-settled s t good x.uncut settles }

told-late : (result : Result ℕ io.IoError) (r : Refusal) → told result ≡ Err r → is_early (number r) ≡ false
told-late (Ok n) r is = absurd (cc is)
told-late (Err e) r is = subst (λ (q : Refusal). is_early (number q) ≡ false) (let same : refusal.Protocol (error_in e code.InvalidMessage) ≡ r = cc is in same) (none-early (error_in e code.InvalidMessage))

takes : (s t : Channel) (o : Result ⊤ Refusal) → Takes s t o → IsGood s → Promises Take (outcome_number o) (Some s) (Some t)
takes s t _ (session.read head result zero asked size hear settles) good =
    let whole : 20 ≤ s.incoming.count = whole-reply s.incoming 8 (omega arith) (sym (ap (λ a. missing_for a s.incoming) asked) ∙ zero) size in
    let came : s.incoming.count ≤ length (arrived s) = good.came (ap is_some asked) in
    settled s t (told result) (told-late result) good (hears head s t result good (omega (arith, whole, came)) hear) settles
takes s t _ (session.other_size head zero asked size came queue bare-same settles) good =
    settled s t (Err (refusal.Protocol code.InvalidMessage)) (λ r is. subst (λ (q : Refusal). is_early (number q) ≡ false) (let same : refusal.Protocol code.InvalidMessage ≡ r = cc is in same) refl) good
    (record {
      is = refl;
      uncut = alike (endpoint_of s) (endpoint_of t) (ap {A = End} (λ x. x.link.script) bare-same) (ap {A = End} (λ x. x.broken) bare-same) good.uncut;
      sound = λ harmless was. ap {A = End} (λ x. x.broken) bare-same ∙ was;
    }) settles
takes s t _ (session.not_awaited asked end queue settles) good =
    settled s t (Ok tt) (λ r is. absurd (cc is)) good
    (record {
      is = refl;
      uncut = alike (endpoint_of s) (endpoint_of t) (ap {A = End} (λ x. x.link.script) end) (ap {A = End} (λ x. x.broken) end) good.uncut;
      sound = λ harmless was. ap {A = End} (λ x. x.broken) end ∙ was;
    }) settles
takes s t _ (session.nothing_asked bare-of same) good = kept Take 104 refl (λ same. same) (ap Some same) good
takes s t _ (session.not_yet more same) good = kept Take 105 refl (λ same. same) (ap Some same) good

taken : {n : ℕ} {old new : Option Channel} → By (λ s o s'. Takes s s' o) old n new → Good old → Promises Take n old new
taken by.none good = absent Take refl refl
taken (by.some {s = s} {s' = t} {outcome = o} does) good = takes s t o does good

-- ---- descriptors

-- nothing changed but which are held
holds : (p : Places) (s t : Channel) → t ≡ record s { held = t.held } → IsGood s → Promises (Unclaimed p) 0 (Some s) (Some t)
holds p s t same good = record {
  named = refl;
  leaves = λ refused. absurd (refused refl);
  sound = λ harmless was. ap {A = Channel} (λ x. (endpoint_of x).broken) same ∙ was;
  good = good-since s t (ap {A = Channel} (λ x. (view x).rest) same) (ap {A = Channel} (λ x. (view x).end) same) (λ waits. still-came s t (ap {A = Channel} (λ x. arrived x) same) (ap {A = Channel} (λ x. x.incoming) same) (good.came waits)) good;
}

-- ---- all calls

promises : (call : ChannelCall) (a : ProgramAnswer) (old new : Option Channel) → Does call a old new → Good old → Promises call a.number old new
promises Open a old new does good = opens does good
promises (Agree f on) a old new does good = agrees f on does good
promises (Ask what) a old new does good = asks-to what a.number old new does good
promises (ToSend p) a old new does good = sends p a.places.bytes.items a.places.fds.items (a.places.byte_count, a.places.fd_count) does.0 good
promises (Missing p) a old new (is, missing, same) good = promised (Missing p) a.number 0 old new is (kept (Missing p) 0 refl (λ same. same) same good)
promises (Receive bytes fds) a old new does good = receives bytes fds bytes.items fds.items does.0 good
promises Take a old new does good = taken does good
promises (Unclaimed p) a old new does good = on-held Good (Promises (Unclaimed p)) (LettingGo p.fds.items a.places.count a.places.fds.items) (absent (Unclaimed p) refl refl) (λ s t u x. holds p s t x.1) (λ s t r x. absurd x) does good
promises Close a old new (is, gone) good = promised Close a.number 0 old new is (record { named = refl; leaves = λ refused. absurd (refused refl); sound = λ harmless was. subst IsSound (sym gone) tt; good = subst Good (sym gone) tt })

-- each call of a session that calls made is one that promises this, and leaves such a session
pub step : (call : ChannelCall) (a : ProgramAnswer) (old new : Option Channel) → Does call a old new → Good old → IsCalled call a old new × Good new
step call a old new does good = let p = promises call a old new does good in (record { does = does; named = p.named; leaves = p.leaves; sound = p.sound }, p.good)

-- a session that was sound is after a call whose answer is harmless
pub keeps-sound : (call : ChannelCall) (a : ProgramAnswer) (old new : Option Channel) → IsCalled call a old new → is_harmless a.number ≡ true → IsSound old → IsSound new
keeps-sound call a old new c harmless was = c.sound harmless was
