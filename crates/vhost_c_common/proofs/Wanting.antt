-- What the worked consequences of all sessions have in common: a request comes whole, and a call fails for want of memory alone.
use Rattle.std.proofs.Common.{◌≡◌, ◌<◌, ◌≤◌, ◌+◌, ◌-◌, ℕ, Bool, true, false, List, [], ◌∷◌, ◌++◌, length, map, min, take, drop, Option, Some, None, Result, Ok, Err, ℤ, inl, inr, refl, sym, ap, subst, ◌∙◌, arith}
use Rattle.std.specs.Prelude.{⊤, nat_lt, if◌then◌else◌, is_some}
use Rattle.std.proofs.lemmas.List.{take-append-drop}
use Rattle.vhost_message.specs.Header.{header_of}
use Rattle.vhost_message.specs.declared.cause.IoCause.TheVariants as cause
use Rattle.vhost_message.specs.declared.errno.TheConstants.{ENOMEM}
use Rattle.vhost_message.specs.declared.error.Error as declared
use Rattle.vhost_message.specs.declared.error.Error.TheVariants as code
use Rattle.vhost_protocol.specs.Error.{Error, OutOfMemory, Raw, SocketRetry, seen}
use Rattle.vhost_protocol.specs.Run.{Handles}
use Rattle.vhost_protocol.specs.Split.{Message, announced, split}
use Rattle.vhost_protocol.specs.Stream.{Cell, carrying, plain}
use Rattle.vhost_link.proofs.Cells.{plain-is}
use Rattle.vhost_link.specs.Mem.{event}
use Rattle.vhost_link.specs.declared.plain.PlainHandle.{PlainHandle}
use Rattle.vhost_connection.specs.Hearing.{Hears}
use Rattle.vhost_connection.specs.Memory.{TalksLaw, stream}
use Rattle.vhost_connection.specs.Serving.{HandlesOne, unanswered, unread}
use Rattle.vhost_c_common.proofs.Hearing.{hears-cut}
use Rattle.vhost_c_common.proofs.Wants.{IsWant, list_away, by_link, broke_before, troubled}
use Rattle.vhost_c_common.specs.Incoming.{Adds, missing_by}
use Rattle.vhost_c_common.specs.Memory.{WantsMemory}
use Rattle.vhost_c_common.specs.Moving.{TakesIn}
use Rattle.vhost_c_common.specs.Records.{handle_in}
use Rattle.vhost_c_common.specs.View.{End, GivesNone, IsUncut, TakesNone}
use Rattle.vhost_c_common.specs.declared.incoming.Incoming.{Incoming}
use Rattle.vhost_c_common.specs.declared.refusal.Refusal.{Refusal}
use Rattle.vhost_c_common.specs.declared.refusal.Refusal.TheVariants.{Protocol, TooManyBytes}

-- ---- memory was refused

-- to an end that was not broken before
pub wants : (old : End) (e : declared.Error) → old.broken ≡ None → IsWant old e → WantsMemory (Protocol e)
wants old _ sound (list_away is) = tt
wants old _ sound by_link = refl
wants old _ sound (broke_before at) = absurd (cc (sym sound ∙ at))

-- as the definitions see such an error
abbrev pub Wanting : Error → Type 0
Wanting OutOfMemory = ⊤
Wanting (SocketRetry c) = c ≡ Raw ENOMEM
Wanting e = ⊥

pub wanted : (e : declared.Error) → Wanting (seen e) → WantsMemory (Protocol e)
wanted (code.SocketRetry (cause.Raw n)) w = ap cause.Raw (cc w)
wanted (code.SocketRetry (cause.Named name)) w = absurd (cc w)
wanted code.OutOfMemory w = tt
wanted _ w = absurd w

pub wants-seen : (old : End) (e : declared.Error) → old.broken ≡ None → IsWant old e → Wanting (seen e)
wants-seen old _ sound (list_away is) = tt
wants-seen old _ sound by_link = refl
wants-seen old _ sound (broke_before at) = absurd (cc (sym sound ∙ at))

-- no call of it is cut
pub is-uncut : (old : End) → old.broken ≡ None → old.link.script ≡ [] → IsUncut old
is-uncut old sound script = record { uncut = script; broken = λ c at. absurd (cc (sym sound ∙ at)) }

-- bytes without a descriptor were not given to it
given : (bytes : List ℕ) (e : declared.Error) → 0 < length bytes → GivesNone bytes [] e → WantsMemory (Protocol e)
given bytes code.InvalidParam some (inl (none, fds)) = absurd (omega (arith, some, none))
given bytes code.InvalidParam some (inr (inl many)) = absurd (omega (arith, many))
given bytes code.InvalidParam some (inr (inr has)) = absurd (omega (arith, has.1))
given bytes code.OutOfMemory some is = tt
given bytes _ some is = absurd is

-- they were not received, though no more than are missing
pub untaken : (missing : ℕ) (bytes : List ℕ) (r : Refusal) → length bytes ≤ missing → 0 < length bytes → TakesNone missing bytes [] r → WantsMemory r
untaken missing bytes TooManyBytes few some more = absurd (omega (arith, few, more))
untaken missing bytes (Protocol e) few some none = given bytes e some none
untaken missing bytes _ few some none = absurd none

-- ---- a request comes whole

bare : (hs : List PlainHandle) → map handle_in [] ≡ map Some hs → hs ≡ []
bare [] is = refl
bare (h ∷ hs) is = absurd cc

-- its bytes, behind nothing
pub comes : (bytes : List ℕ) (before after : List (Cell PlainHandle)) → before ≡ [] → TakesIn bytes [] before after → after ≡ plain bytes
comes bytes before after none x =
    x.got ∙ ap (λ cs. cs ++ carrying x.handles bytes) none ∙ ap (λ hs. carrying hs bytes) (bare x.handles x.of_fds) ∙ plain-is bytes

-- the header is known, and nothing is missing where it announces no body
missing-none : {R : Type 0} (code : ℕ → Option R) (n size : ℕ) (known : Bool) → n ≡ 12 → size ≡ 0 → (if nat_lt n 12 then 12 - n else if known then 12 + size - n else 0) ≡ 0
missing-none code n size true whole none = rw (whole, none) refl
missing-none code n size false whole none = rw whole refl

module _ {R : Type 0} (code : ℕ → Option R) (bytes : List ℕ) (old new : Incoming) (nothing : old.count ≡ 0) (adds : Adds bytes old new) where
  head-is : length bytes ≡ 12 → take 12 bytes ≡ bytes → new.head ≡ bytes ++ drop 12 new.head
  head-is long all =
      let count : old.count + length bytes ≡ 12 = omega (arith, nothing, long) in
      sym (take-append-drop 12 new.head) ∙ ap (λ xs. xs ++ drop 12 new.head)
      (ap (λ k. take k new.head) (sym count) ∙ adds.head ∙ ap (λ k. take 12 (take k old.head ++ bytes)) nothing ∙ all)

  pub none-missing : length bytes ≡ 12 → take 12 bytes ≡ bytes → ((rest : List ℕ) → (header_of (bytes ++ rest)).size ≡ 0) → missing_by code new ≡ 0
  none-missing long all none =
      let count : new.count ≡ 12 = adds.count ∙ ap (λ k. min (k + length bytes) 18446744073709551615) nothing ∙ ap (λ k. min (0 + k) 18446744073709551615) long in
      missing-none code new.count (header_of new.head).size (is_some (announced code (header_of new.head))) count
      (ap (λ h. (header_of h).size) (head-is long all) ∙ none (drop 12 new.head))

-- ---- a request that came is refused

-- A handler that calls nobody for this message, as one of a session does that only reads.
module _ {R S A Dev : Type 0} (request_of : S → ℕ → Option R) (allows_handles : R → ℕ → Bool) (marked : S → Option ℤ) (kept : R → S → S → S)
    (Meets : S → Dev → Message R PlainHandle → Result A Error → List (Cell PlainHandle) → S → Dev → Type 0) (m : Message R PlainHandle) (s : S) (d : Dev)
    (nobody : (answer : Result A Error) (written : List (Cell PlainHandle)) (s' : S) (d' : Dev) → Meets s d m answer written s' d' → ⊥) where
  called : (heard : Result (Message R PlainHandle) Error) (answer : Result A Error) (written : List (Cell PlainHandle)) (s' : S) (d' : Dev) → heard ≡ Ok m → Handles request_of allows_handles marked Meets s d heard answer written s' d' → ⊥
  called (Ok n) answer written s' d' is met = nobody answer written s' d' (subst {A = Message R PlainHandle} (λ k. Meets s d k answer written s' d') (cc is) met)
  called (Err e) answer written s' d' is met = absurd (cc is)

  module _ (law : TalksLaw) (old : End) (whole : split (request_of s) allows_handles (stream old) ≡ (Ok m, [])) (sound : old.broken ≡ None) (script : old.link.script ≡ []) where
    read : (mid : End) (heard : Result (Message R PlainHandle) Error) → Hears event (split (request_of s) allows_handles) old heard mid → heard ≡ Ok m
    read mid heard hears = ap (λ x. x.0) (sym (hears-cut law (split (request_of s) allows_handles) old mid heard hears).0 ∙ whole)

    -- where it is not read, memory was refused
    pub refused-wants : (new : End) (s' : S) (d' : Dev) (e : declared.Error) → HandlesOne event request_of allows_handles marked kept Meets old s d (Err e) new s' d' → WantsMemory (Protocol e)
    refused-wants new s' d' e (inl h) = absurd (called h.heard _ h.written s' d' (read h.mid h.heard h.hears) h.handles)
    refused-wants new s' d' e (inr (unread part same still)) = wants old e sound (troubled old new e part.trouble (is-uncut old sound script))
    refused-wants new s' d' e (inr (unanswered n mid hears x)) = absurd (called (Ok n) x.answer x.written x.after d' (read mid (Ok n) hears) x.meets)
