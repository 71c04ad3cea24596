-- A frontend's calls one after another: features that came leave the list of handles, and with it no call wants memory.
use Rattle.std.proofs.Common.{◌≡◌, ℕ, List, [], ◌∷◌, take, drop, Bool, true, false, Option, Some, None, Result, Ok, Err, IfOk, refl, sym, ap, subst, ◌∙◌}
use Rattle.std.specs.Prelude.{◌+◌, ◌&&◌, not, if◌then◌else◌}
use Rattle.vhost_message.specs.MsgHeader.{fields_of}
use Rattle.vhost_message.specs.Bits.{has_bit}
use Rattle.vhost_message.specs.Header.{Header, header_of}
use Rattle.vhost_message.specs.Records.{u64_at}
use Rattle.vhost_message.specs.declared.limits.TheConstants.{MSG_HEADER_SIZE}
use Rattle.vhost_message.specs.declared.error.Error as declared
use Rattle.vhost_message.specs.declared.error.Error.TheVariants.{OutOfMemory}
use Rattle.vhost_protocol.specs.AnswerTable.{Answered, answered, answer}
use Rattle.vhost_protocol.specs.Ask as asks
use Rattle.vhost_protocol.specs.Error.{Error, InvalidParam, InvalidMessage, PartialMessage, seen}
use Rattle.vhost_protocol.specs.FrontendCall.{Frontend, GetFeatures, Number, Value}
use Rattle.vhost_protocol.specs.declared.profile.Profile.{Profile}
use Rattle.vhost_protocol.specs.declared.profile.Profile.TheVariants.{Vhost, Standard}
use Rattle.vhost_protocol.specs.ReplySplit.{Received, reply_split, received, whole_split, is_right, apart, parted, then_made, has_size}
use Rattle.vhost_protocol.specs.Served.{Replied}
use Rattle.vhost_protocol.specs.Stream.{Cell, bytes, first_handles, has_some, is_shorter}
use Rattle.vhost_protocol.specs.Take.{is_known, is_valid_record, answers, understood, take as takes, take_reply, reply_cut}
use Rattle.vhost_protocol.specs.Written.{U64}
use Rattle.vhost_protocol.specs.declared.asked.Awaited.{Awaited}
use Rattle.vhost_protocol.specs.declared.asked.Awaited.TheVariants.{Reply}
use Rattle.vhost_protocol.specs.declared.asked.Shape.TheVariants as shape
use Rattle.vhost_link.specs.Law.{Event}
use Rattle.vhost_connection.specs.Hearing.{Fails}
use Rattle.vhost_connection.specs.Hearing.Fails.{was_broken, no_memory, fault}
use Rattle.vhost_connection.specs.Talk.{State}
use Rattle.vhost_frontend.specs.Whole.{Whole}
use Rattle.vhost_frontend.specs.Whole.Calls.{ended, answered as replied}
use Rattle.vhost_frontend_core.specs.Asking as core
use Rattle.vhost_frontend_core.specs.Asking.Asks.{refuses, goes, fails}
use Rattle.vhost_frontend_core.specs.Frontend.{endpoint_of, session_of, awaits}
use Rattle.vhost_frontend_core.specs.Taking.{Reads, Takes}
use Rattle.vhost_frontend_core.specs.Taking.Reads.{unread, read}
use Rattle.vhost_frontend_core.specs.Taking.Takes.{taken, stopped}
use Rattle.vhost_frontend_core.specs.declared.asked.Sent.{Sent}
use Rattle.vhost_frontend_core.specs.declared.internal.FrontendInternal.{FrontendInternal}
use Rattle.vhost_promises.proofs.TwoCalls.{no-want as no-memory}
use Rattle.vhost_promises.specs.Calls.{is_fault}
use Rattle.vhost_promises.proofs.Calls.{splits-all}

-- an answer is a value
abbrev success_in : {H : Type 0} → Result (Value H) Error → Bool
success_in (Ok v) = true
success_in (Err e) = false

abbrev is_success : {H : Type 0} → Option (Answered H) → Bool
is_success None = false
is_success (Some x) = success_in x.result

-- it is an error that a link or want of memory may bring
abbrev want_in : {H : Type 0} → Result (Value H) Error → Bool
want_in (Ok v) = false
want_in (Err e) = is_fault e

abbrev is_want : {H : Type 0} → Option (Answered H) → Bool
is_want None = false
is_want (Some x) = want_in x.result

-- no reply is such an error, and one that came has the handles of its first byte
record Fits {H : Type 0} (hs : List H) (o : Result (Received H) Error) : Type 0 where
  pub handles : IfOk o (λ r. r.handles ≡ hs)
  pub sound : (sent : Header) (f : Frontend) → is_want (understood GetFeatures (Reply shape.U64) sent f o) ≡ false

-- features come without a handle
module _ {H : Type 0} (sent : Header) (f : Frontend) where
  by-handles : (ok : Bool) (n : ℕ) (hs : List H) → is_success (if ok then answer GetFeatures (Reply shape.U64) f (Replied (U64 n) hs) else Some (answered f (Err InvalidMessage))) ≡ true → has_some hs ≡ false
  by-handles true n [] is = refl
  by-handles true n (h ∷ hs) is = absurd cc
  by-handles false n hs is = absurd cc

  no-want : (ok : Bool) (n : ℕ) (hs : List H) → is_want (if ok then answer GetFeatures (Reply shape.U64) f (Replied (U64 n) hs) else Some (answered f (Err InvalidMessage))) ≡ false
  no-want true n [] = refl
  no-want true n (h ∷ hs) = refl
  no-want false n hs = refl

by-tests : {H : Type 0} (hs : List H) (short fits : Bool) (r : Received H) (rest : List (Cell H)) → r.handles ≡ hs
    → Fits hs (if◌then◌else◌ {A = Result (Received H) Error × List (Cell H)} short (Err PartialMessage, []) (if fits then (Ok r, rest) else (Err InvalidMessage, rest))).0
by-tests hs true fits r rest same = record { handles = tt; sound = λ sent f. refl }
by-tests hs false true r rest same = record { handles = same; sound = λ sent f. no-want sent f (answers sent r.header && true) (u64_at 0 r.body) r.handles }
by-tests hs false false r rest same = record { handles = tt; sound = λ sent f. refl }

-- the same of one that is read by its header
by-header : {H : Type 0} (hs : List H) (short unknown cut : Bool) (behind : List (Cell H)) (r : Received H) (rest : List (Cell H)) → r.handles ≡ hs
    → Fits hs (then_made is_known (parted is_known 8 (is_valid_record shape.U64) 0) (if◌then◌else◌ {A = Result (Received H) Error × List (Cell H)} short (Err PartialMessage, [])
    (if unknown then (Err InvalidMessage, behind) else if cut then (Err PartialMessage, []) else (Ok r, rest)))).0
by-header hs true unknown cut behind r rest same = record { handles = tt; sound = λ sent f. refl }
by-header hs false true cut behind r rest same = record { handles = tt; sound = λ sent f. refl }
by-header hs false false true behind r rest same = record { handles = tt; sound = λ sent f. refl }
by-header hs false false false behind r rest same = go (is_right is_known 8 (is_valid_record shape.U64) 0 r)
  where
    go : (b : Bool) → Fits hs (if b then Ok (apart is_known 8 r) else Err InvalidMessage)
    go true = record { handles = same; sound = λ sent f. no-want sent f (answers sent r.header && true) (u64_at 0 (take 8 r.body)) r.handles }
    go false = record { handles = tt; sound = λ sent f. refl }

-- a reply with a number, at the front of what came
abbrev reply_in : {H : Type 0} → Profile → List (Cell H) → Result (Received H) Error
reply_in profile cells = (reply_cut shape.U64 profile 0 cells).0

fits : {H : Type 0} (profile : Profile) (cells : List (Cell H)) → Fits (first_handles cells) (reply_in profile cells)
unfolding reply_split received whole_split
fits Standard cells =
    let h = header_of (bytes (take MSG_HEADER_SIZE cells)) in
    let behind = drop MSG_HEADER_SIZE cells in
    by-header (first_handles cells) (is_shorter MSG_HEADER_SIZE cells) (not (has_size is_known 8 h)) (is_shorter h.size behind) behind (record { header = h; body = bytes (take h.size behind); payload = []; handles = first_handles cells }) (drop h.size behind) refl
fits Vhost cells =
    let h = header_of (bytes (take MSG_HEADER_SIZE cells)) in
    let body = bytes (take 8 (drop MSG_HEADER_SIZE cells)) in
    let behind = drop 8 (drop MSG_HEADER_SIZE cells) in
    by-tests (first_handles cells) (is_shorter (MSG_HEADER_SIZE + 8) cells) (is_known h && is_valid_record shape.U64 body)
    (record { header = h; body = body; payload = bytes (take 0 behind); handles = first_handles cells }) (drop 0 behind) refl

from-reply : {H : Type 0} (sent : Header) (f : Frontend) (hs : List H) (o : Result (Received H) Error) → Fits hs o → is_success (understood GetFeatures (Reply shape.U64) sent f o) ≡ true → has_some hs ≡ false
from-reply sent f hs (Ok r) x is = ap has_some (sym x.handles) ∙ by-handles sent f (answers sent r.header && true) (u64_at 0 r.body) r.handles is
from-reply sent f hs (Err e) x is = absurd cc

module _ {H : Type 0} (sent : Header) (f : Frontend) where
  abbrev taken_from : Bool → List (Cell H) → Option (Answered H) × List (Cell H)
  taken_from flag cells = if flag then (Some (answered f (Err InvalidParam)), cells) else take_reply GetFeatures shape.U64 sent f cells

  alone : (flag : Bool) (cells : List (Cell H)) → is_success (taken_from flag cells).0 ≡ true → has_some (first_handles cells) ≡ false
  alone true cells is = absurd cc
  alone false cells is = from-reply sent f (first_handles cells) (reply_in f.profile cells) (fits f.profile cells) is

  unwanted : (flag : Bool) (cells : List (Cell H)) → is_want (taken_from flag cells).0 ≡ false
  unwanted true cells = refl
  unwanted false cells = (fits f.profile cells).sound sent f

-- nothing is read only where nothing is answered
nothing-in : (H : Type 0) (profile : Profile) → reply_in {H = H} profile [] ≡ Err PartialMessage
unfolding reply_split whole_split
nothing-in H Vhost = refl
nothing-in H Standard = refl

none-unread : (H : Type 0) (sent : Header) (f : Frontend) (flag : Bool) → is_success (taken_from {H = H} sent f flag []).0 ≡ true → ⊥
none-unread H sent f true is = absurd cc
none-unread H sent f false is =
    let failed : is_success (understood {H = H} GetFeatures (Reply shape.U64) sent f (Err PartialMessage)) ≡ true = ap (λ o. is_success (understood {H = H} GetFeatures (Reply shape.U64) sent f o)) (sym (nothing-in H f.profile)) ∙ is in absurd cc

module _ {L H : Type 0} (event : L → Event H → L → Type 0) where
  -- ---- what was read

  read-listed : (sent : Header) (f : Frontend) (old : State L H) (x : Option (Answered H)) (new : State L H) → Reads event GetFeatures (Reply shape.U64) sent f old x new → is_success x ≡ true → new.list ≡ true
  read-listed sent f old x new (unread u) is = absurd (none-unread H sent f (has_bit sent.flags 2) (ap (λ (y : Option (Answered H) × List (Cell H)). is_success y.0) (u []) ∙ is))
  read-listed sent f old x new (read h) is =
      let heard = h.hears in
      let cut : takes GetFeatures (Reply shape.U64) sent f heard.cells ≡ (x, []) = splits-all (takes GetFeatures (Reply shape.U64) sent f) heard.cells heard.ended x heard.splits in
      h.list (alone sent f (has_bit sent.flags 2) heard.cells (ap (λ (y : Option (Answered H) × List (Cell H)). is_success y.0) cut ∙ is))

  read-unwanted : (sent : Header) (f : Frontend) (old : State L H) (x : Option (Answered H)) (new : State L H) → Reads event GetFeatures (Reply shape.U64) sent f old x new → is_want x ≡ true → ⊥
  read-unwanted sent f old x new (unread u) is =
      let want : is_want (takes GetFeatures (Reply shape.U64) sent f []).0 ≡ true = ap (λ (y : Option (Answered H) × List (Cell H)). is_want y.0) (u []) ∙ is in
      absurd (cc (sym want ∙ unwanted sent f (has_bit sent.flags 2) []))
  read-unwanted sent f old x new (read h) is =
      let heard = h.hears in
      let cut : takes GetFeatures (Reply shape.U64) sent f heard.cells ≡ (x, []) = splits-all (takes GetFeatures (Reply shape.U64) sent f) heard.cells heard.ended x heard.splits in
      let want : is_want (takes GetFeatures (Reply shape.U64) sent f heard.cells).0 ≡ true = ap (λ (y : Option (Answered H) × List (Cell H)). is_want y.0) cut ∙ is in
      absurd (cc (sym want ∙ unwanted sent f (has_bit sent.flags 2) heard.cells))

  -- a failure has another reason
  failing : (between : Bool) (e : declared.Error) (old new : State L H) → Fails event old between e new → old.list ≡ true → e ≡ OutOfMemory → ⊥
  failing between e old new (was_broken b same) listed is = absurd cc
  failing between e old new (no_memory b away same) listed is = absurd (cc (sym listed ∙ away))
  failing between e old new (fault c m b fell none most spent few breaks faulted kept) listed is = no-memory c is

  -- ---- whole calls

  asked-unwanted : (old : State L H) (f : Frontend) (before : Awaited) (e : declared.Error) (new : State L H) (f' : Frontend) (after : Awaited) → core.Asks event (asks.ask f GetFeatures) old f before (Err e) new f' after
      → old.list ≡ true → e ≡ OutOfMemory → ⊥
  asked-unwanted old f before e new f' after (refuses asked) listed is = absurd cc
  asked-unwanted old f before e new f' after (fails asked x) listed is = failing false e old new x listed is

  awaited-number : (old : State L H) (f : Frontend) (before : Awaited) (sent : Sent) (new : State L H) (f' : Frontend) (after : Awaited) → core.Asks event (asks.ask f GetFeatures) old f before (Ok sent) new f' after
      → (sent.awaited ≡ Reply shape.U64) × (new.list ≡ true)
  awaited-number old f before sent new f' after (goes is g) = (g.awaits ∙ cc, g.list)

  took-listed : (sent : Header) (old : State L H) (f : Frontend) (n : ℕ) (new : State L H) (f' : Frontend) → Takes event GetFeatures Number (Reply shape.U64) sent old f (Ok n) new f' → new.list ≡ true
  took-listed sent old f n new f' (taken reads) = read-listed sent f old _ new reads refl

  took-unwanted : (sent : Header) (old : State L H) (f : Frontend) (e : declared.Error) (new : State L H) (f' : Frontend) → Takes event GetFeatures Number (Reply shape.U64) sent old f (Err e) new f'
      → old.list ≡ true → e ≡ OutOfMemory → ⊥
  took-unwanted sent old f e new f' (taken reads) listed is = read-unwanted sent f old _ new reads (ap (λ x. is_want {H = H} (Some (answered f' (Err (seen x))))) is)
  took-unwanted sent old f e new f' (stopped x) listed is = failing true e old new x listed is

  -- what is awaited is the number
  abbrev TakesAs : Sent → FrontendInternal L H → Result ℕ declared.Error → FrontendInternal L H → Awaited → Type 0
  TakesAs sent old result new asked = Takes event GetFeatures Number asked (fields_of sent.request) (endpoint_of old) (session_of old) result (endpoint_of new) (session_of new)

  pub asks-listed : (n : ℕ) (old new : FrontendInternal L H) → Whole event GetFeatures Number old (Ok n) new → (endpoint_of new).list ≡ true
  asks-listed n old new (replied {sent} {middle} a t) =
      let (number, listed) = awaited-number (endpoint_of old) (session_of old) (awaits old) sent (endpoint_of middle) (session_of middle) (awaits middle) a in
      took-listed (fields_of sent.request) (endpoint_of middle) (session_of middle) n (endpoint_of new) (session_of new) (subst (λ (w : Awaited). TakesAs sent middle (Ok n) new w) number t)

  pub asks-without-memory : (e : declared.Error) (old new : FrontendInternal L H) → Whole event GetFeatures Number old (Err e) new → (endpoint_of old).list ≡ true → e ≡ OutOfMemory → ⊥
  asks-without-memory e old new (ended a) listed is = asked-unwanted (endpoint_of old) (session_of old) (awaits old) e (endpoint_of new) (session_of new) (awaits new) a listed is
  asks-without-memory e old new (replied {sent} {middle} a t) listed is =
      let (number, kept) = awaited-number (endpoint_of old) (session_of old) (awaits old) sent (endpoint_of middle) (session_of middle) (awaits middle) a in
      took-unwanted (fields_of sent.request) (endpoint_of middle) (session_of middle) e (endpoint_of new) (session_of new) (subst (λ (w : Awaited). TakesAs sent middle (Err e) new w) number t) kept is
