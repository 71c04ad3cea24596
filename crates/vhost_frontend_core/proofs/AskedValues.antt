-- The half of any call that asks, from what is sent and kept for it.
use Rattle.std.proofs.Common.{◌≡◌, List, Bool, true, false, Result, Ok, Err, IfOk, refl, sym, subst}
use Rattle.vhost_message.specs.declared.error.Error as declared
use Rattle.vhost_protocol.specs.Ask.{ask}
use Rattle.vhost_protocol.specs.FrontendCall.{FrontendCall, Frontend, Info, SetMemTable, GetConfig, SetConfig, AddMemRegion, GetShmemConfig}
use Rattle.vhost_protocol.specs.Session.{is_listen}
use Rattle.vhost_protocol.specs.declared.asked.Awaited.{Awaited}
use Rattle.vhost_link.specs.Law.{Event}
use Rattle.vhost_frontend_core.specs.Asking.{Asks, AsksWithRoom, roomy, no_room}
use Rattle.vhost_frontend_core.specs.Halves.{makes_room, AsksHalf, AsksHalfWithRoom, AsksAny}
use Rattle.vhost_connection.specs.Talk.{State}
use Rattle.vhost_frontend_core.specs.Frontend.{session_of}
use Rattle.vhost_frontend_core.specs.Kept.{IsKeptFor}
use Rattle.vhost_frontend_core.specs.Plan.{IsRecord}
use Rattle.vhost_frontend_core.specs.ValueHalves.{AsksWell, WantsFor}
use Rattle.vhost_frontend_core.specs.declared.asked.Kept.{Kept}
use Rattle.vhost_frontend_core.specs.declared.asked.Sent.{Sent}
use Rattle.vhost_frontend_core.specs.declared.internal.FrontendInternal.{FrontendInternal}
use Rattle.vhost_frontend_core.proofs.Wanting.{table-listens, wants-plainly, wants-with-room}

-- the table has the call, and nothing is kept for it
abbrev pub is_plain : {H : Type 0} → FrontendCall H → Bool
is_plain (SetMemTable infos) = false
is_plain (GetConfig offset size flags buffer) = false
is_plain (SetConfig offset flags buffer) = false
is_plain (AddMemRegion info) = false
is_plain GetShmemConfig = false
is_plain _ = true

pub record-plain : {H : Type 0} (call : FrontendCall H) → is_plain call ≡ true → IsRecord call
record-plain (SetMemTable infos) e = cc e
record-plain (GetConfig offset size flags buffer) e = cc e
record-plain (SetConfig offset flags buffer) e = cc e
record-plain _ e = tt

pub kept-plain : {H : Type 0} (call : FrontendCall H) (a : Awaited) (k : Kept) → is_plain call ≡ true → IsKeptFor call a k
kept-plain (SetMemTable infos) a k e = cc e
kept-plain (GetConfig offset size flags buffer) a k e = cc e
kept-plain (AddMemRegion info) a k e = cc e
kept-plain GetShmemConfig a k e = cc e
kept-plain _ a k e = tt

pub all-ok : {A E : Type 0} {P : A → Type 0} (r : Result A E) → ((a : A) → P a) → IfOk r P
all-ok (Ok a) p = p a
all-ok (Err e) p = tt

both : {A : Type 0} (b : Bool) → b ≡ true → b ≡ false → A
both true e f = absurd (cc f)
both false e f = absurd (cc e)

-- a table makes room only while postcopy listens
table-alone : {L H : Type 0} {event : L → Event H → L → Type 0} (infos : List (Info H)) {old new : State L H} {f f' : Frontend} {before after : Awaited} {result : Result Sent declared.Error} → AsksWithRoom event (ask f (SetMemTable infos)) old f before result new f' after
    → is_listen f.postcopy ≡ false → Asks event (ask f (SetMemTable infos)) old f before result new f' after
table-alone infos (roomy asks) none = asks
table-alone infos {f = f} (no_room sends) none = both (is_listen f.postcopy) (table-listens f infos _ _ _ sends) none

module _ {L H : Type 0} {event : L → Event H → L → Type 0} {old new : FrontendInternal L H} {result : Result Sent declared.Error} where
  -- a call that makes no room
  pub alone : {call : FrontendCall H} → AsksHalf event call old result new → AsksAny event call old result new
  alone asks = record { with_room = roomy asks; without = λ none. asks }

  -- one that does
  pub roomy-one : {call : FrontendCall H} → AsksHalfWithRoom event call old result new → makes_room (session_of old) call ≡ true → AsksAny event call old result new
  roomy-one {call} asks makes = record { with_room = asks; without = λ none. both (makes_room (session_of old) call) makes none }

  -- a table
  pub table-one : (infos : List (Info H)) → AsksHalfWithRoom event (SetMemTable infos) old result new → AsksAny event (SetMemTable infos) old result new
  table-one infos asks = record { with_room = asks; without = λ none. table-alone infos asks none }

  -- a call by another name
  pub renamed : {call call' : FrontendCall H} → call ≡ call' → AsksWell event call' old result new → AsksWell event call old result new
  renamed is asked = subst (λ x. AsksWell event x old result new) (sym is) asked

  -- why one may want memory
  pub wants-any : {call : FrontendCall H} → AsksAny event call old result new → WantsFor call old result new
  wants-any {call} asks = go (makes_room (session_of old) call) refl
    where
      go : (b : Bool) → makes_room (session_of old) call ≡ b → WantsFor call old result new
      go true e = wants-with-room _ _ result e
      go false e = wants-plainly _ call result (asks.without e)
