-- What stays true of both sides: laws of the protocol table and of the calls of a frontend.
use Rattle.std.specs.Prelude.{◌≡◌, ◌^◌, ◌<◌, ℤ, Bool, true, false, Option, Some, Result, Err, is_err, ⊤, IfSome}
use Rattle.vhost_message.specs.Bits.{has_bit}
use Rattle.vhost_message.specs.declared.heard_req.HeardReq.{HeardReq}
use Rattle.vhost_protocol.specs.AnswerTable.{Answered, answer}
use Rattle.vhost_protocol.specs.Ask.{Asked, Refuses, Answers, Sends, ask}
use Rattle.vhost_protocol.specs.declared.asked.Awaited.{Awaited}
use Rattle.vhost_protocol.specs.DeviceCall.{Answer}
use Rattle.vhost_protocol.specs.Error.{Error}
use Rattle.vhost_protocol.specs.Features.{PROTOCOL_FEATURES, REPLY_ACK}
use Rattle.vhost_protocol.specs.FrontendCall.{FrontendCall, GetFeatures, SetFeatures, SetProtocolFeatures, PostcopyEnd, Frontend}
use Rattle.vhost_protocol.specs.Joined.{AgreeOn, is_last, is_silent, read_as}
use Rattle.vhost_protocol.specs.declared.profile.Profile.{Profile}
use Rattle.vhost_protocol.specs.Profile.{is_standard}
use Rattle.vhost_protocol.specs.Row.{row, row_of}
use Rattle.vhost_protocol.specs.Served.{Served, Replied}
use Rattle.vhost_protocol.specs.Session.{Session}
use Rattle.vhost_protocol.specs.Split.{Message}
use Rattle.vhost_protocol.specs.Step.{Outcome, Step, Refused, Calls, OpensBackend, OpensGpu}
use Rattle.vhost_protocol.specs.Written.{U64}

-- ---- the table

-- what no row changes: the failure mark, and whose behaviour the session has
abbrev pub lasting : Session → Option ℤ × Profile
lasting s = (s.failed, s.profile)

-- whatever the device answers, they stay
abbrev pub KeepsMark : {H B G : Type 0} → Session → Step H B G → Type 0
KeepsMark s (Refused refusal) = ⊤
KeepsMark s (Calls c next) = (a : Answer c) → lasting (next a).session ≡ lasting s
KeepsMark {B = B} s (OpensBackend h next) = (opened : Result B Error) → KeepsMark s (next opened)
KeepsMark {G = G} s (OpensGpu h next) = (opened : Result G Error) → KeepsMark s (next opened)

-- no row changes the failure mark, or the profile
abbrev pub RowsKeepMark : (H B G : Type 0) → Type 0
RowsKeepMark H B G = (r : HeardReq) (s : Session) (m : Message HeardReq H) → KeepsMark {B = B} {G = G} s (row_of r s m)

-- an error in silence is the last step
abbrev pub SilentIsLast : (H : Type 0) → Type 0
SilentIsLast H = (r : HeardReq) (o : Outcome H) → is_err o.answer ≡ true → is_silent o.served ≡ true → is_last r o ≡ true

-- ---- both sides

-- at the frontend acknowledgements are on only where protocol features were offered
abbrev pub IsNegotiated : Frontend → Type 0
IsNegotiated f = has_bit f.acked_protocol_features REPLY_ACK ≡ true → has_bit f.offered PROTOCOL_FEATURES ≡ true

-- the features of a call have 64 bits
abbrev pub Fits : {H : Type 0} → FrontendCall H → Type 0
Fits (SetFeatures n) = n < 2 ^ 64
Fits (SetProtocolFeatures n) = n < 2 ^ 64
Fits _ = ⊤

-- the answer table knows what came, and both sides agree from then on, unless this was the last step
pub record IsKnown {H : Type 0} (call : FrontendCall H) (awaited : Awaited) (g : Frontend) (r : HeardReq) (o : Outcome H) : Type 0 where
  pub to_caller : Answered H
  pub known : answer call awaited g o.served ≡ Some to_caller
  pub agree : is_last r o ≡ false → AgreeOn (to_caller.session) o.session

-- whatever the device answers
abbrev pub AllKnown : {H B G : Type 0} → FrontendCall H → Awaited → Frontend → HeardReq → Session → Step H B G → Type 0
AllKnown call awaited g r s (Refused refusal) = IsKnown call awaited g r (record { answer = Err refusal.error; served = refusal.served; session = s })
AllKnown call awaited g r s (Calls c next) = (a : Answer c) → IsKnown call awaited g r (next a)
AllKnown {B = B} call awaited g r s (OpensBackend h next) = (opened : Result B Error) → AllKnown call awaited g r s (next opened)
AllKnown {G = G} call awaited g r s (OpensGpu h next) = (opened : Result G Error) → AllKnown call awaited g r s (next opened)

-- whatever becomes of a call: the handler serves what was sent
abbrev pub StaysInStep : {H : Type 0} → (B G : Type 0) → Session → FrontendCall H → Asked H → Type 0
StaysInStep B G s call (Refuses e) = ⊤
StaysInStep B G s call (Answers v g) = AgreeOn g s
StaysInStep B G s call (Sends w awaited g) = AllKnown {B = B} {G = G} call awaited g w.request s (row s (read_as w))

-- the end of postcopy under Standard, whose reply the table leaves to what is settled
abbrev pub is_settled_end : {H : Type 0} → Frontend → FrontendCall H → Bool
is_settled_end f PostcopyEnd = is_standard f.profile
is_settled_end f _ = false

-- For each call of two sides that agree: the answer table knows what the handler lets the frontend know, and both agree after it, unless it was the last step.
abbrev pub KeepsStep : (H B G : Type 0) → Type 0
KeepsStep H B G = (f : Frontend) (s : Session) (call : FrontendCall H) → is_settled_end f call ≡ false → AgreeOn f s → IsNegotiated f → Fits call → StaysInStep B G s call (ask f call)

-- ---- negotiation

-- Acknowledgements are on only where protocol features were offered. All features that the device answers have the bit, or none has it.
abbrev pub Negotiates : (bit : Bool) → Frontend → Type 0
Negotiates bit f = IsNegotiated f × (has_bit f.acked_protocol_features REPLY_ACK ≡ true → bit ≡ true) × (has_bit f.offered PROTOCOL_FEATURES ≡ true → bit ≡ true)

-- whatever becomes of a call
abbrev pub AskedNegotiates : {H : Type 0} → Bool → Asked H → Type 0
AskedNegotiates bit (Refuses e) = ⊤
AskedNegotiates bit (Answers v g) = Negotiates bit g
AskedNegotiates bit (Sends w awaited g) = Negotiates bit g

-- the features that are replied have the bit, or none has it
abbrev pub OffersBit : {H : Type 0} → Bool → FrontendCall H → Served H → Type 0
OffersBit bit GetFeatures (Replied (U64 n) handles) = has_bit n PROTOCOL_FEATURES ≡ bit
OffersBit bit _ _ = ⊤

-- a call keeps it
abbrev pub AsksNegotiate : (H : Type 0) → Type 0
AsksNegotiate H = (bit : Bool) (f : Frontend) (call : FrontendCall H) → Negotiates bit f → AskedNegotiates bit (ask f call)

-- and so does its answer
abbrev pub AnswersNegotiate : (H : Type 0) → Type 0
AnswersNegotiate H = (bit : Bool) (call : FrontendCall H) (awaited : Awaited) (f : Frontend) (served : Served H) → Negotiates bit f → OffersBit bit call served
    → IfSome (answer call awaited f served) (λ a. Negotiates bit a.session)
