-- Frontend and handler joined: each call's message, its row and the answer; in step, and the last step.
use Rattle.std.specs.Prelude.{◌≡◌, Bool, true, false, ◌&&◌, ◌||◌, List, [], ◌∷◌, Option, Some, None, Result, Ok, Err, is_err, is_some, bit_and, if◌then◌else◌, ⊤}
use Rattle.vhost_message.specs.declared.heard_req.HeardReq.{HeardReq}
use Rattle.vhost_message.specs.declared.heard_req.HeardReq.TheVariants.{POSTCOPY_END}
use Rattle.vhost_message.specs.HeardReq.{request_number}
use Rattle.vhost_protocol.specs.AnswerTable.{answer}
use Rattle.vhost_protocol.specs.Ask.{Asked, Refuses, Answers, Sends, ask}
use Rattle.vhost_protocol.specs.declared.asked.Awaited.{Awaited}
use Rattle.vhost_protocol.specs.declared.asked.Awaited.TheVariants.{Nobody}
use Rattle.vhost_protocol.specs.DeviceCall.{Call, Answer}
use Rattle.vhost_protocol.specs.Error.{Error}
use Rattle.vhost_protocol.specs.FrontendCall.{FrontendCall, Value, Frontend}
use Rattle.vhost_protocol.specs.Handler.{Meets}
use Rattle.vhost_protocol.specs.declared.profile.Profile.{Profile}
use Rattle.vhost_protocol.specs.Profile.{is_standard}
use Rattle.vhost_protocol.specs.Served.{Served, Silent, reply, cells_of}
use Rattle.vhost_protocol.specs.Session.{Session}
use Rattle.vhost_protocol.specs.Split.{Message}
use Rattle.vhost_protocol.specs.Step.{Outcome}
use Rattle.vhost_protocol.specs.Stream.{Cell}
use Rattle.vhost_protocol.specs.Written.{Written, payload_text, written_cells}

-- Both sides have the same profile, and agree on what was offered, on the protocol features and on postcopy; what the frontend acknowledged, the handler knows.
pub record AgreeOn (f : Frontend) (s : Session) : Type 0 where
  pub offered : f.offered ≡ s.offered
  pub acked_protocol_features : f.acked_protocol_features ≡ s.acked_protocol_features
  pub postcopy : f.postcopy ≡ s.postcopy
  pub acked : bit_and f.acked s.acked ≡ f.acked
  pub profile : f.profile ≡ s.profile

-- in step: they agree, nothing is awaited, and nothing is on the way
pub record InStep {H : Type 0} (f : Frontend) (s : Session) (awaited : Awaited) (to_handler to_frontend : List (Cell H)) : Type 0 where
  pub agree : AgreeOn f s
  pub nobody : awaited ≡ Nobody
  pub no_request : to_handler ≡ []
  pub no_reply : to_frontend ≡ []

-- the request that ends postcopy
abbrev pub is_end : HeardReq → Bool
is_end POSTCOPY_END = true
is_end _ = false

-- nothing was written
abbrev pub is_silent : {H : Type 0} → Served H → Bool
is_silent Silent = true
is_silent _ = false

-- the last step of the table: an error in silence, or a refused end of postcopy
abbrev pub is_last : {H : Type 0} → HeardReq → Outcome H → Bool
is_last r o = is_err o.answer && (is_silent o.served || is_end r)

-- A run stops where the table has its last step. Under Standard whoever waits is answered, and it stops only where the session has ended.
abbrev pub stops : {H : Type 0} → Profile → HeardReq → Outcome H → Bool
stops profile r o = if is_standard profile then is_some o.session.failed else is_last r o

-- a message as its receiver reads it
abbrev pub read_as : {R H : Type 0} → Written R H → Message R H
read_as w = record { request = w.request; reply = w.reply; need_reply = w.need_reply; body = payload_text w.payload; handles = w.handles }

-- what a joined step shows: the request, the handler's answer where it served one, the reply, the caller's answer, and whether the run stops there
pub record Shown (H : Type 0) : Type 0 where
  pub request : List (Cell H)
  pub handled : Option (Result ⊤ Error)
  pub reply : List (Cell H)
  pub result : Result (Value H) Error
  pub last : Bool

-- nothing is sent
abbrev pub unsent : {H : Type 0} → Result (Value H) Error → Shown H
unsent result = record { request = []; handled = None; reply = []; result = result; last = false }

module _ {H B G Dev : Type 0} (gives : Dev → (c : Call H B G) → Answer c → Dev → Type 0)
    (opens_backend : H → Result B Error → Type 0) (opens_gpu : H → Result G Error → Type 0) where
  -- what a call becomes: an answer at once, or a message that meets its row, and what the answer table says of it
  abbrev pub Exchanges : Frontend → Session → Dev → FrontendCall H → Asked H → Shown H → Frontend → Session → Dev → Type 0
  Exchanges f s d call (Refuses e) shown f' s' d' = (shown ≡ unsent (Err e)) × (f' ≡ f) × (s' ≡ s) × (d' ≡ d)
  Exchanges f s d call (Answers v g) shown f' s' d' = (shown ≡ unsent (Ok v)) × (f' ≡ g) × (s' ≡ s) × (d' ≡ d)
  Exchanges f s d call (Sends w awaited g) shown f' s' d' =
      (o : Outcome H) × Meets gives opens_backend opens_gpu s d (read_as w) o d' × (s' ≡ o.session)
      × (answer call awaited g o.served ≡ Some (record { result = shown.result; session = f' }))
      × (shown.request ≡ written_cells request_number w) × (shown.handled ≡ Some o.answer) × (shown.reply ≡ cells_of request_number (reply w.request o.served))
      × (shown.last ≡ stops s.profile w.request o)

  -- one joined step
  abbrev pub JoinedStep : Frontend → Session → Dev → FrontendCall H → Shown H → Frontend → Session → Dev → Type 0
  JoinedStep f s d call shown f' s' d' = Exchanges f s d call (ask f call) shown f' s' d'

  -- joined steps one after another; nothing comes after the last one
  abbrev pub JoinedRun : Frontend → Session → Dev → List (FrontendCall H × Result (Value H) Error) → Frontend → Session → Dev → Type 0
  JoinedRun f s d [] f' s' d' = (f' ≡ f) × (s' ≡ s) × (d' ≡ d)
  JoinedRun f s d (step ∷ steps) f' s' d' =
      (shown : Shown H) × (g : Frontend) × (t : Session) × (mid : Dev)
      × JoinedStep f s d step.0 shown g t mid × (shown.result ≡ step.1) × (shown.last ≡ true → steps ≡ []) × JoinedRun g t mid steps f' s' d'
