-- Both sides of the reverse channel joined.
use Rattle.std.specs.Prelude.{◌≡◌, ℕ, Bool, true, false, List, [], ◌∷◌, Option, Some, None, Result, Ok, Err}
use Rattle.vhost_message.specs.BackendReq.{backend_request_number}
use Rattle.vhost_protocol.specs.Error.{Error}
use Rattle.vhost_protocol.specs.IoError.{IoError}
use Rattle.vhost_protocol.specs.Joined.{read_as}
use Rattle.vhost_protocol.specs.Reverse.{ReverseCall, Backend, ReverseAsked, Refuses, Sends, reverse_ask, reverse_answer, Server, ReverseOutcome, reverse_row, ReverseFollows, is_reverse_last}
use Rattle.vhost_protocol.specs.Served.{reply, cells_of}
use Rattle.vhost_protocol.specs.Stream.{Cell}
use Rattle.vhost_protocol.specs.Written.{written_cells}

-- a call, or one of the flags; the flag for acknowledgements is that of both sides
pub data ReverseInput (H : Type 0) : Type 0 where
  SetReplyAck : Bool → ReverseInput H
  SetSharedObject : Bool → ReverseInput H
  SetShmem : Bool → ReverseInput H
  SetConfigChange : Bool → ReverseInput H
  Asks : ReverseCall H → ReverseInput H

-- in step: both have the same flag for acknowledgements, neither failed, and nothing is on the way
pub record ReverseInStep {H : Type 0} (b : Backend) (s : Server) (to_server to_backend : List (Cell H)) : Type 0 where
  pub agree : b.reply_ack ≡ s.reply_ack
  pub asks : b.failed ≡ None
  pub serves : s.failed ≡ None
  pub no_request : to_server ≡ []
  pub no_reply : to_backend ≡ []

-- what a joined step shows: the request, the serving side's answer where it served one, the reply, the caller's answer, and whether the run stops there
pub record ReverseShown (H : Type 0) : Type 0 where
  pub request : List (Cell H)
  pub handled : Option (Result ℕ Error)
  pub reply : List (Cell H)
  pub result : Result ℕ IoError
  pub last : Bool

-- nothing is sent
abbrev pub reverse_unsent : {H : Type 0} → Result ℕ IoError → ReverseShown H
reverse_unsent result = record { request = []; handled = None; reply = []; result = result; last = false }

module _ {H Dev : Type 0} (gives : Dev → ReverseCall H → Result ℕ IoError → Dev → Type 0) where
  -- what a call becomes: a refusal, or a message that meets its row, and the answer
  abbrev pub ReverseExchanges : Server → Dev → ReverseAsked H → ReverseShown H → Dev → Type 0
  ReverseExchanges s d (Refuses e) shown d' = (shown ≡ reverse_unsent (Err e)) × (d' ≡ d)
  ReverseExchanges s d (Sends w awaited) shown d' =
      (o : ReverseOutcome H) × ReverseFollows gives d (reverse_row s (read_as w)) o d'
      × (reverse_answer awaited o.served ≡ Some shown.result)
      × (shown.request ≡ written_cells backend_request_number w) × (shown.handled ≡ Some o.answer) × (shown.reply ≡ cells_of backend_request_number (reply w.request o.served))
      × (shown.last ≡ is_reverse_last o)

  -- one joined step
  abbrev pub ReverseJoinedStep : Backend → Server → Dev → ReverseInput H → ReverseShown H → Backend → Server → Dev → Type 0
  ReverseJoinedStep b s d (SetReplyAck on) shown b' s' d' =
      (shown ≡ reverse_unsent (Ok 0)) × (b' ≡ record b { reply_ack = on }) × (s' ≡ record s { reply_ack = on }) × (d' ≡ d)
  ReverseJoinedStep b s d (SetSharedObject on) shown b' s' d' = (shown ≡ reverse_unsent (Ok 0)) × (b' ≡ record b { shared_object = on }) × (s' ≡ s) × (d' ≡ d)
  ReverseJoinedStep b s d (SetShmem on) shown b' s' d' = (shown ≡ reverse_unsent (Ok 0)) × (b' ≡ record b { shmem = on }) × (s' ≡ s) × (d' ≡ d)
  ReverseJoinedStep b s d (SetConfigChange on) shown b' s' d' = (shown ≡ reverse_unsent (Ok 0)) × (b' ≡ record b { config_change = on }) × (s' ≡ s) × (d' ≡ d)
  ReverseJoinedStep b s d (Asks c) shown b' s' d' = ReverseExchanges s d (reverse_ask b c) shown d' × (b' ≡ b) × (s' ≡ s)

  -- joined steps one after another; nothing comes after the last one
  abbrev pub ReverseJoinedRun : Backend → Server → Dev → List (ReverseInput H × Result ℕ IoError) → Backend → Server → Dev → Type 0
  ReverseJoinedRun b s d [] b' s' d' = (b' ≡ b) × (s' ≡ s) × (d' ≡ d)
  ReverseJoinedRun b s d (step ∷ steps) b' s' d' =
      (shown : ReverseShown H) × (next : Backend) × (other : Server) × (mid : Dev)
      × ReverseJoinedStep b s d step.0 shown next other mid × (shown.result ≡ step.1) × (shown.last ≡ true → steps ≡ [])
      × ReverseJoinedRun next other mid steps b' s' d'
