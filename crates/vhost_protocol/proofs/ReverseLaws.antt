-- The reverse channel: what came is known to the caller, and is read again.
use Rattle.std.proofs.Common.{◌≡◌, ℕ, ◌^◌, ◌<◌, Bool, true, false, cond, not, ◌&&◌, List, [], Option, Some, None, Result, Err, refl, sym, ◌∙◌, ap, arith, lit<}
use Rattle.std.specs.Prelude.{ℤ, is_some, ◌==◌}
use Rattle.std.proofs.lemmas.Bool.{eq-eqb}
use Rattle.byteorder.specs.Numbers.{little_number-reads_back}
use Rattle.vhost_message.specs.BackendReq.{backend_request_of, backend_request_number, backend_request_of-number}
use Rattle.vhost_message.specs.Bits.{has_bit}
use Rattle.vhost_message.specs.declared.backend_req.BackendReq.{BackendReq}
use Rattle.vhost_message.specs.declared.backend_req.BackendReq.TheVariants.{IOTLB_MSG}
use Rattle.vhost_message.specs.Text.{digits, number_at}
use Rattle.vhost_protocol.specs.Error.{Error, InvalidMessage}
use Rattle.vhost_protocol.specs.IoError.{IoError, Of}
use Rattle.vhost_protocol.specs.Joined.{read_as}
use Rattle.vhost_protocol.specs.Reverse.{HandleConfigChange, SharedObjectAdd, SharedObjectRemove, SharedObjectLookup, ShmemMap, ShmemUnmap, Backend, ReverseAsked, Refuses, sends_unless, of_number, reverse_understood, Server, ReverseStep, Refused, reverse_row}
use Rattle.vhost_protocol.specs.ReverseLaws.{IsAnswered, AllAnswered, StaysAnswered, ReverseAnswers, ReverseTakes}
use Rattle.vhost_protocol.specs.Row.{always}
use Rattle.vhost_protocol.specs.Served.{Silent, Replied}
use Rattle.vhost_protocol.specs.Split.{announced}
use Rattle.vhost_protocol.specs.Written.{Payload, U64, Written, head_of, reply_to}
use Rattle.vhost_protocol.proofs.ReplyLaws.{reply-read}
use Rattle.vhost_protocol.proofs.TextLaws.{sendable-valid}

module _ (H : Type 0) where
  -- an error in silence
  answered-silent : (awaited : Bool) (e : Error) → IsAnswered {H = H} awaited (record { answer = Err e; served = Silent })
  answered-silent true e = (_, refl)
  answered-silent false e = (_, refl)

  -- a number is sent back exactly where it is awaited
  answered-back : (on flag : Bool) (answer : Result ℕ Error) (n : ℕ) → on ≡ flag → IsAnswered {H = H} on (record { answer = answer; served = cond (flag && on) (Replied (U64 n) []) Silent })
  answered-back true true answer n same = (_, refl)
  answered-back false false answer n same = (_, refl)
  answered-back true false answer n same = absurd (cc same)
  answered-back false true answer n same = absurd (cc same)

  answered-if : (awaited b : Bool) (x : ReverseStep H) → AllAnswered awaited x → AllAnswered awaited (cond b x (Refused (record { answer = Err InvalidMessage; served = Silent })))
  answered-if awaited true x h = h
  answered-if awaited false x h = answered-silent awaited InvalidMessage

  -- a session that failed sends nothing
  answered-unless : (b : Backend) (s : Server) (r : BackendReq) (payload : Payload) (handles : List H)
      → AllAnswered b.reply_ack (reverse_row s (read_as (record { request = r; reply = false; need_reply = b.reply_ack; payload = payload; handles = handles })))
      → StaysAnswered s (sends_unless b.failed b r payload handles)
  answered-unless b s r payload handles h = go b.failed
    where
      go : (failed : Option ℤ) → StaysAnswered s (sends_unless failed b r payload handles)
      go (Some e) = tt
      go None = h

  answered-feature : (s : Server) (b : Bool) (e : IoError) (x : ReverseAsked H) → StaysAnswered s x → StaysAnswered s (cond b x (Refuses e))
  answered-feature s true e x h = h
  answered-feature s false e x h = tt

  ruleset answers = (answered-feature, answered-unless, answered-if, answered-back)

  pub reverse-answers : ReverseAnswers H
  reverse-answers b s HandleConfigChange same = search answers depth 12
  reverse-answers b s (SharedObjectAdd name) same = search answers depth 12
  reverse-answers b s (SharedObjectRemove name) same = search answers depth 12
  reverse-answers b s (SharedObjectLookup name h) same = search answers depth 12
  reverse-answers b s (ShmemMap mapping h) same = search answers depth 12
  reverse-answers b s (ShmemUnmap mapping) same = search answers depth 12

  backend-small : (r : BackendReq) → backend_request_number r < 2 ^ 32
  backend-small IOTLB_MSG = lit< tt
  backend-small _ = lit< tt

  pub reverse-takes : ReverseTakes H
  reverse-takes r sent code flag n fits rest =
      ap (λ cut. (reverse_understood sent cut.0, cut.1)) (reply-read backend_request_number (λ h. is_some (announced backend_request_of h)) always w (digits 8 n) [] rest refl (backend-small r) (lit< tt) known refl)
      ∙ ap (λ b. (cond b (of_number (number_at 0 8 (digits 8 n))) (Err (Of InvalidMessage)), rest)) replies
      ∙ ap (λ k. (of_number k, rest)) (little_number-reads_back 8 n [] fits)
    where
      w : Written BackendReq H
      w = reply_to r (U64 n) []

      known : is_some (announced backend_request_of (head_of backend_request_number w)) ≡ true
      known = ap (λ b. is_some (cond b (backend_request_of (backend_request_number r)) None)) (sendable-valid true false (backend_request_number r) 8 (omega arith)) ∙ ap (λ x. is_some x) (backend_request_of-number r)

      replies : (is_some (backend_request_of (backend_request_number r)) && backend_request_number r == sent.code && true && not (has_bit sent.flags 2) && true) ≡ true
      replies =
          ap (λ x. is_some x && backend_request_number r == sent.code && true && not (has_bit sent.flags 2) && true) (backend_request_of-number r)
          ∙ ap (λ b. b && true && not (has_bit sent.flags 2) && true) (eq-eqb (backend_request_number r) sent.code (sym code))
          ∙ ap (λ b. not b && true) flag
