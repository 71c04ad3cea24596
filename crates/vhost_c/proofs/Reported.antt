-- A change of the configuration space is reported.
use Rattle.std.proofs.Common.{◌≡◌, ℕ, true, false, List, [], ◌∷◌, ◌++◌, Option, None, Some, Ok, Err, sym, ap, ◌∙◌, arith}
use Rattle.std.specs.Option.{IsSomeAnd}
use Rattle.vhost_message.specs.BackendReq.{backend_request_number}
use Rattle.vhost_message.specs.declared.backend_req.BackendReq.{BackendReq}
use Rattle.vhost_message.specs.declared.backend_req.BackendReq.TheVariants.{CONFIG_CHANGE_MSG}
use Rattle.vhost_protocol.specs.Reverse.{Backend, HandleConfigChange, Sends, reverse_ask}
use Rattle.vhost_protocol.specs.Stream.{Cell, bytes}
use Rattle.vhost_protocol.specs.Written.{Written, Empty, written_cells}
use Rattle.vhost_link.specs.Ends.{Ends}
use Rattle.vhost_link.specs.declared.plain.PlainHandle.{PlainHandle}
use Rattle.vhost_backend_req.specs.Channel as link
use Rattle.vhost_backend_req.specs.Channel.{backend_of}
use Rattle.vhost_c_common.specs.ByNumber.{By, some}
use Rattle.vhost_c_common.specs.Number.{outcome_number}
use Rattle.vhost_c_common.specs.declared.refusal.Refusal.{Refusal}
use Rattle.vhost_c_channel.specs.Asking.{Agrees, Asking, Asks, IsNew, queued, remembers}
use Rattle.vhost_c_channel.specs.declared.asking.Channel.{Channel}
use Rattle.vhost_c_channel.specs.declared.asking.Feature.TheVariants.{ConfigChange}
use Rattle.vhost_c.specs.Channel.{OpensChannel, Agreeing, opened, was_open, no_room}

-- the message
abbrev change : Written BackendReq PlainHandle
change = record { request = CONFIG_CHANGE_MSG; reply = false; need_reply = false; payload = Empty; handles = [] }

abbrev agreed : Backend
agreed = record { reply_ack = false; shared_object = false; shmem = false; config_change = true; failed = None }

is-change : (w : Written BackendReq PlainHandle) (b : Backend) (awaited : _) → b ≡ agreed → reverse_ask b HandleConfigChange ≡ Sends w awaited → change ≡ w
is-change w b awaited is asked =
    let same : Sends change false ≡ Sends w awaited = sym (ap {A = Backend} (λ x. reverse_ask x HandleConfigChange) is) ∙ asked in cc same

told : (s t u : Channel) → IsNew s → Agrees ConfigChange true s t → Asks HandleConfigChange t u → bytes (queued u) ≡ 2 ∷ 0 ∷ 0 ∷ 0 ∷ 1 ∷ 0 ∷ 0 ∷ 0 ∷ 0 ∷ 0 ∷ 0 ∷ 0 ∷ []
told s t u fresh agrees asks =
    let flag : remembers t ≡ agreed = ap {A = link.Channel Ends PlainHandle} backend_of agrees.flag ∙ ap {A = Backend} (λ b. record b { config_change = true }) fresh.memory in
    let none : queued t ≡ [] = (λ i. (agrees.outgoing i).link.pending ++ (agrees.flag i).endpoint.link.sent) ∙ fresh.empty.queue in
    let w : change ≡ asks.w = is-change asks.w (remembers t) asks.awaited flag asks.is in
    ap {A = List (Cell PlainHandle)} bytes (asks.queue ∙ (λ i. none i ++ written_cells backend_request_number (sym w i)))

never : (r : Refusal) → outcome_number (Err r) ≡ 0 → ⊥
never r zero = grind arith

abbrev Tells : Option Channel → Type 0
Tells new = IsSomeAnd new (λ s. bytes (queued s) ≡ 2 ∷ 0 ∷ 0 ∷ 0 ∷ 1 ∷ 0 ∷ 0 ∷ 0 ∷ 0 ∷ 0 ∷ 0 ∷ 0 ∷ [])

last : {a : ℕ} {new : Option Channel} (s t : Channel) → IsNew s → Agrees ConfigChange true s t → By (Asking HandleConfigChange) (Some t) a new → a ≡ 0 → Tells new
last s t fresh agrees (some {s' = u} {outcome = Ok done} asks) zero = told s t u fresh agrees asks
last s t fresh agrees (some {outcome = Err r} refused) zero = absurd (never r zero)

next : {f a : ℕ} {o new : Option Channel} (s : Channel) → IsNew s → By (Agreeing ConfigChange true) (Some s) f o → By (Asking HandleConfigChange) o a new → a ≡ 0 → Tells new
next s fresh (some {s' = t} agrees) asks zero = last s t fresh agrees.1 asks zero

-- a session is opened and told of, and the change is asked for, and all are answered 0
pub reported : {q f a : ℕ} {old o p new : Option Channel} → OpensChannel old q o → By (Agreeing ConfigChange true) o f p → By (Asking HandleConfigChange) p a new → old ≡ None → q ≡ 0 → a ≡ 0 → Tells new
reported (opened {s = s} fresh) agrees asks shut first last = next s fresh agrees asks last
reported was_open agrees asks shut first last = absurd (cc shut)
reported no_room agrees asks shut first last = absurd (cc first)
