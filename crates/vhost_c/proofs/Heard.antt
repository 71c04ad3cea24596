-- A report that the configuration space changed is heard, and replied to.
use Rattle.std.proofs.Common.{◌≡◌, ℕ, true, false, List, [], ◌∷◌, ◌++◌, Option, None, Some, Ok, Err, sym, ap, subst, ◌∙◌, arith}
use Rattle.std.specs.Option.{IsSomeAnd}
use Rattle.vhost_message.specs.BackendReq.{backend_request_of}
use Rattle.vhost_message.specs.declared.error.Error as declared
use Rattle.vhost_protocol.specs.Reverse.{Server, backend_allows_handles}
use Rattle.vhost_protocol.specs.Split.{split}
use Rattle.vhost_protocol.specs.Stream.{plain}
use Rattle.vhost_link.specs.Ends.{Ends}
use Rattle.vhost_link.specs.declared.plain.PlainHandle.{PlainHandle}
use Rattle.vhost_connection.specs.Memory.{stream}
use Rattle.vhost_connection.specs.Talk.{State}
use Rattle.vhost_frontend_req_handler.specs.Core.{number_cells}
use Rattle.vhost_frontend_req_handler.specs.declared.call.FrontendSideCall.{FrontendSideCall}
use Rattle.vhost_c_common.proofs.Wanting.{comes}
use Rattle.vhost_c_common.specs.ByNumber.{By, none, some}
use Rattle.vhost_c_common.specs.Number.{outcome_number}
use Rattle.vhost_c_common.specs.declared.refusal.Refusal.{Refusal}
use Rattle.vhost_c_channel.proofs.Change.{Kept, acknowledged, called, change, replying, report, splits, unhanded}
use Rattle.vhost_c_channel.specs.Serving.{Request, Acknowledges, Answering, Beginning, Begins, Concludes, IsNew, IsServed, Receiving, Replies, arrived, concluded, is_handed, queued, remembers, stopped, told}
use Rattle.vhost_c_channel.specs.declared.serving.ChannelServer.{ChannelServer}
use Rattle.vhost_c.specs.Channel.{OpensServer, Acknowledging, opened, was_open, no_room}

never : (r : Refusal) → outcome_number (Err r) ≡ 0 → ⊥
never r zero = grind arith

-- the bytes of the reply
abbrev done : List ℕ
done = 2 ∷ 0 ∷ 0 ∷ 0 ∷ 5 ∷ 0 ∷ 0 ∷ 0 ∷ 8 ∷ 0 ∷ 0 ∷ 0 ∷ 0 ∷ 0 ∷ 0 ∷ 0 ∷ 0 ∷ 0 ∷ 0 ∷ 0 ∷ []

-- ---- it comes

-- Nothing of a request waits to be read, nothing is to be sent, and requests are replied to.
record IsListening (s : ChannelServer) : Type 0 where
  came : arrived s ≡ []
  memory : remembers s ≡ replying
  queue : queued s ≡ []

agreed : (s t : ChannelServer) → IsNew s → Acknowledges true s t → IsListening t
agreed s t fresh says = record {
  came = ap {A = State Ends PlainHandle} stream says.end ∙ fresh.empty.came;
  memory = says.memory ∙ ap {A = Server} (λ m. record m { reply_ack = true }) fresh.memory;
  queue = (λ i. (says.outgoing i).link.pending ++ (says.end i).link.sent) ∙ fresh.empty.queue;
}

-- The report came whole, and is still to be read.
record HasCome (s : ChannelServer) : Type 0 where
  came : arrived s ≡ plain report
  memory : remembers s ≡ replying
  queue : queued s ≡ []

received : (s t : ChannelServer) → IsListening s → Receiving report [] s (Ok tt) t → HasCome t
received s t listens got =
    record {
      came = comes report (arrived s) (arrived t) listens.came got.0.1;
      memory = ap (λ (r : Kept). r.0) got.0.3.rest ∙ listens.memory;
      queue = got.0.3.queue ∙ listens.queue;
    }

-- ---- it is read

-- The report was read, this is the number of its call, and nothing is to be sent.
record HasRead (number : ℕ) (s : ChannelServer) : Type 0 where
  call : FrontendSideCall PlainHandle
  served : IsServed change call s
  is_number : number ≡ 2
  memory : remembers s ≡ replying
  queue : queued s ≡ []

read : (number : ℕ) (s t : ChannelServer) → HasCome s → Begins number s t → HasRead number t
read number s t has b =
    let both : (Ok b.message, arrived t) ≡ (Ok change, []) = sym b.came ∙ ap (split backend_request_of backend_allows_handles) has.came ∙ splits in
    let same : b.message ≡ change = cc (ap (λ x. x.0) both) in
    let served : IsServed change b.call t = subst {A = Request} (λ k. IsServed k b.call t) same b.served in
    record { call = b.call; served = served; is_number = b.is_number ∙ called b.call (remembers t) served.row; memory = b.memory ∙ has.memory; queue = b.queue ∙ has.queue }

-- ---- it is replied to

is-none : (e : declared.Error) → is_handed e ≡ false → told (Err e) ≡ Ok tt → ⊥
is-none e unhanded fine = cc (unhanded, fine)

answered : (s t : ChannelServer) (number : ℕ) (read : HasRead number s) → Replies read.served.request (Ok 0) s (Ok tt) t → queued t ≡ plain done
answered s t number read replies = by replies.result replies.concludes replies.is_told
  where
    by : (r : _) → Concludes read.served.request (Ok 0) s t r → Ok tt ≡ told r → queued t ≡ plain done
    by r (concluded is queue came sound) fine =
        queue ∙ (λ i. read.queue i ++ number_cells (read.memory i) read.served.request (Ok 0)) ∙ (λ i. acknowledged (read.served.code i) (read.served.need_reply i))
    by r (stopped {e = e} stops) fine = absurd (is-none e (ap is_handed stops.error ∙ unhanded stops.cause) (sym fine))

-- ---- each of these calls is answered 0

abbrev IsReplied : ChannelServer → Type 0
IsReplied s = queued s ≡ plain done

opens : {old new : Option ChannelServer} {n : ℕ} → old ≡ None → OpensServer old n new → n ≡ 0 → IsSomeAnd new IsNew
opens shut (opened fresh) zero = fresh
opens shut was_open zero = absurd (cc shut)
opens shut no_room zero = absurd (cc zero)

agrees : {old new : Option ChannelServer} {n : ℕ} → IsSomeAnd old IsNew → By (Acknowledging true) old n new → IsSomeAnd new IsListening
agrees fresh none = fresh
agrees fresh (some {s = s} {s' = t} says) = agreed s t fresh says.1

receives : {old new : Option ChannelServer} {n : ℕ} → IsSomeAnd old IsListening → By (Receiving report []) old n new → n ≡ 0 → IsSomeAnd new HasCome
receives listens none zero = absurd (cc zero)
receives listens (some {s = s} {s' = t} {outcome = Ok u} got) zero = received s t listens got
receives listens (some {outcome = Err r} got) zero = absurd (never r zero)

reads : (number : ℕ) {old new : Option ChannelServer} {n : ℕ} → IsSomeAnd old HasCome → By (Beginning number) old n new → n ≡ 0 → IsSomeAnd new (HasRead number)
reads number has none zero = absurd (cc zero)
reads number has (some {s = s} {s' = t} {outcome = Ok u} begins) zero = read number s t has (begins (ap {A = Server} (λ k. k.failed) has.memory))
reads number has (some {outcome = Err r} begins) zero = absurd (never r zero)

numbered : (number : ℕ) (o : Option ChannelServer) → IsSomeAnd o (HasRead number) → number ≡ 2
numbered number (Some s) has = has.is_number
numbered number None has = absurd has

replies : (number : ℕ) {old new : Option ChannelServer} {n : ℕ} → IsSomeAnd old (HasRead number) → By (Answering (Ok 0)) old n new → n ≡ 0 → IsSomeAnd new IsReplied
replies number has none zero = absurd (cc zero)
replies number has (some {s = s} {s' = t} {outcome = Ok u} answers) zero = answered s t number has (answers.one change has.call has.served)
replies number has (some {outcome = Err r} answers) zero = absurd (never r zero)

-- a session is opened, told to reply, and hears the report
pub heard : (number : ℕ) {q f r n a : ℕ} {old o p m x new : Option ChannelServer} → OpensServer old q o → By (Acknowledging true) o f p → By (Receiving report []) p r m → By (Beginning number) m n x → By (Answering (Ok 0)) x a new
    → old ≡ None → q ≡ 0 → r ≡ 0 → n ≡ 0 → a ≡ 0 → (number ≡ 2) × IsSomeAnd new IsReplied
heard number {x = x} opening agreeing coming beginning answering shut q r n a =
    let has : IsSomeAnd x (HasRead number) = reads number (receives (agrees (opens shut opening q) agreeing) coming r) beginning n in
    (numbered number x has, replies number has answering a)
