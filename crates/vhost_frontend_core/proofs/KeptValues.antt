-- Calls that own what they are made of.
use Rattle.std.proofs.Common.{◌≡◌, inl, inr, Result, Ok, Err, refl, sym, subst}
use Rattle.vhost_message.specs.declared.error.Error as declared
use Rattle.vhost_message.specs.Header.{Header}
use Rattle.vhost_message.specs.MsgHeader.{fields_of}
use Rattle.vhost_message.specs.declared.flags.header.VhostUserHeaderFlag.{VhostUserHeaderFlag}
use Rattle.vhost_protocol.specs.FrontendCall.{FrontendCall, Frontend, Value}
use Rattle.vhost_protocol.specs.Error.{seen_result}
use Rattle.vhost_protocol.specs.declared.asked.Awaited.{Awaited}
use Rattle.vhost_link.specs.declared.plain.PlainHandle.{PlainHandle}
use Rattle.vhost_link.specs.Ends.{Ends}
use Rattle.vhost_link.specs.Mem.{event}
use Rattle.vhost_connection.specs.Talk.{State}
use Rattle.vhost_frontend_core.specs.Frontend.{endpoint_of, session_of}
use Rattle.vhost_frontend_core.specs.Taking.{Takes, taken, stopped}
use Rattle.vhost_frontend_core.specs.Values.{call_of, outcome_of, answer_of}
use Rattle.vhost_frontend_core.specs.ValueHalves.{IsSent, TakesResult, TakesValue, TakesWell}
use Rattle.vhost_frontend_core.specs.declared.answer.Answer.{Answer}
use Rattle.vhost_frontend_core.specs.declared.asked.Sent.{Sent}
use Rattle.vhost_frontend_core.specs.declared.internal.FrontendInternal.{FrontendInternal}
use Rattle.vhost_frontend_core.specs.declared.values.answer.FrontendAnswer.{FrontendAnswer}
use Rattle.vhost_frontend_core.specs.declared.values.call.FrontendCall as code
use Rattle.vhost_frontend_core.specs.declared.values.call.FrontendCall.TheVariants as call

-- every call but the one for which nothing is sent
pub is-sent : (c : code.FrontendCall) → ((flags : VhostUserHeaderFlag) → c ≡ call.SetHdrFlags flags → ⊥) → IsSent (call_of c)
is-sent (call.SetHdrFlags flags) not = not flags refl
is-sent _ not = tt

-- ---- what was taken, as the definitions see its error

as-result : (call : FrontendCall PlainHandle) (asked : Awaited) {sent : Header} {old new : State Ends PlainHandle} {f f' : Frontend} (o : Result (Value PlainHandle) declared.Error)
    → Takes event call (λ v. v) asked sent old f o new f' → TakesResult call asked sent old f (seen_result o) new f'
as-result call asked (Ok v) (taken reads) = inl reads
as-result call asked (Err e) (taken reads) = inl reads
as-result call asked (Err e) (stopped fails) = inr (refl, e, refl, fails)

-- the same of an answer that is kept
pub took-well : {call : FrontendCall PlainHandle} {sent : Sent} {old new : FrontendInternal Ends PlainHandle} {answer : Answer PlainHandle} {kept : FrontendAnswer} → answer_of kept ≡ seen_result (outcome_of answer) → TakesValue event call sent old answer new → TakesWell call sent old kept new
took-well {call} {sent} {old} {new} {answer} is t = record {
  taken = λ may kept. subst (λ r. TakesResult call sent.awaited (fields_of sent.request) (endpoint_of old) (session_of old) r (endpoint_of new) (session_of new)) (sym is) (as-result call sent.awaited (outcome_of answer) (t.taken may kept));
  quiet = t.quiet;
}
