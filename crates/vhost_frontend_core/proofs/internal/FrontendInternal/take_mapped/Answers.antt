-- ADD_MEM_REG: its reply while postcopy listens.
use Rattle.std.proofs.Common.{◌≡◌, ℕ, Bool, true, false, Option, subst, sym, refl, ◌∙◌, Result, Ok, Err, Some}
use Rattle.vhost_message.specs.declared.error.Error as declared
use Rattle.vhost_message.specs.MsgHeader.{fields_of}
use Rattle.vhost_message.specs.Records.{single_region_of}
use Rattle.vhost_protocol.specs.AnswerTable.{answered, is_same_range, only_if}
use Rattle.vhost_protocol.specs.Error.{Error, InvalidMessage, seen_result}
use Rattle.vhost_protocol.specs.FrontendCall.{Base, Value}
use Rattle.vhost_frontend_core.specs.Frontend.{endpoint_of, session_of}
use Rattle.vhost_frontend_core.specs.Taking.{valued, AwaitsAlone}
use Rattle.vhost_frontend_core.specs.declared.asked.Sent.{Sent}
use Rattle.vhost_frontend_core.proofs.Taking.{alone-replied, alone-fails}
use Rattle.vhost_frontend_core.proofs.internal.FrontendInternal.take_mapped.Goals as goal

-- an answer of the definitions, as a value
only-based : {H : Type 0} (b : Bool) (base : Option ℕ) (r : Result (Option ℕ) declared.Error) → only_if b InvalidMessage base ≡ seen_result r → ◌≡◌ {A = Result (Value H) Error} (only_if b InvalidMessage (Base base)) (valued Base r)
only-based true base (Ok x) e = cc
only-based true base (Err x) e = absurd cc
only-based false base (Ok x) e = absurd cc
only-based false base (Err x) e = cc

pub returns-in-Ok-clause-taken : goal.returns-in-Ok-clause-taken
returns-in-Ok-clause-taken g c info kept =
    let came : AwaitsAlone g.L.Link.event c.args.self.now.session.profile 40 single_region_of (λ v. true) (endpoint_of c.args.self.now) (fields_of c.args.sent.request) (Ok c.in-Ok.reply) (endpoint_of c.take_plain_reply.new.self) =
    subst (λ (x : Sent). AwaitsAlone g.L.Link.event c.args.self.now.session.profile 40 single_region_of (λ v. true) (endpoint_of c.args.self.now) (fields_of x.request) (Ok c.in-Ok.reply) (endpoint_of c.take_plain_reply.new.self)) c.new.ensures c.in-Ok.ensures.taken in
    alone-replied came (λ cells. refl) (λ r. refl)
    (λ r is ok. (λ j. Some (answered (session_of c.args.self.now) (only_if (is_same_range info.region (sym is j).region) InvalidMessage (Base (Some (sym is j).region.user_addr)))))
    ∙ (λ j. Some (answered (sym c.take_plain_reply.ensures.session j) (only-based _ _ c.base_for.result (c.base_for.ensures info.region kept) j))))

pub returns-in-Err-clause-taken : goal.returns-in-Err-clause-taken
returns-in-Err-clause-taken g c info kept =
    let came : AwaitsAlone g.L.Link.event c.args.self.now.session.profile 40 single_region_of (λ v. true) (endpoint_of c.args.self.now) (fields_of c.args.sent.request) (Err c.in-Err.error) (endpoint_of c.take_plain_reply.new.self) =
    subst (λ (x : Sent). AwaitsAlone g.L.Link.event c.args.self.now.session.profile 40 single_region_of (λ v. true) (endpoint_of c.args.self.now) (fields_of x.request) (Err c.in-Err.error) (endpoint_of c.take_plain_reply.new.self)) c.new.ensures c.in-Err.ensures.taken in
    alone-fails came (λ cells. refl) (λ r. refl) (λ r h hs. refl) c.take_plain_reply.ensures.session
