-- GET_QUEUE_NUM: its reply.
use Rattle.std.proofs.Common.{◌≡◌, ℕ, ◌<◌, ◌≤◌, Bool, true, false, ap, sym, refl, ◌∙◌, Some, Ok, Err, arith}
use Rattle.std.specs.Prelude.{nat_le}
use Rattle.std.proofs.lemmas.Bool.Decides.{nat_tests}
use Rattle.vhost_message.specs.declared.limits.TheConstants.{VHOST_USER_MAX_VRINGS}
use Rattle.vhost_message.specs.declared.records.plain.VhostUserU64.{VhostUserU64}
use Rattle.vhost_protocol.specs.AnswerTable.{answered, queues_reply}
use Rattle.vhost_protocol.specs.Error.{InvalidMessage}
use Rattle.vhost_protocol.specs.FrontendCall.{Frontend, Number}
use Rattle.vhost_frontend_core.specs.Frontend.{session_of}
use Rattle.vhost_frontend_core.proofs.Taking.{alone-replied, alone-fails}
use Rattle.vhost_frontend_core.proofs.internal.FrontendInternal.take_get_queue_num.Goals as goal

beyond : (n : ℕ) → VHOST_USER_MAX_VRINGS < n → nat_le n VHOST_USER_MAX_VRINGS ≡ false
beyond n h = grind (arith, nat_tests)

within : (n : ℕ) → n ≤ VHOST_USER_MAX_VRINGS → nat_le n VHOST_USER_MAX_VRINGS ≡ true
within n h = grind (arith, nat_tests)

refuses : {H : Type 0} (f : Frontend) (n : ℕ) → VHOST_USER_MAX_VRINGS < n → queues_reply {H = H} f n (Ok (Number n)) ≡ answered f (Err InvalidMessage)
refuses f n h = rw (beyond n h) refl

keeps : {H : Type 0} (f : Frontend) (n : ℕ) → n ≤ VHOST_USER_MAX_VRINGS → queues_reply {H = H} f n (Ok (Number n)) ≡ answered (record f { max_queue_num = n }) (Ok (Number n))
keeps f n h = rw (within n h) refl

pub returns-then-number-gt-VHOST_USER_MAX_VRINGS-clause-taken : goal.returns-then-number-gt-VHOST_USER_MAX_VRINGS-clause-taken
returns-then-number-gt-VHOST_USER_MAX_VRINGS-clause-taken g c =
    alone-replied c.in-Ok.ensures.taken (λ cells. refl) (λ r. refl) (λ r is ok.
    ap (λ (n : ℕ). Some (queues_reply (session_of c.args.self.now) n (Ok (Number n)))) (sym (ap (λ (v : VhostUserU64). v.value) is))
    ∙ ap Some (refuses (session_of c.args.self.now) c.in-Ok.number.value c.if-number-gt-VHOST_USER_MAX_VRINGS.true)
    ∙ ap (λ (f : Frontend). Some (answered f (Err InvalidMessage))) (sym c.take_plain_reply.ensures.session))

pub returns-else-number-gt-VHOST_USER_MAX_VRINGS-clause-taken : goal.returns-else-number-gt-VHOST_USER_MAX_VRINGS-clause-taken
returns-else-number-gt-VHOST_USER_MAX_VRINGS-clause-taken g c =
    alone-replied c.in-Ok.ensures.taken (λ cells. refl) (λ r. refl) (λ r is ok.
    ap (λ (n : ℕ). Some (queues_reply (session_of c.args.self.now) n (Ok (Number n)))) (sym (ap (λ (v : VhostUserU64). v.value) is))
    ∙ ap Some (keeps (session_of c.args.self.now) c.in-Ok.number.value c.if-number-gt-VHOST_USER_MAX_VRINGS.false)
    ∙ ap (λ (f : Frontend). Some (answered (record f { max_queue_num = c.in-Ok.number.value }) (Ok (Number c.in-Ok.number.value)))) (sym c.take_plain_reply.ensures.session))

crowd : {H : Type 0} (f : Frontend) (n : ℕ) (b : Bool) → nat_le n VHOST_USER_MAX_VRINGS ≡ b → queues_reply {H = H} f n (Err InvalidMessage) ≡ answered f (Err InvalidMessage)
crowd f n true e = rw e refl
crowd f n false e = rw e refl

pub returns-in-Err-clause-taken : goal.returns-in-Err-clause-taken
returns-in-Err-clause-taken g c =
    alone-fails c.in-Err.ensures.taken (λ cells. refl) (λ r. refl) (λ r h hs. ap Some (crowd (session_of c.args.self.now) _ _ refl)) c.take_plain_reply.ensures.session
