-- POSTCOPY_END: its reply.
use Rattle.std.proofs.Common.{◌≡◌, ℕ, [], sym, ap, refl, ◌∙◌, Some, Ok, Err}
use Rattle.std.specs.Prelude.{if◌then◌else◌}
use Rattle.vhost_message.specs.declared.postcopy.PostcopyState.TheVariants.{End}
use Rattle.vhost_message.specs.declared.records.plain.VhostUserU64.{VhostUserU64}
use Rattle.vhost_protocol.specs.AnswerTable.{answered, end_reply}
use Rattle.vhost_protocol.specs.Error.{BackendInternalError}
use Rattle.vhost_protocol.specs.FrontendCall.{Frontend, Nothing}
use Rattle.vhost_protocol.specs.Session.{is_listen}
use Rattle.vhost_frontend_core.specs.Frontend.{session_of}
use Rattle.vhost_connection.proofs.Handed.{nonzero}
use Rattle.vhost_frontend_core.proofs.Taking.{alone-replied, alone-fails}
use Rattle.vhost_frontend_core.proofs.internal.FrontendInternal.take_end.Goals as goal

-- whoever listened has ended
abbrev stopped : Frontend → Frontend
stopped f = if is_listen f.postcopy then record f { postcopy = End } else f

refuses : {H : Type 0} (f : Frontend) (n : ℕ) → (n ≡ 0 → ⊥) → end_reply {H = H} f n [] ≡ answered (stopped f) (Err BackendInternalError)
refuses f n h = rw (nonzero n h) refl

ends : {H : Type 0} (f : Frontend) (n : ℕ) → n ≡ 0 → end_reply {H = H} f n [] ≡ answered (record f { postcopy = End }) (Ok Nothing)
ends f n h = rw h refl

pub returns-then-number-ne0-clause-taken : goal.returns-then-number-ne0-clause-taken
returns-then-number-ne0-clause-taken g c =
    alone-replied c.in-Ok.ensures.taken (λ cells. refl) (λ r. refl) (λ r is ok.
    ap (λ (n : ℕ). Some (end_reply (session_of c.args.self.now) n [])) (sym (ap (λ (v : VhostUserU64). v.value) is))
    ∙ ap Some (refuses (session_of c.args.self.now) c.in-Ok.number.value c.if-number-ne0.true)
    ∙ ap (λ (f : Frontend). Some (answered (stopped f) (Err BackendInternalError))) (sym c.take_plain_reply.ensures.session)
    ∙ ap (λ (f : Frontend). Some (answered f (Err BackendInternalError))) (sym c.after_refused_end-self.ensures))

pub returns-else-number-ne0-clause-taken : goal.returns-else-number-ne0-clause-taken
returns-else-number-ne0-clause-taken g c =
    alone-replied c.in-Ok.ensures.taken (λ cells. refl) (λ r. refl) (λ r is ok.
    ap (λ (n : ℕ). Some (end_reply (session_of c.args.self.now) n [])) (sym (ap (λ (v : VhostUserU64). v.value) is))
    ∙ ap Some (ends (session_of c.args.self.now) c.in-Ok.number.value c.if-number-ne0.false)
    ∙ ap (λ (f : Frontend). Some (answered (record f { postcopy = End }) (Ok Nothing))) (sym c.take_plain_reply.ensures.session))

pub returns-in-Err-clause-taken : goal.returns-in-Err-clause-taken
returns-in-Err-clause-taken g c = alone-fails c.in-Err.ensures.taken (λ cells. refl) (λ r. refl) (λ r h hs. refl) c.take_plain_reply.ensures.session
