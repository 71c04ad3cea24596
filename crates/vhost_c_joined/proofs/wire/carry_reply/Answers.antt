use Rattle.std.proofs.Common.{◌≡◌, ◌⊎◌, ◌∙◌, ℕ, List, [], Option, refl, sym, ap, subst, arith}
use Rattle.vhost_protocol.specs.FrontendCall.{Frontend}
use Rattle.vhost_frontend_core.specs.declared.values.answer.FrontendAnswer.{FrontendAnswer}
use Rattle.vhost_c_frontend.specs.Session as session
use Rattle.vhost_c_frontend.specs.declared.session.Asked.{Asked}
use Rattle.vhost_c_frontend.specs.declared.session.Session.{Session}
use Rattle.vhost_c_joined.specs.Wire.{IsTold, Stops}
use Rattle.vhost_c_joined.proofs.Pieces.{come-on, told-over, all-over}
use Rattle.vhost_c_joined.proofs.wire.carry_reply.Goals as goal

-- how much is missing is told as at first
abbrev Kept : Type 0
Kept = Frontend × Option Asked × FrontendAnswer × ℕ

told-same : (text : List ℕ) (old new : Session) → (session.view new).rest ≡ (session.view old).rest → (text ≡ []) ⊎ IsTold text (session.missing_for (session.remembers old).profile old.asked) → (text ≡ []) ⊎ IsTold text (session.missing_for (session.remembers new).profile new.asked)
told-same text old new same told = subst {A = Kept} (λ k. (text ≡ []) ⊎ IsTold text (session.missing_for k.0.profile k.1)) (sym same) told

missing-same : (old new : Session) (n : ℕ) → (session.view new).rest ≡ (session.view old).rest → n ≡ session.missing_of new → n ≡ 0 → session.missing_for (session.remembers old).profile old.asked new.incoming ≡ 0
missing-same old new n same is none = ap {A = Kept} (λ k. session.missing_for k.0.profile k.1 new.incoming) (sym same) ∙ sym is ∙ none

pub returns-then-missing-eq0 : goal.returns-then-missing-eq0
returns-then-missing-eq0 c hs text told on =
    let so = c.pieces.invariant.coming hs text told on in
    told-over (session.missing_for (session.remembers c.args.to.now).profile c.args.to.now.asked) hs text _ _ _ _ _ told so (missing-same c.args.to.now c.pieces.to _ so.moves.waits.rest c.missing-missing.ensures.missing c.if-missing-eq0.true)

pub returns-in-Err : goal.returns-in-Err
returns-in-Err c hs text told on =
    let so = c.pieces.invariant.coming hs text told on in
    subst {A = Kept} (λ k. Stops (session.missing_for k.0.profile k.1) text c.in-Err.halt) so.moves.waits.rest
    (c.in-Err.ensures hs text (told-same text c.args.to.now c.pieces.to so.moves.waits.rest told) so.on)

pub pieces-preserved : goal.pieces-preserved
pieces-preserved c = record {
  coming = λ hs text told on.
      let so = c.pieces.invariant.coming hs text told on in
      come-on (session.missing_for (session.remembers c.pieces.to).profile c.pieces.to.asked) hs text _ _ _ _ _ _ _ _ refl so (c.in-Ok.ensures hs text (told-same text c.args.to.now c.pieces.to so.moves.waits.rest told) so.on);
}

pub returns : goal.returns
returns c hs text told on = all-over (session.missing_for (session.remembers c.args.to.now).profile c.args.to.now.asked) hs text _ _ _ _ _ (omega (arith, c.pieces-test.false)) told (c.pieces.invariant.coming hs text told on)
