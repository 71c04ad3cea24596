use Rattle.std.proofs.Common.{◌≡◌, ◌⊎◌, ◌∙◌, ℕ, List, [], Option, false, refl, sym, ap, subst, arith}
use Rattle.std.specs.Prelude.{is_some, if◌then◌else◌}
use Rattle.vhost_protocol.specs.Session.{Session, heard_in}
use Rattle.vhost_link.specs.declared.plain.PlainHandle.{PlainHandle}
use Rattle.vhost_backend_req_handler_core.specs.Session.{session_of}
use Rattle.vhost_backend_req_handler.specs.declared.halves.Pending.{Pending}
use Rattle.vhost_backend_req_handler.specs.declared.service.Service.{Service}
use Rattle.vhost_c_common.specs.Incoming.{missing_by}
use Rattle.vhost_c_backend.specs.Served as served
use Rattle.vhost_c_backend.specs.declared.replies.Form.{Form}
use Rattle.vhost_c_backend.specs.declared.served.Served.{Served}
use Rattle.vhost_c_joined.specs.Wire.{IsTold, Stops}
use Rattle.vhost_c_joined.proofs.Pieces.{come-on, told-over, all-over}
use Rattle.vhost_c_joined.proofs.wire.carry_request.Goals as goal

-- how much is missing is told as at first, and no call is to be replied to
abbrev Kept : Type 0
Kept = Option (Pending PlainHandle) × List ℕ × Service × ℕ × Form

memory-same : (old new : Served) → (served.view new).rest ≡ (served.view old).rest → served.remembers new ≡ served.remembers old
memory-same old new same = ap {A = Kept} (λ k. session_of k.2.session) same

idle-same : (old new : Served) → (served.view new).rest ≡ (served.view old).rest → served.has_call old ≡ false → served.has_call new ≡ false
idle-same old new same idle = ap {A = Kept} (λ k. is_some k.0) same ∙ idle

told-same : (text : List ℕ) (old new : Served) → (served.view new).rest ≡ (served.view old).rest → (text ≡ []) ⊎ IsTold text (missing_by (heard_in (served.remembers old))) → (text ≡ []) ⊎ IsTold text (missing_by (heard_in (served.remembers new)))
told-same text old new same told = subst {A = Session} (λ k. (text ≡ []) ⊎ IsTold text (missing_by (heard_in k))) (sym (memory-same old new same)) told

missing-same : (old new : Served) (n : ℕ) → (served.view new).rest ≡ (served.view old).rest → served.has_call old ≡ false → n ≡ served.missing_of new → n ≡ 0 → missing_by (heard_in (served.remembers old)) new.incoming ≡ 0
missing-same old new n same idle is none =
    ap {A = Session} (λ k. missing_by (heard_in k) new.incoming) (sym (memory-same old new same)) ∙ sym (ap (λ b. if b then 0 else served.missing_of_request new) (idle-same old new same idle)) ∙ sym is ∙ none

pub returns-then-missing-eq0 : goal.returns-then-missing-eq0
returns-then-missing-eq0 c hs text told idle on =
    let so = c.pieces.invariant.coming hs text told idle on in
    told-over (missing_by (heard_in (served.remembers c.args.to.now))) hs text _ _ _ _ _ told so (missing-same c.args.to.now c.pieces.to _ so.moves.waits.rest idle c.missing-missing.ensures.missing c.if-missing-eq0.true)

pub returns-in-Err : goal.returns-in-Err
returns-in-Err c hs text told idle on =
    let so = c.pieces.invariant.coming hs text told idle on in
    subst {A = Session} (λ k. Stops (missing_by (heard_in k)) text c.in-Err.halt) (memory-same c.args.to.now c.pieces.to so.moves.waits.rest)
    (c.in-Err.ensures hs text (told-same text c.args.to.now c.pieces.to so.moves.waits.rest told) (idle-same c.args.to.now c.pieces.to so.moves.waits.rest idle) so.on)

pub pieces-preserved : goal.pieces-preserved
pieces-preserved c = record {
  coming = λ hs text told idle on.
      let so = c.pieces.invariant.coming hs text told idle on in
      come-on (missing_by (heard_in (served.remembers c.pieces.to))) hs text _ _ _ _ _ _ _ _ refl so (c.in-Ok.ensures hs text (told-same text c.args.to.now c.pieces.to so.moves.waits.rest told) (idle-same c.args.to.now c.pieces.to so.moves.waits.rest idle) so.on);
}

pub returns : goal.returns
returns c hs text told idle on = all-over (missing_by (heard_in (served.remembers c.args.to.now))) hs text _ _ _ _ _ (omega (arith, c.pieces-test.false)) told (c.pieces.invariant.coming hs text told idle on)
