-- A piece more came over, or nothing is missing.
use Rattle.std.proofs.Common.{◌≡◌, ◌⊎◌, ◌∙◌, ℕ, List, [], Option, refl, sym, ap, subst, arith}
use Rattle.vhost_protocol.specs.Reverse.{Backend}
use Rattle.vhost_protocol.specs.Stream.{Cell}
use Rattle.vhost_link.specs.declared.plain.PlainHandle.{PlainHandle}
use Rattle.vhost_c_channel.specs.Asking as asking
use Rattle.vhost_c_channel.specs.Asking.{Head}
use Rattle.vhost_c_channel_joined.specs.Wire.{IsTold, Stops}
use Rattle.vhost_c_channel.specs.declared.asking.Channel.{Channel}
use Rattle.vhost_c_channel_joined.proofs.Pieces.{come-on, moved-on, told-over, all-over}
use Rattle.vhost_c_channel_joined.proofs.wire.carry_reply.Goals as goal

-- what is awaited is as at first
abbrev Kept : Type 0
Kept = Backend × Option (Option Head)

told-same : (cells : List (Cell PlainHandle)) (old new : Channel) → (asking.view new).rest ≡ (asking.view old).rest → (cells ≡ []) ⊎ IsTold cells (asking.missing_for old.asked) → (cells ≡ []) ⊎ IsTold cells (asking.missing_for new.asked)
told-same cells old new same told = subst {A = Kept} (λ k. (cells ≡ []) ⊎ IsTold cells (asking.missing_for k.1)) (sym same) told

missing-same : (old new : Channel) (n : ℕ) → (asking.view new).rest ≡ (asking.view old).rest → n ≡ asking.missing_of new → n ≡ 0 → asking.missing_for old.asked new.incoming ≡ 0
missing-same old new n same is none = ap {A = Kept} (λ k. asking.missing_for k.1 new.incoming) (sym same) ∙ sym is ∙ none

pub returns-then-missing-eq0 : goal.returns-then-missing-eq0
returns-then-missing-eq0 c cells told on =
    let so = c.pieces.invariant.coming cells told on in
    told-over (asking.missing_for c.args.to.now.asked) cells _ _ _ _ _ told so (missing-same c.args.to.now c.pieces.to _ so.moves.waits.rest c.missing-missing.ensures.missing c.if-missing-eq0.true)

pub returns-in-Err : goal.returns-in-Err
returns-in-Err c cells told on =
    let so = c.pieces.invariant.coming cells told on in
    let stops = c.in-Err.ensures cells (told-same cells c.args.to.now c.pieces.to so.moves.waits.rest told) so.on in
    (subst {A = Kept} (λ k. Stops (asking.missing_for k.1) cells c.in-Err.halt) so.moves.waits.rest stops.0, moved-on _ _ _ _ _ _ so.moves stops.1)

pub pieces-preserved : goal.pieces-preserved
pieces-preserved c = record {
  coming = λ cells told on.
      let so = c.pieces.invariant.coming cells told on in
      come-on (asking.missing_for c.pieces.to.asked) cells _ _ _ _ _ _ _ _ refl so (c.in-Ok.ensures cells (told-same cells c.args.to.now c.pieces.to so.moves.waits.rest told) so.on);
}

pub returns : goal.returns
returns c cells told on = all-over (asking.missing_for c.args.to.now.asked) cells _ _ _ _ _ (omega (arith, c.pieces-test.false)) told (c.pieces.invariant.coming cells told on)
