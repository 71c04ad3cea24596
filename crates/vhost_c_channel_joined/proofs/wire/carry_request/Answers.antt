-- A piece more came over, or nothing is missing.
use Rattle.std.proofs.Common.{◌≡◌, ◌∙◌, ℕ, false, refl, sym, ap, arith}
use Rattle.std.specs.Prelude.{is_some, if◌then◌else◌}
use Rattle.vhost_message.specs.BackendReq.{backend_request_of}
use Rattle.vhost_c_common.specs.Incoming.{missing_by}
use Rattle.vhost_c_channel.specs.Serving as serving
use Rattle.vhost_c_channel.specs.declared.serving.ChannelServer.{ChannelServer}
use Rattle.vhost_c_channel.proofs.Change.{Kept}
use Rattle.vhost_c_channel_joined.proofs.Pieces.{come-on, moved-on, told-over, all-over}
use Rattle.vhost_c_channel_joined.proofs.wire.carry_request.Goals as goal

-- no call is to be replied to, as at first
idle-same : (old new : ChannelServer) → (serving.view new).rest ≡ (serving.view old).rest → serving.has_call old ≡ false → serving.has_call new ≡ false
idle-same old new same idle = ap (λ (k : Kept). is_some k.1) same ∙ idle

missing-same : (old new : ChannelServer) (n : ℕ) → (serving.view new).rest ≡ (serving.view old).rest → serving.has_call old ≡ false → n ≡ serving.missing_of new → n ≡ 0 → missing_by backend_request_of new.incoming ≡ 0
missing-same old new n same idle is none = sym (ap (λ b. if b then 0 else missing_by backend_request_of new.incoming) (idle-same old new same idle)) ∙ sym is ∙ none

pub returns-then-missing-eq0 : goal.returns-then-missing-eq0
returns-then-missing-eq0 c cells told idle on =
    let so = c.pieces.invariant.coming cells told idle on in
    told-over (missing_by backend_request_of) cells _ _ _ _ _ told so (missing-same c.args.to.now c.pieces.to _ so.moves.waits.rest idle c.missing-missing.ensures.missing c.if-missing-eq0.true)

pub returns-in-Err : goal.returns-in-Err
returns-in-Err c cells told idle on =
    let so = c.pieces.invariant.coming cells told idle on in
    let stops = c.in-Err.ensures cells told (idle-same c.args.to.now c.pieces.to so.moves.waits.rest idle) so.on in
    (stops.0, moved-on _ _ _ _ _ _ so.moves stops.1)

pub pieces-preserved : goal.pieces-preserved
pieces-preserved c = record {
  coming = λ cells told idle on.
      let so = c.pieces.invariant.coming cells told idle on in
      come-on (missing_by backend_request_of) cells _ _ _ _ _ _ _ _ refl so (c.in-Ok.ensures cells told (idle-same c.args.to.now c.pieces.to so.moves.waits.rest idle) so.on);
}

pub returns : goal.returns
returns c cells told idle on = all-over (missing_by backend_request_of) cells _ _ _ _ _ (omega (arith, c.pieces-test.false)) told (c.pieces.invariant.coming cells told idle on)
