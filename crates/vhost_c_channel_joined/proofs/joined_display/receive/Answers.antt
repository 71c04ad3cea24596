-- A piece more came.
use Rattle.std.proofs.Common.{◌≡◌, ◌≤◌, ◌+◌, ◌-◌, ℕ, List, length, min, take, drop, ap, arith}
use Rattle.vhost_c_channel_joined.proofs.Replying.{comes-on}
use Rattle.vhost_c_channel_joined.proofs.joined_display.receive.Goals as goal

few : (at most missing len least k : ℕ) → least ≡ min missing (len - at) → most ≤ least → missing ≡ k → most ≤ k
few at most missing len least k is less same = omega (arith, is, less, same)

piece-is : (reply : List ℕ) (at most : ℕ) → take (at + most - at) (drop at reply) ≡ take most (drop at reply)
piece-is reply at most = ap (λ n. take n (drop at reply)) (let e : at + most - at ≡ most = omega arith in e)

pub pieces-preserved : goal.pieces-preserved
pieces-preserved c =
    let near : c.pieces.at + c.piece_at-most.result ≤ length c.args.reply.now = omega (arith, c.min.ensures, c.piece_at-most.ensures.few, c.pieces.invariant.within) in
    record {
      within = near;
      coming = λ start. comes-on c.args.reply.now c.args.session.now c.pieces.at c.piece_at-most.result c.pieces.session c.receive.new.self (c.pieces.invariant.coming start) _ (piece-is c.args.reply.now c.pieces.at c.piece_at-most.result) c.piece_at-most.ensures.some
          (few c.pieces.at c.piece_at-most.result _ (length c.args.reply.now) _ _ c.min.ensures c.piece_at-most.ensures.few c.missing-missing.ensures.missing) near c.in-Ok.ensures.received;
    }
