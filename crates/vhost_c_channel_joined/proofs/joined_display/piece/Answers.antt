-- A piece comes to the display.
use Rattle.std.proofs.Common.{◌<◌, length, min, take, sym, ap, ◌∙◌, arith}
use Rattle.vhost_c_channel_joined.proofs.JoiningDisplay.{piece-fds, piece-handles, piece-out, shows-halts, take-capped}
use Rattle.vhost_c_channel_joined.proofs.joined_display.piece.Goals as goal

pub returns-in-Ok-show-clause-sent : goal.returns-in-Ok-show-clause-sent
returns-in-Ok-show-clause-sent c are =
    let some : 0 < length c.hand_out.new.bytes = omega (arith, c.hand_out.auto.bytes, c.requires) in
    let moved : 0 < c.in-Ok.count = omega (arith, c.if-count-eq0.false) in
    piece-out c.args.session.now c.hand_out.new.self c.hand_out.new.bytes c.hand_out.new.fds _ are some c.in-Ok.ensures.out c.hand_out.ensures.rest moved c.args.display.now.pending c.show.new.display.pending _ (take-capped _ _ _ c.min-count.ensures)
    (c.in-Ok-show.ensures _ (piece-fds c.args.session.now c.hand_out.new.self c.hand_out.new.bytes c.hand_out.new.fds _ are some c.in-Ok.ensures.out c.hand_out.ensures.rest moved _ (c.min-fd_count.ensures ∙ ap (λ n. min c.in-Ok.fd_count n) (sym c.hand_out.auto.fds)))
    (piece-handles c.args.session.now c.hand_out.new.self c.hand_out.new.bytes c.hand_out.new.fds _ are some c.in-Ok.ensures.out c.hand_out.ensures.rest moved))

pub returns-in-Err-show-clause-sent : goal.returns-in-Err-show-clause-sent
returns-in-Err-show-clause-sent c are =
    let some : 0 < length c.hand_out.new.bytes = omega (arith, c.hand_out.auto.bytes, c.requires) in
    let moved : 0 < c.in-Ok.count = omega (arith, c.if-count-eq0.false) in
    shows-halts c.in-Ok.ensures.out.handles (take c.min-count.result c.hand_out.new.bytes) c.args.display.now.pending c.show.new.display.pending c.args.session.now c.hand_out.new.self c.in-Err-show.halt
    (c.in-Err-show.ensures _ (piece-fds c.args.session.now c.hand_out.new.self c.hand_out.new.bytes c.hand_out.new.fds _ are some c.in-Ok.ensures.out c.hand_out.ensures.rest moved _ (c.min-fd_count.ensures ∙ ap (λ n. min c.in-Ok.fd_count n) (sym c.hand_out.auto.fds)))
    (piece-handles c.args.session.now c.hand_out.new.self c.hand_out.new.bytes c.hand_out.new.fds _ are some c.in-Ok.ensures.out c.hand_out.ensures.rest moved))
