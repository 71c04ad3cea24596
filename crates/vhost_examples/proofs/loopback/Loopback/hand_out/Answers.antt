use Rattle.std.proofs.Common.{◌≡◌, ◌-◌, ◌≤◌, length, take, drop, ap, sym, ◌∙◌, arith}
use Rattle.std.proofs.lemmas.List.{length-drop, length-take, take_all}
use Rattle.vhost_examples.proofs.Handing.{hands_front}
use Rattle.vhost_examples.proofs.loopback.Loopback.hand_out.Goals as goal

-- src/loopback.rt:62:5
pub returns-clause-front : goal.returns-clause-front
returns-clause-front c =
    let gone = c.self.inside.gone in
    let count = c.min-count.result in
    let all = c.deref.result.now in
    let within : length (drop gone all) ≤ length all - gone = omega (arith, length-drop gone all) in
    let copy = c.copy_from_slice.ensures.after ∙ ap (take count) (take_all _ (drop gone all) within) ∙ ap (λ bytes. take count (drop gone bytes)) c.deref.ensures.value in
    let len : length c.copy_from_slice.new.self ≡ count = omega (arith, c.copy_from_slice.auto.self, length-take count c.args.room.now, c.min-count.ensures) in
    sym c.self.view_is ∙ hands_front c.self.inside.bytes.items c.args.room.now c.copy_from_slice.new.self gone count copy len
