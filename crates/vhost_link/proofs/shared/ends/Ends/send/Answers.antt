use Rattle.std.proofs.Common.{◌<◌, length, take, arith, ◌∙◌, ap}
use Rattle.std.proofs.lemmas.List.{length-take}
use Rattle.vhost_link.specs.Pieces.{waiting}
use Rattle.rtrb.specs.Ring.{sent}
use Rattle.vhost_link.proofs.Piecing.{waiting-bytes}
use Rattle.vhost_link.proofs.Ringing.{taken}
use Rattle.vhost_link.proofs.shared.ends.Ends.send.Goals as goal

pub invariant_of-self-2 : goal.invariant_of-self-2
invariant_of-self-2 c =
    let bytes = take c.min-count.result c.args.bytes.now in
    let some : 0 < length bytes = omega (arith, c.min-count.ensures, c.requires.bytes, c.if-free-handles.false, length-take c.min-count.result c.args.bytes.now) in (
      ap waiting c.push_bytes.ensures.sent ∙ waiting-bytes (sent c.push_handles.new.output) bytes some,
      c.self.invariant.1,
      c.self.invariant.2,
      c.self.invariant.3,
    )

pub returns-clause-law : goal.returns-clause-law
returns-clause-law c =
    let n = c.min-count.result in
    let bytes = take n c.args.bytes.now in
    let count = length-take n c.args.bytes.now in (
      omega (arith, c.min-count.ensures, c.requires.bytes, c.if-free-handles.false),
      omega (arith, c.min-count.ensures),
      taken c.self.inside.output c.slots-free.new.self c.push_handles.new.output c.push_bytes.new.output c.self.inside.input c.self.inside.kept.items c.args.self.now c.args.handles.now bytes c.self.view_is c.self.invariant.0 (omega (arith, c.min-count.ensures, c.requires.bytes, c.if-free-handles.false, count)) c.slots-free.ensures.looked c.push_handles.ensures.ring c.push_handles.ensures.sent c.push_handles.ensures.room c.push_bytes.ensures.ring c.push_bytes.ensures.sent c.push_bytes.ensures.room,
    )
