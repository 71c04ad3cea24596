use Rattle.std.proofs.Common.{◌++◌, ◌∷◌, [], map, take, drop, arith, ap, sym, ◌∙◌}
use Rattle.std.proofs.lemmas.List.{drop-drop, length-drop}
use Rattle.vhost_protocol.specs.Stream.{carrying}
use Rattle.vhost_promises.specs.Rings.{sent_cells, bytes_behind}
use Rattle.vhost_promises.proofs.Carrying.{sent-more, behind-more, bytes-from}
use Rattle.vhost_promises.proofs.rings.send_all.Goals as goal

pub loop-i-preserved : goal.loop-i-preserved
loop-i-preserved c =
    let now = c.loop-i.invariant in
    let n = c.send_part-count.result in
    let bytes = c.args.bytes.now in
    let hs = map (λ h. h.now) c.args.handles.now in
    let counts = c.loop-i.counts.items in
    let items = c.push_reserved.ensures.items ∙ ap (λ ns. ns ++ n ∷ []) c.reserve.ensures.items in record {
      done = omega (arith, now.done, c.send_part-count.ensures.within, length-drop c.loop-i.done bytes);
      ring = c.send_part-count.ensures.ring ∙ now.ring;
      sent =
          c.send_part-count.ensures.sent
          ∙ ap (λ bs. c.loop-i.link.sent ++ carrying hs (take n bs)) (bytes-from c.loop-i.done bytes)
          ∙ ap (λ cs. cs ++ carrying hs (take n (drop c.loop-i.done bytes))) now.sent
          ∙ ap (λ bs. sent_cells hs bytes counts ++ carrying hs (take n bs)) now.rest
          ∙ sym (sent-more hs bytes counts n)
          ∙ ap (sent_cells hs bytes) (sym items);
      rest = sym (drop-drop n c.loop-i.done bytes) ∙ ap (drop n) now.rest ∙ sym (behind-more bytes counts n) ∙ ap (bytes_behind bytes) (sym items);
    }
