-- Bytes behind those that wait.
use Rattle.std.proofs.Common.{rules, ◌+◌, ◌-◌, ◌++◌, List, ℕ, length, take, drop, ap, ◌∙◌}
use Rattle.std.proofs.lemmas.List.{with_items_is, places}
use borrow.Rule.Slice.PartMut.{post_of}
use Rattle.vhost_connection.proofs.Waited.{put-as}
use Rattle.vhost_connection.proofs.buffer.ReadAhead.put.Goals as goal

pub returns-clause-added : goal.returns-clause-added
returns-clause-added c = λ on.
    let a = c.args.self.now in
    let n = length c.args.bytes.now in
    let lent = c.deref_mut.result.now in
    let rest = post_of a.end (a.end + n - a.end) lent in
    ap (λ (xs : List ℕ). take (a.end + n - a.start) (drop a.start xs)) (with_items_is a.buffer (take a.end lent ++ (c.copy_from_slice.new.self ++ rest)) (search (rules, places)))
    ∙ put-as a.buffer.items lent c.args.bytes.now c.copy_from_slice.new.self rest a.start a.end c.deref_mut.ensures.value c.copy_from_slice.ensures.after a.order a.within
